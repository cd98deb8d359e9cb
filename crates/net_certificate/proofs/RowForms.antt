-- The numbers of rows are within 128 bits, and few; and the first line of an item.
use Rattle.std.proofs.Common.{◌≤◌, ◌<◌, ◌^◌, ℕ, ℤ, pos, [], ◌∷◌, length, All, unsigned_abs, arith, refl, ◌≡◌, List, get_or, drop, ap, ◌++◌, Some, sym, ◌∙◌}
use Rattle.std.proofs.lemmas.List.Elements.{All-cons, All-append, All-nil}
use Rattle.std.{proofs.Math.Nat.div-le_self, proofs.Math.Nat.mod-le, proofs.lemmas.List.length-append, proofs.lemmas.List.append_cancel_left}
use Rattle.std.{proofs.lemmas.Bool.eqb-true, specs.Prelude.codes, specs.Fmt.signed_decimal}
use Rattle.integers.specs.Vectors.{Vector, IsWithin, parts, HasDimension}
use Rattle.periodic_net.specs.Graph.{Vertex, vertex}
use Rattle.line_text.proofs.CallerLemmas.{number_has_no, row_has_no, sum_has_no, same_number, same_row_numbers}
use Rattle.line_text.specs.{Numbers.IsWide, Lines.HasNo}
use Rattle.graph_rows.proofs.CallerLemmas.{short_wide, number_at, same_pos}
use Rattle.map_check.specs.Conditions.{most_part, most_images, IsImage, most_period, IsShift}
use Rattle.map_check.specs.Layouts.{cell_at, vertex_at}
use Rattle.net_certificate.specs.Rows.{vertex_numbers, image_numbers, title_row, pair_text, reason_text, reason_row, map_word, map_row, period_row}
use Rattle.net_certificate.specs.Rows.{image_row, base_row, end_row, row_line}
use Rattle.net_certificate.specs.declared.items.NoMap.TheVariants.{Different, Long, Wide}
use Rattle.net_certificate.specs.Pairs.{heading_text, heading_row, IsToldHeading}
use Rattle.net_certificate.specs.{declared.items.NoMap.NoMap, Items.IsTold, declared.reading.Heading.Heading, declared.reading.Heading.TheVariants.Reason}
use Rattle.net_certificate.specs.{declared.reading.Heading.TheVariants.Map}

part_wide : (x : ℤ) → unsigned_abs x ≤ most_part → IsWide x
part_wide x k = search arith

-- the parts of a vector
pub parts_wide : (d : ℕ) (v : Vector) → IsWithin most_part v → All IsWide (parts d v)
parts_wide d v small = grind (arith, part_wide)

-- the numbers of a vertex
pub vertex_wide : (d : ℕ) (w : Vertex) → w.over < 2 ^ 32 → IsWithin most_part w.cell → All IsWide (vertex_numbers d w)
vertex_wide d w over small = All-cons IsWide (pos w.over) (parts d w.cell) (short_wide w.over over) (parts_wide d w.cell small)

-- the cells of the box have parts no greater than their place
cell_within : (d m i : ℕ) → i ≤ most_images → IsWithin most_part (cell_at d m i)
cell_within d m i few = omega (arith, div-le_self, mod-le)

-- the numbers of a vertex of the box
pub place_wide : (d m i : ℕ) → i ≤ most_images → All IsWide (vertex_numbers d (vertex_at d m i))
place_wide d m i few = grind (arith, div-le_self, mod-le, vertex_wide, cell_within)

-- the numbers of a vertex of the box and of its image
pub image_wide : (d e m i n : ℕ) (x : Vertex) → i ≤ most_images → n < 2 ^ 32 → IsImage e n x → All IsWide (image_numbers d e (vertex_at d m i) x)
image_wide d e m i n x few vertices is = All-append IsWide (vertex_numbers d (vertex_at d m i)) (vertex_numbers e x) (place_wide d m i few)
    (vertex_wide e x (let to = is.to in omega (arith, vertices, to)) is.small)

pub parts_few : (d : ℕ) (v : Vector) → length (parts d v) ≤ 3
parts_few d v = search arith

vertex_few : (d : ℕ) (w : Vertex) → length (vertex_numbers d w) ≤ 4
vertex_few d w = let few = parts_few d w.cell in omega (arith, few)

pub image_few : (d e : ℕ) (w x : Vertex) → length (image_numbers d e w x) ≤ 8
image_few d e w x = search (arith, length-append, vertex_few)

pub one_few : (m : ℕ) → length (pos m ∷ []) ≤ 1
one_few m = omega arith

-- No row has a line feed.

pub title_none : HasNo 10 title_row
unfolding title_row
title_none = (refl, (refl, (refl, (refl, (refl, (refl, (refl, (refl, (refl, (refl, tt))))))))))

pair_none : (k : ℕ) → k < 2 ^ 32 → HasNo 10 (pair_text k)
unfolding pair_text
pair_none k short = sum_has_no 10 (codes "pair ") (signed_decimal (pos k)) (refl, (refl, (refl, (refl, (refl, tt)))))
    (number_has_no 10 (omega arith) (pos k) (short_wide k short))

pub told_wide : (n : ℕ) → n < 2 ^ 64 → IsWide (pos n)
told_wide n h = record { sfits = omega (arith, h) }

reason_none : (why : NoMap) → IsTold why → HasNo 10 (reason_text why)
unfolding reason_text
reason_none Different is = (refl, (refl, (refl, (refl, (refl, (refl, (refl, (refl, (refl, (refl, tt))))))))))
reason_none (Long n) is = sum_has_no 10 (codes " long entries=") (signed_decimal (pos n))
    (refl, (refl, (refl, (refl, (refl, (refl, (refl, (refl, (refl, (refl, (refl, (refl, (refl, (refl, tt))))))))))))))
    (number_has_no 10 (omega arith) (pos n) (told_wide n is))
reason_none (Wide z) is = sum_has_no 10 (codes " wide value=") (signed_decimal z)
    (refl, (refl, (refl, (refl, (refl, (refl, (refl, (refl, (refl, (refl, (refl, (refl, tt)))))))))))) (number_has_no 10 (omega arith) z is)

pub reason_row_none : (k : ℕ) (why : NoMap) → k < 2 ^ 32 → IsTold why → HasNo 10 (reason_row k why)
reason_row_none k why short is = sum_has_no 10 (pair_text k) (reason_text why) (pair_none k short) (reason_none why is)

map_word_none : HasNo 10 map_word
unfolding map_word
map_word_none = (refl, (refl, (refl, (refl, tt))))

pub map_row_none : (k : ℕ) → k < 2 ^ 32 → HasNo 10 (map_row k)
map_row_none k short = sum_has_no 10 (pair_text k) map_word (pair_none k short) map_word_none

pub one_wide : (k : ℕ) → k ≤ most_period → All IsWide (pos k ∷ [])
one_wide k few = All-cons IsWide (pos k) [] (short_wide k (omega (arith, few))) (All-nil IsWide)

pub period_none : (m : ℕ) → m ≤ most_period → HasNo 10 (period_row m)
unfolding period_row
period_none m few = row_has_no (codes "period") (pos m ∷ []) (refl, (refl, (refl, (refl, (refl, (refl, tt)))))) (one_wide m few)

pub image_none : (d e m i n : ℕ) (x : Vertex) → i ≤ most_images → n < 2 ^ 32 → IsImage e n x → HasNo 10 (image_row d e (vertex_at d m i) x)
unfolding image_row
image_none d e m i n x few vertices is = row_has_no (codes "image") (image_numbers d e (vertex_at d m i) x) (refl, (refl, (refl, (refl, (refl, tt)))))
    (image_wide d e m i n x few vertices is)

pub base_none : (e : ℕ) (v : Vector) → IsShift e v → HasNo 10 (base_row e v)
unfolding base_row
base_none e v is = row_has_no (codes "base") (parts e v) (refl, (refl, (refl, (refl, tt)))) (parts_wide e v is.small)

pub end_none : HasNo 10 end_row
unfolding end_row
end_none = (refl, (refl, (refl, tt)))

-- A row is that of one value alone.

abbrev second : List ℕ → ℕ
second bytes = get_or bytes 1 0

pub same_reason_text : (a b : NoMap) → IsTold a → IsTold b → reason_text a ≡ reason_text b → a ≡ b
unfolding reason_text
same_reason_text Different Different ha hb e = refl
same_reason_text (Long m) (Long n) ha hb e =
    ap Long (same_pos m n (same_number (pos m) (pos n) (told_wide m ha) (told_wide n hb)
    (append_cancel_left (codes " long entries=") (signed_decimal (pos m)) (signed_decimal (pos n)) e)))
same_reason_text (Wide y) (Wide z) ha hb e = ap Wide (same_number y z ha hb (append_cancel_left (codes " wide value=") (signed_decimal y) (signed_decimal z) e))
same_reason_text a b ha hb e = let byte = ap second e in absurd (omega (arith, byte))

pub same_reason : (k : ℕ) (a b : NoMap) → IsTold a → IsTold b → reason_row k a ≡ reason_row k b → a ≡ b
same_reason k a b ha hb e = same_reason_text a b ha hb (append_cancel_left (pair_text k) (reason_text a) (reason_text b) e)

pub no_reason_text : (why : NoMap) → reason_text why ≡ map_word → ⊥
unfolding reason_text map_word
no_reason_text why h = search arith

-- a reason is no map
pub no_reason : (k : ℕ) (why : NoMap) → reason_row k why ≡ map_row k → ⊥
no_reason k why e = no_reason_text why (append_cancel_left (pair_text k) (reason_text why) map_word e)

pub same_period : (m n : ℕ) → m ≤ most_period → n ≤ most_period → period_row m ≡ period_row n → m ≡ n
unfolding period_row
same_period m n hm hn e = same_pos m n (ap (number_at 0) (same_row_numbers (codes "period") (pos m ∷ []) (pos n ∷ []) (one_wide m hm) (one_wide n hn) e))

-- a vector of dimension d has these parts alone
pub same_parts : (d : ℕ) (v w : Vector) → HasDimension d v → HasDimension d w → parts d v ≡ parts d w → v ≡ w
same_parts d v w hv hw same = search (arith, eqb-true)

pub same_image : (d e m i n : ℕ) (x y : Vertex) → i ≤ most_images → n < 2 ^ 32 → IsImage e n x → IsImage e n y
    → image_row d e (vertex_at d m i) x ≡ image_row d e (vertex_at d m i) y → x ≡ y
unfolding image_row
same_image d e m i n x y few vertices hx hy same =
    let w = vertex_at d m i in
    let numbers = same_row_numbers (codes "image") (image_numbers d e w x) (image_numbers d e w y) (image_wide d e m i n x few vertices hx)
    (image_wide d e m i n y few vertices hy) same in
    let images : vertex_numbers e x ≡ vertex_numbers e y = append_cancel_left (vertex_numbers d w) (vertex_numbers e x) (vertex_numbers e y) numbers in
    let over : x.over ≡ y.over = same_pos x.over y.over (ap (number_at 0) images) in
    let cell : x.cell ≡ y.cell = same_parts e x.cell y.cell hx.flat hy.flat (ap (drop 1) images) in
    λ j. vertex (over j) (cell j)

pub same_base : (e : ℕ) (v w : Vector) → IsShift e v → IsShift e w → base_row e v ≡ base_row e w → v ≡ w
unfolding base_row
same_base e v w hv hw same = same_parts e v w hv.dimension hw.dimension
    (same_row_numbers (codes "base") (parts e v) (parts e w) (parts_wide e v hv.small) (parts_wide e w hw.small) same)

pub is_long : (text digits : List ℕ) (z : ℤ) (n : ℕ) → text ≡ codes " long entries=" ++ digits → digits ≡ signed_decimal z → z ≡ pos n
    → text ≡ reason_text (Long n)
unfolding reason_text
is_long text digits z n one two three = one ∙ ap (λ l. codes " long entries=" ++ l) (two ∙ ap signed_decimal three)

pub long_digits : (text digits : List ℕ) (n : ℕ) → text ≡ codes " long entries=" ++ digits → text ≡ reason_text (Long n) → digits ≡ signed_decimal (pos n)
unfolding reason_text
long_digits text digits n one two = append_cancel_left (codes " long entries=") digits (signed_decimal (pos n)) (sym one ∙ two)

-- the number that was read is the one that is reported
pub long_number : (text digits : List ℕ) (z : ℤ) (n : ℕ) → text ≡ codes " long entries=" ++ digits → digits ≡ signed_decimal z → IsWide z → n < 2 ^ 64
    → text ≡ reason_text (Long n) → z ≡ pos n
long_number text digits z n one two wide short three = same_number z (pos n) wide (told_wide n short) (sym two ∙ long_digits text digits n one three)

pub no_long : (text : List ℕ) (n : ℕ) → ((rest : List ℕ) → text ≡ codes " long entries=" ++ rest → ⊥) → text ≡ reason_text (Long n) → ⊥
unfolding reason_text
no_long text n none e = none (signed_decimal (pos n)) e

pub is_wide : (text digits : List ℕ) (z : ℤ) → text ≡ codes " wide value=" ++ digits → digits ≡ signed_decimal z → text ≡ reason_text (Wide z)
unfolding reason_text
is_wide text digits z one two = one ∙ ap (λ l. codes " wide value=" ++ l) two

pub wide_digits : (text digits : List ℕ) (z : ℤ) → text ≡ codes " wide value=" ++ digits → text ≡ reason_text (Wide z) → digits ≡ signed_decimal z
unfolding reason_text
wide_digits text digits z one two = append_cancel_left (codes " wide value=") digits (signed_decimal z) (sym one ∙ two)

pub no_wide : (text : List ℕ) (z : ℤ) → ((rest : List ℕ) → text ≡ codes " wide value=" ++ rest → ⊥) → text ≡ reason_text (Wide z) → ⊥
unfolding reason_text
no_wide text z none e = none (signed_decimal z) e

pub is_different : (text : List ℕ) → text ≡ codes " different" → text ≡ reason_text Different
unfolding reason_text
is_different text e = e

pub different_is : (text : List ℕ) → text ≡ reason_text Different → text ≡ codes " different"
unfolding reason_text
different_is text e = e

pub map_is : (text : List ℕ) → text ≡ codes " map" → text ≡ map_word
unfolding map_word
map_is text e = e

pub is_map : (text : List ℕ) → text ≡ map_word → text ≡ codes " map"
unfolding map_word
is_map text e = e

-- a reason is reported by its text
pub reason_told : (text : List ℕ) (a b : NoMap) → IsTold a → IsTold b → text ≡ reason_text a → text ≡ reason_text b → Some a ≡ Some b
reason_told text a b ha hb one two = ap (λ w. Some w) (same_reason_text a b ha hb (sym one ∙ two))

-- so is a map
pub map_told : (text : List ℕ) (h : Heading) → text ≡ map_word → text ≡ heading_text h → Some Map ≡ Some h
map_told text h k l = search (arith, no_reason_text)

pub heading_line : (k : ℕ) (h : Heading) → row_line (heading_row k h) ≡ pair_text k ++ heading_text h
heading_line k h = search arith

pub heading_none : (k : ℕ) (h : Heading) → k < 2 ^ 32 → IsToldHeading h → HasNo 10 (row_line (heading_row k h))
heading_none k h l p = search (arith, reason_row_none, map_row_none)

-- what follows the number of a graph on its first line
pub heading_left : (line text : List ℕ) (k : ℕ) (h : Heading) → line ≡ pair_text k ++ text → line ≡ row_line (heading_row k h) → text ≡ heading_text h
heading_left line text k h one two = append_cancel_left (pair_text k) text (heading_text h) (sym one ∙ two ∙ heading_line k h)

-- the reason of this text, if it is a reason
pub heading_told : (text : List ℕ) (a : NoMap) (h : Heading) → IsTold a → text ≡ reason_text a → IsToldHeading h → text ≡ heading_text h
    → Some (Reason a) ≡ Some h
heading_told text a h k l p q = search (arith, same_reason_text, no_reason_text)

-- a text that is none of these is no reason
pub no_reason_at : (text : List ℕ) → (text ≡ codes " different" → ⊥) → ((n : ℕ) → n < 2 ^ 64 → text ≡ reason_text (Long n) → ⊥)
    → ((z : ℤ) → IsWide z → text ≡ reason_text (Wide z) → ⊥)
    → (why : NoMap) → IsTold why → text ≡ reason_text why → ⊥
no_reason_at text h k l why p q = search (arith, different_is)

pub no_heading : (text : List ℕ) → (text ≡ codes " map" → ⊥) → ((why : NoMap) → IsTold why → text ≡ reason_text why → ⊥) → (h : Heading) → IsToldHeading h
    → text ≡ heading_text h → ⊥
no_heading text k l h p q = search (arith, is_map)
