-- The numbers of a cell's rows, in the order in which a word spells them, and the coefficients of combinations of the rows.
use Rattle.std.proofs.Common.{◌≡◌, ◌⊎◌, inl, inr, ℕ, ◌≤◌, ◌==◌, Bool, true, false, cond, ℤ, List, [], ◌∷◌, All, length, refl, sym, ap, subst, ◌∙◌, arith}
use Rattle.std.proofs.Common.{suc, ◌<◌, ◌^◌, ◌&&◌, not, nat_lt, pos, negsuc, neg_ℤ, ◌++◌, map, Option, Some, None, ◌≢◌}
use Rattle.std.proofs.lemmas.Bool.{and_parts, cond-true, ltb-false, le-ltb, true≢false}
use Rattle.std.specs.Prelude.{unsigned_abs, IfSome}
use Rattle.std.{proofs.lemmas.List.Elements.All-nil, proofs.lemmas.List.Elements.All-cons, proofs.lemmas.List.append-nil}
use Rattle.std.{proofs.lemmas.Fmt.decimal_is_IsNumeral, proofs.lemmas.Option.none-some, proofs.lemmas.Slice.Eq.bytes_eq-Decides, specs.List.list_all}
use Rattle.std.{specs.Fmt.decimal, specs.Fmt.signed_decimal, specs.Str.Parse.digits_value, specs.Str.Parse.IsNumeral}
use Rattle.integers.specs.Vectors.{Vector, IsWithin, zero_vector, up_vector, HasDimension, times, triple_product}
use Rattle.integers.proofs.vectors.Laws.{times_cancel, flat_sum, base_sum_times}
use Rattle.integers.proofs.vectors.Independence.{coordinates_unique, cramer, products}
use Rattle.integers.{specs.Bases.Base, specs.Bases.base_sum, proofs.vectors.Bounds.fits_from_bound}
use Rattle.periodic_net.specs.Limits.{most_shift}
use Rattle.line_text.{specs.Numbers.IsWide, specs.Numbers.marked_text, specs.Lines.HasNo, proofs.Texts.digits_have_no, proofs.Texts.number_has_no}
use Rattle.net_cover.specs.Cells.{CellView, cell_view, IsWritten, determinant_in, last_row, products_with}
use Rattle.net_cover.specs.CellWords.{comma, joined_text, flat_numbers, space_numbers, cell_numbers, row_in, AreNumbersOf, SpellsCell}
use Rattle.net_cover.specs.Reading.{with_byte, pieces_of, number_of, flat_with, space_with, cell_with, is_small, is_spelled, cell_of}
use Rattle.net_cover.specs.UnitCells.{IsCell}
use Rattle.sublattice.specs.Sublattices.{determinant, index_of, AreFlat, IsCombination}
use Rattle.sublattice.proofs.CallerLemmas.{any_last}

-- the numbers of a cell of dimension 2
pub numbers_flat : (R : CellView) → R.dimension ≡ 2 → cell_numbers R ≡ flat_numbers R.rows
numbers_flat R e = subst (λ (n : ℕ). cell_numbers (record { dimension = n; rows = R.rows }) ≡ flat_numbers R.rows) (sym e) refl

-- of a cell of dimension 3
pub numbers_space : (R : CellView) → R.dimension ≡ 3 → cell_numbers R ≡ space_numbers R.rows
numbers_space R e = subst (λ (n : ℕ). cell_numbers (record { dimension = n; rows = R.rows }) ≡ space_numbers R.rows) (sym e) refl

-- a small number is one of 128 bits
pub small_wide : (z : ℤ) → unsigned_abs z ≤ most_shift → IsWide z
small_wide z h = fits_from_bound z most_shift (omega arith) h

-- three more
wide_row : (v : Vector) (zs : List ℤ) → IsWithin most_shift v → All IsWide zs → All IsWide (v.x ∷ v.y ∷ v.z ∷ zs)
wide_row v zs s h = grind (arith, small_wide)

-- two more
wide_flat_row : (v : Vector) (zs : List ℤ) → IsWithin most_shift v → All IsWide zs → All IsWide (v.x ∷ v.y ∷ zs)
wide_flat_row v zs s h = All-cons IsWide v.x (v.y ∷ zs) (small_wide v.x s.0) (All-cons IsWide v.y zs (small_wide v.y s.1) h)

-- the numbers of a cell have 128 bits
pub numbers_wide : (R : CellView) → IsWritten R → All IsWide (cell_numbers R)
numbers_wide R w = by w.dimension
  where
    by : (R.dimension ≡ 2) ⊎ (R.dimension ≡ 3) → All IsWide (cell_numbers R)
    by (inl e) =
        subst (All IsWide) (sym (numbers_flat R e)) (wide_flat_row R.rows.first (R.rows.second.x ∷ R.rows.second.y ∷ []) w.small.first
        (wide_flat_row R.rows.second [] w.small.second (All-nil IsWide)))
    by (inr e) =
        let z = wide_row R.rows.third [] w.small.third (All-nil IsWide) in
        let y = wide_row R.rows.second (R.rows.third.x ∷ R.rows.third.y ∷ R.rows.third.z ∷ []) w.small.second z in
        subst (All IsWide) (sym (numbers_space R e))
        (wide_row R.rows.first (R.rows.second.x ∷ R.rows.second.y ∷ R.rows.second.z ∷ R.rows.third.x ∷ R.rows.third.y ∷ R.rows.third.z ∷ []) w.small.first y)

-- and there are nine of them at most
pub numbers_few : (R : CellView) → length (cell_numbers R) ≤ 9
numbers_few R = search arith

-- a list of nine numbers is that of its places
nine_places : (zs : List ℤ) → length zs ≡ 9 → space_numbers (cell_view 3 (row_in zs 0) (row_in zs 3) (row_in zs 6)).rows ≡ zs
nine_places (a ∷ b ∷ c ∷ d ∷ e ∷ f ∷ g ∷ h ∷ i ∷ []) l = refl
nine_places zs l = absurd (omega (arith, l))

-- rows of three parts within the limit
abbrev pub AreSmall : Vector → Vector → Vector → Type 0
AreSmall a b c = IsWithin most_shift a × IsWithin most_shift b × IsWithin most_shift c

-- small rows are written
space_written : (a b c : Vector) → AreSmall a b c → IsWritten (cell_view 3 a b c)
space_written a b c s = search arith

-- nine numbers are those of the cell of their rows
pub space_of : (zs : List ℤ) (a b c : Vector) → a ≡ row_in zs 0 → b ≡ row_in zs 3 → c ≡ row_in zs 6 → length zs ≡ 9 → (R : CellView) → R ≡ cell_view 3 a b c
    → AreSmall a b c
    → AreNumbersOf zs R
space_of zs a b c ea eb ec l R e s = subst (AreNumbersOf zs) (sym e) (record {
  written = space_written a b c s;
  are = sym (nine_places zs l) ∙ (λ i. space_numbers (cell_view 3 (back ea i) (back eb i) (back ec i)).rows);
})
  where
    back : {v w : Vector} → v ≡ w → w ≡ v
    back e = sym e

-- a comma before the numbers of a cell
after_comma : (R : CellView) → IsWritten R → comma ∷ joined_text (cell_numbers R) ≡ marked_text comma (cell_numbers R)
after_comma R w = search (arith, numbers_flat, numbers_space)

-- the numbers of a cell stand in the word that spells it, with a comma before it
pub spelled_after : (word : List ℕ) (R : CellView) → SpellsCell word R → comma ∷ word ≡ marked_text comma (cell_numbers R)
spelled_after word R s = ap (λ (bytes : List ℕ). comma ∷ bytes) s.text ∙ after_comma R s.written

-- The cell that is read from a word is the one that it spells.

-- a piece without commas, and a comma after it
piece_first : (ds rest : List ℕ) → HasNo comma ds → pieces_of (ds ++ comma ∷ rest) ≡ ds ∷ pieces_of rest
piece_first [] rest h = refl
piece_first (b ∷ ds) rest h =
    ap (λ (t : Bool). cond t ([] ∷ pieces_of (ds ++ comma ∷ rest)) (with_byte b (pieces_of (ds ++ comma ∷ rest)))) h.0
    ∙ ap (with_byte b) (piece_first ds rest h.1)

-- a piece without commas alone
piece_alone : (ds : List ℕ) → HasNo comma ds → pieces_of ds ≡ ds ∷ []
piece_alone [] h = refl
piece_alone (b ∷ ds) h = ap (λ (t : Bool). cond t ([] ∷ pieces_of ds) (with_byte b (pieces_of ds))) h.0 ∙ ap (with_byte b) (piece_alone ds h.1)

-- all of them are small
abbrev AreAllSmall : List ℤ → Type 0
AreAllSmall [] = Unit {0}
AreAllSmall (z ∷ zs) = (unsigned_abs z ≤ most_shift) × AreAllSmall zs

-- digits are read as their number
digits_read : (n : ℕ) → n < 2 ^ 64 → number_of (decimal n) ≡ pos n
digits_read n l = by (decimal n) (decimal_is_IsNumeral n l).0 (decimal_is_IsNumeral n l).1
  where
    by : (ds : List ℕ) → IsNumeral 10 ds → digits_value 10 ds ≡ n → number_of ds ≡ pos n
    by ds k l = grind (arith, digits_have_no)

-- so is each small number
number_read : (z : ℤ) → unsigned_abs z ≤ most_shift → number_of (signed_decimal z) ≡ z
number_read (pos n) h = digits_read n (omega (arith, h))
number_read (negsuc n) h = ap (λ (m : ℕ). neg_ℤ (pos m)) (decimal_is_IsNumeral (suc n) (omega (arith, h))).1

-- and it has no comma
number_plain : (z : ℤ) → unsigned_abs z ≤ most_shift → HasNo comma (signed_decimal z)
number_plain z h = number_has_no comma (omega arith) z (small_wide z h)

-- numbers with commas between them are read again
numbers_read : (x : ℤ) (xs : List ℤ) → AreAllSmall (x ∷ xs) → map number_of (pieces_of (joined_text (x ∷ xs))) ≡ x ∷ xs
numbers_read x [] s =
    ap (λ (bytes : List ℕ). map number_of (pieces_of bytes)) (append-nil (signed_decimal x))
    ∙ ap (map number_of) (piece_alone (signed_decimal x) (number_plain x s.0)) ∙ ap (λ (z : ℤ). z ∷ []) (number_read x s.0)
numbers_read x (y ∷ ys) s =
    ap (map number_of) (piece_first (signed_decimal x) (joined_text (y ∷ ys)) (number_plain x s.0)) ∙ (λ i. number_read x s.0 i ∷ numbers_read y ys s.1 i)

-- so are those of a list that is not empty
list_read : (zs : List ℤ) → 1 ≤ length zs → AreAllSmall zs → map number_of (pieces_of (joined_text zs)) ≡ zs
list_read zs h k = search (arith, numbers_read)

-- the test shows whether all are small
all_small : (zs : List ℤ) → AreAllSmall zs → list_all is_small zs ≡ true
all_small [] s = refl
all_small (z ∷ zs) s = λ i. not (le-ltb most_shift (unsigned_abs z) s.0 i) && all_small zs s.1 i

-- and the other way
small_all : (zs : List ℤ) → list_all is_small zs ≡ true → AreAllSmall zs
small_all [] h = tt
small_all (z ∷ zs) h =
    let p = and_parts (is_small z) (list_all is_small zs) h in
    (by (nat_lt most_shift (unsigned_abs z)) refl p.0, small_all zs p.1)
  where
    by : (t : Bool) → nat_lt most_shift (unsigned_abs z) ≡ t → not t ≡ true → unsigned_abs z ≤ most_shift
    by t h k = search (arith, true≢false, ltb-false)

-- the numbers of a cell are small, and there are some
numbers_small : (R : CellView) → IsWritten R → AreAllSmall (cell_numbers R) × (1 ≤ length (cell_numbers R))
numbers_small R w = grind (arith, numbers_flat, numbers_space)

-- the cell of the numbers of a cell is the cell
cell_again : (R : CellView) → IsWritten R → cell_with (cell_numbers R) ≡ R
cell_again R w = grind (arith, numbers_flat, numbers_space)

-- a cell that a word spells passes the test
spelled_true : (word : List ℕ) (R : CellView) → SpellsCell word R → is_spelled word R ≡ true
spelled_true word R s = λ i. (bytes_eq-Decides word (joined_text (cell_numbers R))).1 s.text i && all_small (cell_numbers R) (numbers_small R s.written).0 i

-- so it is read
pub spelled_read : (word : List ℕ) (R : CellView) → SpellsCell word R → cell_of word ≡ Some R
spelled_read word R s =
    let small = numbers_small R s.written in let zs = map number_of (pieces_of word) in
    let numbers : zs ≡ cell_numbers R = ap (λ (bytes : List ℕ). map number_of (pieces_of bytes)) s.text ∙ list_read (cell_numbers R) small.1 small.0 in
    let same : cell_with zs ≡ R = ap cell_with numbers ∙ cell_again R s.written in
    cond-true (is_spelled word (cell_with zs)) (Some (cell_with zs)) None
    (subst (λ (C : CellView). is_spelled word C ≡ true) (sym same) (spelled_true word R s)) ∙ ap Some same

-- the cell of small numbers is written
written_with : (zs : List ℤ) → list_all is_small (cell_numbers (cell_with zs)) ≡ true → IsWritten (cell_with zs)
written_with zs h = by (length zs == 4) h
  where
    zero_small : IsWithin most_shift zero_vector
    zero_small = (omega arith, omega arith, omega arith)

    by : (t : Bool) → list_all is_small (cell_numbers (cond t (flat_with zs) (space_with zs))) ≡ true → IsWritten (cond t (flat_with zs) (space_with zs))
    by true k =
        let s = small_all (flat_numbers (flat_with zs).rows) k in
        record {
          dimension = inl refl;
          first = λ e. refl;
          second = λ e. refl;
          third = λ e. refl;
          small = record { first = (s.0, s.1.0, omega arith); second = (s.1.1.0, s.1.1.1.0, omega arith); third = zero_small };
        }
    by false k =
        let s = small_all (space_numbers (space_with zs).rows) k in let b = s.1.1.1 in let c = b.1.1.1 in
        record {
          dimension = inr refl;
          first = λ e. absurd (omega (arith, e));
          second = λ e. absurd (omega (arith, e));
          third = λ e. absurd (omega (arith, e));
          small = record { first = (s.0, s.1.0, s.1.1.0); second = (b.0, b.1.0, b.1.1.0); third = (c.0, c.1.0, c.1.1.0) };
        }

-- a cell that passes the test is spelled
true_spelled : (word : List ℕ) (zs : List ℤ) → is_spelled word (cell_with zs) ≡ true → SpellsCell word (cell_with zs)
true_spelled word zs h = grind (arith, and_parts, written_with, bytes_eq-Decides)

-- so what is read is spelled
pub read_spelled : (word : List ℕ) (R : CellView) → cell_of word ≡ Some R → SpellsCell word R
read_spelled word R h = by (map number_of (pieces_of word)) (is_spelled word (cell_with (map number_of (pieces_of word)))) refl h
  where
    by : (zs : List ℤ) (t : Bool) → is_spelled word (cell_with zs) ≡ t → cond t (Some (cell_with zs)) None ≡ Some R → SpellsCell word R
    by zs t h l = grind (arith, true_spelled, none-some)

-- what is the cell that a word spells, and none if it spells none, is what is read
pub is_read : (word : List ℕ) (o : Option CellView) → IfSome o (SpellsCell word) → (o ≡ None → (R : CellView) → ¬ SpellsCell word R) → o ≡ cell_of word
is_read word (Some R) h n = sym (spelled_read word R h)
is_read word None h n = by (cell_of word) refl
  where
    by : (o : Option CellView) → cell_of word ≡ o → None ≡ o
    by None e = refl
    by (Some R) e = absurd (n refl R (read_spelled word R e))

-- Coefficients in the rows of a cell: they are one, and their sums are flat.

-- sums with coefficients of dimension d determine the coefficients
abbrev Once : Base → ℕ → Type 0
Once b d = determinant d b ≢ pos 0 → (k l : Vector) → HasDimension d k → HasDimension d l → base_sum b k ≡ base_sum b l → k ≡ l

-- in dimension 2
flat_once : (b : Base) → Once b 2
flat_once b n k l f g e =
    coordinates_unique b.first b.second up_vector n k l (any_last b.first b.second up_vector b.third k (f refl) ∙ e
    ∙ any_last b.first b.second b.third up_vector l (g refl))

-- in dimension 3
full_once : (b : Base) → Once b 3
full_once b n k l f g e = coordinates_unique b.first b.second b.third n k l e

-- in both
pub coefficients_once : (d : ℕ) (b : Base) → (d ≡ 2) ⊎ (d ≡ 3) → IsCell d b → (k l : Vector) → HasDimension d k → HasDimension d l
    → base_sum b k ≡ base_sum b l → k ≡ l
coefficients_once d b (inl e) c = (subst (Once b) (sym e) (flat_once b)) c.rank
coefficients_once d b (inr e) c = (subst (Once b) (sym e) (full_once b)) c.rank

-- sums with coefficients of the dimension have it
pub sum_flat : (d : ℕ) (b : Base) → AreFlat d b → (k : Vector) → HasDimension d k → HasDimension d (base_sum b k)
sum_flat d b f k h e = flat_sum k.x k.y k.z b.first.z b.second.z b.third.z (f e).0 (f e).1 (h e)

-- a number other than 0 has a size of at least 1
size_positive : (z : ℤ) → z ≢ pos 0 → 1 ≤ unsigned_abs z
size_positive z k = search arith

-- the index of a cell is positive
pub index_positive : (d : ℕ) (b : Base) → IsCell d b → 1 ≤ index_of d b
index_positive d b c = size_positive (determinant d b) c.rank

-- rows with another last row
abbrev with_last : Base → Vector → Base
with_last b w = record { first = b.first; second = b.second; third = w }

-- the products in which a sum of rows stands in place of a row are the product of the rows times the coefficients
products_are : (b : Base) (k v : Vector) → triple_product b.first b.second b.third ≢ pos 0 → v ≡ base_sum b k
    → products b.first b.second b.third v ≡ times (triple_product b.first b.second b.third) k
products_are b k v n e =
    let p = triple_product b.first b.second b.third in
    coordinates_unique b.first b.second b.third n (products b.first b.second b.third v) (times p k)
    (sym (cramer b.first b.second b.third v) ∙ ap (times p) e ∙ sym (base_sum_times b p k))

-- a combination of the rows of a cell, with the last row that the products take
abbrev Filled : Base → ℕ → Type 0
Filled b d = (w v : Vector) → ((d ≡ 3) → w ≡ b.third) → (i : IsCombination d b v) → v ≡ base_sum (with_last b w) i.k

-- in dimension 2 it counts for nothing, and in dimension 3 it is the third row
filled : (d : ℕ) (b : Base) → (d ≡ 2) ⊎ (d ≡ 3) → Filled b d
filled d b l p q r s = grind (arith, any_last)

-- the last row in dimension 3
last_is : (R : CellView) → R.dimension ≡ 3 → last_row R ≡ R.rows.third
last_is R e = cc

module _ (R : CellView) (dim : (R.dimension ≡ 2) ⊎ (R.dimension ≡ 3)) (n : determinant_in R ≢ pos 0) (v : Vector) (i : IsCombination R.dimension R.rows v) where
  -- the products are the determinant times the coefficients
  pub products_multiple : products_with R v ≡ times (determinant_in R) i.k
  products_multiple = products_are (with_last R.rows (last_row R)) i.k v n (filled R.dimension R.rows dim (last_row R) v (last_is R) i)

  -- so what the division leaves is the coefficients
  pub coefficients_are : (q : Vector) → products_with R v ≡ times (determinant_in R) q → q ≡ i.k
  coefficients_are q e = times_cancel (determinant_in R) q i.k n (sym e ∙ products_multiple)
