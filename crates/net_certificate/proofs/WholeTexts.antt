-- A whole text, and a first bad line; items that are written one after the other, and one more item.
use Rattle.std.proofs.Common.{◌≡◌, ℕ, ◌+◌, List, [], ◌∷◌, ◌++◌, Option, None, Some, length, sym, ap, ◌∙◌, subst, arith, ◌≢◌, ◌==◌, suc, false}
use Rattle.std.proofs.Common.{if◌then◌else◌, refl, add-one, ℤ, pos, drop, map, ◌-◌, ◌<◌, ◌≤◌, get_or, take, Bool, All}
use Rattle.std.proofs.lemmas.List.{append-nil, length-append, drop_more, length-drop, take_all}
use Rattle.std.{proofs.lemmas.Option.slice_get_within, proofs.lemmas.Option.get_or_from_slice_get, proofs.Math.Seq.get_or-append_seam, specs.Prelude.codes}
use Rattle.std.{specs.List.slice_get, specs.Fmt.signed_decimal}
use mathlib.Core.List.{append_assoc}
use Rattle.line_text.specs.Lines.{Place, rows_text, HasNo}
use Rattle.line_text.{specs.Numbers.numbers_text, proofs.CallerLemmas.rows_text_of_sum}
use Rattle.periodic_net.specs.Graph.{Graph, Vertex}
use Rattle.graph_rows.specs.Rows.{graph_lines}
use Rattle.map_check.specs.{Layouts.vertex_at, Conditions.most_images, declared.map.PeriodicMap.PeriodicMap, declared.verdict.Verdict.Verdict}
use Rattle.least_key.specs.KeyedNets.{KeyedNet}
use Rattle.net_certificate.specs.Rows.{Row, row_line, row_lines, OfMap, OfPeriod, OfImage, OfBase, OfEnd, reason_text, vertex_numbers, image_row, OfTitle}
use Rattle.net_certificate.specs.Rows.{title_row}
use Rattle.net_certificate.specs.Stages.{Stage, Start, Titled, Listed, drawing_of, drawn_graph, MayFollow, MayEnd, Walk, stage_with, NoneFollows, with_item}
use Rattle.net_certificate.specs.Results.{HasResult, IsVerdictOf, AreVerdicts, result_row, result_rows, is_refused, one_where, refused_count, HasMapResult}
use Rattle.net_certificate.specs.Reading.{IsIn, HasBadLine, MayStand, IsTextOf, IsBegun}
use Rattle.net_certificate.specs.FirstRows.{BeginsBefore, IsFormed, first_lines}
use Rattle.net_certificate.specs.Items.{Maps, With, ItemView}
use Rattle.net_certificate.specs.Texts.{maps_rows, maps_text, graph_rows, image_rows, map_rows, item_rows, items_rows}
use Rattle.net_certificate.proofs.InfiniteGraphs.{items_apart}
use Rattle.net_certificate.proofs.Walks.{whole_graph, rows_of_whole, walk_rows, walk_formed, formed_with, Meet, Further, Nearer, Same, meet, row_none}
use Rattle.net_certificate.proofs.Places.{maps_walk, lines_of_sum, graph_same}
use Rattle.net_certificate.specs.Checks.{ArePassed, AreAll, IsChecked}
use Rattle.net_certificate.specs.{TextLaws.TextsTellMaps, TextLaws.BadLineIsFirst, declared.checking.CheckedMaps.CheckedMaps, NetItems.AreItemsOf}
use Rattle.net_certificate.specs.{NetItems.IsMapsTextOf, declared.items.NoMap.TheVariants.Long, declared.items.NoMap.TheVariants.Wide, NetSteps.AreItemsLast}
use Rattle.net_certificate.specs.{NetSteps.IsItemLast}

-- what the rows that lead to a stage say, where the text may end there
abbrev pub said : Stage → Option Maps
said (Listed g items) = Some (record { first = drawn_graph g; items = items })
said stage = None

-- a text that was passed and may end is that of what was said
pub text_said : (text : List ℕ) (p : Stage) (place : Place) → IsIn text p place → MayEnd p → place.rest ≡ [] → IsTextOf text (said p)
text_said text p place is may h = grind (arith, walk_formed, whole_graph, rows_of_whole, append-nil, walk_rows)

-- the stage after a text
abbrev last_stage : Option Maps → Stage
last_stage None = Titled
last_stage (Some maps) = Listed (drawing_of maps.first) maps.items

last_walk : (maps : Option Maps) → MayStand maps → Walk Start (maps_rows maps) (last_stage maps)
last_walk maps h = search (arith, maps_walk)

last_ends : (maps : Option Maps) → MayEnd (last_stage maps)
last_ends maps = search arith

last_said : (maps : Option Maps) → said (last_stage maps) ≡ maps
last_said maps = search arith

-- nothing begins with a row
no_row : (r : Row) (others : List Row) (left : List ℕ) → [] ≡ rows_text (row_lines (r ∷ others)) ++ left → ⊥
no_row r others left e =
    let whole = ap length e in let two = length-append (rows_text (row_lines (r ∷ others))) left in
    let one = length-append (row_line r) (10 ∷ rows_text (row_lines others)) in
    omega (arith, whole, two, one)

-- a row that may follow does not stand if none follows
stands : (p : Stage) (r : Row) (others : List Row) (rest left : List ℕ)
    → ((row : Row) (tail : List ℕ) → MayFollow p row → rest ≡ row_line row ++ 10 ∷ tail → ⊥) → MayFollow p r
    → rest ≡ rows_text (row_lines (r ∷ others)) ++ left → ⊥
stands p r others rest left none may e = none r (rows_text (row_lines others) ++ left) may
    (e ∙ append_assoc (row_line r) (10 ∷ rows_text (row_lines others)) left)

pub no_fault : (text : List ℕ) (a : Option Maps) (n : ℕ) → IsTextOf text a → HasBadLine text n → ⊥
no_fault text a n is bad = by (meet Start (last_stage a) bad.stage (maps_rows a) bad.rows [] bad.left tt (last_walk a is.formed) bad.walk
    (append-nil (maps_text a) ∙ sym is.is ∙ bad.joined))
  where
    by : Meet (last_stage a) bad.stage (maps_rows a) bad.rows [] bad.left → ⊥
    by (Further r others walk e tail) = no_row r others bad.left tail
    by (Nearer r others walk e tail) = stands bad.stage r others bad.left [] bad.none walk.0 tail
    by (Same one e tail) = bad.more (subst MayEnd one (last_ends a)) (sym tail)

pub one_fault : (text : List ℕ) (m n : ℕ) → HasBadLine text m → HasBadLine text n → m ≡ n
one_fault text m n a b = by (meet Start a.stage b.stage a.rows b.rows a.left b.left tt a.walk b.walk (sym a.joined ∙ b.joined))
  where
    by : Meet a.stage b.stage a.rows b.rows a.left b.left → m ≡ n
    by (Further r others walk e tail) = absurd (stands a.stage r others a.left b.left a.none walk.0 tail)
    by (Nearer r others walk e tail) = absurd (stands b.stage r others b.left a.left b.none walk.0 tail)
    by (Same one e tail) = a.number ∙ ap (λ l. length l + 1) e ∙ sym b.number

pub one_text : (text : List ℕ) (a b : Option Maps) → IsTextOf text a → IsTextOf text b → a ≡ b
one_text text a b ha hb = by (meet Start (last_stage a) (last_stage b) (maps_rows a) (maps_rows b) [] [] tt (last_walk a ha.formed) (last_walk b hb.formed)
    (append-nil (maps_text a) ∙ sym ha.is ∙ hb.is ∙ sym (append-nil (maps_text b))))
  where
    by : Meet (last_stage a) (last_stage b) (maps_rows a) (maps_rows b) [] [] → a ≡ b
    by h = grind (arith, no_row, last_said)

pub texts_tell : TextsTellMaps
texts_tell = record { one_text = one_text; no_fault = no_fault; one_fault = one_fault }

-- The first bad line of a text is the first line that no text of maps has after the lines before it.

-- no line of a text is nothing
no_lines : (text : List ℕ) → first_lines 0 text ≡ []
no_lines [] = refl
no_lines (b ∷ text) = refl

-- the first line of a text that begins with a line
first_line : (n : ℕ) (line rest : List ℕ) → HasNo 10 line → first_lines (suc n) (line ++ 10 ∷ rest) ≡ line ++ 10 ∷ first_lines n rest
first_line n [] rest none = refl
first_line n (b ∷ line) rest none = ap (λ t. b ∷ first_lines (if t then n else suc n) (line ++ 10 ∷ rest)) none.0
    ∙ ap (λ l. b ∷ l) (first_line n line rest none.1)

-- what follows a line of a text
record Follows (n : ℕ) (line text rest : List ℕ) : Type 0 where
  pub left : List ℕ
  pub joined : text ≡ line ++ 10 ∷ left
  pub same : first_lines n left ≡ rest

-- a text with a first line begins with it
cut : (n : ℕ) (line text rest : List ℕ) → HasNo 10 line → first_lines (suc n) text ≡ line ++ 10 ∷ rest → Follows n line text rest
cut n [] (b ∷ text) rest none e =
    let at : b ≡ 10 = cc in let more : first_lines (if b == 10 then n else suc n) text ≡ rest = cc in
    record { left = text; joined = ap (λ c. c ∷ text) at; same = sym (ap (λ c. first_lines (if c == 10 then n else suc n) text) at) ∙ more }
cut n (c ∷ line) (b ∷ text) rest none e =
    let at : b ≡ c = cc in
    let more : first_lines (if b == 10 then n else suc n) text ≡ line ++ 10 ∷ rest = cc in
    let no : (b == 10) ≡ false = ap (λ k. k == 10) at ∙ none.0 in
    let later = cut n line text rest none.1 (sym (ap (λ t. first_lines (if t then n else suc n) text) no) ∙ more) in
    record { left = later.left; joined = ap (λ k. k ∷ text) at ∙ ap (λ l. c ∷ l) later.joined; same = later.same }
cut n line text rest none e = absurd (cc)

-- what is left of another text with the same first lines
record Shares (rows : List Row) (left other : List ℕ) : Type 0 where
  pub others : List ℕ
  pub joined : other ≡ rows_text (row_lines rows) ++ others
  pub same : first_lines 1 left ≡ first_lines 1 others

shared : (p q : Stage) (rows : List Row) (left other : List ℕ) → IsFormed p → Walk p rows q
    → first_lines (length rows + 1) (rows_text (row_lines rows) ++ left) ≡ first_lines (length rows + 1) other → Shares rows left other
shared p q [] left other formed walk e = record { others = other; joined = refl; same = e }
shared p q (r ∷ rows) left other formed walk e =
    let n = length rows + 1 in let tail = rows_text (row_lines rows) ++ left in
    let none = row_none p r formed walk.0 in
    let count : length (r ∷ rows) + 1 ≡ suc n = add-one (length (r ∷ rows)) ∙ ap suc (sym (add-one (length rows))) in
    let here : first_lines (suc n) (row_line r ++ 10 ∷ tail) ≡ first_lines (suc n) other =
    ap (first_lines (suc n)) (sym (append_assoc (row_line r) (10 ∷ rows_text (row_lines rows)) left))
    ∙ subst (λ k. first_lines k (rows_text (row_lines (r ∷ rows)) ++ left) ≡ first_lines k other) count e in
    let f = cut n (row_line r) other (first_lines n tail) none (sym here ∙ first_line n (row_line r) tail none) in
    let later = shared (stage_with p r) q rows left f.left (formed_with p r formed walk.0) walk.1 (sym f.same) in
    record {
      others = later.others;
      joined = f.joined ∙ ap (λ l. row_line r ++ 10 ∷ l) later.joined ∙ sym (append_assoc (row_line r) (10 ∷ rows_text (row_lines rows)) later.others);
      same = later.same;
    }

-- where no row follows, none does in a text with the same line
none_there : (p : Stage) (left others : List ℕ) → IsFormed p → first_lines 1 left ≡ first_lines 1 others → NoneFollows p left → NoneFollows p others
none_there p left others formed same none row rest may e =
    let no = row_none p row formed may in
    let here : first_lines 1 left ≡ row_line row ++ 10 ∷ [] = same ∙ ap (first_lines 1) e ∙ first_line 0 (row_line row) rest no
    ∙ ap (λ l. row_line row ++ 10 ∷ l) (no_lines rest) in
    let f = cut 0 (row_line row) left [] no here in
    none row f.left may f.joined

-- if something is left, something is
some_there : (left others : List ℕ) → first_lines 1 left ≡ first_lines 1 others → left ≢ [] → others ≢ []
some_there [] others same some none = some refl
some_there (b ∷ left) others same some none = let e = same ∙ ap (first_lines 1) none in absurd (cc)

-- a text with the same lines up to the first bad one has it too
pub bad_there : (text other : List ℕ) (n : ℕ) → HasBadLine text n → first_lines n text ≡ first_lines n other → HasBadLine other n
bad_there text other n bad same =
    let formed = walk_formed Start bad.stage bad.rows tt bad.walk in
    let e : first_lines (length bad.rows + 1) (rows_text (row_lines bad.rows) ++ bad.left) ≡ first_lines (length bad.rows + 1) other =
    subst (λ k. first_lines k (rows_text (row_lines bad.rows) ++ bad.left) ≡ first_lines k other) bad.number (ap (first_lines n) (sym bad.joined) ∙ same) in
    let s = shared Start bad.stage bad.rows bad.left other tt bad.walk e in
    record {
      rows = bad.rows;
      stage = bad.stage;
      left = s.others;
      walk = bad.walk;
      joined = s.joined;
      number = bad.number;
      none = none_there bad.stage bad.left s.others formed s.same bad.none;
      more = λ may. some_there bad.left s.others s.same (bad.more may);
    }

-- the rows before the first bad line
rows_before : (text : List ℕ) (n : ℕ) → HasBadLine text n → BeginsBefore text n
rows_before text n bad = search (arith, walk_rows, walk_formed)

pub bad_line_is_first : BadLineIsFirst
bad_line_is_first = record {
  no_text = λ text other maps n bad is same. no_fault other maps n is (bad_there text other n bad same);
  before = rows_before;
}

-- Rows that are written one after the other.

pub long_written : (before now after : List ℕ) (n : ℕ) → now ≡ before ++ codes " long entries=" → after ≡ now ++ signed_decimal (pos n)
    → after ≡ before ++ reason_text (Long n)
unfolding reason_text
long_written before now after n one two = two ∙ ap (λ l. l ++ signed_decimal (pos n)) one
    ∙ append_assoc before (codes " long entries=") (signed_decimal (pos n))

pub wide_written : (before now after : List ℕ) (z : ℤ) → now ≡ before ++ codes " wide value=" → after ≡ now ++ signed_decimal z
    → after ≡ before ++ reason_text (Wide z)
unfolding reason_text
wide_written before now after z one two = two ∙ ap (λ l. l ++ signed_decimal z) one ∙ append_assoc before (codes " wide value=") (signed_decimal z)

numbers_of_sum : (xs ys : List ℤ) → numbers_text (xs ++ ys) ≡ numbers_text xs ++ numbers_text ys
numbers_of_sum [] ys = refl
numbers_of_sum (x ∷ xs) ys = ap (λ l. 32 ∷ (signed_decimal x ++ l)) (numbers_of_sum xs ys)
    ∙ ap (λ l. 32 ∷ l) (sym (append_assoc (signed_decimal x) (numbers_text xs) (numbers_text ys)))

five : (p q r s t : List ℕ) → (((p ++ q) ++ r) ++ s) ++ t ≡ p ++ ((q ++ (r ++ s)) ++ t)
five p q r s t = ap (λ l. l ++ t) (append_assoc (p ++ q) r s ∙ append_assoc p q (r ++ s)) ∙ append_assoc p (q ++ (r ++ s)) t

pub image_written : (before a b c d : List ℕ) (dim other : ℕ) (w x : Vertex) → a ≡ before ++ codes "image" → b ≡ a ++ numbers_text (vertex_numbers dim w)
    → c ≡ b ++ numbers_text (vertex_numbers other x) → d ≡ c ++ 10 ∷ []
    → d ≡ before ++ (image_row dim other w x ++ 10 ∷ [])
unfolding image_row
image_written before a b c d dim other w x one two three four =
    let n = numbers_text (vertex_numbers dim w) in let m = numbers_text (vertex_numbers other x) in
    four ∙ ap (λ l. l ++ 10 ∷ []) (three ∙ ap (λ l. l ++ m) (two ∙ ap (λ l. l ++ n) one)) ∙ five before (codes "image") n m (10 ∷ [])
    ∙ ap (λ l. before ++ ((codes "image" ++ l) ++ 10 ∷ [])) (sym (numbers_of_sum (vertex_numbers dim w) (vertex_numbers other x)))

-- rows after rows
pub rows_written : (before now after : List ℕ) (xs ys : List Row) → now ≡ before ++ rows_text (row_lines xs) → after ≡ now ++ rows_text (row_lines ys)
    → after ≡ before ++ rows_text (row_lines (xs ++ ys))
rows_written before now after xs ys one two =
    two ∙ ap (λ l. l ++ rows_text (row_lines ys)) one ∙ append_assoc before (rows_text (row_lines xs)) (rows_text (row_lines ys))
    ∙ ap (λ l. before ++ l) (sym (rows_text_of_sum (row_lines xs) (row_lines ys)) ∙ ap rows_text (sym (lines_of_sum xs ys)))

-- the images that are left, after one more
pub image_left : (before now after : List ℕ) (d e m : ℕ) (images : List Vertex) (k : ℕ) (w x : Vertex) (rest : List ℕ) → slice_get images k ≡ Some x
    → w ≡ vertex_at d m k → after ≡ now ++ rows_text (image_row d e w x ∷ [])
    → now ++ rows_text (row_lines (image_rows d e m k (drop k images))) ≡ rest
    → after ++ rows_text (row_lines (image_rows d e m (k + 1) (drop (k + 1) images))) ≡ rest
image_left before now after d e m images k w x rest at place put was =
    let left : drop k images ≡ x ∷ drop (k + 1) images = drop_more images k x (slice_get_within images k x at)
    ∙ ap (λ y. y ∷ drop (k + 1) images) (get_or_from_slice_get images k x x at) in
    let later = image_rows d e m (k + 1) (drop (k + 1) images) in
    rows_written now after (after ++ rows_text (row_lines later)) (OfImage d e w x ∷ []) later put refl
    ∙ ap (λ v. now ++ rows_text (row_lines (OfImage d e v x ∷ later))) place
    ∙ ap (λ l. now ++ rows_text (row_lines (image_rows d e m k l))) (sym left) ∙ was

pub map_written : (before a b c : List ℕ) (d e : ℕ) (M : PeriodicMap) → a ≡ before ++ rows_text (row_lines (OfPeriod M.m ∷ []))
    → b ≡ a ++ rows_text (row_lines (image_rows d e M.m 0 M.images)) → c ≡ b ++ rows_text (row_lines (map (OfBase e) M.base))
    → c ≡ before ++ rows_text (row_lines (map_rows d e M))
map_written before a b c d e M one two three =
    rows_written before b c (OfPeriod M.m ∷ image_rows d e M.m 0 M.images) (map (OfBase e) M.base)
    (rows_written before a b (OfPeriod M.m ∷ []) (image_rows d e M.m 0 M.images) one two) three

pub item_written : (before a b c z : List ℕ) (d k e : ℕ) (H : Graph) (M : PeriodicMap) → e ≡ H.dimension → a ≡ before ++ rows_text (row_lines (OfMap k ∷ []))
    → b ≡ a ++ rows_text (graph_lines H) → c ≡ b ++ rows_text (row_lines (map_rows d e M)) → z ≡ c ++ rows_text (row_lines (OfEnd ∷ []))
    → z ≡ before ++ rows_text (row_lines (item_rows d k (With H M)))
item_written before a b c z d k e H M dim one two three four =
    let rows = map_rows d H.dimension M in
    let drawn = rows_written before a b (OfMap k ∷ []) (graph_rows H) one (two ∙ ap (λ l. a ++ rows_text l) (sym (graph_same H))) in
    let mapped = rows_written before b c (OfMap k ∷ graph_rows H) rows drawn (three ∙ ap (λ n. b ++ rows_text (row_lines (map_rows d n M))) dim) in
    rows_written before c z ((OfMap k ∷ graph_rows H) ++ rows) (OfEnd ∷ []) mapped four
    ∙ ap (λ l. before ++ rows_text (row_lines (OfMap k ∷ l))) (append_assoc (graph_rows H) rows (OfEnd ∷ []))

-- two pieces, one after the other
pub two_written : (before now after a b : List ℕ) → now ≡ before ++ a → after ≡ now ++ b → after ≡ before ++ (a ++ b)
two_written before now after a b one two = two ∙ ap (λ l. l ++ b) one ∙ append_assoc before a b

-- an item, and those after it
pub more_last : (first : KeyedNet) (k room left : ℕ) (net : KeyedNet) (nets : List KeyedNet) (old now new : List ℕ) → IsItemLast first k room net left old now
    → AreItemsLast first (k + 1) left nets now new
    → AreItemsLast first k room (net ∷ nets) old new
more_last first k room left net nets old now new one more = record {
  items = one.item ∷ more.items;
  are_items = (one.is_item, subst (λ (n : ℕ). AreItemsOf first n nets more.items) one.left_is more.are_items);
  text =
      let d = first.placed.graph.dimension in
      rows_written old now new (item_rows d k one.item) (items_rows d (k + 1) more.items) one.text more.text;
}

-- less room is left
pub less_room : (first : KeyedNet) (k room left : ℕ) (net : KeyedNet) (old now : List ℕ) → IsItemLast first k room net left old now → room ≤ most_images
    → left ≤ most_images
less_room first k room left net old now one few = let e = one.left_is in omega (arith, e, few)

-- what is put last from here on is all that is put last
abbrev pub LeadsTo : (first : KeyedNet) (k room : ℕ) (nets : List KeyedNet) (now : List ℕ) (whole : List KeyedNet) (old : List ℕ) → Type 0
LeadsTo first k room nets now whole old = (new : List ℕ) → AreItemsLast first k room nets now new → AreItemsLast first 2 most_images whole old new

module _ {A : Type 0} (net : A → KeyedNet) where
  -- the net at place i, and those after it
  left_at : (xs : List A) (i : ℕ) (x : A) → i < length xs → x ≡ get_or xs i x → map net (drop i xs) ≡ net x ∷ map net (drop (i + 1) xs)
  left_at xs i x inside at = ap (map net) (drop_more xs i x inside ∙ ap (λ (y : A). y ∷ drop (i + 1) xs) (sym at))

  -- the item of the next net was put last
  pub leads_on : (first : KeyedNet) (k room left : ℕ) (xs : List A) (i : ℕ) (x : A) (old now next : List ℕ) → i < length xs → x ≡ get_or xs i x
      → LeadsTo first k room (map net (drop i xs)) now (map net xs) old → IsItemLast first k room (net x) left now next
      → LeadsTo first (k + 1) left (map net (drop (i + 1) xs)) next (map net xs) old
  leads_on first k room left xs i x old now next inside at leads one new more =
      leads new (subst (λ (nets : List KeyedNet). AreItemsLast first k room nets now new) (sym (left_at xs i x inside at))
      (more_last first k room left (net x) (map net (drop (i + 1) xs)) now next new one more))

  -- the first net, and the others
  pub first_and_others : (xs : List A) (x : A) → 1 ≤ length xs → x ≡ get_or xs 0 x → map net xs ≡ net x ∷ map net (take (length xs - 1) (drop 1 xs))
  first_and_others xs x some at = grind (arith, take_all, length-drop)

-- the text of some nets
pub maps_written : (first : KeyedNet) (nets : List KeyedNet) (a b c : List ℕ) → a ≡ rows_text (title_row ∷ [])
    → b ≡ a ++ rows_text (graph_lines first.placed.graph) → AreItemsLast first 2 most_images nets b c → IsMapsTextOf (first ∷ nets) c
maps_written first nets a b c one two more =
    let G = first.placed.graph in
    let drawn : b ≡ [] ++ rows_text (row_lines (OfTitle ∷ graph_rows G)) =
    rows_written [] a b (OfTitle ∷ []) (graph_rows G) one (two ∙ ap (λ l. a ++ rows_text l) (sym (graph_same G))) in
    record {
      maps = Some (record { first = G; items = more.items });
      are_maps = record { first_is = refl; are_items = more.are_items; apart = items_apart first most_images nets more.items more.are_items };
      text_is = rows_written [] b c (OfTitle ∷ graph_rows G) (items_rows G.dimension 2 more.items) drawn more.text;
    }

verdicts_more : (G : Graph) (items : List ItemView) (verdicts : List (Option Verdict)) (item : ItemView) (verdict : Option Verdict)
    → AreVerdicts G items verdicts → IsVerdictOf G item verdict → AreVerdicts G (items ++ item ∷ []) (verdicts ++ verdict ∷ [])
verdicts_more G [] [] item verdict are is = (is, tt)
verdicts_more G (i ∷ items) (v ∷ verdicts) item verdict are is = (are.0, verdicts_more G items verdicts item verdict are.1 is)
verdicts_more G items verdicts item verdict are is = absurd are

same_count : (G : Graph) (items : List ItemView) (verdicts : List (Option Verdict)) → AreVerdicts G items verdicts → length verdicts ≡ length items
same_count G [] [] are = refl
same_count G (i ∷ items) (v ∷ verdicts) are = let later = same_count G items verdicts are.1 in omega (arith, later)
same_count G items verdicts are = absurd are

rows_more : (k d : ℕ) (verdicts : List (Option Verdict)) (verdict : Option Verdict)
    → result_rows k d (verdicts ++ verdict ∷ []) ≡ result_rows k d verdicts ++ result_row (length verdicts + k) d verdict ∷ []
rows_more k d [] verdict = ap (λ n. result_row n d verdict ∷ []) (omega arith)
rows_more k d (v ∷ verdicts) verdict = ap (λ l. result_row k d v ∷ l) (rows_more (k + 1) d verdicts verdict
    ∙ ap (λ n. result_rows (k + 1) d verdicts ++ result_row n d verdict ∷ []) (omega arith))

refused_more : (verdicts : List (Option Verdict)) (verdict : Option Verdict)
    → refused_count (verdicts ++ verdict ∷ []) ≡ refused_count verdicts + one_where (is_refused verdict)
refused_more [] verdict = omega arith
refused_more (v ∷ verdicts) verdict = let later = refused_more verdicts verdict in omega (arith, later)

one_few : (b : Bool) → one_where b ≤ 1
one_few b = search arith

-- one more item was passed
pub one_more : (G : Graph) (start now after : Place) (k : ℕ) (text new : List ℕ) (refused sum : ℕ) (item : ItemView) (verdict : Option Verdict)
    → (p : ArePassed G start now k text refused)
    → ((whole : List ℕ) → IsBegun G whole start → IsIn whole (Listed (drawing_of G) (with_item p.items item)) after) → IsVerdictOf G item verdict
    → new ≡ text ++ rows_text (result_row k G.dimension verdict ∷ []) → sum ≡ refused + one_where (is_refused verdict) → ArePassed G start after (k + 1) new sum
one_more G start now after k text new refused sum item verdict p at is put added =
    let verdicts = p.tells.verdicts in let count = same_count G p.items verdicts p.tells.are in
    let few = p.few in let number = p.number in let long = length-append p.items (item ∷ []) in
    let at_k : k ≡ length verdicts + 2 = omega (arith, number, count) in
    record {
      items = with_item p.items item;
      at = at;
      tells = record {
        verdicts = verdicts ++ verdict ∷ [];
        are = verdicts_more G p.items verdicts item verdict p.tells.are is;
        text_is = two_written [] text new (rows_text (result_rows 2 G.dimension verdicts))
            (rows_text (result_row k G.dimension verdict ∷ [])) p.tells.text_is put
            ∙ sym (rows_text_of_sum (result_rows 2 G.dimension verdicts) (result_row k G.dimension verdict ∷ []))
            ∙ ap (λ n. rows_text (result_rows 2 G.dimension verdicts ++ result_row n G.dimension verdict ∷ [])) at_k
            ∙ ap rows_text (sym (rows_more 2 G.dimension verdicts verdict));
        refused_is = added ∙ ap (λ n. n + one_where (is_refused verdict)) p.tells.refused_is ∙ sym (refused_more verdicts verdict);
      };
      number = omega (arith, number, long);
      few = let one = one_few (is_refused verdict) in omega (arith, few, added, one);
    }

-- what holds of all holds of the last
pub last_of : {X : Type 0} (P : X → Type 0) (xs : List X) (x : X) → All P (xs ++ x ∷ []) → P x
last_of P xs x all = let long = length-append xs (x ∷ []) in subst P (get_or-append_seam xs x [] x) (all (length xs) x (omega (arith, long)))

pub plus_none : (r : ℕ) → r ≡ r + 0
plus_none r = omega arith

-- all items of a text were checked
pub all_checked : (whole : List ℕ) (G : Graph) (place : Place) (checked : CheckedMaps) → AreAll whole G place checked → IsChecked whole checked
all_checked whole G place checked all = record {
  maps = Some (record { first = G; items = all.items });
  is = text_said whole (Listed (drawing_of G) all.items) place all.at refl all.none;
  tells = all.tells;
}

-- the result of an item with a map
pub with_result : (G H : Graph) (map : PeriodicMap) (k : ℕ) (before after : List ℕ) (refused : Bool) → HasMapResult G H map k before after refused
    → HasResult G k (With H map) before after refused
with_result G H map k before after refused has = record { verdict = Some has.verdict; is = has.is; text_is = has.text_is; refused_is = has.refused_is }
