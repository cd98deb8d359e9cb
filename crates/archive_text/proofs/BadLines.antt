-- The rows of a part, one after the other, and how they are written. The first line of an entry that may not follow.
use Rattle.std.proofs.Common.{◌≡◌, ℕ, ℤ, List, [], ◌∷◌, ◌++◌, length, map, refl, sym, ap, ◌∙◌, arith, ◌+◌, drop, Some, ◌<◌, true, subst}
use Rattle.std.proofs.lemmas.{Option.slice_get_within, Option.get_or_from_slice_get, List.drop_more, List.append-nil}
use Rattle.std.specs.List.{slice_get}
use mathlib.Core.List.{append_assoc}
use Rattle.periodic_net.specs.Graph.{Arc, Graph}
use Rattle.graph_rows.specs.{declared.size.GraphSize.GraphSize, Forms.IsSize}
use Rattle.graph_rows.specs.Rows.{edge_row, size_row, edge_lines, size_of_graph, graph_lines}
use Rattle.line_text.specs.Lines.{rows_text, Place, IsAt}
use Rattle.line_text.{proofs.CallerLemmas.rows_text_of_sum, specs.Names.is_name}
use Rattle.graph_rows.specs.Reading.{NoSize, NoEdge, HasEdges, HasBadEdge}
use Rattle.archive_text.specs.Rows.{Row, OfEdge, OfKey, OfCount, row_line, row_lines, name_row, key_row, count_row, OfEnd, shells_row, end_row}
use Rattle.archive_text.specs.{Entries.EntryView, Parts.HasEdgesAndKey, Forms.IsKeyList, Forms.IsCount}
use Rattle.archive_text.specs.Parts.{Part, IsFormed, Keyed, Counted, part_rows, drawn_rows, shells_rows, class_rows, Named, Drawn, end_part, NoneFollows}
use Rattle.archive_text.specs.Texts.{entry_rows, entry_lines, whole_part}
use Rattle.archive_text.specs.Reading.{shells_lines, NoKey, NoCount, NoShells, HasShells, HasBadShells, HasBadLine, HasWhole, IsOf}
use Rattle.archive_text.specs.declared.version.Version.{Version, TheVariants.Two}

-- the bytes of two lists of rows
pub lines_of_sum : (xs ys : List Row) → row_lines (xs ++ ys) ≡ row_lines xs ++ row_lines ys
lines_of_sum [] ys = refl
lines_of_sum (x ∷ xs) ys = ap (λ l. row_line x ∷ l) (lines_of_sum xs ys)

-- the bytes of the rows of edges
pub edges_same : (dim : ℕ) (edges : List Arc) → row_lines (map (OfEdge dim) edges) ≡ edge_lines dim edges
edges_same dim [] = refl
edges_same dim (e ∷ es) = ap (λ l. edge_row dim e ∷ l) (edges_same dim es)

-- the rows before the edges of an entry
abbrev pub heads : List (List ℕ) → List ℕ → GraphSize → List (List ℕ)
heads rows name s = (rows ++ name_row name ∷ []) ++ size_row s ∷ []

pub drawn_same : (rows : List (List ℕ)) (name : List ℕ) (s : GraphSize) (edges : List Arc)
    → heads rows name s ++ edge_lines s.dim edges ≡ rows ++ row_lines (drawn_rows name s edges)
drawn_same rows name s edges =
    append_assoc (rows ++ name_row name ∷ []) (size_row s ∷ []) (edge_lines s.dim edges)
    ∙ append_assoc rows (name_row name ∷ []) (size_row s ∷ edge_lines s.dim edges)
    ∙ ap (λ l. rows ++ name_row name ∷ size_row s ∷ l) (sym (edges_same s.dim edges))

pub keyed_same : (rows : List (List ℕ)) (name : List ℕ) (s : GraphSize) (edges : List Arc) (key : List ℤ)
    → (heads rows name s ++ edge_lines s.dim edges) ++ key_row key ∷ [] ≡ rows ++ row_lines (part_rows (Keyed name s edges key))
keyed_same rows name s edges key =
    ap (λ l. l ++ key_row key ∷ []) (drawn_same rows name s edges) ∙ append_assoc rows (row_lines (drawn_rows name s edges)) (key_row key ∷ [])
    ∙ ap (λ l. rows ++ l) (sym (lines_of_sum (drawn_rows name s edges) (OfKey key ∷ [])))

pub counted_same : (rows : List (List ℕ)) (name : List ℕ) (s : GraphSize) (edges : List Arc) (key : List ℤ) (n : ℕ) (lists : List (List ℕ))
    → ((rows ++ row_lines (part_rows (Keyed name s edges key))) ++ count_row n ∷ []) ++ shells_lines lists ≡ rows
    ++ row_lines (part_rows (Counted name s edges key n lists))
counted_same rows name s edges key n lists =
    let keyed = row_lines (part_rows (Keyed name s edges key)) in
    append_assoc (rows ++ keyed) (count_row n ∷ []) (shells_lines lists) ∙ append_assoc rows keyed (count_row n ∷ shells_lines lists)
    ∙ ap (λ l. rows ++ l) (sym (lines_of_sum (part_rows (Keyed name s edges key)) (OfCount n ∷ shells_rows 1 lists))
    ∙ ap row_lines (append_assoc (drawn_rows name s edges) (OfKey key ∷ []) (OfCount n ∷ shells_rows 1 lists)))

-- an edge has one row
pub lines_count : (dim : ℕ) (edges : List Arc) → length (edge_lines dim edges) ≡ length edges
lines_count dim [] = refl
lines_count dim (e ∷ es) = let later = lines_count dim es in omega (arith, later)

-- Rows that are written one after the other.

-- rows after rows
pub rows_written : (before now after : List ℕ) (xs ys : List (List ℕ)) → now ≡ before ++ rows_text xs → after ≡ now ++ rows_text ys
    → after ≡ before ++ rows_text (xs ++ ys)
rows_written before now after xs ys one two =
    two ∙ ap (λ l. l ++ rows_text ys) one ∙ append_assoc before (rows_text xs) (rows_text ys) ∙ ap (λ l. before ++ l) (sym (rows_text_of_sum xs ys))

-- the coordination sequences that are left, after that of one more class
pub class_written : (before now after : List ℕ) (lists : List (List ℕ)) (k : ℕ) (sizes rest : List ℕ) → slice_get lists k ≡ Some sizes
    → after ≡ now ++ rows_text (shells_row (k + 1) sizes ∷ [])
    → now ++ rows_text (row_lines (shells_rows (k + 1) (drop k lists))) ≡ rest
    → after ++ rows_text (row_lines (shells_rows (k + 1 + 1) (drop (k + 1) lists))) ≡ rest
class_written before now after lists k sizes rest at put was =
    let left : drop k lists ≡ sizes ∷ drop (k + 1) lists = drop_more lists k [] (slice_get_within lists k sizes at)
    ∙ ap (λ x. x ∷ drop (k + 1) lists) (get_or_from_slice_get lists k sizes [] at) in
    let later = row_lines (shells_rows (k + 1 + 1) (drop (k + 1) lists)) in
    ap (λ l. l ++ rows_text later) put ∙ append_assoc now (rows_text (shells_row (k + 1) sizes ∷ [])) (rows_text later)
    ∙ ap (λ l. now ++ l) (sym (rows_text_of_sum (shells_row (k + 1) sizes ∷ []) later))
    ∙ ap (λ l. now ++ rows_text (row_lines (shells_rows (k + 1) l))) (sym left) ∙ was

-- a name and the rows of a graph
pub drawn_written : (name : List ℕ) (G : Graph) (before now after : List ℕ) → now ≡ before ++ rows_text (name_row name ∷ [])
    → after ≡ now ++ rows_text (graph_lines G) → after ≡ before ++ rows_text (row_lines (drawn_rows name (size_of_graph G) G.edges))
drawn_written name G before now after one two =
    rows_written before now after (name_row name ∷ []) (graph_lines G) one two
    ∙ ap (λ l. before ++ rows_text (name_row name ∷ size_row (size_of_graph G) ∷ l)) (sym (edges_same G.dimension G.edges))

-- the parts of an entry
entry_parts : (v : Version) (e : EntryView) → part_rows (whole_part v e) ≡ drawn_rows e.name (size_of_graph e.graph) e.graph.edges
    ++ OfKey e.key ∷ class_rows v e.shells
entry_parts v e = search arith

entry_sum : (v : Version) (e : EntryView) → (drawn_rows e.name (size_of_graph e.graph) e.graph.edges ++ OfKey e.key ∷ class_rows v e.shells)
    ++ OfEnd ∷ [] ≡ entry_rows v e
entry_sum v e = ap (λ l. l ++ OfEnd ∷ []) (sym (entry_parts v e))

pub entry_written : (v : Version) (e : EntryView) (before drawn keyed shown after : List ℕ)
    → drawn ≡ before ++ rows_text (row_lines (drawn_rows e.name (size_of_graph e.graph) e.graph.edges)) → keyed ≡ drawn ++ rows_text (key_row e.key ∷ [])
    → shown ≡ keyed ++ rows_text (row_lines (class_rows v e.shells)) → after ≡ shown ++ rows_text (end_row ∷ [])
    → after ≡ before ++ rows_text (entry_lines v (e ∷ []))
entry_written v e before drawn keyed shown after one two three four =
    let head = drawn_rows e.name (size_of_graph e.graph) e.graph.edges in
    let classes = class_rows v e.shells in
    let first = rows_written before drawn keyed (row_lines head) (key_row e.key ∷ []) one two in
    let second = rows_written before keyed shown (row_lines head ++ key_row e.key ∷ []) (row_lines classes) first three in
    let third = rows_written before shown after ((row_lines head ++ key_row e.key ∷ []) ++ row_lines classes) (end_row ∷ []) second four in
    third ∙ ap (λ l. before ++ rows_text l)
    (ap (λ l. l ++ end_row ∷ []) (append_assoc (row_lines head) (key_row e.key ∷ []) (row_lines classes) ∙ sym (lines_of_sum head (OfKey e.key ∷ classes)))
    ∙ sym (lines_of_sum (head ++ OfKey e.key ∷ classes) (OfEnd ∷ [])) ∙ ap row_lines (entry_sum v e) ∙ sym (append-nil (row_lines (entry_rows v e))))

-- Where no row that may follow stands.

pub after_name : (v : Version) (name left : List ℕ) → NoSize left → NoneFollows v (Named name) left
after_name v name left h k l p q = search arith

pub after_edges : (v : Version) (name : List ℕ) (s : GraphSize) (edges : List Arc) (left : List ℕ) → length edges < s.edges → NoEdge s edges left
    → NoneFollows v (Drawn name s edges) left
after_edges v name s edges left h k l p q r = search arith

pub after_all_edges : (v : Version) (name : List ℕ) (s : GraphSize) (edges : List Arc) (left : List ℕ) → length edges ≡ s.edges → NoKey left
    → NoneFollows v (Drawn name s edges) left
after_all_edges v name s edges left h k l p q r = search arith

pub after_key : (name : List ℕ) (s : GraphSize) (edges : List Arc) (key : List ℤ) (left : List ℕ) → NoCount left → NoneFollows Two (Keyed name s edges key) left
after_key name s edges key left h k l p q = search arith

pub after_shells : (v : Version) (name : List ℕ) (s : GraphSize) (edges : List Arc) (key : List ℤ) (n : ℕ) (lists : List (List ℕ)) (left : List ℕ)
    → length lists < n → NoShells (length lists + 1) left
    → NoneFollows v (Counted name s edges key n lists) left
after_shells v name s edges key n lists left h l p q r t = search arith

-- after all rows of an entry but the last only this may stand
pub before_end : (v : Version) (name : List ℕ) (s : GraphSize) (edges : List Arc) (key : List ℤ) (lists : List (List ℕ)) (left : List ℕ)
    → ((rest : List ℕ) → left ≡ end_row ++ 10 ∷ rest → ⊥)
    → NoneFollows v (end_part v name s edges key lists) left
before_end v name s edges key lists left h k l p q = search arith

-- after a part with this name, formed, a line that may not follow
bad_at : {v : Version} {text : List ℕ} {rows : List (List ℕ)} {name : List ℕ} {n : ℕ} (part : Part) (place : Place)
    → IsAt text (rows ++ row_lines (part_rows part)) place → n ≡ place.number → IsOf name part → IsFormed v part → NoneFollows v part place.rest
    → HasBadLine v text rows name n
bad_at part place at number named formed h = search arith

pub bad_size : (v : Version) (text : List ℕ) (rows : List (List ℕ)) (name : List ℕ) (place : Place) (n : ℕ) → is_name name ≡ true
    → IsAt text (rows ++ name_row name ∷ []) place → n ≡ place.number → NoSize place.rest → HasBadLine v text rows name n
bad_size v text rows name place n is at number none =
    bad_at (Named name) place at number refl is (after_name v name place.rest none)

pub bad_edge : (v : Version) (text : List ℕ) (rows : List (List ℕ)) (name : List ℕ) (s : GraphSize) (n : ℕ) → is_name name ≡ true → IsSize s
    → HasBadEdge text (heads rows name s) s n → HasBadLine v text rows name n
bad_edge v text rows name s n is sized bad =
    bad_at (Drawn name s bad.edges) bad.place (subst (λ l. IsAt text l bad.place) (drawn_same rows name s bad.edges) bad.at) bad.number refl
    (record { is_name = is; is_size = sized; each = bad.each; rising = bad.rising; few = omega (arith, bad.few) })
    (after_edges v name s bad.edges bad.place.rest bad.few bad.none)

pub bad_key : (v : Version) (text : List ℕ) (rows : List (List ℕ)) (name : List ℕ) (s : GraphSize) (edges : List Arc) (place : Place) (n : ℕ)
    → is_name name ≡ true → IsSize s → HasEdges text (heads rows name s) s edges place → n ≡ place.number → NoKey place.rest → HasBadLine v text rows name n
bad_key v text rows name s edges place n is sized has number none =
    bad_at (Drawn name s edges) place (subst (λ l. IsAt text l place) (drawn_same rows name s edges) has.at) number refl
    (record { is_name = is; is_size = sized; each = has.each; rising = has.rising; few = omega (arith, has.whole) })
    (after_all_edges v name s edges place.rest has.whole none)

-- the graph and the key, after their rows
pub is_keyed : (text : List ℕ) (rows : List (List ℕ)) (name : List ℕ) (s : GraphSize) (edges : List Arc) (key : List ℤ) (place : Place) → is_name name ≡ true
    → IsSize s → HasEdges text rows s edges place → IsKeyList key → HasEdgesAndKey name s edges key
is_keyed text rows name s edges key place is sized has is_key = grind arith

pub bad_count : (text : List ℕ) (rows : List (List ℕ)) (name : List ℕ) (s : GraphSize) (edges : List Arc) (key : List ℤ) (place : Place) (n : ℕ)
    → HasEdgesAndKey name s edges key → IsAt text (rows ++ row_lines (part_rows (Keyed name s edges key))) place → n ≡ place.number → NoCount place.rest
    → HasBadLine Two text rows name n
bad_count text rows name s edges key place n keyed at number none =
    bad_at (Keyed name s edges key) place at number refl keyed (after_key name s edges key place.rest none)

-- the rows of an entry of version 2 before its coordination sequences
abbrev pub counted_heads : List (List ℕ) → List ℕ → GraphSize → List Arc → List ℤ → ℕ → List (List ℕ)
counted_heads rows name s edges key n = (rows ++ row_lines (part_rows (Keyed name s edges key))) ++ count_row n ∷ []

pub bad_shells : (text : List ℕ) (rows : List (List ℕ)) (name : List ℕ) (s : GraphSize) (edges : List Arc) (key : List ℤ) (n line : ℕ)
    → HasEdgesAndKey name s edges key → IsCount n → HasBadShells text (counted_heads rows name s edges key n) n line → HasBadLine Two text rows name line
bad_shells text rows name s edges key n line keyed count bad =
    bad_at (Counted name s edges key n bad.lists) bad.place (subst (λ l. IsAt text l bad.place) (counted_same rows name s edges key n bad.lists) bad.at)
    bad.number refl (refl, keyed, record { is_count = count; each = bad.each; few = omega (arith, bad.few) })
    (after_shells Two name s edges key n bad.lists bad.place.rest bad.few bad.none)

pub whole_shells : (text : List ℕ) (rows : List (List ℕ)) (name : List ℕ) (s : GraphSize) (edges : List Arc) (key : List ℤ) (n : ℕ) (lists : List (List ℕ))
    (place : Place) → HasEdgesAndKey name s edges key → IsCount n → HasShells text (counted_heads rows name s edges key n) n lists place
    → HasWhole Two text rows (end_part Two name s edges key lists) place
whole_shells text rows name s edges key n lists place keyed count has =
    subst (λ m. HasWhole Two text rows (Counted name s edges key m lists) place) (sym has.whole) (record {
      at = subst (λ l. IsAt text l place) (counted_same rows name s edges key n lists) has.at;
      formed = (refl, keyed, record { is_count = count; each = has.each; few = omega (arith, has.whole) });
    })

pub bad_end : (v : Version) (text : List ℕ) (rows : List (List ℕ)) (name : List ℕ) (s : GraphSize) (edges : List Arc) (key : List ℤ) (lists : List (List ℕ))
    (place : Place) (n : ℕ) → HasWhole v text rows (end_part v name s edges key lists) place → n ≡ place.number
    → ((rest : List ℕ) → place.rest ≡ end_row ++ 10 ∷ rest → ⊥) → HasBadLine v text rows name n
bad_end v text rows name s edges key lists place n has number none =
    bad_at (end_part v name s edges key lists) place has.at number (of v) has.formed (before_end v name s edges key lists place.rest none)
  where
    of : (w : Version) → IsOf name (end_part w name s edges key lists)
    of w = search arith
