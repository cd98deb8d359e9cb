-- Rows and lines without a fault make a graph that may be read, whose edges are within the limits.
use Rattle.std.proofs.Common.{◌≡◌, ◌⊎◌, ◌≤◌, ℤ, pos, ◌-ℤ◌, neg_ℤ, arith, ◌≢◌, ℕ, Bool, true, false, List, map, length, ap, cond, [], ◌∷◌, ◌++◌, refl}
use Rattle.std.proofs.Common.{sym, subst, ◌∙◌, ◌==◌, nat_lt, not, ◌||◌, ◌&&◌, None, ◌-◌}
use Rattle.std.proofs.lemmas.List.Elements.{All-push, All-weaker, All-map}
use Rattle.std.proofs.lemmas.Bool.Decides.{Decides-int_eq, Decides-eqb, nat_tests}
use Rattle.std.proofs.{lemmas.Int.ints, lemmas.Slice.Eq.bytes_eq-Decides, lemmas.Bool.and_from, lemmas.Bool.false≢true, lemmas.List.map-append}
use Rattle.std.proofs.{lemmas.List.length-map, lemmas.List.Quantifiers.all_pairs_push}
use Rattle.std.specs.List.{All, AllPairs, list_any}
use Rattle.std.specs.Prelude.{◌≡◌, List, [], ◌∷◌, None}
use Rattle.std.specs.{Int.RustNames.unsigned_abs, Str.bytes_eq}
use Rattle.periodic_net.specs.Limits.{most_shift, most_vertices, most_edges, IsSmall}
use Rattle.periodic_net.specs.Graph.{IsNormalSpelling, Arc, IsEdge, IsGraph}
use Rattle.cgd_read.specs.Spelling.{IsSmallPart, spelled, is_forward, normal, edge_of}
use Rattle.cgd_read.specs.Edges.{vertices_of, edges_of, first_size, has_rows, with_new, same_edge, row_edge, vertex_number, is_self_edge}
use Rattle.cgd_read.specs.Faults.{fault_of, has_row, is_end, rows_in, table, has_wrong_length, has_other_length, has_self_edge}
use Rattle.cgd_read.specs.Faults.{brings_many_vertices, brings_many_edges, ends_without_rows}
use Rattle.cgd_read.specs.Graphs.{graph_of, net_of, IsReadGraph}
use Rattle.cgd_read.specs.{Lines.FieldsView, Lines.LineView, Reading.IsSmallFields, Reading.IsFlat, declared.edge.RawEdge.RawEdge}
use Rattle.cgd_read.specs.{Views.RawView}
use Rattle.integers.specs.Vectors.{vector, IsWithin}
use Rattle.cgd_read.proofs.Units.{all_false}
use Rattle.cgd_read.proofs.Places.{all_fail, longer, numbered, same_number}
use Rattle.cgd_read.proofs.Spelling.{normal_spelled, IsZero}

-- a row that makes an edge within the limits
pub record IsWellRow (row : FieldsView) : Type 0 where
  pub size : (row.size ≡ 4) ⊎ (row.size ≡ 5)
  pub small : IsSmallFields row
  pub flat : IsFlat row

negative : (x : ℤ) → pos 0 -ℤ x ≡ neg_ℤ x
negative x = omega (arith, ints)

negative_small : (x : ℤ) → unsigned_abs x ≤ most_shift → unsigned_abs (pos 0 -ℤ x) ≤ most_shift
negative_small x h = search (arith, negative)

pub small_part : (x : ℤ) → IsSmallPart x → unsigned_abs x ≤ most_shift
small_part x k = search arith

-- Edges of a graph within the limits.

-- an edge of a graph of dimension dim with n vertices, within the limits
pub record IsWellEdge (n dim : ℕ) (e : RawEdge) : Type 0 where
  pub first : (1 ≤ e.u) × (e.u ≤ n)
  pub second : (1 ≤ e.v) × (e.v ≤ n)
  pub flat : dim ≡ 2 → e.z ≡ pos 0
  pub spelling : IsNormalSpelling (edge_of e)
  pub x : unsigned_abs e.x ≤ most_shift
  pub y : unsigned_abs e.y ≤ most_shift
  pub z : unsigned_abs e.z ≤ most_shift

wider : (m n dim : ℕ) → m ≤ n → (e : RawEdge) → IsWellEdge m dim e → IsWellEdge n dim e
wider m n dim l e w = search arith

-- vertices and a small shift make such an edge, unless they are a loop without a shift
pub well_spelled : (n dim u v : ℕ) (x y z : ℤ) → (1 ≤ u) × (u ≤ n) → (1 ≤ v) × (v ≤ n) → (dim ≡ 2 → z ≡ pos 0)
    → unsigned_abs x ≤ most_shift → unsigned_abs y ≤ most_shift → unsigned_abs z ≤ most_shift → (u ≡ v → IsZero x y z → ⊥)
    → IsWellEdge n dim (normal u v x y z)
well_spelled n dim u v x y z first second flat sx sy sz other = by (is_forward u v x y z) (normal_spelled u v x y z other)
  where
    by : (t : Bool) → IsNormalSpelling (edge_of (spelled t u v x y z)) → IsWellEdge n dim (spelled t u v x y z)
    by true s = record { first = first; second = second; flat = flat; spelling = s; x = sx; y = sy; z = sz }
    by false s = record {
      first = second;
      second = first;
      flat = λ e. ap (λ w. pos 0 -ℤ w) (flat e);
      spelling = s;
      x = negative_small x sx;
      y = negative_small y sy;
      z = negative_small z sz;
    }

-- what the rows so far make
pub record MakeGraph (rows : List FieldsView) : Type 0 where
  pub size : has_rows rows ≡ true → (first_size rows ≡ 4) ⊎ (first_size rows ≡ 5)
  pub edges : (dim : ℕ) → (has_rows rows ≡ true → first_size rows - 2 ≡ dim) → All (IsWellEdge (length (vertices_of rows)) dim) (edges_of rows)
  pub different : AllPairs (λ a b. a ≢ b) (map edge_of (edges_of rows))
  pub few_vertices : length (vertices_of rows) ≤ most_vertices
  pub few_edges : length (edges_of rows) ≤ most_edges

-- Rows have edges.

some_with : {X : Type 0} (same : X → X → Bool) (xs : List X) (x : X) → 1 ≤ length (with_new same xs x)
some_with same [] x = omega arith
some_with same (y ∷ xs) x = by (list_any (same x) (y ∷ xs))
  where
    by : (t : Bool) → 1 ≤ length (cond t (y ∷ xs) ((y ∷ xs) ++ x ∷ []))
    by t = search arith

-- there is an edge as soon as there is a row
pub rows_have_edges : (rows : List FieldsView) → has_rows rows ≡ true → 1 ≤ length (edges_of rows)
rows_have_edges [] e = cc
rows_have_edges (row ∷ rows) e = some_with same_edge (edges_of rows) (row_edge (vertices_of rows) row)

-- Lines of a block without a fault.

-- the line has no fault, and its fields are as they are read from tokens
pub record IsSound (earlier : List LineView) (line : LineView) : Type 0 where
  pub fault : fault_of earlier line ≡ None
  pub small : IsSmallFields line.fields
  pub flat : IsFlat line.fields

-- each of these lines, the nearest first
abbrev pub AllSound : List LineView → Type 0
AllSound [] = Unit {0}
AllSound (line ∷ earlier) = IsSound earlier line × AllSound earlier

-- Each row without a fault makes a graph of a graph.

-- an edge is the same as itself
pub same_self : (e : RawEdge) → same_edge e e ≡ true
same_self e =
    and_from _ _ ((Decides-eqb e.u e.u).1 refl) (and_from _ _ ((Decides-eqb e.v e.v).1 refl)
    (and_from _ _ ((Decides-int_eq e.x e.x).1 refl) (and_from _ _ ((Decides-int_eq e.y e.y).1 refl) ((Decides-int_eq e.z e.z).1 refl))))

raw_of : Arc → RawEdge
raw_of a = record { u = a.from; v = a.to; x = a.shift.x; y = a.shift.y; z = a.shift.z }

apart : (e f : RawEdge) → same_edge e f ≡ false → edge_of f ≢ edge_of e
unfolding raw_of
apart e f h eq = false≢true (sym h ∙ subst (λ g. same_edge e g ≡ true) (sym (ap raw_of eq)) (same_self e))

pub make_nothing : MakeGraph []
make_nothing = grind (arith, false≢true)

-- the first row has as many fields as the last
pub size_now : (rows : List FieldsView) (row : FieldsView) → (has_rows rows ≡ true → row.size ≡ first_size rows) → first_size (row ∷ rows) ≡ row.size
size_now rows row h = search arith

no_loop : (names : List (List ℕ)) (row : FieldsView) → is_self_edge row ≡ false
    → vertex_number names row.u ≡ vertex_number (with_new bytes_eq names row.u) row.v → IsZero row.x row.y row.z → ⊥
no_loop names row h e zero =
    false≢true (sym h ∙ and_from _ _ ((bytes_eq-Decides row.u row.v).1 (same_number names row.u row.v e))
    (and_from _ _ ((Decides-int_eq row.x (pos 0)).1 zero.0) (and_from _ _ ((Decides-int_eq row.y (pos 0)).1 zero.1) ((Decides-int_eq row.z (pos 0)).1 zero.2))))

row_makes : (rows : List FieldsView) (row : FieldsView) (dim : ℕ) → IsWellRow row → is_self_edge row ≡ false → row.size - 2 ≡ dim
    → IsWellEdge (length (vertices_of (row ∷ rows))) dim (row_edge (vertices_of rows) row)
row_makes rows row dim well no_self e =
    let names = vertices_of rows in let some = with_new bytes_eq names row.u in
    well_spelled (length (vertices_of (row ∷ rows))) dim (vertex_number names row.u) (vertex_number some row.v) row.x row.y row.z
    (omega arith, omega (arith, numbered names row.u, longer bytes_eq some row.v)) (omega arith, numbered some row.v)
    (λ two. well.flat (omega (arith, e, two)))
    (small_part row.x well.small.x) (small_part row.y well.small.y) (small_part row.z well.small.z) (no_loop names row no_self)

-- all edges are well, with one more
pub edges_well : (m n dim : ℕ) (es : List RawEdge) (edge : RawEdge) → m ≤ n → IsWellEdge n dim edge → All (IsWellEdge m dim) es
    → All (IsWellEdge n dim) (with_new same_edge es edge)
edges_well m n dim es edge more well old =
    by (list_any (same_edge edge) es) (All-weaker (IsWellEdge m dim) (IsWellEdge n dim) (wider m n dim more) es old)
  where
    by : (t : Bool) → All (IsWellEdge n dim) es → All (IsWellEdge n dim) (cond t es (es ++ edge ∷ []))
    by true h = h
    by false h = All-push (IsWellEdge n dim) es edge h well

-- all edges are different, with one more
pub edges_different : (es : List RawEdge) (edge : RawEdge) → AllPairs (λ a b. a ≢ b) (map edge_of es)
    → AllPairs (λ a b. a ≢ b) (map edge_of (with_new same_edge es edge))
edges_different es edge old = by (list_any (same_edge edge) es) refl
  where
    by : (t : Bool) → list_any (same_edge edge) es ≡ t → AllPairs (λ a b. a ≢ b) (map edge_of (cond t es (es ++ edge ∷ [])))
    by true e = old
    by false e =
        subst (λ (as_ : List Arc). AllPairs (λ a b. a ≢ b) as_) (sym (map-append edge_of es (edge ∷ [])))
        (all_pairs_push (λ a b. a ≢ b) (map edge_of es) (edge_of edge) old
        (All-map (λ a. a ≢ edge_of edge) edge_of es
        (All-weaker (λ f. same_edge edge f ≡ false) (λ f. edge_of f ≢ edge_of edge) (apart edge) es (all_fail (same_edge edge) es e))))

-- the graph of the rows with one more
pub make_row : (rows : List FieldsView) (row : FieldsView) → IsWellRow row → is_self_edge row ≡ false → (has_rows rows ≡ true → row.size ≡ first_size rows)
    → length (vertices_of (row ∷ rows)) ≤ most_vertices → length (edges_of (row ∷ rows)) ≤ most_edges → MakeGraph rows → MakeGraph (row ∷ rows)
make_row rows row well no_self same few_vertices few_edges make =
    let now = size_now rows row same in let names = vertices_of rows in
    record {
      size = λ h. subst (λ n. (n ≡ 4) ⊎ (n ≡ 5)) (sym now) well.size;
      edges = λ dim h. let e = ap (λ n. n - 2) (sym now) ∙ h refl in
          edges_well (length names) (length (vertices_of (row ∷ rows))) dim (edges_of rows) (row_edge names row)
          (omega (arith, longer bytes_eq names row.u, longer bytes_eq (with_new bytes_eq names row.u) row.v))
          (row_makes rows row dim well no_self e) (make.edges dim (λ some. ap (λ n. n - 2) (sym (same some)) ∙ e));
      different = edges_different (edges_of rows) (row_edge names row) make.different;
      few_vertices = few_vertices;
      few_edges = few_edges;
    }

-- Lines without a fault make a graph that may be read.

-- what a line without a fault passes
record Passes (earlier : List LineView) (line : LineView) : Type 0 where
  length_ : has_wrong_length line ≡ false
  other : has_other_length earlier line ≡ false
  self_ : has_self_edge line ≡ false
  vertices : brings_many_vertices earlier line ≡ false
  edges : brings_many_edges earlier line ≡ false
  end_ : ends_without_rows earlier line ≡ false

passes : (earlier : List LineView) (line : LineView) → fault_of earlier line ≡ None → Passes earlier line
passes earlier line e =
    let h = all_false (table earlier line) e in
    record {
      length_ = h.1.1.1.1.0;
      other = h.1.1.1.1.1.0;
      self_ = h.1.1.1.1.1.1.1.0;
      vertices = h.1.1.1.1.1.1.1.1.0;
      edges = h.1.1.1.1.1.1.1.1.1.0;
      end_ = h.1.1.1.1.1.1.1.1.1.1.0;
    }

in_limit : (limit n : ℕ) → nat_lt limit n ≡ false → n ≤ limit
in_limit limit n e = grind (arith, nat_tests, e)

row_size : (r : Bool) (n : ℕ) → r ≡ true → (r && not (n == 4 || n == 5)) ≡ false → (n ≡ 4) ⊎ (n ≡ 5)
row_size r n k l = search (arith, nat_tests)

same_size : (r some : Bool) (m n : ℕ) → r ≡ true → (r && (some && not (m == n))) ≡ false → some ≡ true → m ≡ n
same_size r some m n l p q = search (arith, nat_tests)

of_row : (r t : Bool) → r ≡ true → (r && t) ≡ false → t ≡ false
of_row r t k l = cc

rows_now : (earlier : List LineView) (line : LineView) (t : Bool) → has_row line ≡ t
    → rows_in (line ∷ earlier) ≡ cond t (line.fields ∷ rows_in earlier) (rows_in earlier)
rows_now earlier line t e = ap (λ t. cond t (line.fields ∷ rows_in earlier) (rows_in earlier)) e

make_line : (earlier : List LineView) (line : LineView) (t : Bool) → has_row line ≡ t → IsSound earlier line → MakeGraph (rows_in earlier)
    → MakeGraph (cond t (line.fields ∷ rows_in earlier) (rows_in earlier))
make_line earlier line true e s make =
    let p = passes earlier line s.fault in let now = rows_now earlier line true e in
    make_row (rows_in earlier) line.fields
    (record { size = row_size (has_row line) line.fields.size e p.length_; small = s.small; flat = s.flat })
    (of_row (has_row line) (is_self_edge line.fields) e p.self_)
    (same_size (has_row line) (has_rows (rows_in earlier)) line.fields.size (first_size (rows_in earlier)) e p.other)
    (subst (λ rows. length (vertices_of rows) ≤ most_vertices) now (in_limit most_vertices (length (vertices_of (rows_in (line ∷ earlier)))) p.vertices))
    (subst (λ rows. length (edges_of rows) ≤ most_edges) now (in_limit most_edges (length (edges_of (rows_in (line ∷ earlier)))) p.edges))
    make
make_line earlier line false e s make = make

-- lines without a fault make a graph
pub make_lines : (earlier : List LineView) → AllSound earlier → MakeGraph (rows_in earlier)
make_lines [] sound = make_nothing
make_lines (line ∷ earlier) sound =
    subst MakeGraph (sym (rows_now earlier line (has_row line) refl))
    (make_line earlier line (has_row line) refl sound.0 (make_lines earlier sound.1))

end_test : (t some : Bool) → t ≡ true → (t && not some) ≡ false → some ≡ true
end_test t some k l = search arith

-- a line that ends a block without a fault comes after a row
pub ends_with_rows : (earlier : List LineView) (line : LineView) → fault_of earlier line ≡ None → is_end line.kind ≡ true → has_rows (rows_in earlier) ≡ true
ends_with_rows earlier line e h = end_test (is_end line.kind) (has_rows (rows_in earlier)) h (passes earlier line e).end_

-- The graph of rows without a fault is one that may be read.

has_vertex : (n dim : ℕ) (es : List RawEdge) → 1 ≤ length es → All (IsWellEdge n dim) es → 1 ≤ n
has_vertex n dim [] some edges = absurd (omega (arith, some))
has_vertex n dim (e ∷ es) some edges = let w = edges 0 e (omega arith) in omega (arith, w.first.0, w.first.1)

dimension : (size : ℕ) → (size ≡ 4) ⊎ (size ≡ 5) → (size - 2 ≡ 2) ⊎ (size - 2 ≡ 3)
dimension size h = search arith

rows_are_graph : (rows : List FieldsView) → MakeGraph rows → has_rows rows ≡ true → IsGraph (graph_of (net_of rows))
rows_are_graph rows make some =
    let n = length (vertices_of rows) in let dim = first_size rows - 2 in
    let edges = make.edges dim (λ h. refl) in
    record {
      dimension = dimension (first_size rows) (make.size some);
      vertices = has_vertex n dim (edges_of rows) (rows_have_edges rows some) edges;
      edges = All-map (IsEdge (graph_of (net_of rows))) edge_of (edges_of rows)
          (All-weaker (IsWellEdge n dim) (λ e. IsEdge (graph_of (net_of rows)) (edge_of e))
          (λ e w. record { from = w.first; to = w.second; shift = w.flat; spelling = w.spelling })
          (edges_of rows) edges);
      different = make.different;
    }

rows_are_small : (rows : List FieldsView) → MakeGraph rows → IsSmall (graph_of (net_of rows))
rows_are_small rows make =
    let n = length (vertices_of rows) in let dim = first_size rows - 2 in
    record {
      vertices = make.few_vertices;
      edges = omega (arith, length-map (edges_of rows) edge_of, make.few_edges);
      shifts = All-map (λ a. IsWithin most_shift a.shift) edge_of (edges_of rows)
          (All-weaker (IsWellEdge n dim) (λ e. IsWithin most_shift (vector e.x e.y e.z)) (λ e w. (w.x, w.y, w.z)) (edges_of rows)
          (make.edges dim (λ h. refl)));
    }

pub rows_read : (rows : List FieldsView) (raw : RawView) → MakeGraph rows → has_rows rows ≡ true → raw ≡ net_of rows → IsReadGraph raw
rows_read rows raw make some e = record {
  is_graph = subst (λ net. IsGraph (graph_of net)) (sym e) (rows_are_graph rows make some);
  small = subst (λ net. IsSmall (graph_of net)) (sym e) (rows_are_small rows make);
}

pub few_fields : (rows : List FieldsView) → MakeGraph rows → first_size rows ≤ 5
few_fields rows h = search arith

-- with one more line there are no fewer rows
pub still_rows : (earlier : List LineView) (line : LineView) → has_rows (rows_in earlier) ≡ true → has_rows (rows_in (line ∷ earlier)) ≡ true
still_rows earlier line some = search arith
