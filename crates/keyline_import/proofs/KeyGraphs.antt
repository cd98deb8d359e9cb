-- The rows of a key line, and its graph, which is a quotient graph within the limits.
use Rattle.std.proofs.Common.{◌≡◌, ℤ, pos, ◌≤ℤ◌, true, arith, ◌-◌, ◌≤◌, List, ◌∷◌, length, get_or, take, drop, ℕ, Bool, false, ◌≢◌}
use Rattle.std.proofs.Common.{cond, not, nat_lt, [], map, refl, sym, subst, ◌⊎◌, inl, inr, ◌==◌, Option, None, Some, IfSome}
use Rattle.std.proofs.lemmas.Bool.{and_parts, not-true, and_from, false≢true, Decides.nat_tests}
use Rattle.std.proofs.lemmas.{Grind.common_steps}
use Rattle.std.specs.{Int.RustNames.unsigned_abs, Option.option_map, Ordering.int_eq, List.All, List.AllPairs}
use Rattle.std.proofs.lemmas.List.{Elements.All-weaker, Elements.All-map, length-map}
use Rattle.periodic_net.specs.Limits.{most_vertices, most_shift, most_edges}
use Rattle.cgd_read.specs.Spelling.{IsSmallPart, edge_of}
use Rattle.periodic_net.specs.Graph.{IsEdge}
use Rattle.cgd_read.proofs.CallerLemmas.{IsZero, IsWellEdge, well_spelled, edges_well, edges_different, small_part}
use Rattle.integers.specs.Vectors.{vector, IsWithin}
use Rattle.cgd_lex.specs.Tokens.{TokenView}
use Rattle.keyline_import.specs.Rows.{Row, IsRow, is_row, is_part, is_vertex, is_self_edge, KeyView, row, with_row, may_follow, no_rows, row_edge}
use Rattle.keyline_import.specs.{Lines.LineView, Views.key_view, Faults.key_after, Faults.key_of}
use Rattle.keyline_import.specs.Keys.{flat_rows, space_rows, if_some_row, key_of_numbers, key_of_fields, graph_of_key, IsKeyWithin}
use Rattle.keyline_import.specs.declared.{line.LineKind.LineKind, keyed.KeyRows.KeyRows}

vertex : (n : ℤ) → is_vertex n ≡ true → (pos 1 ≤ℤ n) × (n ≤ℤ pos most_vertices)
vertex n e = search (arith, and_parts)

part : (n : ℤ) → is_part n ≡ true → IsSmallPart n
part n e = search (arith, and_parts)

-- numbers that pass the test are a row
pub passes : (r : Row) → is_row r ≡ true → IsRow r
passes r e =
    let a = and_parts (is_vertex r.u) _ e in let b = and_parts (is_vertex r.v) _ a.1 in
    let c = and_parts (is_part r.x) _ b.1 in let d = and_parts (is_part r.y) _ c.1 in
    let f = and_parts (is_part r.z) _ d.1 in
    record {
      u = vertex r.u a.0;
      v = vertex r.v b.0;
      x = part r.x c.0;
      y = part r.y d.0;
      z = part r.z f.0;
      joins = not-true (is_self_edge r) f.1;
    }

without_four : {X : Type 0} (xs : List X) → take (length xs - 4) (drop 4 xs) ≡ drop 4 xs
without_four xs = grind (arith, common_steps)

without_five : {X : Type 0} (xs : List X) → take (length xs - 5) (drop 5 xs) ≡ drop 5 xs
without_five xs = grind (arith, common_steps)

-- these are the first four numbers
pub record AreFour (left : List ℤ) (u v x y : ℤ) : Type 0 where
  pub some : 4 ≤ length left
  pub u_is : u ≡ get_or left 0 (pos 0)
  pub v_is : v ≡ get_or left 1 (pos 0)
  pub x_is : x ≡ get_or left 2 (pos 0)
  pub y_is : y ≡ get_or left 3 (pos 0)

pub four_are : (left : List ℤ) (u v x y : ℤ) → AreFour left u v x y → left ≡ u ∷ v ∷ x ∷ y ∷ take (length left - 4) (drop 4 left)
four_are left u v x y h = search (arith, without_four)

-- a row of the plane is taken
pub flat_on : (k next : KeyView) (left rest : List ℤ) (u v x y : ℤ) → left ≡ u ∷ v ∷ x ∷ y ∷ rest
    → true ≡ may_follow k (row u v x y (pos 0)) → next ≡ with_row k (row u v x y (pos 0)) → flat_rows next rest ≡ flat_rows k left
flat_on k next left rest u v x y e may taken = cc

-- the numbers after a row
pub four_fewer : {X : Type 0} (xs : List X) → length (take (length xs - 4) (drop 4 xs)) ≡ length xs - 4
four_fewer xs = grind (arith, common_steps)

pub five_fewer : {X : Type 0} (xs : List X) → length (take (length xs - 5) (drop 5 xs)) ≡ length xs - 5
five_fewer xs = grind (arith, common_steps)

-- these are the first five numbers
pub record AreFive (left : List ℤ) (u v x y z : ℤ) : Type 0 where
  pub some : 5 ≤ length left
  pub u_is : u ≡ get_or left 0 (pos 0)
  pub v_is : v ≡ get_or left 1 (pos 0)
  pub x_is : x ≡ get_or left 2 (pos 0)
  pub y_is : y ≡ get_or left 3 (pos 0)
  pub z_is : z ≡ get_or left 4 (pos 0)

pub five_are : (left : List ℤ) (u v x y z : ℤ) → AreFive left u v x y z → left ≡ u ∷ v ∷ x ∷ y ∷ z ∷ take (length left - 5) (drop 5 left)
five_are left u v x y z h = search (arith, without_five)

-- a row of space is taken
pub space_on : (k next : KeyView) (left rest : List ℤ) (u v x y z : ℤ) → left ≡ u ∷ v ∷ x ∷ y ∷ z ∷ rest
    → true ≡ may_follow k (row u v x y z) → next ≡ with_row k (row u v x y z) → space_rows next rest ≡ space_rows k left
space_on k next left rest u v x y z e may taken = cc

-- what rows make
pub record IsWellKey (k : KeyView) : Type 0 where
  pub edges : All (IsWellEdge k.vertices k.dim) k.edges
  pub different : AllPairs (λ a b. a ≢ b) (map edge_of k.edges)
  pub few_vertices : k.vertices ≤ most_vertices
  pub few_edges : length k.edges ≤ most_edges

pub well_nothing : (dim : ℕ) → IsWellKey (no_rows dim)
well_nothing dim = grind arith

-- vertices that have the same number are the same
same_vertex : (u v : ℤ) → pos 1 ≤ℤ u → pos 1 ≤ℤ v → unsigned_abs u ≡ unsigned_abs v → u ≡ v
same_vertex u v h k l = search arith

vertex_within : (u : ℤ) → (pos 1 ≤ℤ u) × (u ≤ℤ pos most_vertices) → (1 ≤ unsigned_abs u) × (unsigned_abs u ≤ most_vertices)
vertex_within u k = search arith

no_loop : (r : Row) → IsRow r → unsigned_abs r.u ≡ unsigned_abs r.v → IsZero r.x r.y r.z → ⊥
no_loop r h e k = grind (arith, false≢true, and_from, same_vertex)

-- the edge of a row
row_makes : (k : KeyView) (r : Row) → IsRow r → (k.dim ≡ 2 → r.z ≡ pos 0) → IsWellEdge (with_row k r).vertices k.dim (row_edge r)
row_makes k r h flat =
    let u = vertex_within r.u h.u in let v = vertex_within r.v h.v in
    well_spelled (with_row k r).vertices k.dim (unsigned_abs r.u) (unsigned_abs r.v) r.x r.y r.z
    (u.0, omega arith) (v.0, omega arith) flat
    (small_part r.x h.x) (small_part r.y h.y) (small_part r.z h.z) (no_loop r h)

few_from : (n : ℕ) → not (nat_lt most_edges n) ≡ true → n ≤ most_edges
few_from n e = grind (arith, nat_tests, e)

-- one more row
pub well_row : (k : KeyView) (r : Row) → may_follow k r ≡ true → (k.dim ≡ 2 → r.z ≡ pos 0) → IsWellKey k → IsWellKey (with_row k r)
well_row k r may flat well =
    let parts = and_parts (is_row r) _ may in let h = passes r parts.0 in let u = vertex_within r.u h.u in
    let v = vertex_within r.v h.v in
    record {
      edges = edges_well k.vertices (with_row k r).vertices k.dim k.edges (row_edge r) (omega arith) (row_makes k r h flat) well.edges;
      different = edges_different k.edges (row_edge r) well.different;
      few_vertices = omega (arith, u.1, v.1, well.few_vertices);
      few_edges = few_from (length (with_row k r).edges) parts.1;
    }

-- what rows make in dimension dim
record IsWellIn (dim : ℕ) (k : KeyView) : Type 0 where
  dim_is : k.dim ≡ dim
  well : IsWellKey k

flat_step : (k : KeyView) (u v x y : ℤ) (left : List ℤ) (t : Bool) → may_follow k (row u v x y (pos 0)) ≡ t → IsWellIn 2 k
    → ((next : KeyView) → IsWellIn 2 next → IfSome (flat_rows next left) (IsWellIn 2))
    → IfSome (cond t (flat_rows (with_row k (row u v x y (pos 0))) left) None) (IsWellIn 2)
flat_step k u v x y left true e w on = on (with_row k (row u v x y (pos 0)))
    (record { dim_is = w.dim_is; well = well_row k (row u v x y (pos 0)) e (λ two. refl) w.well })
flat_step k u v x y left false e w on = tt

flat_well : (numbers : List ℤ) (k : KeyView) → IsWellIn 2 k → IfSome (flat_rows k numbers) (IsWellIn 2)
flat_well [] k w = w
flat_well (u ∷ v ∷ x ∷ y ∷ left) k w = flat_step k u v x y left (may_follow k (row u v x y (pos 0))) refl w (flat_well left)
flat_well numbers k w = tt

space_step : (k : KeyView) (u v x y z : ℤ) (left : List ℤ) (t : Bool) → may_follow k (row u v x y z) ≡ t → IsWellIn 3 k
    → ((next : KeyView) → IsWellIn 3 next → IfSome (space_rows next left) (IsWellIn 3))
    → IfSome (cond t (space_rows (with_row k (row u v x y z)) left) None) (IsWellIn 3)
space_step k u v x y z left true e w on =
    on (with_row k (row u v x y z)) (record { dim_is = w.dim_is; well = well_row k (row u v x y z) e (λ two. absurd (omega (arith, two, w.dim_is))) w.well })
space_step k u v x y z left false e w on = tt

space_well : (numbers : List ℤ) (k : KeyView) → IsWellIn 3 k → IfSome (space_rows k numbers) (IsWellIn 3)
space_well [] k w = w
space_well (u ∷ v ∷ x ∷ y ∷ z ∷ left) k w = space_step k u v x y z left (may_follow k (row u v x y z)) refl w (space_well left)
space_well numbers k w = tt

-- a key with a vertex is a graph
graph_within : (dim : ℕ) → (dim ≡ 2) ⊎ (dim ≡ 3) → (k : KeyView) → IsWellIn dim k → 1 ≤ k.vertices → IsKeyWithin k
graph_within dim two_or_three k w some = record {
  is_graph = record {
    dimension = subst (λ n. (n ≡ 2) ⊎ (n ≡ 3)) (sym w.dim_is) two_or_three;
    vertices = some;
    edges = All-map (IsEdge (graph_of_key k)) edge_of k.edges
        (All-weaker (IsWellEdge k.vertices k.dim) (λ e. IsEdge (graph_of_key k) (edge_of e))
        (λ e well. record { from = well.first; to = well.second; shift = well.flat; spelling = well.spelling }) k.edges w.well.edges);
    different = w.well.different;
  };
  small = record {
    vertices = w.well.few_vertices;
    edges = omega (arith, length-map k.edges edge_of, w.well.few_edges);
    shifts = All-map (λ a. IsWithin most_shift a.shift) edge_of k.edges
        (All-weaker (IsWellEdge k.vertices k.dim) (λ e. IsWithin most_shift (vector e.x e.y e.z)) (λ e well. (well.x, well.y, well.z)) k.edges w.well.edges);
  };
}

some_vertex : (n : ℕ) → (n == 0) ≡ false → 1 ≤ n
some_vertex n e = grind (arith, nat_tests, e)

some_row_within : (dim : ℕ) → (dim ≡ 2) ⊎ (dim ≡ 3) → (o : Option KeyView) → IfSome o (IsWellIn dim) → IfSome (if_some_row o) IsKeyWithin
some_row_within dim d None h = tt
some_row_within dim d (Some k) h = by (k.vertices == 0) refl
  where
    by : (t : Bool) → (k.vertices == 0) ≡ t → IfSome (cond t None (Some k)) IsKeyWithin
    by t l = grind (arith, graph_within, some_vertex)

numbers_within : (numbers : List ℤ) → IfSome (key_of_numbers numbers) IsKeyWithin
numbers_within [] = tt
numbers_within (d ∷ numbers) = by (int_eq d (pos 2)) (int_eq d (pos 3))
  where
    by : (s t : Bool) → IfSome (cond s (if_some_row (flat_rows (no_rows 2) numbers)) (cond t (if_some_row (space_rows (no_rows 3) numbers)) None)) IsKeyWithin
    by true t = some_row_within 2 (inl refl) (flat_rows (no_rows 2) numbers) (flat_well numbers (no_rows 2) (record { dim_is = refl; well = well_nothing 2 }))
    by false true = some_row_within 3 (inr refl) (space_rows (no_rows 3) numbers)
        (space_well numbers (no_rows 3) (record { dim_is = refl; well = well_nothing 3 }))
    by false false = tt

-- what fields say as a key is a graph within the limits
pub fields_within : (fields : List TokenView) → IfSome (key_of_fields fields) IsKeyWithin
fields_within fields = search (arith, numbers_within)

after_within : (kind : LineKind) (key before : Option KeyView) → IfSome key IsKeyWithin → IfSome before IsKeyWithin
    → IfSome (key_after kind key before) IsKeyWithin
after_within kind key before l p = search arith

-- so is the key of lines
pub lines_within : (earlier : List LineView) → IfSome (key_of earlier) IsKeyWithin
lines_within [] = tt
lines_within (line ∷ earlier) = after_within line.kind (key_of_fields line.fields) (key_of earlier) (fields_within line.fields) (lines_within earlier)

-- and the one that is kept of them
pub kept_within : (kept : Option KeyRows) (key : Option KeyView) → option_map key_view kept ≡ key → IfSome key IsKeyWithin
    → IfSome kept (λ k. IsKeyWithin (key_view k))
kept_within kept key l p = search arith
