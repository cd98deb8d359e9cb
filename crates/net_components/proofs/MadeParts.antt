-- The graph of a component is a part and may be made as it stands, and what is made of a component is its part.
use Rattle.std.proofs.Common.{◌≡◌, ℕ, zero, suc, ◌+◌, ◌-◌, ◌<◌, ◌≤◌, inl, inr, List, [], ◌∷◌, length, get_or, Option, Some, None, IsSome, refl, subst, ◌∙◌}
use Rattle.std.proofs.Common.{arith, ap, map, ◌⊎◌, ℤ, Contains, sym}
use Rattle.std.{proofs.lemmas.List.get_or_default, proofs.lemmas.List.length-map, proofs.lemmas.List.Elements.All-from_recursion}
use Rattle.std.{proofs.lemmas.List.Elements.All-contains, proofs.Math.Decide.dec_lt, specs.List.AllByRecursion, specs.List.AllPairs}
use Rattle.integers.specs.Vectors.{Vector, IsBelow, IsWithin, zero_vector, plus, minus, HasDimension}
use Rattle.integers.proofs.lists.Members.{in_at, IsIn, contains_from_in, is_in}
use Rattle.integers.{specs.Bases.base_sum, specs.Staircase.IsStaircase, proofs.lists.Permutations.IsRising, proofs.lists.Permutations.rising_from_pairs}
use Rattle.integers.{proofs.vectors.StairBasis.same_staircase}
use Rattle.net_components.specs.PartGraphs.{stair_base, IsPart, IsWritten, AreWritten, IsNumber}
use Rattle.net_components.specs.Parts.{vertex_at, root_of, IsPartOf}
use Rattle.net_components.specs.Written.{IsEdgeOf, AreEdgesOf, IsMadeOf}
use Rattle.net_components.specs.Shifts.{IsShiftIn, IsFirstWide, IsWideAt, AreNarrow}
use Rattle.net_components.proofs.PartArcs.{written_as, written_few, written_for, edge_written, at_least_two, at_most_three}
use Rattle.net_components.proofs.Covered.{found_in, in_found, tells, copy_count}
use Rattle.net_components.{specs.Vertices.vertices_of, specs.Copies.HasCopies, specs.declared.parts.Part.Part, specs.Components.Component}
use Rattle.net_components.{specs.Components.IsComponent, proofs.PartNet.part_graph, proofs.PartNet.written_below}
use Rattle.periodic_net.specs.Graph.{Graph, IsGraph, Arc, IsEdge, arc, arcs, IsArc}
use Rattle.periodic_net.specs.Limits.{IsSmall, most_shift, most_vertices, most_edges}
use Rattle.periodic_net.{specs.Components.InComponent, specs.Split.ClosedShift, proofs.CallerLemmas.edge_in, proofs.CallerLemmas.generator_closed}
use Rattle.quotient_graph.specs.{Order.arc_numbers, Order.AreRising, Stars.graph_with, EdgeLists.IsEdgeAmong, EdgeLists.AreEdgesOfGraph}
use Rattle.connected_dim.specs.{Generators.shift_at, Generators.generator_of, Search.walk_to}
use Rattle.cgd_read.specs.{Spelling.edge_of, declared.edge.RawEdge.RawEdge}
use Rattle.vecdim.{specs.Lattices.Members, specs.Stairs.rows_of, proofs.CallerLemmas.rows_are_basis}
use Prim.{Dec, yes, no}
pub use Rattle.connected_dim.proofs.CallerLemmas.{walk_is}

-- The vertices that were found, as a list.

-- a vertex, from its place, which is counted from 0
pub back : (u : ℕ) → 1 ≤ u → 1 + (u - 1) ≡ u
back u l = omega arith

-- a vertex of the list stands from u on, and was found
pub record IsListed (u : ℕ) (found : List (Option Vector)) (v : ℕ) : Type 0 where
  pub low : u ≤ v
  pub high : v < u + length found
  pub there : IsSome (get_or found (v - u) None)

listed_next : (u : ℕ) (o : Option Vector) (found : List (Option Vector)) (v : ℕ) → IsListed (u + 1) found v → IsListed u (o ∷ found) v
listed_next u o found v h = search arith

pub listed : (u : ℕ) (found : List (Option Vector)) (v : ℕ) → IsIn (vertices_of u found) v → IsListed u found v
listed u [] v h = elim h [ ]
listed u (None ∷ found) v h = listed_next u None found v (listed (u + 1) found v h)
listed u (Some T ∷ found) v (inl e) = record {
  low = omega arith;
  high = omega arith;
  there = subst (λ k. IsSome (get_or (Some T ∷ found) k None)) (same u v e) refl;
}
  where
    same : (u v : ℕ) → u ≡ v → 0 ≡ v - u
    same u v e = omega arith
listed u (Some T ∷ found) v (inr h) = listed_next u (Some T) found v (listed (u + 1) found v h)

next_place : (u k : ℕ) → u + 1 + k ≡ u + suc k
next_place u k = omega arith

-- what was found is listed
pub in_list : (u : ℕ) (found : List (Option Vector)) (k : ℕ) → k < length found → IsSome (get_or found k None) → IsIn (vertices_of u found) (u + k)
in_list u [] k l h = absurd (omega arith)
in_list u (None ∷ found) zero l h = cc
in_list u (Some T ∷ found) zero l h = inl (omega arith)
in_list u (None ∷ found) (suc k) l h = subst (IsIn (vertices_of (u + 1) found)) (next_place u k) (in_list (u + 1) found k (omega arith) h)
in_list u (Some T ∷ found) (suc k) l h = inr (subst (IsIn (vertices_of (u + 1) found)) (next_place u k) (in_list (u + 1) found k (omega arith) h))

-- the one at a place is
pub listed_at : (u : ℕ) (found : List (Option Vector)) (i : ℕ) → i < length (vertices_of u found) → IsListed u found (get_or (vertices_of u found) i 0)
listed_at u found i l = listed u found (get_or (vertices_of u found) i 0) (in_at (vertices_of u found) i 0 l)

-- they rise
pub vertices_rise : (u : ℕ) (found : List (Option Vector)) (i j : ℕ) → i < j → j < length (vertices_of u found)
    → get_or (vertices_of u found) i 0 < get_or (vertices_of u found) j 0
vertices_rise u (None ∷ found) i j l m = vertices_rise (u + 1) found i j l m
vertices_rise u (Some T ∷ found) zero (suc j) l m = let h = listed_at (u + 1) found j (omega arith) in let a = h.low in omega arith
vertices_rise u (Some T ∷ found) (suc i) (suc j) l m = vertices_rise (u + 1) found i j (omega arith) (omega arith)
vertices_rise u found i j l m = absurd (omega arith)

-- they are no more than the vertices
pub vertices_few : (u : ℕ) (found : List (Option Vector)) → length (vertices_of u found) ≤ length found
vertices_few u [] = omega arith
vertices_few u (None ∷ found) = let h = vertices_few (u + 1) found in omega arith
vertices_few u (Some T ∷ found) = let h = vertices_few (u + 1) found in omega arith

-- a member stands at a place
pub place_of : (xs : List ℕ) (x : ℕ) → IsIn xs x → (i : ℕ) × (i < length xs) × (get_or xs i 0 ≡ x)
place_of xs x h = let c = contains_from_in xs x h in (c.0, c.1, get_or_default xs c.0 0 x c.1 ∙ c.2)

-- a list each of whose members stands before all later ones rises
pairs_from_rising : {X : Type 0} (before : X → X → Type 0) (xs : List X) → IsRising before xs → AllPairs before xs
pairs_from_rising before (x ∷ xs) h zero (suc j) d a b = h.0 (get_or xs j d) (in_at xs j d (omega arith))
pairs_from_rising before (x ∷ xs) h (suc i) (suc j) d a b = pairs_from_rising before xs h.1 i j d (omega arith) (omega arith)
pairs_from_rising before xs h i j d a b = absurd (omega arith)

-- e stands before f
abbrev Precedes : Arc → Arc → Type 0
Precedes e f = IsBelow (arc_numbers e) (arc_numbers f)

-- written edges rise where the edges do
written_rise : (K : ℕ → Type 0) (W : Arc → Arc → Type 0) → ((e d f g : Arc) → W e f → W d g → Precedes e d → Precedes f g)
    → (es fs : List Arc) → AreWritten K W es fs → IsRising Precedes es → IsRising Precedes fs
written_rise K W keep [] (f ∷ fs) h r = absurd h
written_rise K W keep es [] h r = tt
written_rise K W keep (e ∷ es) (f ∷ fs) (inl h) r = written_rise K W keep es (f ∷ fs) h.1 r.1
written_rise K W keep (e ∷ es) (f ∷ fs) (inr h) r = (
  (λ g i. let k = written_for K W es fs h.2 g i in keep e k.0 f g h.1 k.2 (r.0 k.0 k.1)),
  written_rise K W keep es fs h.2 r.1,
)

module _ (G : Graph) (g : IsGraph G) (s : IsSmall G) (c : Component) (h : IsComponent G c) where
  abbrev vs : List ℕ
  vs = vertices_of 1 c.found

  -- a number has a vertex of the component
  pub number_in : (i : ℕ) → IsNumber (length vs) i → InComponent G c.root (vertex_at vs i)
  number_in i n =
      let k = listed_at 1 c.found (i - 1) (let a = n.0 in let b = n.1 in omega arith) in
      let low = k.low in let high = k.high in let count = h.walks.count in
      found_in G c h (vertex_at vs i) (low, omega (arith, low, high, count)) k.there g

  -- and each vertex of the component a number
  pub number_for : (u : ℕ) → InComponent G c.root u → (i : ℕ) × IsNumber (length vs) i × (vertex_at vs i ≡ u)
  number_for u i =
      let low = i.vertex.0 in let high = i.vertex.1 in let count = h.walks.count in
      let p = place_of vs u (subst (IsIn vs) (back u low) (in_list 1 c.found (u - 1) (omega (arith, low, high, count)) (in_found G c h u i g))) in
      let l = p.1 in (p.0 + 1, (omega arith, omega (arith, l)), ap (λ k. get_or vs k 0) (less p.0) ∙ p.2)
    where
      less : (k : ℕ) → k + 1 - 1 ≡ k
      less k = omega arith

  -- some vertex has one
  pub some_number : 1 ≤ length vs
  some_number =
      let n = number_for c.root (record {
        vertex = h.least.vertex;
        shift = zero_vector;
        walk = h.walks.walks c.root zero_vector h.least.vertex.0 h.walks.first;
      }) in
      let a = n.1.0 in let b = n.1.1 in omega (arith, a, b)

  -- the vertices rise
  pub numbers_rise : (i j : ℕ) → IsNumber (length vs) i → IsNumber (length vs) j → i < j → vertex_at vs i < vertex_at vs j
  numbers_rise i j n m l = vertices_rise 1 c.found (i - 1) (j - 1) (let a = n.0 in omega (arith, a, l)) (let a = m.0 in let b = m.1 in omega (arith, a, b))

  module _ (fs : List Arc) (w : AreEdgesOf G c G.edges fs) where
    abbrev pub H : Graph
    H = graph_with G.dimension (length vs) fs

    -- the graph is the part of the component
    pub is_part : IsPart G c.root (shift_at c.found) c.stairs (vertex_at vs) H
    is_part = record {
      dimension = refl;
      least = h.least;
      walks = tells G g c h;
      vertices = number_in;
      each = number_for;
      rising = numbers_rise;
      full = h.full;
      edges = written_as (InComponent G c.root) (IsEdgeOf G c) (IsWritten G.dimension (length vs) (shift_at c.found) (stair_base c.stairs) (vertex_at vs))
          (λ e f _ k. k.written) G.edges fs w;
    }

    -- so it is a graph
    pub is_graph : IsGraph H
    is_graph = part_graph G g c.root (shift_at c.found) c.stairs (vertex_at vs) H is_part

    -- within the limits
    pub is_small : (f : Arc) → IsIn fs f → IsWithin most_shift f.shift
    is_small f i = (written_for (InComponent G c.root) (IsEdgeOf G c) G.edges fs w f i).2.small

    pub few_edges : length fs ≤ most_edges
    few_edges = let l = written_few (InComponent G c.root) (IsEdgeOf G c) G.edges fs w in let k = s.edges in omega (arith, l, k)

    pub few_vertices : length vs ≤ most_vertices
    few_vertices = let a = vertices_few 1 c.found in let b = h.walks.count in let d = s.vertices in omega (arith, a, b, d)

    -- so it is small
    pub graph_small : IsSmall H
    graph_small = record {
      vertices = few_vertices;
      edges = few_edges;
      shifts = All-from_recursion (λ (f : Arc). IsWithin most_shift f.shift) fs (each fs is_small);
    }
      where
        each : (fs : List Arc) → ((f : Arc) → IsIn fs f → IsWithin most_shift f.shift) → AllByRecursion (λ (f : Arc). IsWithin most_shift f.shift) fs
        each [] k = tt
        each (f ∷ fs) k = (k f (inl refl), each fs (λ e i. k e (inr i)))

    -- whose edges rise
    pub edges_rise : AreRising G.edges → AreRising fs
    edges_rise r = pairs_from_rising Precedes fs (written_rise (InComponent G c.root) (IsEdgeOf G c)
        (λ e d f k a b l. written_below G c.root (shift_at c.found) c.stairs (vertex_at vs) H is_part e d f k a.written b.written l)
        G.edges fs w (rising_from_pairs Precedes G.edges r))

-- The edges that are written for a component may stand as a graph.

each_among : (d n : ℕ) (es : List RawEdge) → ((e : RawEdge) → IsIn es e → IsEdgeAmong d n e) → AllByRecursion (IsEdgeAmong d n) es
each_among d n [] h = tt
each_among d n (e ∷ es) h = (h e (inl refl), each_among d n es (λ f i. h f (inr i)))

in_image : (es : List RawEdge) (e : RawEdge) → IsIn es e → IsIn (map edge_of es) (edge_of e)
in_image [] e i = elim i [ ]
in_image (f ∷ es) e (inl s) = inl (ap edge_of s)
in_image (f ∷ es) e (inr i) = inr (in_image es e i)

pub edges_of_graph : (G : Graph) (g : IsGraph G) (s : IsSmall G) (c : Component) (h : IsComponent G c) (es : List RawEdge)
    → AreEdgesOf G c G.edges (map edge_of es) → AreRising G.edges
    → AreEdgesOfGraph G.dimension (length (vertices_of 1 c.found)) es
edges_of_graph G g s c h es w r =
    let fs = map edge_of es in let graph = is_graph G g s c h fs w in
    record {
      dimension = g.dimension;
      vertices = (some_number G g s c h, few_vertices G g s c h fs w);
      count = subst (λ n. n ≤ most_edges) (length-map es edge_of) (few_edges G g s c h fs w);
      each = All-from_recursion (IsEdgeAmong G.dimension (length (vertices_of 1 c.found))) es
          (each_among G.dimension (length (vertices_of 1 c.found)) es (λ e i.
          let k = in_image es e i in
          let edge = All-contains (IsEdge (H G g s c h fs w)) fs (edge_of e) graph.edges (contains_from_in fs (edge_of e) k) in
          record { first = edge.from; second = edge.to; flat = edge.shift; small = is_small G g s c h fs w (edge_of e) k; spelling = edge.spelling }));
      rising = edges_rise G g s c h fs w r;
    }

-- An edge of a component: where it stands, its closed walk, and its shift in the graph of the component.

-- a vertex that was found is in the list
pub among : (found : List (Option Vector)) (u : ℕ) → 1 ≤ u → u ≤ length found → IsSome (walk_to found u) → Contains (vertices_of 1 found) u
among found u low high some =
    rw (back u low) at (contains_from_in (vertices_of 1 found) (1 + (u - 1)) (in_list 1 found (u - 1) (omega (arith, low, high)) some))

-- the first wide part is one of the dimension
inside_of : (d p : ℕ) (k : Vector) (value : ℤ) → (d ≡ 2) ⊎ (d ≡ 3) → HasDimension d k → IsFirstWide k p value → p ≤ d
inside_of d p k value q r s = grind arith

module _ (G : Graph) (g : IsGraph G) (s : IsSmall G) (c : Component) (h : IsComponent G c) where
  -- the vertices are few
  pub few : length (vertices_of 1 c.found) ≤ most_vertices
  few = let a = vertices_few 1 c.found in let b = h.walks.count in let d = s.vertices in omega (arith, a, b, d)

  module _ (e : Arc) (i : Contains G.edges e) (some : IsSome (walk_to c.found e.from)) where
    pub edge : IsEdge G e
    edge = All-contains (IsEdge G) G.edges e g.edges i

    is_arc : IsArc G e
    is_arc = contains_from_in (arcs G) e (edge_in G.edges e (is_in G.edges e i))

    pub from : (1 ≤ e.from) × (e.from ≤ length c.found)
    from = (edge.from.0, subst (λ n. e.from ≤ n) (sym h.walks.count) edge.from.1)

    pub to : (1 ≤ e.to) × (e.to ≤ length c.found)
    to = (edge.to.0, subst (λ n. e.to ≤ n) (sym h.walks.count) edge.to.1)

    pub step : IsWithin most_shift e.shift
    step = All-contains (λ (a : Arc). IsWithin most_shift a.shift) G.edges e s.shifts i

    -- its head was found
    pub head : IsSome (walk_to c.found e.to)
    head = h.walks.closed e.from edge.from.0 some e is_arc refl

    -- its closed walk is in the lattice
    pub member : Members G.dimension c.stairs (generator_of c.found e)
    member = h.full.inside (generator_of c.found e) (generator_closed G g c.root (shift_at c.found) (tells G g c h) e is_arc
        (found_in G c h e.from edge.from some g))

    module _ (k : Vector) (flat : HasDimension G.dimension k) (sum : base_sum (stair_base c.stairs) k ≡ generator_of c.found e) where
      -- its shift
      pub shift_is : IsShiftIn G c.root e k
      shift_is =
          let P = h.chosen.each e.from (shift_at c.found e.from) edge.from.0 (walk_is (walk_to c.found e.from) some) in
          let Q = h.chosen.each e.to (shift_at c.found e.to) edge.to.0 (walk_is (walk_to c.found e.to) head) in
          record {
            tail = found_in G c h e.from edge.from some g;
            there = P.0;
            is_there = P.1;
            back = Q.0;
            is_back = Q.1;
            stairs = c.stairs;
            full = h.full;
            dimension = flat;
            coordinates = sum ∙ sym (λ t. minus (plus (P.2 t) e.shift) (Q.2 t));
          }

      -- if it is past the limit
      pub wide_at : (p : ℕ) (value : ℤ) → IsFirstWide k p value → IsWideAt G c.root e p value
      wide_at p value w = record { k = k; shift = shift_is; first = w; inside = inside_of G.dimension p k value g.dimension flat w }

      -- and if it is not
      pub edge_is : (u v : ℕ) → IsNumber (length (vertices_of 1 c.found)) u → IsNumber (length (vertices_of 1 c.found)) v
          → vertex_at (vertices_of 1 c.found) u ≡ e.from
          → vertex_at (vertices_of 1 c.found) v ≡ e.to → IsWithin most_shift k → IsEdgeOf G c e (arc u v k)
      edge_is u v p q a b w = record {
        written = record { from = a; to = b; from_number = p; to_number = q; dimension = flat; shift = sum };
        small = w;
      }

module _ (G : Graph) (g : IsGraph G) (s : IsSmall G) (c : Component) (h : IsComponent G c) (p : Part) (m : IsMadeOf G c p) where
  basis : IsStaircase (ClosedShift G c.root) G.dimension p.basis
  basis =
      let d = G.dimension in
      rw m.basis (same_staircase (Members d c.stairs) (ClosedShift G c.root) (λ w. (h.full.all w, h.full.inside w)) d (rows_of d c.stairs)
      (rows_are_basis d c.stairs (at_least_two d g.dimension) (at_most_three d g.dimension) h.full.shape))

  pub part_of_component : IsPartOf G c.root p
  part_of_component = record {
    T = shift_at c.found;
    chosen = λ u i. h.chosen.each u (shift_at c.found u) i.vertex.0 (walk_is (walk_to c.found u) (in_found G c h u i g));
    stairs = c.stairs;
    part = rw (m.graph.same, m.vertices) (is_part G g s c h m.graph.edges m.graph.each);
    count = ap length m.vertices ∙ sym (ap (λ (H : Graph). H.vertices) m.graph.same);
    rows = m.basis;
    basis = basis;
    copies = subst (HasCopies G c.root (shift_at c.found)) (sym m.copies) (copy_count G g c.root (shift_at c.found) c.stairs h.least (tells G g c h) h.full);
    size = m.copies;
    small = subst IsSmall (sym m.graph.same) (graph_small G g s c h m.graph.edges m.graph.each);
  }

  -- its first vertex is the root
  first_vertex : vertex_at (vertices_of 1 c.found) 1 ≡ c.root
  first_vertex =
      let vs = vertices_of 1 c.found in
      let here = number_for G g s c h c.root
      (record { vertex = h.least.vertex; shift = zero_vector; walk = h.walks.walks c.root zero_vector h.least.vertex.0 h.walks.first }) in
      let one = some_number G g s c h in
      let least = h.least.least (vertex_at vs 1) (number_in G g s c h 1 (omega arith, one)) in
      by here.0 here.1 here.2 one least (dec_lt 1 here.0)
    where
      by : (i : ℕ) → (1 ≤ i) × (i ≤ length (vertices_of 1 c.found)) → vertex_at (vertices_of 1 c.found) i ≡ c.root → 1 ≤ length (vertices_of 1 c.found)
          → c.root ≤ vertex_at (vertices_of 1 c.found) 1
          → Dec (1 < i) → vertex_at (vertices_of 1 c.found) 1 ≡ c.root
      by i n e one least (yes l) = absurd (let r = numbers_rise G g s c h 1 i (omega arith, one) n l in omega (arith, r, e, least))
      by i n e one least (no l) = ap (vertex_at (vertices_of 1 c.found)) (same i n.0 l) ∙ e
        where
          same : (i : ℕ) → 1 ≤ i → ¬ (1 < i) → 1 ≡ i
          same i a b = omega (arith, a, b)

  pub root_is : root_of p ≡ c.root
  root_is = ap (λ vs. vertex_at vs 1) m.vertices ∙ first_vertex

  pub part_at_root : IsPartOf G (root_of p) p
  part_at_root = subst (λ a. IsPartOf G a p) (sym root_is) part_of_component

  -- none of its edges is wide
  pub made_narrow : AreNarrow G c.root G.edges
  made_narrow e i t =
      let w = edge_written (InComponent G c.root) (IsEdgeOf G c) G.edges m.graph.edges m.graph.each e (is_in G.edges e i) t in
      (w.0.shift, shift_is G g s c h e i (in_found G c h e.from t g) w.0.shift w.2.written.dimension w.2.written.shift, w.2.small)
