-- A sorted list of different arcs rises strictly, and lists of edges, as they stand or in order, are those of graphs.
use Rattle.std.proofs.Common.{◌≡◌, ◌≢◌, List, ℕ, ◌≤◌, map, get_or, sym, subst, ◌<◌, ◌∙◌, ◌⊎◌, inl, inr, [], ◌∷◌, refl, ap, ℤ, pos, arith}
use Rattle.std.proofs.lemmas.List.Elements.{All-map, All-weaker}
use Rattle.std.proofs.lemmas.List.Sorted.{All-permutation, length_permutation, Contains-permutation, IsPermutation-sym}
use Rattle.std.specs.declared.cmp.Ordering.TheVariants.{Less}
use Rattle.std.{proofs.lemmas.Cmp.lists_total, proofs.lemmas.Cmp.int_cmp_total, proofs.Math.ListN.get_or-map, proofs.lemmas.List.length-map}
use Rattle.std.{specs.List.AllPairs, specs.List.All, specs.List.Sorted.IsSorted, specs.List.Sorted.IsPermutation, specs.Ordering.int_cmp}
use Rattle.std.{specs.Ordering.ordering_reverse, specs.Cmp.Lexicographic.slice_cmp, specs.declared.cmp.Ordering.Ordering}
use Rattle.integers.proofs.lists.Members.{pairs_from_apart, IsIn, contains_from_in, is_in}
use Rattle.integers.proofs.lists.Permutations.{permuted_pairs, rising_from_pairs, same_rising}
use Rattle.integers.specs.Vectors.{vector, HasDimension, IsWithin, IsBelow}
use Rattle.integers.proofs.{vectors.Laws.ends_tell, vectors.Laws.unit_base, lists.ListOrder.below_transitive, lists.ListOrder.not_below_itself}
use Rattle.periodic_net.specs.Graph.{Arc, arc, IsGraph, IsEdge, IsQuotientVertex, Graph, arcs_from, IsArc, IsVertex, Vertex, both_ways, reverse_of}
use Rattle.periodic_net.specs.Limits.{most_shift, most_edges, IsSmall}
use Rattle.periodic_net.{specs.Maps.Iso, proofs.CallerLemmas.arcs_apart, proofs.CallerLemmas.identity_periodic}
use Rattle.quotient_graph.specs.Stars.{graph_with, star_at, IsGraphInMemory, IsInOrder, IsStar}
use Rattle.quotient_graph.specs.{Order.arc_numbers, Order.AreRising, Building.EdgeFits, Building.AreStars, EdgeLists.IsEdgeAmong, EdgeLists.AreEdgesOfGraph}
use Rattle.cgd_read.specs.{Spelling.edge_of, declared.edge.RawEdge.RawEdge}
use Rattle.integers.proofs.lists.ListOrder as rising

-- the order of arcs, by their numbers
abbrev pub arc_cmp : Arc → Arc → Ordering
arc_cmp a b = slice_cmp int_cmp (arc_numbers a) (arc_numbers b)

-- the numbers of an arc determine it
pub arc_from_numbers : (a b : Arc) → arc_numbers a ≡ arc_numbers b → a ≡ b
arc_from_numbers a b e = let t = ends_tell a.from a.to b.from b.to a.shift b.shift e in λ i. arc ((t.0) i) ((t.1) i) ((t.2) i)

-- a sorted list of different arcs rises
pub rising_from_sorted : (xs : List Arc) → IsSorted arc_cmp xs → AllPairs (λ a b. a ≢ b) xs → AreRising xs
rising_from_sorted = rising.rising_from_sorted arc_numbers arc_from_numbers

-- different arcs, after a sort
pub rising_after_sort : (xs ys : List Arc) → IsPermutation xs ys → IsSorted arc_cmp ys → AllPairs (λ a b. a ≢ b) xs → AreRising ys
rising_after_sort = rising.rising_after_sort arc_numbers arc_from_numbers

-- A graph that is made from a list of edges as it stands.

turned : (o : Ordering) → o ≡ ordering_reverse o → o ≡ Less → ⊥
turned o h k = cc

-- no arc is below itself
below_is_other : (a b : Arc) → slice_cmp int_cmp (arc_numbers a) (arc_numbers b) ≡ Less → a ≡ b → ⊥
below_is_other a b l e =
    turned (slice_cmp int_cmp (arc_numbers a) (arc_numbers a)) ((lists_total int_cmp_total).antisymm (arc_numbers a) (arc_numbers a))
    (subst (λ (c : Arc). slice_cmp int_cmp (arc_numbers a) (arc_numbers c) ≡ Less) (sym e) l)

-- arcs that rise are different
pub different_from_rising : (as' : List Arc) → AreRising as' → AllPairs (λ a b. a ≢ b) as'
different_from_rising as' rising i j d l m e = below_is_other (get_or as' i d) (get_or as' j d) (rising i j d l m) e

-- the edges of such a list are those of a graph
pub listed_graph : (d n : ℕ) (es : List RawEdge) → AreEdgesOfGraph d n es → IsGraph (graph_with d n (map edge_of es))
listed_graph d n es h =
    let G = graph_with d n (map edge_of es) in
    record {
      dimension = h.dimension;
      vertices = h.vertices.0;
      edges = All-map (IsEdge G) edge_of es
          (All-weaker (IsEdgeAmong d n) (λ e. IsEdge G (edge_of e)) (λ e w. record { from = w.first; to = w.second; shift = w.flat; spelling = w.spelling }) es
          h.each);
      different = different_from_rising (map edge_of es) h.rising;
    }

-- which is within the limits
pub listed_small : (d n : ℕ) (es : List RawEdge) → AreEdgesOfGraph d n es → IsSmall (graph_with d n (map edge_of es))
listed_small d n es h = record {
  vertices = h.vertices.1;
  edges = subst (λ k. k ≤ most_edges) (sym (length-map es edge_of)) h.count;
  shifts = All-map (λ a. IsWithin most_shift a.shift) edge_of es
      (All-weaker (IsEdgeAmong d n) (λ e. IsWithin most_shift (vector e.x e.y e.z)) (λ e w. w.small) es h.each);
}

-- their shifts are flat in dimension 2
pub listed_flat : (d n : ℕ) (es : List RawEdge) → AreEdgesOfGraph d n es → All (λ (e : RawEdge). HasDimension d (vector e.x e.y e.z)) es
listed_flat d n es h = All-weaker (IsEdgeAmong d n) (λ e. HasDimension d (vector e.x e.y e.z)) (λ e w. w.flat) es h.each

-- Lists that are made from the edges of a graph are those of a graph in memory.

pub edges_fit : (G : Graph) → IsGraph G → IsSmall G → All (EdgeFits G.vertices) G.edges
edges_fit G g s k d l = search arith

-- the list of a vertex is its star
pub is_star : (G : Graph) (stars : List (List Arc)) → IsGraph G → AreStars G.vertices G.edges stars → (u : ℕ) → IsQuotientVertex G u
    → IsStar G u (star_at stars u)
is_star G stars g h u v = record {
  all = (h.each u v.0 v.1).same;
  rising = rising_from_sorted _ (h.each u v.0 v.1).sorted (permuted_pairs (arcs_from G u) _ (h.each u v.0 v.1).same
      (pairs_from_apart (arcs_from G u) (arcs_apart G g u)));
}

-- a graph with its lists of arcs
pub is_in_memory : (G : Graph) (stars : List (List Arc)) → IsGraph G → IsSmall G → AreRising G.edges → AreStars G.vertices G.edges stars
    → IsGraphInMemory G stars
is_in_memory G stars g s r h = record {
  is_graph = g;
  small = s;
  rising = r;
  count = h.count;
  each = is_star G stars g h;
}

-- the edges of a graph in another order
pub reordered : (d n : ℕ) (es fs : List Arc) → IsPermutation es fs → IsGraph (graph_with d n es) → IsGraph (graph_with d n fs)
reordered d n es fs p g = record {
  dimension = g.dimension;
  vertices = g.vertices;
  edges = λ k e l. let h = All-permutation (IsEdge (graph_with d n es)) es fs p g.edges k e l in
      record { from = h.from; to = h.to; shift = h.shift; spelling = h.spelling };
  different = permuted_pairs es fs p g.different;
}

pub reordered_small : (d n : ℕ) (es fs : List Arc) → IsPermutation es fs → IsSmall (graph_with d n es) → IsSmall (graph_with d n fs)
reordered_small d n es fs p s = record {
  vertices = s.vertices;
  edges = subst (λ k. k ≤ most_edges) (sym (length_permutation es fs p)) s.edges;
  shifts = All-permutation (λ e. IsWithin most_shift e.shift) es fs p s.shifts;
}

-- From edges that were read to a graph whose edges rise.

-- the shifts of a graph in dimension 2 are flat
pub flat_edges : (d n : ℕ) (es : List RawEdge) → IsGraph (graph_with d n (map edge_of es)) → All (λ (e : RawEdge). HasDimension d (vector e.x e.y e.z)) es
flat_edges d n es h k e l two =
    let edge = rw (get_or-map edge_of es k e) at (h.edges k (edge_of e) (subst (λ n. k < n) (sym (length-map es edge_of)) l)) in
    edge.shift two

-- A graph with its edges in order is one, and has the arcs and the net of the graph.

-- the edge that an arc belongs to
record HasEdge (es : List Arc) (a : Arc) : Type 0 where
  edge : Arc
  there : IsIn es edge
  way : (edge ≡ a) ⊎ (reverse_of edge ≡ a)

-- each arc has an edge
edge_of_arc : (es : List Arc) (a : Arc) → IsIn (both_ways es) a → HasEdge es a
edge_of_arc [] a h = elim h [ ]
edge_of_arc (e ∷ es) a (inl h) = record { edge = e; there = inl refl; way = inl h }
edge_of_arc (e ∷ es) a (inr (inl h)) = record { edge = e; there = inl refl; way = inr h }
edge_of_arc (e ∷ es) a (inr (inr h)) = let r = edge_of_arc es a h in record { edge = r.edge; there = inr r.there; way = r.way }

-- an edge and its reverse are arcs
arcs_of_edge : (es : List Arc) (e : Arc) → IsIn es e → IsIn (both_ways es) e × IsIn (both_ways es) (reverse_of e)
arcs_of_edge [] e h = elim h [ ]
arcs_of_edge (x ∷ es) e (inl h) = (inl h, inr (inl (ap reverse_of h)))
arcs_of_edge (x ∷ es) e (inr h) = let r = arcs_of_edge es e h in (inr (inr r.0), inr (inr r.1))

-- an arc of a graph is one of each graph with its edges in another order
pub same_arc : (G H : Graph) → IsPermutation G.edges H.edges → (a : Arc) → IsArc G a → IsArc H a
same_arc G H p a h =
    let r = edge_of_arc G.edges a (is_in (both_ways G.edges) a h) in
    let moved = arcs_of_edge H.edges r.edge (is_in H.edges r.edge (Contains-permutation G.edges H.edges r.edge p (contains_from_in G.edges r.edge r.there))) in
    contains_from_in (both_ways H.edges) a
    (elim r.way [ inl e ↦ subst (IsIn (both_ways H.edges)) e moved.0 | inr e ↦ subst (IsIn (both_ways H.edges)) e moved.1 ])

-- graphs of one dimension with as many vertices have the same vertices in their nets
vertex_in : (G H : Graph) → G.vertices ≡ H.vertices → G.dimension ≡ H.dimension → (w : Vertex) → IsVertex G w → IsVertex H w
vertex_in G H v d w i = record { over = (i.over.0, subst (λ n. w.over ≤ n) v i.over.1); cell = λ e. i.cell (d ∙ e) }

-- a graph with its edges in order has the net of the graph
pub in_order_iso : (G H : Graph) → IsInOrder G H → Iso G H
in_order_iso G H o =
    let there = vertex_in G H (sym o.vertices) (sym o.dimension) in
    let back = vertex_in H G o.vertices o.dimension in let g = identity_periodic G in
    let h = identity_periodic H in
    record {
      dimension = sym o.dimension;
      there = λ w. w;
      back = λ w. w;
      there_period = (1, unit_base, record { positive = g.positive; into = there; repeats = g.repeats });
      back_period = (1, unit_base, record { positive = h.positive; into = back; repeats = h.repeats });
      back_there = λ w i. refl;
      there_back = λ w i. refl;
      there_joins = λ w x i j e. same_arc G H o.edges _ e;
      back_joins = λ w x i j e. same_arc H G (IsPermutation-sym G.edges H.edges o.edges) _ e;
    }

-- a graph has one list of its edges in order
pub one_in_order : (G H K : Graph) → IsInOrder G H → IsInOrder G K → H ≡ K
one_in_order G H K a b =
    let dimension = a.dimension ∙ sym b.dimension in let vertices = a.vertices ∙ sym b.vertices in
    λ i. record { dimension = dimension i; vertices = vertices i; edges = edges i }
  where
    edges : H.edges ≡ K.edges
    edges = same_rising (λ (e d : Arc). IsBelow (arc_numbers e) (arc_numbers d)) (λ e. not_below_itself (arc_numbers e))
        (λ x y z. below_transitive (arc_numbers x) (arc_numbers y) (arc_numbers z)) H.edges K.edges
        (rising_from_pairs (λ (e d : Arc). IsBelow (arc_numbers e) (arc_numbers d)) H.edges a.rising)
        (rising_from_pairs (λ (e d : Arc). IsBelow (arc_numbers e) (arc_numbers d)) K.edges b.rising)
        (λ e. (
          (λ i. is_in K.edges e (Contains-permutation G.edges K.edges e b.edges
              (Contains-permutation H.edges G.edges e (IsPermutation-sym G.edges H.edges a.edges) (contains_from_in H.edges e i)))),
          (λ i. is_in H.edges e (Contains-permutation G.edges H.edges e a.edges
              (Contains-permutation K.edges G.edges e (IsPermutation-sym G.edges K.edges b.edges) (contains_from_in K.edges e i)))),
        ))

-- The edges of the square net are those of a graph.

abbrev loop_of : ℤ → ℤ → RawEdge
loop_of x y = record { u = 1; v = 1; x = x; y = y; z = pos 0 }

abbrev pub square_edges : List RawEdge
square_edges = loop_of (pos 0) (pos 1) ∷ loop_of (pos 1) (pos 0) ∷ []

up : IsEdgeAmong 2 1 (loop_of (pos 0) (pos 1))
up = grind arith

right : IsEdgeAmong 2 1 (loop_of (pos 1) (pos 0))
right = grind arith

edges_rise : AreRising (map edge_of square_edges)
edges_rise h k p q r = grind arith
