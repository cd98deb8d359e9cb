-- Steps and walks of a net: one after another, turned round, and moved; the shifts of closed walks are a group.
use Rattle.std.proofs.Common.{◌*◌, length, refl, arith, sym, ap, ◌≡◌, ◌⊎◌, ◌==◌, [], ◌∷◌, ◌∙◌, inr, inl, List, subst, ℕ, eq-eqb, neg_ℤ, ◌++◌, ◌+ℤ◌, ℤ}
use Rattle.std.proofs.lemmas.List.Elements.{recursion_from_All, All-from_recursion, All-contains}
use Rattle.std.{proofs.Common.◌-ℤ◌, proofs.Math.IntN.neg_ℤ-neg_ℤ, proofs.lemmas.Bool.eqb-true, proofs.lemmas.Int.ints, specs.List.AllByRecursion}
use Rattle.integers.specs.Vectors.{vector, HasDimension, minus, zero_vector, Vector, plus, opposite}
use Rattle.integers.proofs.lists.Members.{contains_from_in, is_in, IsIn, AreApart, apart_from_pairs, all_in, filter_apart, in_filter, filter_in}
use Rattle.integers.proofs.vectors.Laws.{plus_minus, minus_shifted, opposite_minus, vector_equal, zero_plus, minus_dimension, minus_zero, plus_commutative}
use Rattle.integers.{proofs.numbers.Ring.linear, proofs.vectors.Directions.not_both, specs.Lattices.IsVectorGroup, proofs.lists.ListOrder.at_most_both}
use Rattle.periodic_net.specs.Graph.{IsNormalSpelling, Arc, reverse_of, arc, both_ways, IsEdge, Graph, IsGraph, arcs, arcs_from, IsArc, IsQuotientVertex}
use Rattle.periodic_net.specs.Graph.{IsVertex, Vertex, AreJoined, vertex, moved, IsWalk, IsReached, IsConnected}
use Rattle.periodic_net.specs.Chosen.{IsPath, path_shift, path_key, IsChosen}
use Rattle.periodic_net.specs.{Split.ClosedShift, Split.WalkShift, Split.generator, Components.InComponent, Components.TellsWalks}

-- No arc of a graph stands twice in its list.

-- an edge has one normal spelling
pub one_spelling : (e : Arc) → IsNormalSpelling e → IsNormalSpelling (reverse_of e) → ⊥
one_spelling e l p = search (arith, not_both)

-- an arc turned twice is the arc
pub reverse_twice : (a : Arc) → reverse_of (reverse_of a) ≡ a
reverse_twice a = λ i. arc a.from a.to (vector (neg_ℤ-neg_ℤ a.shift.x i) (neg_ℤ-neg_ℤ a.shift.y i) (neg_ℤ-neg_ℤ a.shift.z i))

-- an arc of the list is an edge, or turned it is one
pub either_way : (es : List Arc) (a : Arc) → IsIn (both_ways es) a → IsIn es a ⊎ IsIn es (reverse_of a)
either_way [] a h = elim h [ ]
either_way (e ∷ es) a (inl h) = inl (inl h)
either_way (e ∷ es) a (inr (inl h)) = inr (inl (sym (reverse_twice e) ∙ ap reverse_of h))
either_way (e ∷ es) a (inr (inr h)) = elim (either_way es a h) [ inl i ↦ inl (inr i) | inr i ↦ inr (inr i) ]

-- no arc stands twice among the arcs of edges that do not
both_apart : (G : Graph) (es : List Arc) → AllByRecursion (IsEdge G) es → AreApart es → AreApart (both_ways es)
both_apart G [] h a = tt
both_apart G (e ∷ es) h a = (first, (second, both_apart G es h.1 a.1))
  where
    other : IsIn es (reverse_of e) → ⊥
    other i = one_spelling e h.0.spelling ((all_in (IsEdge G) es (reverse_of e) h.1 i).spelling)

    second : ¬ IsIn (both_ways es) (reverse_of e)
    second i = elim (either_way es (reverse_of e) i) [ inl j ↦ other j | inr j ↦ a.0 (subst (IsIn es) (reverse_twice e) j) ]

    first : ¬ IsIn (reverse_of e ∷ both_ways es) e
    first (inl k) = one_spelling e h.0.spelling (subst IsNormalSpelling (sym k) h.0.spelling)
    first (inr k) = elim (either_way es e k) [ inl j ↦ a.0 j | inr j ↦ other j ]

-- no arc of a graph stands twice
pub all_arcs_apart : (G : Graph) → IsGraph G → AreApart (arcs G)
all_arcs_apart G g = both_apart G G.edges (recursion_from_All (IsEdge G) G.edges g.edges) (apart_from_pairs G.edges g.different)

-- nor among those from a vertex
pub arcs_apart : (G : Graph) → IsGraph G → (u : ℕ) → AreApart (arcs_from G u)
arcs_apart G g u = filter_apart (λ a. a.from == u) (arcs G) (all_arcs_apart G g)

-- the arcs from u are the arcs whose tail is u
pub from_is_arc : (G : Graph) (u : ℕ) (a : Arc) → IsIn (arcs_from G u) a → IsArc G a × (a.from ≡ u)
from_is_arc G u a h = let r = in_filter (λ b. b.from == u) (arcs G) a h in (contains_from_in (arcs G) a r.0, eqb-true a.from u r.1)

-- and the other way
pub arc_is_from : (G : Graph) (u : ℕ) (a : Arc) → IsArc G a → a.from ≡ u → IsIn (arcs_from G u) a
arc_is_from G u a h e = filter_in (λ b. b.from == u) (arcs G) a (is_in (arcs G) a h) (eq-eqb a.from u e)

-- an edge is in the list of the arcs
pub edge_in : (es : List Arc) (e : Arc) → IsIn es e → IsIn (both_ways es) e
edge_in [] e h = elim h [ ]
edge_in (f ∷ es) e (inl h) = inl h
edge_in (f ∷ es) e (inr h) = inr (inr (edge_in es e h))

-- with an arc its reverse is in the list
pub reverse_in : (es : List Arc) (a : Arc) → IsIn (both_ways es) a → IsIn (both_ways es) (reverse_of a)
reverse_in [] a h = elim h [ ]
reverse_in (e ∷ es) a (inl h) = inr (inl (ap reverse_of h))
reverse_in (e ∷ es) a (inr (inl h)) = inl (sym (reverse_twice e) ∙ ap reverse_of h)
reverse_in (e ∷ es) a (inr (inr h)) = inr (inr (reverse_in es a h))

-- the reverse of an arc is an arc
pub arc_turned : (G : Graph) (a : Arc) → IsArc G a → IsArc G (reverse_of a)
arc_turned G a h = contains_from_in (arcs G) (reverse_of a) (reverse_in G.edges a (is_in (arcs G) a h))

-- a list of edges gives twice as many arcs
pub both_length : (es : List Arc) → length (both_ways es) ≡ 2 * length es
both_length [] = refl
both_length (e ∷ es) = let h = both_length es in omega arith

-- Arcs stay among the vertices of the quotient graph, and steps among the vertices of the net.

-- the ends of a are vertices of the quotient graph, and its shift has the dimension
pub record IsInside (G : Graph) (a : Arc) : Type 0 where
  pub from : IsQuotientVertex G a.from
  pub to : IsQuotientVertex G a.to
  pub shift : HasDimension G.dimension a.shift

-- so it is of an edge
edge_inside : (G : Graph) (e : Arc) → IsEdge G e → IsInside G e
edge_inside G e h = record { from = h.from; to = h.to; shift = h.shift }

-- and of its reverse
reverse_inside : (G : Graph) (e : Arc) → IsInside G e → IsInside G (reverse_of e)
reverse_inside G e h = record { from = h.to; to = h.from; shift = λ d. ap neg_ℤ (h.shift d) }

-- and of all arcs of a list of edges
pub both_inside : (G : Graph) (es : List Arc) → AllByRecursion (IsEdge G) es → AllByRecursion (IsInside G) (both_ways es)
both_inside G [] h = tt
both_inside G (e ∷ es) h = let i = edge_inside G e h.0 in (i, (reverse_inside G e i, both_inside G es h.1))

-- and of each arc of a graph
pub arc_inside : (G : Graph) → IsGraph G → (a : Arc) → IsArc G a → IsInside G a
arc_inside G g a h = All-contains (IsInside G) (arcs G) a (All-from_recursion (IsInside G) (arcs G)
    (both_inside G G.edges (recursion_from_All (IsEdge G) G.edges g.edges))) h

-- what is joined to a vertex of the net is one
pub joined_inside : (G : Graph) → IsGraph G → (w x : Vertex) → IsVertex G w → AreJoined G w x → IsVertex G x
joined_inside G g w x i h =
    let a = arc_inside G g (arc w.over x.over (minus x.cell w.cell)) h in
    record { over = a.to; cell = λ d. let s = a.shift d in let t = i.cell d in omega (arith, ints) }

-- a vertex of the quotient graph, in cell 0, is a vertex of the net
pub origin_vertex : (G : Graph) (u : ℕ) → IsQuotientVertex G u → IsVertex G (vertex u zero_vector)
origin_vertex G u i = record { over = i; cell = λ d. refl }

-- joined vertices, by equal names
pub same_joined : {w x y z : Vertex} (G : Graph) → w ≡ y → x ≡ z → AreJoined G w x → AreJoined G y z
same_joined G h k = subst (λ (t : Type 0). t) (λ i. AreJoined G (h i) (k i))

-- to be joined is to be joined when both are moved
pub joined_moved : (G : Graph) (w x : Vertex) (k : Vector) → AreJoined G (moved w k) (moved x k) ≡ AreJoined G w x
joined_moved G w x k = ap (λ (v : Vector). IsArc G (arc w.over x.over v)) (minus_shifted x.cell w.cell k)

-- a step can be gone back
pub joined_turned : (G : Graph) (w x : Vertex) → AreJoined G w x → AreJoined G x w
joined_turned G w x h = subst (λ (s : Vector). IsArc G (arc x.over w.over s)) (opposite_minus x.cell w.cell)
    (arc_turned G (arc w.over x.over (minus x.cell w.cell)) h)

-- a vertex, moved by the difference of the cells, is the other vertex over the same
pub moved_to : (x y : Vertex) → x.over ≡ y.over → moved x (minus y.cell x.cell) ≡ y
moved_to x y e = λ i. vertex (e i) (plus_minus x.cell y.cell i)

-- walks follow one another
pub walks_joined : (G : Graph) (w x y : Vertex) (us vs : List Vertex) → IsWalk G w us x → IsWalk G x vs y → IsWalk G w (us ++ vs) y
walks_joined G w x y [] vs h k = subst (λ (a : Vertex). IsWalk G a vs y) (sym h) k
walks_joined G w x y (u ∷ us) vs h k = (h.0, walks_joined G u x y us vs h.1 k)

-- what is reached from a vertex that is reached is reached
pub reached_transitive : (G : Graph) (w x y : Vertex) → IsReached G w x → IsReached G x y → IsReached G w y
reached_transitive G w x y h k = (h.0 ++ k.0, walks_joined G w x y h.0 k.0 h.1 k.1)

-- each vertex is reached from itself
pub reached_itself : (G : Graph) (w : Vertex) → IsReached G w w
reached_itself G w = ([], refl)

-- a joined vertex is reached
pub reached_by_arc : (G : Graph) (w x : Vertex) → AreJoined G w x → IsReached G w x
reached_by_arc G w x h = (x ∷ [], (h, refl))

-- what is reached, by equal names
pub same_reached : {w x y z : Vertex} (G : Graph) → w ≡ y → x ≡ z → IsReached G w x → IsReached G y z
same_reached G h k = subst (λ (t : Type 0). t) (λ i. IsReached G (h i) (k i))

-- a walk, moved
walk_moved : (G : Graph) (k : Vector) (steps : List Vertex) (w x : Vertex) → IsWalk G w steps x → IsReached G (moved w k) (moved x k)
walk_moved G k [] w x h = same_reached G refl (ap (λ (y : Vertex). moved y k) h) (reached_itself G (moved w k))
walk_moved G k (y ∷ ys) w x h =
    reached_transitive G (moved w k) (moved y k) (moved x k) (reached_by_arc G (moved w k) (moved y k)
    (subst (λ (t : Type 0). t) (sym (joined_moved G w y k)) h.0)) (walk_moved G k ys y x h.1)

-- moved by one vector, what is reached is reached
pub reached_moved : (G : Graph) (w x : Vertex) (k : Vector) → IsReached G w x → IsReached G (moved w k) (moved x k)
reached_moved G w x k h = walk_moved G k h.0 w x h.1

-- a walk, gone back
walk_turned : (G : Graph) (steps : List Vertex) (w x : Vertex) → IsWalk G w steps x → IsReached G x w
walk_turned G [] w x h = same_reached G h refl (reached_itself G w)
walk_turned G (y ∷ ys) w x h = reached_transitive G x y w (walk_turned G ys y x h.1) (reached_by_arc G y w (joined_turned G w y h.0))

-- what is reached from w reaches w
pub reached_turned : (G : Graph) (w x : Vertex) → IsReached G w x → IsReached G x w
reached_turned G w x h = walk_turned G h.0 w x h.1

-- a step along an arc
pub reached_by_shift : (G : Graph) (u v : ℕ) (s t t' : Vector) → IsArc G (arc u v s) → t' ≡ plus t s → IsReached G (vertex u t) (vertex v t')
reached_by_shift G u v s t t' a e =
    let d : minus t' t ≡ s = rw e (vector_equal (omega (arith, ints)) (omega (arith, ints)) (omega (arith, ints))) in
    reached_by_arc G (vertex u t) (vertex v t') (subst (λ (x : Vector). IsArc G (arc u v x)) (sym d) a)

-- A net with one walk to each vertex, and with all closed walks, is connected.

module _ (G : Graph) where
  -- to each vertex u of the quotient graph a walk from vertex 1, with the shift T u
  pub record IsTree (T : ℕ → Vector) : Type 0 where
    pub root : T 1 ≡ zero_vector
    pub walk : (u : ℕ) → IsQuotientVertex G u → WalkShift G 1 u (T u)
    pub dimension : (u : ℕ) → IsQuotientVertex G u → HasDimension G.dimension (T u)

  -- if each vector is the shift of a closed walk, each vertex is reached from vertex 1
  reached_from_one : (T : ℕ → Vector) → IsTree T → ((v : Vector) → HasDimension G.dimension v → ClosedShift G 1 v) → (w : Vertex) → IsVertex G w
      → IsReached G (vertex 1 zero_vector) w
  reached_from_one T t all w i =
      let k = minus w.cell (T w.over) in
      let d = minus_dimension G.dimension w.cell (T w.over) i.cell (t.dimension w.over i.over) in
      let walk = reached_moved G (vertex 1 zero_vector) (vertex w.over (T w.over)) k (t.walk w.over i.over) in
      reached_transitive G (vertex 1 zero_vector) (vertex 1 k) w (all k d)
      (same_reached G (ap (vertex 1) (zero_plus k)) (ap (vertex w.over) (plus_minus (T w.over) w.cell)) walk)

  -- and the net is connected
  pub connected_by_tree : (T : ℕ → Vector) → IsTree T → ((v : Vector) → HasDimension G.dimension v → ClosedShift G 1 v) → IsConnected G
  connected_by_tree T t all w x i j =
      reached_transitive G w (vertex 1 zero_vector) x (reached_turned G (vertex 1 zero_vector) w (reached_from_one T t all w i)) (reached_from_one T t all x j)

-- a walk from a vertex of the net ends at one
walk_inside : (G : Graph) → IsGraph G → (steps : List Vertex) (w x : Vertex) → IsVertex G w → IsWalk G w steps x → IsVertex G x
walk_inside G g [] w x i h = subst (IsVertex G) h i
walk_inside G g (y ∷ ys) w x i h = walk_inside G g ys y x (joined_inside G g w y i h.0) h.1

-- what is reached from a vertex of the net is one
pub reached_inside : (G : Graph) → IsGraph G → (w x : Vertex) → IsVertex G w → IsReached G w x → IsVertex G x
reached_inside G g w x i h = walk_inside G g h.0 w x i h.1

-- the shift of a walk has the dimension of the graph
pub walk_dimension : (G : Graph) → IsGraph G → (a u : ℕ) (T : Vector) → IsQuotientVertex G a → WalkShift G a u T → HasDimension G.dimension T
walk_dimension G g a u T q h = let i = reached_inside G g (vertex a zero_vector) (vertex u T) (origin_vertex G a q) h in i.cell

-- a walk, and then another
pub walks_add : (G : Graph) (a b c : ℕ) (v w : Vector) → WalkShift G a b v → WalkShift G b c w → WalkShift G a c (plus w v)
walks_add G a b c v w h k =
    reached_transitive G (vertex a zero_vector) (vertex b v) (vertex c (plus w v)) h
    (same_reached G (ap (vertex b) (zero_plus v)) refl (reached_moved G (vertex b zero_vector) (vertex c w) v k))

-- a walk, gone back
pub walk_back : (G : Graph) (a b : ℕ) (v : Vector) → WalkShift G a b v → WalkShift G b a (opposite v)
walk_back G a b v h =
    same_reached G
    (ap (vertex b) (vector_equal (omega (arith, ints)) (omega (arith, ints)) (omega (arith, ints))))
    (ap (vertex a) (zero_plus (opposite v)))
    (reached_moved G (vertex b v) (vertex a zero_vector) (opposite v) (reached_turned G (vertex a zero_vector) (vertex b v) h))

-- the shifts of closed walks are a group
pub closed_group : (G : Graph) (a : ℕ) → IsVectorGroup (ClosedShift G a)
closed_group G a = search (arith, reached_itself, walks_add, walk_back)

-- two walks to one vertex differ by a closed walk
pub closed_difference : (G : Graph) (a u : ℕ) (S T : Vector) → WalkShift G a u S → WalkShift G a u T → ClosedShift G a (minus S T)
closed_difference G a u S T s t =
    let start = vertex a zero_vector in
    let back = reached_moved G (vertex u T) start (minus S T) (reached_turned G start (vertex u T) t) in
    reached_transitive G start (vertex u S) (vertex a (minus S T)) s
    (same_reached G (ap (vertex u) (plus_minus T S)) (ap (vertex a) (zero_plus (minus S T))) back)

-- To be in the component of a vertex is an equivalence.

-- each vertex is with itself
pub with_itself : (G : Graph) (a : ℕ) → IsQuotientVertex G a → InComponent G a a
with_itself G a q = record { vertex = q; shift = zero_vector; walk = reached_itself G (vertex a zero_vector) }

-- the other way
pub with_turned : (G : Graph) (a b : ℕ) → IsQuotientVertex G a → InComponent G a b → InComponent G b a
with_turned G a b q h = record { vertex = q; shift = opposite h.shift; walk = walk_back G a b h.shift h.walk }

-- one after the other
pub with_transitive : (G : Graph) (a b c : ℕ) → InComponent G a b → InComponent G b c → InComponent G a c
with_transitive G a b c h k = record { vertex = k.vertex; shift = plus k.shift h.shift; walk = walks_add G a b c h.shift k.shift h.walk k.walk }

-- The edges of a component, with one walk to each vertex, generate the shifts of its closed walks.

-- the walk along one arc
pub arc_walk : (G : Graph) (f : Arc) → IsArc G f → WalkShift G f.from f.to f.shift
arc_walk G f h = search (arith, reached_by_arc, minus_zero)

-- an arc leads to the same component
pub arc_with : (G : Graph) → IsGraph G → (f : Arc) → IsArc G f → InComponent G f.from f.to
arc_with G g f h = let i = arc_inside G g f h in record { vertex = i.to; shift = f.shift; walk = arc_walk G f h }

module _ (G : Graph) (g : IsGraph G) (a : ℕ) (T : ℕ → Vector) (t : TellsWalks G a T) where
  -- the shift of the closed walk of an arc
  pub generator_closed : (f : Arc) → IsArc G f → InComponent G a f.from → ClosedShift G a (generator T f)
  generator_closed f h w =
      let p = T f.from in let q = T f.to in let s = f.shift in
      let v = with_transitive G a f.from f.to w (arc_with G g f h) in
      subst (ClosedShift G a) (vector_equal (omega (arith, linear)) (omega (arith, linear)) (omega (arith, linear)))
      (walks_add G a f.to a (plus s p) (opposite q) (walks_add G a f.from f.to p s (t.walks f.from w) (arc_walk G f h)) (walk_back G a f.to q (t.walks f.to v)))

  -- along a walk the generators add up
  generated : (L : Vector → Type 0) → IsVectorGroup L → ((f : Arc) → IsArc G f → InComponent G a f.from → L (generator T f))
      → (steps : List Vertex) (w x : Vertex) → InComponent G a w.over → IsWalk G w steps x → L (minus w.cell (T w.over)) → L (minus x.cell (T x.over))
  generated L l gens [] w x i h m = subst (λ (y : Vertex). L (minus y.cell (T y.over))) h m
  generated L l gens (y ∷ ys) w x i h m =
      let f = arc w.over y.over (minus y.cell w.cell) in
      generated L l gens ys y x (with_transitive G a w.over y.over i (arc_with G g f h.0)) h.1
      (subst L (vector_equal (omega (arith, linear)) (omega (arith, linear))
      (omega (arith, linear)))
      (l.sums (minus w.cell (T w.over)) (generator T f) m (gens f h.0 i)))

  at_start : (v r : Vector) → r ≡ zero_vector → minus v r ≡ v
  at_start v r e = ap (minus v) e ∙ minus_zero v

  turned_part : (p s q : ℤ) → neg_ℤ ((p +ℤ s) -ℤ q) ≡ (q +ℤ neg_ℤ s) -ℤ p
  turned_part p s q = omega (arith, linear)

  turned : (e : Arc) → opposite (generator T e) ≡ generator T (reverse_of e)
  turned e = simp (vector_equal, turned_part)

  -- what holds for the edges of the component holds for its arcs
  arcs_of_edges : (L : Vector → Type 0) → IsVectorGroup L → (es : List Arc) → ((f : Arc) → IsIn (both_ways es) f → IsArc G f)
      → ((e : Arc) → IsIn es e → InComponent G a e.from → L (generator T e)) → (f : Arc) → IsIn (both_ways es) f → InComponent G a f.from → L (generator T f)
  arcs_of_edges L l [] all gens f h w = elim h [ ]
  arcs_of_edges L l (e ∷ es) all gens f (inl h) w = gens f (inl h) w
  arcs_of_edges L l (e ∷ es) all gens f (inr (inl h)) w =
      let r = all (reverse_of e) (inr (inl refl)) in
      let v : InComponent G a e.to = subst (InComponent G a) (ap (λ (x : Arc). x.from) (sym h)) w in
      let u = with_transitive G a e.to e.from v (arc_with G g (reverse_of e) r) in
      subst (λ x. L (generator T x)) h (subst L (turned e) (l.opposites (generator T e) (gens e (inl refl) u)))
  arcs_of_edges L l (e ∷ es) all gens f (inr (inr h)) w = arcs_of_edges L l es (λ x i. all x (inr (inr i))) (λ x i. gens x (inr i)) f h w

  -- a lattice that has the generators of the edges has the shift of each closed walk
  pub closed_generated : (L : Vector → Type 0) → IsVectorGroup L → ((e : Arc) → IsIn G.edges e → InComponent G a e.from → L (generator T e))
      → InComponent G a a → (v : Vector) → ClosedShift G a v → L v
  closed_generated L l gens i v h =
      subst L (at_start v (T a) t.start)
      (generated L l (λ f j. arcs_of_edges L l G.edges (contains_from_in (arcs G)) gens f (is_in (arcs G) f j)) h.0 (vertex a zero_vector) (vertex a v) i h.1
      (subst L (sym (at_start zero_vector (T a) t.start)) l.zero))

-- The shift of a path is that of a walk, and there is one chosen path.

-- the shift of a path is that of a walk
pub path_walk : (G : Graph) (a u : ℕ) (fs : List Arc) → IsPath G a fs u → WalkShift G a u (path_shift fs)
path_walk G a u [] p = same_reached G refl (ap (λ v. vertex v zero_vector) p) (reached_itself G (vertex a zero_vector))
path_walk G a u (f ∷ fs) p =
    subst (λ b. WalkShift G b u (plus f.shift (path_shift fs))) p.1
    (subst (WalkShift G f.from u) (plus_commutative (path_shift fs) f.shift)
    (walks_add G f.from f.to u f.shift (path_shift fs) (arc_walk G f p.0) (path_walk G f.to u fs p.2)))

-- paths from one vertex with one list are equal
one_list : (G : Graph) (a b u v : ℕ) (fs gs : List Arc) → a ≡ b → IsPath G a fs u → IsPath G b gs v → path_key fs ≡ path_key gs → fs ≡ gs
one_list G a b u v [] [] e p q k = refl
one_list G a b u v [] (h ∷ gs) e p q k = cc
one_list G a b u v (f ∷ fs) [] e p q k = cc
one_list G a b u v (f ∷ fs) (h ∷ gs) e p q k =
    let to : f.to ≡ h.to = cc in let x : f.shift.x ≡ h.shift.x = cc in let y : f.shift.y ≡ h.shift.y = cc in
    let z : f.shift.z ≡ h.shift.z = cc in let from : f.from ≡ h.from = p.1 ∙ e ∙ sym q.1 in
    let rest : path_key fs ≡ path_key gs = cc in
    λ i. arc (from i) (to i) (vector (x i) (y i) (z i)) ∷ one_list G f.to h.to u v fs gs to p.2 q.2 rest i

-- there is one chosen path
pub one_chosen : (G : Graph) (a u : ℕ) (P Q : List Arc) → IsChosen G a u P → IsChosen G a u Q → P ≡ Q
one_chosen G a u P Q h k = search (arith, one_list, at_most_both)
