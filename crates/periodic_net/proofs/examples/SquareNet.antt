-- The square net: it is connected and stable, with its one vertex at the origin.
use Rattle.std.proofs.Common.{pos, ◌≡◌, ◌+ℤ◌, ◌-ℤ◌, ◌*ℤ◌, ◌∙◌, arith, sym, subst, ℕ, ℤ, negsuc, refl, [], ◌∷◌, unsigned_abs, ◌≤◌, List, length, ap, inl}
use Rattle.std.{proofs.Common.inr, proofs.Common.neg_ℤ, proofs.lemmas.Int.ints, proofs.Math.Nat.eq-one_of_dvd-one, specs.List.AllByRecursion}
use Rattle.integers.specs.Vectors.{vector, Vector, times, zero_vector, minus, HasDimension}
use Rattle.integers.proofs.lists.Members.{IsIn, is_in}
use Rattle.integers.proofs.{lists.Permutations.rising_pairs, vectors.Laws.vector_equal, vectors.StairBasis.times_in}
use Rattle.periodic_net.proofs.nets.Walks.{closed_group, arc_walk, connected_by_tree, IsTree, reached_itself}
use Rattle.periodic_net.specs.Graph.{Graph, IsGraph, IsEdge, arc, vertex, IsConnected, IsQuotientVertex, Vertex, IsWalk, Arc, arcs, IsVertex, AreJoined}
use Rattle.periodic_net.specs.Placement.{IsBarycentric, IsNormal, HasNoCollision, IsStablePlacement}
use Rattle.periodic_net.specs.Classes.{ClassGraph, ClassArc, ShareClass, IsClassNumbering, IsClassGraph, IsDistance}
use Rattle.periodic_net.specs.Split.{ClosedShift, WalkShift, Split, IsSplit, AreAlike, colour, entry}
use Rattle.periodic_net.specs.Examples.{square_net, square_placement, doubled_net}
use Rattle.periodic_net.{specs.Shells.IsInShell, proofs.Translations.share_reflexive, proofs.ClassArcs.class_arcs_shown}

-- the only vertex of the quotient graph
pub only_vertex : (u : ℕ) → IsQuotientVertex square_net u → u ≡ 1
only_vertex u i = let a = i.0 in let b = i.1 in omega arith

-- its edges are in normal spelling
square_edges : AllByRecursion (IsEdge square_net) square_net.edges
square_edges = search arith

-- so it is a graph
pub square_graph : IsGraph square_net
square_graph = search (arith, rising_pairs)

-- the steps to the four neighbours
abbrev pub right : Vector
right = vector (pos 1) (pos 0) (pos 0)

-- upward
abbrev pub up : Vector
up = vector (pos 0) (pos 1) (pos 0)

-- to the left
abbrev pub left : Vector
left = vector (negsuc 0) (pos 0) (pos 0)

-- downward
abbrev pub down : Vector
down = vector (pos 0) (negsuc 0) (pos 0)

-- with the steps to the right and upward all flat vectors are shifts of closed walks
pub flat_closed : (G : Graph) (a : ℕ) → ClosedShift G a right → ClosedShift G a up → (v : Vector) → HasDimension 2 v → ClosedShift G a v
flat_closed G a p q v f =
    let g = closed_group G a in let e : v.z ≡ pos 0 = f refl in
    subst (ClosedShift G a) (vector_equal (omega (arith, ints)) (omega (arith, ints)) (omega (arith, ints)))
    (g.sums (times v.x right) (times v.y up) (times_in (ClosedShift G a) g v.x right p) (times_in (ClosedShift G a) g v.y up q))

-- so the net is connected
pub square_connected : IsConnected square_net
square_connected = connected_by_tree square_net (λ u. zero_vector) tree
    (flat_closed square_net 1 (arc_walk square_net (arc 1 1 right) (0, omega arith, refl)) (arc_walk square_net (arc 1 1 up) (2, omega arith, refl)))
  where
    tree : IsTree square_net (λ u. zero_vector)
    tree = record {
      root = refl;
      walk = λ u i. subst (λ (n : ℕ). WalkShift square_net 1 n zero_vector) (sym (only_vertex u i)) (reached_itself square_net (vertex 1 zero_vector));
      dimension = λ u i d. refl;
    }

-- the vertex stands at the mean of its neighbours
square_barycentric : IsBarycentric square_net square_placement
unfolding square_placement
square_barycentric = search (arith, only_vertex)

-- nothing can be cancelled
square_normal : IsNormal square_net square_placement
unfolding square_placement
square_normal = record { origin = refl; reduced = λ k d h. eq-one_of_dvd-one d }

-- different vertices have different positions
square_no_collision : HasNoCollision square_net square_placement
unfolding square_placement
square_no_collision u v t c = search (arith, only_vertex)

-- so the net is stable
pub square_stable : IsStablePlacement square_net square_placement
square_stable = search (arith, square_connected, square_barycentric, square_normal, square_no_collision)

-- The class graph of the square net: one class, and four arcs.

-- an arc from the one class to itself
abbrev pub loop : Vector → ClassArc
loop v = record { from = 1; to = 1; vector = v }

-- the class graph
abbrev pub square_classes : ClassGraph
square_classes = record { dimension = 2; count = 1; arcs = loop right ∷ loop left ∷ loop up ∷ loop down ∷ [] }

-- the one class has the number 1
square_numbering : IsClassNumbering square_net square_placement (λ u. 1)
square_numbering = record {
  positive = λ u i. omega arith;
  classes = λ u v i j. (
    (λ e. subst (λ (w : ℕ). ShareClass square_net square_placement u w) (only_vertex u i ∙ sym (only_vertex v j))
        (share_reflexive square_net square_placement square_stable.no_collision u i)),
    (λ s. refl),
  );
  in_order = λ u c i a b. absurd (omega arith);
}

-- the class graph has one class and four arcs
pub square_is_classes : IsClassGraph square_net square_placement (λ u. 1) square_classes
unfolding square_placement
square_is_classes = record {
  dimension = refl;
  numbering = square_numbering;
  below = λ u i. omega arith;
  last = (1, (omega arith, omega arith), refl);
  arcs = class_arcs_shown square_placement (λ u. 1) square_net square_classes.arcs refl;
  different = rising_pairs (λ (a : ClassArc). unsigned_abs (a.vector.x +ℤ pos 4 *ℤ a.vector.y -ℤ pos 1)) square_classes.arcs refl;
}

-- A shell and a distance of the square net: neither definition is empty.

-- a walk to the right has a step
some_step : (steps : List Vertex) → IsWalk square_net (vertex 1 zero_vector) steps (vertex 1 right) → 1 ≤ length steps
some_step [] e = let x : pos 0 ≡ pos 1 = ap (λ (w : Vertex). w.cell.x) e in absurd (omega (arith, ints))
some_step (y ∷ ys) h = omega arith

-- the neighbour to the right is in shell 1
pub square_shell : IsInShell square_net (vertex 1 zero_vector) 1 (vertex 1 right)
square_shell = record {
  reached = (vertex 1 right ∷ [], refl, ((0, omega arith, refl), refl));
  no_fewer = λ j h. subst (λ (n : ℕ). 1 ≤ n) h.1 (some_step h.0 h.2);
}

-- the one class has distance 0 from itself
pub square_distance : IsDistance square_classes 1 1 0
square_distance = record { leads = refl; least = λ j h. omega arith }

-- A net that is not connected, and its colouring: columns of vertices have two colours in turn.

-- colours modulo 2, by the first part of the cell
abbrev columns : Split
columns = record { q = 2; c = vector (pos 1) (pos 0) (pos 0); h = pos 0 ∷ [] }

-- a vertex has the entry 0
no_entry : (w : Vertex) → IsVertex doubled_net w → entry columns.h w.over ≡ pos 0
no_entry w i = let l = i.over.0 in let h = i.over.1 in let e : w.over ≡ 1 = omega arith in ap (entry (pos 0 ∷ [])) e

-- a step along an edge changes the first part by a multiple of 2
step : (w x : Vertex) → IsIn (arcs doubled_net) (arc w.over x.over (minus x.cell w.cell)) → (k : ℤ) × (x.cell.x -ℤ w.cell.x ≡ pos 2 *ℤ k)
step w x (inl e) = (pos 1, sym (ap (λ (a : Arc). a.shift.x) e))
step w x (inr (inl e)) = (negsuc 0, sym (ap (λ (a : Arc). a.shift.x) e))
step w x (inr (inr (inl e))) = (pos 0, sym (ap (λ (a : Arc). a.shift.x) e))
step w x (inr (inr (inr (inl e)))) = (pos 0, sym (ap (λ (a : Arc). a.shift.x) e))
step w x (inr (inr (inr (inr h)))) = absurd h

-- so joined vertices have equal colours
same_colour : (w x : Vertex) → IsVertex doubled_net w → IsVertex doubled_net x → AreJoined doubled_net w x → AreAlike 2 (colour columns w) (colour columns x)
same_colour w x i j a =
    let s = step w x (is_in (arcs doubled_net) (arc w.over x.over (minus x.cell w.cell)) a) in
    let p = no_entry w i in let q = no_entry x j in (neg_ℤ s.0, omega (arith, ints))

-- the colouring is a split
pub doubled_split : IsSplit doubled_net columns
doubled_split = record {
  joined = same_colour;
  two = (
    vertex 1 zero_vector,
    vertex 1 (vector (pos 1) (pos 0) (pos 0)),
    inside zero_vector (λ d. refl),
    inside (vector (pos 1) (pos 0) (pos 0)) (λ d. refl),
    λ k. let e = k.1 in omega (arith, ints),
  );
}
  where
    inside : (v : Vector) → HasDimension 2 v → IsVertex doubled_net (vertex 1 v)
    inside v f = record { over = (omega arith, omega arith); cell = f }
