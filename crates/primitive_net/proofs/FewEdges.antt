-- The primitive graph has no more edges and no more vertices than the graph.
use Rattle.std.proofs.Common.{◌≡◌, ℕ, suc, ◌≤◌, ◌<◌, ◌-◌, length, sym, ap, subst, ◌∙◌, arith}
use Rattle.integers.proofs.counting.Numbering.{not_fewer}
use Rattle.integers.proofs.lists.Members.{contains_from_in, is_in, not_longer}
use Rattle.integers.proofs.vectors.Laws.{minus_zero}
use Rattle.integers.specs.Vectors.{minus, Vector, zero_vector}
use Rattle.periodic_net.proofs.CallerLemmas.{arc_inside, both_length, moved_to, origin_vertex}
use Rattle.periodic_net.proofs.nets.Walks.{all_arcs_apart}
use Rattle.periodic_net.specs.Classes.{IsClassNumbering}
use Rattle.periodic_net.specs.Placement.{Placement}
use Rattle.periodic_net.specs.Graph.{AreJoined, Arc, arc, arcs, Graph, IsArc, IsGraph, IsQuotientVertex, IsVertex, moved, Vertex, vertex}
use Rattle.key_theory.proofs.CallerLemmas.{ClassIso}
use Rattle.key_theory.proofs.Reduction.{some_member}

module _ (G P : Graph) (class_of : ℕ → ℕ) (h : IsGraph P) (e : ClassIso G P class_of) where
  -- the vertices of the net that go to the ends of an arc
  tail : Arc → Vertex
  tail a = e.iso.back (vertex a.from zero_vector)

  head : Arc → Vertex
  head a = e.iso.back (vertex a.to a.shift)

  -- the arc between them
  between : Arc → Arc
  between a = arc (tail a).over (head a).over (minus (head a).cell (tail a).cell)

  is_from : (a : Arc) → IsArc P a → IsVertex P (vertex a.from zero_vector)
  is_from a i = origin_vertex P a.from (arc_inside P h a i).from

  is_to : (a : Arc) → IsArc P a → IsVertex P (vertex a.to a.shift)
  is_to a i = let r = arc_inside P h a i in record { over = r.to; cell = r.shift }

  -- it is an arc of the graph
  between_is_arc : (a : Arc) → IsArc P a → IsArc G (between a)
  unfolding between tail head
  between_is_arc a i =
      let joined : AreJoined P (vertex a.from zero_vector) (vertex a.to a.shift) =
      subst (λ (s : Vector). IsArc P (arc a.from a.to s)) (sym (minus_zero a.shift)) i in
      e.iso.back_joins (vertex a.from zero_vector) (vertex a.to a.shift) (is_from a i) (is_to a i) joined

  -- and it comes from one arc alone
  between_once : (a b : Arc) → IsArc P a → IsArc P b → between a ≡ between b → a ≡ b
  unfolding between tail head
  between_once a b i j same = λ k. arc (from k) ((ends k).over) ((ends k).cell)
    where
      vertex_back : (x : Vertex) → IsVertex P x → class_of (e.iso.back x).over ≡ x.over
      vertex_back x v = e.over (e.iso.back x) (e.iso.back_period.2.into x v) ∙ ap (λ (y : Vertex). y.over) (e.iso.there_back x v)

      from : a.from ≡ b.from
      from = sym (vertex_back (vertex a.from zero_vector) (is_from a i)) ∙ ap (λ (d : Arc). class_of d.from) same
          ∙ vertex_back (vertex b.from zero_vector) (is_from b j)

      tails : tail a ≡ tail b
      tails = ap (λ (u : ℕ). e.iso.back (vertex u zero_vector)) from

      moves : (x : Vertex) → moved x (minus x.cell x.cell) ≡ x
      moves x = moved_to x x (λ k. x.over)

      heads : head a ≡ head b
      heads =
          sym (moved_to (vertex (head a).over (tail a).cell) (head a) (λ k. (head a).over))
          ∙ (λ k. moved (vertex ((same k).to) ((tails k).cell)) ((same k).shift))
          ∙ moved_to (vertex (head b).over (tail b).cell) (head b) (λ k. (head b).over)

      ends : vertex a.to a.shift ≡ vertex b.to b.shift
      ends = sym (e.iso.there_back (vertex a.to a.shift) (is_to a i)) ∙ ap e.iso.there heads ∙ e.iso.there_back (vertex b.to b.shift) (is_to b j)

  -- so there are no more arcs
  few_arcs : length (arcs P) ≤ length (arcs G)
  few_arcs = not_longer (λ (a b : Arc). between a ≡ b) (arcs P) (arcs G) (all_arcs_apart P h) (record {
    into = λ a i. (between a, is_in (arcs G) (between a) (between_is_arc a (contains_from_in (arcs P) a i)), λ k. between a);
    once = λ a b c i j s t. between_once a b (contains_from_in (arcs P) a i) (contains_from_in (arcs P) b j) (s ∙ sym t);
  })

  -- and no more edges
  pub few_edges : length P.edges ≤ length G.edges
  few_edges = let a = few_arcs in let b = both_length P.edges in let c = both_length G.edges in omega arith

module _ (G : Graph) (p : Placement) (class_of : ℕ → ℕ) (n : ℕ) (k : IsClassNumbering G p class_of)
    (l : (u : ℕ) × IsQuotientVertex G u × (class_of u ≡ n)) where
  -- some member of the class after this many
  member : (x : ℕ) → x < n → (u : ℕ) × IsQuotientVertex G u × (class_of u ≡ suc x)
  member x less = some_member G p class_of n k l (suc x) (omega arith) (omega arith)

  -- classes are no more than vertices
  pub few_classes : n ≤ G.vertices
  few_classes = not_fewer n G.vertices (λ x less. (member x less).0 - 1)
      (λ x less. let a = (member x less).1.0 in let b = (member x less).1.1 in omega arith)
      (λ x y less more e.
      let i = (member x less).1.0 in let j = (member y more).1.0 in
      let same : (member x less).0 ≡ (member y more).0 = omega (arith, e, i, j) in
      let numbers : suc x ≡ suc y = sym (member x less).2 ∙ ap class_of same ∙ (member y more).2 in
      omega (arith, numbers))
