-- The net of a part is, for each shift, the copy of it as a net of its own; and theorems on it.
use Rattle.std.proofs.Common.{◌≡◌, ◌⊎◌, inl, inr, ℕ, ◌<◌, ℤ, ◌+ℤ◌, ◌-ℤ◌, ◌*ℤ◌, ◌<ℤ◌, pos, sym, ap, subst, ◌∙◌, arith, List, [], ◌∷◌}
use Rattle.std.proofs.Common.{refl}
use Rattle.std.proofs.{lemmas.Int.ints, lemmas.List.Elements.recursion_from_All, lemmas.List.Elements.All-from_recursion, Math.IntN.*ℤ_comm}
use Rattle.integers.specs.Vectors.{Vector, plus, minus, StartsPositive, HasDimension, parts, IsBelow, zero_vector, vector, dot}
use Rattle.integers.proofs.numbers.Ring.{ring, linear, product_zero, other_factor_zero}
use Rattle.integers.proofs.vectors.Laws.{vector_equal, plus_dimension, plus_cancel, plus_associative, base_sum_minus, base_sum_plus}
use Rattle.integers.proofs.lists.Members.{apart_from_pairs, pairs_from_apart, contains_from_in, is_in, IsIn}
use Rattle.integers.proofs.vectors.Directions.{starts_x, starts_y, starts_z, start_of, Precedes, below_head, below_rest, below_ways, parts_below, precedes}
use Rattle.integers.proofs.numbers.Order.{three_ways, pos_same, multiple_below, positive_is_some}
use Rattle.integers.{specs.Bases.base_sum, specs.Bases.Base, proofs.lists.ListOrder.not_below_itself}
use Rattle.vecdim.specs.{Stairs.Stairs, Stairs.HasStairShape, Lattices.Members}
use Rattle.periodic_net.specs.Graph.{Graph, IsGraph, Arc, IsEdge, IsNormalSpelling, arc, arcs, Vertex, vertex, moved, IsVertex, AreJoined, IsQuotientVertex}
use Rattle.periodic_net.specs.Graph.{IsWalk, IsReached, IsConnected}
use Rattle.periodic_net.proofs.CallerLemmas.{with_itself, walk_dimension, joined_inside, reached_by_arc, reached_itself, reached_transitive, same_reached}
use Rattle.periodic_net.{specs.Components.InComponent, proofs.nets.Walks.same_joined}
use Rattle.net_components.specs.PartGraphs.{stair_base, IsWritten, IsPart, image, IsNetOf}
use Rattle.net_components.specs.PartLaws.{CopiesAreClasses, PartsAreNets, CopiesAreCounted, RanksAreOne}
use Rattle.net_components.proofs.PartArcs.{lifted_is, lifted, arcs_lifted, arcs_written, at_once, lifted_once, written_all, written_apart, sum_member}
use Rattle.net_components.proofs.PartArcs.{member_sum, sum_once, one_normal, one_stair}
use Rattle.net_components.proofs.Covered.{copy_joined, copy_closed, in_copy, copies_meet, copies_same, one_component, copy_count, one_count}
use Rattle.net_components.specs.{ComponentSets.InCopy, Ranks.IsFlatAt, Ranks.IsFullAt}

-- The graph of a part is a quotient graph.

-- a factor beside a positive one has the sign of the product
positive_factor : (k a : ℤ) → pos 0 <ℤ a → pos 0 <ℤ (k *ℤ a) → pos 0 <ℤ k
positive_factor k a q r = grind (arith, multiple_below, *ℤ_comm)

-- a factor beside a positive one is 0 if the product is
pub zero_factor : (k a : ℤ) → pos 0 <ℤ a → k *ℤ a ≡ pos 0 → k ≡ pos 0
zero_factor k a h e = other_factor_zero a k (*ℤ_comm a k ∙ e) (positive_is_some a h)

module _ (d : ℕ) (S : Stairs) (h : HasStairShape d S) where
  first : (k l n a : ℤ) → k *ℤ a +ℤ (l *ℤ pos 0 +ℤ n *ℤ pos 0) ≡ k *ℤ a
  first k l n a = simp ring (omega (arith, ints))

  second : (k l n b e : ℤ) → k ≡ pos 0 → k *ℤ b +ℤ (l *ℤ e +ℤ n *ℤ pos 0) ≡ l *ℤ e
  second k l n b e z = let p = ap (λ t. t *ℤ b) z in omega (arith, linear, simp ring at p, product_zero n)

  third : (k l n c f i : ℤ) → k ≡ pos 0 → l ≡ pos 0 → k *ℤ c +ℤ (l *ℤ f +ℤ n *ℤ i) ≡ n *ℤ i
  third k l n c f i z y = let p = ap (λ t. t *ℤ c) z in let q = ap (λ t. t *ℤ f) y in omega (arith, linear, simp ring at p, simp ring at q)

  -- coordinates start positive where the vector does
  pub coordinates_start : (k v : Vector) → base_sum (stair_base S) k ≡ v → StartsPositive v → StartsPositive k
  coordinates_start k v e s = by (start_of v s).which
    where
      at_x : k.x *ℤ S.first_x ≡ v.x
      at_x = sym (first k.x k.y k.z S.first_x) ∙ ap (λ (w : Vector). w.x) e

      at_y : k.x ≡ pos 0 → k.y *ℤ S.second_y ≡ v.y
      at_y z = sym (second k.x k.y k.z S.first_y S.second_y z) ∙ ap (λ (w : Vector). w.y) e

      at_z : k.x ≡ pos 0 → k.y ≡ pos 0 → k.z *ℤ S.third_z ≡ v.z
      at_z z y = sym (third k.x k.y k.z S.first_z S.second_z S.third_z z y) ∙ ap (λ (w : Vector). w.z) e

      by : (pos 0 <ℤ v.x) ⊎ ((v.x ≡ pos 0) × (pos 0 <ℤ v.y)) ⊎ ((v.x ≡ pos 0) × (v.y ≡ pos 0) × (pos 0 <ℤ v.z)) → StartsPositive k
      by (inl p) = starts_x k (positive_factor k.x S.first_x h.reduced.first_x (subst (λ t. pos 0 <ℤ t) (sym at_x) p))
      by (inr (inl p)) =
          let x = zero_factor k.x S.first_x h.reduced.first_x (at_x ∙ p.0) in
          starts_y k x (positive_factor k.y S.second_y h.reduced.second_y (subst (λ t. pos 0 <ℤ t) (sym (at_y x)) p.1))
      by (inr (inr p)) =
          let x = zero_factor k.x S.first_x h.reduced.first_x (at_x ∙ p.0) in
          let y = zero_factor k.y S.second_y h.reduced.second_y (at_y x ∙ p.1) in
          starts_z k x y (positive_factor k.z S.third_z h.reduced.third_z (subst (λ t. pos 0 <ℤ t) (sym (at_z x y)) p.2))

module _ (G : Graph) (g : IsGraph G) (a : ℕ) (T : ℕ → Vector) (S : Stairs) (at : ℕ → ℕ) (H : Graph) (p : IsPart G a T S at H) where
  around : (t s u : Vector) → t ≡ u → minus (plus t s) u ≡ s
  around t s u e = ap (minus (plus t s)) (sym e) ∙ vector_equal (same t.x s.x) (same t.y s.y) (same t.z s.z)
    where
      same : (t s : ℤ) → (t +ℤ s) -ℤ t ≡ s
      same t s = omega (arith, linear)

  -- a written edge is in normal spelling
  spelling : (e f : Arc) → IsEdge G e → IsWritten G.dimension H.vertices T (stair_base S) at e f → IsNormalSpelling f
  spelling e f h w = by h.spelling (three_ways f.from f.to)
    where
      by : IsNormalSpelling e → (f.from < f.to) ⊎ (f.to < f.from) ⊎ (f.from ≡ f.to) → IsNormalSpelling f
      by s (inl l) = inl l
      by (inl s) (inr (inl l)) = absurd (let r = p.rising f.to f.from w.to_number w.from_number l in let x = w.from in let y = w.to in omega arith)
      by (inl s) (inr (inr q)) = absurd (let x = w.from in let y = w.to in let z = ap at q in omega arith)
      by (inr s) (inr (inl l)) = absurd (let r = p.rising f.to f.from w.to_number w.from_number l in let x = w.from in let y = w.to in let z = s.0 in
          omega arith)
      by (inr s) (inr (inr q)) = inr (
        q,
        coordinates_start G.dimension S p.full.shape f.shift e.shift
            (w.shift ∙ around (T e.from) e.shift (T e.to) (ap T s.0)) s.1,
      )

  -- and an edge
  edge : (e f : Arc) → IsEdge G e → IsWritten G.dimension H.vertices T (stair_base S) at e f → IsEdge H f
  edge e f h w = record { from = w.from_number; to = w.to_number; shift = λ q. w.dimension (sym p.dimension ∙ q); spelling = spelling e f h w }

  -- what is written determines the edge
  once : (d e f : Arc) → IsWritten G.dimension H.vertices T (stair_base S) at d f → IsWritten G.dimension H.vertices T (stair_base S) at e f → d ≡ e
  once d e f w v =
      sym (lifted_is G.dimension H.vertices (InComponent G a) T (stair_base S) at d f w)
      ∙ lifted_is G.dimension H.vertices (InComponent G a) T (stair_base S) at e f v

  -- the part is a quotient graph
  pub part_graph : IsGraph H
  part_graph = record {
    dimension = subst (λ n. (n ≡ 2) ⊎ (n ≡ 3)) (sym p.dimension) g.dimension;
    vertices = let n = p.each a (with_itself G a p.least.vertex) in let l = n.1 in omega arith;
    edges = All-from_recursion (IsEdge H) H.edges
        (written_all (InComponent G a) (IsWritten G.dimension H.vertices T (stair_base S) at) (IsEdge G) (IsEdge H) edge G.edges H.edges p.edges
        (recursion_from_All (IsEdge G) G.edges g.edges));
    different = pairs_from_apart H.edges
        (written_apart (InComponent G a) (IsWritten G.dimension H.vertices T (stair_base S) at) once G.edges H.edges p.edges
        (apart_from_pairs G.edges g.different));
  }

module _ (G : Graph) (g : IsGraph G) (a : ℕ) (T : ℕ → Vector) (S : Stairs) (at : ℕ → ℕ) (H : Graph) (p : IsPart G a T S at H) (r : Vector)
    (rd : HasDimension G.dimension r) where
  abbrev d : ℕ
  d = G.dimension

  abbrev b : Base
  b = stair_base S

  abbrev map : Vertex → Vertex
  map = image at T b r

  -- the dimension of a vertex of the part's net, in the net
  flat : (w : Vertex) → IsVertex H w → HasDimension d w.cell
  flat w i = λ e. i.cell (p.dimension ∙ e)

  less : (t r s : ℤ) → (((t +ℤ r) +ℤ s) -ℤ t) -ℤ r ≡ s
  less t r s = omega (arith, linear)

  into : (w : Vertex) → IsVertex H w → IsVertex G (map w) × InCopy G a T r (map w)
  into w i =
      let u = p.vertices w.over i.over in let t = T (at w.over) in let s = base_sum b w.cell in
      let m = sum_member d S p.full.shape w.cell (flat w i) in (
        record {
          over = u.vertex;
          cell = plus_dimension d (plus t r) s (plus_dimension d t r (walk_dimension G g a (at w.over) t p.least.vertex (p.walks.walks (at w.over) u)) rd) m.1;
        },
        record {
          over = u;
          cell = p.full.all (minus (minus (plus (plus t r) s) t) r) (subst (λ v. vecdim_members v)
              (sym (vector_equal (less t.x r.x s.x) (less t.y r.y s.y) (less t.z r.z s.z))) m);
        },
      )
    where
      vecdim_members : Vector → Type 0
      vecdim_members v = Members d S v

  again : (t r s c : ℤ) → s ≡ (c -ℤ t) -ℤ r → (t +ℤ r) +ℤ s ≡ c
  again t r s c e = omega (arith, linear, e)

  onto : (x : Vertex) → IsVertex G x → InCopy G a T r x → (w : Vertex) × IsVertex H w × (map w ≡ x)
  onto x i h =
      let n = p.each x.over h.over in let t = T x.over in let v = minus (minus x.cell t) r in
      let m = member_sum d S p.full.shape v (p.full.inside v h.cell) in let k = m.0 in
      let s = base_sum b k in (
        vertex n.0 k,
        record { over = n.1; cell = λ e. m.1 (sym p.dimension ∙ e) },
        (λ j. vertex (n.2 j) (plus (plus (T (n.2 j)) r) s))
            ∙ ap (vertex x.over) (vector_equal (again t.x r.x s.x x.cell.x (ap (λ (y : Vector). y.x) m.2))
            (again t.y r.y s.y x.cell.y (ap (λ (y : Vector). y.y) m.2)) (again t.z r.z s.z x.cell.z (ap (λ (y : Vector). y.z) m.2))),
      )

  one : (w x : Vertex) → IsVertex H w → IsVertex H x → map w ≡ map x → w ≡ x
  one w x i j h =
      let u = at_once G g a T S at H p w.over x.over i.over j.over (ap (λ (y : Vertex). y.over) h) in
      let s = plus_cancel (plus (T (at w.over)) r) (base_sum b w.cell) (base_sum b x.cell)
      (ap (λ (y : Vertex). y.cell) h ∙ (λ k. plus (plus (T (at (sym u k))) r) (base_sum b x.cell))) in
      let k = sum_once d S p.full.shape w.cell x.cell s in λ l. vertex (u l) (k l)

  repeats : (w : Vertex) (k : Vector) → map (moved w k) ≡ moved (map w) (base_sum b k)
  repeats w k =
      ap (vertex (at w.over))
      (ap (plus (plus (T (at w.over)) r)) (base_sum_plus b w.cell k) ∙ sym (plus_associative (plus (T (at w.over)) r) (base_sum b w.cell) (base_sum b k)))

  step : (t r s t' s' k : ℤ) → k ≡ s' -ℤ s → (k +ℤ t') -ℤ t ≡ ((t' +ℤ r) +ℤ s') -ℤ ((t +ℤ r) +ℤ s)
  step t r s t' s' k e = omega (arith, linear, e)

  -- the arc between the images is the one that the arc between the vertices is written for
  pub step_is : (w x : Vertex) → lifted d H.vertices (InComponent G a) T b at (arc w.over x.over (minus x.cell w.cell)) ≡ arc (at w.over) (at x.over)
      (minus (map x).cell (map w).cell)
  step_is w x =
      let t = T (at w.over) in let t' = T (at x.over) in let s = base_sum b w.cell in
      let s' = base_sum b x.cell in let k = base_sum b (minus x.cell w.cell) in
      let e = base_sum_minus b x.cell w.cell in
      ap (arc (at w.over) (at x.over)) (vector_equal
      (step t.x r.x s.x t'.x s'.x k.x (ap (λ (y : Vector). y.x) e)) (step t.y r.y s.y t'.y s'.y k.y (ap (λ (y : Vector). y.y) e))
      (step t.z r.z s.z t'.z s'.z k.z (ap (λ (y : Vector). y.z) e)))

  there_joined : (w x : Vertex) → AreJoined H w x → AreJoined G (map w) (map x)
  there_joined w x h =
      let f = arc w.over x.over (minus x.cell w.cell) in
      contains_from_in (arcs G) (arc (at w.over) (at x.over) (minus (map x).cell (map w).cell))
      (subst (IsIn (arcs G)) (step_is w x) (arcs_lifted d H.vertices (InComponent G a) T b at G.edges H.edges p.edges f (is_in (arcs H) f h)))

  back_joined : (w x : Vertex) → IsVertex H w → IsVertex H x → AreJoined G (map w) (map x) → AreJoined H w x
  back_joined w x i j h =
      let f = arc w.over x.over (minus x.cell w.cell) in
      let e = arc (at w.over) (at x.over) (minus (map x).cell (map w).cell) in
      contains_from_in (arcs H) f
      (arcs_written d H.vertices (InComponent G a) T b at (lifted_once G g a T S at H p) p.vertices G.edges H.edges p.edges f
      (record { from = i.over; to = j.over })
      (subst (IsIn (arcs G)) (sym (step_is w x)) (is_in (arcs G) e h)))

  -- the net of the part is that of the copy
  pub part_net : IsNetOf G H (InCopy G a T r) b map
  part_net = record { into = into; onto = onto; one = one; joined = λ w x i j. (there_joined w x, back_joined w x i j); repeats = repeats }

-- Written edges keep their order: by tail, by head, and by shift.

-- the order of numbers, by their difference
up : (x y : ℤ) → x <ℤ y → pos 0 <ℤ (y -ℤ x)
up x y h = omega (arith, linear)

down : (x y : ℤ) → pos 0 <ℤ (y -ℤ x) → x <ℤ y
down x y h = omega (arith, linear)

none : (x y : ℤ) → x ≡ y → y -ℤ x ≡ pos 0
none x y e = omega (arith, linear, e)

equal : (x y : ℤ) → y -ℤ x ≡ pos 0 → x ≡ y
equal x y e = omega (arith, linear, e)

-- the difference to a later vector starts positive
difference_starts : (v w : Vector) → Precedes v w → StartsPositive (minus w v)
difference_starts v w (inl l) = starts_x (minus w v) (up v.x w.x l)
difference_starts v w (inr (e, inl l)) = starts_y (minus w v) (none v.x w.x e) (up v.y w.y l)
difference_starts v w (inr (e, inr (f, l))) = starts_z (minus w v) (none v.x w.x e) (none v.y w.y f) (up v.z w.z l)

-- and the other way
starts_difference : (v w : Vector) → StartsPositive (minus w v) → Precedes v w
starts_difference v w h = elim (start_of (minus w v) h).which [
  | inl l ↦ inl (down v.x w.x l)
  | inr (inl p) ↦ inr (equal v.x w.x p.0, inl (down v.y w.y p.1))
  | inr (inr p) ↦ inr (equal v.x w.x p.0, inr (equal v.y w.y p.1, down v.z w.z p.2))
]

apart : (t s r u : ℤ) → ((t +ℤ r) -ℤ u) -ℤ ((t +ℤ s) -ℤ u) ≡ r -ℤ s
apart t s r u = omega (arith, linear)

-- coordinates keep the order of the shifts of two edges with the same ends
pub shifts_below : (d : ℕ) (S : Stairs) → HasStairShape d S → (k l s r t u : Vector) → base_sum (stair_base S) k ≡ minus (plus t s) u
    → base_sum (stair_base S) l ≡ minus (plus t r) u
    → IsBelow (parts 3 s) (parts 3 r) → IsBelow (parts 3 k) (parts 3 l)
shifts_below d S h k l s r t u e f b =
    parts_below k l (starts_difference k l (coordinates_start d S h (minus l k) (minus r s)
    (base_sum_minus (stair_base S) l k ∙ (λ i. minus (f i) (e i)) ∙ vector_equal (apart t.x s.x r.x u.x) (apart t.y s.y r.y u.y) (apart t.z s.z r.z u.z))
    (difference_starts s r (precedes s r b))))

-- the tail, the head and the shift of an arc
abbrev pub numbers_of : Arc → List ℤ
numbers_of f = pos f.from ∷ pos f.to ∷ parts 3 f.shift

module _ (G : Graph) (a : ℕ) (T : ℕ → Vector) (S : Stairs) (at : ℕ → ℕ) (H : Graph) (p : IsPart G a T S at H) where
  -- numbers are in the order of their vertices
  number_below : (i j : ℕ) → IsQuotientVertex H i → IsQuotientVertex H j → pos (at i) <ℤ pos (at j) → pos i <ℤ pos j
  number_below i j q r l = elim (three_ways i j) [
    | inl m ↦ omega (arith, ints)
    | inr (inl m) ↦ absurd (let n = p.rising j i r q m in omega (arith, ints))
    | inr (inr e) ↦ absurd (let f = ap at e in omega (arith, ints, f))
  ]

  number_same : (i j : ℕ) → IsQuotientVertex H i → IsQuotientVertex H j → pos (at i) ≡ pos (at j) → pos i ≡ pos j
  number_same i j q r l = elim (three_ways i j) [
    | inl m ↦ absurd (let n = p.rising i j q r m in omega (arith, ints, l))
    | inr (inl m) ↦ absurd (let n = p.rising j i r q m in omega (arith, ints, l))
    | inr (inr e) ↦ ap pos e
  ]

  -- written edges are in the order of the edges
  pub written_below : (e e' f f' : Arc) → IsWritten G.dimension H.vertices T (stair_base S) at e f → IsWritten G.dimension H.vertices T (stair_base S) at e' f'
      → IsBelow (numbers_of e) (numbers_of e') → IsBelow (numbers_of f) (numbers_of f')
  written_below e e' f f' w w' h = elim (below_ways (pos e.from) (pos e'.from) (pos e.to ∷ parts 3 e.shift) (pos e'.to ∷ parts 3 e'.shift) h) [
    | inl l ↦ below_head (pos f.from) (pos f'.from) (pos f.to ∷ parts 3 f.shift) (pos f'.to ∷ parts 3 f'.shift)
        (number_below f.from f'.from w.from_number w'.from_number (rw (w.from, w'.from) l))
    | inr q ↦ below_rest (pos f.from) (pos f'.from) (pos f.to ∷ parts 3 f.shift) (pos f'.to ∷ parts 3 f'.shift)
        (number_same f.from f'.from w.from_number w'.from_number (ap pos w.from ∙ q.0 ∙ ap pos (sym w'.from)))
        (elim (below_ways (pos e.to) (pos e'.to) (parts 3 e.shift) (parts 3 e'.shift) q.1) [
          | inl l ↦ below_head (pos f.to) (pos f'.to) (parts 3 f.shift) (parts 3 f'.shift)
              (number_below f.to f'.to w.to_number w'.to_number (rw (w.to, w'.to) l))
          | inr r ↦ below_rest (pos f.to) (pos f'.to) (parts 3 f.shift) (parts 3 f'.shift)
              (number_same f.to f'.to w.to_number w'.to_number (ap pos w.to ∙ r.0 ∙ ap pos (sym w'.to)))
              (shifts_below G.dimension S p.full.shape f.shift f'.shift e.shift e'.shift (T e.from) (T e.to) w.shift
              (w'.shift ∙ (λ i. minus (plus (T (pos_same e'.from e.from (sym q.0) i)) e'.shift) (T (pos_same e'.to e.to (sym r.0) i)))) r.1)
        ])
  ]

-- A net that is that of a set whose vertices walks join is connected.

module _ (G H : Graph) (g : IsGraph G) (K : Vertex → Type 0) (b : Base) (map : Vertex → Vertex) (n : IsNetOf G H K b map)
    (closed : (w x : Vertex) → IsVertex G w → K w → AreJoined G w x → K x) where
  -- a walk between images comes from a walk
  walk_from : (steps : List Vertex) (w x : Vertex) → IsVertex H w → IsVertex H x → IsWalk G (map w) steps (map x) → IsReached H w x
  walk_from [] w x i j h = same_reached H refl (n.one w x i j h) (reached_itself H w)
  walk_from (y ∷ ys) w x i j h =
      let m = n.into w i in let v = joined_inside G g (map w) y m.0 h.0 in
      let o = n.onto y v (closed (map w) y m.0 m.1 h.0) in
      reached_transitive H w o.0 x
      (reached_by_arc H w o.0 ((n.joined w o.0 i o.1).1 (same_joined G refl (sym o.2) h.0)))
      (walk_from ys o.0 x o.1 j (subst (λ z. IsWalk G z ys (map x)) (sym o.2) h.1))

  pub connected_from : ((w x : Vertex) → K w → K x → IsReached G w x) → IsConnected H
  connected_from all w x i j = let s = all (map w) (map x) (n.into w i).1 (n.into x j).1 in walk_from s.0 w x i j s.1

-- the net of a part is connected
pub part_connected : (G : Graph) → IsGraph G → (a : ℕ) (T : ℕ → Vector) (S : Stairs) (at : ℕ → ℕ) (H : Graph) → IsPart G a T S at H → IsConnected H
part_connected G g a T S at H p =
    connected_from G H g (InCopy G a T zero_vector) (stair_base S) (image at T (stair_base S) zero_vector) (part_net G g a T S at H p zero_vector (λ e. refl))
    (λ w x i h k. copy_closed G a T p.walks g zero_vector w x i h (reached_by_arc G w x k)) (copy_joined G a T p.walks zero_vector)

-- No component has a rank below the dimension and full rank.

row_three : (x y z a b c e f i : ℤ) → x *ℤ (pos 0 *ℤ a +ℤ (pos 0 *ℤ pos 0 +ℤ pos 1 *ℤ pos 0)) +ℤ y *ℤ (pos 0 *ℤ b +ℤ (pos 0 *ℤ e +ℤ pos 1 *ℤ pos 0)) +ℤ z *ℤ
    (pos 0 *ℤ c +ℤ (pos 0 *ℤ f +ℤ pos 1 *ℤ i)) ≡ z *ℤ i
row_three x y z a b c e f i = simp ring (omega (arith, linear))

row_two : (x y z a b c e f i : ℤ) → z ≡ pos 0 → x *ℤ (pos 0 *ℤ a +ℤ (pos 1 *ℤ pos 0 +ℤ pos 0 *ℤ pos 0)) +ℤ y *ℤ
    (pos 0 *ℤ b +ℤ (pos 1 *ℤ e +ℤ pos 0 *ℤ pos 0)) +ℤ z *ℤ (pos 0 *ℤ c +ℤ (pos 1 *ℤ f +ℤ pos 0 *ℤ i)) ≡ y *ℤ e
row_two x y z a b c e f i h = let p = ap (λ t. t *ℤ f) h in simp ring (omega (arith, linear, simp ring at p))

row_one : (x y z a b c e f i : ℤ) → z ≡ pos 0 → y ≡ pos 0 → x *ℤ (pos 1 *ℤ a +ℤ (pos 0 *ℤ pos 0 +ℤ pos 0 *ℤ pos 0)) +ℤ y *ℤ
    (pos 1 *ℤ b +ℤ (pos 0 *ℤ e +ℤ pos 0 *ℤ pos 0)) +ℤ z *ℤ (pos 1 *ℤ c +ℤ (pos 0 *ℤ f +ℤ pos 0 *ℤ i)) ≡ x *ℤ a
row_one x y z a b c e f i h k = let p = ap (λ t. t *ℤ c) h in let q = ap (λ t. t *ℤ b) k in simp ring (omega (arith, linear, simp ring at p, simp ring at q))

-- what is orthogonal to a lattice of full rank is 0
pub orthogonal_zero : (d : ℕ) (S : Stairs) → HasStairShape d S → (c : Vector) → HasDimension d c → (d ≡ 2) ⊎ (d ≡ 3)
    → ((v : Vector) → Members d S v → dot c v ≡ pos 0) → c ≡ zero_vector
orthogonal_zero d S h c f t o = vector_equal x y z
  where
    z : c.z ≡ pos 0
    z = elim t [
      | inl e ↦ f e
      | inr e ↦ zero_factor c.z S.third_z h.reduced.third_z
          (sym (row_three c.x c.y c.z S.first_x S.first_y S.first_z S.second_y S.second_z S.third_z)
          ∙ o (base_sum (stair_base S) (vector (pos 0) (pos 0) (pos 1)))
          (sum_member d S h (vector (pos 0) (pos 0) (pos 1)) (λ k. absurd (omega arith))))
    ]

    y : c.y ≡ pos 0
    y = zero_factor c.y S.second_y h.reduced.second_y
        (sym (row_two c.x c.y c.z S.first_x S.first_y S.first_z S.second_y S.second_z S.third_z z)
        ∙ o (base_sum (stair_base S) (vector (pos 0) (pos 1) (pos 0)))
        (sum_member d S h (vector (pos 0) (pos 1) (pos 0)) (λ k. refl)))

    x : c.x ≡ pos 0
    x = zero_factor c.x S.first_x h.reduced.first_x
        (sym (row_one c.x c.y c.z S.first_x S.first_y S.first_z S.second_y S.second_z S.third_z z y)
        ∙ o (base_sum (stair_base S) (vector (pos 1) (pos 0) (pos 0)))
        (sum_member d S h (vector (pos 1) (pos 0) (pos 0)) (λ k. refl)))

-- so a rank below the dimension is not full
pub flat_not_full : (G : Graph) → IsGraph G → (a : ℕ) (c : Vector) (S : Stairs) → IsFlatAt G a c → IsFullAt G a S → ⊥
flat_not_full G g a c S h k =
    let e = orthogonal_zero G.dimension S k.shape c h.dimension g.dimension (λ v m. h.orthogonal v (k.all v m)) in
    not_below_itself (pos 0 ∷ pos 0 ∷ pos 0 ∷ []) (subst StartsPositive e h.positive)

-- The theorems, as they are stated.

pub copies_are_classes : CopiesAreClasses
copies_are_classes = record {
  class = λ G a T g t r w x i h. (copy_closed G a T t g r w x i h, copy_joined G a T t r w x h);
  each = λ G a T w o. (minus w.cell (T w.over), in_copy G a T w o);
  same = λ G a T r s w h. ((λ d. copies_same G a T r s w d h), λ k. copies_meet G a T r s w h k);
  one_component = one_component;
}

pub parts_are_nets : PartsAreNets
parts_are_nets G g a T S at H p = record {
  graph = part_graph G g a T S at H p;
  connected = part_connected G g a T S at H p;
  net = part_net G g a T S at H p;
}

pub copies_are_counted : CopiesAreCounted
copies_are_counted = record { count = copy_count; one_count = one_count }

pub ranks_are_one : RanksAreOne
ranks_are_one = record { exclude = flat_not_full; one_stair = one_stair; one_normal = one_normal }
