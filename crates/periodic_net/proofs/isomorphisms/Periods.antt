-- The shifts of periodic maps, and of one map after another. A map with a period and a table say the same.
use Rattle.std.proofs.Common.{◌≡◌, ◌+ℤ◌, ◌∙◌, ap, sym, subst, refl, ℤ, arith, pos, ◌*◌, ℕ, List, [], ◌∷◌, map, ◌≤◌, ◌<◌, ◌-ℤ◌, ◌*ℤ◌, ◌≤ℤ◌, ◌<ℤ◌}
use Rattle.std.proofs.{lemmas.Int.ints, Math.Nat.mul-le-mul, Math.Decide.ℕ_discrete}
use Rattle.integers.proofs.vectors.Laws.{plus_minus, minus_plus, vector_equal, times_dimension, numbers_times, times_exchange, base_after, base_sum_after}
use Rattle.integers.proofs.vectors.Laws.{base_sum_times, unit_base, unit_sum, plus_associative, times_plus, plus_dimension, base_sum_plus}
use Rattle.integers.specs.Vectors.{plus, minus, Vector, times, HasDimension, vector, zero_vector}
use Rattle.integers.specs.{Bases.Base, Bases.base_sum}
use Rattle.integers.proofs.{numbers.Ring.ring, numbers.Ring.linear, numbers.Division.divided}
use Rattle.periodic_net.specs.Graph.{Arc, Vertex, vertex, arc, Graph, IsArc, AreJoined, IsGraph, IsVertex, moved, IsWalk, IsConnected}
use Rattle.periodic_net.proofs.nets.Walks.{joined_inside, origin_vertex}
use Rattle.periodic_net.specs.{Graph.IsReached, Maps.Iso, Maps.IsPeriodic, Maps.PeriodicMap, Maps.IsInBox, Maps.IsMapTable, Maps.IsDrawnBy}
use Prim.{Dec, yes, no}
use borrow.Author.Differences.{product_is}

-- The arcs from a vertex, by their ends.

-- the vertex at the end of an arc from w
abbrev pub end_of : Vertex → Arc → Vertex
end_of w a = vertex a.to (plus w.cell a.shift)

-- the arc from w to x
abbrev pub arc_between : Vertex → Vertex → Arc
arc_between w x = arc w.over x.over (minus x.cell w.cell)

-- the arc from w to x ends at x
pub end_between : (w x : Vertex) → end_of w (arc_between w x) ≡ x
end_between w x = ap (vertex x.over) (plus_minus w.cell x.cell)

-- and is the arc by which x was found
pub between_end : (w : Vertex) (a : Arc) → a.from ≡ w.over → arc_between w (end_of w a) ≡ a
between_end w a e = search (arith, minus_plus)

-- an arc from w joins w to its end
pub end_joined : (G : Graph) (w : Vertex) (a : Arc) → IsArc G a → a.from ≡ w.over → AreJoined G w (end_of w a)
end_joined G w a h e = subst (IsArc G) (sym (between_end w a e)) h

-- the arc to which a map carries an arc from w
abbrev pub carried : (Vertex → Vertex) → Vertex → Arc → Arc
carried f w a = arc_between (f w) (f (end_of w a))

-- the end of an arc, moved by cells
pub moved_end : (y : Vertex) (k : Vector) (a : Arc) → moved (end_of y a) k ≡ end_of (moved y k) a
moved_end y k a = ap (vertex a.to) (vector_equal (omega (arith, ints)) (omega (arith, ints)) (omega (arith, ints)))

-- cells in either order
pub moved_twice : (y : Vertex) (k l : Vector) → moved (moved y k) l ≡ moved (moved y l) k
moved_twice y k l = ap (vertex y.over) (vector_equal (omega (arith, ints)) (omega (arith, ints)) (omega (arith, ints)))

-- the move from a vertex to a vertex has the dimension
pub sum_dimension : (H : Graph) (x : Vertex) (v : Vector) → IsVertex H x → IsVertex H (moved x v) → HasDimension H.dimension v
sum_dimension H x v i j = λ e. let a = i.cell e in let b = j.cell e in omega (arith, ints)

-- a vertex moved by cells is a vertex
pub moved_vertex : (G : Graph) (w : Vertex) (v : Vector) → IsVertex G w → HasDimension G.dimension v → IsVertex G (moved w v)
moved_vertex G w v i h = record { over = i.over; cell = λ e. let a = i.cell e in let b = h e in omega (arith, ints) }

-- the shifts of a periodic map have the dimension of its target
pub base_dimension : (G H : Graph) (f : Vertex → Vertex) (m : ℕ) (b : Base) → IsPeriodic G H f m b → (w : Vertex) (k : Vector) → IsVertex G w
    → HasDimension G.dimension k → HasDimension H.dimension (base_sum b k)
base_dimension G H f m b p w k i d =
    let j = p.into (moved w (times (pos m) k)) (moved_vertex G w (times (pos m) k) i (times_dimension G.dimension (pos m) k d)) in
    sum_dimension H (f w) (base_sum b k) (p.into w i) (subst (IsVertex H) (p.repeats w k i d) j)

-- the period of one map after another is the product
pub periodic_after : (G H K : Graph) (f g : Vertex → Vertex) (m n : ℕ) (b c : Base)
    → IsPeriodic G H f m b → IsPeriodic H K g n c → IsPeriodic G K (λ w. g (f w)) (n * m) (base_after c b)
periodic_after G H K f g m n b c p q = record {
  positive = mul-le-mul q.positive p.positive;
  into = λ w i. q.into (f w) (p.into w i);
  repeats = λ w k i d.
      let nk = times (pos n) k in let dn = times_dimension G.dimension (pos n) k d in
      let e0 = ap (λ (v : Vector). g (f (moved w v))) (numbers_times n m k ∙ times_exchange (pos n) (pos m) k) in
      let e1 = ap g (p.repeats w nk i dn) in
      let e2 = ap (λ (v : Vector). g (moved (f w) v)) (base_sum_times b (pos n) k) in
      e0 ∙ e1 ∙ e2 ∙ q.repeats (f w) (base_sum b k) (p.into w i) (base_dimension G H f m b p w k i d) ∙ ap (moved (g (f w))) (base_sum_after c b k);
}

-- moved by equal cells
pub moved_same : (w : Vertex) (k l : Vector) → k ≡ l → moved w k ≡ moved w l
moved_same w k l e = ap (moved w) e

-- the identity has the period 1
pub identity_periodic : (G : Graph) → IsPeriodic G G (λ w. w) 1 unit_base
identity_periodic G = search (arith, moved_same, unit_sum)

-- Maps that undo each other and carry joined vertices to joined ones.

-- these maps carry the vertices of G to those of H, and back, and joined ones to joined ones
pub record IsMatching (G H : Graph) (there back : Vertex → Vertex) : Type 0 where
  pub into : (w : Vertex) → IsVertex G w → IsVertex H (there w)
  pub onto : (x : Vertex) → IsVertex H x → IsVertex G (back x)
  pub back_there : (w : Vertex) → IsVertex G w → back (there w) ≡ w
  pub there_back : (x : Vertex) → IsVertex H x → there (back x) ≡ x
  pub there_joins : (w x : Vertex) → IsVertex G w → IsVertex G x → AreJoined G w x → AreJoined H (there w) (there x)
  pub back_joins : (w x : Vertex) → IsVertex H w → IsVertex H x → AreJoined H w x → AreJoined G (back w) (back x)

-- the other way
pub matching_turned : (G H : Graph) (there back : Vertex → Vertex) → IsMatching G H there back → IsMatching H G back there
matching_turned G H there back m = search arith

-- an isomorphism is one
pub iso_matching : (G H : Graph) (e : Iso G H) → IsMatching G H e.there e.back
iso_matching G H e = search arith

-- a walk goes to a walk
pub walk_there : (G H : Graph) → IsGraph G → (there back : Vertex → Vertex) → IsMatching G H there back
    → (steps : List Vertex) (w x : Vertex) → IsVertex G w → IsWalk G w steps x → IsWalk H (there w) (map there steps) (there x)
walk_there G H g there back m [] w x i h = ap there h
walk_there G H g there back m (y ∷ ys) w x i h =
    let j = joined_inside G g w y i h.0 in
    (m.there_joins w y i j h.0, walk_there G H g there back m ys y x j h.1)

-- Isomorphism of nets is an equivalence, and keeps connectedness.

-- what is isomorphic to a connected net is connected
pub iso_connected : (G H : Graph) → IsGraph G → Iso G H → IsConnected G → IsConnected H
iso_connected G H g e c x y i j =
    let a = e.back_period.2.into x i in let s = c (e.back x) (e.back y) a (e.back_period.2.into y j) in
    subst (λ (t : Type 0). t) (λ k. IsReached H (e.there_back x i k) (e.there_back y j k))
    (map e.there s.0, walk_there G H g e.there e.back (iso_matching G H e) s.0 (e.back x) (e.back y) a s.1)

-- isomorphisms follow one another
pub iso_transitive : (G H K : Graph) → Iso G H → Iso H K → Iso G K
iso_transitive G H K e f = record {
  dimension = e.dimension ∙ f.dimension;
  there = λ w. f.there (e.there w);
  back = λ w. e.back (f.back w);
  there_period =
      let p = e.there_period in let q = f.there_period in
      (q.0 * p.0, base_after q.1 p.1, periodic_after G H K e.there f.there p.0 q.0 p.1 q.1 p.2 q.2);
  back_period =
      let p = f.back_period in let q = e.back_period in
      (q.0 * p.0, base_after q.1 p.1, periodic_after K H G f.back e.back p.0 q.0 p.1 q.1 p.2 q.2);
  back_there = λ w i. ap e.back (f.back_there (e.there w) (e.there_period.2.into w i)) ∙ e.back_there w i;
  there_back = λ x i. ap f.there (e.there_back (f.back x) (f.back_period.2.into x i)) ∙ f.there_back x i;
  there_joins = λ w x i j h.
      f.there_joins (e.there w) (e.there x) (e.there_period.2.into w i) (e.there_period.2.into x j) (e.there_joins w x i j h);
  back_joins = λ w x i j h.
      e.back_joins (f.back w) (f.back x) (f.back_period.2.into w i) (f.back_period.2.into x j) (f.back_joins w x i j h);
}

-- each net is isomorphic to itself
abbrev pub iso_reflexive : (G : Graph) → Iso G G
iso_reflexive G = record {
  dimension = refl;
  there = λ w. w;
  back = λ w. w;
  there_period = (1, unit_base, identity_periodic G);
  back_period = (1, unit_base, identity_periodic G);
  back_there = λ w i. refl;
  there_back = λ w i. refl;
  there_joins = λ w x i j h. h;
  back_joins = λ w x i j h. h;
}

-- an isomorphism the other way
abbrev pub iso_turned : {G H : Graph} → Iso G H → Iso H G
iso_turned e = record {
  dimension = sym e.dimension;
  there = e.back;
  back = e.there;
  there_period = e.back_period;
  back_period = e.there_period;
  back_there = e.there_back;
  there_back = e.back_there;
  there_joins = e.back_joins;
  back_joins = e.there_joins;
}

-- what a net is isomorphic to is isomorphic to it
pub iso_symmetric : (G H : Graph) → Iso G H → Iso H G
iso_symmetric G H e = iso_turned e

-- the difference of quotients, if the remainders are below m
same_quotient : (m r s : ℕ) (d : ℤ) → r < m → s < m → pos r ≡ pos s +ℤ pos m *ℤ d → d ≡ pos 0
same_quotient m r s d l q t = search (arith, product_is)

-- r + m·k = s + m·l, moved to one side
one_side : (r s m k l : ℤ) → r +ℤ m *ℤ k ≡ s +ℤ m *ℤ l → r ≡ s +ℤ m *ℤ (l -ℤ k)
one_side r s m k l e = simp ring (omega (arith, linear, e))

-- division with remainder has one outcome
divided_once : (m r s : ℕ) (k l : ℤ) → r < m → s < m → pos r +ℤ pos m *ℤ k ≡ pos s +ℤ pos m *ℤ l → (pos r ≡ pos s) × (k ≡ l)
divided_once m r s k l h i e =
    let z = same_quotient m r s (l -ℤ k) h i (one_side (pos r) (pos s) (pos m) k l e) in
    let same : k ≡ l = omega (arith, linear, z) in
    (added (pos r) (pos s) (pos m *ℤ k) (pos m *ℤ l) e (ap (λ (t : ℤ). pos m *ℤ t) same), same)
  where
    added : (a b c d : ℤ) → a +ℤ c ≡ b +ℤ d → c ≡ d → a ≡ b
    added a b c d e f = omega (arith, linear, e, f)

-- a part from 0 to m - 1 is a natural number below m
natural_below : (m : ℕ) (z : ℤ) → pos 0 ≤ℤ z → z <ℤ pos m → (r : ℕ) × (r < m) × (z ≡ pos r)
natural_below m z l p = search arith

-- if a part of the box is divided, the remainder is the part
divided_part : (m : ℕ) (h : 1 ≤ m) (z k : ℤ) → pos 0 ≤ℤ z → z <ℤ pos m → (pos (divided m h (z +ℤ pos m *ℤ k)).0 ≡ z) × ((divided m h (z +ℤ pos m *ℤ k)).1 ≡ k)
divided_part m h z k low high = search (arith, natural_below, divided, divided_once)

-- the map that a table writes down
pub drawn : (M : PeriodicMap) → 1 ≤ M.m → Vertex → Vertex
drawn M h w =
    let x = divided M.m h w.cell.x in let y = divided M.m h w.cell.y in let z = divided M.m h w.cell.z in
    moved (M.image w.over (vector (pos x.0) (pos y.0) (pos z.0))) (base_sum M.base (vector x.1 y.1 z.1))

-- each table writes down a map
pub drawn_by_table : (G : Graph) (M : PeriodicMap) (h : 1 ≤ M.m) → IsDrawnBy G M (drawn M h)
unfolding drawn
drawn_by_table G M h u r k i b d = search (arith, divided_part, vector_equal)

-- a vector as a part in the box and m times another
pub record InBox (d m : ℕ) (t : Vector) : Type 0 where
  pub r : Vector
  pub k : Vector
  pub box : IsInBox d m r
  pub dimension : HasDimension d k
  pub sum : t ≡ plus r (times (pos m) k)

-- each vector is such a sum
pub in_box : (d m : ℕ) → 1 ≤ m → (t : Vector) → HasDimension d t → InBox d m t
in_box d m h t f = by (ℕ_discrete d 2)
  where
    x : (r : ℕ) × (k : ℤ) × (r < m) × (t.x ≡ pos r +ℤ pos m *ℤ k)
    x = divided m h t.x

    y : (r : ℕ) × (k : ℤ) × (r < m) × (t.y ≡ pos r +ℤ pos m *ℤ k)
    y = divided m h t.y

    z : (r : ℕ) × (k : ℤ) × (r < m) × (t.z ≡ pos r +ℤ pos m *ℤ k)
    z = divided m h t.z

    low : (n : ℕ) → pos 0 ≤ℤ pos n
    low n = omega (arith, ints)

    high : (n : ℕ) → n < m → pos n <ℤ pos m
    high n l = omega (arith, ints)

    by : Dec (d ≡ 2) → InBox d m t
    by (yes e) = record {
      r = vector (pos x.0) (pos y.0) (pos 0);
      k = vector x.1 y.1 (pos 0);
      box = record { dimension = λ _. refl; low = (low x.0, low y.0, low 0); high = (high x.0 x.2, high y.0 y.2, high 0 h) };
      dimension = λ _. refl;
      sum = vector_equal x.3 y.3 (f e ∙ omega (arith, ints));
    }
    by (no n) = record {
      r = vector (pos x.0) (pos y.0) (pos z.0);
      k = vector x.1 y.1 z.1;
      box = record { dimension = λ e. absurd (n e); low = (low x.0, low y.0, low z.0); high = (high x.0 x.2, high y.0 y.2, high z.0 z.2) };
      dimension = λ e. absurd (n e);
      sum = vector_equal x.3 y.3 z.3;
    }

-- two maps that one table writes down agree on each vertex
pub drawn_once : (G : Graph) (M : PeriodicMap) (f g : Vertex → Vertex) → 1 ≤ M.m → IsDrawnBy G M f → IsDrawnBy G M g → (w : Vertex) → IsVertex G w → f w ≡ g w
drawn_once G M f g h a b w i =
    let s = in_box G.dimension M.m h w.cell i.cell in let e = ap (vertex w.over) s.sum in
    ap f e ∙ a w.over s.r s.k i.over s.box s.dimension ∙ sym (b w.over s.r s.k i.over s.box s.dimension) ∙ sym (ap g e)

-- what is moved twice is moved by the sum
moved_more : (w : Vertex) (v u : Vector) → moved w (plus v u) ≡ moved (moved w v) u
moved_more w v u = ap (vertex w.over) (sym (plus_associative w.cell v u))

-- r + m·k, moved by m·l, is r + m·(k + l)
box_moved : (m : ℤ) (r k l : Vector) → plus (plus r (times m k)) (times m l) ≡ plus r (times m (plus k l))
box_moved m r k l = plus_associative r (times m k) (times m l) ∙ ap (plus r) (sym (times_plus m k l))

-- a map that a table writes down has the table's period and shifts
pub periodic_of_drawn : (G H : Graph) (M : PeriodicMap) (f : Vertex → Vertex) → IsMapTable G H M → IsDrawnBy G M f → IsPeriodic G H f M.m M.base
periodic_of_drawn G H M f t a = record {
  positive = t.positive;
  into = λ w i.
      let s = in_box G.dimension M.m t.positive w.cell i.cell in
      subst (IsVertex H) (sym (ap f (ap (vertex w.over) s.sum) ∙ a w.over s.r s.k i.over s.box s.dimension))
      (moved_vertex H (M.image w.over s.r) (base_sum M.base s.k) (t.into w.over s.r i.over s.box) (t.dimension s.k s.dimension));
  repeats = λ w l i d.
      let s = in_box G.dimension M.m t.positive w.cell i.cell in
      let first = ap f (ap (vertex w.over) s.sum) ∙ a w.over s.r s.k i.over s.box s.dimension in
      ap f (ap (vertex w.over) (ap (λ (v : Vector). plus v (times (pos M.m) l)) s.sum ∙ box_moved (pos M.m) s.r s.k l))
      ∙ a w.over s.r (plus s.k l) i.over s.box (plus_dimension G.dimension s.k l s.dimension d)
      ∙ ap (moved (M.image w.over s.r)) (base_sum_plus M.base s.k l)
      ∙ moved_more (M.image w.over s.r) (base_sum M.base s.k) (base_sum M.base l)
      ∙ ap (λ (y : Vertex). moved y (base_sum M.base l)) (sym first);
}

-- the table of a map with a period: its images of the vertices in the box
abbrev pub table_of : (Vertex → Vertex) → ℕ → Base → PeriodicMap
table_of f m b = record { m = m; image = λ u r. f (vertex u r); base = b }

-- it is one
pub is_table_of : (G H : Graph) (f : Vertex → Vertex) (m : ℕ) (b : Base) → IsGraph G → IsPeriodic G H f m b → IsMapTable G H (table_of f m b)
is_table_of G H f m b g p = record {
  positive = p.positive;
  into = λ u r i x. p.into (vertex u r) (record { over = i; cell = x.dimension });
  dimension = λ k d. base_dimension G H f m b p (vertex 1 zero_vector) k (origin_vertex G 1 (omega arith, g.vertices)) d;
}

-- and it writes the map down
pub drawn_of_periodic : (G H : Graph) (f : Vertex → Vertex) (m : ℕ) (b : Base) → IsPeriodic G H f m b → IsDrawnBy G (table_of f m b) f
drawn_of_periodic G H f m b p u r k i x d = p.repeats (vertex u r) k (record { over = i; cell = x.dimension }) d
