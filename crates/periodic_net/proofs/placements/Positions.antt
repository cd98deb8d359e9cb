-- Positions of vertices; if there is no collision, a position fixes its vertex.
use Rattle.std.proofs.Common.{arith, ℤ, ◌≡◌, ◌+ℤ◌, ◌-ℤ◌, ◌*ℤ◌, ◌∙◌, pos, ℕ, ap, sym, ◌≢◌, ◌≤◌, ◌<◌, subst}
use Rattle.std.proofs.{lemmas.Int.ints, Math.Decide.dec_lt, Math.Decide.dec_le}
use Prim.{yes, no, Dec}
use Rattle.integers.specs.Vectors.{minus, Vector, times, plus, HasDimension, zero_vector, IsModulo}
use Rattle.integers.proofs.numbers.Ring.{ring, linear, other_factor_zero, positive_not_zero}
use Rattle.integers.proofs.vectors.VectorRemainders.{one_modulo, modulo_apart, modulo_of}
use Rattle.integers.proofs.{vectors.Laws.vector_equal, vectors.Laws.minus_dimension, numbers.Division.steps_dimension}
use Rattle.periodic_net.specs.Placement.{Placement, base, position, arc_vector, HasNoCollision, IsCollision}
use Rattle.periodic_net.specs.Graph.{arc, Vertex, moved, Graph, IsVertex, IsQuotientVertex, Arc, vertex}
use Rattle.periodic_net.proofs.isomorphisms.Periods.{between_end, end_of}

-- a step, in one coordinate
pub step_part : (a b c d s t : ℤ) → (a +ℤ d *ℤ s) -ℤ (b +ℤ d *ℤ t) ≡ (a +ℤ d *ℤ (s -ℤ t)) -ℤ b
step_part a b c d s t = simp ring (omega (arith, ints))

-- the move along an arc is the arc's vector
pub moves_by : (p : Placement) (w x : Vertex) → minus (position p x) (position p w) ≡ arc_vector p (arc w.over x.over (minus x.cell w.cell))
moves_by p w x = search (arith, vector_equal, step_part)

-- a cell further, in numbers
pub further : (k k' d m x y z : ℤ) → (m *ℤ d) *ℤ (x +ℤ k' *ℤ z) -ℤ k' *ℤ (y +ℤ d *ℤ (m *ℤ z)) ≡ (m *ℤ d) *ℤ x -ℤ k' *ℤ y
further k k' d m x y z = simp ring (omega (arith, ints))

-- k cells further a place is D·k further, in coordinate c
pub place_further : (a d t v : ℤ) → a +ℤ d *ℤ (t +ℤ v) ≡ a +ℤ d *ℤ t +ℤ d *ℤ v
place_further a d t v = simp ring (omega (arith, ints))

-- k cells further a place is D·k further
pub position_moved : (p : Placement) (w : Vertex) (v : Vector) → position p (moved w v) ≡ plus (position p w) (times (pos p.denominator) v)
position_moved p w v = simp (vector_equal, place_further)

-- a place has the dimension of the net
pub place_dimension : (G : Graph) (p : Placement) → ((u : ℕ) → IsQuotientVertex G u → HasDimension G.dimension (base p u)) → (w : Vertex) → IsVertex G w
    → HasDimension G.dimension (position p w)
place_dimension G p d w i e = search arith

-- and so has a difference of places
pub move_dimension : (G : Graph) (p : Placement) → ((u : ℕ) → IsQuotientVertex G u → HasDimension G.dimension (base p u)) → (w x : Vertex) → IsVertex G w
    → IsVertex G x
    → HasDimension G.dimension (minus (position p x) (position p w))
move_dimension G p d w x i j = minus_dimension G.dimension (position p x) (position p w) (place_dimension G p d x j) (place_dimension G p d w i)

-- the vector of an arc from w leads from the place of w to that of its end
pub end_vector : (p : Placement) (w : Vertex) (a : Arc) → a.from ≡ w.over → minus (position p (end_of w a)) (position p w) ≡ arc_vector p a
end_vector p w a e = moves_by p w (end_of w a) ∙ ap (arc_vector p) (between_end w a e)

-- in cell 0 a vertex stands at its base
pub at_origin : (p : Placement) (u : ℕ) → position p (vertex u zero_vector) ≡ base p u
at_origin p u = search (arith, vector_equal)

-- whether two vertices are equal can be decided
pub vertex_decided : (w x : Vertex) → Dec (w ≡ x)
vertex_decided w x = search arith

-- a whole number is 0 or not
zero_decided : (z : ℤ) → Dec (z ≡ pos 0)
zero_decided z = search arith

-- a vector has the dimension or not
dimension_decided : (d : ℕ) (v : Vector) → Dec (HasDimension d v)
dimension_decided d v = search (arith, zero_decided)

-- and whether a pair of a number and a vector is a vertex can be decided
pub is_vertex_decided : (G : Graph) (w : Vertex) → Dec (IsVertex G w)
is_vertex_decided G w = by (dec_le 1 w.over) (dec_le w.over G.vertices) (dimension_decided G.dimension w.cell)
  where
    by : Dec (1 ≤ w.over) → Dec (w.over ≤ G.vertices) → Dec (HasDimension G.dimension w.cell) → Dec (IsVertex G w)
    by k l p = grind arith

-- equal cells, by their difference
back : (s t : Vector) → minus t s ≡ zero_vector → s ≡ t
back s t e =
    let x = ap (λ (v : Vector). v.x) e in let y = ap (λ (v : Vector). v.y) e in
    let z = ap (λ (v : Vector). v.z) e in
    vector_equal (omega (arith, ints)) (omega (arith, ints)) (omega (arith, ints))

-- moved back by the cell of w, the two would collide
pub positions_tell : (G : Graph) (p : Placement) → HasNoCollision G p → (w x : Vertex) → IsVertex G w → IsVertex G x → position p w ≡ position p x → w ≡ x
positions_tell G p n w x i j e = by (vertex_decided w x)
  where
    by : Dec (w ≡ x) → w ≡ x
    by (yes h) = h
    by (no h) = absurd (n w.over x.over (minus x.cell w.cell) (record {
      here = i.over;
      there = record { over = j.over; cell = λ d. let a = i.cell d in let b = j.cell d in omega (arith, ints) };
      different = λ k. h (λ l. let a = ap (λ (v : Vertex). v.over) k in let b : minus x.cell w.cell ≡ zero_vector = sym (ap (λ (v : Vertex). v.cell) k) in
          record { over = a l; cell = back w.cell x.cell b l });
      same_place = vector_equal (simp ring (omega (arith, ints, ap (λ (v : Vector). v.x) e)))
          (simp ring (omega (arith, ints, ap (λ (v : Vector). v.y) e)))
          (simp ring (omega (arith, ints, ap (λ (v : Vector). v.z) e)));
    }))

-- Two vertices collide if and only if their positions have one remainder modulo the denominator.

module _ (G : Graph) (p : Placement) where
  -- r is the position of u modulo the denominator
  abbrev pub IsReduced : ℕ → Vector → Type 0
  IsReduced u r = IsModulo (pos p.denominator) (base p u) r

  -- vertices that collide have one remainder
  pub collided : (u v : ℕ) (t r q : Vector) → IsCollision G p u v t → IsReduced u r → IsReduced v q → r ≡ q
  collided u v t r q c x y = one_modulo p.denominator (base p u) (base p v) r q t x y (sym (at_origin p u) ∙ c.same_place)

  -- a vertex does not collide with a copy of itself
  not_with_itself : 1 ≤ p.denominator → (u v : ℕ) (t : Vector) → u ≡ v → ¬ IsCollision G p u v t
  not_with_itself d u v t e c = c.different (λ i. vertex (e i) (sym (zero (base p v) t same) i))
    where
      same : base p v ≡ plus (base p v) (times (pos p.denominator) t)
      same = sym (ap (base p) e) ∙ sym (at_origin p u) ∙ c.same_place

      zero : (a t : Vector) → a ≡ plus a (times (pos p.denominator) t) → t ≡ zero_vector
      zero a t e = vector_equal (part a.x t.x (ap (λ (s : Vector). s.x) e)) (part a.y t.y (ap (λ (s : Vector). s.y) e))
          (part a.z t.z (ap (λ (s : Vector). s.z) e))
        where
          part : (a t : ℤ) → a ≡ a +ℤ pos p.denominator *ℤ t → t ≡ pos 0
          part a t e = other_factor_zero (pos p.denominator) t (omega (arith, linear, e)) (positive_not_zero p.denominator d)

  module _ (flat : (u : ℕ) → IsQuotientVertex G u → HasDimension G.dimension (base p u)) where
    -- different vertices with one remainder collide
    pub collides : (u v : ℕ) (r : Vector) → IsQuotientVertex G u → IsQuotientVertex G v → u ≢ v → (x : IsReduced u r) → (y : IsReduced v r)
        → IsCollision G p u v (minus x.steps y.steps)
    collides u v r i j n x y = record {
      here = i;
      there = record {
        over = j;
        cell = minus_dimension G.dimension x.steps y.steps
            (steps_dimension G.dimension (pos p.denominator) (base p u) r (flat u i) x)
            (steps_dimension G.dimension (pos p.denominator) (base p v) r (flat v j) y);
      };
      different = λ e. n (ap (λ (w : Vertex). w.over) e);
      same_place = at_origin p u ∙ modulo_apart (pos p.denominator) (base p u) (base p v) r x y;
    }

    -- if no vertex collides with one of a higher number, none collide
    pub no_collision_from : 1 ≤ p.denominator → ((u v : ℕ) (t : Vector) → u < v → ¬ IsCollision G p u v t) → HasNoCollision G p
    no_collision_from d none u v t c = by (dec_lt u v) (dec_lt v u)
      where
        by : Dec (u < v) → Dec (v < u) → ⊥
        by (yes l) k = none u v t l c
        by (no n) (yes k) =
            let x = modulo_of p.denominator d (base p u) in let y = modulo_of p.denominator d (base p v) in
            let same = collided u v t x.0 y.0 c x.1 y.1 in
            let y' = subst (λ (r : Vector). IsReduced v r) (sym same) y.1 in
            none v u (minus y'.steps x.1.steps) k (collides v u x.0 c.there.over c.here (λ e. omega (arith, k, e)) y' x.1)
        by (no n) (no k) = not_with_itself d u v t (omega arith) c
