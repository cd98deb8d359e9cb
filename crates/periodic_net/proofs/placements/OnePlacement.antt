-- A connected net has one normal placement, and has it if it has a barycentric one: what two placements differ by is harmonic.
use Rattle.std.proofs.Common.{List, pos, ℤ, ℕ, ◌≡◌, ◌+ℤ◌, ◌-ℤ◌, ◌*ℤ◌, ◌≤◌, ◌-◌, [], ◌∷◌, ◌∙◌, arith, ap, subst, sym, refl, suc, inl, inr}
use Rattle.std.proofs.Common.{map, length, ◌*◌, ◌+◌, get_or}
use Rattle.std.proofs.{lemmas.Int.ints, Math.Nat.dvd-mul_left, Math.Nat.mul_assoc, lemmas.List.ext_get_or, lemmas.List.length-map}
use Rattle.std.specs.{Int.◌∣◌, Prelude.slice_index_or}
use Rattle.integers.proofs.vectors.Laws.{vector_equal, coordinate_y, coordinate_z, coordinate_x, times_cancel, times_zero, minus_zero}
use Rattle.integers.proofs.numbers.Divisors.{cancel_common, coprime_combination, coprime_multiple, bezout, Bezout, first_factor_positive, factor_positive}
use Rattle.integers.proofs.vectors.Laws.{equal_of_minus, minus_itself, minus_back, numbers_times, times_plus}
use Rattle.integers.proofs.numbers.Divisors.{common, all_table, Common, only_one, quotient_of}
use Rattle.integers.specs.Vectors.{minus, zero_vector, plus, Vector, times, vector_sum, HasDimension}
use Rattle.integers.proofs.lists.Tables.{at_scaled, table_length, at_table, table}
use Rattle.integers.proofs.lists.Sums.{total_same, total_zeros}
use Rattle.integers.proofs.numbers.Ring.{ring, linear, other_factor_zero, positive_not_zero}
use Rattle.integers.{specs.Lists.total, proofs.lists.Members.IsIn, specs.Coordinates.IsCoordinate}
use Rattle.periodic_net.specs.Graph.{Arc, Graph, IsQuotientVertex, arcs_from, IsGraph, IsVertex, Vertex, IsConnected, vertex}
use Rattle.periodic_net.proofs.harmonic.Constant.{periodic_constant}
use Rattle.periodic_net.proofs.nets.Walks.{from_is_arc, arc_inside, origin_vertex}
use Rattle.periodic_net.specs.Placement.{Placement, arc_vector, IsBarycentric, base, IsTranslate, IsNormalPlacement, IsNormal, position, HasNoCollision}

-- what f gains along these arcs, together
abbrev pub gain : (ℕ → ℤ) → List Arc → ℤ
gain f as' = total (λ a. f a.to -ℤ f a.from) as'

-- f is at each vertex of the quotient graph the mean over its arcs
abbrev pub IsHarmonic : Graph → (ℕ → ℤ) → Type 0
IsHarmonic G f = (u : ℕ) → IsQuotientVertex G u → gain f (arcs_from G u) ≡ pos 0

-- such a function is constant: on the net it has the period 1
pub harmonic_constant : (G : Graph) → IsGraph G → IsConnected G → (f : ℕ → ℤ) → IsHarmonic G f
    → (u v : ℕ) → IsQuotientVertex G u → IsQuotientVertex G v → f u ≡ f v
harmonic_constant G g c f h u v i j =
    periodic_constant G g c 1 (omega arith) (λ w. f w.over) (λ w k k' d. refl)
    (λ w k. total_same (λ a. f a.to -ℤ f w.over) (λ a. f a.to -ℤ f a.from) (arcs_from G w.over)
    (λ a l. ap (λ (n : ℕ). f a.to -ℤ f n) (sym (from_is_arc G w.over a l).1)) ∙ h w.over k.over)
    (vertex u zero_vector) (vertex v zero_vector) (origin_vertex G u i) (origin_vertex G v j)

-- Two barycentric placements of a connected net are translates of each other, and a translate of one is one.

-- a linear reading of the arcs' vectors, summed
pub total_linear : (c : Vector → ℤ) → IsCoordinate c → (p : Placement) (as' : List Arc)
    → total (λ a. c (arc_vector p a)) as' ≡ c (vector_sum (map (arc_vector p) as'))
total_linear c l p [] = sym l.zero
total_linear c l p (a ∷ as') = (λ i. c (arc_vector p a) +ℤ total_linear c l p as' i) ∙ sym (l.plus_is (arc_vector p a) (vector_sum (map (arc_vector p) as')))

-- of a barycentric placement it is 0 at each vertex
pub total_zero : (G : Graph) (p : Placement) → IsBarycentric G p → (c : Vector → ℤ) → IsCoordinate c → (u : ℕ) → IsQuotientVertex G u
    → total (λ a. c (arc_vector p a)) (arcs_from G u) ≡ pos 0
total_zero G p b c l u i = total_linear c l p (arcs_from G u) ∙ ap c (b.balanced u i) ∙ l.zero

-- how far apart two placements have a vertex, in coordinate c
abbrev pub apart : Placement → Placement → (Vector → ℤ) → ℕ → ℤ
apart p q c u = pos p.denominator *ℤ c (base q u) -ℤ pos q.denominator *ℤ c (base p u)

-- the difference along an arc, in numbers
apart_step : (d e a b a' b' s : ℤ) → (d *ℤ b -ℤ e *ℤ a) -ℤ (d *ℤ b' -ℤ e *ℤ a') ≡ d *ℤ (b +ℤ e *ℤ s -ℤ b') -ℤ e *ℤ (a +ℤ d *ℤ s -ℤ a')
apart_step d e a b a' b' s = simp ring (omega (arith, ints))

-- a linear reading of the vector of an arc
coordinate_of_arc : (c : Vector → ℤ) → IsCoordinate c → (p : Placement) (a : Arc)
    → c (arc_vector p a) ≡ c (base p a.to) +ℤ pos p.denominator *ℤ c a.shift -ℤ c (base p a.from)
coordinate_of_arc c i p a =
    i.minus_is (plus (base p a.to) (times (pos p.denominator) a.shift)) (base p a.from)
    ∙ ap (λ (k : ℤ). k -ℤ c (base p a.from)) (i.plus_is (base p a.to) (times (pos p.denominator) a.shift)
    ∙ ap (λ (k : ℤ). c (base p a.to) +ℤ k) (i.times_is (pos p.denominator) a.shift))

-- what the distance of the two placements gains along these arcs
gain_is : (c : Vector → ℤ) → IsCoordinate c → (p q : Placement) (as' : List Arc)
    → gain (apart p q c) as' ≡ pos p.denominator *ℤ c (vector_sum (map (arc_vector q) as')) -ℤ pos q.denominator *ℤ c (vector_sum (map (arc_vector p) as'))
gain_is c i p q [] = let z = i.zero in rw z (simp ring (omega (arith, ints)))
gain_is c i p q (a ∷ as') =
    let d = pos p.denominator in let e = pos q.denominator in
    let s = apart_step d e (c (base p a.to)) (c (base q a.to)) (c (base p a.from)) (c (base q a.from)) (c a.shift) in
    let hq = coordinate_of_arc c i q a in let hp = coordinate_of_arc c i p a in
    let head : (apart p q c a.to -ℤ apart p q c a.from) ≡ d *ℤ c (arc_vector q a) -ℤ e *ℤ c (arc_vector p a) = s ∙ sym (ap2 (λ x y. d *ℤ x -ℤ e *ℤ y) hq hp) in
    let tail = gain_is c i p q as' in
    let pq = i.plus_is (arc_vector q a) (vector_sum (map (arc_vector q) as')) in
    let pp = i.plus_is (arc_vector p a) (vector_sum (map (arc_vector p) as')) in
    ap2 ◌+ℤ◌ head tail
    ∙ simp ring (omega (arith, ints))
    ∙ sym (ap2 (λ x y. d *ℤ x -ℤ e *ℤ y) pq pp)
  where
    ap2 : (f : ℤ → ℤ → ℤ) {x y z w : ℤ} → x ≡ y → z ≡ w → f x z ≡ f y w
    ap2 f h k = λ i. f (h i) (k i)

-- d·0 - e·0 = 0
apart_zero : (d e : ℤ) → d *ℤ pos 0 -ℤ e *ℤ pos 0 ≡ pos 0
apart_zero d e = omega (arith, ints)

-- two barycentric placements have all vertices equally far apart
same_apart : (G : Graph) → IsGraph G → IsConnected G → (p q : Placement) → IsBarycentric G p → IsBarycentric G q
    → (c : Vector → ℤ) → IsCoordinate c → (u v : ℕ) → IsQuotientVertex G u → IsQuotientVertex G v → apart p q c u ≡ apart p q c v
same_apart G g con p q bp bq c i u v iu iv = harmonic_constant G g con (apart p q c) harmonic u v iu iv
  where
    harmonic : IsHarmonic G (apart p q c)
    harmonic w iw = grind (arith, gain_is, apart_zero)

-- a graph has vertex 1
pub one_vertex : (G : Graph) → IsGraph G → IsQuotientVertex G 1
one_vertex G g = (omega arith, g.vertices)

-- two barycentric placements of a connected net are translates
pub placements_translate : (G : Graph) → IsGraph G → IsConnected G → (p q : Placement) → IsBarycentric G p → IsBarycentric G q → IsTranslate G p q
placements_translate G g con p q bp bq = record {
  by = minus (times (pos p.denominator) (base q 1)) (times (pos q.denominator) (base p 1));
  each = λ u i. let o = one_vertex G g in
      vector_equal
      (same_apart G g con p q bp bq (λ v. v.x) coordinate_x u 1 i o)
      (same_apart G g con p q bp bq (λ v. v.y) coordinate_y u 1 i o)
      (same_apart G g con p q bp bq (λ v. v.z) coordinate_z u 1 i o);
}

-- what does not change along the arcs gains nothing
no_gain : (G : Graph) → IsGraph G → (f : ℕ → ℤ) (b : ℤ) → ((u : ℕ) → IsQuotientVertex G u → f u ≡ b) → (u : ℕ) → gain f (arcs_from G u) ≡ pos 0
no_gain G g f b h u =
    total_same (λ a. f a.to -ℤ f a.from) (λ a. pos 0) (arcs_from G u)
    (λ a k. let i = arc_inside G g a (from_is_arc G u a k).0 in (λ l. h a.to i.to l -ℤ h a.from i.from l) ∙ omega (arith, linear))
    ∙ total_zeros (arcs_from G u)

-- d·x = 0 if d·x - e·0 = 0
first_term : (d e x : ℤ) → d *ℤ x -ℤ e *ℤ pos 0 ≡ pos 0 → d *ℤ x ≡ pos 0
first_term d e x h = omega (arith, ints, h)

-- a translate of a barycentric placement is barycentric
pub translate_barycentric : (G : Graph) → IsGraph G → (p q : Placement) → IsBarycentric G p → 1 ≤ q.denominator → length q.at ≡ G.vertices
    → ((u : ℕ) → IsQuotientVertex G u → HasDimension G.dimension (base q u)) → IsTranslate G p q → IsBarycentric G q
translate_barycentric G g p q b one count dimension t = record {
  positive = one;
  count = count;
  dimension = dimension;
  balanced = λ u i. vector_equal (zero (λ v. v.x) coordinate_x u i) (zero (λ v. v.y) coordinate_y u i) (zero (λ v. v.z) coordinate_z u i);
}
  where
    apart_is : (c : Vector → ℤ) → IsCoordinate c → (u : ℕ) → IsQuotientVertex G u → apart p q c u ≡ c t.by
    apart_is c l u i =
        (λ k. sym (l.times_is (pos p.denominator) (base q u)) k -ℤ sym (l.times_is (pos q.denominator) (base p u)) k)
        ∙ sym (l.minus_is (times (pos p.denominator) (base q u)) (times (pos q.denominator) (base p u))) ∙ ap c (t.each u i)

    zero : (c : Vector → ℤ) → IsCoordinate c → (u : ℕ) → IsQuotientVertex G u → c (vector_sum (map (arc_vector q) (arcs_from G u))) ≡ pos 0
    zero c l u i =
        let d = pos p.denominator in let e = pos q.denominator in
        let s = c (vector_sum (map (arc_vector q) (arcs_from G u))) in
        let none : c (vector_sum (map (arc_vector p) (arcs_from G u))) ≡ pos 0 = ap c (b.balanced u i) ∙ l.zero in
        other_factor_zero d s
        (first_term d e s ((λ k. d *ℤ s -ℤ e *ℤ sym none k) ∙ sym (gain_is c l p q (arcs_from G u)) ∙ no_gain G g (apart p q c) (c t.by) (apart_is c l) u))
        (positive_not_zero p.denominator b.positive)

-- A connected net has one normal placement at most.

-- the places of the vertices are the same, in units of 1/(the product of the denominators)
pub record AreScaled (G : Graph) (p q : Placement) : Type 0 where
  pub each : (u : ℕ) → IsQuotientVertex G u → times (pos p.denominator) (base q u) ≡ times (pos q.denominator) (base p u)

-- two normal placements of a connected net have the same positions
pub normal_scaled : (G : Graph) → IsGraph G → IsConnected G → (p q : Placement) → IsNormalPlacement G p → IsNormalPlacement G q → AreScaled G p q
normal_scaled G g con p q n k = record {
  each = λ u i.
      let t = placements_translate G g con p q n.barycentric k.barycentric in let d = pos p.denominator in
      let e = pos q.denominator in
      let at_one : t.by ≡ zero_vector =
      sym (t.each 1 (omega arith, g.vertices)) ∙ (λ j. minus (times d (k.normal.origin j)) (times e (n.normal.origin j)))
      ∙ (λ j. minus (times_zero d j) (times_zero e j)) ∙ minus_zero zero_vector in
      equal_of_minus (times d (base q u)) (times e (base p u)) (t.each u i ∙ at_one);
}

-- and the other way
scaled_back : (G : Graph) (p q : Placement) → AreScaled G p q → AreScaled G q p
scaled_back G p q s = record { each = λ u i. sym (s.each u i) }

-- if the denominators are g·k and g·l, k divides all of p, and so is 1
first_is_one : (G : Graph) (p q : Placement) → AreScaled G p q → IsNormal G p → (g k l : ℕ) (s t : ℤ) → 1 ≤ p.denominator
    → p.denominator ≡ g * k → q.denominator ≡ g * l → pos g ≡ s *ℤ pos p.denominator +ℤ t *ℤ pos q.denominator → k ≡ 1
first_is_one G p q sc n g k l s t one a b c = n.reduced k (subst (λ (x : ℕ). k ∣ x) (sym a) (dvd-mul_left k g)) (λ u i.
    let d = ap pos a in let e = ap pos b in
    let g0 = positive_not_zero g (first_factor_positive g k (subst (λ (m : ℕ). 1 ≤ m) a one)) in
    let co = coprime_combination (pos g) (pos k) (pos l) s t g0 (c ∙ (λ j. s *ℤ d j +ℤ t *ℤ e j)) in
    let each = sc.each u i in
    let at = λ (r : Vector → ℤ) (h : (m : ℤ) (v : Vector) → r (times m v) ≡ m *ℤ r v).
    coprime_multiple (pos k) (pos l) s t (r (base p u)) (r (base q u)) co
    (cancel_common (pos g) (pos k) (pos l) (r (base p u)) (r (base q u)) g0
    ((λ j. sym d j *ℤ r (base q u)) ∙ sym (h (pos p.denominator) (base q u)) ∙ ap r each ∙ h (pos q.denominator) (base p u) ∙ (λ j. e j *ℤ r (base p u)))) in (
      plus (times s (base p u)) (times t (base q u)),
      vector_equal (at (λ v. v.x) (λ m v. refl)) (at (λ v. v.y) (λ m v. refl)) (at (λ v. v.z) (λ m v. refl)),
    ))

-- two normal placements have one denominator, and each vertex at one base
pub record AreSamePlacements (G : Graph) (p q : Placement) : Type 0 where
  pub denominator : p.denominator ≡ q.denominator
  pub each : (u : ℕ) → IsQuotientVertex G u → base p u ≡ base q u

-- so they are equal: one denominator, and each vertex at one base
pub normal_unique : (G : Graph) → IsGraph G → IsConnected G → (p q : Placement) → IsNormalPlacement G p → IsNormalPlacement G q → AreSamePlacements G p q
normal_unique G g con p q n m = by (bezout p.denominator q.denominator)
  where
    sc : AreScaled G p q
    sc = normal_scaled G g con p q n m

    by : Bezout p.denominator q.denominator → AreSamePlacements G p q
    by z =
        let k1 = first_is_one G p q sc n.normal z.g z.k z.l z.s z.t n.barycentric.positive z.a_is z.b_is z.g_is in
        let l1 = first_is_one G q p (scaled_back G p q sc) m.normal z.g z.l z.k z.t z.s m.barycentric.positive z.b_is z.a_is
        (z.g_is ∙ omega (arith, ints)) in
        let same : p.denominator ≡ q.denominator = z.a_is ∙ ap (λ (x : ℕ). z.g * x) (k1 ∙ sym l1) ∙ sym z.b_is in
        record {
          denominator = same;
          each = λ u i.
              sym (times_cancel (pos p.denominator) (base q u) (base p u) (positive_not_zero p.denominator n.barycentric.positive)
              (sc.each u i ∙ ap (λ (x : ℕ). times (pos x) (base p u)) (sym same)));
        }

-- two normal placements of a connected net are one
pub one_placement : (G : Graph) → IsGraph G → IsConnected G → (p q : Placement) → IsNormalPlacement G p → IsNormalPlacement G q → p ≡ q
one_placement G g c p q n m = λ i. record { denominator = same.denominator i; at = at i }
  where
    same : AreSamePlacements G p q
    same = normal_unique G g c p q n m

    place : (r : Placement) (k : ℕ) → base r (k + 1) ≡ get_or r.at k zero_vector
    place r k = ap (λ (j : ℕ). get_or r.at j zero_vector) (let e : k + 1 - 1 ≡ k = omega arith in e)

    at : p.at ≡ q.at
    at = ext_get_or zero_vector p.at q.at (n.barycentric.count ∙ sym m.barycentric.count)
        (λ k l. sym (place p k) ∙ same.each (k + 1) (omega arith, let e = n.barycentric.count in omega (arith, e, l)) ∙ place q k)

-- q is p, moved to 0 and reduced by g
pub record IsReduced (G : Graph) (p q : Placement) (g : ℕ) : Type 0 where
  pub positive : 1 ≤ g
  pub denominator : p.denominator ≡ g * q.denominator
  pub count : length q.at ≡ length p.at
  pub each : (u : ℕ) → IsQuotientVertex G u → base p u ≡ plus (times (pos g) (base q u)) (base p 1)

-- the vector of an arc, in numbers
reduced_step : (g b b' s e f o : ℤ) → ((g *ℤ b +ℤ o) +ℤ (g *ℤ e) *ℤ s) -ℤ (g *ℤ b' +ℤ o) ≡ g *ℤ ((b +ℤ e *ℤ s) -ℤ b')
reduced_step g b b' s e f o = simp ring (omega (arith, ints))

-- the vectors of arcs are reduced by g
reduced_vector : (G : Graph) (p q : Placement) (g : ℕ) → IsReduced G p q g → (a : Arc) → IsQuotientVertex G a.from → IsQuotientVertex G a.to
    → arc_vector p a ≡ times (pos g) (arc_vector q a)
reduced_vector G p q g r a i j =
    let d = ap pos r.denominator in let f = r.each a.from i in let t = r.each a.to j in
    let e = pos q.denominator in
    (λ l. minus (plus (t l) (times (d l) a.shift)) (f l))
    ∙ vector_equal
    (reduced_step (pos g) (base q a.to).x (base q a.from).x a.shift.x e e (base p 1).x)
    (reduced_step (pos g) (base q a.to).y (base q a.from).y a.shift.y e e (base p 1).y)
    (reduced_step (pos g) (base q a.to).z (base q a.from).z a.shift.z e e (base p 1).z)

-- and so are their sums
sum_scaled : (p q : Placement) (g : ℤ) (as' : List Arc) → ((a : Arc) → IsIn as' a → arc_vector p a ≡ times g (arc_vector q a))
    → vector_sum (map (arc_vector p) as') ≡ times g (vector_sum (map (arc_vector q) as'))
sum_scaled p q g [] h = sym (times_zero g)
sum_scaled p q g (a ∷ as') h =
    (λ i. plus (h a (inl refl) i) (sum_scaled p q g as' (λ b k. h b (inr k)) i)) ∙ sym (times_plus g (arc_vector q a) (vector_sum (map (arc_vector q) as')))

-- the reduced placement is barycentric
pub reduced_barycentric : (G : Graph) → IsGraph G → (p q : Placement) (g : ℕ) → IsReduced G p q g → IsBarycentric G p → IsBarycentric G q
reduced_barycentric G gr p q g r b = record {
  positive = factor_positive g q.denominator (subst (λ (n : ℕ). 1 ≤ n) r.denominator b.positive);
  count = r.count ∙ b.count;
  dimension = λ u i d.
      let one = b.dimension 1 (omega arith, gr.vertices) d in let at_u = b.dimension u i d in
      let e = ap (λ (v : Vector). v.z) (r.each u i) in
      other_factor_zero (pos g) (base q u).z (flat (pos g *ℤ (base q u).z) (base p 1).z (base p u).z e at_u one) (positive_not_zero g r.positive);
  balanced = λ u i. times_cancel (pos g) (vector_sum (map (arc_vector q) (arcs_from G u))) zero_vector (positive_not_zero g r.positive)
      (sym (sum_scaled p q (pos g) (arcs_from G u) (λ a k.
      let s = from_is_arc G u a k in let t = arc_inside G gr a s.0 in
      reduced_vector G p q g r a t.from t.to))
      ∙ b.balanced u i ∙ sym (times_zero (pos g)));
}
  where
    flat : (x o y : ℤ) → y ≡ x +ℤ o → y ≡ pos 0 → o ≡ pos 0 → x ≡ pos 0
    flat x o y e f h = omega (arith, ints)

-- a place, in numbers
place_is : (g b e s o : ℤ) → (g *ℤ b +ℤ o) +ℤ (g *ℤ e) *ℤ s ≡ g *ℤ (b +ℤ e *ℤ s) +ℤ o
place_is g b e s o = simp ring (omega (arith, ints))

-- positions are g times the reduced ones, moved
reduced_position : (G : Graph) (p q : Placement) (g : ℕ) → IsReduced G p q g → (w : Vertex) → IsVertex G w
    → position p w ≡ plus (times (pos g) (position q w)) (base p 1)
reduced_position G p q g r w i =
    let d = ap pos r.denominator in let f = r.each w.over i.over in let e = pos q.denominator in
    (λ l. plus (f l) (times (d l) w.cell))
    ∙ vector_equal
    (place_is (pos g) (base q w.over).x e w.cell.x (base p 1).x)
    (place_is (pos g) (base q w.over).y e w.cell.y (base p 1).y)
    (place_is (pos g) (base q w.over).z e w.cell.z (base p 1).z)

-- and no collision comes from it
pub reduced_apart : (G : Graph) (p q : Placement) (g : ℕ) → IsReduced G p q g → HasNoCollision G p → HasNoCollision G q
reduced_apart G p q g r n u v t k =
    let o = vertex u zero_vector in let x = vertex v t in
    n u v t (record {
      here = k.here;
      there = k.there;
      different = k.different;
      same_place = reduced_position G p q g r o (record { over = k.here; cell = λ d. refl })
          ∙ ap (λ (z : Vector). plus (times (pos g) z) (base p 1)) k.same_place ∙ sym (reduced_position G p q g r x k.there);
    })

-- the shifts of all vertices from vertex 1
abbrev shifts_of : Graph → Placement → ℕ → Vector
shifts_of G p i = minus (base p (suc i)) (base p 1)

module _ (G : Graph) (gr : IsGraph G) (p : Placement) (b : IsBarycentric G p) where
  divisor : Common p.denominator (table (shifts_of G p) G.vertices)
  divisor = common p.denominator (table (shifts_of G p) G.vertices)

  smaller : (c : Common p.denominator (table (shifts_of G p) G.vertices)) → (u : ℕ) → IsQuotientVertex G u
      → times (pos c.g) (base (record { denominator = c.k; at = c.ws }) u) ≡ minus (base p u) (base p 1)
  smaller c u i =
      let e : suc (u - 1) ≡ u = omega arith in
      sym (at_scaled (pos c.g) c.ws (u - 1))
      ∙ ap (λ (vs : List Vector). slice_index_or vs (u - 1) zero_vector) (sym c.vs_is)
      ∙ at_table (shifts_of G p) G.vertices (u - 1) (omega arith)
      ∙ ap (λ (v : ℕ). minus (base p v) (base p 1)) e

  divisor_positive : (c : Common p.denominator (table (shifts_of G p) G.vertices)) → 1 ≤ c.g
  divisor_positive c = first_factor_positive c.g c.k (subst (λ (n : ℕ). 1 ≤ n) c.d_is b.positive)

  is_reduced : (c : Common p.denominator (table (shifts_of G p) G.vertices)) → IsReduced G p (record { denominator = c.k; at = c.ws }) c.g
  is_reduced c = record {
    positive = divisor_positive c;
    denominator = c.d_is;
    count = sym (length-map c.ws (times (pos c.g))) ∙ ap length (sym c.vs_is) ∙ table_length (shifts_of G p) G.vertices ∙ sym b.count;
    each = λ u i. sym (minus_back (base p u) (base p 1)) ∙ ap (λ (u : Vector). plus u (base p 1)) (sym (smaller c u i));
  }

  is_normal : (c : Common p.denominator (table (shifts_of G p) G.vertices)) → IsNormal G (record { denominator = c.k; at = c.ws })
  is_normal c = record {
    origin = times_cancel (pos c.g) (base (record { denominator = c.k; at = c.ws }) 1) zero_vector (positive_not_zero c.g (divisor_positive c))
        (smaller c 1 (omega arith, gr.vertices) ∙ minus_itself (base p 1) ∙ sym (times_zero (pos c.g)));
    reduced = λ j d each.
        let l = quotient_of j c.k d in
        let dd : p.denominator ≡ (c.g * j) * l.0 = c.d_is ∙ ap (λ (t : ℕ). c.g * t) l.1 ∙ sym (mul_assoc c.g j l.0) in
        let all = all_table (c.g * j) (shifts_of G p) G.vertices (λ i m.
        let iu : IsQuotientVertex G (suc i) = (omega arith, omega arith) in let w = each (suc i) iu in
        (w.0, sym (smaller c (suc i) iu) ∙ ap (times (pos c.g)) w.1 ∙ sym (numbers_times c.g j w.0))) in
        let r = c.greatest (c.g * j) (l.0, dd) all in only_one c.g j r.0 (divisor_positive c) r.1;
  }

-- a placement that is barycentric, and the normal one of the same net
pub record HasNormal (G : Graph) (p : Placement) : Type 0 where
  pub normal : Placement
  pub factor : ℕ
  pub reduced : IsReduced G p normal factor
  pub is_normal : IsNormalPlacement G normal

-- reduced by the greatest common divisor, the placement is normal
pub normal_exists : (G : Graph) → IsGraph G → (p : Placement) → IsBarycentric G p → HasNormal G p
normal_exists G gr p b =
    let c = divisor G gr p b in let r = is_reduced G gr p b c in
    record {
      normal = record { denominator = c.k; at = c.ws };
      factor = c.g;
      reduced = r;
      is_normal = record { barycentric = reduced_barycentric G gr p (record { denominator = c.k; at = c.ws }) c.g r b; normal = is_normal G gr p b c };
    }
