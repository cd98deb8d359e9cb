-- The laws of vectors: sums, multiples, products c·v, dimension, and sums along a base. Their parts are coordinates.
use Rattle.std.proofs.Common.{◌≡◌, ◌≢◌, ◌≤◌, ℕ, ◌*◌, ℤ, pos, neg_ℤ, ◌+ℤ◌, ◌-ℤ◌, ◌*ℤ◌, sym, ap, ◌∙◌, arith, ◌∷◌, ◌<◌, refl}
use Rattle.std.proofs.{Math.IntN.pos-*ℤ-pos, lemmas.Int.ints}
use Rattle.integers.specs.Vectors.{Vector, zero_vector, plus, minus, opposite, times, dot, cross, triple_product, HasDimension, parts, vector, up_vector}
use Rattle.integers.proofs.numbers.Ring.{ring, linear, cancel_factor, other_factor_zero, positive_not_zero}
use Rattle.integers.specs.{Coordinates.IsCoordinate, Staircase.part, Bases.Base, Bases.base_sum}

-- vectors with equal parts are equal
pub vector_equal : {v w : Vector} → v.x ≡ w.x → v.y ≡ w.y → v.z ≡ w.z → v ≡ w
vector_equal p q r = λ i. record { x = p i; y = q i; z = r i }

-- sums of equal vectors are equal
pub plus_equal : {v w v' w' : Vector} → v ≡ v' → w ≡ w' → plus v w ≡ plus v' w'
plus_equal h k = λ i. plus (h i) (k i)

-- differences of equal vectors are equal
pub minus_equal : {v w v' w' : Vector} → v ≡ v' → w ≡ w' → minus v w ≡ minus v' w'
minus_equal h k = λ i. minus (h i) (k i)

-- v + 0 = v
pub plus_zero : (v : Vector) → plus v zero_vector ≡ v
plus_zero v = vector_equal (omega (arith, linear)) (omega (arith, linear)) (omega (arith, linear))

-- 0 + v = v
pub zero_plus : (v : Vector) → plus zero_vector v ≡ v
zero_plus v = vector_equal (omega (arith, linear)) (omega (arith, linear)) (omega (arith, linear))

-- (u + v) + w = u + (v + w)
pub plus_associative : (u v w : Vector) → plus (plus u v) w ≡ plus u (plus v w)
plus_associative u v w = vector_equal (omega (arith, linear)) (omega (arith, linear)) (omega (arith, linear))

-- v + w = w + v
pub plus_commutative : (v w : Vector) → plus v w ≡ plus w v
plus_commutative v w = vector_equal (omega (arith, linear)) (omega (arith, linear)) (omega (arith, linear))

-- (u + v) + w = (u + w) + v
pub plus_exchange : (u v w : Vector) → plus (plus u v) w ≡ plus (plus u w) v
plus_exchange u v w = vector_equal (omega (arith, linear)) (omega (arith, linear)) (omega (arith, linear))

-- (v + w) + (-w) = v
pub plus_opposite : (v w : Vector) → plus (plus v w) (opposite w) ≡ v
plus_opposite v w = vector_equal (omega (arith, linear)) (omega (arith, linear)) (omega (arith, linear))

-- (v + (-w)) + w = v
pub opposite_plus : (v w : Vector) → plus (plus v (opposite w)) w ≡ v
opposite_plus v w = vector_equal (omega (arith, linear)) (omega (arith, linear)) (omega (arith, linear))

-- v + (w - v) = w
pub plus_minus : (v w : Vector) → plus v (minus w v) ≡ w
plus_minus v w = vector_equal (omega (arith, linear)) (omega (arith, linear)) (omega (arith, linear))

-- (v - w) + w = v
pub minus_back : (v w : Vector) → plus (minus v w) w ≡ v
minus_back v w = vector_equal (omega (arith, linear)) (omega (arith, linear)) (omega (arith, linear))

-- (v + r) - v = r
pub minus_plus : (v r : Vector) → minus (plus v r) v ≡ r
minus_plus v r = vector_equal (omega (arith, linear)) (omega (arith, linear)) (omega (arith, linear))

-- (v + r) - (w + r) = v - w
pub minus_shifted : (v w r : Vector) → minus (plus v r) (plus w r) ≡ minus v w
minus_shifted v w r = vector_equal (omega (arith, linear)) (omega (arith, linear)) (omega (arith, linear))

-- -(v - w) = w - v
pub opposite_minus : (v w : Vector) → opposite (minus v w) ≡ minus w v
opposite_minus v w = vector_equal (omega (arith, linear)) (omega (arith, linear)) (omega (arith, linear))

-- v - v = 0
pub minus_itself : (v : Vector) → minus v v ≡ zero_vector
minus_itself v = vector_equal (omega (arith, linear)) (omega (arith, linear)) (omega (arith, linear))

-- v - 0 = v
pub minus_zero : (v : Vector) → minus v zero_vector ≡ v
minus_zero v = vector_equal (omega (arith, linear)) (omega (arith, linear)) (omega (arith, linear))

-- if v - w is 0, v is w
pub equal_of_minus : (v w : Vector) → minus v w ≡ zero_vector → v ≡ w
equal_of_minus v w e = vector_equal (omega (arith, linear, ap (λ (a : Vector). a.x) e)) (omega (arith, linear, ap (λ (a : Vector). a.y) e))
    (omega (arith, linear, ap (λ (a : Vector). a.z) e))

-- t cancels
cancel_number : (t x y : ℤ) → t +ℤ x ≡ t +ℤ y → x ≡ y
cancel_number t x y e = omega (arith, linear, e)

-- if t + v is t + w, v is w
pub plus_cancel : (t v w : Vector) → plus t v ≡ plus t w → v ≡ w
plus_cancel t v w e = vector_equal (cancel_number t.x v.x w.x (ap (λ (a : Vector). a.x) e)) (cancel_number t.y v.y w.y (ap (λ (a : Vector). a.y) e))
    (cancel_number t.z v.z w.z (ap (λ (a : Vector). a.z) e))

-- what is taken off both cancels
pub minus_cancel : (a b c : Vector) → minus a c ≡ minus b c → a ≡ b
minus_cancel a b c h =
    let x = ap (λ (t : Vector). t.x) h in let y = ap (λ (t : Vector). t.y) h in
    let z = ap (λ (t : Vector). t.z) h in
    vector_equal (omega (arith, ints)) (omega (arith, ints)) (omega (arith, ints))

-- k·0 = 0
pub times_zero : (k : ℤ) → times k zero_vector ≡ zero_vector
times_zero k = vector_equal (omega (arith, ints)) (omega (arith, ints)) (omega (arith, ints))

-- 0·v = 0
pub zero_times : (v : Vector) → times (pos 0) v ≡ zero_vector
zero_times v = vector_equal (omega (arith, ints)) (omega (arith, ints)) (omega (arith, ints))

-- 1·v = v
pub one_times : (v : Vector) → times (pos 1) v ≡ v
one_times v = vector_equal (omega (arith, ints)) (omega (arith, ints)) (omega (arith, ints))

-- k·(v + w) = k·v + k·w
pub times_plus : (k : ℤ) (v w : Vector) → times k (plus v w) ≡ plus (times k v) (times k w)
times_plus k v w = vector_equal (simp ring (omega (arith, linear))) (simp ring (omega (arith, linear))) (simp ring (omega (arith, linear)))

-- (k + l)·v = k·v + l·v
pub sum_times : (k l : ℤ) (v : Vector) → times (k +ℤ l) v ≡ plus (times k v) (times l v)
sum_times k l v = vector_equal (simp ring (omega (arith, linear))) (simp ring (omega (arith, linear))) (simp ring (omega (arith, linear)))

-- k·(l·v) = l·(k·v)
pub times_exchange : (k l : ℤ) (v : Vector) → times k (times l v) ≡ times l (times k v)
times_exchange k l v = vector_equal (simp ring (omega (arith, linear))) (simp ring (omega (arith, linear))) (simp ring (omega (arith, linear)))

-- (k·l)·v = k·(l·v)
pub product_times : (k l : ℤ) (v : Vector) → times (k *ℤ l) v ≡ times k (times l v)
product_times k l v = vector_equal (simp ring (omega (arith, linear))) (simp ring (omega (arith, linear))) (simp ring (omega (arith, linear)))

-- the same for natural numbers
pub numbers_times : (m n : ℕ) (v : Vector) → times (pos (m * n)) v ≡ times (pos m) (times (pos n) v)
numbers_times m n v = ap (λ (k : ℤ). times k v) (sym (pos-*ℤ-pos m n)) ∙ product_times (pos m) (pos n) v

-- a factor other than 0 cancels
pub times_cancel : (d : ℤ) (v w : Vector) → d ≢ pos 0 → times d v ≡ times d w → v ≡ w
times_cancel d v w n e =
    vector_equal (cancel_factor d v.x w.x n (ap (λ (a : Vector). a.x) e)) (cancel_factor d v.y w.y n (ap (λ (a : Vector). a.y) e))
    (cancel_factor d v.z w.z n (ap (λ (a : Vector). a.z) e))

-- c·(v + w) = c·v + c·w
pub dot_plus : (c v w : Vector) → dot c (plus v w) ≡ dot c v +ℤ dot c w
dot_plus c v w = simp ring (omega (arith, linear))

-- c·(k·v) = k·(c·v)
pub dot_times : (c : Vector) (k : ℤ) (v : Vector) → dot c (times k v) ≡ k *ℤ dot c v
dot_times c k v = simp ring (omega (arith, linear))

-- c·0 = 0
pub dot_zero : (c : Vector) → dot c zero_vector ≡ pos 0
dot_zero c = omega (arith, ints)

-- a sum of vectors of dimension d has dimension d
pub plus_dimension : (d : ℕ) (v w : Vector) → HasDimension d v → HasDimension d w → HasDimension d (plus v w)
plus_dimension d v w h k e = let a = h e in let b = k e in omega (arith, ints)

-- and so has a difference
pub minus_dimension : (d : ℕ) (v w : Vector) → HasDimension d v → HasDimension d w → HasDimension d (minus v w)
minus_dimension d v w h k e = let a = h e in let b = k e in omega (arith, ints)

-- and so has the opposite
pub opposite_dimension : (d : ℕ) (v : Vector) → HasDimension d v → HasDimension d (opposite v)
opposite_dimension d v h e = ap neg_ℤ (h e)

-- and so has a multiple
pub times_dimension : (d : ℕ) (k : ℤ) (v : Vector) → HasDimension d v → HasDimension d (times k v)
times_dimension d k v h e = grind arith

-- a vector that has the dimension once it is multiplied by a positive number has it
pub divided_dimension : (d n : ℕ) → 1 ≤ n → (u : Vector) → HasDimension d (times (pos n) u) → HasDimension d u
divided_dimension d n h u f e = other_factor_zero (pos n) u.z (f e) (positive_not_zero n h)

-- the product of the cross product of b and c with a
pub dot_cross : (a b c : Vector) → dot (cross b c) a ≡ triple_product a b c
dot_cross a b c = simp ring (omega (arith, linear))

-- the three parts determine a vector
pub parts_tell : (v w : Vector) → parts 3 v ≡ parts 3 w → v ≡ w
parts_tell v w e = grind arith

-- after two numbers, they determine these too
pub ends_tell : (u v u' v' : ℕ) (s t : Vector) → (pos u ∷ pos v ∷ parts 3 s) ≡ (pos u' ∷ pos v' ∷ parts 3 t) → (u ≡ u') × (v ≡ v') × (s ≡ t)
ends_tell u v u' v' s t e = (cc, cc, parts_tell s t (let p : parts 3 s ≡ parts 3 t = cc in p))

-- the first coordinate
pub coordinate_x : IsCoordinate (λ v. v.x)
coordinate_x = record { zero = refl; plus_is = λ v w. refl; minus_is = λ v w. refl; times_is = λ k v. refl }

-- the second
pub coordinate_y : IsCoordinate (λ v. v.y)
coordinate_y = record { zero = refl; plus_is = λ v w. refl; minus_is = λ v w. refl; times_is = λ k v. refl }

-- the third
pub coordinate_z : IsCoordinate (λ v. v.z)
coordinate_z = record { zero = refl; plus_is = λ v w. refl; minus_is = λ v w. refl; times_is = λ k v. refl }

-- a number of three
pub below_three : (P : ℕ → Type 0) → P 0 → P 1 → P 2 → (c : ℕ) → c < 3 → P c
below_three P h k p c q = grind arith

-- each part of a vector is a coordinate
pub part_is_coordinate : (c : ℕ) → c < 3 → IsCoordinate (part c)
part_is_coordinate = below_three (λ c. IsCoordinate (part c)) coordinate_x coordinate_y coordinate_z

-- a coordinate of the sum of v_i times B_i
pub base_is : (c : Vector → ℤ) → IsCoordinate c → (b : Base) (v : Vector) → c (base_sum b v) ≡ v.x *ℤ c b.first +ℤ (v.y *ℤ c b.second +ℤ v.z *ℤ c b.third)
base_is c l b v = grind arith

-- a sum of three, each with a factor 0
pub flat_sum : (x y z a b c : ℤ) → a ≡ pos 0 → b ≡ pos 0 → z ≡ pos 0 → x *ℤ a +ℤ (y *ℤ b +ℤ z *ℤ c) ≡ pos 0
flat_sum x y z a b c e f g = (λ i. x *ℤ e i +ℤ (y *ℤ f i +ℤ g i *ℤ c)) ∙ simp ring (omega (arith, ints))

-- the sum along shifts is 0 at 0
after_zero : (x y z : ℤ) → pos 0 *ℤ x +ℤ (pos 0 *ℤ y +ℤ pos 0 *ℤ z) ≡ pos 0
after_zero x y z = omega (arith, ints)

-- it takes sums to sums
after_plus : (a b c a' b' c' x y z : ℤ) → (a +ℤ a') *ℤ x +ℤ ((b +ℤ b') *ℤ y +ℤ (c +ℤ c') *ℤ z) ≡ (a *ℤ x +ℤ (b *ℤ y +ℤ c *ℤ z)) +ℤ
    (a' *ℤ x +ℤ (b' *ℤ y +ℤ c' *ℤ z))
after_plus a b c a' b' c' x y z = simp ring (omega (arith, ints))

-- differences to differences
after_minus : (a b c a' b' c' x y z : ℤ) → (a -ℤ a') *ℤ x +ℤ ((b -ℤ b') *ℤ y +ℤ (c -ℤ c') *ℤ z) ≡ (a *ℤ x +ℤ (b *ℤ y +ℤ c *ℤ z)) -ℤ
    (a' *ℤ x +ℤ (b' *ℤ y +ℤ c' *ℤ z))
after_minus a b c a' b' c' x y z = simp ring (omega (arith, ints))

-- multiples to multiples
after_times : (k a b c x y z : ℤ) → (k *ℤ a) *ℤ x +ℤ ((k *ℤ b) *ℤ y +ℤ (k *ℤ c) *ℤ z) ≡ k *ℤ (a *ℤ x +ℤ (b *ℤ y +ℤ c *ℤ z))
after_times k a b c x y z = simp ring (omega (arith, ints))

-- a linear reading of the sum is a linear reading
pub coordinate_after : (c : Vector → ℤ) → IsCoordinate c → (b : Base) → IsCoordinate (λ v. c (base_sum b v))
coordinate_after c l b = search (arith, base_is, after_zero, after_plus, after_minus, after_times)

-- the sum of v_i·B_i takes sums to sums
pub base_sum_plus : (b : Base) (v w : Vector) → base_sum b (plus v w) ≡ plus (base_sum b v) (base_sum b w)
base_sum_plus b v w = vector_equal (simp ring (omega (arith, ints))) (simp ring (omega (arith, ints))) (simp ring (omega (arith, ints)))

-- differences to differences
pub base_sum_minus : (b : Base) (v w : Vector) → base_sum b (minus v w) ≡ minus (base_sum b v) (base_sum b w)
base_sum_minus b v w = vector_equal (simp ring (omega (arith, ints))) (simp ring (omega (arith, ints))) (simp ring (omega (arith, ints)))

-- 0 to 0
pub base_sum_zero : (b : Base) → base_sum b zero_vector ≡ zero_vector
base_sum_zero b = vector_equal (omega (arith, ints)) (omega (arith, ints)) (omega (arith, ints))

-- the shifts of the second map after those of the first
abbrev pub base_after : Base → Base → Base
base_after c b = record { first = base_sum c b.first; second = base_sum c b.second; third = base_sum c b.third }

-- one sum after the other
pub base_sum_after : (c b : Base) (k : Vector) → base_sum c (base_sum b k) ≡ base_sum (base_after c b) k
base_sum_after c b k = vector_equal (simp ring (omega (arith, ints))) (simp ring (omega (arith, ints))) (simp ring (omega (arith, ints)))

-- multiples to multiples
pub base_sum_times : (b : Base) (m : ℤ) (k : Vector) → base_sum b (times m k) ≡ times m (base_sum b k)
base_sum_times b m k = vector_equal (simp ring (omega (arith, ints))) (simp ring (omega (arith, ints))) (simp ring (omega (arith, ints)))

-- the unit vectors
abbrev pub unit_base : Base
unit_base = record {
  first = vector (pos 1) (pos 0) (pos 0);
  second = vector (pos 0) (pos 1) (pos 0);
  third = up_vector;
}

-- the sum along the unit vectors
pub unit_sum : (k : Vector) → times (pos 1) k ≡ base_sum unit_base k
unit_sum k = vector_equal (omega (arith, ints)) (omega (arith, ints)) (omega (arith, ints))
