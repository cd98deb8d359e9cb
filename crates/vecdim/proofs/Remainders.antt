-- Remainders modulo a lattice: a vector has one, and a member has the remainder 0.
use Rattle.std.proofs.Common.{◌≡◌, ℕ, zero, suc, ℤ, pos, negsuc, ◌+ℤ◌, ◌-ℤ◌, ◌*ℤ◌, ◌≤ℤ◌, ◌<ℤ◌, refl, ap, arith}
use Rattle.std.proofs.lemmas.Int.{ints}
use borrow.Author.Differences.{product_is}
use Rattle.integers.specs.Vectors.{Vector, zero_vector, minus}
use Rattle.integers.proofs.{numbers.Ring.ring, numbers.Ring.linear, numbers.Ring.zero_product, vectors.Laws.vector_equal}
use Rattle.vecdim.specs.{Stairs.Stairs, Stairs.InStairs, Stairs.HasStairShape, Stairs.IsRemainder, Steps.HasRemainder}

-- a multiple of m between two rests is 0
no_multiple : (m r s k : ℤ) → pos 0 ≤ℤ r → r <ℤ m → pos 0 ≤ℤ s → s <ℤ m → r -ℤ s ≡ k *ℤ m → k ≡ pos 0
no_multiple (pos m) r s (pos zero) a b c d e = refl
no_multiple (pos m) r s (pos (suc k)) a b c d e = absurd (let p = product_is (pos (suc k)) (pos m) in omega (arith, ints))
no_multiple (pos m) r s (negsuc k) a b c d e = absurd (let p = product_is (negsuc k) (pos m) in omega (arith, ints))
no_multiple (negsuc m) r s k a b c d e = absurd (omega (arith, ints, a, b))

-- a difference that is 0 times a number is 0
no_difference : (m r s k : ℤ) → k ≡ pos 0 → r -ℤ s ≡ k *ℤ m → r ≡ s
no_difference m r s k h e = grind (arith, zero_product)

-- the second part of a member whose first coefficient is 0
second_part : (y k l b e : ℤ) → k ≡ pos 0 → y ≡ k *ℤ b +ℤ l *ℤ e → y ≡ l *ℤ e
second_part y k l b e h p = let u = ap (λ (t : ℤ). t *ℤ b) h in omega (arith, linear, p, simp ring at u)

-- the third part of a member whose first two coefficients are 0
third_part : (z k l n c f i : ℤ) → k ≡ pos 0 → l ≡ pos 0 → z ≡ k *ℤ c +ℤ l *ℤ f +ℤ n *ℤ i → z ≡ n *ℤ i
third_part z k l n c f i h j p =
    let u = ap (λ (t : ℤ). t *ℤ c) h in let v = ap (λ (t : ℤ). t *ℤ f) j in
    omega (arith, linear, p, simp ring at u, simp ring at v)

-- remainders that differ by a member are equal
pub one_remainder : (d : ℕ) (S : Stairs) (r s : Vector) → IsRemainder d S r → IsRemainder d S s → InStairs S (minus r s) → r ≡ s
one_remainder d S r s g h m =
    let k = no_multiple S.first_x r.x s.x m.k g.low.0 g.high.0 h.low.0 h.high.0 m.x in
    let y = second_part (r.y -ℤ s.y) m.k m.l S.first_y S.second_y k m.y in
    let l = no_multiple S.second_y r.y s.y m.l g.low.1 g.high.1 h.low.1 h.high.1 y in
    let z = third_part (r.z -ℤ s.z) m.k m.l m.n S.first_z S.second_z S.third_z k l m.z in
    let n = no_multiple S.third_z r.z s.z m.n g.low.2 g.high.2 h.low.2 h.high.2 z in
    vector_equal (no_difference S.first_x r.x s.x m.k k m.x) (no_difference S.second_y r.y s.y m.l l y) (no_difference S.third_z r.z s.z m.n n z)

-- what was taken off, part by part
pub first_off : (v r a q : ℤ) → v ≡ r +ℤ a *ℤ q → v -ℤ r ≡ q *ℤ a
first_off v r a q e = simp ring (omega (arith, linear, e))

-- the second part
pub second_off : (v r b e q l : ℤ) → v -ℤ b *ℤ q ≡ r +ℤ e *ℤ l → v -ℤ r ≡ q *ℤ b +ℤ l *ℤ e
second_off v r b e q l h = simp ring (omega (arith, linear, h))

-- the third
pub third_off : (v r c f i q l n : ℤ) → (v -ℤ c *ℤ q) -ℤ f *ℤ l ≡ r +ℤ i *ℤ n → v -ℤ r ≡ q *ℤ c +ℤ l *ℤ f +ℤ n *ℤ i
third_off v r c f i q l n h = simp ring (omega (arith, linear, h))

-- the vector and its rests differ by a member
pub divided_member : {S : Stairs} {v q r : Vector} → HasRemainder S v q r → InStairs S (minus v r)
divided_member {S} {v} {q} {r} h = record {
  k = q.x;
  l = q.y;
  n = q.z;
  x = first_off v.x r.x S.first_x q.x h.x;
  y = second_off v.y r.y S.first_y S.second_y q.x q.y h.y;
  z = third_off v.z r.z S.first_z S.second_z S.third_z q.x q.y q.z h.z;
}

-- what is from 0 to below 1 is 0
zero_below_one : (r i : ℤ) → i ≡ pos 1 → pos 0 ≤ℤ r → r <ℤ i → r ≡ pos 0
zero_below_one r i e h k = omega (arith, ints, e, h, k)

-- the rests are a remainder
pub divided_remainder : (d : ℕ) {S : Stairs} {v q r : Vector} → HasStairShape d S → HasRemainder S v q r → IsRemainder d S r
divided_remainder d {S} {v} {q} {r} s h = search (arith, zero_below_one)

-- 0 is a remainder
zero_remainder : (d : ℕ) (S : Stairs) → HasStairShape d S → IsRemainder d S zero_vector
zero_remainder d S s = search arith

-- a difference of two members
apart_x : (k k' a v r : ℤ) → v -ℤ r ≡ k *ℤ a → v ≡ k' *ℤ a → r -ℤ pos 0 ≡ (k' -ℤ k) *ℤ a
apart_x k k' a v r e f = simp ring (omega (arith, linear, e, f))

-- the second part
apart_y : (k k' l l' a b v r : ℤ) → v -ℤ r ≡ k *ℤ a +ℤ l *ℤ b → v ≡ k' *ℤ a +ℤ l' *ℤ b → r -ℤ pos 0 ≡ (k' -ℤ k) *ℤ a +ℤ (l' -ℤ l) *ℤ b
apart_y k k' l l' a b v r e f = simp ring (omega (arith, linear, e, f))

-- the third
apart_z : (k k' l l' n n' a b c v r : ℤ) → v -ℤ r ≡ k *ℤ a +ℤ l *ℤ b +ℤ n *ℤ c → v ≡ k' *ℤ a +ℤ l' *ℤ b +ℤ n' *ℤ c
    → r -ℤ pos 0 ≡ (k' -ℤ k) *ℤ a +ℤ (l' -ℤ l) *ℤ b +ℤ (n' -ℤ n) *ℤ c
apart_z k k' l l' n n' a b c v r e f = simp ring (omega (arith, linear, e, f))

-- if a vector is a member, so is what it differs from by a member
rest_member : {S : Stairs} (v r : Vector) → InStairs S (minus v r) → InStairs S v → InStairs S (minus r zero_vector)
rest_member {S} v r m t = record {
  k = t.k -ℤ m.k;
  l = t.l -ℤ m.l;
  n = t.n -ℤ m.n;
  x = apart_x m.k t.k S.first_x v.x r.x m.x t.x;
  y = apart_y m.k t.k m.l t.l S.first_y S.second_y v.y r.y m.y t.y;
  z = apart_z m.k t.k m.l t.l m.n t.n S.first_z S.second_z S.third_z v.z r.z m.z t.z;
}

-- a member has the remainder 0
pub member_rests : (d : ℕ) {S : Stairs} {v q r : Vector} → HasStairShape d S → HasRemainder S v q r → InStairs S v → r ≡ zero_vector
member_rests d {S} {v} {q} {r} s h m =
    one_remainder d S r zero_vector (divided_remainder d s h) (zero_remainder d S s) (rest_member v r (divided_member h) m)
