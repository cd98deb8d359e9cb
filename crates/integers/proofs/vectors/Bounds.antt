-- Bounds of absolute values: of sums, products, and sums of products. What a body in 128 bits owes at each step is such a bound.
use Rattle.std.proofs.Common.{◌≡◌, ℕ, ◌+◌, ◌*◌, ◌≤◌, ℤ, ◌+ℤ◌, ◌-ℤ◌, ◌*ℤ◌, neg_ℤ, sym, subst, arith}
use Rattle.std.proofs.{lemmas.Int.unsigned_abs-mul, lemmas.Int.fits_signed_from_abs, Math.Nat.mul-le-mul, Math.Nat.le_trans}
use Rattle.std.specs.{Prelude.unsigned_abs, Prelude.FitsSigned, Prelude.◌<◌, Prelude.◌^◌, Int.w128}
use Rattle.integers.specs.Vectors.{Vector, plus, minus, times, dot, cross, triple_product, IsWithin}

-- |-a| = |a|
pub abs_negative : (a : ℤ) → unsigned_abs (neg_ℤ a) ≡ unsigned_abs a
abs_negative a = grind arith

-- |a + b| ≤ |a| + |b|
pub abs_sum : (a b : ℤ) → unsigned_abs (a +ℤ b) ≤ unsigned_abs a + unsigned_abs b
abs_sum a b = grind arith

-- |a - b| ≤ |a| + |b|
pub abs_difference : (a b : ℤ) → unsigned_abs (a -ℤ b) ≤ unsigned_abs a + unsigned_abs b
abs_difference a b = grind arith

-- a sum of bounded numbers
pub bounded_sum : (a b : ℤ) (m n : ℕ) → unsigned_abs a ≤ m → unsigned_abs b ≤ n → unsigned_abs (a +ℤ b) ≤ m + n
bounded_sum a b m n h k = let s = abs_sum a b in omega arith

-- a difference
pub bounded_difference : (a b : ℤ) (m n : ℕ) → unsigned_abs a ≤ m → unsigned_abs b ≤ n → unsigned_abs (a -ℤ b) ≤ m + n
bounded_difference a b m n h k = let s = abs_difference a b in omega arith

-- a product
pub bounded_product : (a b : ℤ) (m n : ℕ) → unsigned_abs a ≤ m → unsigned_abs b ≤ n → unsigned_abs (a *ℤ b) ≤ m * n
bounded_product a b m n h k = subst (λ (t : ℕ). t ≤ m * n) (sym (unsigned_abs-mul a b)) (mul-le-mul h k)

-- a·b - c·d
pub bounded_minor : (a b c d : ℤ) (m n : ℕ) → unsigned_abs a ≤ m → unsigned_abs b ≤ n → unsigned_abs c ≤ m → unsigned_abs d ≤ n
    → unsigned_abs (a *ℤ b -ℤ c *ℤ d) ≤ 2 * (m * n)
bounded_minor a b c d m n ha hb hc hd = search (arith, bounded_difference, bounded_product)

-- three terms, each at most t
triple_term : (a b c : ℤ) (t : ℕ) → unsigned_abs a ≤ t → unsigned_abs b ≤ t → unsigned_abs c ≤ t → unsigned_abs (a +ℤ b +ℤ c) ≤ 3 * t
triple_term a b c t ha hb hc = search (arith, bounded_sum)

-- the product c·v
pub bounded_dot : (c v : Vector) (m n : ℕ) → IsWithin m c → IsWithin n v → unsigned_abs (dot c v) ≤ 3 * (m * n)
bounded_dot c v m n h k = search (arith, triple_term, bounded_product)

-- the triple product
pub bounded_triple : (a b c : Vector) (l m n : ℕ) → IsWithin l a → IsWithin m b → IsWithin n c → unsigned_abs (triple_product a b c) ≤ 3 * (l * (2 * (m * n)))
bounded_triple a b c l m n ha hb hc = search (arith, triple_term, bounded_product, bounded_minor)

-- what is bounded below 2^127 fits in 128 bits
pub fits_from_bound : (z : ℤ) (n : ℕ) → n < 2 ^ 127 → unsigned_abs z ≤ n → FitsSigned w128 z
fits_from_bound z n l h = fits_signed_from_abs w128 z (omega arith)

-- the cross product
pub bounded_cross : (v w : Vector) (m n : ℕ) → IsWithin m v → IsWithin n w → IsWithin (2 * (m * n)) (cross v w)
bounded_cross v w m n h k = search (arith, bounded_minor)

-- a sum of vectors
pub bounded_plus : (v w : Vector) (m n : ℕ) → IsWithin m v → IsWithin n w → IsWithin (m + n) (plus v w)
bounded_plus v w m n h k = (bounded_sum v.x w.x m n h.0 k.0, bounded_sum v.y w.y m n h.1 k.1, bounded_sum v.z w.z m n h.2 k.2)

-- a difference of vectors
pub bounded_minus : (v w : Vector) (m n : ℕ) → IsWithin m v → IsWithin n w → IsWithin (m + n) (minus v w)
bounded_minus v w m n h k = search (arith, bounded_difference)

-- a multiple of a vector
pub bounded_times : (a : ℤ) (v : Vector) (m n : ℕ) → unsigned_abs a ≤ m → IsWithin n v → IsWithin (m * n) (times a v)
bounded_times a v m n h k = (bounded_product a v.x m n h k.0, bounded_product a v.y m n h k.1, bounded_product a v.z m n h k.2)

-- a wider bound
pub wider : (m n : ℕ) → m ≤ n → (v : Vector) → IsWithin m v → IsWithin n v
wider m n h v k = (le_trans k.0 h, le_trans k.1 h, le_trans k.2 h)
