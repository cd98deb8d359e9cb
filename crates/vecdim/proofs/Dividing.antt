-- Tests, division by a divisor of either sign, and products that fit in 64 bits.
use Rattle.std.proofs.Common.{Bool, arith, ◌≡◌, ◌+◌, ◌*◌, ◌/◌, ◌%◌, ◌<ℤ◌, ℤ, pos, negsuc, ◌+ℤ◌, ◌*ℤ◌, neg_ℤ, int_div, to_z, of_z, FitsSigned, sym, ap, ◌∙◌}
use Rattle.std.proofs.{Common.ℕ, Common.◌≤◌, Common.◌^◌, Common.lit≤, lemmas.Int.ints, lemmas.Int.quot_is, lemmas.Int.quot_fits, Math.Nat.le_trans}
use Rattle.std.specs.{Prelude.◌↔◌, Prelude.IsTrue, Prelude.not, Prelude.unsigned_abs, Int.int_rem_euclid, Int.w128}
use Rattle.integers.proofs.numbers.Ring.{product_negative, ring, linear}
use Rattle.integers.specs.Vectors.{Vector, opposite, times, IsWithin}
use Rattle.integers.proofs.{numbers.Division.quotient_times, vectors.Laws.vector_equal, vectors.Bounds.bounded_product}
use Rattle.vecdim.specs.SmallVectors.{HaveSmallProducts}

-- one equivalence and another
pub through : {P Q R : Type 0} → P ↔ Q → Q ↔ R → P ↔ R
through f g = (λ p. g.0 (f.0 p), λ r. f.1 (g.1 r))

-- where a test decides P, its opposite decides that P does not hold
pub not_decides : (b : Bool) {P : Type 0} → IsTrue b ↔ P → IsTrue (not b) ↔ (¬ P)
not_decides b k = search arith

-- the remainder differs by a multiple
pub remainder : (z m : ℤ) → pos 0 <ℤ m → (k : ℤ) × (int_rem_euclid z m ≡ z +ℤ m *ℤ k)
remainder (pos n) (pos m) h =
    let q : n % m + m * (n / m) ≡ n = omega arith in
    (neg_ℤ (pos (n / m)), simp product_negative (omega (arith, ints)))
remainder (negsuc n) (pos m) h =
    let q : m * (n / m) + n % m ≡ n = omega arith in (pos (n / m + 1), omega (arith, ints))
remainder z (negsuc m) h = absurd (omega (arith, ints, h))

-- an exact quotient, as the code divides
pub exact_value : (a g : ℤ) → FitsSigned w128 a → FitsSigned w128 g → pos 0 <ℤ g → (w : ℤ) × (a ≡ g *ℤ w)
    → a ≡ g *ℤ to_z w128 (of_z w128 (int_div (to_z w128 (of_z w128 a)) (to_z w128 (of_z w128 g))))
exact_value a g fa fg p d = quotient_times a g p d ∙ ap (λ t. g *ℤ t) (sym (quot_is w128 a g fa fg (quot_fits w128 a g fa p)))

-- the opposite of a multiple is a multiple by the opposite number
pub opposite_divides : (g size : ℤ) (v u w : Vector) → size ≡ neg_ℤ g → u ≡ opposite v → v ≡ times g w → u ≡ times size w
opposite_divides g size v u w e o d =
    o ∙ ap opposite d ∙ vector_equal (turned g w.x) (turned g w.y) (turned g w.z) ∙ ap (λ (k : ℤ). times k w) (sym e)
  where
    turned : (k z : ℤ) → neg_ℤ (k *ℤ z) ≡ neg_ℤ k *ℤ z
    turned k z = simp ring (omega (arith, linear))

-- and back
pub opposite_back : (g size : ℤ) (v u w : Vector) → size ≡ neg_ℤ g → u ≡ opposite v → u ≡ times size w → v ≡ times g w
opposite_back g size v u w e o d =
    vector_equal (omega (arith, linear)) (omega (arith, linear)) (omega (arith, linear)) ∙ ap opposite (sym o ∙ d ∙ ap (λ (k : ℤ). times k w) e)
    ∙ vector_equal (simp ring (omega (arith, linear))) (simp ring (omega (arith, linear))) (simp ring (omega (arith, linear)))

-- vectors have small products if their bounds have
pub small_products : (m n : ℕ) → m * n ≤ 2 ^ 61 → (v w : Vector) → IsWithin m v → IsWithin n w → HaveSmallProducts v w
small_products m n b v w h k = search (arith, le_trans, bounded_product)

-- a product of two numbers of at most 2^30
pub small_product : (a b : ℤ) → unsigned_abs a ≤ 2 ^ 30 → unsigned_abs b ≤ 2 ^ 30 → unsigned_abs (a *ℤ b) ≤ 2 ^ 61
small_product a b h k = le_trans (bounded_product a b (2 ^ 30) (2 ^ 30) h k) (lit≤ tt)
