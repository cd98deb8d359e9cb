-- The greatest common divisor is a combination.
use Rattle.std.{proofs.Common.ℕ, proofs.Common.pos, proofs.Common.ap, proofs.Common.◌∙◌, proofs.lemmas.Nat.Gcd.same_from_IsGcd, specs.Int.IsGcd}
use Rattle.integers.proofs.numbers.Divisors.{Bezout, bezout, bezout_gcd}
use Rattle.exact.specs.Combination.{IsCombination}

-- the greatest common divisor of two numbers is a combination of them
pub gcd_is_combination : (a b g : ℕ) → IsGcd a b g → IsCombination a b g
gcd_is_combination a b g h = by (bezout a b)
  where
    by : Bezout a b → IsCombination a b g
    by z = record { s = z.s; t = z.t; is = ap pos (same_from_IsGcd a b g z.g h (bezout_gcd a b z)) ∙ z.g_is }
