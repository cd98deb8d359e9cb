use Rattle.std.{proofs.Common.ℕ, specs.Int.IsGcd}
use Rattle.exact.proofs.divisors.short_gcd.Given as goal

-- the numbers have the divisors of the first two
abbrev pub invariant-loop-rest : goal.invariant-loop-rest
invariant-loop-rest l = (g : ℕ) → IsGcd l.divisor l.rest g → IsGcd l.a l.b g

abbrev pub decreases-loop-rest : goal.decreases-loop-rest
decreases-loop-rest l = l.rest
