use Rattle.std.{proofs.Common.ℕ, proofs.Common.pos, proofs.Common.All, specs.Int.◌∣◌}
use Rattle.integers.specs.Vectors.{DividesVector}
use Rattle.barycentre.proofs.testing.are_coprime.Given as goal

-- what divides the number and all vectors divides the divisor
abbrev pub invariant-loop-v : goal.invariant-loop-v
invariant-loop-v l = (k : ℕ) → k ∣ l.d0 → All (DividesVector (pos k)) l.at → k ∣ l.divisor
