-- Numbers that have the value of a formal fraction, whose denominator can be cancelled.
use Rattle.std.specs.Prelude.{ℕ, ℤ, pos, ◌*ℤ◌, unsigned_abs}
use Rattle.std.specs.Int.{◌∣◌}
use Rattle.exact.specs.Ratio.{Ratio, Same}

-- z can be cancelled modulo m
pub record CanCancel (m : ℕ) (z : ℤ) : Type 0 where
  pub cancels : (x : ℤ) → m ∣ unsigned_abs (z *ℤ x) → m ∣ unsigned_abs x

-- a has the value of b, whose denominator can be cancelled
pub record HasValue (m : ℕ) (a b : Ratio) : Type 0 where
  pub same : Same m a b
  pub denominator : CanCancel m (pos b.den)
