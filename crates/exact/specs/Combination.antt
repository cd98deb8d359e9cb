-- Whole combinations of two numbers.
use Rattle.std.specs.Prelude.{◌≡◌, ℕ, ℤ, pos, ◌+ℤ◌, ◌*ℤ◌}

-- g is s·a + t·b for whole numbers s and t
pub record IsCombination (a b g : ℕ) : Type 0 where
  pub s : ℤ
  pub t : ℤ
  pub is : pos g ≡ s *ℤ pos a +ℤ t *ℤ pos b
