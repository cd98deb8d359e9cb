-- The parts of a remainder as natural numbers.
use Rattle.std.specs.Prelude.{◌≡◌, ℕ, pos}
use Rattle.integers.specs.Vectors.{Vector}
use Rattle.vecdim.specs.Stairs.{Stairs, HasStairShape}
use Rattle.sublattice.specs.Remainders.{IsRemainderOf}

-- p, q and s are the parts of the remainder of v
pub record HasDigits (d : ℕ) (S : Stairs) (v : Vector) (p q s : ℕ) : Type 0 where
  pub r : Vector
  pub remainder : IsRemainderOf d S v r
  pub stair : HasStairShape d S
  pub first : pos p ≡ r.x
  pub second : pos q ≡ r.y
  pub third : pos s ≡ r.z
