-- Vectors whose products take 64 bits.
use Rattle.std.specs.Prelude.{◌≤◌, ◌^◌, ◌*ℤ◌, unsigned_abs}
use Rattle.integers.specs.Vectors.{Vector}

-- the products of the parts of v with those of w are so small that they and their sum take 64 bits
pub record HaveSmallProducts (v w : Vector) : Type 0 where
  pub x : unsigned_abs (v.x *ℤ w.x) ≤ 2 ^ 61
  pub y : unsigned_abs (v.y *ℤ w.y) ≤ 2 ^ 61
  pub z : unsigned_abs (v.z *ℤ w.z) ≤ 2 ^ 61
