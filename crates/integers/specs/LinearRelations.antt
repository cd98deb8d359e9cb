-- Relations between vectors that are linear and one to one.
use Rattle.std.specs.Prelude.{◌≡◌, ℕ, ℤ}
use Rattle.integers.specs.Vectors.{Vector, zero_vector, plus, times, HasDimension}

-- R relates vectors of dimension d to such vectors: linear, and one to one
pub record IsLinear (d : ℕ) (R : Vector → Vector → Type 0) : Type 0 where
  pub zero : R zero_vector zero_vector
  pub plus_is : (v w y z : Vector) → R v y → R w z → R (plus v w) (plus y z)
  pub times_is : (k : ℤ) (v y : Vector) → R v y → R (times k v) (times k y)
  pub there_once : (v y z : Vector) → HasDimension d y → HasDimension d z → R v y → R v z → y ≡ z
  pub back_once : (v w y : Vector) → HasDimension d v → HasDimension d w → R v y → R w y → v ≡ w
