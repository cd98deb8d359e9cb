-- Readings of vectors that are linear, among them the three coordinates.
use Rattle.std.specs.Prelude.{◌≡◌, ℤ, pos, ◌+ℤ◌, ◌-ℤ◌, ◌*ℤ◌}
use Rattle.integers.specs.Vectors.{Vector, zero_vector, plus, minus, times}

-- c reads one coordinate
pub record IsCoordinate (c : Vector → ℤ) : Type 0 where
  pub zero : c zero_vector ≡ pos 0
  pub plus_is : (v w : Vector) → c (plus v w) ≡ c v +ℤ c w
  pub minus_is : (v w : Vector) → c (minus v w) ≡ c v -ℤ c w
  pub times_is : (k : ℤ) (v : Vector) → c (times k v) ≡ k *ℤ c v
