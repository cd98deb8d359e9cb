-- The sum along three vectors.
use Rattle.integers.specs.Vectors.{Vector, plus, times}

-- the d vectors of a basis, or shifts of a periodic map; in dimension 2 the third counts for nothing
pub record Base : Type 0 where
  pub first : Vector
  pub second : Vector
  pub third : Vector

-- the sum of k_i times the i-th vector
abbrev pub base_sum : Base → Vector → Vector
base_sum b k = plus (times k.x b.first) (plus (times k.y b.second) (times k.z b.third))
