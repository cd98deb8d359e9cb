-- Groups of vectors: lattices, whatever their rank.
use Rattle.integers.specs.Vectors.{Vector, zero_vector, plus, opposite}

-- a set of vectors with 0 that is closed under sums and opposites
pub record IsVectorGroup (L : Vector → Type 0) : Type 0 where
  pub zero : L zero_vector
  pub sums : (v w : Vector) → L v → L w → L (plus v w)
  pub opposites : (v : Vector) → L v → L (opposite v)
