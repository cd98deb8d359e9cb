-- Full rank: independent closed walks, and what they span.
use Rattle.std.specs.Prelude.{◌≡◌, ◌≢◌, ℕ, ℤ, pos, ◌^◌, unsigned_abs, ◌<ℤ◌, ◌≤ℤ◌, List, Contains}
use Rattle.integers.specs.Vectors.{Vector, vector, dot}
use Rattle.integers.specs.Vectors.{cross}

-- the vector (0, 0, 1) in dimension 2, and otherwise one of these
abbrev pub IsThird : ℕ → List Vector → Vector → Type 0
IsThird d vs c = (d ≡ 2 → c ≡ vector (pos 0) (pos 0) (pos 1)) × (d ≢ 2 → Contains vs c)

-- m is the volume that three of the vectors span, and in dimension 2 the area that two of them span
pub record IsVolume (d : ℕ) (vs : List Vector) (m : ℤ) : Type 0 where
  pub a : Vector
  pub b : Vector
  pub c : Vector
  pub first : Contains vs a
  pub second : Contains vs b
  pub third : IsThird d vs c
  pub is : m ≡ pos (unsigned_abs (dot (cross a b) c))
  pub from : pos 1 ≤ℤ m
  pub to : m <ℤ pos (2 ^ 60)
