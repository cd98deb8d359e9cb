-- The vectors orthogonal to closed walks of a rank below the dimension.
use Rattle.std.specs.Prelude.{◌≡◌, ◌≢◌, ◌⊎◌, ℕ, ℤ, pos, neg_ℤ, ◌<ℤ◌, List, All}
use Rattle.integers.specs.Vectors.{Vector, zero_vector, times, dot, HasDimension, StartsPositive}
use Rattle.periodic_net.specs.Split.{EndsBy}

-- c is a multiple of no vector but itself and its opposite
abbrev pub IsCoprime : Vector → Type 0
IsCoprime c = (e : Vector) (k : ℤ) → c ≡ times k e → (k ≡ pos 1) ⊎ (k ≡ neg_ℤ (pos 1))

-- v is a multiple of c, which is coprime and starts positive
pub record IsReduction (v c : Vector) : Type 0 where
  pub k : ℤ
  pub multiple : v ≡ times k c
  pub positive : StartsPositive c
  pub coprime : IsCoprime c

-- g is the greatest common divisor of the parts of v: v is g times w, and g is s·v
pub record IsDivisor (v : Vector) (g : ℤ) : Type 0 where
  pub positive : pos 0 <ℤ g
  pub w : Vector
  pub multiple : v ≡ times g w
  pub s : Vector
  pub combination : g ≡ dot s v

-- c·v is 0 for each of the vectors
abbrev pub IsOrthogonalTo : List Vector → Vector → Type 0
IsOrthogonalTo vs c = All (λ v. dot c v ≡ pos 0) vs

-- of the vectors other than 0 that are orthogonal to all of these, c is one whose last part other than 0 stands first;
-- it is coprime and starts positive
pub record IsFlatNormal (d : ℕ) (vs : List Vector) (c : Vector) : Type 0 where
  pub dimension : HasDimension d c
  pub orthogonal : IsOrthogonalTo vs c
  pub positive : StartsPositive c
  pub lowest : (e : Vector) (k : ℕ) → HasDimension d e → IsOrthogonalTo vs e → e ≢ zero_vector → EndsBy k e → EndsBy k c
  pub coprime : IsCoprime c
