-- The rank of the closed walks of a component: below the dimension, or full.
use Rattle.std.specs.Prelude.{◌≡◌, ◌≢◌, ◌⊎◌, ℕ, ◌<◌, ℤ, pos, neg_ℤ}
use Rattle.integers.specs.Vectors.{Vector, zero_vector, times, dot, HasDimension, StartsPositive}
use Rattle.vecdim.specs.Lattices.{Members}
use Rattle.vecdim.specs.Stairs.{Stairs, HasStairShape}
use Rattle.periodic_net.specs.Graph.{Graph}
use Rattle.periodic_net.specs.Split.{EndsBy, ClosedShift}
use Rattle.net_components.specs.ComponentSets.{IsLeast}

-- c·v is 0 for the shift v of each closed walk at a
abbrev pub IsOrthogonalAt : Graph → ℕ → Vector → Type 0
IsOrthogonalAt G a c = (v : Vector) → ClosedShift G a v → dot c v ≡ pos 0

-- of the vectors other than 0 that are orthogonal to all closed walks at a, c is the coprime one that starts positive
-- and whose last part other than 0 stands first
pub record IsFlatAt (G : Graph) (a : ℕ) (c : Vector) : Type 0 where
  pub dimension : HasDimension G.dimension c
  pub orthogonal : IsOrthogonalAt G a c
  pub positive : StartsPositive c
  pub lowest : (e : Vector) (k : ℕ) → HasDimension G.dimension e → IsOrthogonalAt G a e → e ≢ zero_vector → EndsBy k e → EndsBy k c
  pub coprime : (e : Vector) (k : ℤ) → c ≡ times k e → (k ≡ pos 1) ⊎ (k ≡ neg_ℤ (pos 1))

-- the closed walks at a have full rank: their shifts are the members of a staircase
pub record IsFullAt (G : Graph) (a : ℕ) (S : Stairs) : Type 0 where
  pub shape : HasStairShape G.dimension S
  pub inside : (v : Vector) → ClosedShift G a v → Members G.dimension S v
  pub all : (v : Vector) → Members G.dimension S v → ClosedShift G a v

-- the first component whose closed walks have a rank below the dimension is that of a, with the normal c
pub record IsLowRank (G : Graph) (a : ℕ) (c : Vector) : Type 0 where
  pub least : IsLeast G a
  pub flat : IsFlatAt G a c
  pub first : (b : ℕ) → IsLeast G b → b < a → (S : Stairs) × IsFullAt G b S
