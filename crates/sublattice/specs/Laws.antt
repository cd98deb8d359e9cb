-- The theorems on lattices of rows, as statements.
use Rattle.std.specs.Prelude.{◌≡◌, ◌≢◌, ◌⊎◌, ◌↔◌, ℕ, ◌<◌, pos}
use Rattle.integers.specs.Bases.{Base}
use Rattle.integers.specs.Vectors.{Vector, minus, parts, HasDimension, IsBelow}
use Rattle.vecdim.specs.Lattices.{Members}
use Rattle.vecdim.specs.Stairs.{Stairs, HasStairShape, IsRemainder, size_of}
use Rattle.sublattice.specs.Remainders.{IsRemainderOf, number_of, remainder_with}
use Rattle.sublattice.specs.Sublattices.{determinant, index_of, AreFlat, HasMembersOf}

-- the pivots of the lattice that rows generate multiply to the size of their determinant
abbrev pub PivotsMultiply : Type 0
PivotsMultiply =
    (d : ℕ) (S : Stairs) (b : Base) → (d ≡ 2) ⊎ (d ≡ 3) → HasStairShape d S → AreFlat d b
    → determinant d b ≢ pos 0 → HasMembersOf d S b → size_of S ≡ index_of d b

-- the remainders of a staircase and the numbers below its size belong to each other, in rising order
pub record AreNumbered (d : ℕ) (S : Stairs) : Type 0 where
  pub below : (r : Vector) → IsRemainder d S r → number_of S r < size_of S
  pub remainder : (n : ℕ) → n < size_of S → IsRemainder d S (remainder_with S n)
  pub there : (r : Vector) → IsRemainder d S r → remainder_with S (number_of S r) ≡ r
  pub back : (n : ℕ) → n < size_of S → number_of S (remainder_with S n) ≡ n
  pub rising : (m n : ℕ) → m < n → IsBelow (parts 3 (remainder_with S m)) (parts 3 (remainder_with S n))

-- it is so of each staircase
abbrev pub RemaindersAreNumbered : Type 0
RemaindersAreNumbered = (d : ℕ) (S : Stairs) → HasStairShape d S → AreNumbered d S

-- each vector has a remainder, and vectors have the same one if and only if they differ by a member
pub record RemaindersTellClasses : Type 0 where
  pub some : (d : ℕ) (S : Stairs) (v : Vector) → HasStairShape d S → HasDimension d v → (r : Vector) × IsRemainderOf d S v r
  pub same : (d : ℕ) (S : Stairs) (v w r s : Vector) → IsRemainderOf d S v r → IsRemainderOf d S w s
      → (r ≡ s) ↔ Members d S (minus v w)
