-- The remainders modulo the lattice of a staircase, and their numbers.
use Rattle.std.specs.Prelude.{◌≡◌, ℕ, ◌+◌, ◌*◌, ◌/◌, ◌%◌, pos, unsigned_abs}
use Rattle.integers.specs.Vectors.{Vector, vector, minus}
use Rattle.vecdim.specs.Lattices.{Members}
use Rattle.vecdim.specs.Stairs.{Stairs, IsRemainder}

-- r is the remainder of v
pub record IsRemainderOf (d : ℕ) (S : Stairs) (v r : Vector) : Type 0 where
  pub remainder : IsRemainder d S r
  pub difference : Members d S (minus v r)

-- the number of a remainder: its place among all remainders in rising order, counted from 0
abbrev pub number_of : Stairs → Vector → ℕ
number_of S r =
    unsigned_abs r.x * (unsigned_abs S.second_y * unsigned_abs S.third_z)
    + (unsigned_abs r.y * unsigned_abs S.third_z + unsigned_abs r.z)

-- the remainder with a number
abbrev pub remainder_with : Stairs → ℕ → Vector
remainder_with S n =
    vector (pos (n / (unsigned_abs S.second_y * unsigned_abs S.third_z)))
    (pos (n % (unsigned_abs S.second_y * unsigned_abs S.third_z) / unsigned_abs S.third_z))
    (pos (n % (unsigned_abs S.second_y * unsigned_abs S.third_z) % unsigned_abs S.third_z))

-- n is the number of the remainder of v
pub record HasNumber (d : ℕ) (S : Stairs) (v : Vector) (n : ℕ) : Type 0 where
  pub r : Vector
  pub remainder : IsRemainderOf d S v r
  pub is : n ≡ number_of S r
