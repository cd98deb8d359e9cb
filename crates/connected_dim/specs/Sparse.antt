-- What a colouring is made of where the closed walks have full rank and are not all shifts.
use Rattle.std.specs.Prelude.{◌≡◌, ◌≢◌, ◌⊎◌, ℤ, pos, neg_ℤ, ◌-ℤ◌, ◌≤ℤ◌, unsigned_abs, List, Option, map}
use Rattle.std.specs.Int.{int_rem_euclid}
use Rattle.integers.specs.Vectors.{Vector, vector, dot}
use Rattle.periodic_net.specs.Split.{Split}
use Rattle.vecdim.specs.Stairs.{Stairs}
use Rattle.connected_dim.specs.Search.{shift_of}

-- c is -b modulo q, where b is from 0 to below q
abbrev pub IsComplement : ℤ → ℤ → ℤ → Type 0
IsComplement q b c = ((b ≡ pos 0) × (c ≡ pos 0)) ⊎ ((b ≢ pos 0) × (c ≡ q -ℤ b))

-- the first pivot is q, and above 1
pub record IsFirstDual (S : Stairs) (q : ℤ) (c : Vector) : Type 0 where
  pub pivot : q ≡ S.first_x
  pub above : pos 2 ≤ℤ q
  pub is : c ≡ vector (pos 1) (pos 0) (pos 0)

-- the second is, and the first is 1
pub record IsSecondDual (S : Stairs) (q : ℤ) (c : Vector) : Type 0 where
  pub first_x : S.first_x ≡ pos 1
  pub pivot : q ≡ S.second_y
  pub above : pos 2 ≤ℤ q
  pub x : IsComplement q S.first_y c.x
  pub y : c.y ≡ pos 1
  pub z : c.z ≡ pos 0

-- the third is, and the others are 1
pub record IsThirdDual (S : Stairs) (q : ℤ) (c : Vector) : Type 0 where
  pub first_x : S.first_x ≡ pos 1
  pub second_y : S.second_y ≡ pos 1
  pub pivot : q ≡ S.third_z
  pub above : pos 2 ≤ℤ q
  pub x : IsComplement q S.first_z c.x
  pub y : IsComplement q S.second_z c.y
  pub z : c.z ≡ pos 1

-- q is the first pivot above 1, and c takes the members to multiples of it
abbrev pub IsDual : Stairs → ℤ → Vector → Type 0
IsDual S q c = IsFirstDual S q c ⊎ IsSecondDual S q c ⊎ IsThirdDual S q c

-- the entry of a vertex with this walk
abbrev pub sparse_colour : ℤ → Vector → Option Vector → ℤ
sparse_colour q c walk = int_rem_euclid (neg_ℤ (dot c (shift_of walk))) q

-- the colouring by c modulo q, from a walk to each vertex
abbrev pub sparse_colouring : ℤ → Vector → List (Option Vector) → Split
sparse_colouring q c found = record { q = unsigned_abs q; c = c; h = map (sparse_colour q c) found }
