-- Stairs of rows: what a staircase is seen as.
use Rattle.std.specs.Prelude.{unsigned_abs, ◌*◌, List, [], ◌∷◌, cond, ◌==◌, ◌≡◌, ℕ, ℤ, pos, ◌+ℤ◌, ◌*ℤ◌, ◌<ℤ◌, ◌≤ℤ◌}
use Rattle.integers.specs.Vectors.{Vector, vector, HasDimension}

-- the rows (first_x, first_y, first_z), (0, second_y, second_z) and (0, 0, third_z); in dimension 2 the last is (0, 0, 1)
pub record Stairs : Type 0 where
  pub first_x : ℤ
  pub first_y : ℤ
  pub first_z : ℤ
  pub second_y : ℤ
  pub second_z : ℤ
  pub third_z : ℤ

-- the stair of these numbers
abbrev pub stairs : ℤ → ℤ → ℤ → ℤ → ℤ → ℤ → Stairs
stairs a b c e f i = record { first_x = a; first_y = b; first_z = c; second_y = e; second_z = f; third_z = i }

-- w is the sum of k, l and n times the three rows
pub record InStairs (S : Stairs) (w : Vector) : Type 0 where
  pub k : ℤ
  pub l : ℤ
  pub n : ℤ
  pub x : w.x ≡ k *ℤ S.first_x
  pub y : w.y ≡ k *ℤ S.first_y +ℤ l *ℤ S.second_y
  pub z : w.z ≡ k *ℤ S.first_z +ℤ l *ℤ S.second_z +ℤ n *ℤ S.third_z

-- positive pivots, and above each pivot numbers from 0 to below it
pub record IsReducedStair (S : Stairs) : Type 0 where
  pub first_x : pos 0 <ℤ S.first_x
  pub second_y : pos 0 <ℤ S.second_y
  pub third_z : pos 0 <ℤ S.third_z
  pub first_y_from : pos 0 ≤ℤ S.first_y
  pub first_y_to : S.first_y <ℤ S.second_y
  pub first_z_from : pos 0 ≤ℤ S.first_z
  pub first_z_to : S.first_z <ℤ S.third_z
  pub second_z_from : pos 0 ≤ℤ S.second_z
  pub second_z_to : S.second_z <ℤ S.third_z

-- the last row is (0, 0, 1), and the rows before it are flat
pub record HasFlatEnd (S : Stairs) : Type 0 where
  pub first_z : S.first_z ≡ pos 0
  pub second_z : S.second_z ≡ pos 0
  pub third_z : S.third_z ≡ pos 1

-- what holds of each staircase of dimension d
pub record HasStairShape (d : ℕ) (S : Stairs) : Type 0 where
  pub reduced : IsReducedStair S
  pub flat : d ≡ 2 → HasFlatEnd S

-- the rows of dimension d
abbrev pub rows_of : ℕ → Stairs → List Vector
rows_of d S =
    vector S.first_x S.first_y S.first_z ∷ vector (pos 0) S.second_y S.second_z ∷ cond (d == 2) [] (vector (pos 0) (pos 0) S.third_z ∷ [])

-- the first parts of the rows that are not 0
abbrev pub pivots_of : ℕ → Stairs → Vector
pivots_of d S = vector S.first_x S.second_y (cond (d == 2) (pos 0) S.third_z)

-- all pivots are 1
pub record IsWhole (S : Stairs) : Type 0 where
  pub first_x : S.first_x ≡ pos 1
  pub second_y : S.second_y ≡ pos 1
  pub third_z : S.third_z ≡ pos 1

-- the product of the pivots: the number of remainders
abbrev pub size_of : Stairs → ℕ
size_of S = unsigned_abs S.first_x * (unsigned_abs S.second_y * unsigned_abs S.third_z)

-- r is a remainder: it has dimension d, and each part is from 0 to below the pivot
pub record IsRemainder (d : ℕ) (S : Stairs) (r : Vector) : Type 0 where
  pub dimension : HasDimension d r
  pub low : (pos 0 ≤ℤ r.x) × (pos 0 ≤ℤ r.y) × (pos 0 ≤ℤ r.z)
  pub high : (r.x <ℤ S.first_x) × (r.y <ℤ S.second_y) × (r.z <ℤ S.third_z)
