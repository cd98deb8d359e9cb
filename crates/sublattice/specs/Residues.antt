-- A vector as numbers below the pivots and a sum of rows.
use Rattle.std.specs.Prelude.{◌≡◌, ℕ, ◌<◌, ℤ, pos, ◌+ℤ◌, ◌*ℤ◌, unsigned_abs}
use Rattle.integers.specs.Vectors.{Vector}
use Rattle.vecdim.specs.Stairs.{Stairs}

-- w is three numbers below the pivots, and a sum of rows
pub record Residue (S : Stairs) (w : Vector) : Type 0 where
  pub p : ℕ
  pub q : ℕ
  pub s : ℕ
  pub k : ℤ
  pub l : ℤ
  pub n : ℤ
  pub p_below : p < unsigned_abs S.first_x
  pub q_below : q < unsigned_abs S.second_y
  pub s_below : s < unsigned_abs S.third_z
  pub x : w.x ≡ pos p +ℤ S.first_x *ℤ k
  pub y : w.y ≡ pos q +ℤ S.second_y *ℤ l +ℤ S.first_y *ℤ k
  pub z : w.z ≡ pos s +ℤ S.third_z *ℤ n +ℤ S.second_z *ℤ l +ℤ S.first_z *ℤ k
