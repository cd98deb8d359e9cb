-- What the steps of an insertion keep, over plain numbers.
use Rattle.std.specs.Prelude.{◌≡◌, ℤ, pos, ◌+ℤ◌, ◌-ℤ◌, ◌*ℤ◌, ◌<ℤ◌, ◌≤ℤ◌, ◌^◌}
use Rattle.integers.specs.Vectors.{Vector, vector}
use Rattle.vecdim.specs.Stairs.{Stairs, InStairs, IsReducedStair}

-- w is a whole combination of r and v, up to multiples of m in the two later parts
pub record Combo (m : ℤ) (r v w : Vector) : Type 0 where
  pub p : ℤ
  pub q : ℤ
  pub s : ℤ
  pub t : ℤ
  pub x : w.x ≡ p *ℤ r.x +ℤ q *ℤ v.x
  pub y : w.y ≡ p *ℤ r.y +ℤ q *ℤ v.y +ℤ m *ℤ s
  pub z : w.z ≡ p *ℤ r.z +ℤ q *ℤ v.z +ℤ m *ℤ t

-- two pairs that generate the same, up to multiples of m in the two later parts
pub record Exchange (m : ℤ) (r v r' v' : Vector) : Type 0 where
  pub upper : Combo m r v r'
  pub lower : Combo m r v v'
  pub old_upper : Combo m r' v' r
  pub old_lower : Combo m r' v' v

-- parts from 0 to below m; the first may be m
pub record IsBoxed (m : ℤ) (v : Vector) : Type 0 where
  pub x_from : pos 0 ≤ℤ v.x
  pub x_to : v.x ≤ℤ m
  pub y_from : pos 0 ≤ℤ v.y
  pub y_to : v.y <ℤ m
  pub z_from : pos 0 ≤ℤ v.z
  pub z_to : v.z <ℤ m

-- the multiples of m belong to the stair's lattice, each as a combination of rows from its own on
pub record HasBound (S : Stairs) (m : ℤ) : Type 0 where
  pub first : InStairs S (vector m (pos 0) (pos 0))
  pub second_k : ℤ
  pub second_l : ℤ
  pub second_y : m ≡ second_k *ℤ S.second_y
  pub second_z : pos 0 ≡ second_k *ℤ S.second_z +ℤ second_l *ℤ S.third_z
  pub third_k : ℤ
  pub third_z : m ≡ third_k *ℤ S.third_z

-- what holds between two insertions
pub record IsBoundedStair (m : ℤ) (S : Stairs) : Type 0 where
  pub m_from : pos 0 <ℤ m
  pub m_to : m ≤ℤ pos (2 ^ 60)
  pub reduced : IsReducedStair S
  pub bound : HasBound S m
  pub first_x_to : S.first_x ≤ℤ m
  pub second_y_to : S.second_y ≤ℤ m
  pub third_z_to : S.third_z ≤ℤ m

-- no pivot is past 2^60
pub record HasSmallPivots (S : Stairs) : Type 0 where
  pub first_x : S.first_x ≤ℤ pos (2 ^ 60)
  pub second_y : S.second_y ≤ℤ pos (2 ^ 60)
  pub third_z : S.third_z ≤ℤ pos (2 ^ 60)

-- w is a member of the lattice plus a multiple of v
pub record InSum (S : Stairs) (v w : Vector) : Type 0 where
  pub k : ℤ
  pub u : Vector
  pub member : InStairs S u
  pub x : w.x ≡ u.x +ℤ k *ℤ v.x
  pub y : w.y ≡ u.y +ℤ k *ℤ v.y
  pub z : w.z ≡ u.z +ℤ k *ℤ v.z

-- the members of T are those of S, with the multiples of v added
pub record HasAdded (S T : Stairs) (v : Vector) : Type 0 where
  pub out : (w : Vector) → InStairs T w → InSum S v w
  pub into : (w : Vector) → InSum S v w → InStairs T w

-- what an insertion makes
pub record IsInserted (m : ℤ) (S T : Stairs) (v : Vector) : Type 0 where
  pub kept : IsBoundedStair m T
  pub added : HasAdded S T v

-- v is the rests r, and q.x, q.y and q.z times the rows; each rest is from 0 to below the pivot
pub record HasRemainder (S : Stairs) (v q r : Vector) : Type 0 where
  pub low : (pos 0 ≤ℤ r.x) × (pos 0 ≤ℤ r.y) × (pos 0 ≤ℤ r.z)
  pub high : (r.x <ℤ S.first_x) × (r.y <ℤ S.second_y) × (r.z <ℤ S.third_z)
  pub x : v.x ≡ r.x +ℤ S.first_x *ℤ q.x
  pub y : v.y -ℤ S.first_y *ℤ q.x ≡ r.y +ℤ S.second_y *ℤ q.y
  pub z : (v.z -ℤ S.first_z *ℤ q.x) -ℤ S.second_z *ℤ q.y ≡ r.z +ℤ S.third_z *ℤ q.z
