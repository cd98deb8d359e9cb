-- The lattice that given rows generate, and its determinant.
use Rattle.std.specs.Prelude.{◌≡◌, ◌↔◌, ℕ, ◌==◌, ℤ, pos, cond, List, slice_index_or, unsigned_abs}
use Rattle.integers.specs.Bases.{Base, base_sum}
use Rattle.integers.specs.Staircase.{IsStaircase}
use Rattle.integers.specs.Vectors.{Vector, zero_vector, up_vector, triple_product, HasDimension}
use Rattle.vecdim.specs.Stairs.{Stairs, InStairs, HasStairShape, rows_of, size_of}

-- the rows in a list; in dimension 2 there are two of them
abbrev pub base_of : List Vector → Base
base_of rows = record {
  first = slice_index_or rows 0 zero_vector;
  second = slice_index_or rows 1 zero_vector;
  third = slice_index_or rows 2 zero_vector;
}

-- the determinant of the rows; in dimension 2 the third counts for nothing
abbrev pub determinant : ℕ → Base → ℤ
determinant d b = triple_product b.first b.second (cond (d == 2) up_vector b.third)

-- the index of the lattice that the rows generate among all vectors: the size of the determinant
abbrev pub index_of : ℕ → Base → ℕ
index_of d b = unsigned_abs (determinant d b)

-- in dimension 2 the first two rows are flat
abbrev pub AreFlat : ℕ → Base → Type 0
AreFlat d b = d ≡ 2 → (b.first.z ≡ pos 0) × (b.second.z ≡ pos 0)

-- w is a whole combination of the rows
pub record IsCombination (d : ℕ) (b : Base) (w : Vector) : Type 0 where
  pub k : Vector
  pub dimension : HasDimension d k
  pub sum : w ≡ base_sum b k

-- the members of the stair that have dimension d are the combinations of the rows
abbrev pub HasMembersOf : ℕ → Stairs → Base → Type 0
HasMembersOf d S b = (w : Vector) → HasDimension d w → InStairs S w ↔ IsCombination d b w

-- S is the staircase of the lattice that the rows generate
pub record IsSublattice (d : ℕ) (b : Base) (S : Stairs) : Type 0 where
  pub members : HasMembersOf d S b
  pub stair : HasStairShape d S
  pub basis : IsStaircase (IsCombination d b) d (rows_of d S)
  pub size : size_of S ≡ index_of d b
