-- Cells as they are given, and their lattices.
use Rattle.std.specs.Prelude.{◌≡◌, ◌⊎◌, ℕ, ◌≤◌, ℤ, cond, ◌==◌}
use Rattle.integers.specs.Bases.{Base}
use Rattle.integers.specs.Vectors.{Vector, vector, zero_vector, up_vector, triple_product, HasDimension, IsWithin}
use Rattle.periodic_net.specs.Limits.{most_vertices, most_shift}
use Rattle.vecdim.specs.Stairs.{Stairs}
use Rattle.sublattice.specs.Sublattices.{determinant, index_of, IsSublattice}
use Rattle.net_cover.specs.UnitCells.{IsCell}

-- a cell as contracts see it: its dimension, and its rows, of which the third counts for nothing in dimension 2
pub record CellView : Type 0 where
  pub dimension : ℕ
  pub rows : Base

-- the cell of dimension d with these rows
abbrev pub cell_view : ℕ → Vector → Vector → Vector → CellView
cell_view d a b c = record { dimension = d; rows = record { first = a; second = b; third = c } }

-- the determinant of the rows
abbrev pub determinant_in : CellView → ℤ
determinant_in R = determinant R.dimension R.rows

-- the index of the cell
abbrev pub index_in : CellView → ℕ
index_in R = index_of R.dimension R.rows

-- no part of a row is past the limit of a shift
pub record HasSmallRows (b : Base) : Type 0 where
  pub first : IsWithin most_shift b.first
  pub second : IsWithin most_shift b.second
  pub third : IsWithin most_shift b.third

-- rows of dimension 2 or 3 with small parts; in dimension 2 the third is 0
pub record IsWritten (R : CellView) : Type 0 where
  pub dimension : (R.dimension ≡ 2) ⊎ (R.dimension ≡ 3)
  pub first : HasDimension R.dimension R.rows.first
  pub second : HasDimension R.dimension R.rows.second
  pub third : R.dimension ≡ 2 → R.rows.third ≡ zero_vector
  pub small : HasSmallRows R.rows

-- the third row; in dimension 2 the unit vector there
abbrev pub last_row : CellView → Vector
last_row R = cond (R.dimension == 2) up_vector R.rows.third

-- the products in which v stands in place of a row
abbrev pub products_with : CellView → Vector → Vector
products_with R v =
    vector (triple_product v R.rows.second (last_row R))
    (triple_product R.rows.first v (last_row R))
    (triple_product R.rows.first R.rows.second v)

-- S is the lattice of a cell with the rows b and no more remainders than a graph has vertices
pub record IsLatticeOfCell (d : ℕ) (b : Base) (S : Stairs) : Type 0 where
  pub dimension : (d ≡ 2) ⊎ (d ≡ 3)
  pub cell : IsCell d b
  pub lattice : IsSublattice d b S
  pub few : index_of d b ≤ most_vertices
