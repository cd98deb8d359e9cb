-- Unit cells with whole rows: the larger cells that a net is written on.
use Rattle.std.specs.Prelude.{◌≢◌, ℕ, pos}
use Rattle.integers.specs.Bases.{Base}
use Rattle.sublattice.specs.Sublattices.{determinant, AreFlat}

-- the rows of a cell of dimension d are independent, and in dimension 2 the first two are flat
pub record IsCell (d : ℕ) (b : Base) : Type 0 where
  pub flat : AreFlat d b
  pub rank : determinant d b ≢ pos 0
