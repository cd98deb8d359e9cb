use Rattle.std.proofs.{Common.◌∙◌, Common.◌^◌, Common.arith, lemmas.Int.to_z-of_z}
use Rattle.integers.proofs.vectors.Bounds.{wider}
use Rattle.standard_map.specs.CellBounds.{most_cell}
use Rattle.standard_map.proofs.cells.column.Goals as goal

pub divided_by-requires-clause-vector : goal.divided_by-requires-clause-vector
divided_by-requires-clause-vector c = wider most_cell (2 ^ 126) (omega arith) c.along.result c.along.ensures.within

pub divided_by-requires-clause-divides : goal.divided_by-requires-clause-divides
divided_by-requires-clause-divides c =
    let w = c.requires.divides in let e = c.along.ensures.value in
    let e' = simp (to_z-of_z, c.ranges.x, c.ranges.y, c.ranges.z) at e in
    (w.0, simp (to_z-of_z, c.ranges.product) (e' ∙ w.1))

pub returns-clause-within : goal.returns-clause-within
returns-clause-within c = c.divided_by.ensures.within most_cell c.along.ensures.within
