use Rattle.std.proofs.Common.{take}
use Rattle.primitive_cell.specs.Lattices.{IsInCoordinates}
use Rattle.primitive_cell.proofs.coordinates.arcs_in.Given as goal

abbrev pub invariant-loop-arc : goal.invariant-loop-arc
invariant-loop-arc g l = IsInCoordinates g.row.D l.lattice (take l.arc-index l.arcs) l.coordinates.items
