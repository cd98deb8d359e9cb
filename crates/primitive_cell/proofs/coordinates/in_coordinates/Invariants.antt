use Rattle.std.proofs.Common.{map}
use Rattle.primitive_cell.specs.Lattices.{AreInCoordinates}
use Rattle.primitive_cell.proofs.coordinates.in_coordinates.Given as goal

abbrev pub invariant-loop-c : goal.invariant-loop-c
invariant-loop-c g l = AreInCoordinates g.row.D l.lattice l.net l.c (map (λ s. s.items) l.stars.items)
