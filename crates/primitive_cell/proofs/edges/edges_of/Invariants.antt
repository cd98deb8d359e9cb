use Rattle.primitive_cell.specs.PrimitiveCells.{AreEdgesBelow}
use Rattle.primitive_cell.proofs.edges.edges_of.Given as goal

-- the edges of the classes below
abbrev pub invariant-loop-class : goal.invariant-loop-class
invariant-loop-class g l = AreEdgesBelow g.row.D l.net l.classes l.firsts l.stairs l.class l.edges.items
