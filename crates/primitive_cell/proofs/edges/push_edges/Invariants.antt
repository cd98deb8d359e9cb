use Rattle.vecdim.specs.Stairs.{rows_of}
use Rattle.primitive_cell.{specs.Given.AreGivenEdges, specs.Places.number_at, proofs.GivenEdges.IsArcUpTo}
use Rattle.primitive_cell.proofs.edges.push_edges.Given as goal

-- the edges of the classes below, and of the first arcs of this class
abbrev pub invariant-loop-arc : goal.invariant-loop-arc
invariant-loop-arc g l =
    AreGivenEdges g.row.D l.net.placement (number_at l.firsts) (rows_of g.row.D l.stairs)
    (IsArcUpTo l.classes.classes l.class l.arc-items l.arc-index) l.edges.items
