use Rattle.std.proofs.Common.{drop, map}
use Rattle.coordination.proofs.Boxes.{AreStepsBut}
use Rattle.coordination.proofs.net_box.push_edges.Given as goal

abbrev pub invariant-loop-edge : goal.invariant-loop-edge
invariant-loop-edge g l = AreStepsBut l.cell.graph l.extent (drop l.edge-index l.cell.graph.edges) (map (λ star. star.items) l.stars)
