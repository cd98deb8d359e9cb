use Rattle.std.proofs.Common.{length, map, take}
use Rattle.periodic_net.specs.Graph.{reverse_of}
use Rattle.quotient_graph.specs.Building.{HaveArcs}
use Rattle.quotient_graph.proofs.build.push_back.Given as goal

abbrev pub invariant-loop-edge : goal.invariant-loop-edge
invariant-loop-edge g l = HaveArcs (length l.stars) (map (λ s. s.items) l.stars) (map reverse_of (take l.edge-index l.edges))
