use Rattle.std.proofs.Common.{◌≡◌, map, take}
use Rattle.cgd_read.specs.Spelling.{edge_of}
use Rattle.quotient_graph.proofs.any_graph.edges_of.Given as goal

abbrev pub invariant-loop-edge : goal.invariant-loop-edge
invariant-loop-edge g l = l.arcs.items ≡ map edge_of (take l.edge-index l.edges)
