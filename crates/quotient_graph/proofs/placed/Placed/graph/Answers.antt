use Rattle.std.proofs.Common.{subst}
use Rattle.periodic_net.specs.Graph.{IsConnected}
use Rattle.quotient_graph.specs.PlacedNets.{PlacedNet}
use Rattle.quotient_graph.proofs.placed.Placed.graph.Goals as goal

pub returns-clause-connected : goal.returns-clause-connected
returns-clause-connected g c = subst (λ (p : PlacedNet). IsConnected p.graph) c.self.view_is c.self.invariant.connected
