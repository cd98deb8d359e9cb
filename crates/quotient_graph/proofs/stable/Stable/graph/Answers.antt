use Rattle.std.proofs.Common.{subst}
use Rattle.periodic_net.specs.{Graph.IsConnected, Placement.IsNormalPlacement}
use Rattle.quotient_graph.specs.PlacedNets.{PlacedNet}
use Rattle.quotient_graph.proofs.stable.Stable.graph.Goals as goal

pub returns-clause-stable : goal.returns-clause-stable
returns-clause-stable g c =
    let e = c.placed.ensures.placed in
    record {
      connected = subst (λ (n : PlacedNet). IsConnected n.graph) e c.graph.ensures.connected;
      placement = subst (λ (n : PlacedNet). IsNormalPlacement n.graph n.placement) e c.graph.ensures.normal;
      no_collision = c.placed.ensures.no_collision;
    }
