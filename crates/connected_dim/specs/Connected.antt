-- What a graph is whose net was found connected.
use Rattle.periodic_net.specs.Graph.{Graph, IsGraph, IsConnected}
use Rattle.periodic_net.specs.Limits.{IsSmall}

-- a quotient graph within the limits, whose net is connected
pub record IsConnectedGraph (G : Graph) : Type 0 where
  pub connected : IsConnected G
  pub is_graph : IsGraph G
  pub small : IsSmall G
