-- Graphs with their normal placements.
use Rattle.std.specs.Prelude.{◌≡◌}
use Rattle.periodic_net.specs.Graph.{Graph, IsConnected}
use Rattle.periodic_net.specs.Placement.{HasNoCollision, IsNormalPlacement, IsWithinLimits}
use Rattle.quotient_graph.specs.PlacedNets.{PlacedNet}
use Rattle.barycentre.specs.Reached.{IsReachable}

-- the net of G is connected, and p is G with its normal placement, which is within the limits; fractions or residues reach it
pub record IsPlacedAs (G : Graph) (p : PlacedNet) : Type 0 where
  pub connected : IsConnected G
  pub graph : p.graph ≡ G
  pub normal : IsNormalPlacement G p.placement
  pub limits : IsWithinLimits G p.placement
  pub reached : IsReachable G

-- G is placed so, and no two vertices stand in one place
pub record IsSettledAs (G : Graph) (p : PlacedNet) : Type 0 where
  pub placed : IsPlacedAs G p
  pub no_collision : HasNoCollision G p.placement
