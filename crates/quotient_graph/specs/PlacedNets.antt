-- A graph with a barycentric placement of its vertices.
use Rattle.std.specs.Prelude.{ℕ, ◌+◌, ◌-◌, ◌*◌, ◌≤ℤ◌, ℤ, pos, List, unsigned_abs}
use Rattle.integers.specs.Vectors.{Vector}
use Rattle.periodic_net.specs.Graph.{Graph, IsConnected}
use Rattle.periodic_net.specs.Limits.{most_vertices, most_shift, most_units}
use Rattle.periodic_net.specs.Placement.{Placement, IsNormalPlacement, IsWithinLimits}

-- a graph, and where its vertices stand
pub record PlacedNet : Type 0 where
  pub graph : Graph
  pub placement : Placement

-- positions in units of 1/d0
abbrev pub placement_of : ℤ → List Vector → Placement
placement_of d0 at = record { denominator = unsigned_abs d0; at = at }

-- the graph with its vertices at these positions
abbrev pub placed_net : Graph → ℤ → List Vector → PlacedNet
placed_net G d0 at = record { graph = G; placement = placement_of d0 at }

-- a part of a position, as an absolute value: most_vertices - 1 arcs at most lead to a vertex, and each adds so much
abbrev pub most_position : ℕ
most_position = (most_vertices - 1) * ((most_shift + 1) * most_units)

-- the net is connected, and the positions are its normal placement, within the limits
pub record IsPlaced (G : Graph) (d0 : ℤ) (at : List Vector) : Type 0 where
  pub positive : pos 1 ≤ℤ d0
  pub connected : IsConnected G
  pub normal : IsNormalPlacement G (placement_of d0 at)
  pub limits : IsWithinLimits G (placement_of d0 at)
