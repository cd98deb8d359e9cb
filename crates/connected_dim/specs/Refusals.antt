-- What is answered of a graph whose net is not connected.
use Rattle.std.specs.Prelude.{◌≡◌, ◌⊎◌, ℕ}
use Rattle.periodic_net.specs.Graph.{Graph, IsConnected}
use Rattle.periodic_net.specs.Split.{IsSplit, IsPartSplit, IsFlatSplit, IsSparseSplit}
use Rattle.quotient_graph.specs.declared.split.Split.{Split}
use Rattle.quotient_graph.specs.Splits.{split_view}
use Rattle.connected_dim.specs.declared.connectedness.Unconnected.{Unconnected}
use Rattle.connected_dim.specs.declared.connectedness.Unconnected.TheVariants.{Disconnected, Degenerate, NoMemory}

-- a split of the net, reported if the quotient graph is not connected, or the closed walks have full rank and are not all shifts
abbrev pub IsDisconnectedBy : Graph → Split → Type 0
IsDisconnectedBy G split = (split.dim ≡ G.dimension) × IsSplit G (split_view split)
    × (IsPartSplit G (split_view split) ⊎ ((k : ℕ) × IsSparseSplit G (split_view split) k))

-- a split of the net, reported if the closed walks have a rank below the dimension
abbrev pub IsDegenerateBy : Graph → Split → Type 0
IsDegenerateBy G split = (split.dim ≡ G.dimension) × IsSplit G (split_view split) × IsFlatSplit G (split_view split)

-- the graph comes back, with the colouring of its case
abbrev pub IsRefused : {D : ℕ} → Graph → Unconnected D → Type 0
IsRefused G (Disconnected split graph) = (graph ≡ G) × IsDisconnectedBy G split
IsRefused G (Degenerate split graph) = (graph ≡ G) × IsDegenerateBy G split
IsRefused G (NoMemory graph) = graph ≡ G

-- if a colouring is reported, the net is not connected
abbrev pub IsRefuted : {D : ℕ} → Graph → Unconnected D → Type 0
IsRefuted G (Disconnected split graph) = ¬ IsConnected G
IsRefuted G (Degenerate split graph) = ¬ IsConnected G
IsRefuted G (NoMemory graph) = Unit {0}
