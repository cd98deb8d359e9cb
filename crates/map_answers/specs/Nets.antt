-- The nets of blocks with their keys, and which block each is of.
use Rattle.std.specs.Prelude.{◌≡◌, List, [], ◌∷◌}
use Rattle.periodic_net.specs.Limits.{IsSmall}
use Rattle.cgd_read.specs.Graphs.{graph_of}
use Rattle.cgd_read.specs.Views.{RawView, Net, BlockView}
use Rattle.quotient_graph.specs.Stars.{IsInOrder}
use Rattle.least_key.specs.KeyedNets.{KeyedNet, IsKeyed}

-- the block is a graph, and this is its net with its key; the graph is within the limits, and its edges are in order
pub record IsNetOf (block : BlockView) (net : KeyedNet) : Type 0 where
  pub raw : RawView
  pub graph : block.body ≡ Net raw
  pub read : IsInOrder (graph_of raw) net.placed.graph
  pub small : IsSmall net.placed.graph
  pub keyed : IsKeyed net

-- each block is a graph that has its key, and these are the nets, in the order of the blocks
abbrev pub AreNetsOf : List BlockView → List KeyedNet → Type 0
AreNetsOf [] [] = Unit {0}
AreNetsOf (block ∷ blocks) (net ∷ nets) = IsNetOf block net × AreNetsOf blocks nets
AreNetsOf blocks nets = ⊥
