-- What is printed is read back, and what is read may be covered and printed.
use Rattle.std.specs.Prelude.{◌≡◌, ℕ, List, All, Contains}
use Rattle.periodic_net.specs.Graph.{Graph, IsGraph}
use Rattle.periodic_net.specs.Limits.{IsSmall}
use Rattle.periodic_net.specs.Maps.{Iso}
use Rattle.quotient_graph.specs.Stars.{IsInOrder}
use Rattle.cgd_read.specs.Blocks.{blocks_of}
use Rattle.cgd_read.specs.Graphs.{graph_of}
use Rattle.cgd_read.specs.Views.{RawView, Net, BlockView}
use Rattle.cover_answers.specs.Printed.{NamedGraph, MayBePrinted, named_graph, blocks_text}
use Rattle.cover_answers.specs.ReadBack.{AreReadBack}

-- the blocks of printed graphs, one after another, are nets of the same names, each up to isomorphism its graph
abbrev pub BlocksAreReadBack : Type 0
BlocksAreReadBack = (ps : List NamedGraph) → All MayBePrinted ps → AreReadBack ps (blocks_of (blocks_text ps))

-- G is the net of a block with its edges in order. A graph within the limits that is isomorphic to it, as each of its
-- covers is, may be printed under the name of the block
abbrev pub CoversMayBePrinted : Type 0
CoversMayBePrinted =
    (text : List ℕ) (block : BlockView) (raw : RawView) (G C : Graph) → Contains (blocks_of text) block
    → block.body ≡ Net raw → IsInOrder (graph_of raw) G → IsGraph G → Iso G C → IsGraph C → IsSmall C
    → MayBePrinted (named_graph block.name C)
