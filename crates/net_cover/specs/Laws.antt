-- The answer of a cover is one.
use Rattle.std.specs.Prelude.{◌≡◌, ◌≢◌}
use Rattle.integers.specs.Bases.{Base}
use Rattle.periodic_net.specs.Graph.{Graph, IsGraph}
use Rattle.quotient_graph.specs.Order.{AreRising}
use Rattle.net_cover.specs.Covers.{IsCover}
use Rattle.net_cover.specs.Cells.{CellView, IsWritten}
use Rattle.net_cover.specs.Faults.{IsCoverFault, IsCoverable}
use Rattle.net_cover.specs.declared.faults.CoverFault.{CoverFault}
use Rattle.net_cover.specs.declared.faults.CoverFault.TheVariants.{NoMemory}

-- two covers of a graph on a cell whose edges rise are one graph
abbrev pub OneCover : Type 0
OneCover =
    (G H K : Graph) (b : Base) → IsCover G b H → AreRising H.edges → IsCover G b K → AreRising K.edges
    → H ≡ K

-- two faults that apply to a graph and a cell, and are not running out of memory, are one
abbrev pub OneCoverFault : Type 0
OneCoverFault =
    (G : Graph) (R : CellView) (f h : CoverFault) → IsGraph G → IsWritten R → IsCoverFault G R f
    → IsCoverFault G R h → f ≢ NoMemory → h ≢ NoMemory → f ≡ h

-- if a graph has a cover within the limits, no fault applies but running out of memory
abbrev pub CoverIsNotRefused : Type 0
CoverIsNotRefused =
    (G : Graph) (R : CellView) (f : CoverFault) → IsGraph G → IsCoverable G R → IsCoverFault G R f
    → f ≡ NoMemory
