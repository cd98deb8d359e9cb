-- A placed net of either dimension.
use Rattle.quotient_graph.specs.PlacedNets.{PlacedNet}
use Rattle.least_key.specs.declared.path.AnyPlaced.{AnyPlaced}
use Rattle.least_key.specs.declared.path.AnyPlaced.TheVariants.{Flat, Space}

-- the graph and the placement
abbrev pub placed_view : AnyPlaced → PlacedNet
placed_view (Flat p) = p
placed_view (Space p) = p
