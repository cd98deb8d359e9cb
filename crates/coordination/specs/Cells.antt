-- The primitive graph of a net with its classes.
use Rattle.periodic_net.specs.Classes.{IsClassNumbering}
use Rattle.periodic_net.specs.Placement.{Placement, IsStablePlacement}
use Rattle.key_theory.specs.Primitive.{IsPrimitive}
use Rattle.primitive_cell.specs.DividedNets.{DividedNet}
use Rattle.quotient_graph.specs.NetClasses.{NetClasses, class_at}

-- this is the primitive graph of the net, over its classes
pub record HasCell (c : NetClasses) (cell : DividedNet) : Type 0 where
  pub placement : Placement
  pub stable : IsStablePlacement c.graph placement
  pub numbering : IsClassNumbering c.graph placement (class_at cell.class_of)
  pub primitive : IsPrimitive c.graph placement (class_at cell.class_of) cell.basis cell.graph
