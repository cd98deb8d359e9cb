-- The primitive graph of a net as a graph within the limits, with its placement and its classes.
use Rattle.std.specs.Prelude.{◌≡◌}
use Rattle.periodic_net.specs.{Limits.IsSmall, Maps.BareIso}
use Rattle.key_theory.specs.{Key.IsLeastList, PrimitiveLaws.HasOnlyShifts}
use Rattle.quotient_graph.specs.NetClasses.{AreClassesBy, NetClasses}
use Rattle.quotient_graph.specs.PlacedNets.{PlacedNet}
use Rattle.least_key.specs.{KeyedNets.KeyedNet, Placings.IsSettledAs}

-- p is the primitive graph of the net with its normal placement, within the limits, and c has its classes. It has no translation but its
-- own whole shifts, its key is that of the net, and some bijection from the vertices of the net to its own joins images if and only if
-- the vertices are joined
pub record IsPrimitiveNet (n : KeyedNet) (p : PlacedNet) (c : NetClasses) : Type 0 where
  pub graph : p.graph ≡ n.cell.graph
  pub small : IsSmall p.graph
  pub settled : IsSettledAs n.cell.graph p
  pub same_graph : c.graph ≡ p.graph
  pub classes : AreClassesBy p.placement c
  pub only_shifts : HasOnlyShifts p.graph
  pub key : IsLeastList c.classes n.key
  pub net : BareIso n.placed.graph p.graph
