use Rattle.std.proofs.Common.{ℕ, ◌<◌, get_or}
use Rattle.periodic_net.specs.{Graph.Arc, Placement.arc_vector}
use Rattle.standard_map.specs.Sides.{IsPart}
use Rattle.standard_map.proofs.step.step.Given as goal

abbrev pub invariant-loop-arc : goal.invariant-loop-arc
invariant-loop-arc g l = record {
  none : (k : ℕ) (d : Arc) → k < l.arc-index → ¬ IsPart l.side (arc_vector l.side.net.placement (get_or l.arc-items k d)) l.part;
}
