use Rattle.std.proofs.Common.{◌≡◌, ◌*◌, take, map}
use Rattle.integers.specs.Vectors.{vector_sum, IsWithin}
use Rattle.periodic_net.specs.{Limits.most_units, Placement.arc_vector}
use Rattle.quotient_graph.specs.PlacedNets.{placement_of}
use Rattle.barycentre.specs.Limits.{AreWithinTo}
use Rattle.barycentre.proofs.short.is_balanced.Given as goal

abbrev pub invariant-loop-arc : goal.invariant-loop-arc
invariant-loop-arc g l = record {
  added : l.sum ≡ vector_sum (map (arc_vector (placement_of l.d0 l.at)) (take l.arc-index l.arc-items));
  near : IsWithin (most_units * l.arc-index) l.sum;
  within : AreWithinTo (placement_of l.d0 l.at) l.arc-items l.arc-index;
}
