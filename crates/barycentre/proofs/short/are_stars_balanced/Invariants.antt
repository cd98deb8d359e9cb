use Rattle.std.proofs.Common.{◌≡◌, ℕ, ◌+◌, ◌<◌, map}
use Rattle.integers.specs.Vectors.{zero_vector, vector_sum}
use Rattle.periodic_net.specs.{Graph.arcs_from, Placement.arc_vector}
use Rattle.quotient_graph.specs.PlacedNets.{placement_of}
use Rattle.barycentre.specs.Limits.{AreWithinUpTo}
use Rattle.barycentre.proofs.short.are_stars_balanced.Given as goal

abbrev pub invariant-loop-u : goal.invariant-loop-u
invariant-loop-u g l = record {
  within : AreWithinUpTo l.g (placement_of l.d0 l.at) l.u;
  balanced : (j : ℕ) → j < l.u → vector_sum (map (arc_vector (placement_of l.d0 l.at)) (arcs_from l.g (j + 1))) ≡ zero_vector;
}
