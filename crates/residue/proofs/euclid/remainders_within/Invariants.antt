use Rattle.std.proofs.Common.{◌<◌, ◌≤◌}
use Rattle.residue.specs.Remainders.{AreRemainders}
use Rattle.residue.proofs.euclid.remainders_within.Given as goal

abbrev pub invariant-loop-rest : goal.invariant-loop-rest
invariant-loop-rest l = AreRemainders l.x l.m l.above l.rest l.above_factor l.factor l.negative × (l.above_factor ≤ l.m) × (l.bound < l.above)

abbrev pub decreases-loop-rest : goal.decreases-loop-rest
decreases-loop-rest l = l.rest
