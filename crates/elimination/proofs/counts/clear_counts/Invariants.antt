use Rattle.elimination.proofs.ArcSums.{AreCleared}
use Rattle.elimination.proofs.counts.clear_counts.Given as goal

abbrev pub invariant-loop-arc : goal.invariant-loop-arc
invariant-loop-arc g l = AreCleared l.arcs l.counts l.arc-index
