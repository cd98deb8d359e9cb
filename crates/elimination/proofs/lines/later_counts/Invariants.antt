use Rattle.elimination.proofs.ArcSums.{AreSoFar}
use Rattle.elimination.proofs.lines.later_counts.Given as goal

abbrev pub invariant-loop-arc : goal.invariant-loop-arc
invariant-loop-arc g l = AreSoFar g.N.Exact.modulus g.N.Exact.value l.arcs l.counts l.u l.weights.items l.arc-index
