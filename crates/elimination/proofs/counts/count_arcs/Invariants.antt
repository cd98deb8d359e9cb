use Rattle.std.proofs.Common.{take, length}
use Rattle.elimination.specs.Lines.{AreCounts}
use Rattle.elimination.proofs.counts.count_arcs.Given as goal

abbrev pub invariant-loop-arc : goal.invariant-loop-arc
invariant-loop-arc g l = AreCounts (take l.arc-index l.arcs) l.counts (length l.initial.counts)
