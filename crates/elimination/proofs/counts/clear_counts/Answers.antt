use Rattle.elimination.proofs.ArcSums.{cleared_none}
use Rattle.elimination.proofs.counts.clear_counts.Goals as goal

pub loop-arc-init : goal.loop-arc-init
loop-arc-init g c = cleared_none c.args.arcs.now c.args.counts.now c.requires.counts
