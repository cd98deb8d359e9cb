use Rattle.std.proofs.Common.{arith}
use Rattle.net_archive.proofs.FirstFaults.{next_same, same_lists}
use Rattle.net_archive.proofs.judge.differing_class.Goals as goal

pub loop-before-preserved : goal.loop-before-preserved
loop-before-preserved c =
    next_same c.args.kept.now c.args.computed.now c.loop-before.before c.at.result.now c.at-in-loop-before.result.now c.loop-before.invariant c.at.ensures
    c.at-in-loop-before.ensures
    (c.same_sizes.ensures.0 c.if-not-same_sizes.false)

pub returns : goal.returns
returns c = grind (arith, same_lists)
