use Rattle.std.proofs.Common.{arith}
use Rattle.residue.proofs.Remainders.{start, next, factor_small}
use Rattle.residue.proofs.euclid.remainders_within.Goals as goal

pub loop-rest-init : goal.loop-rest-init
loop-rest-init c = (start c.args.x c.args.m c.requires.below, omega arith, c.requires.bound)

pub loop-rest-preserved : goal.loop-rest-preserved
loop-rest-preserved c =
    let l = c.loop-rest in (
      next c.args.x c.args.m l.above l.rest l.above_factor l.factor l.negative l.invariant.0 (omega (arith, c.loop-rest-test.true)),
      factor_small c.args.x c.args.m l.above l.rest l.above_factor l.factor l.negative l.invariant.0,
      c.loop-rest-test.true,
    )
