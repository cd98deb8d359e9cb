use Rattle.std.proofs.Common.{arith}
use Rattle.outside.proofs.Written.{appends_two, take_and_slice}
use Rattle.outside.proofs.sink.write_all.Goals as goal

pub loop-taken-preserved : goal.loop-taken-preserved
loop-taken-preserved g c = record {
  bytes = rw (take_and_slice c.loop-taken.taken c.in-Ok.count c.args.bytes.now) (appends_two _ _ _ _ _ c.loop-taken.invariant.bytes c.in-Ok.ensures.bytes);
  in_range = omega (arith, c.in-Ok.ensures.bound);
  sure = omega (arith, c.in-Ok.ensures.lowered, c.loop-taken.invariant.sure);
  later = omega (arith, c.in-Ok.ensures.later, c.loop-taken.invariant.later);
}
