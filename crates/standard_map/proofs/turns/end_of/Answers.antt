use Rattle.standard_map.proofs.EdgeTurns.{none_left}
use Rattle.standard_map.proofs.turns.end_of.Goals as goal

pub unreachable-requires : goal.unreachable-requires
unreachable-requires g c = none_left c.args.ends.now c.args.u c.loop-end.end-index c.requires c.loop-end.invariant.none c.loop-end-test.false
