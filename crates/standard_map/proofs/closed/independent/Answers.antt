use Rattle.standard_map.proofs.EdgeTurns.{not_all_zero}
use Rattle.standard_map.proofs.closed.independent.Goals as goal

pub unreachable-requires : goal.unreachable-requires
unreachable-requires g c = not_all_zero g.row.D c.args.turns.now c.requires.full (c.first_some.ensures.none c.in-None.is)
