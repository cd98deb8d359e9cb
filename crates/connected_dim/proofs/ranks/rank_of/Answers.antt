use Rattle.std.proofs.Common.{refl}
use Rattle.connected_dim.proofs.Normals.{all_none}
use Rattle.connected_dim.proofs.ranks.rank_of.Goals as goal

pub returns-in-None : goal.returns-in-None
returns-in-None g c = (all_none g.row.D c.args.gs.now c.axis.result c.axis.ensures.value (c.in-None.ensures.none refl), c.axis.ensures.within)
