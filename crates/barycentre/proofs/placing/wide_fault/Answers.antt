use Rattle.std.proofs.Common.{refl}
use Rattle.barycentre.proofs.Existing.{connected_placement}
use Rattle.barycentre.proofs.placing.wide_fault.Goals as goal

pub returns-in-None : goal.returns-in-None
returns-in-None g c =
    let k = c.dimension-dim.ensures in
    let P = connected_placement c.args.g.now k.is_graph c.requires.connected in
    let tried = rw c.in-None.is at c.requires.pivots in
    (k.value, record { wide = c.requires.wide; modulus = tried.0; placement = P.0; normal = P.1; past = tried.1 P.0 P.1; zero = refl })
