use Rattle.std.proofs.Common.{sym, subst}
use Rattle.integers.specs.Vectors.{IsWithin}
use Rattle.quotient_graph.{specs.PlacedNets.most_position, proofs.Positions.position_bounded}
use Rattle.quotient_graph.proofs.placed.Placed.at.Goals as goal

pub returns-clause-small : goal.returns-clause-small
returns-clause-small g c =
    let net = c.args.self.now in let known = c.recall.ensures in
    subst (IsWithin most_position) (sym c.position.ensures)
    (position_bounded net.graph known.is_graph known.connected known.small net.placement known.normal.normal.origin known.limits c.args.u c.requires)
