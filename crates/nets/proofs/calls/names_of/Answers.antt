use Rattle.std.proofs.Common.{sym, subst}
use Rattle.key_theory.specs.Key.{IsKeyOf}
use Rattle.least_key.{specs.AnyNets.net_view, proofs.CallerLemmas.key_of_graph}
use Rattle.nets.proofs.calls.names_of.Goals as goal

pub returns-clause-isomorphic : goal.returns-clause-isomorphic
returns-clause-isomorphic c =
    let net = net_view c.args.net.now in let keyed = c.key.ensures.keyed in
    c.lookup.ensures.isomorphic net.placed.graph keyed.is_graph (subst (IsKeyOf net.placed.graph) (sym c.key.ensures.key) (key_of_graph net keyed))

pub returns-clause-bare : goal.returns-clause-bare
returns-clause-bare c =
    let net = net_view c.args.net.now in let keyed = c.key.ensures.keyed in
    c.lookup.ensures.bare net.placed.graph keyed.is_graph (subst (IsKeyOf net.placed.graph) (sym c.key.ensures.key) (key_of_graph net keyed))
