-- Of `answer_to`: what it ensures.
use Rattle.std.proofs.Common.{◌≤◌, subst}
use Rattle.periodic_net.specs.Limits.{most_vertices}
use Rattle.least_key.specs.KeyedNets.{KeyedNet}
use Rattle.net_certificate.{specs.Answers.IsMapAnswer, specs.Answers.PassesIfFound, proofs.FoundMaps.if_ok, proofs.FoundMaps.passes_due}
use Rattle.net_certificate.proofs.maps.answer_to.Goals as goal

pub returns-clause-verified : goal.returns-clause-verified
returns-clause-verified g c =
    let a = c.args.a.now in let b = c.args.b.now in
    let few = subst (λ (n : KeyedNet). n.placed.graph.vertices ≤ most_vertices) c.b.view_is c.graph-2.ensures.small.vertices in
    if_ok (IsMapAnswer a b c.args.room) (PassesIfFound a.placed.graph b.placed.graph)
    (λ x m. passes_due a b c.args.room x m few) c.map_of.result c.map_of.ensures

pub returns-clause-answer : goal.returns-clause-answer
returns-clause-answer g c = c.map_of.ensures
