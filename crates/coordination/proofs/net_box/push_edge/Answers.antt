use Rattle.std.proofs.Common.{◌≡◌, List, map, OnOk, ◌∙◌, arith, subst, to_z, of_z, w64}
use Rattle.std.proofs.lemmas.Int.{ints}
use Rattle.coordination.{specs.declared.spot.Step.Step, proofs.Boxes.edge_put}
use Rattle.coordination.proofs.net_box.push_edge.Goals as goal

pub returns : goal.returns
returns g c =
    let same : to_z w64 (of_z w64 c.growth-by.result) ≡ c.growth-by.result = omega (arith, ints, c.growth-by.ensures.bound) in
    let put = edge_put c.args.count c.args.extent (map (λ star. star.items) c.args.stars.now)
    (map (λ star. star.items) c.push_step.new.stars) c.args.edge.now c.edge.inside.u c.edge.inside.v _ (to_z w64 (of_z w64 c.growth-by.result)) _
    c.edge.view_is (same ∙ c.growth-by.ensures.value) (omega (arith, ints, c.growth-by.ensures.bound)) c.in_ok-push_step.ensures in
    subst (λ (stars : List (List Step)). OnOk c.push_step-2.result (map (λ star. star.items) c.push_step-2.new.stars ≡ stars)) put c.push_step-2.ensures
