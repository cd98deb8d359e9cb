use Rattle.std.proofs.Common.{length, map, subst}
use Rattle.quotient_graph.specs.Building.{back_and_forth, HaveArcs}
use Rattle.quotient_graph.proofs.Stars.{sorted_stars}
use Rattle.quotient_graph.proofs.build.fill_stars.Goals as goal

pub returns : goal.returns
returns g c =
    let put = map (λ s. s.items) c.push_forth.new.stars in
    sorted_stars (length c.args.stars.now) c.args.edges.now put (map (λ s. s.items) c.sort_stars.new.stars)
    (subst (λ n. HaveArcs n put (back_and_forth c.args.edges.now)) c.push_back.auto.stars c.in_ok-push_forth.ensures) c.in_ok-sort_stars.ensures
