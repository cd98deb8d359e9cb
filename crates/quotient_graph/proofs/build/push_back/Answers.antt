use Rattle.std.proofs.Common.{◌≡◌, ◌+◌, ◌∙◌, length, map, take, ap, sym, subst}
use Rattle.periodic_net.specs.Graph.{Arc, reverse_of}
use Rattle.quotient_graph.specs.Building.{with_arc, HaveArcs}
use Rattle.quotient_graph.proofs.Stars.{have_back_at}
use Rattle.quotient_graph.proofs.build.push_back.Goals as goal

pub loop-edge-preserved : goal.loop-edge-preserved
loop-edge-preserved g c =
    let es = c.args.edges.now in let i = c.loop-edge.edge-index in let e = c.edge-item.result in
    let n = length c.args.stars.now in let old = map (λ s. s.items) c.loop-edge.stars in
    let new = map (λ s. s.items) c.push_arc.new.stars in
    let kept = c.loop-edge.auto.stars in
    let before = subst (λ k. HaveArcs k old (map reverse_of (take i es))) kept c.loop-edge.invariant in
    let more = have_back_at n old es i e c.loop-edge-test.true c.edge-item.is c.requires.edges before in
    let pushed : new ≡ with_arc old (reverse_of e) = c.in_ok-push_arc.ensures ∙ ap (λ (a : Arc). with_arc old a) c.reversed.ensures in
    subst (λ k. HaveArcs k new (map reverse_of (take (i + 1) es))) (sym (c.push_arc.auto.stars ∙ kept))
    (subst (λ t. HaveArcs n t (map reverse_of (take (i + 1) es))) (sym pushed) more)
