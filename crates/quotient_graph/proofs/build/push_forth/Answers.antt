use Rattle.std.proofs.Common.{◌≡◌, ◌+◌, ◌++◌, ◌∙◌, length, map, take, sym, subst}
use Rattle.periodic_net.specs.Graph.{reverse_of}
use Rattle.quotient_graph.specs.Building.{with_arc, HaveArcs}
use Rattle.quotient_graph.proofs.Stars.{have_edge_at}
use Rattle.quotient_graph.proofs.build.push_forth.Goals as goal

pub loop-edge-preserved : goal.loop-edge-preserved
loop-edge-preserved g c =
    let es = c.args.edges.now in let i = c.loop-edge.edge-index in let e = c.edge-item.result in
    let n = length c.args.stars.now in let old = map (λ s. s.items) c.loop-edge.stars in
    let new = map (λ s. s.items) c.push_arc.new.stars in let back = map reverse_of es in
    let kept = c.loop-edge.auto.stars in
    let before = subst (λ k. HaveArcs k old (back ++ take i es)) kept c.loop-edge.invariant in
    let more = have_edge_at n old back es i e c.loop-edge-test.true c.edge-item.is c.requires.edges before in
    let pushed : new ≡ with_arc old e = c.in_ok-push_arc.ensures in
    subst (λ k. HaveArcs k new (back ++ take (i + 1) es)) (sym (c.push_arc.auto.stars ∙ kept))
    (subst (λ t. HaveArcs n t (back ++ take (i + 1) es)) (sym pushed) more)
