-- Of `push_edges`: the loop over `edge`; what it ensures.
use Rattle.std.proofs.Common.{◌≡◌, ◌+◌, ◌<◌, List, drop, get_or, length, map, sym, subst, ap, ◌∙◌}
use Rattle.periodic_net.specs.Graph.{Arc, IsEdge}
use Rattle.primitive_cell.specs.DividedNets.{DividedNet}
use Rattle.coordination.specs.Boxes.{with_edge}
use Rattle.coordination.proofs.Boxes.{AreStepsBut, stars_start, stars_turn, stars_end}
use Rattle.coordination.proofs.net_box.push_edges.Goals as goal

pub loop-edge-init : goal.loop-edge-init
loop-edge-init g c = stars_start c.args.cell.now.graph c.args.extent (map (λ star. star.items) c.args.stars.now) c.requires.empty

pub loop-edge-preserved : goal.loop-edge-preserved
loop-edge-preserved g c =
    let P = c.args.cell.now.graph in let items = c.deref-edge-items.result.now in
    let i = c.loop-edge.edge-index in let e = c.edge-item.result in
    let same = c.deref-edge-items.ensures.value ∙ ap (λ (n : DividedNet). n.graph.edges) c.cell.view_is in
    let here = subst (λ (es : List Arc). e ≡ get_or es i e) same c.edge-item.is in
    let edge = subst (IsEdge P) (sym here) (c.requires.graph.edges i e (subst (λ (es : List Arc). i < length es) same c.loop-edge-test.true)) in
    let turn = stars_turn P c.args.extent items same i (map (λ star. star.items) c.loop-edge.stars) c.loop-edge.invariant e c.loop-edge-test.true
    c.edge-item.is edge in
    let put = subst (λ (n : DividedNet). map (λ star. star.items) c.push_edge.new.stars ≡ with_edge
    (map (λ star. star.items) c.loop-edge.stars) n.graph.vertices c.args.extent e) c.cell.view_is c.in_ok-push_edge.ensures in
    subst (AreStepsBut P c.args.extent (drop (i + 1) P.edges)) (sym put) turn

pub returns : goal.returns
returns g c =
    let same = c.deref-edge-items.ensures.value ∙ ap (λ (n : DividedNet). n.graph.edges) c.cell.view_is in
    stars_end c.args.cell.now.graph c.args.extent c.deref-edge-items.result.now same c.loop-edge.edge-index
    (map (λ star. star.items) c.loop-edge.stars) c.loop-edge.invariant c.loop-edge-test.false
