-- Of `turns`: the loop over `edge`; what it ensures; what `turn_of` requires.
use Rattle.std.proofs.Common.{◌+◌, ◌∷◌, [], lit<, length, sym, subst, ap, ◌∙◌, arith, length-append}
use Rattle.std.specs.List.{All, Contains}
use Rattle.periodic_net.specs.{Graph.Graph, Limits.IsSmall}
use Rattle.standard_map.specs.Turns.{AreFull, IsTurn}
use Rattle.standard_map.proofs.EdgeTurns.{AreOfEdges, AreOfFirst, all_more, edge_from, edges_full, first_more}
use Rattle.standard_map.proofs.turns.turns.Goals as goal

pub loop-edge-init : goal.loop-edge-init
loop-edge-init g c =
    let e = ap length c.in_ok-found.ensures.items in
    record { count = e; each = λ k d l. absurd (omega (arith, l, e)); of_edges = λ k a t l. absurd (omega (arith, l)) }

pub turn_of-requires : goal.turn_of-requires
turn_of-requires g c =
    let G = c.args.here.now.net.graph in let item = c.edge-item.result in
    let same = c.edges-edges.ensures.edges ∙ ap (λ (H : Graph). H.edges) c.graph-graph.ensures in
    let small = subst IsSmall c.graph-graph.ensures c.recall.ensures.small in
    let in_row : Contains c.edges-edges.result.now item = (c.loop-edge.edge-index, c.loop-edge-test.true, sym c.edge-item.is) in
    let from = edge_from G c.requires.one_key.one_list.here small item (subst (λ row. Contains row item) same in_row) in
    (lit< tt, (lit< tt, (lit< tt, (lit< tt, (lit< tt, (c.requires.one_key, (c.requires.ends, from)))))))

pub loop-edge-preserved : goal.loop-edge-preserved
loop-edge-preserved g c =
    let ts = c.loop-edge.found.items in let t = c.turn_of.result in let i = c.loop-edge.invariant in
    let row = c.edges-edges.result.now in let es = c.args.ends.now in
    let items = c.in_ok-push.ensures.items in let long = ap length items in let count = i.count in
    record {
      count = omega (arith, long, count, length-append ts (t ∷ []));
      each = subst (All (IsTurn c.args.here.now c.args.there.now)) (sym items)
          (all_more (IsTurn c.args.here.now c.args.there.now) ts t i.each c.turn_of.ensures.turn);
      of_edges = subst (λ xs. AreOfFirst row es xs (c.loop-edge.edge-index + 1)) (sym items)
          (first_more row es ts c.loop-edge.edge-index c.edge-item.result t count c.loop-edge-test.true c.edge-item.is c.turn_of.ensures.shift i.of_edges);
    }

pub returns : goal.returns
returns g c =
    let k = c.requires.one_key in let G = c.args.here.now.net.graph in let ts = c.loop-edge.found.items in
    let es = c.args.ends.now in let i = c.loop-edge.invariant in let count = i.count in
    let end = c.loop-edge-test.false in
    let same = c.edges-edges.ensures.edges ∙ ap (λ (H : Graph). H.edges) c.graph-graph.ensures in
    let all : AreOfEdges c.edges-edges.result.now es ts = λ j a t l. (omega (arith, l, end, count), i.of_edges j a t (omega (arith, l, end))) in
    let full = edges_full G k.here.shape.stable.connected c.args.here.now.origin k.same_here.origin.is_vertex es ts
    (subst (λ row. AreOfEdges row es ts) same all) in
    let dimension = ap (λ (H : Graph). H.dimension) (sym c.graph-graph.ensures) ∙ c.recall.ensures.parameter in
    record { each = i.each; full = subst (λ d. AreFull d ts) dimension full }
