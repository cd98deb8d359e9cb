-- Of `generators`: what `edge_walk` requires; the loop over `e`; the clause `generators`.
use Rattle.std.proofs.Common.{All, sym, ap, subst, ◌∙◌, lit<}
use Rattle.integers.specs.Vectors.{IsWithin}
use Rattle.periodic_net.specs.{Graph.Arc, Limits.most_closed}
use Rattle.connected_dim.proofs.Generated.{edge_ready, tail_is, walks_more, walks_same, walks_all, all_more}
use Rattle.connected_dim.proofs.closed_walks.generators.Goals.{then-is_some+in_ok-push, else-is_some}
use Rattle.connected_dim.proofs.closed_walks.generators.Goals as goal

pub edge_walk-requires : goal.edge_walk-requires
edge_walk-requires g c =
    let r = edge_ready c.args.g.now c.args.found.now c.edges-edges.result.now c.loop-e.e-index c.e-item.result c.requires.is_graph c.requires.small
    c.requires.walks.1.count c.edges-edges.ensures.edges c.loop-e-test.true c.e-item.is in
    (lit< tt, (lit< tt, (lit< tt, (c.requires.walks.1.within, (r.from, (r.to, r.shift))))))

pub loop-e-preserved : goal.loop-e-preserved
loop-e-preserved g c =
    let found = c.args.found.now in let row = c.edges-edges.result.now in let e = c.e-item.result in
    let r = edge_ready c.args.g.now found row c.loop-e.e-index e c.requires.is_graph c.requires.small c.requires.walks.1.count c.edges-edges.ensures.edges
    c.loop-e-test.true c.e-item.is in
    let from = ap (λ (a : Arc). a.from) c.e.view_is in
    elim c.if-is_some.branch [
      | then-is_some+in_ok-push w ↦
          let t = tail_is found e c.e.inside.from c.index-found-e.result _ r from c.index-found-e.is (sym c.is_some.ensures ∙ w.if-is_some.true) in
          let items = ap (λ ws. ws.items) w.walks-is ∙ w.in_ok-push.ensures.items in
          record {
            made = walks_more found row c.loop-e.e-index e c.loop-e.walks.items c.if-is_some.walks.items w.edge_walk.result c.loop-e-test.true c.e-item.is t
                w.edge_walk.ensures.value items c.loop-e.invariant.made;
            within = rw items (all_more (IsWithin most_closed) c.loop-e.walks.items w.edge_walk.result c.loop-e.invariant.within w.edge_walk.ensures.within);
          }
      | else-is_some w ↦
          let t = tail_is found e c.e.inside.from c.index-found-e.result _ r from c.index-found-e.is (sym c.is_some.ensures ∙ w.if-is_some.false) in
          let items = ap (λ ws. ws.items) w.walks-is in
          record {
            made = walks_same found row c.loop-e.e-index e c.loop-e.walks.items c.if-is_some.walks.items c.loop-e-test.true c.e-item.is t items
                c.loop-e.invariant.made;
            within = subst (All (IsWithin most_closed)) (sym items) c.loop-e.invariant.within;
          }
    ]

pub returns-clause-generators : goal.returns-clause-generators
returns-clause-generators g c = walks_all c.args.g.now c.args.found.now c.edges-edges.result.now c.loop-e.e-index c.loop-e.walks.items
    c.edges-edges.ensures.edges c.loop-e-test.false c.loop-e.invariant.made
