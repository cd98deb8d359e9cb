-- Of `shows_early`: what `are_enough` requires; the loop over `e`.
use Rattle.std.proofs.Common.{All, sym, ap, subst, ◌∙◌, lit<}
use Rattle.integers.specs.Vectors.{IsWithin}
use Rattle.periodic_net.specs.{Limits.most_closed, Split.ClosedShift}
use Rattle.connected_dim.proofs.Generated.{edge_closed, all_more}
use Rattle.connected_dim.proofs.early.shows_early.Goals.{then-may_tell_more+in_ok-push+else-are_enough+else-len-eq-MOST_WALKS, else-may_tell_more}
use Rattle.connected_dim.proofs.early.shows_early.Goals as goal

pub are_enough-requires : goal.are_enough-requires
are_enough-requires g c =
    let G = c.args.g.now in let found = c.args.found.now in let walk = c.edge_walk-walk.result in let walks = c.loop-e.walks.items in
    let is = edge_closed G c.recall.ensures.is_graph found c.requires.walks c.requires.all c.edges-edges.result.now c.loop-e.e-index c.e-item.result
    c.edges-edges.ensures.edges c.loop-e-test.true c.e-item.is in
    let closed = subst (ClosedShift G 1) (sym c.edge_walk-walk.ensures.value) is in
    let items = c.deref-then-may_tell_more.ensures.value ∙ c.in_ok-push.ensures.items in
    let small = all_more (IsWithin most_closed) walks walk c.loop-e.invariant.within c.edge_walk-walk.ensures.within in
    let all = subst (All (ClosedShift G 1)) (sym items) (all_more (ClosedShift G 1) walks walk c.loop-e.invariant.closed closed) in
    (lit< tt, (lit< tt, (lit< tt, (c.requires.walks, (c.requires.all, (all, subst (All (IsWithin most_closed)) (sym items) small))))))

pub loop-e-preserved : goal.loop-e-preserved
loop-e-preserved g c =
    let G = c.args.g.now in let found = c.args.found.now in let walk = c.edge_walk-walk.result in let walks = c.loop-e.walks.items in
    let is = edge_closed G c.recall.ensures.is_graph found c.requires.walks c.requires.all c.edges-edges.result.now c.loop-e.e-index c.e-item.result
    c.edges-edges.ensures.edges c.loop-e-test.true c.e-item.is in
    let closed = subst (ClosedShift G 1) (sym c.edge_walk-walk.ensures.value) is in
    elim c.if-may_tell_more.branch [
      | then-may_tell_more+in_ok-push+else-are_enough+else-len-eq-MOST_WALKS w ↦
          let items = ap (λ ws. ws.items) w.walks-is ∙ w.in_ok-push.ensures.items in
          let bound = c.edge_walk-walk.ensures.within in
          record {
            closed = subst (All (ClosedShift G 1)) (sym items) (all_more (ClosedShift G 1) walks walk c.loop-e.invariant.closed closed);
            within = subst (All (IsWithin most_closed)) (sym items) (all_more (IsWithin most_closed) walks walk c.loop-e.invariant.within bound);
          }
      | else-may_tell_more w ↦
          let items = ap (λ ws. ws.items) w.walks-is in
          record {
            closed = subst (All (ClosedShift G 1)) (sym items) c.loop-e.invariant.closed;
            within = subst (All (IsWithin most_closed)) (sym items) c.loop-e.invariant.within;
          }
    ]
