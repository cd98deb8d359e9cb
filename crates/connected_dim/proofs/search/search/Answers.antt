-- Of `search`: the loop over `i`; what it ensures; what `walk_at` and `expand` require.
use Rattle.std.proofs.Common.{◌≡◌, ◌<◌, length, slice_index_or, Some, lit<, arith, subst, sym, ap, ◌∙◌}
use Rattle.periodic_net.specs.Graph.{IsQuotientVertex}
use Rattle.connected_dim.specs.Search.{walk_to}
use Rattle.connected_dim.proofs.{Starting.few_found, Starting.next_of, Starting.searched_more, PathSteps.paths_chosen}
use Rattle.connected_dim.proofs.search.search.Goals as goal

pub walk_at-u-requires : goal.walk_at-u-requires
walk_at-u-requires g c =
    let place : c.loop-i.i < length c.loop-i.order.items = omega (arith, c.loop-i-test.true, c.len.ensures) in
    let n = next_of c.loop-i.invariant.searched place in
    rw c.deref.ensures.value (lit< tt, (place, ((n.low, n.high), n.is_found)))

pub expand-requires : goal.expand-requires
expand-requires g c =
    let place : c.loop-i.i < length c.loop-i.order.items = omega (arith, c.loop-i-test.true, c.len.ensures) in
    let n = next_of c.loop-i.invariant.searched place in
    let same = sym (c.walk_at-u.ensures.vertex ∙ ap (λ os. slice_index_or os c.loop-i.i 0) c.deref.ensures.value) in
    let walk = subst (λ u. walk_to c.loop-i.found u ≡ Some c.walk_at-u.result.1) (sym same) c.walk_at-u.ensures.walk in
    let few = few_found c.loop-i.invariant.searched c.requires.small in
    let vertex = subst (IsQuotientVertex c.args.g.now) same n.vertex in
    (lit< tt, (lit< tt, (c.loop-i.invariant.searched.search, (vertex, (c.walk_at-u.ensures.walk, (n.near c.walk_at-u.result.1 walk, (omega arith, few)))))))

pub loop-i-preserved : goal.loop-i-preserved
loop-i-preserved g c =
    let place : c.loop-i.i < length c.loop-i.order.items = omega (arith, c.loop-i-test.true, c.len.ensures) in
    let same = c.walk_at-u.ensures.vertex ∙ ap (λ os. slice_index_or os c.loop-i.i 0) c.deref.ensures.value in
    record {
      searched = searched_more c.loop-i.invariant.searched place
          (rw same at c.in_ok-expand.ensures.expands);
      settled = c.in_ok-expand.ensures.paths c.loop-i.i place (sym same) c.loop-i.invariant.settled;
    }

pub returns : goal.returns
returns g c = record {
  searched = record {
    search = c.loop-i.invariant.searched.search;
    first = c.loop-i.invariant.searched.first;
    together = c.loop-i.invariant.searched.together;
    done = λ k l. c.loop-i.invariant.searched.done k (omega (arith, l, c.loop-i-test.false, c.len.ensures));
  };
  chosen = paths_chosen c.args.g.now c.args.start c.loop-i.found c.loop-i.order.items c.loop-i.i
      (omega (arith, c.loop-i-test.false, c.len.ensures)) c.loop-i.invariant.searched.search c.loop-i.invariant.settled;
}
