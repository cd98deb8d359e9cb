-- Of `expand`: the loop over `arc`; what it ensures; what `plus` and `find` require.
use Rattle.std.proofs.Common.{◌+◌, ◌∷◌, ◌-◌, ◌*◌, ◌^◌, ◌≤◌, length, lit<, arith, subst, sym, ap, ◌∙◌}
use Rattle.std.specs.Prelude.{drop}
use Rattle.integers.proofs.{lists.GrownLists.drop_all, vectors.Bounds.wider}
use Rattle.periodic_net.specs.Graph.{Arc, arc, IsArc}
use Rattle.periodic_net.specs.Limits.{most_shift}
use Rattle.quotient_graph.specs.Stars.{IsArcFrom}
use Rattle.connected_dim.specs.{Search.found_with, Paths.IsPathSearch}
use Rattle.connected_dim.proofs.PathSteps.{arcs_of_star, left_at, path_begin, path_end, path_step}
use Rattle.connected_dim.proofs.Starting.{grows_none, turn, leads_more, leads_all}
use Rattle.connected_dim.proofs.search.expand.Goals as goal

pub plus-requires : goal.plus-requires
plus-requires g c =
    let few = c.requires.few in
    let here = subst (IsArcFrom c.args.g.now c.args.u) (sym c.arc-item.is ∙ sym c.arc.view_is)
    (c.arcs-arc-items.ensures.each c.loop-arc.arc-index c.arc-item.result c.loop-arc-test.true) in
    let near = wider (most_shift * (length c.args.order.now.items - 1)) (2 ^ 29) (omega arith) c.args.walk.now c.requires.near in
    (lit< tt, (near, wider most_shift (2 ^ 29) (omega arith) c.arc.inside.shift here.shift))

pub find-requires : goal.find-requires
find-requires g c =
    let here = subst (IsArcFrom c.args.g.now c.args.u) (sym c.arc-item.is ∙ sym c.arc.view_is)
    (c.arcs-arc-items.ensures.each c.loop-arc.arc-index c.arc-item.result c.loop-arc-test.true) in
    (lit< tt, (here.to.0, subst (λ n. c.arc.inside.to ≤ n) (sym c.loop-arc.invariant.grows.search.count) here.to.1))

pub loop-arc-init : goal.loop-arc-init
loop-arc-init g c =
    let G = c.args.g.now in let a = c.arcs-arc-items.ensures in
    record {
      grows = grows_none G c.args.start c.args.found.now c.args.order.now.items c.requires.search;
      leads = λ k a l. absurd (omega arith);
      paths = λ i l at s. path_begin G c.args.start c.args.found.now c.args.order.now.items i c.args.u l at s c.arcs-arc-items.result.now
          (arcs_of_star G c.args.u c.arcs-arc-items.result.now a.star a.each a.every);
    }

pub loop-arc-preserved : goal.loop-arc-preserved
loop-arc-preserved g c =
    let G = c.args.g.now in let row = c.arcs-arc-items.result.now in
    let here = subst (IsArcFrom G c.args.u) (sym c.arc-item.is ∙ sym c.arc.view_is)
    (c.arcs-arc-items.ensures.each c.loop-arc.arc-index c.arc-item.result c.loop-arc-test.true) in
    let is_arc = subst (λ u. IsArc G (arc u c.arc.inside.to c.arc.inside.shift)) here.from here.is_arc in
    let t = turn G c.args.start c.args.found.now c.args.order.now.items c.args.u c.arc.inside.to c.args.walk.now c.arc.inside.shift c.requires.some
    c.requires.vertex c.requires.known c.requires.near is_arc here.to here.shift
    c.loop-arc.found c.loop-arc.order.items c.find.new.found c.find.new.order.items c.loop-arc.invariant.grows
    (c.in_ok-find.ensures.found ∙ ap (found_with c.loop-arc.found c.arc.inside.to) c.plus.ensures) c.in_ok-find.ensures.order c.in_ok-find.ensures.together in
    record {
      grows = t.grows;
      leads = leads_more row c.loop-arc.found c.find.new.found c.loop-arc.arc-index c.arc-item.result c.arc.inside.to (sym c.arc-item.is)
          (ap (λ (a : Arc). a.to) c.arc.view_is) c.loop-arc-test.true t.still c.loop-arc.invariant.leads t.leads;
      paths = λ i l at s.
          let rest = drop (c.loop-arc.arc-index + 1) row in let h = c.loop-arc.invariant.grows in
          let left = left_at row c.loop-arc.arc-index c.arc-item.result c.loop-arc-test.true (sym c.arc-item.is) in
          let p = subst (λ (x : Arc). IsPathSearch G c.args.start c.loop-arc.found c.loop-arc.order.items i (x ∷ rest)) (sym c.arc.view_is)
          (subst (IsPathSearch G c.args.start c.loop-arc.found c.loop-arc.order.items i) left (c.loop-arc.invariant.paths i l at s)) in
          path_step p h.search c.args.u c.args.walk.now (omega (arith, h.longer, l)) (h.same i l ∙ at)
          (h.kept (c.args.u - 1) c.args.walk.now c.requires.known) here.to.0 (subst (λ n. c.arc.inside.to ≤ n) (sym h.search.count) here.to.1)
          (c.in_ok-find.ensures.found ∙ ap (found_with c.loop-arc.found c.arc.inside.to) c.plus.ensures) c.in_ok-find.ensures.order;
    }

pub returns : goal.returns
returns g c = record {
  expands = record {
    grows = c.loop-arc.invariant.grows;
    leads = leads_all c.args.g.now c.args.start c.arcs-arc-items.result.now c.loop-arc.found c.args.u c.loop-arc.arc-index c.loop-arc-test.false
        c.arcs-arc-items.ensures.every c.loop-arc.invariant.leads;
  };
  paths = λ i l at s.
      path_end c.args.g.now c.args.start c.loop-arc.found c.loop-arc.order.items i
      (rw (drop_all c.arcs-arc-items.result.now c.loop-arc.arc-index c.loop-arc-test.false) at (c.loop-arc.invariant.paths i l at s));
}
