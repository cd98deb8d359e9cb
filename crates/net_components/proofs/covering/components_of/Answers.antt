-- Of `components_of`: what `next_component` requires; the loop over `u`.
use Rattle.std.proofs.Common.{◌+◌, List, lit<, Vec, Global, sym, ap, subst, ◌∙◌, arith}
use Rattle.periodic_net.specs.Graph.{IsQuotientVertex}
use Rattle.net_components.specs.Components.{Component, AreComponentsTo, IsFoundIn}
use Rattle.net_components.proofs.Covered.{passed, added}
use Rattle.net_components.proofs.covering.components_of.Goals.{then-not-is_found_in+in_ok-component+in_ok-push, else-not-is_found_in}
use Rattle.net_components.proofs.covering.components_of.Goals as goal

pub next_component-requires : goal.next_component-requires
next_component-requires g c =
    let G = c.args.g.now in
    let vertex : IsQuotientVertex G c.loop-u.u = (c.loop-u.auto.u, omega (arith, c.loop-u-test.true, c.vertices-u-end.ensures.count)) in
    let same = c.deref-then-not-is_found_in.ensures.value in
    let none : ¬ IsFoundIn c.deref-then-not-is_found_in.result.now c.loop-u.u =
    λ f. c.is_found_in.ensures.no c.if-not-is_found_in.true (rw (same ∙ sym c.deref.ensures.value) at f) in
    (lit< tt, (lit< tt, (vertex, (subst (λ (cs : List Component). AreComponentsTo G cs c.loop-u.u) (sym same) c.loop-u.invariant, none))))

pub loop-u-preserved : goal.loop-u-preserved
loop-u-preserved g c =
    let G = c.args.g.now in let u = c.loop-u.u in let cs = c.loop-u.components.items in
    let vertex : IsQuotientVertex G u = (c.loop-u.auto.u, omega (arith, c.loop-u-test.true, c.vertices-u-end.ensures.count)) in
    elim c.if-not-is_found_in.branch [
      | then-not-is_found_in+in_ok-component+in_ok-push w ↦
          let items = ap (λ (v : Vec _ Global). v.items) w.components-is ∙ w.in_ok-push.ensures in
          rw items (added G c.vertices-u-end.ensures.is_graph cs u vertex c.loop-u.invariant w.in_ok-component.component w.in_ok-component.ensures.component
          w.in_ok-component.ensures.root)
      | else-not-is_found_in w ↦
          let f = c.is_found_in.ensures.yes w.if-not-is_found_in.false in
          let items = ap (λ (v : Vec _ Global). v.items) w.components-is in
          subst (λ (ds : List Component). AreComponentsTo G ds (u + 1)) (sym items)
          (passed G c.vertices-u-end.ensures.is_graph cs u vertex c.loop-u.invariant (subst (λ (ds : List Component). IsFoundIn ds u) c.deref.ensures.value f))
    ]
