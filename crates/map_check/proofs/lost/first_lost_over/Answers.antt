-- Of `first_lost_over`: the loop over `k`; the clauses `none` and `some`; what `first_losing_cell` and `vertex_of` require.
use Rattle.std.proofs.Common.{◌≡◌, ◌∙◌, ◌+◌, ◌<◌, ◌≤◌, ℕ, length, get_or, sym, ap, subst, arith}
use Rattle.std.proofs.Math.Nat.{le_trans}
use Rattle.periodic_net.specs.Graph.{Arc, Vertex, vertex}
use Rattle.quotient_graph.specs.Stars.{IsArcFrom}
use Rattle.map_check.specs.{Layouts.cell_at, Layouts.vertex_at, Faults.IsFirstLostArc, Images.IsCarried}
use Rattle.map_check.proofs.LostArcs.{all_kept, first_lost_arc, cells_more, loss_after, loss_inside}
use Rattle.map_check.proofs.{Drawing.place_here, Drawing.has_images, Layouts.vertex_over}
use Rattle.map_check.proofs.lost.first_lost_over.Goals as goal

pub first_losing_cell-p-requires : goal.first_losing_cell-p-requires
first_losing_cell-p-requires g c =
    let r = c.requires in let a = c.index-star-k.result in let m = c.args.map.now.m in
    let p = c.carry-arc.result.parts in
    let each = subst (IsArcFrom c.args.g.now c.args.u) (sym c.index-star-k.is) (c.arcs-star.ensures.each c.loop-k.k a c.loop-k-test.true) in
    let arc = subst (IsArcFrom c.args.g.now c.args.u) (sym c.carry-arc.ensures.arc) each in
    let carried = subst (λ (b : Arc). IsCarried m b.shift p.rest p.steps) (sym c.carry-arc.ensures.arc) c.carry-arc.ensures.carried in
    let end = subst (λ (n : ℕ). c.loop-k.end ≤ n) c.box_size-size.ensures.value c.loop-k.invariant.order in
    (omega arith, (omega arith, (r.map, (r.rows, (r.over, (arc, (carried, end)))))))

pub loop-k-preserved : goal.loop-k-preserved
loop-k-preserved g c =
    let i = c.loop-k.invariant in let m = c.args.map.now.m in let u = c.args.u in
    let star = c.arcs-star.result.now in let k = c.loop-k.k in let p = c.first_losing_cell-p.result in
    let e = c.loop-k.end in let below = c.first_losing_cell-p.ensures.inside in
    let first = c.first_losing_cell-p.ensures.first in let a = c.carry-arc.result.arc in
    let l = c.loop-k-test.true in
    let s = subst (λ (x : Arc). x ≡ get_or star k x) (sym c.carry-arc.ensures.arc) c.index-star-k.is in
    let from = (subst (IsArcFrom c.args.g.now u) (sym s) (c.arcs-star.ensures.each k a l)).from in
    let less = c.earlier-lost.ensures.less in let same = c.earlier-lost.ensures.same in
    record {
      order = le_trans below i.order;
      inside = loss_inside p e c.box_size-size.result k (length star) c.loop-k.lost c.earlier-lost.result l i.inside less same below;
      kept = λ f t. cells_more c.args.h.now f g.row.D m u star k e p a l s from (first f t) (i.kept f t) below;
      loss = λ f t. loss_after c.args.h.now f g.row.D m u star k e p a l s from (first f t)
          (i.kept f t) c.loop-k.lost c.earlier-lost.result c.box_size-size.result below (i.loss f t) less same;
    }

pub returns-then-end-size-clause-none : goal.returns-then-end-size-clause-none
returns-then-end-size-clause-none g c = λ _ f t q b.
    let m = c.args.map.now.m in let s = c.arcs-star.ensures in
    let l = subst (λ (n : ℕ). q < n) (sym (c.if-end-size.true ∙ c.box_size-size.ensures.value)) b in
    all_kept c.args.g.now c.args.h.now f (vertex c.args.u (cell_at g.row.D m q)) c.arcs-star.result.now s.every c.loop-k.k c.loop-k-test.false
    (c.loop-k.invariant.kept f t q l)

pub vertex_of-requires-clause-place : goal.vertex_of-requires-clause-place
vertex_of-requires-clause-place g c =
    let m = c.args.map.now in let e = c.recall.ensures in let order = c.loop-k.invariant.order in
    let no = c.if-end-size.false in
    let less : c.loop-k.end < c.box_size-size.result = omega (arith, order, no) in
    let l = subst (λ (n : ℕ). c.loop-k.end < n) c.box_size-size.ensures.value less in
    let has = has_images c.args.g.now c.args.h.now g.row.D m.m m.images m.base e.parameter c.recall-2.ensures.parameter e.two_or_three c.requires.map c.args.u
    c.requires.over in
    let p = place_here g.row.D m.m m.images m.base e.two_or_three c.requires.map.period_from c.args.u c.loop-k.end l has in
    let b = subst (λ (n : ℕ). n + c.loop-k.end < length m.images) (sym c.first_place.ensures.value) p in
    let few = c.requires.map.few in
    omega (arith, b, few)

pub returns-clause-some : goal.returns-clause-some
returns-clause-some g c = λ f t.
    let G = c.args.g.now in let H = c.args.h.now in let m = c.args.map.now.m in let u = c.args.u in
    let i = c.loop-k.invariant in let e = c.loop-k.end in let s = c.arcs-star.ensures in
    let star = c.arcs-star.result.now in let a = c.index-star-lost.result in let is = c.index-star-lost.is in
    let order = i.order in let no = c.if-end-size.false in
    let less : e < c.box_size-size.result = omega (arith, order, no) in
    let l = subst (λ (n : ℕ). e < n) c.box_size-size.ensures.value less in let loss = i.loss f t less in
    let w = c.vertex_of.ensures ∙ ap (λ (n : ℕ). vertex_at g.row.D m (n + e)) c.first_place.ensures.value ∙ vertex_over g.row.D m u e c.requires.over.0 l in
    let arc = first_lost_arc G H f (vertex u (cell_at g.row.D m e)) star s.each s.every s.star.rising c.loop-k.lost a (i.inside less) is
    (loss.lost a is) loss.kept in
    record {
      at = e;
      inside = l;
      is = w;
      arc = subst (λ (x : Vertex). IsFirstLostArc G H f x a) (sym w) arc;
      none = λ q b. all_kept G H f (vertex u (cell_at g.row.D m q)) star s.every c.loop-k.k c.loop-k-test.false (i.kept f t q b);
    }
