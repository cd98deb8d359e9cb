-- Of `head_of`: what `step` requires; the clauses `end` and `shift`.
use Rattle.std.proofs.Common.{lit<, sym, subst, ap, ◌∙◌}
use Rattle.integers.specs.Vectors.{plus}
use Rattle.periodic_net.{specs.Graph.Arc, specs.Graph.IsQuotientVertex, specs.Placement.arc_vector, proofs.CallerLemmas.arc_inside}
use Rattle.standard_map.{specs.Ends.End, specs.Ends.IsEnd, proofs.Searching.next_end, proofs.Searching.some_arc}
use Rattle.standard_map.proofs.step.head_of.Goals as goal

pub step-image-requires : goal.step-image-requires
step-image-requires g c =
    let k = c.requires.one_key in let T = c.args.there.now in
    let r = some_arc c.args.here.now T k c.args.tail.now c.requires.tail c.args.arc.now c.requires.arc.is_arc c.requires.arc.from c.part_of-part.result
    c.part_of-part.ensures.part in
    let e = r.2 ∙ sym (ap (λ (x : End). x.image) c.tail.view_is) in
    (lit< tt, (lit< tt, (subst (IsQuotientVertex T.net.graph) e (arc_inside T.net.graph k.one_list.there r.0 r.1).from, (r.0, r.1, e, r.3))))

pub returns-clause-end : goal.returns-clause-end
returns-clause-end g c =
    let S = c.args.here.now in let T = c.args.there.now in let a = c.args.arc.now in
    let b = c.step-image.result in let s = c.step-image.ensures in let tail = c.tail.view_is in
    let arc = c.arc.view_is in
    let e = next_end S T c.requires.one_key c.args.tail.now c.requires.tail a b c.requires.arc.is_arc c.requires.arc.from s.is_arc
    (s.from ∙ ap (λ (x : End). x.image) tail)
    c.part_of-part.result c.part_of-part.ensures.part s.part in
    let over = ap (λ (x : Arc). x.to) (sym arc) in
    let shift = (λ i. plus (sym tail i).shift (sym arc i).shift) ∙ sym c.plus.ensures in
    let image = ap (λ (x : Arc). x.to) (sym c.image.view_is) in
    let vector = ap (λ n. arc_vector n.placement b) (sym c.placed.ensures.net) ∙ sym c.vector-vector.ensures.value in
    let at = (λ i. plus (sym tail i).at (vector i)) ∙ sym c.plus-2.ensures.value in
    subst (IsEnd S T) (λ i. record { over = over i; shift = shift i; image = image i; at = at i }) e

pub returns-clause-shift : goal.returns-clause-shift
returns-clause-shift g c =
    let tail = c.tail.view_is in let arc = c.arc.view_is in
    c.plus.ensures ∙ (λ i. plus (tail i).shift (arc i).shift)
