-- Of `vector`: the clause `small`; what `at` and `vector_between` require.
use Rattle.std.proofs.Common.{rules, to_z, of_z, ◌≡◌, ◌^◌, lit<, ap, sym, subst, arith}
use Rattle.std.specs.Int.{w128}
use Rattle.integers.specs.Vectors.{minus, plus, times, IsWithin}
use Rattle.integers.proofs.vectors.Bounds.{wider}
use Rattle.periodic_net.specs.{Graph.Arc, Graph.IsQuotientVertex, Placement.arc_vector, Limits.most_shift, Limits.most_units}
use Rattle.periodic_net.proofs.CallerLemmas.{arc_inside}
use Rattle.quotient_graph.proofs.Stars.{arc_within}
use Rattle.quotient_graph.proofs.placed.Placed.vector.Goals as goal

pub at-from-requires : goal.at-from-requires
at-from-requires g c =
    let G = c.args.self.now.graph in
    let ends = arc_inside G c.recall.ensures.is_graph c.args.arc.now c.requires in
    (lit< tt, (lit< tt, subst (IsQuotientVertex G) (sym (ap (λ (a : Arc). a.from) c.arc.view_is)) ends.from))

pub at-to-requires : goal.at-to-requires
at-to-requires g c =
    let G = c.args.self.now.graph in
    let ends = arc_inside G c.recall.ensures.is_graph c.args.arc.now c.requires in
    (lit< tt, (lit< tt, subst (IsQuotientVertex G) (sym (ap (λ (a : Arc). a.to) c.arc.view_is)) ends.to))

pub vector_between-requires : goal.vector_between-requires
vector_between-requires g c =
    let G = c.args.self.now.graph in let P = c.args.self.now.placement in let arc = c.args.arc.now in
    let s = c.arc.inside.shift in let d = to_z w128 (of_z w128 c.d0.result) in
    let same : minus (plus c.at-to.result (times d s)) c.at-from.result ≡ arc_vector P arc = search rules in
    let vector : IsWithin (2 ^ 61) (minus (plus c.at-to.result (times d s)) c.at-from.result) =
    subst (IsWithin (2 ^ 61)) (sym same) (wider most_units (2 ^ 61) (omega arith) (arc_vector P arc) (c.recall.ensures.limits.arcs arc c.requires)) in
    let shift : IsWithin most_shift s = rw (ap (λ (a : Arc). a.shift) c.arc.view_is) (arc_within G c.recall.ensures.small arc c.requires) in
    (lit< tt, (lit< tt, (search rules, (shift, vector))))

pub returns-clause-small : goal.returns-clause-small
returns-clause-small g c =
    let arc = c.args.arc.now in
    let same : c.vector_between.result ≡ arc_vector c.args.self.now.placement arc = search rules in
    subst (IsWithin most_units) (sym same) (c.recall.ensures.limits.arcs arc c.requires)
