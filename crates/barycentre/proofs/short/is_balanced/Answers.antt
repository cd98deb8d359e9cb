-- Of `is_balanced`: the loop over `arc`; what it ensures; what `vector_of`, `of_triple` and `plus` require.
use Rattle.std.proofs.Common.{◌≡◌, ◌∙◌, ◌+◌, ◌*◌, ◌^◌, IsTrue, false, arith, lit<, sym, subst, refl}
use Rattle.std.proofs.lemmas.Int.{to_z-of_z}
use Rattle.integers.{specs.Vectors.IsWithin, proofs.vectors.Bounds.wider}
use Rattle.periodic_net.specs.{Limits.most_units, Placement.arc_vector}
use Rattle.quotient_graph.specs.{PlacedNets.placement_of, Stars.IsArcFrom}
use Rattle.elimination.proofs.CallerLemmas.{few_arcs, near_step}
use Rattle.barycentre.specs.Limits.{AreWithinTo}
use Rattle.barycentre.proofs.Normal.{sum_step, sum_whole, within_more, within_all}
use Rattle.barycentre.proofs.short.is_balanced.Goals as goal

never : IsTrue false → ⊥
never e = cc

pub vector_of-requires : goal.vector_of-requires
vector_of-requires g c =
    let rd = c.ranges.d0 in let G = c.args.g.now in let u = c.args.u in let a = c.arc-item.result in
    let f = subst (IsArcFrom G u) (sym c.arc-item.is) (c.arcs-arc-items.ensures.each c.loop-arc.arc-index a c.loop-arc-test.true) in
    let v = c.requires.vertex in let n = c.requires.count in (
      lit< tt,
      (
        (omega (arith, f.from, v.0), omega (arith, f.from, v.1, n)),
        ((f.to.0, omega (arith, f.to.1, n)), (f.shift, (simp to_z-of_z c.requires.positive, simp to_z-of_z c.requires.reach))),
      ),
    )

pub of_triple-step-requires : goal.of_triple-step-requires
of_triple-step-requires g c =
    wider (2 ^ 60 + 2 ^ 40 * 500 + 2 ^ 60) (2 ^ 62) (omega arith) c.vector_of.result (c.vector_of.ensures.within (2 ^ 60) c.requires.short)

pub plus-sum-requires-clause-left : goal.plus-sum-requires-clause-left
plus-sum-requires-clause-left g c =
    let few = few_arcs c.args.g.now c.args.u c.arcs-arc-items.result.now c.recall.ensures.small c.arcs-arc-items.ensures.star in
    let below = c.loop-arc-test.true in
    wider (most_units * c.loop-arc.arc-index) (2 ^ 61) (omega (arith, few, below)) c.loop-arc.sum c.loop-arc.invariant.near

pub plus-sum-requires-clause-right : goal.plus-sum-requires-clause-right
plus-sum-requires-clause-right g c = wider most_units (2 ^ 61) (omega arith) c.of_triple-step.result (c.if-not-is_within.ensures.0 refl)

pub returns-then-not-is_within : goal.returns-then-not-is_within
returns-then-not-is_within g c = record { within = λ t. absurd (never t); balanced = λ t. absurd (never t) }

pub loop-arc-preserved : goal.loop-arc-preserved
loop-arc-preserved g c =
    let rd = c.ranges.d0 in let P = placement_of c.args.d0 c.args.at.now in
    let star = c.arcs-arc-items.result.now in let a = c.arc-item.result in let i = c.loop-arc.arc-index in
    let v = c.of_triple-step.result in
    let vector : v ≡ arc_vector P a = c.of_triple-step.ensures ∙ (simp to_z-of_z at c.vector_of.ensures.value) in
    let here : IsWithin most_units v = c.if-not-is_within.ensures.0 refl in
    let within : AreWithinTo P star i = simp to_z-of_z at c.loop-arc.invariant.within in
    simp to_z-of_z (record {
      added = sum_step P star i a c.loop-arc.sum v c.plus-sum.result c.loop-arc-test.true c.arc-item.is
          (simp to_z-of_z at c.loop-arc.invariant.added) vector c.plus-sum.ensures;
      near = near_step most_units i c.loop-arc.sum v c.plus-sum.result c.loop-arc.invariant.near here c.plus-sum.ensures;
      within = within_more P star i a c.arc-item.is c.loop-arc-test.true within (subst (IsWithin most_units) vector here);
    })

pub returns-clause-within : goal.returns-clause-within
returns-clause-within g c t =
    let rd = c.ranges.d0 in let P = placement_of c.args.d0 c.args.at.now in
    let star = c.arcs-arc-items.result.now in
    let within : AreWithinTo P star c.loop-arc.arc-index = simp to_z-of_z at c.loop-arc.invariant.within in
    within_all P c.args.g.now c.args.u star c.arcs-arc-items.ensures.star c.loop-arc.arc-index c.loop-arc-test.false within

pub returns-clause-balanced : goal.returns-clause-balanced
returns-clause-balanced g c t =
    let rd = c.ranges.d0 in let P = placement_of c.args.d0 c.args.at.now in let star = c.arcs-arc-items in
    let whole = sum_whole P c.args.g.now c.args.u star.result.now star.ensures.star c.loop-arc.arc-index c.loop-arc.sum c.loop-arc-test.false
    (simp to_z-of_z at c.loop-arc.invariant.added) in
    sym whole ∙ sym c.to_triple.ensures ∙ c.is_zero.ensures.0 t
