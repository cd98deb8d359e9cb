-- Of `lift`: the clauses `lift` and `wide`; what `coefficients` requires. `steps_are` and `is_new` are what they share.
use Rattle.std.proofs.Common.{◌≡◌, ◌∙◌, ◌<◌, ◌+◌, ◌^◌, ℕ, sym, ap, subst, arith}
use Rattle.integers.specs.Vectors.{plus, minus, HasDimension, IsWithin}
use Rattle.integers.proofs.vectors.Bounds.{wider}
use Rattle.periodic_net.specs.{Graph.Arc, Limits.most_vertices, Limits.most_shift}
use Rattle.sublattice.specs.{Remainders.remainder_with, Sublattices.IsCombination}
use Rattle.net_cover.specs.Covers.{number_in_cover, LeadsTo}
use Rattle.net_cover.proofs.CoverMade.{few, leads, left_combination, lift_made, part_tells, remainder_small}
use Rattle.net_cover.proofs.lifting.lift.{Given.Over, Goals.After-to_triple, Goals.After-coefficients-k}
use Rattle.net_cover.proofs.lifting.lift.Goals as goal

-- the steps lead to the target from the remainder at their end
steps_are : (g : Over) (c : After-to_triple g)
    → c.to_triple.result ≡ minus c.plus-target.result (remainder_with c.args.lattice.now c.remainder_number-end.result)
steps_are g c = c.to_triple.ensures.value ∙ c.minus-steps.ensures.value ∙ ap (minus c.plus-target.result) c.remainder_at-2.ensures.value

-- the coefficients of the steps are the new shift
is_new : (g : Over) (c : After-coefficients-k g)
    → LeadsTo g.row.D c.args.cell.now.rows c.args.lattice.now c.args.edge.now c.args.start c.remainder_number-end.result c.coefficients-k.result
is_new g c =
    let S = c.args.lattice.now in let i = c.args.start in
    let first = c.remainder_at.ensures.value ∙ ap (remainder_with S) c.from.ensures in
    let shift = c.to_vector.ensures.value ∙ ap (λ (e : Arc). e.shift) c.edge.view_is in
    let to = c.plus-target.ensures.value ∙ (λ t. plus (first t) (shift t)) in
    let flat = subst (λ (n : ℕ). HasDimension n c.coefficients-k.result) c.requires.dimension c.coefficients-k.ensures.dimension in
    leads g.row.D c.args.cell.now.rows S c.requires.lattice c.args.edge.now i c.remainder_number-end.result c.plus-target.result c.coefficients-k.result
    (subst (λ (n : ℕ). i < n) c.requires.index c.requires.start) c.remainder_number-end.ensures.below to flat
    (sym (steps_are g c.before.before) ∙ c.coefficients-k.ensures.value)

pub coefficients-k-requires-clause-vector : goal.coefficients-k-requires-clause-vector
coefficients-k-requires-clause-vector g c =
    let d = g.row.D in let S = c.args.lattice.now in let h = c.requires.lattice in
    let l = few d c.args.cell.now.rows S h in
    let shift = c.to_vector.ensures.value ∙ ap (λ (e : Arc). e.shift) c.edge.view_is in
    let s = remainder_small most_vertices d S c.remainder_at.result h.lattice.stair l c.remainder_at.ensures.remainder in
    let r = remainder_small most_vertices d S c.remainder_at-2.result h.lattice.stair l c.remainder_at-2.ensures.remainder in
    let t = c.plus-target.ensures.within most_vertices most_shift s (subst (IsWithin most_shift) (sym shift) c.requires.edge.small) in
    rw c.to_triple.ensures.value (wider (most_vertices + most_shift + most_vertices) (2 ^ 12) (omega arith) c.minus-steps.result
    (c.minus-steps.ensures.within (most_vertices + most_shift) most_vertices t r))

pub coefficients-k-requires-clause-combination : goal.coefficients-k-requires-clause-combination
coefficients-k-requires-clause-combination g c =
    let b = c.args.cell.now.rows in let end = c.remainder_number-end in
    let steps = steps_are g (goal.at.coefficients-k-requires-clause-combination g c).After-to_triple in
    let i = left_combination g.row.D b c.args.lattice.now c.requires.lattice c.plus-target.result end.result end.ensures.number in
    subst (λ (n : ℕ). IsCombination n b c.to_triple.result) (sym c.requires.dimension) (subst (IsCombination g.row.D b) (sym steps) i)

pub returns-in-Ok-clause-lift : goal.returns-in-Ok-clause-lift
returns-in-Ok-clause-lift g c =
    let a = c.args.edge.now in let i = c.args.start in let j = c.remainder_number-end.result in
    let from = c.number.ensures ∙ ap (λ (e : Arc). number_in_cover c.args.index e.from i) c.edge.view_is in
    let there = c.number-in-Ok.ensures ∙ ap (λ (e : Arc). number_in_cover c.args.index e.to j) c.edge.view_is in
    lift_made g.row.D c.args.cell.now.rows c.args.lattice.now c.requires.lattice a i j c.coefficients-k.result
    (is_new g (goal.at.returns-in-Ok-clause-lift g c).After-coefficients-k) c.args.index c.number.result c.number-in-Ok.result c.in-Ok.shift
    c.requires.index from there c.in-Ok.ensures.shift

pub returns-in-Err-clause-wide : goal.returns-in-Err-clause-wide
returns-in-Err-clause-wide g c =
    part_tells g.row.D c.args.cell.now.rows c.args.lattice.now c.args.edge.now c.args.start c.coefficients-k.result
    (c.remainder_number-end.result, is_new g (goal.at.returns-in-Err-clause-wide g c).After-coefficients-k) c.in-Err.fault c.in-Err.ensures.wide
