-- Of `vector_between`: what `part_between` requires; what it ensures; that the result is a vector.
use Rattle.std.proofs.Common.{rules, ◌≡◌, ◌^◌, FitsSigned, sym, subst, ◌∙◌}
use Rattle.std.{specs.Int.w32, specs.Int.w128, proofs.lemmas.Int.to_z-of_z}
use Rattle.integers.specs.Vectors.{vector, minus, plus, times, IsWithin}
use Rattle.periodic_net.specs.Limits.{most_shift}
use Rattle.quotient_graph.proofs.Positions.{flat_part}
use Rattle.quotient_graph.proofs.placed.vector_between.{Given.Over, Goals.After-part_between-3}
use Rattle.quotient_graph.proofs.placed.vector_between.Goals as goal

pub part_between-requires : goal.part_between-requires
part_between-requires g c =
    let d = c.ranges.d0 in let v : FitsSigned w128 c.from.inside.x = search rules in let w : FitsSigned w128 c.to.inside.x = search rules in
    let s : FitsSigned w32 c.shift.inside.x = search rules in
    let shift = subst (IsWithin most_shift) (sym c.shift.view_is) c.requires.shift in
    simp to_z-of_z (record { from = c.from.invariant.0.0; to = c.to.invariant.0.0; d0 = c.requires.d0; steps = shift.0 })

pub part_between-requires-2 : goal.part_between-requires-2
part_between-requires-2 g c =
    let d = c.ranges.d0 in let v : FitsSigned w128 c.from.inside.y = search rules in let w : FitsSigned w128 c.to.inside.y = search rules in
    let s : FitsSigned w32 c.shift.inside.y = search rules in
    let shift = subst (IsWithin most_shift) (sym c.shift.view_is) c.requires.shift in
    simp to_z-of_z (record { from = c.from.invariant.0.1; to = c.to.invariant.0.1; d0 = c.requires.d0; steps = shift.1 })

pub part_between-requires-3 : goal.part_between-requires-3
part_between-requires-3 g c =
    let d = c.ranges.d0 in let v : FitsSigned w128 c.from.inside.z = search rules in let w : FitsSigned w128 c.to.inside.z = search rules in
    let s : FitsSigned w32 c.shift.inside.z = search rules in
    let shift = subst (IsWithin most_shift) (sym c.shift.view_is) c.requires.shift in
    simp to_z-of_z (record { from = c.from.invariant.0.2; to = c.to.invariant.0.2; d0 = c.requires.d0; steps = shift.2 })

-- the parts that the code finds are those of the vector
same : (g : Over) (c : After-part_between-3 g)
    → vector c.part_between.result c.part_between-2.result c.part_between-3.result ≡
    minus (plus c.args.to.now (times c.args.d0 c.args.shift.now)) c.args.from.now
same g c =
    let d = c.ranges.d0 in let v = c.from.inside in let w = c.to.inside in let s = c.shift.inside in
    let vx : FitsSigned w128 v.x = search rules in let vy : FitsSigned w128 v.y = search rules in let vz : FitsSigned w128 v.z = search rules in
    let wx : FitsSigned w128 w.x = search rules in let wy : FitsSigned w128 w.y = search rules in let wz : FitsSigned w128 w.z = search rules in
    let sx : FitsSigned w32 s.x = search rules in let sy : FitsSigned w32 s.y = search rules in let sz : FitsSigned w32 s.z = search rules in
    let x = c.part_between.ensures in let x' = simp to_z-of_z at x in
    let y = c.part_between-2.ensures in let y' = simp to_z-of_z at y in
    let z = c.part_between-3.ensures in let z' = simp to_z-of_z at z in
    (λ i. vector (x' i) (y' i) (z' i)) ∙ (λ i. minus (plus (c.to.view_is i) (times c.args.d0 (c.shift.view_is i))) (c.from.view_is i))

pub returns : goal.returns
returns g c =
    let x : FitsSigned w128 c.part_between.result = record { sfits = c.part_between.type_inv } in
    let y : FitsSigned w128 c.part_between-2.result = record { sfits = c.part_between-2.type_inv } in
    let z : FitsSigned w128 c.part_between-3.result = record { sfits = c.part_between-3.type_inv } in simp to_z-of_z (same g c)

pub invariant_of-result : goal.invariant_of-result
invariant_of-result g c =
    let x : FitsSigned w128 c.part_between.result = record { sfits = c.part_between.type_inv } in
    let y : FitsSigned w128 c.part_between-2.result = record { sfits = c.part_between-2.type_inv } in
    let z : FitsSigned w128 c.part_between-3.result = record { sfits = c.part_between-3.type_inv } in
    let d = c.ranges.d0 in let v = c.from.inside in let w = c.to.inside in let s = c.shift.inside in
    let vz : FitsSigned w128 v.z = search rules in let wz : FitsSigned w128 w.z = search rules in let sz : FitsSigned w32 s.z = search rules in
    let last = c.part_between-3.ensures in let last' = simp to_z-of_z at last in
    simp to_z-of_z (
      subst (IsWithin (2 ^ 61)) (sym (same g c)) c.requires.small,
      λ two. last' ∙ flat_part v.z w.z c.args.d0 s.z (c.from.invariant.1 two) (c.to.invariant.1 two) (c.shift.invariant two),
    )
