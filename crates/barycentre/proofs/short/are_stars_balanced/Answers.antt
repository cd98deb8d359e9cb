-- Of `are_stars_balanced`: the loop over `u`; the clauses `within` and `balanced`.
use Rattle.std.proofs.Common.{◌≡◌, ℕ, ◌+◌, ◌-◌, ◌<◌, arith, map, refl, below_more}
use Rattle.std.proofs.lemmas.Int.{to_z-of_z}
use Rattle.integers.specs.Vectors.{zero_vector, vector_sum}
use Rattle.periodic_net.specs.{Graph.arcs_from, Placement.arc_vector}
use Rattle.quotient_graph.specs.PlacedNets.{placement_of}
use Rattle.elimination.proofs.CallerLemmas.{from_one}
use Rattle.barycentre.specs.Limits.{AreWithinUpTo}
use Rattle.barycentre.proofs.Normal.{none_before, one_vertex_more, all_within}
use Rattle.barycentre.proofs.short.are_stars_balanced.Goals as goal

pub loop-u-init : goal.loop-u-init
loop-u-init g c =
    let rd = c.ranges.d0 in
    simp to_z-of_z (record {
      within = none_before (placement_of c.args.d0 c.args.at.now) c.args.g.now c.vertices-u-end.ensures.is_graph;
      balanced = λ j l. absurd (omega (arith, l));
    })

pub loop-u-preserved : goal.loop-u-preserved
loop-u-preserved g c =
    let rd = c.ranges.d0 in let G = c.args.g.now in let P = placement_of c.args.d0 c.args.at.now in
    let u = c.loop-u.u in let within : AreWithinUpTo G P u = simp to_z-of_z at c.loop-u.invariant.within in
    let before : (j : ℕ) → j < u → vector_sum (map (arc_vector P) (arcs_from G (j + 1))) ≡ zero_vector = simp to_z-of_z at c.loop-u.invariant.balanced in
    let here = simp to_z-of_z at (c.if-not-is_balanced.ensures.within refl) in
    let balanced : vector_sum (map (arc_vector P) (arcs_from G (u + 1))) ≡ zero_vector = simp to_z-of_z at (c.if-not-is_balanced.ensures.balanced refl) in
    simp to_z-of_z (record {
      within = one_vertex_more P G u within here;
      balanced = below_more _ _ before balanced;
    })

pub returns-clause-within : goal.returns-clause-within
returns-clause-within g c t =
    let rd = c.ranges.d0 in let G = c.args.g.now in let P = placement_of c.args.d0 c.args.at.now in
    let before : AreWithinUpTo G P c.loop-u.u = simp to_z-of_z at c.loop-u.invariant.within in
    let count = c.vertices-u-end.ensures.count in
    all_within P G c.vertices-u-end.ensures.is_graph c.requires.reach.denominator c.loop-u.u (let l = c.loop-u-test.false in omega (arith, l, count)) before

pub returns-clause-balanced : goal.returns-clause-balanced
returns-clause-balanced g c t =
    let rd = c.ranges.d0 in let G = c.args.g.now in let P = placement_of c.args.d0 c.args.at.now in
    let before : (j : ℕ) → j < c.loop-u.u → vector_sum (map (arc_vector P) (arcs_from G (j + 1))) ≡ zero_vector =
    simp to_z-of_z at c.loop-u.invariant.balanced in
    let count = c.vertices-u-end.ensures.count in let end = c.loop-u-test.false in
    λ u q. from_one (λ v. vector_sum (map (arc_vector P) (arcs_from G v)) ≡ zero_vector) u q.0
    (before (u - 1) (let a = q.0 in let b = q.1 in omega (arith, a, b, count, end)))
