-- Of `raise_all`: the loop over `edge`; what `part` and `raise` require.
use Rattle.std.proofs.Common.{◌≡◌, ◌≤◌, ◌-◌, ◌∙◌, ℕ, ap, arith, length, subst, sym}
use Rattle.std.proofs.lemmas.Int.{ints}
use Rattle.periodic_net.specs.Graph.{Arc}
use Rattle.coordination.specs.Extents.{IsCellWithin}
use Rattle.coordination.proofs.Boxes.{farther_turn}
use Rattle.coordination.proofs.far.raise_all.Goals as goal

pub loop-edge-preserved : goal.loop-edge-preserved
loop-edge-preserved g c =
    let small = c.requires.far (c.edge.inside.v - 1) in let small' = c.requires.far (c.edge.inside.u - 1) in
    farther_turn c.args.axis c.loop-edge.edge-index c.args.edges.now c.args.far.now c.args.next.now c.loop-edge.next c.raise.new.far
    c.raise-in-loop-edge.new.far c.edge-item.result c.edge.inside.u c.edge.inside.v
    c.edge.inside.shift c.to_triple.result c.part-part.result _ _ c.loop-edge.invariant c.loop-edge-test.true c.edge-item.is c.edge.view_is
    c.to_triple.ensures.value c.part-part.ensures.value
    c.part-part.ensures.bound c.raise.ensures (omega (arith, ints, small, c.from.ensures, c.part-part.ensures.bound)) c.raise-in-loop-edge.ensures
    (omega (arith, ints, small', c.from-in-loop-edge.ensures, c.part-part.ensures.bound))

pub part-part-requires : goal.part-part-requires
part-part-requires g c =
    let at = subst (λ (e : Arc). IsCellWithin c.args.longest e.shift) (sym c.edge-item.is)
    (c.requires.shifts c.loop-edge.edge-index c.edge-item.result c.loop-edge-test.true) in
    record {
      within = subst (IsCellWithin c.args.longest) (sym (c.to_triple.ensures.value ∙ ap (λ (e : Arc). e.shift) c.edge.view_is)) at;
      narrow = c.requires.narrow;
    }

-- an edge leads between n vertices
abbrev IsBetween : ℕ → Arc → Type 0
IsBetween n e = (1 ≤ e.from) × (e.from ≤ n) × (1 ≤ e.to) × (e.to ≤ n)

pub raise-requires : goal.raise-requires
raise-requires g c =
    let ends = subst (IsBetween (length c.args.far.now)) (sym c.edge-item.is)
    (c.requires.places c.loop-edge.edge-index c.edge-item.result c.loop-edge-test.true) in
    let u : c.edge.inside.u ≡ c.edge-item.result.from = ap (λ (e : Arc). e.from) c.edge.view_is in
    let small = c.requires.far (c.edge.inside.v - 1) in
    record {
      place = (omega (arith, u, ends.0), omega (arith, u, ends.1, c.loop-edge.auto.next, c.requires.count));
      least = omega (arith, ints, small, c.from.ensures, c.part-part.ensures.bound);
    }

pub raise-requires-in-loop-edge : goal.raise-requires-in-loop-edge
raise-requires-in-loop-edge g c =
    let ends = subst (IsBetween (length c.args.far.now)) (sym c.edge-item.is)
    (c.requires.places c.loop-edge.edge-index c.edge-item.result c.loop-edge-test.true) in
    let v : c.edge.inside.v ≡ c.edge-item.result.to = ap (λ (e : Arc). e.to) c.edge.view_is in
    let small = c.requires.far (c.edge.inside.u - 1) in
    record {
      place = (omega (arith, v, ends.2), omega (arith, v, ends.3, c.raise.ensures.count, c.loop-edge.auto.next, c.requires.count));
      least = omega (arith, ints, small, c.from-in-loop-edge.ensures, c.part-part.ensures.bound);
    }
