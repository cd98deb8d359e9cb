-- Of `later_counts`: the loop over `arc`; what it ensures.
use Rattle.std.proofs.Common.{rules, ◌≡◌, ◌+◌, ◌-◌, ◌≤◌, ◌<◌, FitsSigned, pos, get_or, length, arith, ap, sym, subst, ◌∙◌}
use Rattle.std.{proofs.lemmas.Int.to_z-of_z, proofs.lemmas.List.get_or_default, specs.Int.w32}
use Rattle.exact.specs.Ratio.{Same, whole}
use Rattle.periodic_net.specs.Graph.{Arc}
use Rattle.elimination.proofs.ArcSums.{AreSoFar, so_far_none, so_far_passed, so_far_set, so_far_all}
use Rattle.elimination.proofs.lines.later_counts.Goals.{then-to-u, else-to-u}
use Rattle.elimination.proofs.lines.later_counts.Goals as goal

pub loop-arc-init : goal.loop-arc-init
loop-arc-init g c =
    let n = g.N.Exact in
    so_far_none n.modulus n.value c.args.arcs.now c.args.counts.now c.args.u c.in_ok-weights.weights.items c.in_ok-weights.ensures.count
    c.in_ok-weights.ensures.zero

pub loop-arc-preserved : goal.loop-arc-preserved
loop-arc-preserved g c =
    let n = g.N.Exact in let arcs = c.args.arcs.now in let counts = c.args.counts.now in let u = c.args.u in
    let t = c.loop-arc.arc-index in let a = c.arc-item.result in let below = c.loop-arc-test.true in
    let to : c.arc.inside.to ≡ a.to = ap (λ (b : Arc). b.to) c.arc.view_is in
    let bounds : (1 ≤ a.to) × (a.to ≤ length counts) = rw c.arc-item.is (c.requires.heads t a below) in
    elim c.if-to-u.branch [
      | then-to-u w ↦
          let to_index = c.arc.inside.to in let z = get_or counts (to_index - 1) (pos 0) in
          let f : FitsSigned w32 z = search rules in
          let at : to_index - u - 1 ≡ a.to - (u + 1) = omega (arith, to) in let x = w.from_small.result in
          let in_counts : to_index - 1 < length counts = omega (arith, to, bounds.0, bounds.1) in
          rw (w.weights-is, at) (so_far_set n.modulus n.value arcs counts u c.loop-arc.weights.items t c.loop-arc.invariant a below (sym c.arc-item.is)
          (omega (arith, to, w.if-to-u.true)) bounds.1 x
          (λ e. subst (λ q. Same n.modulus (n.value x) (whole q)) (to_z-of_z w32 z f ∙ get_or_default counts (to_index - 1) (pos 0) e in_counts
          ∙ ap (λ p. get_or counts (p - 1) e) to) w.from_small.ensures))
      | else-to-u w ↦ rw w.weights-is (so_far_passed n.modulus n.value arcs counts u c.loop-arc.weights.items t c.loop-arc.invariant a below
          (sym c.arc-item.is) (omega (arith, to, w.if-to-u.false)))
    ]

pub returns : goal.returns
returns g c =
    let n = g.N.Exact in let arcs = c.args.arcs.now in
    let done : c.loop-arc.arc-index ≡ length arcs = omega (arith, c.loop-arc.auto.arc-index-end, c.loop-arc-test.false) in
    so_far_all n.modulus n.value arcs c.args.counts.now c.args.u c.loop-arc.weights.items c.requires.counts
    (subst (AreSoFar n.modulus n.value arcs c.args.counts.now c.args.u c.loop-arc.weights.items) done c.loop-arc.invariant)
