use Rattle.std.proofs.Common.{◌≡◌, ◌-◌, ◌≤◌, pos, length, arith, ap, sym}
use Rattle.std.proofs.lemmas.Int.{to_z-of_z}
use Rattle.periodic_net.specs.Graph.{Arc}
use Rattle.elimination.proofs.ArcSums.{count_more, counts_fit}
use Rattle.elimination.proofs.counts.count_arcs.Goals as goal

pub loop-arc-preserved : goal.loop-arc-preserved
loop-arc-preserved g c =
    let arcs = c.args.arcs.now in let counts = c.loop-arc.counts in let n = length c.args.counts.now in
    let t = c.loop-arc.arc-index in let a = c.arc-item.result in let below = c.loop-arc-test.true in
    let to : c.arc.inside.to ≡ a.to = ap (λ (b : Arc). b.to) c.arc.view_is in
    let bounds : (1 ≤ a.to) × (a.to ≤ n) = rw c.arc-item.is (c.requires.heads t a below) in
    let fits = counts_fit arcs counts t n (a.to - 1) c.requires.few c.loop-arc.invariant (omega (arith, bounds.0, bounds.1)) in
    let f = fits.0 in let s = fits.1 in
    rw to (simp to_z-of_z (count_more arcs counts t n a (pos 0) below (sym c.arc-item.is) bounds.0 bounds.1 c.loop-arc.invariant))
