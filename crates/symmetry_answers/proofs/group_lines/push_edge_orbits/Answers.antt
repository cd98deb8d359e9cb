use Rattle.std.proofs.Common.{◌+◌, ◌∷◌, ap, drop, sym}
use Rattle.net_report.proofs.Growing.{line_more}
use Rattle.symmetry_answers.specs.GroupTexts.{edge_orbit_text, edge_orbits_text}
use Rattle.symmetry_answers.proofs.group_lines.push_edge_orbits.Goals as goal

pub loop-orbit-preserved : goal.loop-orbit-preserved
loop-orbit-preserved g c =
    let xs = c.args.orbits.now in let i = c.loop-orbit.orbit-index in let x = c.orbit-item.result in
    let rest = drop (i + 1) xs in
    line_more (edge_orbits_text c.args.dim) (edge_orbit_text c.args.dim x) (edge_orbits_text c.args.dim rest) xs i x c.loop-orbit.text.items
    c.push_edge_orbit.new.text.items _ c.loop-orbit-test.true c.in_ok-push_edge_orbit.ensures
    (ap (λ e. edge_orbits_text c.args.dim (e ∷ rest)) (sym c.orbit-item.is)) c.loop-orbit.invariant
