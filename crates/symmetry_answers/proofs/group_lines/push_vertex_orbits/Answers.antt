use Rattle.std.proofs.Common.{◌+◌, ◌∷◌, ap, drop, sym}
use Rattle.net_report.proofs.Growing.{line_more}
use Rattle.symmetry_answers.specs.GroupTexts.{vertex_orbit_text, vertex_orbits_text}
use Rattle.symmetry_answers.proofs.group_lines.push_vertex_orbits.Goals as goal

pub loop-orbit-preserved : goal.loop-orbit-preserved
loop-orbit-preserved c =
    let xs = c.args.orbits.now in let i = c.loop-orbit.orbit-index in let x = c.orbit-item.result in
    let rest = drop (i + 1) xs in
    line_more vertex_orbits_text (vertex_orbit_text x) (vertex_orbits_text rest) xs i x c.loop-orbit.text.items
    c.push_vertex_orbit.new.text.items _ c.loop-orbit-test.true c.in_ok-push_vertex_orbit.ensures
    (ap (λ e. vertex_orbits_text (e ∷ rest)) (sym c.orbit-item.is)) c.loop-orbit.invariant
