use Rattle.std.proofs.Common.{◌≡◌, ◌++◌, drop}
use Rattle.symmetry_answers.specs.GroupTexts.{edge_orbits_text}
use Rattle.symmetry_answers.proofs.group_lines.push_edge_orbits.Given as goal

abbrev pub invariant-loop-orbit : goal.invariant-loop-orbit
invariant-loop-orbit g l = l.text.items ++ edge_orbits_text l.dim (drop l.orbit-index l.orbits) ≡ l.initial.text.items ++ edge_orbits_text l.dim l.orbits
