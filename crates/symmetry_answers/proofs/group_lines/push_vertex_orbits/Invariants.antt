use Rattle.std.proofs.Common.{◌≡◌, ◌++◌, drop}
use Rattle.symmetry_answers.specs.GroupTexts.{vertex_orbits_text}
use Rattle.symmetry_answers.proofs.group_lines.push_vertex_orbits.Given as goal

abbrev pub invariant-loop-orbit : goal.invariant-loop-orbit
invariant-loop-orbit l = l.text.items ++ vertex_orbits_text (drop l.orbit-index l.orbits) ≡ l.initial.text.items ++ vertex_orbits_text l.orbits
