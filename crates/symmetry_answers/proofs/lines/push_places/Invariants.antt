use Rattle.std.proofs.Common.{◌≡◌, ◌++◌}
use Rattle.symmetry_answers.specs.Texts.{places_text}
use Rattle.symmetry_answers.proofs.lines.push_places.Given as goal

abbrev pub invariant-loop-i : goal.invariant-loop-i
invariant-loop-i g l = l.text.items ≡ l.initial.text.items ++ places_text l.placed l.i
