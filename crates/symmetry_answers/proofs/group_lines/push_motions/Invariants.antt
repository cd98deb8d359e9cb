use Rattle.std.proofs.Common.{◌≡◌, ◌++◌, drop}
use Rattle.symmetry_answers.specs.GroupTexts.{motions_text}
use Rattle.symmetry_answers.proofs.group_lines.push_motions.Given as goal

abbrev pub invariant-loop-motion : goal.invariant-loop-motion
invariant-loop-motion l = l.text.items ++ motions_text l.dim (drop l.motion-index l.motions) ≡ l.initial.text.items ++ motions_text l.dim l.motions
