use Rattle.std.proofs.Common.{◌≡◌, ◌+◌, ◌≤◌, length}
use Rattle.cgd_lex.specs.Limits.{longest_text}
use Rattle.keyline_import.specs.{Keys.space_rows, Views.key_view}
use Rattle.keyline_import.proofs.keyed.add_space_rows.Given as goal

abbrev pub invariant-loop-left : goal.invariant-loop-left
invariant-loop-left l = record {
  rows : space_rows (key_view l.key) l.left ≡ space_rows (key_view l.fn.key) l.fn.numbers;
  room : l.key.repeats + length l.left ≤ longest_text;
}

abbrev pub decreases-loop-left : goal.decreases-loop-left
decreases-loop-left l = length l.left
