use Rattle.std.proofs.Common.{◌≡◌, ◌++◌, drop}
use Rattle.line_text.specs.Numbers.{numbers_text}
use Rattle.net_report.proofs.numbers.push_numbers_after.Given as goal

abbrev pub invariant-loop-x : goal.invariant-loop-x
invariant-loop-x l = l.text.items ++ numbers_text (drop l.x-index l.numbers) ≡ l.initial.text.items ++ numbers_text l.numbers
