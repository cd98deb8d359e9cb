use Rattle.std.proofs.Common.{◌≡◌, ◌++◌, pos, map, drop}
use Rattle.line_text.specs.Numbers.{numbers_text}
use Rattle.archive_text.proofs.write.push_sizes.Given as goal

abbrev pub invariant-loop-size : goal.invariant-loop-size
invariant-loop-size l = l.text.items ++ numbers_text (map pos (drop l.size-index l.sizes)) ≡ l.initial.text.items ++ numbers_text (map pos l.sizes)
