use Rattle.std.proofs.Common.{◌≡◌, pos, take, map}
use Rattle.archive_answers.proofs.reading.wide_sizes.Given as goal

abbrev pub invariant-loop-size : goal.invariant-loop-size
invariant-loop-size l = l.numbers.items ≡ map pos (take l.size-index l.sizes)
