use Rattle.std.proofs.Common.{length}
use Rattle.coordination.proofs.BoxSearch.{AreLeft}
use Rattle.coordination.proofs.marks.unmark.Given as goal

abbrev pub invariant-loop-spot : goal.invariant-loop-spot
invariant-loop-spot l = AreLeft l.marks l.spot-items l.spot-index (length l.initial.marks)
