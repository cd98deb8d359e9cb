use Rattle.std.proofs.Common.{◌≡◌, length}
use Rattle.archive_text.specs.Reading.{AreShellsTo}
use Rattle.archive_text.proofs.shell_lists.read_lists.Given as goal

abbrev pub invariant-loop-done : goal.invariant-loop-done
invariant-loop-done l = AreShellsTo l.initial.lines l.lines l.lists × (length l.lists ≡ l.done)
