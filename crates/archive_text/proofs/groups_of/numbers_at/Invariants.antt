use Rattle.std.proofs.Common.{◌≡◌, ◌++◌, length}
use Rattle.archive_text.specs.{Entries.entry_views, Groups.numbers_at}
use Rattle.archive_text.proofs.groups_of.numbers_at.Given as goal

abbrev pub invariant-loop-left : goal.invariant-loop-left
invariant-loop-left l = numbers_at (entry_views l.entries) l.key l.places ≡ l.numbers.items ++ numbers_at (entry_views l.entries) l.key l.left

abbrev pub decreases-loop-left : goal.decreases-loop-left
decreases-loop-left l = length l.left
