use Rattle.archive_text.{specs.Groups.numbers_in, proofs.KeyNumbers.AreGroupsTo}
use Rattle.archive_text.proofs.all.Entries.duplicates.Given as goal

abbrev pub invariant-loop-place : goal.invariant-loop-place
invariant-loop-place l = AreGroupsTo l.self l.place (numbers_in l.groups.items)
