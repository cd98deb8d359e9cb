use Rattle.std.proofs.Common.{◌≡◌, map, take}
use Rattle.archive_text.specs.{Entries.entry_view, Fingerprints.key_print}
use Rattle.archive_text.proofs.in_groups.key_index.Given as goal

abbrev pub invariant-loop-entry : goal.invariant-loop-entry
invariant-loop-entry l = l.keys ≡ map (λ e. key_print (entry_view e.now).key) (take l.entry-index l.entries)
