use Rattle.std.proofs.Common.{◌≡◌, map, take}
use Rattle.archive_text.specs.{Entries.entry_view, Fingerprints.name_print}
use Rattle.archive_text.proofs.in_groups.name_index.Given as goal

abbrev pub invariant-loop-entry : goal.invariant-loop-entry
invariant-loop-entry l = l.names ≡ map (λ e. name_print (entry_view e.now).name) (take l.entry-index l.entries)
