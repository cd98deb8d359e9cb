use Rattle.std.proofs.Common.{◌≡◌, take}
use Rattle.archive_text.specs.{Entries.entry_views, Texts.text_of, declared.version.Version.TheVariants.Two}
use Rattle.net_archive.proofs.migrating.rows_in_two.Given as goal

abbrev pub invariant-loop-entry : goal.invariant-loop-entry
invariant-loop-entry l = l.text.items ≡ text_of Two (entry_views (take l.entry-index l.entries))
