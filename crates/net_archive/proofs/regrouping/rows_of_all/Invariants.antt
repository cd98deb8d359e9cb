use Rattle.std.proofs.Common.{◌≡◌, map, take}
use Rattle.line_text.specs.Lines.{rows_text}
use Rattle.archive_text.specs.Texts.{entry_lines}
use Rattle.net_archive.proofs.IsoGroups.{lent_view}
use Rattle.net_archive.proofs.regrouping.rows_of_all.Given as goal

abbrev pub invariant-loop-entry : goal.invariant-loop-entry
invariant-loop-entry l = l.rows.items ≡ rows_text (entry_lines l.version (map lent_view (take l.entry-index l.entries)))
