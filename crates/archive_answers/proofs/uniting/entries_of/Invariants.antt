use Rattle.std.{proofs.Common.take, specs.List.All}
use Rattle.net_archive.specs.Archives.{IsEntry}
use Rattle.archive_text.specs.{Entries.entry_view, Entries.entry_views, declared.entry.Entry.Entry}
use Rattle.archive_answers.specs.ItemEntries.{AreEntriesTold}
use Rattle.archive_answers.proofs.uniting.entries_of.Given as goal

abbrev pub invariant-loop-i : goal.invariant-loop-i
invariant-loop-i l = record {
  told : AreEntriesTold (take l.i l.outcomes) (entry_views l.entries.items);
  each : All (λ (e : Entry). IsEntry (entry_view e)) l.entries.items;
}
