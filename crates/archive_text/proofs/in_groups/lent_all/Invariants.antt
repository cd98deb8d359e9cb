use Rattle.std.proofs.Common.{◌≡◌, map, take, length}
use Rattle.archive_text.specs.Entries.{entry_view, entry_views}
use Rattle.archive_text.proofs.in_groups.lent_all.Given as goal

abbrev pub invariant-loop-entry : goal.invariant-loop-entry
invariant-loop-entry l = record {
  views : map (λ e. entry_view e.now) l.lent.items ≡ entry_views (take l.entry-index l.entries);
  count : length l.lent.items ≡ l.entry-index;
}
