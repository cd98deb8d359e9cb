use Rattle.std.{proofs.Common.List, proofs.Common.subst, proofs.Common.sym, specs.List.All}
use Rattle.archive_text.specs.Entries.{EntryView}
use Rattle.net_archive.{specs.Archives.IsEntry, proofs.NewEntry.all_in_memory}
use Rattle.net_archive.proofs.archive.Archive.migrated.Goals as goal

pub newest_text-requires : goal.newest_text-requires
newest_text-requires c =
    all_in_memory c.entries.result.now (subst (λ (es : List EntryView). All IsEntry es) (sym c.entries.ensures.entries) c.entries.ensures.archive.each)
