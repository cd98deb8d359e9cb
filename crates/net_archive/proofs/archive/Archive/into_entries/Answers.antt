use Rattle.std.{proofs.Common.List, proofs.Common.sym, proofs.Common.subst, specs.List.All}
use Rattle.archive_text.specs.Entries.{EntryView}
use Rattle.net_archive.{specs.Archives.IsEntry, proofs.NewEntry.all_in_memory}
use Rattle.net_archive.proofs.archive.Archive.into_entries.Goals as goal

pub returns-clause-each : goal.returns-clause-each
returns-clause-each c =
    all_in_memory c.into_vec.result.items (subst (λ (es : List EntryView). All IsEntry es) (sym c.into_vec.ensures) c.self.invariant.is_archive.each)
