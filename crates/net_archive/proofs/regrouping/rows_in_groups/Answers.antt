use Rattle.std.proofs.Common.{List, sym, subst, Bor}
use Rattle.std.{proofs.lemmas.List.Sorted.All-permutation, specs.List.All}
use Rattle.archive_text.specs.{Entries.entry_view, Entries.entry_views, declared.entry.Entry.Entry, Regrouped.regrouped}
use Rattle.net_archive.{specs.Archives.IsEntry, proofs.IsoGroups.all_lent, proofs.IsoGroups.all_seen}
use Rattle.archive_text.proofs.CallerLemmas.{is_regrouped}
use Rattle.net_archive.proofs.regrouping.rows_in_groups.Goals as goal

pub rows_of_all-requires : goal.rows_of_all-requires
rows_of_all-requires c =
    let entries = c.args.entries.now in let views = entry_views entries in
    let regrouped_good = All-permutation IsEntry views (regrouped views) (is_regrouped views).same_entries (all_seen entries c.requires) in
    subst (λ (lent : List (Bor Entry)). All (λ (e : Bor Entry). IsEntry (entry_view e.now)) lent) (sym c.deref.ensures.value)
    (all_lent c.in_ok-lent.lent.items (subst (All IsEntry) (sym c.in_ok-lent.ensures) regrouped_good))
