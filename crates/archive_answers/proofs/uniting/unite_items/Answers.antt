-- Of `unite_items`: what `outcomes_of` and `unite_entries` require; what it ensures. `told` and `few` are what they share.
use Rattle.std.proofs.Common.{◌≤◌, List, length, subst}
use Rattle.keyline_import.specs.Items.{items_of, most_items}
use Rattle.archive_text.specs.Entries.{entry_views}
use Rattle.net_report.specs.declared.outcome.Outcome.{Outcome}
use Rattle.archive_answers.specs.{ArchiveBytes.IsArchiveOrText, ArchiveBytes.bytes_in, ItemEntries.AreEntriesTold}
use Rattle.archive_answers.proofs.ItemEntries.{entries_of_items, few_entries, few_read}
use Rattle.archive_answers.proofs.Unions.{of_items}
use Rattle.archive_answers.proofs.uniting.unite_items.Goals.{In_ok-entries}
use Rattle.archive_answers.proofs.uniting.unite_items.Goals as goal

-- the entries are those of the outcomes
told : (c : In_ok-entries) → AreEntriesTold c.in_ok-keyed.keyed.outcomes (entry_views c.in_ok-entries.entries.items)
told c = subst (λ (os : List Outcome). AreEntriesTold os (entry_views c.in_ok-entries.entries.items)) c.as_slice.ensures c.in_ok-entries.ensures.told

-- and they are few
few : (c : In_ok-entries) → length c.in_ok-entries.entries.items ≤ most_items
few c =
    let items = items_of c.args.file.now in
    few_entries items c.in_ok-keyed.keyed.outcomes c.in_ok-entries.entries.items (c.in_ok-keyed.ensures.outcomes items c.in_ok-found.ensures.items) (told c)
    c.in_ok-found.ensures.few

pub outcomes_of-requires : goal.outcomes_of-requires
outcomes_of-requires c = few_read (items_of c.args.file.now) c.in_ok-found.found.items c.in_ok-found.ensures.items c.in_ok-found.ensures.few

pub unite_entries-requires : goal.unite_entries-requires
unite_entries-requires c = record { each = c.in_ok-entries.ensures.each; few = few (goal.at.unite_entries-requires c).In_ok-entries }

pub returns : goal.returns
returns c =
    let items = items_of c.args.file.now in let at = (goal.at.returns c).In_ok-entries in
    let answer = c.in_ok-unite_entries.field-0 in let es = entry_views c.in_ok-entries.entries.items in
    record {
      due = of_items c.args.file.now (bytes_in c.args.archive) c.in-Ok.archive es answer.status answer.text.items c.in_ok-found.ensures.few
          (subst (IsArchiveOrText c.args.archive) c.in-Ok.is c.in_ok-archive.ensures)
          (entries_of_items 1 items c.in_ok-keyed.keyed.outcomes es (c.in_ok-keyed.ensures.outcomes items c.in_ok-found.ensures.items) (told at))
          c.in_ok-unite_entries.ensures;
      many = λ e. cc;
    }
