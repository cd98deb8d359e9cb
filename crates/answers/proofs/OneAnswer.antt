-- What is due to a task is one, and it is there if no net has to be computed.
use Rattle.std.proofs.Common.{◌≡◌, ℕ, ◌<◌, ◌≤◌, Bool, true, false, List, [], length, Option, true≢false, refl, sym, ap, ◌∙◌, arith, ◌⊎◌, inl, inr}
use Rattle.std.proofs.lemmas.Bool.{cases_lt}
use Rattle.cgd_read.specs.{Views.BlockView, Blocks.blocks_of, Blocks.most_blocks}
use Rattle.archive_text.specs.Entries.{EntryView}
use Rattle.net_archive.specs.{Archives.ArchiveView, Archives.archive_text, Migrating.newest}
use Rattle.archive_answers.specs.ArchiveTexts.{add_fault_text, groups_text, migrate_fault_text}
use Rattle.archive_answers.specs.ArchiveBytes.{IsArchiveIn, IsBadArchive, most_bytes}
use Rattle.command_words.specs.Tasks.{Task, Check, Place, Key, Identify, Components, Symmetry, Add, Duplicates, Migrate, Union, Same, Verify, Workload, Cover}
use Rattle.net_report.specs.declared.status.Status.TheVariants.{Done, SomeRefused, BadArchive, TooManyBlocks, AddRefused, MigrateRefused}
use Rattle.net_report.specs.{declared.command.Command.Command, declared.status.Status.Status}
use Rattle.block_answers.proofs.CallerLemmas.{all_alike, one_report, one_telling}
use Rattle.answers.specs.Due.{AreGroupsAs, HasTooMany, IsAddedAs, IsAddedOrRefused, IsDueFor, IsDueOn, IsDueToBlocks, IsDueWith, IsMigratedAs}
use Rattle.answers.specs.Due.{IsNotAddedAs, IsReportAs, bytes_of}
use Rattle.answers.specs.Summaries.{IsSummary, IsSummaryAs, summary_text}
use Rattle.answers.specs.Laws.{OneDueAnswer, SomeAnswerIsDue}
use Rattle.archive_answers.proofs.CallerLemmas.{not_bad, one_archive_in, one_bad, many_items, one_union_due}
use Rattle.cover_answers.proofs.CallerLemmas.{one_covering}
use Rattle.map_answers.proofs.CallerLemmas.{one_verification, one_sameness}
use Rattle.symmetry_answers.proofs.CallerLemmas.{one_symmetry}
use Rattle.answers.proofs.Additions.{accepted_or_reported, all_or_one, entries_accepted, one_longer, one_not_added}
use Rattle.answers.proofs.Summaries.{as_many_accepted, as_many_keys, one_list_of_groups}
use Rattle.net_report.specs.declared.command.Command.TheVariants as asks

-- one status and one text
abbrev AreOne : Status → Status → List ℕ → List ℕ → Type 0
AreOne s t x y = (s ≡ t) × (x ≡ y)

-- a report
one_report_as : (command : Command) (entries : List EntryView) (blocks : List BlockView) (s t : Status) (x y : List ℕ) → IsReportAs command entries blocks s x
    → IsReportAs command entries blocks t y → AreOne s t x y
one_report_as command entries blocks s t x y l p = grind (arith, one_report)

-- a summary
one_summary : (made : ℕ) (blocks : List BlockView) (b c : Bool) (x y : List ℕ) → IsSummary made blocks b x → IsSummary made blocks c y → (b ≡ c) × (x ≡ y)
one_summary made blocks b c x y h k =
    let r = one_telling [] asks.Key 1 blocks h.outcomes k.outcomes h.are_outcomes.each k.are_outcomes.each in
    let accepted = as_many_accepted h.outcomes k.outcomes r.accepted in
    let keys = as_many_keys h.outcomes k.outcomes h.summary.keys k.summary.keys r.keys h.summary.different k.summary.different in
    (h.all ∙ all_alike h.outcomes k.outcomes r ∙ sym k.all, h.summary.text_is ∙ (λ i. summary_text made (accepted i) (keys i)) ∙ sym k.summary.text_is)

one_summary_as : (made : ℕ) (blocks : List BlockView) (s t : Status) (x y : List ℕ) → IsSummaryAs made blocks s x → IsSummaryAs made blocks t y → AreOne s t x y
one_summary_as made blocks Done Done x y h k = (refl, (one_summary made blocks true true x y h k).1)
one_summary_as made blocks Done SomeRefused x y h k = absurd (true≢false (one_summary made blocks true false x y h k).0)
one_summary_as made blocks SomeRefused Done x y h k = absurd (true≢false (sym (one_summary made blocks false true x y h k).0))
one_summary_as made blocks SomeRefused SomeRefused x y h k = (refl, (one_summary made blocks false false x y h k).1)
one_summary_as made blocks Done t x y h k = absurd k
one_summary_as made blocks SomeRefused t x y h k = absurd k
one_summary_as made blocks s t x y h k = absurd h

-- the groups
one_groups : (a : ArchiveView) (s t : Status) (x y : List ℕ) → AreGroupsAs a s x → AreGroupsAs a t y → AreOne s t x y
one_groups a Done Done x y h k = (
  refl,
  h.text_is ∙ ap (groups_text a.entries) (one_list_of_groups a.entries h.groups k.groups h.are_groups k.are_groups)
      ∙ sym k.text_is,
)
one_groups a Done t x y h k = absurd k
one_groups a s t x y h k = absurd h

-- the newest format
one_migration : (a : ArchiveView) (s t : Status) (x y : List ℕ) → IsMigratedAs a s x → IsMigratedAs a t y → AreOne s t x y
one_migration a s t x y p q = grind arith

module _ (given : Option (List ℕ)) (blocks : List BlockView) (a : ArchiveView) where
  -- if all are added, none is refused
  not_refused : (x y : List ℕ) → IsAddedAs given blocks a x → ¬ IsNotAddedAs given blocks a y
  not_refused x y h k = k.told (all_or_one given blocks a h.longer k.number k.fault h.added k.not_added)

  one_refused : (x y : List ℕ) → IsNotAddedAs given blocks a x → IsNotAddedAs given blocks a y → x ≡ y
  one_refused x y h k =
      let r = one_not_added given blocks a h.number k.number h.fault k.fault h.not_added k.not_added h.told k.told in
      h.text_is ∙ (λ i. add_fault_text (r.0 i) (r.1 i)) ∙ sym k.text_is

  one_added : (x y : List ℕ) → IsAddedAs given blocks a x → IsAddedAs given blocks a y → x ≡ y
  one_added x y h k = h.text_is ∙ ap archive_text (one_longer given blocks a h.longer k.longer h.added k.added) ∙ sym k.text_is

  -- what becomes of an addition
  one_addition : (s t : Status) (x y : List ℕ) → IsAddedOrRefused given blocks a s x → IsAddedOrRefused given blocks a t y → AreOne s t x y
  one_addition Done Done x y h k = (refl, one_added x y h k)
  one_addition Done SomeRefused x y h k = absurd (accepted_or_reported blocks y (entries_accepted given blocks h.added.more h.added.are_entries) k)
  one_addition Done AddRefused x y h k = absurd (not_refused x y h k)
  one_addition SomeRefused Done x y h k = absurd (accepted_or_reported blocks x (entries_accepted given blocks k.added.more k.added.are_entries) h)
  one_addition SomeRefused SomeRefused x y h k = (refl, (one_report asks.Key [] blocks false false x y h k).1)
  one_addition SomeRefused AddRefused x y h k = absurd (accepted_or_reported blocks x k.accepted h)
  one_addition AddRefused Done x y h k = absurd (not_refused y x k h)
  one_addition AddRefused SomeRefused x y h k = absurd (accepted_or_reported blocks y h.accepted k)
  one_addition AddRefused AddRefused x y h k = (refl, one_refused x y h k)
  one_addition Done t x y h k = absurd k
  one_addition SomeRefused t x y h k = absurd k
  one_addition AddRefused t x y h k = absurd k
  one_addition s t x y h k = absurd h

-- what is due to a task, of blocks and of an archive
one_due_for : (task : Task) (blocks : List BlockView) (a : ArchiveView) (s t : Status) (x y : List ℕ) → IsDueFor task blocks a s x → IsDueFor task blocks a t y
    → AreOne s t x y
one_due_for (Check file) blocks a s t x y h k = one_report_as asks.Check a.entries blocks s t x y h k
one_due_for (Place file) blocks a s t x y h k = one_report_as asks.Place a.entries blocks s t x y h k
one_due_for (Key file) blocks a s t x y h k = one_report_as asks.Key a.entries blocks s t x y h k
one_due_for (Identify file name) blocks a s t x y h k = one_report_as asks.Identify a.entries blocks s t x y h k
one_due_for (Components file) blocks a s t x y h k = one_report_as asks.Components a.entries blocks s t x y h k
one_due_for (Symmetry file) blocks a s t x y h k = one_symmetry blocks s t x y h k
one_due_for (Add file name given) blocks a s t x y h k = one_addition given blocks a s t x y h k
one_due_for (Duplicates name) blocks a s t x y h k = one_groups a s t x y h k
one_due_for (Migrate name) blocks a s t x y h k = one_migration a s t x y h k
one_due_for (Cover file cell) blocks a s t x y h k = one_covering cell blocks s t x y h k
one_due_for (Same file) blocks a s t x y h k = one_sameness blocks s t x y h k
one_due_for (Union file name) blocks a s t x y h k = absurd h
one_due_for (Verify file) blocks a s t x y h k = absurd h
one_due_for (Workload count) blocks a s t x y h k = one_summary_as count blocks s t x y h k

-- an answer of an archive that is read, or of one that has a fault
data WayOf (task : Task) (bytes : List ℕ) (archive : Option (List ℕ)) (s : Status) (x : List ℕ) : Type 0 where
  Read : (a : ArchiveView) → IsArchiveIn archive a → IsDueFor task (blocks_of bytes) a s x → WayOf task bytes archive s x
  Faulty : s ≡ BadArchive → IsBadArchive archive x → WayOf task bytes archive s x

way_of : (task : Task) (bytes : List ℕ) (archive : Option (List ℕ)) (s : Status) (x : List ℕ) → IsDueToBlocks task bytes archive s x
    → WayOf task bytes archive s x
way_of task bytes archive BadArchive x h = Faulty refl h.1
way_of task bytes archive s x h = Read h.1 h.2 h.3

one_way : (task : Task) (bytes : List ℕ) (archive : Option (List ℕ)) (s t : Status) (x y : List ℕ) → WayOf task bytes archive s x
    → WayOf task bytes archive t y → AreOne s t x y
one_way task bytes archive s t x y l p = search (arith, one_due_for, one_archive_in, not_bad, one_bad)

-- blocks are no more than there may be
few_blocks : (task : Task) (bytes : List ℕ) (archive : Option (List ℕ)) (s : Status) (x : List ℕ) → IsDueToBlocks task bytes archive s x
    → length (blocks_of bytes) ≤ most_blocks
few_blocks task bytes archive s x k = search arith

-- what is due to the blocks of these bytes is one
one_of_blocks : (task : Task) (bytes : List ℕ) (archive : Option (List ℕ)) (s t : Status) (x y : List ℕ) → IsDueToBlocks task bytes archive s x
    → IsDueToBlocks task bytes archive t y → AreOne s t x y
one_of_blocks task bytes archive s t x y h k = one_way task bytes archive s t x y (way_of task bytes archive s x h) (way_of task bytes archive t y k)

one_with : (task : Task) (bytes : List ℕ) (archive : Option (List ℕ)) (s t : Status) (x y : List ℕ) → IsDueWith task bytes archive s x
    → IsDueWith task bytes archive t y → AreOne s t x y
one_with (Union file name) bytes archive s t x y h k = one_union_due bytes archive s t x y h k
one_with (Verify file) bytes archive s t x y h k = one_verification bytes s t x y h k
one_with task bytes archive s t x y h k = one_of_blocks task bytes archive s t x y h k

-- if there are too many blocks or items, nothing is due
many_or_few : (task : Task) (bytes : List ℕ) (archive : Option (List ℕ)) (s : Status) (x : List ℕ) → most_blocks < length (blocks_of bytes)
    → ¬ IsDueToBlocks task bytes archive s x
many_or_few task bytes archive s x m h = let few = few_blocks task bytes archive s x h in absurd (omega (arith, m, few))

not_many : (task : Task) (bytes : List ℕ) (archive : Option (List ℕ)) (s : Status) (x : List ℕ) → HasTooMany task bytes → ¬ IsDueWith task bytes archive s x
not_many (Union file name) bytes archive s x m h = many_items bytes archive s x m h
not_many (Verify file) bytes archive s x m h = absurd m
not_many (Workload count) bytes archive s x m h = absurd m
not_many task bytes archive s x m h = many_or_few task bytes archive s x m h

-- an answer if there are too many blocks or items, or not
data CountOf (task : Task) (file : List ℕ) (archive : Option (List ℕ)) (s : Status) (x : List ℕ) : Type 0 where
  Many : s ≡ TooManyBlocks → HasTooMany task (bytes_of task file) → x ≡ [] → CountOf task file archive s x
  Few : IsDueWith task (bytes_of task file) archive s x → CountOf task file archive s x

count_of : (task : Task) (file : List ℕ) (archive : Option (List ℕ)) (s : Status) (x : List ℕ) → IsDueOn task file archive s x → CountOf task file archive s x
count_of task file archive s x k = grind arith

one_count : (task : Task) (file : List ℕ) (archive : Option (List ℕ)) (s t : Status) (x y : List ℕ) → CountOf task file archive s x
    → CountOf task file archive t y → AreOne s t x y
one_count task file archive s t x y l p = search (arith, not_many, one_with)

-- two answers that are due are one
pub one_due_answer : OneDueAnswer
one_due_answer task file archive s t x y h k = one_count task file archive s t x y (count_of task file archive s x h) (count_of task file archive t y k)

-- If no net has to be computed an answer is due.

-- what is due to a migration
migrated : (name : List ℕ) (archive : Option (List ℕ)) (a : ArchiveView) → IsArchiveIn archive a
    → (s : Status) × (x : List ℕ) × IsDueOn (Migrate name) [] archive s x
migrated name archive a is = by (cases_lt most_bytes (length (newest a)))
  where
    by : (most_bytes < length (newest a)) ⊎ (length (newest a) ≤ most_bytes) → (s : Status) × (x : List ℕ) × IsDueOn (Migrate name) [] archive s x
    by (inl l) = (MigrateRefused, migrate_fault_text (length (newest a)), (omega arith, a, is, (l, refl)))
    by (inr l) = (Done, newest a, (omega arith, a, is, (refl, l)))

-- so it is, and of too many blocks
pub some_answer_is_due : SomeAnswerIsDue
some_answer_is_due = search (arith, migrated)
