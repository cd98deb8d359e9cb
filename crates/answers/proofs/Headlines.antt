-- The headline follows from what is due to `identify`.
use Rattle.std.proofs.Common.{◌≡◌, ◌≢◌, ◌∙◌, ℕ, Bool, true, false, List, Option, refl, ap}
use Rattle.std.specs.Prelude.{if◌then◌else◌}
use Rattle.cgd_read.specs.Blocks.{blocks_of}
use Rattle.command_words.specs.Tasks.{Identify}
use Rattle.net_archive.specs.Archives.{ArchiveView}
use Rattle.block_answers.specs.Reports.{IsReport}
use Rattle.archive_answers.specs.ArchiveBytes.{IsArchiveIn}
use Rattle.answers.specs.{Due.IsDueOn, Headline.Headline, Headline.IsReported}
use Rattle.net_report.specs.declared.status.{Status.Status, Status.TheVariants.Done, Status.TheVariants.SomeRefused}
use Rattle.net_report.specs.declared.command.Command.TheVariants as asks

-- to identify is not to ask for components
identify_is_not_components : asks.Identify ≢ asks.Components
identify_is_not_components e = cc

-- a report on the blocks of these bytes
headline_with : (file : List ℕ) (archive : Option (List ℕ)) (accepted : Bool) (status : Status) (text : List ℕ) (a : ArchiveView) → IsArchiveIn archive a
    → IsReport asks.Identify a.entries (blocks_of file) accepted text → status ≡ (if accepted then Done else SomeRefused) → Headline file archive status text
headline_with file archive accepted status text a read r e = record {
  known = a;
  read = read;
  outcomes = r.outcomes;
  each = r.are_outcomes.each;
  blocks = r.are_outcomes.keys;
  entries = r.are_outcomes.entry_keys;
  archive_entries = r.are_outcomes.archive_keys;
  bare_blocks = r.are_outcomes.bare_keys;
  bare_entries = r.are_outcomes.bare_entry_keys;
  bare_archive_entries = r.are_outcomes.bare_archive_keys;
  key_lines = r.are_outcomes.key_lines;
  refused = r.are_outcomes.refused;
  refused_entries = r.are_outcomes.refused_entries;
  certain = r.are_outcomes.certain identify_is_not_components;
  written = r.report;
  ending = e ∙ ap (λ b. if b then Done else SomeRefused) r.all;
}

-- the answer that is due to these bytes
pub headline_on : (file : List ℕ) (archive : Option (List ℕ)) (name : List ℕ) (archive_name : Option (List ℕ)) (status : Status) (text : List ℕ)
    → IsReported status
    → IsDueOn (Identify name archive_name) file archive status text → Headline file archive status text
headline_on file archive name archive_name Done text r due = headline_with file archive true Done text due.1 due.2 due.3 refl
headline_on file archive name archive_name SomeRefused text r due = headline_with file archive false SomeRefused text due.1 due.2 due.3 refl
headline_on file archive name archive_name status text r due = absurd r
