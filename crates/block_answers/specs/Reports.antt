-- The report on the blocks of a text.
use Rattle.std.specs.Prelude.{◌≡◌, ℕ, Bool, List, ◌++◌}
use Rattle.cgd_read.specs.Views.{BlockView}
use Rattle.archive_text.specs.Entries.{EntryView}
use Rattle.net_report.specs.Reports.{IsPrintable, outcome_text}
pub use Rattle.net_report.specs.Reports.{report_text}
use Rattle.net_report.specs.declared.outcome.Outcome.{Outcome}
use Rattle.net_report.specs.declared.command.Command.{Command}
use Rattle.block_answers.specs.Deciding.{AreOutcomes}
use Rattle.block_answers.specs.Outcomes.{AreAllAccepted, IsAcceptedAs, IsOutcomeOf}

-- what is reported of the block with this number, put last in a text, and whether the block was accepted
pub record IsBlockTold (entries : List EntryView) (command : Command) (number : ℕ) (block : BlockView) (accepted : Bool) (old new : List ℕ) : Type 0 where
  pub outcome : Outcome
  pub is_outcome : IsOutcomeOf entries command number block outcome
  pub printable : IsPrintable outcome
  pub all : IsAcceptedAs command block.body outcome.body accepted
  pub report : new ≡ old ++ outcome_text outcome

-- the report on these blocks, and whether all of them were accepted
pub record IsReport (command : Command) (entries : List EntryView) (blocks : List BlockView) (accepted : Bool) (text : List ℕ) : Type 0 where
  pub outcomes : List Outcome
  pub are_outcomes : AreOutcomes command entries blocks outcomes
  pub all : AreAllAccepted command blocks outcomes accepted
  pub report : text ≡ report_text outcomes
