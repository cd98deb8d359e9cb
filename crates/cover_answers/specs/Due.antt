-- What is due to the command `cover`, of a cell and of the blocks of a file.
use Rattle.std.specs.Prelude.{◌≡◌, ℕ, Bool, false, List}
use Rattle.cgd_read.specs.Views.{BlockView}
use Rattle.net_cover.specs.Cells.{CellView}
use Rattle.net_report.specs.Reports.{report_text}
use Rattle.net_report.specs.declared.outcome.Outcome.{Outcome}
use Rattle.net_report.specs.declared.status.Status.{Status}
use Rattle.net_report.specs.declared.status.Status.TheVariants.{Done, SomeRefused}
use Rattle.cover_answers.specs.Covers.{AreCovered}
use Rattle.cover_answers.specs.Outcomes.{AreOutcomesFrom, all_of}

-- some block is not covered, and this is the report on all blocks
pub record AreReported (cell : CellView) (blocks : List BlockView) (text : List ℕ) : Type 0 where
  pub each : List Bool
  pub outcomes : List Outcome
  pub are_outcomes : AreOutcomesFrom cell 1 blocks each outcomes
  pub some_refused : all_of each ≡ false
  pub report : text ≡ report_text outcomes

-- the texts of the covers where each block is covered, and else the report, by the status that goes with it
abbrev pub IsCoveredAs : CellView → List BlockView → Status → List ℕ → Type 0
IsCoveredAs cell blocks Done text = AreCovered cell blocks text
IsCoveredAs cell blocks SomeRefused text = AreReported cell blocks text
IsCoveredAs cell blocks status text = ⊥
