-- The report on the items of a text.
use Rattle.std.specs.Prelude.{◌≡◌, ℕ, Bool, List}
use Rattle.std.specs.List.{list_all}
use Rattle.keyline_import.specs.Items.{ItemView}
use Rattle.net_report.specs.Reports.{report_text}
use Rattle.net_report.specs.declared.outcome.Outcome.{Outcome}
use Rattle.net_report.specs.Accepting.{is_accepted}
use Rattle.archive_answers.specs.Outcomes.{AreItemOutcomesFrom}

-- the report on these items, and whether all of them were accepted
pub record IsItemReport (items : List ItemView) (accepted : Bool) (text : List ℕ) : Type 0 where
  pub outcomes : List Outcome
  pub are_outcomes : AreItemOutcomesFrom 1 items outcomes
  pub all : accepted ≡ list_all is_accepted outcomes
  pub report : text ≡ report_text outcomes
