use Rattle.std.proofs.Common.{◌≡◌, ◌++◌, take}
use Rattle.net_report.specs.Reports.{report_text}
use Rattle.net_report.proofs.texts.push_outcomes.Given as goal

abbrev pub invariant-loop-outcome : goal.invariant-loop-outcome
invariant-loop-outcome l = l.text.items ≡ l.initial.text.items ++ report_text (take l.outcome-index l.outcomes)
