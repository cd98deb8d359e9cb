use Rattle.net_report.proofs.TellingTexts as telling
use Rattle.net_report.proofs.laws.reports_tell.Goals as goal

pub returns : goal.returns
returns c = record { theorem = telling.reports_tell }
