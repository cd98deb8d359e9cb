use Rattle.net_report.proofs.TellingTexts as telling
use Rattle.net_report.proofs.laws.key_lines_tell.Goals as goal

pub returns : goal.returns
returns c = record { theorem = telling.key_lines_tell }
