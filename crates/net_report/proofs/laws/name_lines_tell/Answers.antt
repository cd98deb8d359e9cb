use Rattle.net_report.proofs.TellingRows as telling
use Rattle.net_report.proofs.laws.name_lines_tell.Goals as goal

pub returns : goal.returns
returns c = record { theorem = telling.name_lines_tell }
