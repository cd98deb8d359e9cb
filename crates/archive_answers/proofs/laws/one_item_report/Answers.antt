use Rattle.archive_answers.proofs.ItemOutcomes.{one_item_report}
use Rattle.archive_answers.proofs.laws.one_item_report.Goals as goal

pub returns : goal.returns
returns c = record { theorem = one_item_report }
