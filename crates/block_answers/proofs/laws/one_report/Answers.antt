use Rattle.block_answers.proofs.OneOutcome.{one_report}
use Rattle.block_answers.proofs.laws.one_report.Goals as goal

pub returns : goal.returns
returns c = record { theorem = one_report }
