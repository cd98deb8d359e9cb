use Rattle.block_answers.proofs.Refusals.{refusals_tell}
use Rattle.block_answers.proofs.laws.refusals_tell.Goals as goal

pub returns : goal.returns
returns c = record { theorem = refusals_tell }
