use Rattle.block_answers.proofs.OneOutcome.{one_telling_of_parts}
use Rattle.block_answers.proofs.laws.one_telling.Goals as goal

pub returns : goal.returns
returns c = record { theorem = one_telling_of_parts }
