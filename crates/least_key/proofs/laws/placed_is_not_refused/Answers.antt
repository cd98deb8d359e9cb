use Rattle.least_key.proofs.OneAnswer.{placed_is_not_refused}
use Rattle.least_key.proofs.laws.placed_is_not_refused.Goals as goal

pub returns : goal.returns
returns c = record { theorem = placed_is_not_refused }
