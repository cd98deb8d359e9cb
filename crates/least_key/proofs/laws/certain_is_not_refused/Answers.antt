use Rattle.least_key.proofs.OneAnswer.{certain_is_not_refused}
use Rattle.least_key.proofs.laws.certain_is_not_refused.Goals as goal

pub returns : goal.returns
returns c = record { theorem = certain_is_not_refused }
