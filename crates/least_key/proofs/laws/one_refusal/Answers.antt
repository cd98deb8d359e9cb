use Rattle.least_key.proofs.OneAnswer.{one_refusal}
use Rattle.least_key.proofs.laws.one_refusal.Goals as goal

pub returns : goal.returns
returns c = record { theorem = one_refusal }
