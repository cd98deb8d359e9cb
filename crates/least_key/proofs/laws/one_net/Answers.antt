use Rattle.least_key.proofs.OneAnswer.{one_net}
use Rattle.least_key.proofs.laws.one_net.Goals as goal

pub returns : goal.returns
returns c = record { theorem = one_net }
