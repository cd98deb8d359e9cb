use Rattle.least_key.proofs.OneAnswer.{keyed_is_certain}
use Rattle.least_key.proofs.laws.keyed_is_certain.Goals as goal

pub returns : goal.returns
returns c = record { theorem = keyed_is_certain }
