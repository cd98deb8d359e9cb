use Rattle.map_answers.proofs.Verified.{same_is_verified}
use Rattle.map_answers.proofs.laws.same_is_verified.Goals as goal

pub returns : goal.returns
returns c = record { theorem = same_is_verified }
