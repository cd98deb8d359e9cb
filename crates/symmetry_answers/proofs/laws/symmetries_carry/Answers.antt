use Rattle.symmetry_answers.proofs.Carrying.{symmetries_carry}
use Rattle.symmetry_answers.proofs.laws.symmetries_carry.Goals as goal

pub returns : goal.returns
returns c = record { theorem = symmetries_carry }
