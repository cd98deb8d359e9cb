use Rattle.symmetry_answers.proofs.Carrying.{orbits_carry}
use Rattle.symmetry_answers.proofs.laws.orbits_carry.Goals as goal

pub returns : goal.returns
returns c = record { theorem = orbits_carry }
