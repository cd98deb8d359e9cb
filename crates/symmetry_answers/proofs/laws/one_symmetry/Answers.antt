use Rattle.symmetry_answers.proofs.OneSymmetry.{one_symmetry}
use Rattle.symmetry_answers.proofs.laws.one_symmetry.Goals as goal

pub returns : goal.returns
returns c = record { theorem = one_symmetry }
