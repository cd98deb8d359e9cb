use Rattle.coordination.proofs.laws.sequences_are_one.Goals as goal
use Rattle.coordination.proofs.ClassShells.{one_list_of_sequences}

pub returns : goal.returns
returns g = record { theorem = λ G xs ys h a b. one_list_of_sequences G h xs ys a b }
