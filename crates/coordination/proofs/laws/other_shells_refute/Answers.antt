use Rattle.coordination.proofs.OtherShells as other
use Rattle.coordination.proofs.laws.other_shells_refute.Goals as goal

pub returns : goal.returns
returns g = record { theorem = other.other_shells_refute }
