use Rattle.coordination.proofs.OtherShells as other
use Rattle.coordination.proofs.laws.sequences_are_kept.Goals as goal

pub returns : goal.returns
returns g = record { theorem = other.sequences_are_kept }
