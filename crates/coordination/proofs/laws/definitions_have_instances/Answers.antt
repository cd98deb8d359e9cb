use Rattle.coordination.proofs.OtherShells as other
use Rattle.coordination.proofs.laws.definitions_have_instances.Goals as goal

pub returns : goal.returns
returns g = record { theorem = other.definitions_have_instances }
