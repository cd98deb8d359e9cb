use Rattle.coordination.proofs.OtherShells as other
use Rattle.coordination.proofs.laws.bare_keeps_shells.Goals as goal

pub returns : goal.returns
returns g = record { theorem = other.bare_keeps_shells }
