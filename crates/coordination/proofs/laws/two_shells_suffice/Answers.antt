use Rattle.coordination.proofs.PointShells.{next_is_new, new_is_next}
use Rattle.coordination.proofs.laws.two_shells_suffice.Goals as goal

pub returns : goal.returns
returns g = record { theorem = λ G w k x. ((λ m. next_is_new G w k x m), (λ h. new_is_next G w k x h)) }
