use Rattle.barycentre.proofs.two_steps_recover.Goals as goal
use Rattle.barycentre.proofs.Recovered.{two_steps_recover}

pub returns : goal.returns
returns c = record { theorem = two_steps_recover }
