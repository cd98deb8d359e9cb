use Rattle.barycentre.proofs.lifting_gives_placement.Goals as goal
use Rattle.barycentre.proofs.Recovered.{lifting}

pub returns : goal.returns
returns c = record { theorem = lifting }
