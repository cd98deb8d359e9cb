use Rattle.barycentre.proofs.whole_solutions.Goals as goal
use Rattle.barycentre.proofs.Linear.{whole_solutions}

pub returns : goal.returns
returns c = record { theorem = whole_solutions }
