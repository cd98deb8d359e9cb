use Rattle.map_check.proofs.tables_of_bijections.Goals as goal
use Rattle.map_check.proofs.Theorems.{tables_of_bijections}

pub returns : goal.returns
returns c = record { theorem = tables_of_bijections }
