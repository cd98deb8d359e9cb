use Rattle.map_check.proofs.tables_that_join.Goals as goal
use Rattle.map_check.proofs.Theorems.{tables_that_join}

pub returns : goal.returns
returns c = record { theorem = tables_that_join }
