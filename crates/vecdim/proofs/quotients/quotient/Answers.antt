use Rattle.vecdim.proofs.Dividing.{exact_value}
use Rattle.vecdim.proofs.quotients.quotient.Goals as goal

pub returns-clause-value : goal.returns-clause-value
returns-clause-value c = exact_value c.args.a c.args.g c.ranges.a c.ranges.g c.requires.positive c.requires.divides
