use Rattle.std.proofs.Common.{rules}
use Rattle.quotient_graph.proofs.arc.Arc.reversed.Goals as goal

pub returns : goal.returns
returns g c = search rules
