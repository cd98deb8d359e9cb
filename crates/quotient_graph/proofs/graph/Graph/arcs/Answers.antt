use Rattle.quotient_graph.proofs.Stars.{each_arc_from, every_arc_from}
use Rattle.quotient_graph.proofs.graph.Graph.arcs.Goals as goal

pub returns-clause-each : goal.returns-clause-each
returns-clause-each g c = each_arc_from c.args.self.now c.args.u c.star.result.now c.star.ensures.is_graph c.star.ensures.small c.star.ensures.star

pub returns-clause-every : goal.returns-clause-every
returns-clause-every g c = every_arc_from c.args.self.now c.args.u c.star.result.now c.star.ensures.star
