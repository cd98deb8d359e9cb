-- Of `divided_net`: the clause `fault`.
use Rattle.primitive_net.proofs.Primitive.{refused}
use Rattle.primitive_net.proofs.divided.divided_net.Goals as goal

pub returns-in-Err-clause-fault : goal.returns-in-Err-clause-fault
returns-in-Err-clause-fault g c =
    refused c.args.net.now.cell.graph c.in_ok-graph.graph c.in-Err.refusal c.in_ok-graph.ensures.graph c.in_ok-graph.ensures.narrow c.in-Err.ensures.early
    c.in-Err.ensures.refused
