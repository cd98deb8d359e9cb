use Rattle.cgd_read.specs.Views.{raw_view}
use Rattle.quotient_graph.specs.AnyGraphs.{graph_view}
use Rattle.block_answers.proofs.NetOutcomes.{graph_read, check_may, refused_as}
use Rattle.net_report.specs.declared.command.Command.TheVariants.{Check}
use Rattle.block_answers.proofs.bodies.check_net.Goals as goal

pub returns-in-Ok : goal.returns-in-Ok
returns-in-Ok c = λ entries. record {
  graph = graph_view c.in_ok-graph.graph;
  read = graph_read c.size_of.ensures c.requires.is_graph c.in_ok-graph.ensures;
  connected = c.in-Ok.ensures.connected;
}

pub returns-in-Err : goal.returns-in-Err
returns-in-Err c =
    refused_as Check (raw_view c.args.raw.now) (graph_view c.in_ok-graph.graph) c.in-Err.refusal c.refused_body.result c.requires.is_graph c.in_ok-graph.ensures
    c.in-Err.ensures.refused (check_may c.in-Err.refusal c.in-Err.ensures.early) c.refused_body.ensures.told c.refused_body.ensures.refused
