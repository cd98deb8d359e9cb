use Rattle.cgd_read.specs.Views.{raw_view}
use Rattle.quotient_graph.specs.AnyGraphs.{graph_view}
use Rattle.block_answers.proofs.NetOutcomes.{graph_read, key_may, refused_told}
use Rattle.net_report.specs.declared.command.Command.TheVariants.{Key}
use Rattle.block_answers.proofs.bodies.key_net.Goals as goal

pub returns-in-Ok-clause-told : goal.returns-in-Ok-clause-told
returns-in-Ok-clause-told c = λ entries. record {
  graph = graph_view c.in_ok-graph.graph;
  read = graph_read c.size_of.ensures c.requires.is_graph c.in_ok-graph.ensures;
  net_is = c.in-Ok.ensures.graph;
  keyed = c.in-Ok.ensures.keyed;
}

pub returns-in_ok-body-in-Err-clause-told : goal.returns-in_ok-body-in-Err-clause-told
returns-in_ok-body-in-Err-clause-told c = λ entries.
    refused_told entries Key (raw_view c.args.raw.now) (graph_view c.in_ok-graph.graph) c.in-Err.refusal c.in_ok-body-in-Err.body c.requires.is_graph
    c.in_ok-graph.ensures
    c.in-Err.ensures.refused (key_may c.in-Err.refusal) c.in_ok-body-in-Err.ensures.told c.in_ok-body-in-Err.ensures.refused
