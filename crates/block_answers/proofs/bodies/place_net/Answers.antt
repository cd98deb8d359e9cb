use Rattle.cgd_read.specs.Views.{raw_view}
use Rattle.quotient_graph.specs.AnyGraphs.{graph_view}
use Rattle.least_key.specs.AnyPlacements.{placed_view}
use Rattle.block_answers.proofs.NetOutcomes.{graph_read, is_graph_in, only_placement, place_may, refused_as}
use Rattle.net_report.specs.declared.command.Command.TheVariants.{Place}
use Rattle.block_answers.proofs.bodies.place_net.Goals as goal

pub returns-in_ok-copy-in-Ok : goal.returns-in_ok-copy-in-Ok
returns-in_ok-copy-in-Ok c = λ entries. record {
  graph = graph_view c.in_ok-graph.graph;
  read = graph_read c.size_of.ensures c.requires.is_graph c.in_ok-graph.ensures;
  names_are = c.in_ok-copy-in-Ok.ensures;
  placed_as = c.in-Ok.ensures.placed;
  only = only_placement (graph_view c.in_ok-graph.graph) (placed_view c.in-Ok.placed)
      (is_graph_in (raw_view c.args.raw.now) (graph_view c.in_ok-graph.graph) c.requires.is_graph c.in_ok-graph.ensures) c.in-Ok.ensures.placed;
}

pub returns-in-Err : goal.returns-in-Err
returns-in-Err c =
    refused_as Place (raw_view c.args.raw.now) (graph_view c.in_ok-graph.graph) c.in-Err.refusal c.refused_body.result c.requires.is_graph c.in_ok-graph.ensures
    c.in-Err.ensures.refused (place_may c.in-Err.refusal c.in-Err.ensures.early) c.refused_body.ensures.told c.refused_body.ensures.refused
