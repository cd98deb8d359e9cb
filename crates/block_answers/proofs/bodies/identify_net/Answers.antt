use Rattle.std.proofs.{Common.List, Common.refl, lemmas.Result.IfOk-weaker}
use Rattle.cgd_read.specs.Views.{Net, raw_view}
use Rattle.archive_text.specs.Entries.{EntryView}
use Rattle.block_answers.specs.Outcomes.{IsBodyOf}
use Rattle.quotient_graph.specs.AnyGraphs.{graph_view}
use Rattle.block_answers.proofs.NetOutcomes.{graph_read, identify_may, refused_as}
use Rattle.net_report.specs.declared.command.Command.TheVariants.{Identify}
use Rattle.block_answers.proofs.bodies.identify_net.Goals as goal

pub identified_body-requires-clause-keyed : goal.identified_body-requires-clause-keyed
identified_body-requires-clause-keyed c = record {
  graph = graph_view c.in_ok-graph.graph;
  read = graph_read refl c.requires.is_graph c.in_ok-graph.ensures;
  net_is = c.in-Ok.ensures.graph;
  keyed = c.in-Ok.ensures.keyed;
}

pub returns-in-Err : goal.returns-in-Err
returns-in-Err c =
    let raw = raw_view c.args.raw.now in let entries = c.args.archive.now.entries in
    IfOk-weaker c.refused_body.result (λ body. (es : List EntryView) → IsBodyOf es Identify (Net raw) body) (λ body. IsBodyOf entries Identify (Net raw) body)
    (λ body h. h entries)
    (refused_as Identify raw (graph_view c.in_ok-graph.graph) c.in-Err.refusal c.refused_body.result c.requires.is_graph c.in_ok-graph.ensures
    c.in-Err.ensures.refused (identify_may c.in-Err.refusal) c.refused_body.ensures.told c.refused_body.ensures.refused)
