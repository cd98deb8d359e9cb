use Rattle.std.specs.Prelude.{option_copied}
use Rattle.cgd_read.specs.Views.{raw_view}
use Rattle.quotient_graph.specs.AnyGraphs.{graph_view}
use Rattle.cover_answers.proofs.OneCovering.{refused_net}
use Rattle.cover_answers.proofs.bodies.cover_net.Goals as goal

pub returns-clause-answered : goal.returns-clause-answered
returns-clause-answered c =
    refused_net c.args.cell.now (option_copied c.args.name) (raw_view c.args.raw.now) c.of-size.result
    (graph_view c.in_ok-graph.graph) c.in-Err.fault c.args.covers.now.items _ c.in_ok-body-in-Err.body
    (record { in_order = c.in_ok-graph.ensures; is_graph = c.of-size.ensures.is_graph }) c.of-size.ensures.size c.recall.ensures
    c.in-Err.ensures.fault
    c.in_ok-body-in-Err.ensures.told c.in_ok-body-in-Err.ensures.some
