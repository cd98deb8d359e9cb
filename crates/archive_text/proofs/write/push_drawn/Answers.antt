use Rattle.std.proofs.lemmas.Result.{on_ok_weaker}
use Rattle.quotient_graph.specs.AnyGraphs.{graph_view}
use Rattle.archive_text.proofs.BadLines.{drawn_written}
use Rattle.archive_text.proofs.write.push_drawn.Goals as goal

pub returns : goal.returns
returns c = on_ok_weaker c.push_graph.result (λ last.
    drawn_written c.args.name.now (graph_view c.args.graph.now) c.args.text.now.items c.push_name.new.text.items c.push_graph.new.text.items
    c.in_ok-push_name.ensures last) c.push_graph.ensures
