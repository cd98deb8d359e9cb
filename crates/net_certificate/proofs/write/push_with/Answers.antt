use Rattle.std.proofs.{Common.ap, lemmas.Result.on_ok_weaker}
use Rattle.quotient_graph.specs.AnyGraphs.{graph_view}
use Rattle.graph_rows.specs.declared.size.GraphSize.{GraphSize}
use Rattle.net_certificate.proofs.WholeTexts.{item_written}
use Rattle.net_certificate.proofs.write.push_with.Goals as goal

pub returns : goal.returns
returns c = on_ok_weaker c.push_end.result
    (λ last. item_written c.args.text.now.items c.push_map_row.new.text.items c.push_graph.new.text.items c.push_map.new.text.items c.push_end.new.text.items
    c.args.dim c.args.k c.size_of.result.dim (graph_view c.args.graph.now) c.args.map.now
    (ap (λ (s : GraphSize). s.dim) c.size_of.ensures) c.in_ok-push_map_row.ensures c.in_ok-push_graph.ensures c.in_ok-push_map.ensures last) c.push_end.ensures
