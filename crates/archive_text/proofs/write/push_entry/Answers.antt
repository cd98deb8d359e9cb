use Rattle.std.proofs.{Common.◌++◌, Common.ap, Common.◌∙◌, lemmas.Result.on_ok_weaker}
use Rattle.line_text.specs.Lines.{rows_text}
use Rattle.quotient_graph.specs.AnyGraphs.{graph_view}
use Rattle.archive_text.specs.{Entries.entry_view, Rows.row_lines, Parts.drawn_rows}
use Rattle.graph_rows.specs.Rows.{size_of_graph}
use Rattle.archive_text.proofs.BadLines.{entry_written}
use Rattle.archive_text.proofs.write.push_entry.Goals as goal

pub returns : goal.returns
returns c = on_ok_weaker c.push_end.result (λ last.
    entry_written c.args.version (entry_view c.args.entry.now) c.args.text.now.items c.push_drawn.new.text.items c.push_key.new.text.items
    c.push_classes.new.text.items c.push_end.new.text.items
    (c.in_ok-push_drawn.ensures ∙ ap (λ n. c.args.text.now.items ++ rows_text
    (row_lines (drawn_rows n (size_of_graph (graph_view c.args.entry.now.graph)) (graph_view c.args.entry.now.graph).edges))) c.deref.ensures.value)
    c.in_ok-push_key.ensures c.in_ok-push_classes.ensures last) c.push_end.ensures
