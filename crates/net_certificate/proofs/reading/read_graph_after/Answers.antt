use Rattle.std.{proofs.Common.Option, proofs.Common.sym, proofs.Common.◌∙◌, specs.Prelude.MatchOption}
use Rattle.quotient_graph.specs.{AnyGraphs.graph_view, declared.any_graph.AnyGraph.AnyGraph}
use Rattle.graph_rows.specs.Reading.{HasBadGraph}
use Rattle.line_text.proofs.CallerLemmas.{bad_line_from, handed_on}
use Rattle.net_certificate.specs.{Rows.row_lines, Reading.HasNoGraph, Reading.IsBegun, Reading.HasBadLine}
use Rattle.net_certificate.proofs.Places.{first_in, first_bad, something}
use Rattle.net_certificate.proofs.reading.read_graph_after.Goals as goal

pub returns-clause-first : goal.returns-clause-first
returns-clause-first c = λ text is.
    first_in text (graph_view c.in_ok-graph.graph) c.args.lines.now c.read_graph.new.lines c.in_ok-graph.ensures.form is
    (λ rows at. c.in_ok-graph.ensures.graph text rows at)

pub returns-in_err-graph-clause-first : goal.returns-in_err-graph-clause-first
returns-in_err-graph-clause-first c = λ text is.
    let fault = c.in_err-graph.field-0.0 in let place = c.read_graph.new.lines in
    handed_on (λ (first : Option AnyGraph). MatchOption first (HasNoGraph text place) (λ (g : AnyGraph). IsBegun (graph_view g) text place))
    (HasBadLine text) fault c.from_residual.result c.from_residual.ensures.1
    (bad_line_from fault (HasBadGraph text (row_lines is.rows)) (HasBadLine text)
    (λ n bad. first_bad text c.args.lines.now n is (something c.args.lines.now.rest (sym c.is_empty.ensures ∙ c.if-is_empty.false)) bad)
    (c.in_err-graph.ensures.graph text (row_lines is.rows) is.at))
