-- Of `read_pair`: what it ensures. `whole` and `drawn` are what its returns share.
use Rattle.std.proofs.Common.{◌≡◌, ℕ, List, length, sym, ap, ◌∙◌, subst}
use Rattle.std.proofs.lemmas.Bool.{true≢false}
use Rattle.periodic_net.specs.Graph.{Arc}
use Rattle.quotient_graph.specs.AnyGraphs.{graph_view}
use Rattle.graph_rows.specs.{declared.size.GraphSize.GraphSize, Reading.HasBadGraph}
use Rattle.line_text.proofs.CallerLemmas.{bad_line_from, handed_on}
use Rattle.net_certificate.specs.Items.{ItemView, With, item_view}
use Rattle.net_certificate.specs.Stages.{Opened, Listed, Drawn, Mapped, drawing, drawn_graph, with_item}
use Rattle.net_certificate.specs.{declared.items.Item.Item, Rows.OfEnd, Rows.row_lines, Reading.IsIn, Reading.HasBadLine}
use Rattle.net_certificate.proofs.Places.{no_end, row_in, bad_in, second_in, second_bad}
use Rattle.net_certificate.proofs.reading.read_pair.Goals.{After-size_of-second}
use Rattle.net_certificate.proofs.reading.read_pair.Goals as goal

pub returns-in_err-graph : goal.returns-in_err-graph
returns-in_err-graph c = λ text items edges is.
    let fault = c.in_err-graph.field-0.0 in let g = drawing c.args.first.now edges in
    handed_on (λ (item : Item). IsIn text (Listed g (with_item items (item_view item))) c.read_graph.new.lines)
    (HasBadLine text) fault c.from_residual.result c.from_residual.ensures.1
    (bad_line_from fault (HasBadGraph text (row_lines is.rows)) (HasBadLine text) (λ n bad. second_bad text g items c.args.lines.now n is bad)
    (c.in_err-graph.ensures.graph text (row_lines is.rows) is.at))

-- the second graph, of the size that was taken from it, has all its edges
whole : (c : After-size_of-second) → length (graph_view c.in_ok-graph.graph).edges ≡ c.size_of-second.result.edges
whole c = ap (λ (s : GraphSize). s.edges) (sym c.size_of-second.ensures)

-- and it was read
drawn : (c : After-size_of-second) (text : List ℕ) (items : List ItemView) (edges : List Arc) → let g = drawing c.args.first.now edges in
    IsIn text (Opened g items) c.args.lines.now
    → IsIn text (Drawn g items (drawing c.size_of-second.result (graph_view c.in_ok-graph.graph).edges)) c.read_graph.new.lines
drawn c text items edges is =
    let g = drawing c.args.first.now edges in let H = graph_view c.in_ok-graph.graph in
    subst (λ s. IsIn text (Drawn g items (drawing s H.edges)) c.read_graph.new.lines) (sym c.size_of-second.ensures)
    (second_in text g items H c.args.lines.now c.read_graph.new.lines c.in_ok-graph.ensures.form is (c.in_ok-graph.ensures.graph text))

pub returns-in_err-map : goal.returns-in_err-map
returns-in_err-map c = λ text items edges is.
    let read = (goal.at.returns-in_err-map c).After-size_of-second in
    handed_on (λ (item : Item). IsIn text (Listed (drawing c.args.first.now edges) (with_item items (item_view item))) c.read_map.new.lines)
    (HasBadLine text) c.in_err-map.field-0.0 c.from_residual-in_err-map.result c.from_residual-in_err-map.ensures.1
    (c.in_err-map.ensures text items edges (graph_view c.in_ok-graph.graph).edges (whole read) (drawn read text items edges is))

pub returns-then-next_end : goal.returns-then-next_end
returns-then-next_end c = λ text items edges is.
    let read = (goal.at.returns-then-next_end c).After-size_of-second in
    let g = drawing c.args.first.now edges in let H = graph_view c.in_ok-graph.graph in
    let h = drawing c.size_of-second.result H.edges in let M = c.in_ok-map.map in
    let has = c.in_ok-map.ensures text items edges H.edges (whole read) (drawn read text items edges is) in
    subst (λ s. IsIn text (Listed g (with_item items (With (drawn_graph (drawing s H.edges)) M))) c.next_end.new.lines) c.size_of-second.ensures
    (row_in text (Mapped g items h M) OfEnd c.read_map.new.lines c.next_end.new.lines has.at (has.images, has.base)
    (λ rows at. c.next_end.ensures.place text rows at c.if-next_end.true))

pub returns-else-next_end : goal.returns-else-next_end
returns-else-next_end c = λ text items edges is.
    let read = (goal.at.returns-else-next_end c).After-size_of-second in
    let g = drawing c.args.first.now edges in let H = graph_view c.in_ok-graph.graph in
    let h = drawing c.size_of-second.result H.edges in let M = c.in_ok-map.map in
    let has = c.in_ok-map.ensures text items edges H.edges (whole read) (drawn read text items edges is) in
    bad_in text (Mapped g items h M) c.read_map.new.lines c.number-line.result has.at c.number-line.ensures.number
    (no_end g items h M c.read_map.new.lines.rest has.images has.base (λ rest e. true≢false (sym (c.next_end.ensures.none rest e) ∙ c.if-next_end.false)))
    (λ may. absurd may)
