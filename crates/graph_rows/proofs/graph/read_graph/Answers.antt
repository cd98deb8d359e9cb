-- Of `read_graph`: the clauses `graph` and `form`; what `graph_of` requires.
use Rattle.std.proofs.Common.{inl, inr, [], ◌∷◌, ◌++◌, map, ap, sym, ◌∙◌, subst}
use Rattle.line_text.proofs.CallerLemmas.{at_none, at_some, bad_line_from, handed_on}
use Rattle.line_text.specs.Lines.{IsAt}
use Rattle.cgd_read.specs.Spelling.{edge_of}
use Rattle.quotient_graph.specs.{AnyGraphs.graph_view, EdgeLists.AreEdgesOfGraph, Stars.graph_with}
use Rattle.graph_rows.specs.Reading.{NoSize, HasBadEdge, HasBadGraph, HasGraph}
use Rattle.graph_rows.{specs.Rows.size_row, specs.Forms.IsSize, proofs.ReadGraphs.graph_read, proofs.ReadGraphs.graph_formed}
use Rattle.graph_rows.proofs.graph.read_graph.Goals as goal

pub graph_of-requires : goal.graph_of-requires
graph_of-requires c =
    let s = c.in-Some.size in
    subst (AreEdgesOfGraph s.dim s.vertices) (sym c.deref.ensures.value) c.in_ok-edges.ensures.form

pub returns-in_default-clause-graph : goal.returns-in_default-clause-graph
returns-in_default-clause-graph c = λ text rows at. inl (record {
  place = c.args.lines.now;
  at = at;
  number = c.number-line.ensures.number;
  none = at_none c.in_ok-size.field-0 (NoSize c.args.lines.now.rest) c.in_default.is c.in_ok-size.ensures.none;
})

pub returns-in_err-edges-clause-graph : goal.returns-in_err-edges-clause-graph
returns-in_err-edges-clause-graph c = λ text rows at.
    let s = c.in-Some.size in let heads = rows ++ size_row s ∷ [] in
    handed_on (λ g. HasGraph text rows c.read_edges.new.lines (graph_view g))
    (HasBadGraph text rows) c.in_err-edges.field-0.0 c.from_residual-in_err-edges.result c.from_residual-in_err-edges.ensures.1
    (bad_line_from c.in_err-edges.field-0.0 (HasBadEdge text heads s) (HasBadGraph text rows)
    (λ n bad. inr (record { size = s; is_size = at_some c.in_ok-size.field-0 IsSize s c.in-Some.is c.in_ok-size.ensures.form; bad = bad }))
    (c.in_err-edges.ensures.edges text heads (at_some c.in_ok-size.field-0 (λ t. IsAt text (rows ++ size_row t ∷ []) c.next_size.new.lines) s c.in-Some.is
    (c.in_ok-size.ensures.place text rows at))))

pub returns-clause-graph : goal.returns-clause-graph
returns-clause-graph c = λ text rows at.
    let s = c.in-Some.size in
    let has = c.in_ok-edges.ensures.edges text (rows ++ size_row s ∷ [])
    (at_some c.in_ok-size.field-0 (λ t. IsAt text (rows ++ size_row t ∷ []) c.next_size.new.lines) s c.in-Some.is
    (c.in_ok-size.ensures.place text rows at)) in
    graph_read text rows s (map edge_of c.in_ok-edges.edges.items) c.read_edges.new.lines (graph_view c.in_ok-graph_of.field-0)
    (at_some c.in_ok-size.field-0 IsSize s c.in-Some.is c.in_ok-size.ensures.form) has
    (c.in_ok-graph_of.ensures ∙ ap (λ es. graph_with s.dim s.vertices (map edge_of es)) c.deref.ensures.value)

pub returns-clause-form : goal.returns-clause-form
returns-clause-form c =
    let s = c.in-Some.size in
    graph_formed s c.in_ok-edges.edges.items (graph_view c.in_ok-graph_of.field-0)
    (at_some c.in_ok-size.field-0 IsSize s c.in-Some.is c.in_ok-size.ensures.form) c.in_ok-edges.ensures.form c.in_ok-edges.ensures.whole
    (c.in_ok-graph_of.ensures ∙ ap (λ es. graph_with s.dim s.vertices (map edge_of es)) c.deref.ensures.value)
