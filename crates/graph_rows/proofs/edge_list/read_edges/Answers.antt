-- Of `read_edges`: the loop; the clauses `edges`, `form` and `whole`.
use Rattle.std.proofs.Common.{[], ◌∷◌, ◌++◌, length, map, Some, sym, ap, ◌∙◌, subst, arith}
use Rattle.std.proofs.lemmas.List.{length-append, length-map}
use Rattle.line_text.{specs.Lines.IsAt, proofs.CallerLemmas.at_none, proofs.CallerLemmas.at_some}
use Rattle.cgd_read.specs.Spelling.{edge_of}
use Rattle.graph_rows.{specs.Rows.edge_row, specs.Forms.IsNextEdge, specs.Reading.AreReadTo, specs.Reading.NoEdge, proofs.Lists.one_more_edge}
use Rattle.graph_rows.{proofs.Lists.edges_read_pushed, proofs.GraphEdges.are_edges}
use Rattle.graph_rows.proofs.edge_list.read_edges.Goals as goal

pub returns-in_default-clause-edges : goal.returns-in_default-clause-edges
returns-in_default-clause-edges c = λ text rows at.
    let read = c.loop.invariant.0 in let count = length-map c.loop.edges.items edge_of in
    record {
      edges = map edge_of c.loop.edges.items;
      place = c.loop.lines;
      at = read.at text rows at;
      number = c.number-line.ensures.number;
      each = read.each;
      rising = read.rising;
      few = omega (arith, count, c.loop.invariant.1, c.loop-test.true);
      none = at_none c.in_ok-e.field-0 (NoEdge c.args.size.now (map edge_of c.loop.edges.items) c.loop.lines.rest) c.in_default.is
          (c.in_ok-e.ensures.none (map edge_of c.loop.edges.items) read.last_is);
    }

pub loop-preserved : goal.loop-preserved
loop-preserved c =
    let read = c.loop.invariant.0 in let edges = map edge_of c.loop.edges.items in
    let more = one_more_edge c.args.lines.now c.loop.lines c.next_edge.new.lines c.args.size.now edges c.loop.last c.in-Some.e read
    (at_some c.in_ok-e.field-0 (λ e. IsNextEdge c.args.size.now edges (edge_of e)) c.in-Some.e c.in-Some.is
    (c.in_ok-e.ensures.form edges read.last_is read.rising))
    (λ text rows at. at_some c.in_ok-e.field-0 (λ e. IsAt text (rows ++ edge_row c.args.size.now.dim (edge_of e) ∷ []) c.next_edge.new.lines) c.in-Some.e
    c.in-Some.is (c.in_ok-e.ensures.place text rows at)) in (
      subst (λ es. AreReadTo c.args.lines.now c.next_edge.new.lines c.args.size.now es (Some c.in-Some.e))
          (sym (ap (map edge_of) c.in_ok-push.ensures.items ∙ edges_read_pushed c.loop.edges.items c.in-Some.e)) more,
      let long = ap length c.in_ok-push.ensures.items ∙ length-append c.loop.edges.items (c.in-Some.e ∷ []) in omega (arith, long, c.loop.invariant.1),
    )

pub returns-clause-edges : goal.returns-clause-edges
returns-clause-edges c = λ text rows at.
    let read = c.loop.invariant.0 in let count = length-map c.loop.edges.items edge_of in
    record {
      at = read.at text rows at;
      each = read.each;
      rising = read.rising;
      whole = omega (arith, count, c.loop.invariant.1, c.loop-test.false, c.loop.auto.counter-end);
    }

pub returns-clause-form : goal.returns-clause-form
returns-clause-form c =
    let read = c.loop.invariant.0 in
    are_edges c.args.size.now c.loop.edges.items c.requires read.each read.rising
    (omega (arith, c.loop.invariant.1, c.loop-test.false, c.loop.auto.counter-end))

pub returns-clause-whole : goal.returns-clause-whole
returns-clause-whole c = omega (arith, c.loop.invariant.1, c.loop-test.false, c.loop.auto.counter-end)
