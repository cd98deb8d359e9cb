-- Of `next_edge`: the clauses `place` and `none`.
use Rattle.std.proofs.Common.{◌≡◌, Ok, [], ◌∷◌, ◌++◌, sym, ap, ◌∙◌, subst}
use Rattle.std.{proofs.lemmas.Option.none-some, proofs.lemmas.Bool.true≢false, specs.Prelude.codes}
use Rattle.line_text.{specs.Lines.IsAt, specs.Numbers.row_text, proofs.CallerLemmas.none_from, proofs.CallerLemmas.some_from}
use Rattle.cgd_read.specs.{declared.edge.RawEdge.RawEdge, Spelling.edge_of}
use Rattle.graph_rows.{specs.Rows.edge_row, specs.Rows.edge_numbers, specs.Reading.NoEdge, proofs.RowForms.edge_few, proofs.RowForms.edge_wide}
use Rattle.periodic_net.specs.Graph.{Arc}
use Rattle.graph_rows.proofs.steps.next_edge.Goals as goal

pub returns-then-branch-clause-place : goal.returns-then-branch-clause-place
unfolding edge_row
returns-then-branch-clause-place c = λ text rows at.
    some_from c.edge_after.result (λ (e : RawEdge). c.deref.result.now ≡ edge_numbers c.args.size.now.dim (edge_of e))
    (λ (e : RawEdge). IsAt text (rows ++ edge_row c.args.size.now.dim (edge_of e) ∷ []) c.next_row.new.self)
    (λ s e. subst (λ ns. IsAt text (rows ++ row_text (codes "edge") ns ∷ []) c.next_row.new.self) (sym c.deref.ensures.value ∙ e)
    (c.in_ok-next_row.ensures.place text rows at (ap (λ b. Ok b) c.if-branch.true))) c.edge_after.ensures.found

-- the edge, as it is read
abbrev raw_of : Arc → RawEdge
raw_of a = record { u = a.from; v = a.to; x = a.shift.x; y = a.shift.y; z = a.shift.z }

pub returns-then-branch-clause-none : goal.returns-then-branch-clause-none
unfolding edge_row
returns-then-branch-clause-none c = λ edges last. none_from c.edge_after.result (NoEdge c.args.size.now edges c.args.lines.now.rest) (λ none e rest next is.
    none-some (raw_of e) (sym none ∙ c.edge_after.ensures.every edges (raw_of e) last next
    (c.deref.ensures.value ∙ (c.in_ok-next_row.ensures.every (edge_numbers c.args.size.now.dim e) rest
    (edge_wide c.args.size.now e c.requires next.is_edge) (edge_few c.args.size.now.dim e) is).1)))

pub returns-else-branch-clause-none : goal.returns-else-branch-clause-none
unfolding edge_row
returns-else-branch-clause-none c = λ edges last e rest next is.
    true≢false (sym (c.in_ok-next_row.ensures.every (edge_numbers c.args.size.now.dim e) rest (edge_wide c.args.size.now e c.requires next.is_edge)
    (edge_few c.args.size.now.dim e) is).0 ∙ c.if-branch.false)
