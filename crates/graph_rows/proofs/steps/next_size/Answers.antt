use Rattle.std.proofs.Common.{◌≡◌, Ok, ap, [], ◌∷◌, ◌++◌, sym, ◌∙◌, subst}
use Rattle.std.{proofs.lemmas.Option.none-some, proofs.lemmas.Bool.true≢false, specs.Prelude.codes}
use Rattle.line_text.{specs.Lines.IsAt, specs.Numbers.row_text, proofs.CallerLemmas.none_from, proofs.CallerLemmas.some_from}
use Rattle.graph_rows.{specs.declared.size.GraphSize.GraphSize, specs.Rows.size_row, specs.Rows.size_numbers, specs.Reading.NoSize}
use Rattle.graph_rows.{proofs.RowForms.size_few, proofs.RowForms.size_wide}
use Rattle.graph_rows.proofs.steps.next_size.Goals as goal

pub returns-then-branch-clause-place : goal.returns-then-branch-clause-place
unfolding size_row
returns-then-branch-clause-place c = λ text rows at.
    some_from c.size_of.result (λ (s : GraphSize). c.deref.result.now ≡ size_numbers s)
    (λ (s : GraphSize). IsAt text (rows ++ size_row s ∷ []) c.next_row.new.self)
    (λ s e. subst (λ ns. IsAt text (rows ++ row_text (codes "graph") ns ∷ []) c.next_row.new.self) (sym c.deref.ensures.value ∙ e)
    (c.in_ok-next_row.ensures.place text rows at (ap (λ b. Ok b) c.if-branch.true))) c.size_of.ensures.found

pub returns-then-branch-clause-none : goal.returns-then-branch-clause-none
unfolding size_row
returns-then-branch-clause-none c = none_from c.size_of.result (NoSize c.args.lines.now.rest) (λ none size rest is e.
    none-some size (sym none ∙ c.size_of.ensures.every size is (c.deref.ensures.value
    ∙ (c.in_ok-next_row.ensures.every (size_numbers size) rest (size_wide size is) (size_few size) e).1)))

pub returns-else-branch-clause-none : goal.returns-else-branch-clause-none
unfolding size_row
returns-else-branch-clause-none c =
    λ size rest is e. true≢false (sym (c.in_ok-next_row.ensures.every (size_numbers size) rest (size_wide size is) (size_few size) e).0 ∙ c.if-branch.false)
