use Rattle.std.proofs.Common.{◌≡◌, Ok, ap, ℕ, pos, [], ◌∷◌, ◌++◌, sym, ◌∙◌, subst}
use Rattle.std.{proofs.lemmas.Option.none-some, proofs.lemmas.Bool.true≢false, specs.Prelude.codes}
use Rattle.line_text.{specs.Lines.IsAt, specs.Numbers.row_text, proofs.CallerLemmas.none_from, proofs.CallerLemmas.some_from}
use Rattle.archive_text.{specs.Rows.count_row, specs.Reading.NoCount, proofs.Walks.count_few, proofs.Walks.count_wide}
use Rattle.archive_text.proofs.steps.next_count.Goals as goal

pub returns-then-branch-clause-place : goal.returns-then-branch-clause-place
unfolding count_row
returns-then-branch-clause-place c = λ text rows at.
    some_from c.count_from.result (λ (n : ℕ). c.deref.result.now ≡ pos n ∷ []) (λ (n : ℕ). IsAt text (rows ++ count_row n ∷ []) c.next_row.new.self)
    (λ n e. subst (λ ns. IsAt text (rows ++ row_text (codes "primitive") ns ∷ []) c.next_row.new.self) (sym c.deref.ensures.value ∙ e)
    (c.in_ok-next_row.ensures.place text rows at (ap (λ b. Ok b) c.if-branch.true))) c.count_from.ensures.found

pub returns-then-branch-clause-none : goal.returns-then-branch-clause-none
unfolding count_row
returns-then-branch-clause-none c = none_from c.count_from.result (NoCount c.args.lines.now.rest) (λ none n rest is e.
    none-some n (sym none ∙ c.count_from.ensures.every n is (c.deref.ensures.value
    ∙ (c.in_ok-next_row.ensures.every (pos n ∷ []) rest (count_wide n is) (count_few n) e).1)))

pub returns-else-branch-clause-none : goal.returns-else-branch-clause-none
unfolding count_row
returns-else-branch-clause-none c = λ n rest is e. true≢false (sym (c.in_ok-next_row.ensures.every (pos n ∷ []) rest (count_wide n is) (count_few n) e).0
    ∙ c.if-branch.false)
