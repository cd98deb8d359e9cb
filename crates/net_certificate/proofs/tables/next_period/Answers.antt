use Rattle.std.proofs.Common.{◌≡◌, Ok, ap, ℕ, pos, [], ◌∷◌, ◌++◌, sym, ◌∙◌, subst}
use Rattle.std.{proofs.lemmas.Option.none-some, proofs.lemmas.Bool.true≢false, specs.Prelude.codes}
use Rattle.line_text.{specs.Lines.IsAt, specs.Numbers.row_text, proofs.CallerLemmas.none_from, proofs.CallerLemmas.some_from}
use Rattle.net_certificate.{specs.Rows.period_row, specs.Steps.NoPeriod, proofs.RowForms.one_wide, proofs.RowForms.one_few}
use Rattle.net_certificate.proofs.tables.next_period.Goals as goal

pub returns-then-branch-clause-place : goal.returns-then-branch-clause-place
unfolding period_row
returns-then-branch-clause-place c = λ text rows at.
    some_from c.period_from.result (λ (m : ℕ). c.deref.result.now ≡ pos m ∷ []) (λ (m : ℕ). IsAt text (rows ++ period_row m ∷ []) c.next_row.new.self)
    (λ m e. subst (λ ns. IsAt text (rows ++ row_text (codes "period") ns ∷ []) c.next_row.new.self) (sym c.deref.ensures.value ∙ e)
    (c.in_ok-next_row.ensures.place text rows at (ap (λ b. Ok b) c.if-branch.true))) c.period_from.ensures.found

pub returns-then-branch-clause-none : goal.returns-then-branch-clause-none
unfolding period_row
returns-then-branch-clause-none c = none_from c.period_from.result (NoPeriod c.args.size.now c.args.lines.now.rest) (λ none m rest is e.
    none-some m (sym none ∙ c.period_from.ensures.every m is (c.deref.ensures.value
    ∙ (c.in_ok-next_row.ensures.every (pos m ∷ []) rest (one_wide m is.to) (one_few m) e).1)))

pub returns-else-branch-clause-none : goal.returns-else-branch-clause-none
unfolding period_row
returns-else-branch-clause-none c = λ m rest is e. true≢false (sym (c.in_ok-next_row.ensures.every (pos m ∷ []) rest (one_wide m is.to) (one_few m) e).0
    ∙ c.if-branch.false)
