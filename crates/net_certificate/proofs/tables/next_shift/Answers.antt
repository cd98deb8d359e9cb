-- Of `next_shift`: the clauses `place` and `none`.
use Rattle.std.proofs.Common.{◌≡◌, Ok, ap, [], ◌∷◌, ◌++◌, sym, ◌∙◌, subst}
use Rattle.std.{proofs.lemmas.Option.none-some, proofs.lemmas.Bool.true≢false, specs.Prelude.codes}
use Rattle.integers.specs.Vectors.{Vector, parts}
use Rattle.line_text.{specs.Lines.IsAt, specs.Numbers.row_text, proofs.CallerLemmas.none_from, proofs.CallerLemmas.some_from}
use Rattle.net_certificate.{specs.Rows.base_row, specs.Steps.NoShift, proofs.RowForms.parts_few, proofs.RowForms.parts_wide}
use Rattle.net_certificate.proofs.tables.next_shift.Goals as goal

pub returns-then-branch-clause-place : goal.returns-then-branch-clause-place
unfolding base_row
returns-then-branch-clause-place c = λ text rows at.
    some_from c.shift_from.result (λ (v : Vector). c.deref.result.now ≡ parts c.args.dim v)
    (λ (v : Vector). IsAt text (rows ++ base_row c.args.dim v ∷ []) c.next_row.new.self)
    (λ v e. subst (λ ns. IsAt text (rows ++ row_text (codes "base") ns ∷ []) c.next_row.new.self) (sym c.deref.ensures.value ∙ e)
    (c.in_ok-next_row.ensures.place text rows at (ap (λ b. Ok b) c.if-branch.true))) c.shift_from.ensures.found

pub returns-then-branch-clause-none : goal.returns-then-branch-clause-none
unfolding base_row
returns-then-branch-clause-none c = none_from c.shift_from.result (NoShift c.args.dim c.args.lines.now.rest) (λ none v rest is e.
    none-some v (sym none ∙ c.shift_from.ensures.every v is (c.deref.ensures.value
    ∙ (c.in_ok-next_row.ensures.every (parts c.args.dim v) rest (parts_wide c.args.dim v is.small) (parts_few c.args.dim v) e).1)))

pub returns-else-branch-clause-none : goal.returns-else-branch-clause-none
unfolding base_row
returns-else-branch-clause-none c =
    λ v rest is e. true≢false (sym (c.in_ok-next_row.ensures.every (parts c.args.dim v) rest (parts_wide c.args.dim v is.small) (parts_few c.args.dim v) e).0
    ∙ c.if-branch.false)
