use Rattle.std.proofs.Common.{Ok, [], ◌∷◌, ◌++◌, length, sym, ap, ◌∙◌, subst, arith}
use Rattle.std.{proofs.lemmas.Bool.eqb-true, proofs.lemmas.Bool.true≢false, specs.Prelude.codes}
use Rattle.line_text.specs.{Lines.IsAt, Numbers.row_text}
use Rattle.archive_text.specs.Rows.{key_row}
use Rattle.archive_text.proofs.steps.next_key.Goals.{else-branch-via-then-branch+else-not-is_empty, else-branch-via-else-branch}
use Rattle.archive_text.proofs.steps.next_key.Goals as goal

pub returns-in_ok-key_from-clause-place : goal.returns-in_ok-key_from-clause-place
unfolding key_row
returns-in_ok-key_from-clause-place c = λ text rows at. subst (λ ns. IsAt text (rows ++ row_text (codes "key") ns ∷ []) c.next_row.new.self)
    (sym c.in_ok-key_from.ensures) (c.in_ok-next_row.ensures.place text rows at (ap (λ b. Ok b) c.if-branch.true))

pub returns-else-branch-clause-none : goal.returns-else-branch-clause-none
unfolding key_row
returns-else-branch-clause-none c = λ key rest is e.
    let read = c.in_ok-next_row.ensures.every key rest is.wide is.few e in
    elim c.else-branch.branch [
      | else-branch-via-then-branch+else-not-is_empty w ↦
          let none = eqb-true _ 0 (sym w.is_empty.ensures ∙ w.if-not-is_empty.false) in
          let same = ap length read.1 in omega (arith, none, same, is.some)
      | else-branch-via-else-branch w ↦ true≢false (sym read.0 ∙ w.if-branch.false)
    ]
