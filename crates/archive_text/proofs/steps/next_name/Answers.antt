use Rattle.std.proofs.{Common.sym, Common.ap, Common.◌∙◌, lemmas.Bool.true≢false}
use Rattle.archive_text.{specs.Rows.name_row, proofs.Walks.entry_has_no}
use Rattle.line_text.specs.Names.{is_name}
use Rattle.archive_text.proofs.steps.next_name.Goals as goal

pub returns-in-None-clause-none : goal.returns-in-None-clause-none
unfolding name_row
returns-in-None-clause-none c = λ name rest is e. c.in-None.ensures.every name rest (entry_has_no name is) e

pub returns-then-is_name-clause-place : goal.returns-then-is_name-clause-place
unfolding name_row
returns-then-is_name-clause-place c = λ text rows at. c.in-Some.ensures.place text rows at

pub returns-else-is_name-clause-none : goal.returns-else-is_name-clause-none
unfolding name_row
returns-else-is_name-clause-none c = λ name rest is e. let same = c.in-Some.ensures.every name rest (entry_has_no name is) e in
    true≢false (sym is ∙ ap is_name (sym same) ∙ sym c.is_name.ensures ∙ c.if-is_name.false)

pub returns-then-is_name-clause-line : goal.returns-then-is_name-clause-line
unfolding name_row
returns-then-is_name-clause-line c = c.in-Some.ensures.line
