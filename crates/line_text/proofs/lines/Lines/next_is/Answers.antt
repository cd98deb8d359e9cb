use Rattle.std.proofs.Common.{[], ◌∷◌, ◌++◌, sym, ◌∙◌, subst}
use Rattle.std.proofs.lemmas.Slice.Eq.{bytes_eq-Decides}
use Rattle.line_text.specs.Lines.{IsAt}
use Rattle.line_text.proofs.lines.Lines.next_is.Goals as goal

pub returns-in-Some-clause-place : goal.returns-in-Some-clause-place
returns-in-Some-clause-place c = λ text rows at same.
    subst (λ row. IsAt text (rows ++ row ∷ []) c.next.new.self) ((bytes_eq-Decides c.in-Some.line.now c.args.row.now).0 (sym c.eq.ensures ∙ same))
    (c.in-Some.ensures.place text rows at)
