use Rattle.std.proofs.Common.{ℕ, List, Option, Result, Ok, Err}
use Rattle.std.specs.Prelude.{IfOk}
use Rattle.net_report.specs.declared.answer.Answer.{Answer}
use Rattle.archive_answers.specs.Unions.{IsUnionDue}
use Rattle.answers.{specs.Endings.GoesWithText, proofs.Endings.text_of_union}
use Rattle.answers.proofs.answer.answer_to.Goals as goal

-- what is due to a union has a status that goes with a text
union_text : {E : Type 0} (file : List ℕ) (archive : Option (List ℕ)) (r : Result Answer E)
    → IfOk r (λ (a : Answer). IsUnionDue file archive a.status a.text.items) → IfOk r (λ (a : Answer). GoesWithText a.status)
union_text file archive (Ok a) h = text_of_union file archive a.status a.text.items h
union_text file archive (Err e) h = tt

pub returns-in-Union-clause-told : goal.returns-in-Union-clause-told
returns-in-Union-clause-told c = union_text c.args.file.now _ c.union_of.result c.union_of.ensures.due
