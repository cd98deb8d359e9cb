use Rattle.archive_answers.proofs.Unions.{one_union_due}
use Rattle.archive_answers.proofs.laws.one_union_due.Goals as goal

pub returns : goal.returns
returns c = record { theorem = one_union_due }
