use Rattle.archive_text.proofs.Regrouping.{only_one}
use Rattle.archive_text.proofs.laws.one_regrouping.Goals as goal

pub returns : goal.returns
returns c = record { theorem = only_one }
