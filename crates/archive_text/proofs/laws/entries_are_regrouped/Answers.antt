use Rattle.archive_text.proofs.Regrouping.{is_regrouped}
use Rattle.archive_text.proofs.laws.entries_are_regrouped.Goals as goal

pub returns : goal.returns
returns c = record { theorem = is_regrouped }
