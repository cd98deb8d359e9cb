use Rattle.block_answers.proofs.TextsTell as texts
use Rattle.block_answers.proofs.laws.reports_are_legible.Goals as goal

pub returns : goal.returns
returns c = record { theorem = texts.reports_are_legible }
