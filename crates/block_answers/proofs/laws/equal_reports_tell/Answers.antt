use Rattle.block_answers.proofs.TextsTell as texts
use Rattle.block_answers.proofs.laws.equal_reports_tell.Goals as goal

pub returns : goal.returns
returns c = record { theorem = texts.equal_reports_tell }
