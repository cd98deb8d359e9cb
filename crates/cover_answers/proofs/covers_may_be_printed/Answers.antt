use Rattle.cover_answers.proofs.ReadBlocks as reading
use Rattle.cover_answers.proofs.covers_may_be_printed.Goals as goal

pub returns : goal.returns
returns c = record { theorem = reading.covers_may_be_printed }
