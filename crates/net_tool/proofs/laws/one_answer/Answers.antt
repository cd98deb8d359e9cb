use Rattle.net_tool.proofs.OneAnswer.{one_answer}
use Rattle.net_tool.proofs.laws.one_answer.Goals as goal

pub returns : goal.returns
returns c = record { theorem = one_answer }
