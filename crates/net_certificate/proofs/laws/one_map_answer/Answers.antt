use Rattle.net_certificate.proofs.laws.one_map_answer.Goals as goal
use Rattle.net_certificate.proofs.OneAnswer.{one_map_answer}

pub returns : goal.returns
returns c = record { theorem = one_map_answer }
