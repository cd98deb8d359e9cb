use Rattle.net_certificate.proofs.InfiniteGraphs.{answers_tell_graphs}
use Rattle.net_certificate.proofs.laws.answers_tell_graphs.Goals as goal

pub returns : goal.returns
returns c = record { theorem = answers_tell_graphs }
