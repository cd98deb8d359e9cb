use Rattle.net_cover.proofs.OneCover.{one_cover}
use Rattle.net_cover.proofs.laws.one_cover.Goals as goal

pub returns : goal.returns
returns c = record { theorem = one_cover }
