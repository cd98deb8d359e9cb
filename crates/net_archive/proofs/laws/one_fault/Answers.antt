use Rattle.net_archive.proofs.OneFault.{one_fault}
use Rattle.net_archive.proofs.laws.one_fault.Goals as goal

pub returns : goal.returns
returns c = record { theorem = one_fault }
