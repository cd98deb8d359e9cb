use Rattle.net_archive.proofs.OneFault.{no_fault_but_memory}
use Rattle.net_archive.proofs.laws.archives_have_no_fault.Goals as goal

pub returns : goal.returns
returns c = record { theorem = no_fault_but_memory }
