use Rattle.primitive_net.proofs.OnePrimitive.{one_primitive_fault}
use Rattle.primitive_net.proofs.laws.one_primitive_fault.Goals as goal

pub returns : goal.returns
returns c = record { theorem = one_primitive_fault }
