use Rattle.std.proofs.Common.{arith}
use Rattle.coordination.proofs.Boxes.{origin_small}
use Rattle.coordination.proofs.net_box.origin.Goals as goal

pub overflow_mul-result-2 : goal.overflow_mul-result-2
overflow_mul-result-2 c = omega (arith, origin_small)
