use Rattle.std.proofs.Common.{arith}
use Rattle.coordination.proofs.Boxes.{size_small}
use Rattle.coordination.proofs.net_box.size.Goals as goal

pub overflow_mul-size-2 : goal.overflow_mul-size-2
overflow_mul-size-2 c = omega (arith, size_small)
