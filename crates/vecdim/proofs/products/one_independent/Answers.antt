use Rattle.integers.proofs.vectors.Independence.{one_vector}
use Rattle.vecdim.proofs.Dividing.{not_decides, through}
use Rattle.vecdim.proofs.products.one_independent.Goals as goal

pub returns : goal.returns
returns g c = through (not_decides c.is_zero.result c.is_zero.ensures) (one_vector c.args.a.now)
