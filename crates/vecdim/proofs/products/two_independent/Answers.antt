use Rattle.vecdim.proofs.Dividing.{not_decides, through}
use Rattle.integers.proofs.vectors.Independence.{two_vectors}
use Rattle.vecdim.proofs.products.two_independent.Goals as goal

pub returns : goal.returns
returns g c =
    through (not_decides c.is_parallel.result c.is_parallel.ensures) (two_vectors c.args.a.now c.args.b.now)
