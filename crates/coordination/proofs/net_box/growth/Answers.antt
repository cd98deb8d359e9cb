use Rattle.std.{proofs.Common.◌^◌, proofs.Common.arith, proofs.lemmas.Int.ints, specs.Prelude.unsigned_abs}
use Rattle.coordination.proofs.Boxes.{weighed_small}
use Rattle.coordination.proofs.net_box.growth.Goals as goal

pub returns-clause-bound : goal.returns-clause-bound
returns-clause-bound g c =
    let b = weighed_small (unsigned_abs c.weighed.result) _ c.args.count _ 512 512 (2 ^ 42) c.weighed.ensures.bound
    (omega (arith, ints, c.difference.ensures.bound)) c.requires.count (omega (arith, ints, c.cells_along-cells.ensures.bound)) in
    omega (arith, ints, b)
