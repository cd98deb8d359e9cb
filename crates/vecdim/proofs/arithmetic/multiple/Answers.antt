-- Of `multiple`: that it fits; what it ensures.
use Rattle.std.proofs.{Common.refl, lemmas.Int.to_z-of_z}
use Rattle.vecdim.proofs.Boxes.{square_fits, square_within}
use Rattle.vecdim.proofs.arithmetic.multiple.Goals as goal

pub overflow_mul-result : goal.overflow_mul-result
overflow_mul-result c =
    let a = c.ranges.a in let b = c.ranges.b in simp to_z-of_z (square_fits c.args.a c.args.b c.requires.a c.requires.b)

pub returns : goal.returns
returns c =
    let a = c.ranges.a in let b = c.ranges.b in let p = square_fits c.args.a c.args.b c.requires.a c.requires.b in
    simp to_z-of_z (record { value = refl; within = square_within c.args.a c.args.b c.requires.a c.requires.b })
