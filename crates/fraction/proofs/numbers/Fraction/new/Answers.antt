use Rattle.std.proofs.{Common.rules, Common.◌≢◌, Common.pos, lemmas.Int.to_z-of_z}
use Rattle.fraction.proofs.Operations.{new_or}
use Rattle.fraction.proofs.numbers.Fraction.new.Goals as goal

pub returns : goal.returns
returns c =
    let n = c.ranges.num in let d = c.ranges.den in let z : c.args.den ≢ pos 0 = search rules in
    let e = c.reduced.ensures in
    new_or c.args.num c.args.den c.reduced.result c.ok_or.result z c.ok_or.ensures.value (simp to_z-of_z at e)
