use Rattle.std.proofs.Common.{◌≡◌, ◌+◌, arith}
use Rattle.primitive_cell.proofs.MadePrimitive.{before_classes}
use Rattle.primitive_cell.proofs.edges.edges_of.Goals as goal

pub loop-class-init : goal.loop-class-init
loop-class-init g c = grind (arith, before_classes)

pub returns : goal.returns
returns g c =
    let n = c.loop-class.class in let count = c.count-class-end.result in
    let e = c.count-class-end.ensures.count in let end = c.loop-class.auto.class-end (omega arith) in
    let past = c.loop-class-test.false in
    let is : n ≡ c.args.classes.now.classes.count + 1 = omega (arith, e, end, past) in
    rw is at c.loop-class.invariant
