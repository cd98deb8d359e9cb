use Rattle.std.{proofs.Common.◌≤◌, proofs.Common.arith, proofs.lemmas.Int.ints, specs.Prelude.unsigned_abs}
use Rattle.coordination.proofs.Boxes.{weighed_small}
use Rattle.coordination.proofs.net_box.cells_along.Goals as goal

pub returns-clause-bound : goal.returns-clause-bound
returns-clause-bound c =
    let n = c.requires.narrow in
    let wide : c.side_of.result ≤ 20001 = let e = c.side_of.ensures in let y = n.y in omega (arith, e, y) in
    let wide' : c.side_of-2.result ≤ 20001 = let e = c.side_of-2.ensures in let x = n.x in omega (arith, e, x) in
    let b = weighed_small (unsigned_abs c.weighed-rows.result) _ c.side_of.result _ 10000 20001 10000 c.weighed-rows.ensures.bound
    (omega (arith, ints, c.small_part.ensures.bound)) wide (omega (arith, ints, c.small_part-z.ensures.bound)) in
    let a = weighed_small (unsigned_abs c.weighed.result) _ c.side_of-2.result _ 10000 20001 200020000 c.weighed.ensures.bound
    (omega (arith, ints, c.small_part-2.ensures.bound)) wide' (omega (arith, ints, b)) in
    omega (arith, ints, a)
