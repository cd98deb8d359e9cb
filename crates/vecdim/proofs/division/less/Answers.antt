-- Of `less`: that numbers fit; what it ensures.
use Rattle.std.proofs.lemmas.Int.{to_z-of_z}
use Rattle.vecdim.proofs.Boxes.{taken_fits, less_fits}
use Rattle.vecdim.proofs.division.less.Goals as goal

pub overflow_mul-result : goal.overflow_mul-result
overflow_mul-result c =
    let b = c.ranges.b in let k = c.ranges.k in let q = c.requires in simp to_z-of_z (taken_fits c.args.b c.args.k q.b q.k)

pub overflow_sub-result : goal.overflow_sub-result
overflow_sub-result c =
    let z = c.ranges.z in let b = c.ranges.b in let k = c.ranges.k in let q = c.requires in
    let t = taken_fits c.args.b c.args.k q.b q.k in simp to_z-of_z (less_fits c.args.z c.args.b c.args.k q.z q.b q.k)

pub returns : goal.returns
returns c =
    let z = c.ranges.z in let b = c.ranges.b in let k = c.ranges.k in let q = c.requires in
    let t = taken_fits c.args.b c.args.k q.b q.k in let l = less_fits c.args.z c.args.b c.args.k q.z q.b q.k in simp to_z-of_z
