-- Of `part_between`: that numbers fit; what it ensures.
use Rattle.std.proofs.lemmas.Int.{to_z-of_z}
use Rattle.quotient_graph.proofs.Positions.{shift_fits, product_fits, sum_fits, difference_fits}
use Rattle.quotient_graph.proofs.placed.part_between.Goals as goal

pub overflow_mul-result : goal.overflow_mul-result
overflow_mul-result c =
    let q = c.requires in let d = c.ranges.d0 in let n = c.ranges.steps in
    let s = shift_fits c.args.steps q.steps in
    simp to_z-of_z (product_fits c.args.from c.args.to c.args.d0 c.args.steps q.from q.to q.d0 q.steps)

pub overflow_add-result : goal.overflow_add-result
overflow_add-result c =
    let q = c.requires in let t = c.ranges.to in let d = c.ranges.d0 in let n = c.ranges.steps in
    let s = shift_fits c.args.steps q.steps in
    let p = product_fits c.args.from c.args.to c.args.d0 c.args.steps q.from q.to q.d0 q.steps in
    simp to_z-of_z (sum_fits c.args.from c.args.to c.args.d0 c.args.steps q.from q.to q.d0 q.steps)

pub overflow_sub-result : goal.overflow_sub-result
overflow_sub-result c =
    let q = c.requires in let f = c.ranges.from in let t = c.ranges.to in let d = c.ranges.d0 in
    let n = c.ranges.steps in let s = shift_fits c.args.steps q.steps in
    let p = product_fits c.args.from c.args.to c.args.d0 c.args.steps q.from q.to q.d0 q.steps in
    let u = sum_fits c.args.from c.args.to c.args.d0 c.args.steps q.from q.to q.d0 q.steps in
    simp to_z-of_z (difference_fits c.args.from c.args.to c.args.d0 c.args.steps q.from q.to q.d0 q.steps)

pub returns : goal.returns
returns c =
    let q = c.requires in let f = c.ranges.from in let t = c.ranges.to in let d = c.ranges.d0 in
    let n = c.ranges.steps in let s = shift_fits c.args.steps q.steps in
    let p = product_fits c.args.from c.args.to c.args.d0 c.args.steps q.from q.to q.d0 q.steps in
    let u = sum_fits c.args.from c.args.to c.args.d0 c.args.steps q.from q.to q.d0 q.steps in
    let v = difference_fits c.args.from c.args.to c.args.d0 c.args.steps q.from q.to q.d0 q.steps in
    simp to_z-of_z
