-- Of `parts_of_end`: what it ensures; what `moved_part` requires.
use Rattle.std.proofs.{Common.◌^◌, Common.subst, Common.arith, lemmas.Int.to_z-of_z}
use Rattle.integers.specs.Vectors.{Vector, vector, plus}
use Rattle.map_check.specs.Images.{IsSplit}
use Rattle.map_check.proofs.{Drawing.carried_as, Drawing.moved_split, Layouts.part_fits, Layouts.steps_fit}
use Rattle.map_check.proofs.carrying.parts_of_end.Goals as goal

pub moved_part-x-requires : goal.moved_part-x-requires
moved_part-x-requires g c =
    let to = c.requires.to in
    let all = carried_as c.cell.view_is c.rest.view_is c.steps.view_is c.requires.cell c.requires.arc in
    let b = all.0 in let k = all.1.split in let v = part_fits c.cell.inside.x c.args.m to b.low.0 b.high.0 in
    let r = part_fits c.rest.inside.x c.args.m to k.low.0 k.high.0 in
    let s = steps_fit c.steps.inside.x (2 ^ 19) (omega arith) all.1.small.0 in
    record {
      m = to;
      part_from = simp to_z-of_z b.low.0;
      part_to = simp to_z-of_z b.high.0;
      rest_from = simp to_z-of_z k.low.0;
      rest_to = simp to_z-of_z k.high.0;
      steps = simp to_z-of_z all.1.small.0;
    }

pub moved_part-y-requires : goal.moved_part-y-requires
moved_part-y-requires g c =
    let to = c.requires.to in
    let all = carried_as c.cell.view_is c.rest.view_is c.steps.view_is c.requires.cell c.requires.arc in
    let b = all.0 in let k = all.1.split in let v = part_fits c.cell.inside.y c.args.m to b.low.1 b.high.1 in
    let r = part_fits c.rest.inside.y c.args.m to k.low.1 k.high.1 in
    let s = steps_fit c.steps.inside.y (2 ^ 19) (omega arith) all.1.small.1 in
    record {
      m = to;
      part_from = simp to_z-of_z b.low.1;
      part_to = simp to_z-of_z b.high.1;
      rest_from = simp to_z-of_z k.low.1;
      rest_to = simp to_z-of_z k.high.1;
      steps = simp to_z-of_z all.1.small.1;
    }

pub moved_part-z-requires : goal.moved_part-z-requires
moved_part-z-requires g c =
    let to = c.requires.to in
    let all = carried_as c.cell.view_is c.rest.view_is c.steps.view_is c.requires.cell c.requires.arc in
    let b = all.0 in let k = all.1.split in let v = part_fits c.cell.inside.z c.args.m to b.low.2 b.high.2 in
    let r = part_fits c.rest.inside.z c.args.m to k.low.2 k.high.2 in
    let s = steps_fit c.steps.inside.z (2 ^ 19) (omega arith) all.1.small.2 in
    record {
      m = to;
      part_from = simp to_z-of_z b.low.2;
      part_to = simp to_z-of_z b.high.2;
      rest_from = simp to_z-of_z k.low.2;
      rest_to = simp to_z-of_z k.high.2;
      steps = simp to_z-of_z all.1.small.2;
    }

pub returns-clause-split : goal.returns-clause-split
returns-clause-split g c =
    let m = c.args.m in let v = c.cell.inside in let to = c.requires.to in let x = c.moved_part-x in
    let y = c.moved_part-y in let z = c.moved_part-z in
    let all = carried_as c.cell.view_is c.rest.view_is c.steps.view_is c.requires.cell c.requires.arc in
    let b = all.0 in let k = all.1.split in let small = all.1.small in
    let vx = part_fits v.x m to b.low.0 b.high.0 in let vy = part_fits v.y m to b.low.1 b.high.1 in
    let vz = part_fits v.z m to b.low.2 b.high.2 in
    let rx = part_fits c.rest.inside.x m to k.low.0 k.high.0 in
    let ry = part_fits c.rest.inside.y m to k.low.1 k.high.1 in
    let rz = part_fits c.rest.inside.z m to k.low.2 k.high.2 in
    let sx = steps_fit c.steps.inside.x (2 ^ 19) (omega arith) small.0 in
    let sy = steps_fit c.steps.inside.y (2 ^ 19) (omega arith) small.1 in
    let sz = steps_fit c.steps.inside.z (2 ^ 19) (omega arith) small.2 in
    let ex = simp to_z-of_z at x.ensures.same in let ey = simp to_z-of_z at y.ensures.same in
    let ez = simp to_z-of_z at z.ensures.same in let made = c.together.ensures in
    let rest = vector x.result.rest y.result.rest z.result.rest in
    let steps = vector x.result.steps y.result.steps z.result.steps in
    rw (made.rest, made.steps) (subst (λ (t : Vector). IsSplit m (plus t c.args.arc.now.arc.shift) rest steps) c.cell.view_is
    (moved_split (vector v.x v.y v.z) {r = rest} {k = steps} k (x.ensures.from, x.ensures.to, ex) (y.ensures.from, y.ensures.to, ey)
    (z.ensures.from, z.ensures.to, ez)))

pub returns-clause-small : goal.returns-clause-small
returns-clause-small g c =
    rw c.together.ensures.steps (c.moved_part-x.ensures.small, c.moved_part-y.ensures.small, c.moved_part-z.ensures.small)
