-- Of `insert_rows`: what its calls require; what it ensures.
use Rattle.std.{proofs.Common.FitsSigned, proofs.lemmas.Int.to_z-of_z, specs.Int.w128}
use Rattle.vecdim.proofs.Boxes.{fits_within, at_most, up_to, boxed_fits, boxed_first, boxed_second, boxed_third, boxed_rests, boxed_left, boxed_front}
use Rattle.vecdim.proofs.Inserting.{assemble}
use Rattle.vecdim.proofs.insertion.insert_rows.Goals as goal

pub modulo-x-requires : goal.modulo-x-requires
modulo-x-requires c = let m = c.ranges.m in record { m = simp to_z-of_z c.requires.kept.m_from }

pub modulo-y-requires : goal.modulo-y-requires
modulo-y-requires c = let m = c.ranges.m in record { m = simp to_z-of_z c.requires.kept.m_from }

pub modulo-z-requires : goal.modulo-z-requires
modulo-z-requires c = let m = c.ranges.m in record { m = simp to_z-of_z c.requires.kept.m_from }

pub column-one-requires : goal.column-one-requires
column-one-requires c =
    let k = c.requires.kept in let m = c.ranges.m in let s = boxed_fits k.m_to (boxed_first k) in
    let sa = s.x in let sb = s.y in let sc = s.z in
    let rx : FitsSigned w128 c.modulo-x.result = record { sfits = c.modulo-x.type_inv } in
    let ry : FitsSigned w128 c.modulo-y.result = record { sfits = c.modulo-y.type_inv } in
    let rz : FitsSigned w128 c.modulo-z.result = record { sfits = c.modulo-z.type_inv } in
    let x = simp to_z-of_z at c.modulo-x.ensures.to in let y = simp to_z-of_z at c.modulo-y.ensures.to in
    let z = simp to_z-of_z at c.modulo-z.ensures.to in
    record {
      m = simp to_z-of_z k.m_from;
      m_to = simp to_z-of_z k.m_to;
      upper = simp to_z-of_z (boxed_first k);
      lower = simp to_z-of_z (boxed_rests c.modulo-x.ensures.from x c.modulo-y.ensures.from y c.modulo-z.ensures.from z);
      pivot = simp to_z-of_z k.reduced.first_x;
    }

pub column-two-requires : goal.column-two-requires
column-two-requires c =
    let k = c.requires.kept in let m = c.ranges.m in let s = boxed_fits k.m_to (boxed_second k) in
    let se = s.x in let sf = s.y in let w = simp to_z-of_z at c.column-one.ensures.lower in
    let g = boxed_fits k.m_to w in
    let gy : FitsSigned w128 c.column-one.result.lower.y = g.y in let gz : FitsSigned w128 c.column-one.result.lower.z = g.z in
    record {
      m = simp to_z-of_z k.m_from;
      m_to = simp to_z-of_z k.m_to;
      upper = simp to_z-of_z (boxed_second k);
      lower = simp to_z-of_z (boxed_left k.m_from w);
      pivot = simp to_z-of_z k.reduced.second_y;
    }

pub column-three-requires : goal.column-three-requires
column-three-requires c =
    let k = c.requires.kept in let m = c.ranges.m in let s = boxed_fits k.m_to (boxed_third k) in
    let si = s.x in let w = simp to_z-of_z at c.column-two.ensures.lower in let g = boxed_fits k.m_to w in
    let gy : FitsSigned w128 c.column-two.result.lower.y = g.y in
    record {
      m = simp to_z-of_z k.m_from;
      m_to = simp to_z-of_z k.m_to;
      upper = simp to_z-of_z (boxed_third k);
      lower = simp to_z-of_z (boxed_front k.m_from w);
      pivot = simp to_z-of_z k.reduced.third_z;
    }

pub modulo-f-requires : goal.modulo-f-requires
modulo-f-requires c =
    let m = c.ranges.m in let u = simp to_z-of_z at c.column-three.ensures.upper in
    let f = boxed_fits c.requires.kept.m_to u in
    let fx : FitsSigned w128 c.column-three.result.upper.x = f.x in
    record { m = simp to_z-of_z c.column-three.ensures.pivot }

pub divide-parts-requires : goal.divide-parts-requires
divide-parts-requires c =
    let k = c.requires.kept in let m = c.ranges.m in let u = simp to_z-of_z at c.column-one.ensures.upper in
    let v = simp to_z-of_z at c.column-two.ensures.upper in let f = boxed_fits k.m_to u in
    let g = boxed_fits k.m_to v in let fy : FitsSigned w128 c.column-one.result.upper.y = f.y in
    let gx : FitsSigned w128 c.column-two.result.upper.x = g.x in
    record { a_from = simp to_z-of_z u.y_from; b_from = simp to_z-of_z c.column-two.ensures.pivot }

pub less_times-c1-requires : goal.less_times-c1-requires
less_times-c1-requires c =
    let k = c.requires.kept in let m = c.ranges.m in let u = simp to_z-of_z at c.column-one.ensures.upper in
    let v = simp to_z-of_z at c.column-three.ensures.upper in let f = boxed_fits k.m_to u in
    let g = boxed_fits k.m_to v in let fy : FitsSigned w128 c.column-one.result.upper.y = f.y in
    let fz : FitsSigned w128 c.column-one.result.upper.z = f.z in
    let gx : FitsSigned w128 c.column-three.result.upper.x = g.x in
    let rf : FitsSigned w128 c.modulo-f.result = record { sfits = c.modulo-f.type_inv } in
    let t = simp to_z-of_z at c.modulo-f.ensures.to in let d = simp to_z-of_z at c.divide-parts.ensures.to in
    let to = up_to _ _ _ d (at_most _ _ u.y_to) in
    let fq : FitsSigned w128 c.divide-parts.result.quotient = fits_within c.divide-parts.result.quotient _ k.m_to c.divide-parts.ensures.from to in
    record {
      m = simp to_z-of_z k.m_from;
      m_to = simp to_z-of_z k.m_to;
      a_from = simp to_z-of_z u.z_from;
      a_to = simp to_z-of_z (at_most _ _ u.z_to);
      b_from = simp to_z-of_z c.modulo-f.ensures.from;
      b_to = simp to_z-of_z (up_to _ _ _ (at_most _ _ t) v.x_to);
      q_from = simp to_z-of_z c.divide-parts.ensures.from;
      q_to = simp to_z-of_z to;
    }

pub modulo-c-requires : goal.modulo-c-requires
modulo-c-requires c =
    let m = c.ranges.m in let u = simp to_z-of_z at c.column-three.ensures.upper in
    let f = boxed_fits c.requires.kept.m_to u in
    let fx : FitsSigned w128 c.column-three.result.upper.x = f.x in
    record { m = simp to_z-of_z c.column-three.ensures.pivot }

pub returns : goal.returns
returns c =
    let k = c.requires.kept in let m = c.ranges.m in
    let s1 = boxed_fits k.m_to (boxed_first k) in let s2 = boxed_fits k.m_to (boxed_second k) in let s3 = boxed_fits k.m_to (boxed_third k) in
    let sa = s1.x in let sb = s1.y in let sc = s1.z in let se = s2.x in let sf = s2.y in let si = s3.x in
    let rx : FitsSigned w128 c.modulo-x.result = record { sfits = c.modulo-x.type_inv } in
    let ry : FitsSigned w128 c.modulo-y.result = record { sfits = c.modulo-y.type_inv } in
    let rz : FitsSigned w128 c.modulo-z.result = record { sfits = c.modulo-z.type_inv } in
    let rf : FitsSigned w128 c.modulo-f.result = record { sfits = c.modulo-f.type_inv } in
    let r0 : FitsSigned w128 c.less_times-c1.result = record { sfits = c.less_times-c1.type_inv } in
    let rc : FitsSigned w128 c.modulo-c.result = record { sfits = c.modulo-c.type_inv } in
    let u1 = c.column-one.ensures.upper in let w1 = c.column-one.ensures.lower in
    let u2 = c.column-two.ensures.upper in let w2 = c.column-two.ensures.lower in
    let u3 = c.column-three.ensures.upper in let w3 = c.column-three.ensures.lower in
    let u1' = simp to_z-of_z at u1 in let w1' = simp to_z-of_z at w1 in
    let u2' = simp to_z-of_z at u2 in let w2' = simp to_z-of_z at w2 in
    let u3' = simp to_z-of_z at u3 in let w3' = simp to_z-of_z at w3 in
    let f1 = boxed_fits k.m_to u1' in let g1 = boxed_fits k.m_to w1' in
    let f2 = boxed_fits k.m_to u2' in let g2 = boxed_fits k.m_to w2' in let f3 = boxed_fits k.m_to u3' in
    let f1x : FitsSigned w128 c.column-one.result.upper.x = f1.x in let f1y : FitsSigned w128 c.column-one.result.upper.y = f1.y in
    let f1z : FitsSigned w128 c.column-one.result.upper.z = f1.z in
    let g1y : FitsSigned w128 c.column-one.result.lower.y = g1.y in let g1z : FitsSigned w128 c.column-one.result.lower.z = g1.z in
    let f2x : FitsSigned w128 c.column-two.result.upper.x = f2.x in let f2y : FitsSigned w128 c.column-two.result.upper.y = f2.y in
    let g2y : FitsSigned w128 c.column-two.result.lower.y = g2.y in
    let f3x : FitsSigned w128 c.column-three.result.upper.x = f3.x in
    let vx = c.ranges.vx in let vy = c.ranges.vy in let vz = c.ranges.vz in let d = c.divide-parts.ensures in
    let d1 = d.to in let d1' = simp to_z-of_z at d1 in let d2 = d.rest_to in let d2' = simp to_z-of_z at d2 in
    let d3 = d.rest in let d3' = simp to_z-of_z at d3 in
    let fq : FitsSigned w128 c.divide-parts.result.quotient = fits_within c.divide-parts.result.quotient _ k.m_to d.from
    (up_to _ _ _ d1' (at_most _ _ u1'.y_to)) in
    let fr : FitsSigned w128 c.divide-parts.result.rest = fits_within c.divide-parts.result.rest _ k.m_to d.rest_from
    (up_to _ _ _ (at_most _ _ d2') u2'.x_to) in
    let xt = c.modulo-x.ensures.to in let xs = c.modulo-x.ensures.same.1 in
    let yt = c.modulo-y.ensures.to in let ys = c.modulo-y.ensures.same.1 in
    let zt = c.modulo-z.ensures.to in let zs = c.modulo-z.ensures.same.1 in
    let ft = c.modulo-f.ensures.to in let fs = c.modulo-f.ensures.same.1 in
    let ot = c.less_times-c1.ensures.to in let os = c.less_times-c1.ensures.same.1 in
    let ct = c.modulo-c.ensures.to in let cs = c.modulo-c.ensures.same.1 in
    let e1 = c.column-one.ensures.same in let e2 = c.column-two.ensures.same in let e3 = c.column-three.ensures.same in
    simp to_z-of_z (assemble _ _ _ _ _ _ _ _ _ _ _ _ _ _ _ _ _ _ _ _ _ _ c.divide-parts.result.quotient _ _ _ k
    (record { from = c.modulo-x.ensures.from; to = simp to_z-of_z at xt; same = (c.modulo-x.ensures.same.0, simp to_z-of_z at xs) })
    (record { from = c.modulo-y.ensures.from; to = simp to_z-of_z at yt; same = (c.modulo-y.ensures.same.0, simp to_z-of_z at ys) })
    (record { from = c.modulo-z.ensures.from; to = simp to_z-of_z at zt; same = (c.modulo-z.ensures.same.0, simp to_z-of_z at zs) })
    (record { upper = u1'; lower = w1'; pivot = c.column-one.ensures.pivot; same = simp to_z-of_z at e1 })
    (record { upper = u2'; lower = w2'; pivot = c.column-two.ensures.pivot; same = simp to_z-of_z at e2 })
    (record { upper = u3'; lower = w3'; pivot = c.column-three.ensures.pivot; same = simp to_z-of_z at e3 })
    (record { from = c.modulo-f.ensures.from; to = simp to_z-of_z at ft; same = (c.modulo-f.ensures.same.0, simp to_z-of_z at fs) })
    d.rest_from d2' d3'
    (record { from = c.less_times-c1.ensures.from; to = simp to_z-of_z at ot; same = (c.less_times-c1.ensures.same.0, simp to_z-of_z at os) })
    (record { from = c.modulo-c.ensures.from; to = simp to_z-of_z at ct; same = (c.modulo-c.ensures.same.0, simp to_z-of_z at cs) }))
