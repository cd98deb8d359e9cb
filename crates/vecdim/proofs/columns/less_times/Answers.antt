-- Of `less_times`: that numbers fit; what `modulo` requires; the clause `same`.
use Rattle.std.{proofs.Common.FitsSigned, proofs.lemmas.Int.to_z-of_z, specs.Int.w128}
use Rattle.vecdim.proofs.Boxes.{boxed_product}
use Rattle.vecdim.proofs.columns.less_times.Goals as goal

pub overflow_mul-q : goal.overflow_mul-q
overflow_mul-q c =
    let r = c.requires in let rb = c.ranges.b in let rq = c.ranges.q in
    simp to_z-of_z (boxed_product c.args.a c.args.q c.args.b c.args.m r.m_to r.a_from r.a_to r.b_from r.b_to r.q_from r.q_to).0

pub overflow_sub-a : goal.overflow_sub-a
overflow_sub-a c =
    let r = c.requires in let ra = c.ranges.a in let rb = c.ranges.b in let rq = c.ranges.q in
    let p = boxed_product c.args.a c.args.q c.args.b c.args.m r.m_to r.a_from r.a_to r.b_from r.b_to r.q_from r.q_to in
    let p0 = p.0 in simp to_z-of_z p.1

pub modulo-requires : goal.modulo-requires
modulo-requires c = let m = c.ranges.m in record { m = simp to_z-of_z c.requires.m }

pub returns-clause-same : goal.returns-clause-same
returns-clause-same c =
    let m = c.ranges.m in let f : FitsSigned w128 c.modulo.result = record { sfits = c.modulo.type_inv } in
    let e = c.modulo.ensures.same in let r = c.requires in
    let ra = c.ranges.a in let rb = c.ranges.b in let rq = c.ranges.q in
    let p = boxed_product c.args.a c.args.q c.args.b c.args.m r.m_to r.a_from r.a_to r.b_from r.b_to r.q_from r.q_to in
    let p0 = p.0 in let p1 = p.1 in let h = e.1 in
    (e.0, simp to_z-of_z (simp to_z-of_z at h))
