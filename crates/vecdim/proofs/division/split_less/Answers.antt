use Rattle.std.proofs.Common.{ℤ, ◌≤◌, ◌*◌, ◌^◌, unsigned_abs, FitsSigned, subst, sym}
use Rattle.std.{specs.Int.w128, proofs.lemmas.Int.to_z-of_z}
use Rattle.vecdim.proofs.Boxes.{second_bound}
use Rattle.vecdim.proofs.division.split_less.Goals as goal

pub returns-clause-within : goal.returns-clause-within
returns-clause-within c =
    let rz = c.ranges.z in let rb = c.ranges.b in let rk = c.ranges.k in let rm = c.ranges.m in
    let rl : FitsSigned w128 c.less.result = record { sfits = c.less.type_inv } in let e = c.less.ensures in
    let e' = simp to_z-of_z at e in let w = c.split.ensures.within in let w' = simp to_z-of_z at w in
    λ n h k.
    w' n
    (subst (λ (t : ℤ). unsigned_abs t ≤ n * unsigned_abs c.args.m) (sym e')
    (second_bound c.args.z c.args.b c.args.k c.args.m n c.requires.b_from c.requires.b_to h k))

pub returns-clause-small : goal.returns-clause-small
returns-clause-small c = returns-clause-within c (2 ^ 61) c.requires.z c.requires.k
