-- Of `split_less_two`: what `less` and `split` require; the clauses `within` and `small`.
use Rattle.std.proofs.Common.{ℤ, ◌≤◌, ◌*◌, ◌^◌, ◌-ℤ◌, ◌*ℤ◌, unsigned_abs, FitsSigned, subst, sym, ap, ◌∙◌}
use Rattle.std.{specs.Int.w128, proofs.lemmas.Int.to_z-of_z}
use Rattle.vecdim.proofs.Boxes.{above_from, below_small, less_again, part_taken, third_bound}
use Rattle.vecdim.proofs.division.split_less_two.Goals as goal

pub less-requires : goal.less-requires
less-requires c =
    let h = c.requires in let rz = c.ranges.z in let rc = c.ranges.c in let rk = c.ranges.k in
    record {
      z = simp to_z-of_z (part_taken c.args.z h.z);
      b = simp to_z-of_z (below_small c.args.c c.args.m h.c_from h.c_to h.m);
      k = simp to_z-of_z h.k;
    }

pub less-requires-2 : goal.less-requires-2
less-requires-2 c =
    let h = c.requires in let rz = c.ranges.z in let rc = c.ranges.c in let rk = c.ranges.k in
    let rf = c.ranges.f in let rl = c.ranges.l in
    let r : FitsSigned w128 c.less.result = record { sfits = c.less.type_inv } in
    let e = simp to_z-of_z at c.less.ensures in
    let s = subst (λ (t : ℤ). unsigned_abs t ≤ 2 ^ 125) (sym e)
    (less_again c.args.z c.args.c c.args.k h.z (below_small c.args.c c.args.m h.c_from h.c_to h.m) h.k) in
    record {
      z = simp to_z-of_z s;
      b = simp to_z-of_z (below_small c.args.f c.args.m h.f_from h.f_to h.m);
      k = simp to_z-of_z h.l;
    }

pub split-requires : goal.split-requires
split-requires c = let rm = c.ranges.m in simp to_z-of_z (above_from c.args.c c.args.m c.requires.c_from c.requires.c_to)

pub returns-clause-within : goal.returns-clause-within
returns-clause-within c =
    let rz = c.ranges.z in let rc = c.ranges.c in let rk = c.ranges.k in let rf = c.ranges.f in
    let rl = c.ranges.l in let rm = c.ranges.m in
    let r1 : FitsSigned w128 c.less.result = record { sfits = c.less.type_inv } in
    let r2 : FitsSigned w128 c.less-2.result = record { sfits = c.less-2.type_inv } in
    let a = c.less.ensures in let b = c.less-2.ensures in let a' = simp to_z-of_z at a in
    let b' = simp to_z-of_z at b in let e = b' ∙ ap (λ (t : ℤ). t -ℤ c.args.f *ℤ c.args.l) a' in
    let w = c.split.ensures.within in let w' = simp to_z-of_z at w in let h = c.requires in
    λ n i j k.
    w' (2 * n)
    (subst (λ (t : ℤ). unsigned_abs t ≤ 2 * n * unsigned_abs c.args.m) (sym e)
    (third_bound c.args.z c.args.c c.args.k c.args.f c.args.l c.args.m n h.c_from h.c_to h.f_from h.f_to i j k))

pub returns-clause-small : goal.returns-clause-small
returns-clause-small c = returns-clause-within c (2 ^ 61) c.requires.z c.requires.k c.requires.l
