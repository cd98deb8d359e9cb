use Rattle.std.proofs.Common.{ℤ, pos, ◌+ℤ◌, ◌-ℤ◌, ◌*ℤ◌, FitsSigned, ◌^◌, ◌∙◌, sym, ap, subst, arith}
use Rattle.std.{specs.Int.w64, proofs.lemmas.Int.to_z-of_z}
use Rattle.map_check.proofs.Layouts.{difference_fits, once_more, part_small, sum_fits, wide}
use Rattle.map_check.proofs.carrying.moved_part.Goals as goal

pub returns-else-sum-side-clause-same : goal.returns-else-sum-side-clause-same
returns-else-sum-side-clause-same c =
    let q = c.requires in let a = c.args.part in let b = c.args.rest in let s = c.args.steps in
    let m = pos c.args.m in
    let f = c.from-side.result in let e = c.from-side.ensures in let ra = c.ranges.part in
    let rb = c.ranges.rest in let rs = c.ranges.steps in
    let pa = wide a 512 (omega arith) (part_small a c.args.m q.m q.part_from q.part_to) in
    let pb = wide b 512 (omega arith) (part_small b c.args.m q.m q.rest_from q.rest_to) in
    let pm = wide m 512 (omega arith) q.m in let ps = wide s (2 ^ 19) (omega arith) q.steps in
    let one = wide (pos 1) 1 (omega arith) (omega arith) in
    let ff : FitsSigned w64 f = record { sfits = c.from-side.type_inv } in let fsum = sum_fits a b pa pb in
    let fdif : FitsSigned w64 (a +ℤ b -ℤ f) = subst (λ (t : ℤ). FitsSigned w64 (a +ℤ b -ℤ t)) (sym e) (difference_fits a b m pa pb pm) in
    let fmore = sum_fits s (pos 1) ps one in
    simp to_z-of_z (once_more a b s m ∙ ap (λ (t : ℤ). (a +ℤ b -ℤ t) +ℤ m *ℤ (s +ℤ pos 1)) (sym e))
