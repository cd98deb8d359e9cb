-- Of `divide_by`: what `split_less_two` requires; what it ensures.
use Rattle.std.proofs.Common.{rules, arith, ◌^◌, sym, subst, FitsSigned}
use Rattle.std.{specs.Int.w128, proofs.lemmas.Int.ints, proofs.lemmas.Int.to_z-of_z, proofs.Math.Nat.le_trans}
use Rattle.integers.specs.Vectors.{Vector, vector, IsWithin}
use Rattle.vecdim.{specs.Stairs.stairs, specs.Steps.HasRemainder, proofs.Boxes.below_small, proofs.Boxes.divided_is}
use Rattle.vecdim.proofs.division.divide_by.Goals as goal

pub split_less_two-z-requires-clause-k : goal.split_less_two-z-requires-clause-k
split_less_two-z-requires-clause-k c = let n = subst (IsWithin (2 ^ 61)) (sym c.v.view_is) c.requires.vector in omega (arith, ints)

pub returns : goal.returns
returns c =
    let s = c.args.s in let v = c.v.inside in let p = c.requires.small in
    let x = c.split-x.result in let y = c.split_less-y.result in let z = c.split_less_two-z.result in
    let fa : FitsSigned w128 s.first_x = search rules in let fb : FitsSigned w128 s.first_y = search rules in
    let fc : FitsSigned w128 s.first_z = search rules in let fe : FitsSigned w128 s.second_y = search rules in
    let ff : FitsSigned w128 s.second_z = search rules in let fi : FitsSigned w128 s.third_z = search rules in
    let fx : FitsSigned w128 v.x = search rules in let fy : FitsSigned w128 v.y = search rules in
    let fz : FitsSigned w128 v.z = search rules in let qx : FitsSigned w128 x.quotient = search rules in
    let qy : FitsSigned w128 y.quotient = search rules in let qz : FitsSigned w128 z.quotient = search rules in
    let rx : FitsSigned w128 x.rest = search rules in let ry : FitsSigned w128 y.rest = search rules in
    let rz : FitsSigned w128 z.rest = search rules in
    let ex = c.split-x.ensures in let ey = c.split_less-y.ensures in let ez = c.split_less_two-z.ensures in
    let xt = ex.to in let xt' = simp to_z-of_z at xt in let xs = ex.same in let xs' = simp to_z-of_z at xs in
    let yt = ey.to in let yt' = simp to_z-of_z at yt in let ys = ey.same in let ys' = simp to_z-of_z at ys in
    let zt = ez.to in let zt' = simp to_z-of_z at zt in let zs = ez.same in let zs' = simp to_z-of_z at zs in
    let xn = ex.small in let xn' = simp to_z-of_z at xn in
    let yn = ey.within in let yn' = simp to_z-of_z at yn in let zn = ez.within in let zn' = simp to_z-of_z at zn in
    let divided = divided_is {S = stairs s.first_x s.first_y s.first_z s.second_y s.second_z s.third_z} {v = vector v.x v.y v.z}
    {q = vector x.quotient y.quotient z.quotient} {r = vector x.rest y.rest z.rest} (ex.from, xt', xs') (ey.from, yt', ys') (ez.from, zt', zs') in
    simp to_z-of_z (record {
      divided = subst (λ (v : Vector). HasRemainder (stairs s.first_x s.first_y s.first_z s.second_y s.second_z s.third_z) v
          (vector x.quotient y.quotient z.quotient) (vector x.rest y.rest z.rest)) c.v.view_is divided;
      within = λ n h.
          let w = subst (IsWithin n) (sym c.v.view_is) h in let i = le_trans xn' w.0 in let j = yn' n w.1 i in
          (omega (arith, i), omega (arith, j), zn' n w.2 i j);
      small = (below_small _ _ ex.from xt' p.first_x, below_small _ _ ey.from yt' p.second_y, below_small _ _ ez.from zt' p.third_z);
    })
