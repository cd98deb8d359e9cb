use Rattle.std.proofs.Common.{rules, subst, sym, ◌≡◌, ◌≤◌, ◌^◌, ℤ, pos, unsigned_abs, to_z, of_z, ◌*ℤ◌}
use Rattle.std.specs.Int.{w64, w128}
use Rattle.fraction.{specs.Values.fraction_value, proofs.Operations.cross_small}
use Rattle.fraction.proofs.products.cross.Goals as goal

pub returns-clause-small : goal.returns-clause-small
returns-clause-small c =
    let e : to_z w128 (of_z w128 (to_z w128 (of_z w128 (to_z w64 (of_z w64 c.args.a.num))) *ℤ to_z w128 (of_z w128 (to_z w64 (of_z w64 c.args.b.den))))) ≡
    (fraction_value c.args.a).num *ℤ pos (fraction_value c.args.b).den = search rules in
    subst (λ (z : ℤ). unsigned_abs z ≤ 2 ^ 124) (sym e) (cross_small (fraction_value c.args.a) (fraction_value c.args.b) c.args.a.small c.args.b.small)
