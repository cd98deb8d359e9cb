use Rattle.std.proofs.Common.{arith, rules, ◌≡◌, to_z}
use Rattle.std.{proofs.lemmas.Int.ints, specs.Prelude.pos, specs.Int.w64}
use Rattle.fraction.{specs.Quotients.signed_ratio, proofs.Operations.fraction_reduced, proofs.Operations.fraction_small}
use Rattle.fraction.proofs.reducing.fitted.Goals.{then-negative, else-negative}
use Rattle.fraction.proofs.reducing.fitted.Goals as goal

pub invariant_of-result : goal.invariant_of-result
invariant_of-result c =
    let d : to_z w64 c.args.den ≡ pos c.args.den = omega (arith, ints) in
    let n : to_z w64 c.if-negative.num-bits ≡ (signed_ratio c.args.negative c.args.num c.args.den).num = search rules in
    record {
      positive = omega (arith, ints);
      reduced = fraction_reduced c.args.negative c.args.num c.args.den (to_z w64 c.if-negative.num-bits)
          (to_z w64 c.args.den) n d c.requires.positive c.requires.coprime;
      small = fraction_small c.args.negative c.args.num c.args.den (to_z w64 c.if-negative.num-bits) (to_z w64 c.args.den) n d
          (c.if-num-gt-MOST.false, c.if-den-gt-MOST.false);
    }
