use Rattle.std.proofs.Common.{arith, rules, ◌≡◌, refl, subst, sym, ℤ, pos, to_z, of_z}
use Rattle.std.{specs.Int.w32, specs.Int.w64, proofs.lemmas.Int.ints}
use Rattle.exact.specs.Ratio.{IsInLowestTerms, ratio}
use Rattle.fraction.specs.Reduced.{HasSmallParts}
use Rattle.fraction.proofs.Operations.{whole_same, whole_reduced, whole_small}
use Rattle.fraction.proofs.arithmetic.FractionExact.from_small.Goals as goal

-- the number in 64 bits
same_number : (c : goal.Start) → to_z w64 (of_z w64 (to_z w32 (of_z w32 c.args.v))) ≡ c.args.v
same_number c = search rules

pub invariant_of-result : goal.invariant_of-result
invariant_of-result c = record {
  positive = omega (arith, ints);
  reduced = subst (λ (z : ℤ). IsInLowestTerms (ratio z (pos 1))) (sym (same_number c)) (whole_reduced c.args.v);
  small = subst (λ (z : ℤ). HasSmallParts (ratio z (pos 1))) (sym (same_number c)) (whole_small c.args.v (omega (arith, ints)));
}

pub returns : goal.returns
returns c = whole_same c.args.v _ (search rules) refl
