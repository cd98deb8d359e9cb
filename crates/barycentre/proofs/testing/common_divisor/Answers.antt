use Rattle.std.proofs.Common.{rules, ◌≡◌, subst, unsigned_abs}
use Rattle.std.specs.Int.{IsGcd}
use Rattle.barycentre.proofs.Existing.{divisor_of_parts}
use Rattle.barycentre.proofs.testing.common_divisor.Goals as goal

pub returns : goal.returns
returns c =
    let v = c.args.v.now in let x : c.unsigned_abs.result ≡ unsigned_abs v.x = search rules in
    let y : c.unsigned_abs-2.result ≡ unsigned_abs v.y = search rules in
    let z : c.unsigned_abs-3.result ≡ unsigned_abs v.z = search rules in
    divisor_of_parts c.args.n v c.gcd-x.result c.gcd-y.result c.gcd.result
    (subst (λ t. IsGcd c.args.n t c.gcd-x.result) x c.gcd-x.ensures.greatest)
    (subst (λ t. IsGcd c.gcd-x.result t c.gcd-y.result) y c.gcd-y.ensures.greatest)
    (subst (λ t. IsGcd c.gcd-y.result t c.gcd.result) z c.gcd.ensures.greatest)
