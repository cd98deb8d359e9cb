use Rattle.std.proofs.lemmas.Nat.Gcd.{IsGcd-from_zero, IsGcd-from_mod}
use Rattle.exact.proofs.divisors.short_gcd.Goals as goal

pub loop-rest-preserved : goal.loop-rest-preserved
loop-rest-preserved c g h = c.loop-rest.invariant g (IsGcd-from_mod c.loop-rest.divisor c.loop-rest.rest g h)

pub returns : goal.returns
returns c = c.loop-rest.invariant c.loop-rest.divisor (IsGcd-from_zero c.loop-rest.divisor c.loop-rest.rest c.loop-rest-test.false)
