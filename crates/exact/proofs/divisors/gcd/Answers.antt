use Rattle.std.proofs.{lemmas.Nat.Gcd.IsGcd-from_zero, lemmas.Nat.Gcd.IsGcd-from_mod, Common.arith}
use Rattle.exact.proofs.Bezout.{gcd_is_combination}
use Rattle.exact.proofs.divisors.gcd.Goals as goal

pub loop-rest-preserved : goal.loop-rest-preserved
loop-rest-preserved c g h = c.loop-rest.invariant g (IsGcd-from_mod c.loop-rest.divisor c.loop-rest.rest g h)

pub returns-then-rest-eq0-clause-greatest : goal.returns-then-rest-eq0-clause-greatest
returns-then-rest-eq0-clause-greatest c = c.loop-rest.invariant c.loop-rest.divisor (IsGcd-from_zero c.loop-rest.divisor c.loop-rest.rest c.if-rest-eq0.true)

pub returns-then-rest-eq0-clause-combination : goal.returns-then-rest-eq0-clause-combination
returns-then-rest-eq0-clause-combination c = gcd_is_combination c.args.a c.args.b c.loop-rest.divisor (returns-then-rest-eq0-clause-greatest c)

pub returns-then-divisor-clause-combination : goal.returns-then-divisor-clause-combination
returns-then-divisor-clause-combination c = search (arith, gcd_is_combination)

pub returns-clause-greatest : goal.returns-clause-greatest
returns-clause-greatest c = c.loop-rest.invariant c.short_gcd-2.result
    (IsGcd-from_mod c.loop-rest.divisor c.loop-rest.rest c.short_gcd-2.result c.short_gcd-2.ensures)

pub returns-clause-combination : goal.returns-clause-combination
returns-clause-combination c = gcd_is_combination c.args.a c.args.b c.short_gcd-2.result (returns-clause-greatest c)
