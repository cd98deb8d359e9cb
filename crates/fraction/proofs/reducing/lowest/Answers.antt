use Rattle.integers.proofs.numbers.Divisors.{divisor_positive}
use Rattle.fraction.proofs.Operations.{lowest, lowest_whole}
use Rattle.fraction.proofs.reducing.lowest.Goals as goal

pub returns-then-den-eq1 : goal.returns-then-den-eq1
returns-then-den-eq1 c = lowest_whole c.args.num c.args.den c.if-den-eq1.true

pub nonzero_div-result : goal.nonzero_div-result
nonzero_div-result c = divisor_positive c.args.num c.args.den c.gcd-common.result c.requires c.gcd-common.ensures.greatest

pub nonzero_div-result-2 : goal.nonzero_div-result-2
nonzero_div-result-2 c = divisor_positive c.args.num c.args.den c.gcd-common.result c.requires c.gcd-common.ensures.greatest

pub returns : goal.returns
returns c = lowest c.args.num c.args.den c.gcd-common.result c.requires c.gcd-common.ensures.greatest
