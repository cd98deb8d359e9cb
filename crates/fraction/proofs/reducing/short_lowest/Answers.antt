use Rattle.integers.proofs.numbers.Divisors.{divisor_positive}
use Rattle.fraction.proofs.Operations.{lowest}
use Rattle.fraction.proofs.reducing.short_lowest.Goals as goal

pub nonzero_div-result : goal.nonzero_div-result
nonzero_div-result c = divisor_positive c.args.num c.args.den c.short_gcd-common.result c.requires c.short_gcd-common.ensures

pub nonzero_div-result-2 : goal.nonzero_div-result-2
nonzero_div-result-2 c = divisor_positive c.args.num c.args.den c.short_gcd-common.result c.requires c.short_gcd-common.ensures

pub returns : goal.returns
returns c = lowest c.args.num c.args.den c.short_gcd-common.result c.requires c.short_gcd-common.ensures
