use Rattle.std.proofs.Common.{rules}
use Rattle.vecdim.proofs.Adding.{two_fit, size_fits, size_is}
use Rattle.vecdim.proofs.staircase.Staircase.size.Goals as goal

pub overflow_mul-result : goal.overflow_mul-result
overflow_mul-result g c = search (rules, two_fit)

pub overflow_mul-result-2 : goal.overflow_mul-result-2
overflow_mul-result-2 g c = search (rules, two_fit, size_fits)

pub returns : goal.returns
returns g c = search (rules, two_fit, size_fits, size_is)
