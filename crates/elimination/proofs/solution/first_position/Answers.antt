use Rattle.std.proofs.Common.{pos}
use Rattle.exact.{specs.Ratio.whole, specs.Values.HasValue, proofs.CallerLemmas.one_cancels}
use Rattle.elimination.proofs.solution.first_position.Goals as goal

pub returns : goal.returns
returns g c =
    let n = g.N.Exact in
    let zero : HasValue n.modulus (n.value c.zero-zero.result) (whole (pos 0)) = record { same = c.zero-zero.ensures; denominator = one_cancels } in
    record { first = zero; second = zero; third = λ d. zero; flat = λ d. zero.same }
