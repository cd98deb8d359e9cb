use Rattle.std.proofs.Common.{◌+◌, sym, subst}
use Rattle.elimination.{specs.Lines.AreWeights, proofs.Firsts.handed_on}
use Rattle.elimination.proofs.solution.pop_line.Goals as goal

pub returns-in_err-last : goal.returns-in_err-last
returns-in_err-last g c =
    let popped = c.pop_last-last_sums.ensures in let told = c.from_residual.ensures.1 in
    record {
      lines = popped.lines;
      sums = popped.sums;
      wide = popped.wide;
      last = handed_on _ _ _ _ told tt;
      rising = handed_on _ _ _ _ told tt;
      values = λ v h s. ((popped.values v h).0, handed_on _ _ _ _ told tt);
    }

pub returns : goal.returns
returns g c =
    let k = c.args.k in let popped = c.pop_last-last_sums.ensures in
    record {
      lines = popped.lines;
      sums = popped.sums;
      wide = popped.wide;
      last = c.in_ok-last.ensures.below;
      rising = c.in_ok-last.ensures.rising;
      values = λ v h s.
          let rest = popped.values v h in
          let weights = subst (λ xs. AreWeights g.N.Exact.modulus g.N.Exact.value xs v (k + 1) k) (sym c.deref.ensures.value) rest.0.weights in
          (rest.0, record { joined = c.in_ok-last.ensures.values v weights s; sums = rest.1 });
    }
