use Rattle.std.{proofs.Common.◌≡◌, proofs.Common.pos, proofs.Common.length, specs.List.All}
use Rattle.exact.specs.Ratio.{Same, whole}
use Rattle.elimination.proofs.lines.zeros.Given as goal

abbrev pub invariant-loop : goal.invariant-loop
invariant-loop g l = record {
  count : length l.numbers.items ≡ l.counter;
  zero : All (λ x. Same g.N.Exact.modulus (g.N.Exact.value x) (whole (pos 0))) l.numbers.items;
}
