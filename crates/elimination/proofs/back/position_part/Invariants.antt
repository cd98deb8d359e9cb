use Rattle.std.proofs.Common.{ℕ}
use Rattle.exact.specs.{Ratio.Ratio, Values.HasValue}
use Rattle.elimination.specs.Listed.{Level, back_sum, back_entry}
use Rattle.elimination.{specs.Lines.IsLastLine, specs.Lines.AreRowsOfValues, proofs.Loops.AreDone}
use Rattle.elimination.proofs.back.position_part.Given as goal

abbrev pub invariant-loop-joined : goal.invariant-loop-joined
invariant-loop-joined g l =
    (v : Level) (p : ℕ → ℕ → Ratio) → IsLastLine g.N.Exact.modulus g.N.Exact.value l.last l.sums v l.k
    → AreRowsOfValues g.N.Exact.modulus g.N.Exact.value l.below p l.k
    → AreDone g.N.Exact.modulus g.N.Exact.fits (back_entry v l.k p l.c)
    (λ j. HasValue g.N.Exact.modulus (g.N.Exact.value l.sum) (back_sum v l.k p l.c j)) l.last 0 l.k l.joined-index
