use Rattle.std.proofs.Common.{◌≡◌, ◌+◌, ◌-◌, length}
use Rattle.elimination.specs.Listed.{Level, list_to}
use Rattle.elimination.specs.{Lines.AreLines, Lines.AreWide, Lines.IsSymmetric, Faults.AreGood}
use Rattle.elimination.specs.Gone.{AreBelow, AreGone, HasGone, level_at, gone_entry}
use Rattle.elimination.proofs.solution.eliminate_all.Given as goal

abbrev pub invariant-loop-i : goal.invariant-loop-i
invariant-loop-i g l = record {
  count : HasGone l.gone l.i;
  lines : length l.lines.items ≡ l.n - l.i + 1;
  sums : length l.sums.items ≡ l.n - l.i + 1;
  wide : AreWide l.lines.items (l.n - l.i + 1) (l.n - l.i + 1);
  below : AreBelow l.gone.joined.items l.n l.i;
  values : (v : Level) → AreLines g.N.Exact.modulus g.N.Exact.value l.initial.lines.items l.initial.sums.items v (l.n + 1) (l.n + 1)
      → IsSymmetric g.N.Exact.modulus v (l.n + 1)
      → AreGone g.N.Exact.modulus g.N.Exact.value g.N.Exact.fits l.gone v l.n l.i
      × AreGood g.N.Exact.modulus g.N.Exact.fits (list_to l.i (gone_entry g.row.D l.n v))
      × AreLines g.N.Exact.modulus g.N.Exact.value l.lines.items l.sums.items (level_at l.n v l.i) (l.n - l.i + 1) (l.n - l.i + 1)
      × IsSymmetric g.N.Exact.modulus (level_at l.n v l.i) (l.n - l.i + 1);
}
