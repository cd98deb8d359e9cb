use Rattle.std.proofs.Common.{◌≡◌, ◌+◌, ◌-◌, length}
use Rattle.elimination.specs.Listed.{Level, list_to, position_up_to}
use Rattle.elimination.specs.{Lines.AreRowsOfValues, Faults.AreGood}
use Rattle.elimination.specs.Gone.{AreGone, level_at, placed_entry}
use Rattle.elimination.proofs.solution.place_all.Given as goal

abbrev pub invariant-loop-j : goal.invariant-loop-j
invariant-loop-j g l = record {
  count : length l.rows.items ≡ l.j + 1;
  values : (v : Level) → AreGone g.N.Exact.modulus g.N.Exact.value g.N.Exact.fits l.gone v l.n l.n
      → AreRowsOfValues g.N.Exact.modulus g.N.Exact.value l.rows.items (position_up_to l.j (level_at l.n v (l.n - l.j))) (l.j + 1)
      × AreGood g.N.Exact.modulus g.N.Exact.fits (list_to l.j (placed_entry g.row.D l.n v));
}
