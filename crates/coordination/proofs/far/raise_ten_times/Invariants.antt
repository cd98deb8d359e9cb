use Rattle.std.proofs.Common.{◌≡◌}
use Rattle.coordination.specs.Far.{AreFarAfter}
use Rattle.coordination.proofs.far.raise_ten_times.Given as goal

abbrev pub invariant-loop-k : goal.invariant-loop-k
invariant-loop-k g l = record {
  far : AreFarAfter l.cell.graph l.axis l._k l.far;
  next : l.next ≡ l.far;
}
