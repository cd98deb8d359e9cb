use Rattle.std.proofs.Common.{◌≡◌, length}
use Rattle.coordination.{specs.Points.IsStep, proofs.Layers.AreCounted, proofs.PointShells.start_at}
use Rattle.coordination.proofs.count.sizes_with.Given as goal

abbrev pub invariant-loop-k : goal.invariant-loop-k
invariant-loop-k g l = record {
  counted : AreCounted (IsStep l.net) (start_at l.class) l.sizes.items l.room l.found.keys l.shell.items;
  count : length l.sizes.items ≡ l._k;
}
