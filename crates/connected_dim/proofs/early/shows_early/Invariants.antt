use Rattle.std.proofs.Common.{All}
use Rattle.integers.specs.Vectors.{IsWithin}
use Rattle.periodic_net.specs.{Limits.most_closed, Split.ClosedShift}
use Rattle.connected_dim.proofs.early.shows_early.Given as goal

abbrev pub invariant-loop-e : goal.invariant-loop-e
invariant-loop-e g l = record {
  closed : All (ClosedShift l.g 1) l.walks.items;
  within : All (IsWithin most_closed) l.walks.items;
}
