use Rattle.std.proofs.Common.{◌+◌, ◌-◌, length}
use Rattle.connected_dim.specs.{Search.missing_count, Search.IsSearchedTo, Paths.IsSettledTo}
use Rattle.connected_dim.proofs.search.search.Given as goal

abbrev pub invariant-loop-i : goal.invariant-loop-i
invariant-loop-i g l = record {
  searched : IsSearchedTo l.g l.start l.found l.order.items l.i;
  settled : IsSettledTo l.g l.start l.found l.order.items l.i;
}

abbrev pub decreases-loop-i : goal.decreases-loop-i
decreases-loop-i g l = (missing_count l.found + length l.order.items) - l.i
