use Rattle.std.proofs.Common.{◌≡◌, ℕ, ◌<◌, length, slice_index_or, IsSome}
use Rattle.std.specs.Prelude.{drop}
use Rattle.periodic_net.specs.Graph.{Arc}
use Rattle.connected_dim.specs.{Search.walk_to, Search.Grows, Paths.IsSettledTo, Paths.IsPathSearch}
use Rattle.connected_dim.proofs.search.expand.Given as goal

abbrev pub invariant-loop-arc : goal.invariant-loop-arc
invariant-loop-arc g l = record {
  grows : Grows l.g l.start l.initial.found l.initial.order.items l.found l.order.items;
  leads : (k : ℕ) (a : Arc) → k < l.arc-index → IsSome (walk_to l.found (slice_index_or l.arc-items k a).to);
  paths : (i : ℕ) → i < length l.initial.order.items → slice_index_or l.initial.order.items i 0 ≡ l.u
      → IsSettledTo l.g l.start l.initial.found l.initial.order.items i
      → IsPathSearch l.g l.start l.found l.order.items i (drop l.arc-index l.arc-items);
}
