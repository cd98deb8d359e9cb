use Rattle.std.proofs.Common.{ℕ, ◌<◌, slice_index_or}
use Rattle.periodic_net.specs.Graph.{Arc}
use Rattle.coordination.specs.{Extents.IsCellWithin, Extents.IsNarrow, declared.extent.TheConstants.LONGEST}
use Rattle.coordination.proofs.extent.greatest_shift.Given as goal

abbrev pub invariant-loop-edge : goal.invariant-loop-edge
invariant-loop-edge g l = record {
  shifts : (k : ℕ) (d : Arc) → k < l.edge-index → IsCellWithin l.greatest (slice_index_or l.edges k d).shift;
  narrow : IsNarrow LONGEST l.greatest;
}
