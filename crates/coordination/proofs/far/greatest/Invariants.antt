use Rattle.std.proofs.Common.{ℕ, ◌<◌, ◌≤◌, slice_index_or}
use Rattle.coordination.specs.declared.extent.TheConstants.{WIDEST}
use Rattle.coordination.proofs.far.greatest.Given as goal

abbrev pub invariant-loop-part : goal.invariant-loop-part
invariant-loop-part l = record {
  all : (i : ℕ) → i < l.part-index → slice_index_or l.far i 0 ≤ l.greatest;
  bound : l.greatest ≤ WIDEST;
}
