use Rattle.std.specs.Int.RustNames.{unsigned_abs}
use Rattle.integers.specs.Vectors.{vector}
use Rattle.vecdim.proofs.Lattice.{Kept}
use Rattle.vecdim.proofs.columns.column.Given as goal

abbrev pub invariant-loop-below : goal.invariant-loop-below
invariant-loop-below l =
    Kept l.m (vector l.fn.upper.x l.fn.upper.y l.fn.upper.z) (vector l.fn.lower.x l.fn.lower.y l.fn.lower.z) (vector l.above.x l.above.y l.above.z)
    (vector l.below.x l.below.y l.below.z)

abbrev pub decreases-loop-below : goal.decreases-loop-below
decreases-loop-below l = unsigned_abs l.below.x
