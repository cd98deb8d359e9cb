use Rattle.std.proofs.Common.{ℕ, ◌<◌, ◌≢◌, get_or}
use Rattle.standard_map.specs.Ends.{End}
use Rattle.standard_map.proofs.end.is_found.Given as goal

abbrev pub invariant-loop-end : goal.invariant-loop-end
invariant-loop-end g l = (k : ℕ) (d : End) → k < l.end-index → (get_or l.ends k d).over ≢ l.u
