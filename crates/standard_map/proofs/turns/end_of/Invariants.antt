use Rattle.std.proofs.Common.{◌≡◌, ◌≢◌, ℕ, ◌<◌, drop, get_or}
use Rattle.standard_map.specs.{Ends.End, Turns.end_over}
use Rattle.standard_map.proofs.turns.end_of.Given as goal

abbrev pub invariant-loop-end : goal.invariant-loop-end
invariant-loop-end g l = record {
  left : end_over (drop l.end-index l.ends) l.u ≡ end_over l.ends l.u;
  none : (k : ℕ) (d : End) → k < l.end-index → (get_or l.ends k d).over ≢ l.u;
}
