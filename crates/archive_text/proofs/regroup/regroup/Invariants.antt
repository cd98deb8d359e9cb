use Rattle.std.proofs.Common.{◌≡◌, ◌≤◌, ◌+◌, ◌++◌, length, map}
use Rattle.std.specs.Vec.{vec_capacity}
use Rattle.archive_text.specs.Regrouped.{regrouped, last_of, going_on}
use Rattle.archive_text.proofs.regroup.regroup.Given as goal

abbrev pub invariant-loop-grouped : goal.invariant-loop-grouped
invariant-loop-grouped g l = record {
  whole : map g.T.Keyed.entry l.grouped.items ++ going_on (last_of (map g.T.Keyed.entry l.grouped.items)) (map g.T.Keyed.entry l.items.items) ≡ regrouped
      (map g.T.Keyed.entry l.fn.items.items);
  room : length l.grouped.items + length l.items.items ≤ vec_capacity l.grouped;
}

abbrev pub decreases-loop-grouped : goal.decreases-loop-grouped
decreases-loop-grouped g l = length l.items.items
