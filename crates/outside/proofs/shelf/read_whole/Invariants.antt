use Rattle.std.proofs.Common.{◌≡◌, ◌+◌, ◌-◌, ◌≤◌}
use Rattle.std.specs.Prelude.{vec_len}
use Rattle.outside.specs.{Last.MayRead, Held.Begins}
use Rattle.outside.proofs.shelf.read_whole.Given as goal

abbrev pub invariant-loop-buffer : goal.invariant-loop-buffer
invariant-loop-buffer g l = record {
  bytes : Begins (g.H.Shelf.holds l.initial.shelf) l.name l.bytes.items;
  same : g.H.Shelf.holds l.shelf ≡ g.H.Shelf.holds l.initial.shelf;
  place : MayRead (g.H.Shelf.last l.shelf) l.name (vec_len l.bytes);
  in_range : vec_len l.bytes ≤ l.limit + 1;
  later : g.H.Shelf.faults l.initial.shelf ≤ g.H.Shelf.faults l.shelf;
}

abbrev pub decreases-loop-buffer : goal.decreases-loop-buffer
decreases-loop-buffer g l = l.limit + 1 - vec_len l.bytes
