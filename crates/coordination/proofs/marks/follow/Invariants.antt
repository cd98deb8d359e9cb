use Rattle.std.proofs.Common.{◌≡◌, drop}
use Rattle.coordination.specs.Marks.{all_marks, all_spots, spots_along}
use Rattle.coordination.proofs.marks.follow.Given as goal

abbrev pub invariant-loop-step : goal.invariant-loop-step
invariant-loop-step l = record {
  marks : all_marks l.marks (spots_along l.from (drop l.step-index l.star)) ≡ all_marks l.initial.marks (spots_along l.from l.star);
  found : all_spots l.marks l.found.items (spots_along l.from (drop l.step-index l.star)) ≡ all_spots l.initial.marks l.initial.found.items
      (spots_along l.from l.star);
}
