use Rattle.std.proofs.Common.{◌≡◌, drop}
use Rattle.coordination.specs.{Points.ends_of, Found.all_found, Found.all_new}
use Rattle.coordination.proofs.reach.follow.Given as goal

abbrev pub invariant-loop-arc : goal.invariant-loop-arc
invariant-loop-arc g l = record {
  found : all_found l.found.keys (ends_of l.from (drop l.arc-index l.star)) ≡ all_found l.initial.found.keys (ends_of l.from l.star);
  next : all_new l.found.keys l.next.items (ends_of l.from (drop l.arc-index l.star)) ≡ all_new l.initial.found.keys l.initial.next.items
      (ends_of l.from l.star);
}
