use Rattle.std.proofs.Common.{◌≡◌, ◌++◌}
use Rattle.workload.specs.Workload.{lines_before}
use Rattle.workload.proofs.lines.push_places.Given as goal

abbrev pub invariant-loop-r : goal.invariant-loop-r
invariant-loop-r l = l.text.items ≡ l.initial.text.items ++ lines_before l.dimension l.m l.k l.e l.r
