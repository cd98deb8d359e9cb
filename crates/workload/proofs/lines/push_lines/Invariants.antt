use Rattle.std.proofs.Common.{◌≡◌, ◌++◌, IsTrue, length}
use Rattle.std.specs.List.{list_all}
use Rattle.workload.specs.{BaseNets.is_base_edge, Workload.all_lines}
use Rattle.workload.proofs.lines.push_lines.Given as goal

abbrev pub invariant-loop-left : goal.invariant-loop-left
invariant-loop-left l = record {
  lines : l.text.items ++ all_lines l.dimension l.m l.k l.left ≡ l.initial.text.items ++ all_lines l.dimension l.m l.k l.edges;
  base : IsTrue (list_all is_base_edge l.left);
}

abbrev pub decreases-loop-left : goal.decreases-loop-left
decreases-loop-left l = length l.left
