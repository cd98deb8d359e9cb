use Rattle.std.proofs.Common.{◌≡◌}
use Rattle.workload.specs.Workload.{workload}
use Rattle.workload.proofs.text.workload_text.Given as goal

abbrev pub invariant-loop-i : goal.invariant-loop-i
invariant-loop-i l = l.text.items ≡ workload l.i
