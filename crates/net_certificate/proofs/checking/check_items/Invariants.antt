use Rattle.std.proofs.Common.{◌≤◌, ◌+◌, length}
use Rattle.quotient_graph.specs.AnyGraphs.{graph_view}
use Rattle.net_certificate.specs.Checks.{ArePassed}
use Rattle.net_certificate.proofs.checking.check_items.Given as goal

abbrev pub invariant-loop-alloc : goal.invariant-loop-alloc
invariant-loop-alloc l = ArePassed (graph_view l.first) l.initial.lines l.lines l.k l.text.items l.refused × (l.k + length l.lines.rest ≤ 16777219)

abbrev pub decreases-loop-alloc : goal.decreases-loop-alloc
decreases-loop-alloc l = length l.lines.rest
