use Rattle.std.proofs.Common.{◌≡◌, ◌++◌, filter, take}
use Rattle.quotient_graph.specs.Building.{is_spelled}
use Rattle.quotient_graph.proofs.build.push_spelled.Given as goal

abbrev pub invariant-loop-arc : goal.invariant-loop-arc
invariant-loop-arc g l = l.edges.items ≡ l.initial.edges.items ++ filter is_spelled (take l.arc-index l.star)
