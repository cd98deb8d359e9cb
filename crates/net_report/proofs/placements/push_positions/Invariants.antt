use Rattle.std.proofs.Common.{◌≡◌, ◌++◌}
use Rattle.net_report.specs.Placements.{positions_text}
use Rattle.net_report.proofs.placements.push_positions.Given as goal

abbrev pub invariant-loop-i : goal.invariant-loop-i
invariant-loop-i g l = l.text.items ≡ l.initial.text.items ++ positions_text l.names l.placed l.i
