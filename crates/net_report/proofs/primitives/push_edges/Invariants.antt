use Rattle.std.proofs.Common.{◌≡◌, ◌++◌, drop}
use Rattle.net_report.specs.Primitives.{edges_text}
use Rattle.net_report.proofs.primitives.push_edges.Given as goal

abbrev pub invariant-loop-edge : goal.invariant-loop-edge
invariant-loop-edge g l = l.text.items ++ edges_text g.row.D (drop l.edge-index l.edges) ≡ l.initial.text.items ++ edges_text g.row.D l.edges
