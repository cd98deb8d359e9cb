use Rattle.std.proofs.Common.{◌≡◌, ◌++◌, drop}
use Rattle.cover_answers.specs.Blocks.{edge_lines}
use Rattle.cover_answers.proofs.blocks.push_edges.Given as goal

abbrev pub invariant-loop-edge : goal.invariant-loop-edge
invariant-loop-edge g l = l.text.items ++ edge_lines g.row.D (drop l.edge-index l.edges) ≡ l.initial.text.items ++ edge_lines g.row.D l.edges
