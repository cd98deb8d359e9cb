use Rattle.std.proofs.Common.{◌+◌, ◌∷◌, ap, drop, sym}
use Rattle.net_report.specs.Primitives.{edge_text, edges_text}
use Rattle.net_report.proofs.Growing.{line_more}
use Rattle.net_report.proofs.primitives.push_edges.Goals as goal

pub loop-edge-preserved : goal.loop-edge-preserved
loop-edge-preserved g c =
    let D = g.row.D in let edges = c.args.edges.now in let i = c.loop-edge.edge-index in let edge = c.edge-item.result in
    let rest = drop (i + 1) edges in
    line_more (edges_text D) (edge_text D edge) (edges_text D rest) edges i edge c.loop-edge.text.items c.push_edge.new.text.items _ c.loop-edge-test.true
    c.in_ok-push_edge.ensures (ap (λ e. edges_text D (e ∷ rest)) (sym c.edge-item.is)) c.loop-edge.invariant
