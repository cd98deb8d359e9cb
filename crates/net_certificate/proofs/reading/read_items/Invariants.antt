use Rattle.std.proofs.Common.{◌≡◌, ◌≤◌, ◌+◌, ℕ, List, length}
use Rattle.quotient_graph.specs.AnyGraphs.{graph_view}
use Rattle.net_certificate.specs.{Items.item_views, Reading.IsIn, Reading.IsBegun, Stages.Listed, Stages.drawing_of}
use Rattle.net_certificate.proofs.reading.read_items.Given as goal

abbrev pub invariant-loop-size : goal.invariant-loop-size
invariant-loop-size l = ((text : List ℕ) → IsBegun (graph_view l.first) text l.initial.lines
    → IsIn text (Listed (drawing_of (graph_view l.first)) (item_views l.items)) l.lines)
    × (l.k ≡ length l.items + 2) × (l.k + length l.lines.rest ≤ 16777219)

abbrev pub decreases-loop-size : goal.decreases-loop-size
decreases-loop-size l = length l.lines.rest
