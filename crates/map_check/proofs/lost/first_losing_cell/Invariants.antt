use Rattle.std.proofs.Common.{◌≡◌, ℕ, ◌<◌}
use Rattle.periodic_net.specs.{Graph.Vertex, Graph.vertex, Maps.IsDrawnBy}
use Rattle.map_check.specs.{Layouts.cell_at, Layouts.table_of, Places.KeepsArc}
use Rattle.map_check.proofs.lost.first_losing_cell.Given as goal

abbrev pub invariant-loop-p : goal.invariant-loop-p
invariant-loop-p g l = record {
  cell : l.cell ≡ cell_at g.row.D l.map.m l.p;
  kept : (f : Vertex → Vertex) → IsDrawnBy l.g (table_of g.row.D l.map.m l.map.images l.map.base) f → (q : ℕ) → q < l.p
      → KeepsArc l.h f (vertex l.arc.arc.from (cell_at g.row.D l.map.m q)) l.arc.arc;
}
