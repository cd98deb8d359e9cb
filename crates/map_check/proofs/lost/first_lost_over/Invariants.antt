use Rattle.std.proofs.Common.{◌<◌, ◌≤◌, length}
use Rattle.periodic_net.specs.{Graph.Vertex, Graph.vertex, Maps.IsDrawnBy}
use Rattle.map_check.{specs.Layouts.cell_at, specs.Layouts.table_of, proofs.LostArcs.IsLoss, proofs.LostArcs.KeepCells}
use Rattle.map_check.proofs.lost.first_lost_over.Given as goal

abbrev pub invariant-loop-k : goal.invariant-loop-k
invariant-loop-k g l = record {
  order : l.end ≤ l.size;
  inside : l.end < l.size → l.lost < length l.star;
  kept : (f : Vertex → Vertex) → IsDrawnBy l.g (table_of g.row.D l.map.m l.map.images l.map.base) f → KeepCells l.h f g.row.D l.map.m l.u l.star l.k l.end;
  loss : (f : Vertex → Vertex) → IsDrawnBy l.g (table_of g.row.D l.map.m l.map.images l.map.base) f → l.end < l.size
      → IsLoss l.h f (vertex l.u (cell_at g.row.D l.map.m l.end)) l.star l.lost;
}
