use Rattle.std.proofs.Common.{◌≡◌, ◌*◌, ◌^◌, ℕ, List, [], length}
use Rattle.periodic_net.specs.Graph.{Arc, Vertex}
use Rattle.net_certificate.specs.{Stages.Mapped, Stages.drawing, Stages.map_with, Items.ItemView, Reading.IsIn}
use Rattle.net_certificate.proofs.tables.read_shifts.Given as goal

abbrev pub invariant-loop : goal.invariant-loop
invariant-loop l = ((text : List ℕ) (items : List ItemView) (edges others : List Arc) (m : ℕ) (images : List Vertex)
    → length images ≡ l.first.vertices * m ^ l.first.dim
    → IsIn text (Mapped (drawing l.first edges) items (drawing l.second others) (map_with m images [])) l.initial.lines
    → IsIn text (Mapped (drawing l.first edges) items (drawing l.second others) (map_with m images l.base)) l.lines) × (length l.base ≡ l.counter)
