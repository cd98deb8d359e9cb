use Rattle.std.proofs.Common.{◌≡◌, ℕ, List, [], length}
use Rattle.periodic_net.specs.Graph.{Arc}
use Rattle.net_certificate.specs.Stages.{Mapped, drawing, begun_map, map_with}
use Rattle.net_certificate.specs.{Items.ItemView, Reading.IsIn}
use Rattle.net_certificate.proofs.tables.read_images.Given as goal

abbrev pub invariant-loop-i : goal.invariant-loop-i
invariant-loop-i l = ((text : List ℕ) (items : List ItemView) (edges others : List Arc)
    → IsIn text (Mapped (drawing l.first edges) items (drawing l.second others) (begun_map l.m)) l.initial.lines
    → IsIn text (Mapped (drawing l.first edges) items (drawing l.second others) (map_with l.m l.images [])) l.lines) × (length l.images ≡ l.i)
