-- The text of maps between nets, row by row, as it is written.
pub use Rattle.line_text.specs.Lines.{most_bytes}
use Rattle.std.specs.Prelude.{ℕ, ◌+◌, List, [], ◌∷◌, ◌++◌, map, Option, None, Some}
use Rattle.integers.specs.Vectors.{Vector}
use Rattle.periodic_net.specs.Graph.{Graph, Vertex}
use Rattle.line_text.specs.Lines.{rows_text}
use Rattle.graph_rows.specs.Rows.{size_of_graph}
use Rattle.map_check.specs.Layouts.{vertex_at}
use Rattle.map_check.specs.declared.map.PeriodicMap.{PeriodicMap}
use Rattle.net_certificate.specs.Items.{ItemView, Without, With, Maps}
use Rattle.net_certificate.specs.Rows.{Row, OfTitle, OfSize, OfEdge, OfReason, OfMap, OfPeriod, OfImage, OfBase, OfEnd, row_lines}

-- the size and the edges of a graph
abbrev pub graph_rows : Graph → List Row
graph_rows G = OfSize (size_of_graph G) ∷ map (OfEdge G.dimension) G.edges

-- the images of the vertices of the box from place i on, of a map with period m
abbrev pub image_rows : ℕ → ℕ → ℕ → ℕ → List Vertex → List Row
image_rows d e m i [] = []
image_rows d e m i (x ∷ images) = OfImage d e (vertex_at d m i) x ∷ image_rows d e m (i + 1) images

-- images, and then shifts
abbrev pub table_rows : ℕ → ℕ → ℕ → List Vertex → List Vector → List Row
table_rows d e m images base = image_rows d e m 0 images ++ map (OfBase e) base

-- a period, images and shifts
abbrev pub map_rows : ℕ → ℕ → PeriodicMap → List Row
map_rows d e M = OfPeriod M.m ∷ table_rows d e M.m M.images M.base

-- the item of graph k
abbrev pub item_rows : ℕ → ℕ → ItemView → List Row
item_rows d k (Without why) = OfReason k why ∷ []
item_rows d k (With H M) = OfMap k ∷ (graph_rows H ++ (map_rows d H.dimension M ++ OfEnd ∷ []))

-- the items of graph k and of those after it
abbrev pub items_rows : ℕ → ℕ → List ItemView → List Row
items_rows d k [] = []
items_rows d k (item ∷ items) = item_rows d k item ++ items_rows d (k + 1) items

-- the rows of a text; if there is no graph it has the first alone
abbrev pub maps_rows : Option Maps → List Row
maps_rows None = OfTitle ∷ []
maps_rows (Some maps) = OfTitle ∷ (graph_rows maps.first ++ items_rows maps.first.dimension 2 maps.items)

-- the text
abbrev pub maps_text : Option Maps → List ℕ
maps_text maps = rows_text (row_lines (maps_rows maps))
