-- How far a text of maps was passed, and which rows may stand there.
use Rattle.std.specs.Prelude.{◌≡◌, ℕ, ◌+◌, ◌<◌, ◌*◌, ◌^◌, List, [], ◌∷◌, ◌++◌, length}
use Rattle.integers.specs.Vectors.{Vector}
use Rattle.periodic_net.specs.Graph.{Graph, Arc, Vertex}
use Rattle.quotient_graph.specs.Stars.{graph_with}
use Rattle.graph_rows.specs.declared.size.GraphSize.{GraphSize}
use Rattle.graph_rows.specs.Rows.{size_of_graph}
use Rattle.graph_rows.specs.Forms.{IsSize, IsNextEdge}
use Rattle.map_check.specs.Conditions.{IsImage, IsShift}
use Rattle.map_check.specs.Layouts.{vertex_at}
use Rattle.map_check.specs.declared.map.PeriodicMap.{PeriodicMap}
use Rattle.net_certificate.specs.Items.{ItemView, Without, With, IsTold, IsPeriod}
use Rattle.net_certificate.specs.Rows.{Row, OfTitle, OfSize, OfEdge, OfReason, OfMap, OfPeriod, OfImage, OfBase, OfEnd, row_line}

-- a graph that is being drawn: its size, and the first of its edges
pub record Drawing : Type 0 where
  pub size : GraphSize
  pub edges : List Arc

-- the graph that is drawn
abbrev pub drawn_graph : Drawing → Graph
drawn_graph g = graph_with g.size.dim g.size.vertices g.edges

-- the first edges of a graph of this size
abbrev pub drawing : GraphSize → List Arc → Drawing
drawing s edges = record { size = s; edges = edges }

-- a whole graph, drawn
abbrev pub drawing_of : Graph → Drawing
drawing_of G = drawing (size_of_graph G) G.edges

-- all edges that the size says are drawn
abbrev pub IsWhole : Drawing → Type 0
IsWhole g = length g.edges ≡ g.size.edges

-- the first rows of a text
pub data Stage : Type 0 where
  -- none
  Start : Stage
  -- the first line
  Titled : Stage
  -- the first graph, and items
  Listed : Drawing → List ItemView → Stage
  -- and the first line of an item with a map
  Opened : Drawing → List ItemView → Stage
  -- and its graph
  Drawn : Drawing → List ItemView → Drawing → Stage
  -- and its period, the first images, and the first shifts
  Mapped : Drawing → List ItemView → Drawing → PeriodicMap → Stage

-- the number of the graph that the next item is of
abbrev pub next_number : List ItemView → ℕ
next_number items = length items + 2

-- the next item is that of graph k, which is a number of 32 bits
abbrev pub IsNextPair : List ItemView → ℕ → Type 0
IsNextPair items k = (k ≡ next_number items) × (k < 2 ^ 32)

-- one more edge, item, image or shift

abbrev pub with_edge : Drawing → Arc → Drawing
with_edge g e = record { size = g.size; edges = g.edges ++ e ∷ [] }

abbrev pub with_item : List ItemView → ItemView → List ItemView
with_item items item = items ++ item ∷ []

abbrev pub with_image : PeriodicMap → Vertex → PeriodicMap
with_image M x = record { m = M.m; images = M.images ++ x ∷ []; base = M.base }

abbrev pub with_shift : PeriodicMap → Vector → PeriodicMap
with_shift M v = record { m = M.m; images = M.images; base = M.base ++ v ∷ [] }

-- the map with this period, these images and shifts
abbrev pub map_with : ℕ → List Vertex → List Vector → PeriodicMap
map_with m images base = record { m = m; images = images; base = base }

-- the map with this period of which nothing else was read
abbrev pub begun_map : ℕ → PeriodicMap
begun_map m = map_with m [] []

-- a graph of which the size alone was read
abbrev pub begun_drawing : GraphSize → Drawing
begun_drawing s = drawing s []

-- the stage with one more row
abbrev pub stage_with : Stage → Row → Stage
stage_with Start r = Titled
stage_with Titled (OfSize s) = Listed (begun_drawing s) []
stage_with Titled r = Start
stage_with (Listed g items) (OfEdge d e) = Listed (with_edge g e) items
stage_with (Listed g items) (OfReason k why) = Listed g (with_item items (Without why))
stage_with (Listed g items) (OfMap k) = Opened g items
stage_with (Listed g items) r = Start
stage_with (Opened g items) (OfSize s) = Drawn g items (begun_drawing s)
stage_with (Opened g items) r = Start
stage_with (Drawn g items h) (OfEdge d e) = Drawn g items (with_edge h e)
stage_with (Drawn g items h) (OfPeriod m) = Mapped g items h (begun_map m)
stage_with (Drawn g items h) r = Start
stage_with (Mapped g items h M) (OfImage d e w x) = Mapped g items h (with_image M x)
stage_with (Mapped g items h M) (OfBase e v) = Mapped g items h (with_shift M v)
stage_with (Mapped g items h M) OfEnd = Listed g (with_item items (With (drawn_graph h) M))
stage_with (Mapped g items h M) r = Start

-- the number of images of a map from the graph that is drawn
abbrev pub image_count : Drawing → PeriodicMap → ℕ
image_count g M = g.size.vertices * M.m ^ g.size.dim

-- an edge follows the others of its graph
abbrev pub IsNextOf : Drawing → ℕ → Arc → Type 0
IsNextOf g d e = (d ≡ g.size.dim) × (length g.edges < g.size.edges) × IsNextEdge g.size g.edges e

-- a first line alone begins a text
abbrev pub FollowsNothing : Row → Type 0
FollowsNothing OfTitle = Unit {0}
FollowsNothing r = ⊥

-- a size begins a graph
abbrev pub BeginsGraph : Row → Type 0
BeginsGraph (OfSize s) = IsSize s
BeginsGraph r = ⊥

-- an edge of the first graph, or the first line of the next item
abbrev pub FollowsItems : Drawing → List ItemView → Row → Type 0
FollowsItems g items (OfEdge d e) = IsNextOf g d e
FollowsItems g items (OfReason k why) = IsWhole g × IsNextPair items k × IsTold why
FollowsItems g items (OfMap k) = IsWhole g × IsNextPair items k
FollowsItems g items r = ⊥

-- an edge of the second graph, or a period
abbrev pub FollowsEdges : Drawing → Drawing → Row → Type 0
FollowsEdges g h (OfEdge d e) = IsNextOf h d e
FollowsEdges g h (OfPeriod m) = IsWhole h × IsPeriod g.size m
FollowsEdges g h r = ⊥

-- the image of the next vertex, a shift, or the end
abbrev pub FollowsImages : Drawing → Drawing → PeriodicMap → Row → Type 0
FollowsImages g h M (OfImage d e w x) =
    (d ≡ g.size.dim) × (e ≡ h.size.dim) × (w ≡ vertex_at d M.m (length M.images))
    × (length M.images < image_count g M) × IsImage h.size.dim h.size.vertices x
FollowsImages g h M (OfBase e v) =
    (e ≡ h.size.dim) × (length M.images ≡ image_count g M) × (length M.base < g.size.dim) × IsShift e v
FollowsImages g h M OfEnd = (length M.images ≡ image_count g M) × (length M.base ≡ g.size.dim)
FollowsImages g h M r = ⊥

-- the row may stand after these rows
abbrev pub MayFollow : Stage → Row → Type 0
MayFollow Start r = FollowsNothing r
MayFollow Titled r = BeginsGraph r
MayFollow (Listed g items) r = FollowsItems g items r
MayFollow (Opened g items) r = BeginsGraph r
MayFollow (Drawn g items h) r = FollowsEdges g h r
MayFollow (Mapped g items h M) r = FollowsImages g h M r

-- the text may end after these rows
abbrev pub MayEnd : Stage → Type 0
MayEnd Titled = Unit {0}
MayEnd (Listed g items) = IsWhole g
MayEnd stage = ⊥

-- each of these rows may stand after those before it, and they lead from the one stage to the other
abbrev pub Walk : Stage → List Row → Stage → Type 0
Walk p [] q = p ≡ q
Walk p (r ∷ rows) q = MayFollow p r × Walk (stage_with p r) rows q

-- no row that may follow stands at the beginning of what is left
abbrev pub NoneFollows : Stage → List ℕ → Type 0
NoneFollows stage left = (row : Row) (rest : List ℕ) → MayFollow stage row → left ≡ row_line row ++ 10 ∷ rest → ⊥
