-- The first rows of a text: what they are, and what they alone decide.
use Rattle.std.specs.Prelude.{◌≡◌, ◌≤◌, ◌<◌, ◌+◌, ◌^◌, ◌==◌, ℕ, List, [], ◌∷◌, ◌++◌, All, length, map, zero, suc, if◌then◌else◌}
use Rattle.quotient_graph.specs.Order.{AreRising}
use Rattle.graph_rows.specs.Forms.{IsSize, IsEdgeOfSize}
use Rattle.line_text.specs.Lines.{rows_text}
use Rattle.map_check.specs.Conditions.{IsImage, IsShift}
use Rattle.map_check.specs.declared.map.PeriodicMap.{PeriodicMap}
use Rattle.net_certificate.specs.Items.{ItemView, IsPeriod, IsFormedItem}
use Rattle.net_certificate.specs.Rows.{Row, OfTitle, OfSize, OfEdge, OfMap, row_lines}
use Rattle.net_certificate.specs.Texts.{map_rows, items_rows}
use Rattle.net_certificate.specs.Stages.{Stage, Start, Titled, Listed, Opened, Drawn, Mapped, Drawing, drawn_graph, IsWhole, next_number, image_count}

-- a size, and the first edges
abbrev pub drawing_rows : Drawing → List Row
drawing_rows g = OfSize g.size ∷ map (OfEdge g.size.dim) g.edges

-- the first line, the first graph, and items
abbrev pub listed_rows : Drawing → List ItemView → List Row
listed_rows g items = OfTitle ∷ (drawing_rows g ++ items_rows g.size.dim 2 items)

-- the rows that lead to a stage
abbrev pub stage_rows : Stage → List Row
stage_rows Start = []
stage_rows Titled = OfTitle ∷ []
stage_rows (Listed g items) = listed_rows g items
stage_rows (Opened g items) = listed_rows g items ++ OfMap (next_number items) ∷ []
stage_rows (Drawn g items h) = listed_rows g items ++ OfMap (next_number items) ∷ drawing_rows h
stage_rows (Mapped g items h M) = listed_rows g items ++ OfMap (next_number items) ∷ (drawing_rows h ++ map_rows g.size.dim h.size.dim M)

-- a graph that is being drawn: its size is within the limits, and its first edges are of that size, rise, and are no more than it says
pub record IsDrawing (g : Drawing) : Type 0 where
  pub is_size : IsSize g.size
  pub each : All (IsEdgeOfSize g.size) g.edges
  pub rising : AreRising g.edges
  pub few : length g.edges ≤ g.size.edges

-- items stand only after a whole graph
pub record AreItems (g : Drawing) (items : List ItemView) : Type 0 where
  pub drawing : IsDrawing g
  pub after : length g.edges < g.size.edges → items ≡ []
  pub each : All (IsFormedItem (drawn_graph g)) items
  pub few : length items + 1 < 2 ^ 32

-- after a whole graph and items one more item may begin
pub record IsOpened (g : Drawing) (items : List ItemView) : Type 0 where
  pub items_are : AreItems g items
  pub whole : IsWhole g
  pub short : next_number items < 2 ^ 32

-- after a whole second graph a period, images from the start, and shifts only after all of them
pub record IsMapping (g h : Drawing) (M : PeriodicMap) : Type 0 where
  pub graph : IsDrawing h
  pub whole : IsWhole h
  pub period : IsPeriod g.size M.m
  pub images : All (IsImage h.size.dim h.size.vertices) M.images
  pub images_few : length M.images ≤ image_count g M
  pub shifts : All (IsShift h.size.dim) M.base
  pub shifts_few : length M.base ≤ g.size.dim
  pub after : length M.images < image_count g M → M.base ≡ []

-- what the rows that lead to a stage say meets every condition that they alone decide
abbrev pub IsFormed : Stage → Type 0
IsFormed Start = Unit {0}
IsFormed Titled = Unit {0}
IsFormed (Listed g items) = AreItems g items
IsFormed (Opened g items) = IsOpened g items
IsFormed (Drawn g items h) = IsOpened g items × IsDrawing h
IsFormed (Mapped g items h M) = IsOpened g items × IsMapping g h M

-- the first n lines of a text, each with its line feed; all of the text if it has fewer
abbrev pub first_lines : ℕ → List ℕ → List ℕ
first_lines n [] = []
first_lines zero (b ∷ bytes) = []
first_lines (suc n) (b ∷ bytes) = b ∷ first_lines (if b == 10 then n else suc n) bytes

-- before the line with this number, rows stand as in a text of maps, and what they say meets every condition that they alone decide
pub record BeginsBefore (text : List ℕ) (n : ℕ) : Type 0 where
  pub stage : Stage
  pub formed : IsFormed stage
  pub number : n ≡ length (stage_rows stage) + 1
  pub left : List ℕ
  pub joined : text ≡ rows_text (row_lines (stage_rows stage)) ++ left
