-- Boxes of the net of a graph: the vertices around cell 0, with a number each.
use Rattle.std.specs.Prelude.{◌≡◌, ℕ, ◌+◌, ◌-◌, ◌*◌, ◌≤◌, ℤ, pos, ◌+ℤ◌, ◌-ℤ◌, ◌*ℤ◌, unsigned_abs, List, [], ◌∷◌, ◌++◌, map, filter, ◌==◌, length}
use Rattle.std.specs.Prelude.{slice_index_or, slice_set}
use Rattle.integers.specs.Vectors.{Vector}
use Rattle.periodic_net.specs.Graph.{Graph, IsGraph, IsQuotientVertex, Arc, both_ways, reverse_of, Vertex}
use Rattle.periodic_net.specs.Limits.{most_vertices}
use Rattle.coordination.specs.Extents.{IsCellWithin, IsExtent, IsNarrow}
use Rattle.coordination.specs.declared.extent.TheConstants.{WIDEST}
use Rattle.coordination.specs.declared.net_box.TheConstants.{MOST_MARKS}
use Rattle.coordination.specs.declared.extent.Extent.{Extent}
use Rattle.coordination.specs.declared.net_box.NetBox.{NetBox}
use Rattle.coordination.specs.declared.spot.Spot.{Spot}
use Rattle.coordination.specs.declared.spot.Step.{Step}

-- the number of cells from -n to n
abbrev pub side : ℕ → ℕ
side n = 2 * n + 1

-- how far part s lies above -n
abbrev pub above : ℕ → ℤ → ℕ
above n s = unsigned_abs (s +ℤ pos n)

-- x lies over one of n vertices, and its cell is within r
pub record IsInside (n : ℕ) (r : Extent) (x : Vertex) : Type 0 where
  pub low : 1 ≤ x.over
  pub high : x.over ≤ n
  pub cell : IsCellWithin r x.cell

-- the number of the vertices inside
abbrev pub size_of : ℕ → Extent → ℕ
size_of n r = n * (side r.x * (side r.y * side r.z))

-- the number of vertex x: the vertices of a cell follow one another, and so do the cells along each axis
abbrev pub place_in : ℕ → Extent → Vertex → ℕ
place_in n r x = (x.over - 1) + n * (above r.x x.cell.x + side r.x * (above r.y x.cell.y + side r.y * above r.z x.cell.z))

-- the vertex with its number
abbrev pub spot_in : ℕ → Extent → Vertex → Spot
spot_in n r x = record { over = x.over; at = place_in n r x }

-- the number of the first vertex of cell 0
abbrev pub origin_of : ℕ → Extent → ℕ
origin_of n r = n * (r.x + side r.x * (r.y + side r.y * r.z))

-- by how many cells it grows along a shift
abbrev pub cells_of : Extent → Vector → ℤ
cells_of r s = s.x +ℤ pos (side r.x) *ℤ (s.y +ℤ pos (side r.y) *ℤ s.z)

-- by how much the number grows along a
abbrev pub growth_of : ℕ → Extent → Arc → ℤ
growth_of n r a = (pos a.to -ℤ pos a.from) +ℤ pos n *ℤ cells_of r a.shift

-- the step along a
abbrev pub step_of : ℕ → Extent → Arc → Step
step_of n r a = record { to = a.to; by = growth_of n r a }

-- the steps along these edges, each both ways, from vertex c
abbrev pub steps_from : ℕ → Extent → ℕ → List Arc → List Step
steps_from n r c edges = map (step_of n r) (filter (λ a. a.from == c) (both_ways edges))

-- a step put last in the list of vertex u
abbrev pub with_step : List (List Step) → ℕ → Step → List (List Step)
with_step stars u t = slice_set stars (u - 1) (slice_index_or stars (u - 1) [] ++ t ∷ [])

-- the steps along e, both ways, put last in the lists of its ends
abbrev pub with_edge : List (List Step) → ℕ → Extent → Arc → List (List Step)
with_edge stars n r e = with_step (with_step stars e.from (step_of n r e)) e.to (step_of n r (reverse_of e))

-- the steps from each vertex
pub record AreStepsFromVertices (P : Graph) (r : Extent) (stars : List (List Step)) : Type 0 where
  pub count : length stars ≡ P.vertices
  pub each : (c : ℕ) → IsQuotientVertex P c → slice_index_or stars (c - 1) [] ≡ steps_from P.vertices r c P.edges

-- b is a box of the net of P, of an extent of its shells, with its size, and with the steps from each vertex
pub record IsBoxOf (P : Graph) (b : NetBox) : Type 0 where
  pub is_graph : IsGraph P
  pub few : P.vertices ≤ most_vertices
  pub extent : IsExtent P b.extent
  pub narrow : IsNarrow WIDEST b.extent
  pub origin : b.origin ≡ origin_of P.vertices b.extent
  pub size : b.size ≡ size_of P.vertices b.extent
  pub small : b.size ≤ MOST_MARKS
  pub stars : AreStepsFromVertices P b.extent b.stars
