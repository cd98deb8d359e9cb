-- The table of the standard map of two sides: its images and its rows, and the first part past the limit.
use Rattle.std.specs.Prelude.{◌≡◌, ℕ, ◌+◌, ◌*◌, ◌≤◌, ℤ, unsigned_abs, List, map, All, Option, None, Some}
use Rattle.std.specs.List.{range_with_len}
use Rattle.periodic_net.specs.Graph.{Vertex}
use Rattle.periodic_net.specs.Limits.{most_walk}
use Rattle.map_check.specs.Layouts.{vertex_at}
use Rattle.map_check.specs.Conditions.{most_period}
use Rattle.standard_map.specs.CellBounds.{most_cell}
use Rattle.standard_map.specs.MapNumbers.{box_vertices, IsFirstPast, most_part}
use Rattle.standard_map.specs.Sides.{NetSide, IsStandardBy}

-- a part of the way from the cell of an end to a cell of the box
abbrev pub most_steps : ℕ
most_steps = most_period + most_walk

-- a part of the way from the image of an end to that of a vertex of the box
abbrev pub most_way : ℕ
most_way = 3 * (most_steps * most_cell)

-- x is the image of w under each standard map of the two sides
abbrev pub IsImageOf : NetSide → NetSide → Vertex → Vertex → Type 0
IsImageOf S T w x = (carry : Vertex → Vertex) → IsStandardBy S T carry → x ≡ carry w

-- these are the images of the first n vertices of the box of m, in their order
abbrev pub AreFirstImages : NetSide → NetSide → ℕ → ℕ → List Vertex → Type 0
AreFirstImages S T m n xs =
    (carry : Vertex → Vertex) → IsStandardBy S T carry → xs ≡ map carry (map (vertex_at S.net.graph.dimension m) (range_with_len 0 n))

-- these are the images of all of them
abbrev pub AreImages : NetSide → NetSide → ℕ → List Vertex → Type 0
AreImages S T m xs = (carry : Vertex → Vertex) → IsStandardBy S T carry → xs ≡ map carry (box_vertices S.net.graph m)

-- the first number past the limit, if there is one; otherwise all numbers are within it
abbrev pub IsFirstWide : List ℤ → Option ℤ → Type 0
IsFirstWide xs None = All (λ x. unsigned_abs x ≤ most_part) xs
IsFirstWide xs (Some v) = IsFirstPast most_part xs v
