-- A periodic map as it is written: its images in rising order of (u, r), and its shifts.
use Rattle.std.specs.Prelude.{ℕ, ◌+◌, ◌-◌, ◌*◌, ◌/◌, ◌%◌, ◌==◌, pos, List, ◌∷◌, cond, slice_index_or, unsigned_abs}
use Rattle.integers.specs.Vectors.{Vector, vector, zero_vector, parts, IsBelow}
use Rattle.sublattice.specs.Sublattices.{base_of}
use Rattle.periodic_net.specs.Graph.{Graph, Vertex, vertex}
use Rattle.periodic_net.specs.Maps.{PeriodicMap}

-- how many numbers the third part of a cell of the box may be; in dimension 2 it is 0
abbrev pub last_side : ℕ → ℕ → ℕ
last_side d m = cond (d == 2) 1 m

-- the number of cells in the box
abbrev pub box_size : ℕ → ℕ → ℕ
box_size d m = m * (m * last_side d m)

-- the place of the cell r among those of the box, in rising order, counted from 0
abbrev pub cell_place : ℕ → ℕ → Vector → ℕ
cell_place d m r =
    unsigned_abs r.x * (m * last_side d m) + (unsigned_abs r.y * last_side d m + unsigned_abs r.z)

-- the place of the vertex w among those in the box, in rising order of vertex and cell, counted from 0
abbrev pub place_of : ℕ → ℕ → Vertex → ℕ
place_of d m w = (w.over - 1) * box_size d m + cell_place d m w.cell

-- the cell of the box at place i
abbrev pub cell_at : ℕ → ℕ → ℕ → Vector
cell_at d m i =
    vector (pos (i / (m * last_side d m))) (pos (i % (m * last_side d m) / last_side d m))
    (pos (i % (m * last_side d m) % last_side d m))

-- the vertex in the box at place i
abbrev pub vertex_at : ℕ → ℕ → ℕ → Vertex
vertex_at d m i = vertex (i / box_size d m + 1) (cell_at d m (i % box_size d m))

-- the vertex w comes before the vertex x: by its number, and then by its cell
abbrev pub ComesBefore : Vertex → Vertex → Type 0
ComesBefore w x = IsBelow (pos w.over ∷ parts 3 w.cell) (pos x.over ∷ parts 3 x.cell)

-- the table with these images and shifts
abbrev pub table_of : ℕ → ℕ → List Vertex → List Vector → PeriodicMap
table_of d m images rows = record {
  m = m;
  image = λ u r. slice_index_or images (place_of d m (vertex u r)) (vertex 0 zero_vector);
  base = base_of rows;
}

-- the table of a map from the net of G
abbrev pub table_for : Graph → ℕ → List Vertex → List Vector → PeriodicMap
table_for G m images rows = table_of G.dimension m images rows
