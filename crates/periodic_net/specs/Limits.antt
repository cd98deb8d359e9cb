-- The limits of the nets that are taken, and what follows from them.
use Rattle.std.specs.Prelude.{ℕ, ◌+◌, ◌-◌, ◌*◌, ◌^◌, ◌≤◌, length, All}
use Rattle.integers.specs.Vectors.{IsWithin}
use Rattle.periodic_net.specs.Graph.{Graph}

-- vertices of a quotient graph that is read
abbrev pub most_vertices : ℕ
most_vertices = 512

-- its edges
abbrev pub most_edges : ℕ
most_edges = 4096

-- a part of a shift that is read, as an absolute value
abbrev pub most_shift : ℕ
most_shift = 500

-- the denominator of a placement, and a part of an arc's vector, as an absolute value
abbrev pub most_units : ℕ
most_units = 2 ^ 40

-- a part of an arc's vector in the coordinates of a staircase basis, as an absolute value
abbrev pub most_coordinate : ℕ
most_coordinate = 2 * most_units

-- each edge gives two arcs
abbrev pub most_arcs : ℕ
most_arcs = 2 * most_edges

-- a part of the shift of a walk that visits no vertex twice
abbrev pub most_walk : ℕ
most_walk = most_shift * (most_vertices - 1)

-- a part of the shift of a closed walk: along such a walk, an edge, and back along another
abbrev pub most_closed : ℕ
most_closed = most_walk + most_shift + most_walk

-- the quotient graph is within the limits of what is read
pub record IsSmall (G : Graph) : Type 0 where
  pub vertices : G.vertices ≤ most_vertices
  pub edges : length G.edges ≤ most_edges
  pub shifts : All (λ e. IsWithin most_shift e.shift) G.edges
