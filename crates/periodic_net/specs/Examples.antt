-- Small nets that the theorems are tried on.
use Rattle.std.specs.Prelude.{pos, negsuc, ◌+ℤ◌, [], ◌∷◌}
use Rattle.integers.specs.Vectors.{Vector, vector, zero_vector}
use Rattle.periodic_net.specs.Graph.{Graph, arc}
use Rattle.periodic_net.specs.Placement.{Placement}

-- one vertex with a loop along each axis
abbrev pub square_net : Graph
square_net = record { dimension = 2; vertices = 1; edges = arc 1 1 (vector (pos 1) (pos 0) (pos 0)) ∷ arc 1 1 (vector (pos 0) (pos 1) (pos 0)) ∷ [] }

-- the square net over a cell of half its steps to the right: two nets that pass each other
abbrev pub doubled_net : Graph
doubled_net = record { dimension = 2; vertices = 1; edges = arc 1 1 (vector (pos 2) (pos 0) (pos 0)) ∷ arc 1 1 (vector (pos 0) (pos 1) (pos 0)) ∷ [] }

-- the square net over a slanted cell, from which a step up is the vector (1, 1)
abbrev pub slanted_net : Graph
slanted_net = record { dimension = 2; vertices = 1; edges = arc 1 1 (vector (pos 1) (pos 0) (pos 0)) ∷ arc 1 1 (vector (pos 1) (pos 1) (pos 0)) ∷ [] }

-- a vector, as it is written over that cell
abbrev pub slanted : Vector → Vector
slanted v = vector (v.x +ℤ v.y) v.y v.z

-- two vertices with three edges from the one to the other
abbrev pub honeycomb_net : Graph
honeycomb_net = record {
  dimension = 2;
  vertices = 2;
  edges = arc 1 2 zero_vector ∷ arc 1 2 (vector (pos 1) (pos 0) (pos 0)) ∷ arc 1 2 (vector (pos 0) (pos 1) (pos 0)) ∷ [];
}

-- the square net with a vertex that hangs on its own: both have one position
abbrev pub hanging_net : Graph
hanging_net = record {
  dimension = 2;
  vertices = 2;
  edges = arc 1 1 (vector (pos 1) (pos 0) (pos 0)) ∷ arc 1 1 (vector (pos 0) (pos 1) (pos 0)) ∷ arc 1 2 zero_vector ∷ [];
}

-- its normal placement
unfoldable pub square_placement : Placement
square_placement = record { denominator = 1; at = zero_vector ∷ [] }

-- a(1) = (0, 0) and a(2) = (-1, -1), in units of 1/3
unfoldable pub honeycomb_placement : Placement
honeycomb_placement = record { denominator = 3; at = zero_vector ∷ vector (negsuc 0) (negsuc 0) (pos 0) ∷ [] }

-- both vertices at the origin
unfoldable pub hanging_placement : Placement
hanging_placement = record { denominator = 1; at = zero_vector ∷ zero_vector ∷ [] }
