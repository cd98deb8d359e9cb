-- Two stable nets of equal coordination sequences that are not isomorphic as infinite graphs.
use Rattle.std.specs.Prelude.{pos, [], ◌∷◌}
use Rattle.integers.specs.Vectors.{vector}
use Rattle.periodic_net.specs.Graph.{Graph, arc}

-- the square net with steps of two to the right
abbrev pub leaping_net : Graph
leaping_net = record {
  dimension = 2;
  vertices = 1;
  edges = arc 1 1 (vector (pos 1) (pos 0) (pos 0)) ∷ arc 1 1 (vector (pos 0) (pos 1) (pos 0)) ∷ arc 1 1 (vector (pos 2) (pos 0) (pos 0)) ∷ [];
}

-- the square net with one of the knight's steps
abbrev pub knight_net : Graph
knight_net = record {
  dimension = 2;
  vertices = 1;
  edges = arc 1 1 (vector (pos 1) (pos 0) (pos 0)) ∷ arc 1 1 (vector (pos 0) (pos 1) (pos 0)) ∷ arc 1 1 (vector (pos 1) (pos 2) (pos 0)) ∷ [];
}
