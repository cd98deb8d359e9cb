-- The images of chosen vertices, one over each vertex of a quotient graph.
use Rattle.std.specs.Prelude.{◌≡◌, ℕ, ◌*◌}
use Rattle.integers.specs.Vectors.{Vector, zero_vector, plus, IsWithin}
use Rattle.periodic_net.specs.Graph.{Vertex, vertex, IsVertex}
use Rattle.periodic_net.specs.Limits.{most_shift, most_units}
use Rattle.periodic_net.specs.Placement.{base, position}
use Rattle.standard_map.specs.Sides.{NetSide, IsStandardBy}

-- a vertex of a quotient graph, a shift, the vertex over which the image of (over, shift) is, and how far from the other origin it stands
pub record End : Type 0 where
  pub over : ℕ
  pub shift : Vector
  pub image : ℕ
  pub at : Vector

-- (over, shift) is a vertex, and under the standard map its image is over that vertex and stands there
pub record IsEnd (S T : NetSide) (e : End) : Type 0 where
  pub is_vertex : IsVertex S.net.graph (vertex e.over e.shift)
  pub over : (map : Vertex → Vertex) → IsStandardBy S T map → (map (vertex e.over e.shift)).over ≡ e.image
  pub at : (map : Vertex → Vertex) → IsStandardBy S T map
      → position T.net.placement (map (vertex e.over e.shift)) ≡ plus (base T.net.placement T.origin) e.at

-- it was found by a walk of k arcs at most
pub record IsNear (k : ℕ) (e : End) : Type 0 where
  pub shift : IsWithin (most_shift * k) e.shift
  pub at : IsWithin (most_units * k) e.at

-- what stands for an end that is not there
abbrev pub no_end : End
no_end = record { over = 0; shift = zero_vector; image = 0; at = zero_vector }
