-- Barycentric placements whose coordinates lie in any ordered group, and that there is one over each lattice, up to a constant.
use Rattle.std.specs.Prelude.{◌≡◌}
use Rattle.integers.specs.Vectors.{Vector, plus, HasDimension}
use Rattle.periodic_net.specs.Graph.{Arc, Graph, IsGraph, IsConnected, Vertex, vertex, moved, IsVertex, arcs_from}
use Rattle.periodic_net.specs.OrderedGroups.{OrderedGroup, difference, sum_over, natural_multiple, LatticeIn, along}
use Rattle.periodic_net.specs.Placement.{Placement, position, IsBarycentric}

-- P gives each vertex of the net one coordinate of its place: t cells further it is lattice t further, and each vertex stands at the mean
-- of its neighbours
pub record IsBarycentricIn {V : Type 0} (A : OrderedGroup V) (G : Graph) (lattice : Vector → V) (P : Vertex → V) : Type 0 where
  pub moves : (w : Vertex) (t : Vector) → IsVertex G w → HasDimension G.dimension t → P (moved w t) ≡ A.sum (P w) (lattice t)
  pub balanced : (w : Vertex) → IsVertex G w
      → sum_over A (λ (a : Arc). difference A (P (vertex a.to (plus w.cell a.shift))) (P w)) (arcs_from G w.over) ≡ A.zero

-- over any ordered group: two barycentric placements of a connected net, over one lattice, are translates of each other
abbrev pub PlacementsTranslateInAnyGroup : Type 0 → Type 0
PlacementsTranslateInAnyGroup V = (A : OrderedGroup V) (G : Graph) → IsGraph G → IsConnected G → (lattice : Vector → V) (P Q : Vertex → V)
    → IsBarycentricIn A G lattice P → IsBarycentricIn A G lattice Q
    → (w x : Vertex) → IsVertex G w → IsVertex G x → difference A (P w) (Q w) ≡ difference A (P x) (Q x)

-- over any ordered group: let p be a barycentric placement by fractions, in units of 1/D. Then D times a barycentric placement of the same
-- net is p, read along the lattice, up to one constant
abbrev pub OnePlacementInAnyGroup : Type 0 → Type 0
OnePlacementInAnyGroup V = (A : OrderedGroup V) (G : Graph) → IsGraph G → IsConnected G → (p : Placement) → IsBarycentric G p
    → (b : LatticeIn V) (P : Vertex → V) → IsBarycentricIn A G (along A b) P → (w x : Vertex) → IsVertex G w → IsVertex G x
    → difference A (natural_multiple A p.denominator (P w)) (along A b (position p w))
    ≡ difference A (natural_multiple A p.denominator (P x)) (along A b (position p x))
