-- Lists of edges from which a graph is made as they stand.
use Rattle.std.specs.Prelude.{◌≡◌, ◌⊎◌, ℕ, ◌≤◌, List, length, map, All}
use Rattle.integers.specs.Vectors.{vector, HasDimension, IsWithin}
use Rattle.periodic_net.specs.Graph.{IsNormalSpelling}
use Rattle.periodic_net.specs.Limits.{most_vertices, most_edges, most_shift}
use Rattle.cgd_read.specs.Spelling.{edge_of}
use Rattle.cgd_read.specs.declared.edge.RawEdge.{RawEdge}
use Rattle.quotient_graph.specs.Order.{AreRising}

-- an edge between two of n vertices, in normal spelling, with a small shift of dimension dim
pub record IsEdgeAmong (dim n : ℕ) (e : RawEdge) : Type 0 where
  pub first : (1 ≤ e.u) × (e.u ≤ n)
  pub second : (1 ≤ e.v) × (e.v ≤ n)
  pub flat : HasDimension dim (vector e.x e.y e.z)
  pub small : IsWithin most_shift (vector e.x e.y e.z)
  pub spelling : IsNormalSpelling (edge_of e)

-- the edges of a graph of dimension dim with n vertices, within the limits and in rising order
pub record AreEdgesOfGraph (dim n : ℕ) (edges : List RawEdge) : Type 0 where
  pub dimension : (dim ≡ 2) ⊎ (dim ≡ 3)
  pub vertices : (1 ≤ n) × (n ≤ most_vertices)
  pub count : length edges ≤ most_edges
  pub each : All (IsEdgeAmong dim n) edges
  pub rising : AreRising (map edge_of edges)
