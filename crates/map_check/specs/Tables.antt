-- When the map that a table writes down is an isomorphism, and what is tested of the table.
use Rattle.std.specs.Prelude.{◌≡◌, ℕ, ◌*◌, ◌^◌, length}
use Rattle.integers.specs.Vectors.{Vector, plus, HasDimension}
use Rattle.integers.specs.Bases.{base_sum}
use Rattle.sublattice.specs.Sublattices.{index_of}
use Rattle.periodic_net.specs.Graph.{Graph, IsQuotientVertex, Vertex, vertex, moved, IsArc, arcs_from, arc, AreJoined}
use Rattle.periodic_net.specs.Maps.{PeriodicMap, IsInBox}

-- the images are as many as the vertices of H, taken as often as the index of the shifts' lattice
abbrev pub CountsAgree : Graph → Graph → PeriodicMap → Type 0
CountsAgree G H M = G.vertices * M.m ^ G.dimension ≡ H.vertices * index_of G.dimension M.base

-- the image of (u, r) is that of (v, s), moved by a whole combination of the shifts
pub record IsMovedImage (G : Graph) (M : PeriodicMap) (u : ℕ) (r : Vector) (v : ℕ) (s : Vector) : Type 0 where
  pub k : Vector
  pub dimension : HasDimension G.dimension k
  pub is : M.image u r ≡ moved (M.image v s) (base_sum M.base k)

-- w is a vertex in the cells from 0 to m - 1
pub record IsBoxVertex (G : Graph) (m : ℕ) (w : Vertex) : Type 0 where
  pub over : IsQuotientVertex G w.over
  pub box : IsInBox G.dimension m w.cell

-- no image is another, moved so
abbrev pub HasNoDouble : Graph → PeriodicMap → Type 0
HasNoDouble G M =
    (u v : ℕ) (r s : Vector) → IsQuotientVertex G u → IsQuotientVertex G v
    → IsInBox G.dimension M.m r → IsInBox G.dimension M.m s → IsMovedImage G M u r v s → (u ≡ v) × (r ≡ s)

-- each image has as many arcs as its vertex
abbrev pub DegreesAgree : Graph → Graph → PeriodicMap → Type 0
DegreesAgree G H M =
    (u : ℕ) (r : Vector) → IsQuotientVertex G u → IsInBox G.dimension M.m r
    → length (arcs_from G u) ≡ length (arcs_from H (M.image u r).over)

-- the ends of each arc of a vertex in the box go to joined vertices
abbrev pub ArcsAreKept : Graph → Graph → PeriodicMap → (Vertex → Vertex) → Type 0
ArcsAreKept G H M f =
    (u v : ℕ) (r s : Vector) → IsQuotientVertex G u → IsInBox G.dimension M.m r → IsArc G (arc u v s)
    → AreJoined H (f (vertex u r)) (f (vertex v (plus r s)))
