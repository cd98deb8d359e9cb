-- Maps between nets: periodic ones, and isomorphisms, with a period and without. No placement, cell, frame or traversal occurs here.
-- Isomorphism is that of periodic nets; to write it by maps with a period is this project's own.
use Rattle.std.specs.Prelude.{◌≡◌, ◌↔◌, ℕ, ◌≤◌, pos, ◌<ℤ◌, ◌≤ℤ◌}
use Rattle.integers.specs.Bases.{Base, base_sum}
use Rattle.integers.specs.Vectors.{Vector, plus, times, HasDimension}
use Rattle.periodic_net.specs.Graph.{Graph, Vertex, vertex, moved, IsVertex, IsQuotientVertex, AreJoined}

-- the map repeats: what lies m·k further goes the sum of k_i·B_i further
pub record IsPeriodic (G H : Graph) (map : Vertex → Vertex) (m : ℕ) (b : Base) : Type 0 where
  pub positive : 1 ≤ m
  pub into : (w : Vertex) → IsVertex G w → IsVertex H (map w)
  pub repeats : (w : Vertex) (k : Vector) → IsVertex G w → HasDimension G.dimension k
      → map (moved w (times (pos m) k)) ≡ moved (map w) (base_sum b k)

-- the map is one to one and onto between the vertices of the nets
pub record IsBijection (G H : Graph) (map : Vertex → Vertex) : Type 0 where
  pub into : (w : Vertex) → IsVertex G w → IsVertex H (map w)
  pub once : (w x : Vertex) → IsVertex G w → IsVertex G x → map w ≡ map x → w ≡ x
  pub onto : (y : Vertex) → IsVertex H y → (w : Vertex) × IsVertex G w × (map w ≡ y)

-- the map joins images if and only if the vertices are joined
abbrev pub JoinsAlike : Graph → Graph → (Vertex → Vertex) → Type 0
JoinsAlike G H map = (w x : Vertex) → IsVertex G w → IsVertex G x → AreJoined G w x ↔ AreJoined H (map w) (map x)

-- two maps that undo each other and carry joined vertices to joined vertices, each with a period
pub record Iso (G H : Graph) : Type 0 where
  pub dimension : G.dimension ≡ H.dimension
  pub there : Vertex → Vertex
  pub back : Vertex → Vertex
  pub there_period : (m : ℕ) × (b : Base) × IsPeriodic G H there m b
  pub back_period : (m : ℕ) × (b : Base) × IsPeriodic H G back m b
  pub back_there : (w : Vertex) → IsVertex G w → back (there w) ≡ w
  pub there_back : (x : Vertex) → IsVertex H x → there (back x) ≡ x
  pub there_joins : (w x : Vertex) → IsVertex G w → IsVertex G x → AreJoined G w x → AreJoined H (there w) (there x)
  pub back_joins : (w x : Vertex) → IsVertex H w → IsVertex H x → AreJoined H w x → AreJoined G (back w) (back x)

-- an isomorphism of the nets as infinite graphs: a bijection between their vertices that joins images if and only if the vertices are
-- joined. Nothing is asked of periods or dimensions
pub record BareIso (G H : Graph) : Type 0 where
  pub map : Vertex → Vertex
  pub bijection : IsBijection G H map
  pub joins : JoinsAlike G H map

-- a map as it is written down: a period, the images of the vertices in the cells from 0 to m - 1, and the shifts
pub record PeriodicMap : Type 0 where
  pub m : ℕ
  pub image : ℕ → Vector → Vertex
  pub base : Base

-- each part of r, which has dimension d, is from 0 to m - 1
pub record IsInBox (d m : ℕ) (r : Vector) : Type 0 where
  pub dimension : HasDimension d r
  pub low : (pos 0 ≤ℤ r.x) × (pos 0 ≤ℤ r.y) × (pos 0 ≤ℤ r.z)
  pub high : (r.x <ℤ pos m) × (r.y <ℤ pos m) × (r.z <ℤ pos m)

-- M writes down a map from G to H: the images are vertices of H, and the shifts have its dimension
pub record IsMapTable (G H : Graph) (M : PeriodicMap) : Type 0 where
  pub positive : 1 ≤ M.m
  pub into : (u : ℕ) (r : Vector) → IsQuotientVertex G u → IsInBox G.dimension M.m r → IsVertex H (M.image u r)
  pub dimension : (k : Vector) → HasDimension G.dimension k → HasDimension H.dimension (base_sum M.base k)

-- map is the one that M writes down: (u, r + m·k) goes to the image of (u, r), moved by the sum of k_i·B_i
abbrev pub IsDrawnBy : Graph → PeriodicMap → (Vertex → Vertex) → Type 0
IsDrawnBy G M map = (u : ℕ) (r k : Vector) → IsQuotientVertex G u → IsInBox G.dimension M.m r → HasDimension G.dimension k
    → map (vertex u (plus r (times (pos M.m) k))) ≡ moved (M.image u r) (base_sum M.base k)
