-- Placements of the vertices of a net, and their collisions.
-- Barycentric (equilibrium) placements, collisions and stability are those of Delgado-Friedrichs and O'Keeffe, Acta Cryst. A59 (2003) 351-360.
-- Whole units of 1/D, the normal form and the limits are this project's own.
use Rattle.std.specs.Int.{◌∣◌}
use Rattle.std.specs.Prelude.{◌≡◌, ◌≢◌, ℕ, ◌-◌, ◌≤◌, pos, List, map, slice_index_or, length}
use Rattle.integers.specs.Vectors.{Vector, zero_vector, plus, minus, times, vector_sum, HasDimension, DividesVector, IsWithin}
use Rattle.periodic_net.specs.Limits.{most_units}
use Rattle.periodic_net.specs.Graph.{Graph, Arc, IsQuotientVertex, IsArc, arcs_from, Vertex, vertex, IsVertex, IsConnected}

-- positions in units of 1/denominator; the one of vertex u, counted from 1, stands at u - 1
pub record Placement : Type 0 where
  pub denominator : ℕ
  pub at : List Vector

-- a(u)
abbrev pub base : Placement → ℕ → Vector
base p u = slice_index_or p.at (u - 1) zero_vector

-- the position of a vertex of the net
abbrev pub position : Placement → Vertex → Vector
position p w = plus (base p w.over) (times (pos p.denominator) w.cell)

-- the vector of an arc: the position of its end less that of its tail
abbrev pub arc_vector : Placement → Arc → Vector
arc_vector p a = minus (plus (base p a.to) (times (pos p.denominator) a.shift)) (base p a.from)

-- each vertex stands at the mean of its neighbours
pub record IsBarycentric (G : Graph) (p : Placement) : Type 0 where
  pub positive : 1 ≤ p.denominator
  pub count : length p.at ≡ G.vertices
  pub dimension : (u : ℕ) → IsQuotientVertex G u → HasDimension G.dimension (base p u)
  pub balanced : (u : ℕ) → IsQuotientVertex G u → vector_sum (map (arc_vector p) (arcs_from G u)) ≡ zero_vector

-- vertex 1 stands at 0, and no number above 1 divides the denominator and all bases
pub record IsNormal (G : Graph) (p : Placement) : Type 0 where
  pub origin : base p 1 ≡ zero_vector
  pub reduced : (k : ℕ) → k ∣ p.denominator → ((u : ℕ) → IsQuotientVertex G u → DividesVector (pos k) (base p u)) → k ≡ 1

-- a placement that is barycentric and normal
pub record IsNormalPlacement (G : Graph) (p : Placement) : Type 0 where
  pub barycentric : IsBarycentric G p
  pub normal : IsNormal G p

-- q is p moved by one vector, both in units of 1/(the product of their denominators)
pub record IsTranslate (G : Graph) (p q : Placement) : Type 0 where
  pub by : Vector
  pub each : (u : ℕ) → IsQuotientVertex G u
      → minus (times (pos p.denominator) (base q u)) (times (pos q.denominator) (base p u)) ≡ by

-- (u, 0) and (v, t) are different vertices at one position
pub record IsCollision (G : Graph) (p : Placement) (u v : ℕ) (t : Vector) : Type 0 where
  pub here : IsQuotientVertex G u
  pub there : IsVertex G (vertex v t)
  pub different : vertex u zero_vector ≢ vertex v t
  pub same_place : position p (vertex u zero_vector) ≡ position p (vertex v t)

-- different vertices have different positions
abbrev pub HasNoCollision : Graph → Placement → Type 0
HasNoCollision G p = (u v : ℕ) (t : Vector) → ¬ IsCollision G p u v t

-- p is the normal placement of a connected net without collisions
pub record IsStablePlacement (G : Graph) (p : Placement) : Type 0 where
  pub connected : IsConnected G
  pub placement : IsNormalPlacement G p
  pub no_collision : HasNoCollision G p

-- some placement of the net is normal, and without collisions, and the net is connected
abbrev pub IsStable : Graph → Type 0
IsStable G = (p : Placement) × IsStablePlacement G p

-- the limit of a placement, for the denominator and each part of an arc's vector
pub record IsWithinLimits (G : Graph) (p : Placement) : Type 0 where
  pub denominator : p.denominator ≤ most_units
  pub arcs : (a : Arc) → IsArc G a → IsWithin most_units (arc_vector p a)
