-- Arcs whose vectors lie in a lattice, and the basis that its staircase is.
use Rattle.std.specs.Prelude.{◌≡◌, ℕ, ◌+◌, ◌≤◌, ◌<◌, pos, List, length, map, All}
use Rattle.integers.specs.Vectors.{vector, HasDimension, IsWithin}
use Rattle.periodic_net.specs.Classes.{ClassGraph, ClassArc}
use Rattle.periodic_net.specs.Limits.{most_coordinate, most_units}
use Rattle.integers.specs.Bases.{Base}
use Rattle.key_theory.specs.Coordinates.{arc_by_basis}
use Rattle.quotient_graph.specs.ClassNets.{arcs_of, class_star}
use Rattle.vecdim.specs.Lattices.{Members}
use Rattle.vecdim.specs.Stairs.{Stairs}

-- the vector of the arc is a member
abbrev pub IsInside : ℕ → Stairs → ClassArc → Type 0
IsInside d S a = Members d S a.vector

-- the vectors of these arcs are members
abbrev pub AreInside : ℕ → Stairs → List ClassArc → Type 0
AreInside d S arcs = All (IsInside d S) arcs

-- the vectors of these arcs are within the limit of a placement
abbrev pub AreWithinUnits : List ClassArc → Type 0
AreWithinUnits arcs = All (λ (a : ClassArc). IsWithin most_units a.vector) arcs

-- the rows of a staircase as a basis; in dimension 2 the third row is (0, 0, 1)
abbrev pub basis_of : Stairs → Base
basis_of S = record { first = vector S.first_x S.first_y S.first_z; second = vector (pos 0) S.second_y S.second_z; third = vector (pos 0) (pos 0) S.third_z }

-- the arc has a vector of dimension d, within the limit of coordinates
pub record IsProperly (d : ℕ) (a : ClassArc) : Type 0 where
  pub dimension : HasDimension d a.vector
  pub within : IsWithin most_coordinate a.vector

-- new has the arcs of old, with their vectors in the coordinates of the staircase
pub record IsInCoordinates (d : ℕ) (S : Stairs) (old new : List ClassArc) : Type 0 where
  pub same : map (arc_by_basis (basis_of S)) new ≡ old
  pub proper : All (IsProperly d) new

-- the lists of the classes below m have the arcs of their classes in coordinates
pub record AreInCoordinates (d : ℕ) (S : Stairs) (K : ClassGraph) (m : ℕ) (stars : List (List ClassArc)) : Type 0 where
  pub count : length stars + 1 ≡ m
  pub each : (c : ℕ) → 1 ≤ c → c < m → IsInCoordinates d S (arcs_of K c) (class_star stars c)
