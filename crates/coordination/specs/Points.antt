-- Points of a class graph, and the steps from one to another.
use Rattle.std.specs.Prelude.{◌≡◌, ℕ, ◌-◌, ◌*◌, List, map, All, Contains}
use Rattle.integers.specs.Vectors.{Vector, vector, plus, IsWithin}
use Rattle.periodic_net.specs.Classes.{ClassGraph, ClassArc}
use Rattle.periodic_net.specs.Limits.{most_coordinate}
use Rattle.coordination.specs.Sequences.{most_shells}
use Rattle.coordination.specs.declared.point.Point.{Point}

-- the point of class c at place v
abbrev pub point : ℕ → Vector → Point
point c v = record { class = c; x = v.x; y = v.y; z = v.z }

-- the place of a point
abbrev pub place_of : Point → Vector
place_of p = vector p.x p.y p.z

-- the point to which an arc leads from p
abbrev pub along : Point → ClassArc → Point
along p a = point a.to (plus (place_of p) a.vector)

-- the points to which these arcs lead from p
abbrev pub ends_of : Point → List ClassArc → List Point
ends_of p arcs = map (along p) arcs

-- a part of a place from which another step is made, as an absolute value
abbrev pub most_place : ℕ
most_place = (most_shells - 1) * most_coordinate

-- another step may be made from p
abbrev pub IsNear : Point → Type 0
IsNear p = IsWithin most_place (place_of p)

-- the vectors of these arcs are within the limit
abbrev pub AreShort : List ClassArc → Type 0
AreShort arcs = All (λ (a : ClassArc). IsWithin most_coordinate a.vector) arcs

-- an arc leads from p to q
pub record IsStep (K : ClassGraph) (p q : Point) : Type 0 where
  pub arc : ClassArc
  pub is_arc : Contains K.arcs arc
  pub from : arc.from ≡ p.class
  pub onto : along p arc ≡ q
