-- The classes of a connected stable net, as they stand in memory.
use Rattle.std.specs.Prelude.{◌≡◌, ℕ, ◌-◌, ℤ, pos, List, ◌∷◌, length, slice_index_or, AllPairs}
use Rattle.integers.specs.Vectors.{Vector, parts, IsBelow}
use Rattle.periodic_net.specs.Classes.{AreTranslations, ClassGraph, ClassArc, IsClassGraph}
use Rattle.periodic_net.specs.Correspondence.{IsClass}
use Rattle.periodic_net.specs.Graph.{Graph}
use Rattle.periodic_net.specs.Placement.{Placement, IsStablePlacement, IsWithinLimits}
use Rattle.quotient_graph.specs.ClassNets.{arcs_of}

-- a graph, the class of each vertex, the class graph, and translations
pub record NetClasses : Type 0 where
  pub graph : Graph
  pub numbers : List ℕ
  pub classes : ClassGraph
  pub translations : List Vector

-- the class of vertex u
abbrev pub class_at : List ℕ → ℕ → ℕ
class_at numbers u = slice_index_or numbers (u - 1) 0

-- the tail, the head and the vector of an arc, as one list of numbers
abbrev pub class_arc_numbers : ClassArc → List ℤ
class_arc_numbers a = pos a.from ∷ pos a.to ∷ parts 3 a.vector

-- the arcs rise strictly by tail, head and vector
abbrev pub ClassArcsRise : List ClassArc → Type 0
ClassArcsRise as' = AllPairs (λ a b. IsBelow (class_arc_numbers a) (class_arc_numbers b)) as'

-- the net is connected and stable, p is its placement, which is within the limits, and these are its classes, by least members,
-- its class graph, whose stars rise, and exactly its translations with parts from 0 to the denominator less 1
pub record AreClassesAt (G : Graph) (p : Placement) (numbers : List ℕ) (K : ClassGraph) (rs : List Vector) : Type 0 where
  pub stable : IsStablePlacement G p
  pub limits : IsWithinLimits G p
  pub count : length numbers ≡ G.vertices
  pub is_classes : IsClassGraph G p (class_at numbers) K
  pub rising : (c : ℕ) → IsClass K c → ClassArcsRise (arcs_of K c)
  pub are_translations : AreTranslations G p rs

-- the same, by the placement of the net, of which there is one
pub record AreClassesOf (G : Graph) (numbers : List ℕ) (K : ClassGraph) (rs : List Vector) : Type 0 where
  pub placement : Placement
  pub at : AreClassesAt G placement numbers K rs

-- the classes of a net, by this placement
abbrev pub AreClassesBy : Placement → NetClasses → Type 0
AreClassesBy p c = AreClassesAt c.graph p c.numbers c.classes c.translations

-- the same, by the placement of the net
abbrev pub AreClasses : NetClasses → Type 0
AreClasses c = AreClassesOf c.graph c.numbers c.classes c.translations
