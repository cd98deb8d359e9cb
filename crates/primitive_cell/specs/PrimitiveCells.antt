-- Primitive cells: the classes of a placed net, their representatives, and the lattice of its translations.
use Rattle.std.specs.Prelude.{◌≡◌, ◌↔◌, ℕ, ◌+◌, ◌<◌, List, length, Contains}
use Rattle.integers.specs.Staircase.{IsStaircase}
use Rattle.integers.specs.Vectors.{Vector}
use Rattle.periodic_net.specs.Classes.{IsTranslation, ClassGraph, ClassArc, IsClassGraph}
use Rattle.periodic_net.specs.Correspondence.{IsClass}
use Rattle.periodic_net.specs.Graph.{IsGraph, Arc}
use Rattle.periodic_net.specs.Limits.{most_coordinate}
use Rattle.periodic_net.specs.Placement.{IsStablePlacement}
use Rattle.key_theory.specs.Primitive.{IsLeastMember}
use Rattle.quotient_graph.specs.ClassNets.{arcs_of}
use Rattle.quotient_graph.specs.NetClasses.{NetClasses, class_at, ClassArcsRise}
use Rattle.quotient_graph.specs.PlacedNets.{PlacedNet, most_position}
use Rattle.vecdim.specs.Lattices.{Members}
use Rattle.vecdim.specs.Stairs.{Stairs, rows_of}
use Rattle.primitive_cell.specs.Given.{AreGivenEdges}
use Rattle.primitive_cell.specs.Places.{number_at}

-- the members of the staircase are the translations of the net, and its rows are their staircase basis
pub record IsTranslationLattice (d : ℕ) (N : PlacedNet) (S : Stairs) : Type 0 where
  pub dimension : N.graph.dimension ≡ d
  pub members : (v : Vector) → Members d S v ↔ IsTranslation N.graph N.placement v
  pub basis : IsStaircase (IsTranslation N.graph N.placement) d (rows_of d S)

-- c has the classes of the net, us their representatives, and S the translations
pub record IsPrimitiveCell (d : ℕ) (N : PlacedNet) (c : NetClasses) (us : List ℕ) (S : Stairs) : Type 0 where
  pub graph : IsGraph N.graph
  pub stable : IsStablePlacement N.graph N.placement
  pub classes : IsClassGraph N.graph N.placement (class_at c.numbers) c.classes
  pub rising : (k : ℕ) → IsClass c.classes k → ClassArcsRise (arcs_of c.classes k)
  pub count : length us ≡ c.classes.count
  pub representatives : (k : ℕ) → IsClass c.classes k → IsLeastMember N.graph (class_at c.numbers) k (number_at us k)
  pub lattice : IsTranslationLattice d N S

-- b is an arc from a class below n
abbrev pub IsArcBelow : ClassGraph → ℕ → ClassArc → Type 0
IsArcBelow K n b = Contains K.arcs b × (b.from < n)

-- exactly the edges that the arcs from classes below n give, in normal spelling and in rising order
abbrev pub AreEdgesBelow : ℕ → PlacedNet → NetClasses → List ℕ → Stairs → ℕ → List Arc → Type 0
AreEdgesBelow d N c us S n es = AreGivenEdges d N.placement (number_at us) (rows_of d S) (IsArcBelow c.classes n) es

-- a part of the move from a representative to the end of an arc from another, as an absolute value
abbrev pub most_move : ℕ
most_move = most_coordinate + most_position + most_position
