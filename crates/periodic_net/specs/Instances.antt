-- Small nets that meet the definitions: none of these is empty.
use Rattle.std.specs.Prelude.{◌≡◌, ℕ, ℤ, pos, ◌+ℤ◌, ◌*ℤ◌}
use Rattle.std.specs.Int.{int_max}
use Rattle.integers.specs.Coordinates.{IsCoordinate}
use Rattle.integers.specs.Vectors.{Vector, vector, zero_vector}
use Rattle.periodic_net.specs.Classes.{ClassGraph, IsClassGraph, IsDistance}
use Rattle.periodic_net.specs.Examples.{square_net, doubled_net, honeycomb_net, hanging_net, slanted_net, slanted, square_placement}
use Rattle.periodic_net.specs.Examples.{honeycomb_placement, hanging_placement}
use Rattle.periodic_net.specs.Graph.{Graph, IsGraph, IsConnected, Vertex, vertex, IsVertex}
use Rattle.periodic_net.specs.Placement.{Placement, position, IsBarycentric, IsCollision, IsNormalPlacement, IsStable, IsStablePlacement}
use Rattle.periodic_net.specs.KnightNets.{knight_net, leaping_net}
use Rattle.periodic_net.specs.{Maps.BareIso, OrderedGroups.OrderedGroup, OrderedPlacements.IsBarycentricIn}
use Rattle.periodic_net.specs.Shells.{IsInShell, IsShellSize}
use Rattle.periodic_net.specs.Split.{Split, IsSplit}

-- a class graph of the square net, in which its class is at distance 0 from itself
pub record IsOfSquareNet (classes : ClassGraph) : Type 0 where
  pub class_graph : IsClassGraph square_net square_placement (λ u. 1) classes
  pub distance : IsDistance classes 1 1 0

-- the group of the whole numbers, in which each coordinate of a placement, in units of 1/D, is barycentric
pub record IsOfWholeNumbers (A : OrderedGroup ℤ) : Type 0 where
  pub sum : (a b : ℤ) → A.sum a b ≡ a +ℤ b
  pub greater : (a b : ℤ) → A.greater a b ≡ int_max a b
  pub placement : (G : Graph) (p : Placement) → IsBarycentric G p → (c : Vector → ℤ) → IsCoordinate c
      → IsBarycentricIn A G (λ t. pos p.denominator *ℤ c t) (λ w. c (position p w))

-- two quotient graphs of stable nets that are not isomorphic as infinite graphs, though the shells of their vertices have equal sizes
pub record AreStableAndApart (G H : Graph) : Type 0 where
  pub first : IsGraph G
  pub second : IsGraph H
  pub first_stable : IsStable G
  pub second_stable : IsStable H
  pub one_vertex : (G.vertices ≡ 1) × (H.vertices ≡ 1)
  pub same_shells : (k n : ℕ) → IsShellSize G (vertex 1 zero_vector) k n → IsShellSize H (vertex 1 zero_vector) k n
  pub apart : ¬ BareIso G H

-- an instance of each: of the square net, over two cells, of that of half as many edges along one axis, of those with further steps, of the
-- honeycomb net, and of a net with a vertex that hangs on another
pub record DefinitionsHaveInstances : Type 0 where
  pub graph : IsGraph square_net
  pub connected : IsConnected square_net
  pub stable : IsStablePlacement square_net square_placement
  pub classes : (classes : ClassGraph) × IsOfSquareNet classes
  pub shell : IsInShell square_net (vertex 1 zero_vector) 1 (vertex 1 (vector (pos 1) (pos 0) (pos 0)))
  pub split : (S : Split) × IsSplit doubled_net S
  pub normal : IsNormalPlacement honeycomb_net honeycomb_placement
  pub collision : IsCollision hanging_net hanging_placement 1 2 zero_vector
  pub bare : (e : BareIso square_net slanted_net) × (e.map ≡ λ w. vertex w.over (slanted w.cell))
  pub apart : ¬ BareIso square_net doubled_net
  pub same_shells : (w x : Vertex) (k n : ℕ) → IsVertex square_net w → IsVertex doubled_net x → IsShellSize square_net w k n → IsShellSize doubled_net x k n
  pub stable_apart : AreStableAndApart leaping_net knight_net
  pub ordered : (A : OrderedGroup ℤ) × IsOfWholeNumbers A
