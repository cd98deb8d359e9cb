-- The arcs from each vertex, and a graph as it stands in memory.
use Rattle.std.specs.Prelude.{◌≡◌, ℕ, ◌-◌, List, [], length, slice_index_or}
use Rattle.std.specs.List.Sorted.{IsPermutation}
use Rattle.integers.specs.Vectors.{IsWithin}
use Rattle.periodic_net.specs.Graph.{Graph, Arc, IsArc, IsGraph, IsQuotientVertex, arcs_from}
use Rattle.periodic_net.specs.Limits.{most_shift, IsSmall}
use Rattle.quotient_graph.specs.Order.{AreRising}

-- the quotient graph of dimension d with n vertices and these edges
abbrev pub graph_with : ℕ → ℕ → List Arc → Graph
graph_with d n edges = record { dimension = d; vertices = n; edges = edges }

-- the list of vertex u, which is counted from 1
abbrev pub star_at : List (List Arc) → ℕ → List Arc
star_at stars u = slice_index_or stars (u - 1) []

-- exactly the arcs from u, in rising order; a loop gives two of them
pub record IsStar (G : Graph) (u : ℕ) (star : List Arc) : Type 0 where
  pub all : IsPermutation (arcs_from G u) star
  pub rising : AreRising star

-- a graph as it stands in memory: within the limits, its edges rise, and each vertex has its arcs
pub record IsGraphInMemory (G : Graph) (stars : List (List Arc)) : Type 0 where
  pub is_graph : IsGraph G
  pub small : IsSmall G
  pub rising : AreRising G.edges
  pub count : length stars ≡ G.vertices
  pub each : (u : ℕ) → IsQuotientVertex G u → IsStar G u (star_at stars u)

-- the same graph, with its edges in rising order
pub record IsInOrder (G H : Graph) : Type 0 where
  pub dimension : H.dimension ≡ G.dimension
  pub vertices : H.vertices ≡ G.vertices
  pub edges : IsPermutation G.edges H.edges
  pub rising : AreRising H.edges

-- an arc of the graph from u, between its vertices and within the limits
pub record IsArcFrom (G : Graph) (u : ℕ) (a : Arc) : Type 0 where
  pub is_arc : IsArc G a
  pub from : a.from ≡ u
  pub to : IsQuotientVertex G a.to
  pub shift : IsWithin most_shift a.shift
