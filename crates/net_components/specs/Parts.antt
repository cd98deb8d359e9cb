-- The parts of a net: for each component of its quotient graph the graph of one copy.
use Rattle.std.specs.Prelude.{◌≡◌, ℕ, ◌<◌, ◌-◌, List, length, All, AllPairs, Contains, slice_index_or}
use Rattle.integers.specs.Staircase.{IsStaircase}
use Rattle.integers.specs.Vectors.{Vector}
use Rattle.vecdim.specs.Stairs.{Stairs, rows_of, size_of}
use Rattle.periodic_net.specs.Graph.{Graph, Arc, IsQuotientVertex}
use Rattle.periodic_net.specs.Limits.{IsSmall}
use Rattle.periodic_net.specs.Split.{ClosedShift}
use Rattle.quotient_graph.specs.AnyGraphs.{graph_view}
use Rattle.periodic_net.specs.Chosen.{path_shift, IsChosen}
use Rattle.periodic_net.specs.Components.{InComponent}
use Rattle.net_components.specs.Copies.{HasCopies}
use Rattle.net_components.specs.PartGraphs.{IsPart}
use Rattle.net_components.specs.declared.parts.Part.{Part}

-- the vertex with a number, counted from 1
abbrev pub vertex_at : List ℕ → ℕ → ℕ
vertex_at vertices i = slice_index_or vertices (i - 1) 0

-- to each vertex of the component of a the shift of the chosen walk
abbrev pub AreChosenShifts : Graph → ℕ → (ℕ → Vector) → Type 0
AreChosenShifts G a T = (u : ℕ) → InComponent G a u → (P : List Arc) × IsChosen G a u P × (path_shift P ≡ T u)

-- p is the part of the component of a: its vertices in rising order, the staircase basis of its closed walks, the number of
-- its different copies, which is the product of the pivots, and its graph, within the limits
pub record IsPartOf (G : Graph) (a : ℕ) (p : Part) : Type 0 where
  pub T : ℕ → Vector
  pub chosen : AreChosenShifts G a T
  pub stairs : Stairs
  pub part : IsPart G a T stairs (vertex_at p.vertices) (graph_view p.graph)
  pub count : length p.vertices ≡ (graph_view p.graph).vertices
  pub rows : p.basis ≡ rows_of G.dimension stairs
  pub basis : IsStaircase (ClosedShift G a) G.dimension p.basis
  pub copies : HasCopies G a T p.copies
  pub size : p.copies ≡ size_of stairs
  pub small : IsSmall (graph_view p.graph)

-- the least vertex of a part
abbrev pub root_of : Part → ℕ
root_of p = vertex_at p.vertices 1

-- one part for each component, in the order of their least vertices
pub record AreParts (G : Graph) (ps : List Part) : Type 0 where
  pub each : All (λ p. IsPartOf G (root_of p) p) ps
  pub rising : AllPairs (λ p q. root_of p < root_of q) ps
  pub covers : (u : ℕ) → IsQuotientVertex G u → (p : Part) × Contains ps p × InComponent G (root_of p) u

-- what is seen of a part
pub record PartView : Type 0 where
  pub vertices : List ℕ
  pub basis : List Vector
  pub copies : ℕ
  pub graph : Graph

abbrev pub view_of : Part → PartView
view_of p = record { vertices = p.vertices; basis = p.basis; copies = p.copies; graph = graph_view p.graph }
