-- The edges of a component, written for its graph.
use Rattle.std.specs.Prelude.{◌≡◌, List, length}
use Rattle.integers.specs.Vectors.{IsWithin}
use Rattle.periodic_net.specs.Graph.{Graph, Arc, arc}
use Rattle.periodic_net.specs.Limits.{most_shift}
use Rattle.quotient_graph.specs.AnyGraphs.{graph_view}
use Rattle.quotient_graph.specs.Stars.{graph_with}
use Rattle.vecdim.specs.Stairs.{rows_of, size_of}
use Rattle.periodic_net.specs.Components.{InComponent}
use Rattle.net_components.specs.PartGraphs.{stair_base, IsWritten, AreWritten}
use Rattle.connected_dim.specs.Generators.{shift_at}
use Rattle.net_components.specs.Components.{Component}
use Rattle.net_components.specs.Parts.{vertex_at}
use Rattle.net_components.specs.Shifts.{IsWideAt, IsWideIn}
use Rattle.net_components.specs.Vertices.{vertices_of}
use Rattle.net_components.specs.declared.fault.PartFault.{PartFault}
use Rattle.net_components.specs.declared.fault.PartFault.TheVariants.{LowRank, WideShift, NoMemory}
use Rattle.net_components.specs.declared.parts.Part.{Part}

-- f is the edge e as it is written for the graph of the component, within the limit
pub record IsEdgeOf (G : Graph) (c : Component) (e f : Arc) : Type 0 where
  pub written : IsWritten G.dimension (length (vertices_of 1 c.found)) (shift_at c.found) (stair_base c.stairs) (vertex_at (vertices_of 1 c.found)) e f
  pub small : IsWithin most_shift f.shift

-- fs are the edges of the component among es
abbrev pub AreEdgesOf : Graph → Component → List Arc → List Arc → Type 0
AreEdgesOf G c es fs = AreWritten (InComponent G c.root) (IsEdgeOf G c) es fs

-- why an edge is not written
abbrev pub IsWideEdge : Graph → Component → Arc → PartFault → Type 0
IsWideEdge G c e (LowRank u v) = ⊥
IsWideEdge G c e (WideShift u v s p value) = (arc u v s ≡ e) × IsWideAt G c.root e p value
IsWideEdge G c e NoMemory = Unit {0}

-- why the edges of a component are not written
abbrev pub IsWideFault : Graph → Component → PartFault → Type 0
IsWideFault G c (LowRank u v) = ⊥
IsWideFault G c (WideShift u v s p value) = IsWideIn G c.root u v s p value
IsWideFault G c NoMemory = Unit {0}

-- H is the graph of the component
pub record IsGraphOf (G : Graph) (c : Component) (H : Graph) : Type 0 where
  pub edges : List Arc
  pub same : H ≡ graph_with G.dimension (length (vertices_of 1 c.found)) edges
  pub each : AreEdgesOf G c G.edges edges

-- p is made of the component
pub record IsMadeOf (G : Graph) (c : Component) (p : Part) : Type 0 where
  pub vertices : p.vertices ≡ vertices_of 1 c.found
  pub basis : p.basis ≡ rows_of G.dimension c.stairs
  pub copies : p.copies ≡ size_of c.stairs
  pub graph : IsGraphOf G c (graph_view p.graph)
