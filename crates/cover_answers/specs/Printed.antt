-- Graphs that are printed as blocks, one after another.
use Rattle.std.specs.Prelude.{◌≡◌, ◌≢◌, ◌⊎◌, ℕ, ◌≤◌, List, [], ◌∷◌, ◌++◌, length, All, Contains, Option, None, Some}
use Rattle.periodic_net.specs.Graph.{Graph, Arc, IsGraph, IsQuotientVertex}
use Rattle.periodic_net.specs.Limits.{IsSmall}
use Rattle.cover_answers.specs.Blocks.{graph_text}

-- a graph, and the name of its block if it has one
pub record NamedGraph : Type 0 where
  pub name : Option (List ℕ)
  pub graph : Graph

-- this graph under this name
abbrev pub named_graph : Option (List ℕ) → Graph → NamedGraph
named_graph name G = record { name = name; graph = G }

-- a name that stands between quotes on a line: at most 200 bytes, none of them a quote or a line feed
abbrev pub MayBeName : Option (List ℕ) → Type 0
MayBeName None = Unit {0}
MayBeName (Some name) = (length name ≤ 200) × All (λ b. (b ≢ 34) × (b ≢ 10)) name

-- an edge of G ends at u
pub record EndsAt (G : Graph) (u : ℕ) : Type 0 where
  pub edge : Arc
  pub is_edge : Contains G.edges edge
  pub meets : (edge.from ≡ u) ⊎ (edge.to ≡ u)

-- a graph that is read as it is printed: within the limits, and each vertex stands in a row
pub record MayBePrinted (p : NamedGraph) : Type 0 where
  pub is_graph : IsGraph p.graph
  pub small : IsSmall p.graph
  pub ends : (u : ℕ) → IsQuotientVertex p.graph u → EndsAt p.graph u
  pub name : MayBeName p.name

-- the blocks of these graphs, one after another
abbrev pub blocks_text : List NamedGraph → List ℕ
blocks_text [] = []
blocks_text (p ∷ ps) = graph_text p.name p.graph ++ blocks_text ps
