-- What a net is divided into.
use Rattle.std.specs.Prelude.{ℕ, List}
use Rattle.integers.specs.Vectors.{Vector}
use Rattle.periodic_net.specs.Graph.{Graph, Arc}
use Rattle.quotient_graph.specs.Stars.{graph_with}

-- a basis of the translations, the primitive graph, and the class of each vertex of the graph that was divided
pub record DividedNet : Type 0 where
  pub basis : List Vector
  pub graph : Graph
  pub class_of : List ℕ

-- these of dimension d, with n classes
abbrev pub divided_net : ℕ → List Vector → ℕ → List Arc → List ℕ → DividedNet
divided_net d basis n edges class_of = record { basis = basis; graph = graph_with d n edges; class_of = class_of }
