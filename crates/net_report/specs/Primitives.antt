-- The lines of a primitive graph.
use Rattle.std.specs.Prelude.{ℕ, List, [], ◌∷◌, ◌++◌, length, codes}
use Rattle.integers.specs.Vectors.{Vector, parts}
use Rattle.periodic_net.specs.Graph.{Arc}
use Rattle.primitive_cell.specs.DividedNets.{DividedNet}
use Rattle.line_text.specs.Numbers.{field_text, list_text}

-- the numbers of vertices and of edges
abbrev pub sizes_text : ℕ → ℕ → List ℕ
sizes_text vertices edges = field_text (codes "primitive vertices=") vertices ++ field_text (codes " edges=") edges ++ codes "\n"

-- a vector of the basis, in units of 1/D0
abbrev pub basis_text : ℕ → Vector → List ℕ
basis_text d v = codes "basis " ++ list_text (parts d v) ++ codes "\n"

-- the vectors of the basis, in their order
abbrev pub bases_text : ℕ → List Vector → List ℕ
bases_text d [] = []
bases_text d (v ∷ vs) = basis_text d v ++ bases_text d vs

-- an edge: its ends, and its shift in the basis
abbrev pub edge_text : ℕ → Arc → List ℕ
edge_text d e = field_text (codes "edge ") e.from ++ field_text (codes " ") e.to ++ codes " " ++ list_text (parts d e.shift) ++ codes "\n"

-- the edges, in their order
abbrev pub edges_text : ℕ → List Arc → List ℕ
edges_text d [] = []
edges_text d (e ∷ es) = edge_text d e ++ edges_text d es

-- the sizes, the basis and the edges of a primitive graph
abbrev pub primitive_text : DividedNet → List ℕ
primitive_text c =
    sizes_text c.graph.vertices (length c.graph.edges) ++ bases_text c.graph.dimension c.basis ++ edges_text c.graph.dimension c.graph.edges
