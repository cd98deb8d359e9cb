-- The block of a graph, as a text that is read.
use Rattle.std.specs.Prelude.{ℕ, List, [], ◌∷◌, ◌++◌, Option, Some, None, codes}
use Rattle.periodic_net.specs.Graph.{Graph, Arc}
use Rattle.line_text.specs.Numbers.{list_text}
use Rattle.graph_rows.specs.Rows.{edge_numbers}

-- the line that names a graph, if it has a name
abbrev pub name_line : Option (List ℕ) → List ℕ
name_line None = []
name_line (Some name) = codes "NAME \"" ++ name ++ codes "\"\n"

-- an edge: its ends, and the parts of its shift
abbrev pub edge_line : ℕ → Arc → List ℕ
edge_line d e = list_text (edge_numbers d e) ++ codes "\n"

-- the edges, in their order
abbrev pub edge_lines : ℕ → List Arc → List ℕ
edge_lines d [] = []
edge_lines d (e ∷ es) = edge_line d e ++ edge_lines d es

-- the block of a graph
abbrev pub graph_text : Option (List ℕ) → Graph → List ℕ
graph_text name G =
    codes "PERIODIC_GRAPH\n" ++ name_line name ++ codes "EDGES\n" ++ edge_lines G.dimension G.edges ++ codes "END\n"
