-- The lines of a group: its operations, and its orbits of vertices and of edges.
use Rattle.std.specs.Prelude.{ℕ, ◌==◌, List, [], ◌∷◌, ◌++◌, cond, length, codes}
use Rattle.integers.specs.{Bases.Base, Vectors.Vector, Vectors.parts}
use Rattle.line_text.specs.Numbers.{field_text, list_text}
use Rattle.net_operations.specs.Groups.{EdgeOrbit, Group, Motion, transposed, VertexOrbit}

-- the parts of a vector of dimension d, after a blank
unfoldable pub after_blank : ℕ → Vector → List ℕ
after_blank d v = codes " " ++ list_text (parts d v)

-- the third row of a matrix, which there is in dimension 3 alone
abbrev pub third_text : ℕ → Vector → List ℕ
third_text d v = cond (d == 2) [] (after_blank d v)

-- the rows of a matrix
abbrev pub matrix_text : ℕ → Base → List ℕ
matrix_text d w = after_blank d w.first ++ after_blank d w.second ++ third_text d w.third

-- an operation: its matrix W by rows, and then its shift w
abbrev pub motion_text : ℕ → Motion → List ℕ
motion_text d m = codes "operation" ++ matrix_text d (transposed m.rows) ++ after_blank d m.shift ++ codes "\n"

-- operations, in their order
abbrev pub motions_text : ℕ → List Motion → List ℕ
motions_text d [] = []
motions_text d (m ∷ ms) = motion_text d m ++ motions_text d ms

-- an orbit of vertices: its least vertex, its size, and the order of the stabilizer of a vertex
abbrev pub vertex_orbit_text : VertexOrbit → List ℕ
vertex_orbit_text o = field_text (codes "orbit ") o.least ++ field_text (codes " size=") o.size ++ field_text (codes " order=") o.order ++ codes "\n"

-- orbits of vertices, in their order
abbrev pub vertex_orbits_text : List VertexOrbit → List ℕ
vertex_orbits_text [] = []
vertex_orbits_text (o ∷ os) = vertex_orbit_text o ++ vertex_orbits_text os

-- an orbit of edges: its first edge, and its size
abbrev pub edge_orbit_text : ℕ → EdgeOrbit → List ℕ
edge_orbit_text d o =
    field_text (codes "orbit ") o.edge.from ++ field_text (codes " ") o.edge.to ++ after_blank d o.edge.shift ++ field_text (codes " size=") o.size
    ++ codes "\n"

-- orbits of edges, in their order
abbrev pub edge_orbits_text : ℕ → List EdgeOrbit → List ℕ
edge_orbits_text d [] = []
edge_orbits_text d (o ∷ os) = edge_orbit_text d o ++ edge_orbits_text d os

-- a word and a count, on a line of their own
abbrev pub count_text : List ℕ → ℕ → List ℕ
count_text word n = field_text word n ++ codes "\n"

-- how many operations there are, and the operations
unfoldable pub operations_text : ℕ → List Motion → List ℕ
operations_text d ms = count_text (codes "operations ") (length ms) ++ motions_text d ms

-- how many orbits of vertices there are, and the orbits
unfoldable pub vertex_kinds_text : List VertexOrbit → List ℕ
vertex_kinds_text os = count_text (codes "vertices ") (length os) ++ vertex_orbits_text os

-- how many orbits of edges there are, and the orbits
unfoldable pub edge_kinds_text : ℕ → List EdgeOrbit → List ℕ
edge_kinds_text d os = count_text (codes "edges ") (length os) ++ edge_orbits_text d os

-- the operations of a net of dimension d, and its orbits
abbrev pub group_text : ℕ → Group → List ℕ
group_text d g = operations_text d g.motions ++ vertex_kinds_text g.vertices ++ edge_kinds_text d g.edges
