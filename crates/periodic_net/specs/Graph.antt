-- Graphs, their arcs, and the infinite net of a graph.
-- These are labelled quotient graphs, of the vector method of Chung, Hahn and Klee, Acta Cryst. A40 (1984) 42-50.
-- Nets are those of Delgado-Friedrichs and O'Keeffe, Acta Cryst. A59 (2003) 351-360; the normal spelling is this project's own.
use Rattle.std.specs.Prelude.{◌≡◌, ◌≢◌, ◌⊎◌, ℕ, ◌<◌, ◌≤◌, List, [], ◌∷◌, All, AllPairs, Contains, filter, ◌==◌}
use Rattle.integers.specs.Vectors.{Vector, plus, minus, opposite, HasDimension, StartsPositive}

-- an arc of a quotient graph; an edge is one of its two arcs, in normal spelling
pub record Arc : Type 0 where
  pub from : ℕ
  pub to : ℕ
  pub shift : Vector

-- the arc from u to v with the shift s
abbrev pub arc : ℕ → ℕ → Vector → Arc
arc u v s = record { from = u; to = v; shift = s }

-- the same edge, the other way
abbrev pub reverse_of : Arc → Arc
reverse_of a = arc a.to a.from (opposite a.shift)

-- a quotient graph: its dimension, its number of vertices, and its edges
pub record Graph : Type 0 where
  pub dimension : ℕ
  pub vertices : ℕ
  pub edges : List Arc

-- u is a vertex of the quotient graph
abbrev pub IsQuotientVertex : Graph → ℕ → Type 0
IsQuotientVertex G u = (1 ≤ u) × (u ≤ G.vertices)

-- an edge is written from the lesser vertex, and a loop with a shift that starts positive
abbrev pub IsNormalSpelling : Arc → Type 0
IsNormalSpelling e = (e.from < e.to) ⊎ ((e.from ≡ e.to) × StartsPositive e.shift)

-- e is an edge between vertices of G, with a shift of its dimension
pub record IsEdge (G : Graph) (e : Arc) : Type 0 where
  pub from : IsQuotientVertex G e.from
  pub to : IsQuotientVertex G e.to
  pub shift : HasDimension G.dimension e.shift
  pub spelling : IsNormalSpelling e

-- G is a quotient graph: of dimension 2 or 3, with a vertex at least, and with different edges
pub record IsGraph (G : Graph) : Type 0 where
  pub dimension : (G.dimension ≡ 2) ⊎ (G.dimension ≡ 3)
  pub vertices : 1 ≤ G.vertices
  pub edges : All (IsEdge G) G.edges
  pub different : AllPairs (λ e f. e ≢ f) G.edges

-- these arcs, each with its reverse
abbrev pub both_ways : List Arc → List Arc
both_ways [] = []
both_ways (e ∷ es) = e ∷ reverse_of e ∷ both_ways es

-- each edge gives an arc each way
abbrev pub arcs : Graph → List Arc
arcs G = both_ways G.edges

-- the arcs whose tail is u
abbrev pub arcs_from : Graph → ℕ → List Arc
arcs_from G u = filter (λ a. a.from == u) (arcs G)

-- a is an arc of G
abbrev pub IsArc : Graph → Arc → Type 0
IsArc G a = Contains (arcs G) a

-- a vertex of the net: a vertex of the quotient graph, and a cell
pub record Vertex : Type 0 where
  pub over : ℕ
  pub cell : Vector

-- the vertex of the net over u in cell t
abbrev pub vertex : ℕ → Vector → Vertex
vertex u t = record { over = u; cell = t }

-- w is a vertex of the net of G
pub record IsVertex (G : Graph) (w : Vertex) : Type 0 where
  pub over : IsQuotientVertex G w.over
  pub cell : HasDimension G.dimension w.cell

-- w, moved by k cells
abbrev pub moved : Vertex → Vector → Vertex
moved w k = vertex w.over (plus w.cell k)

-- the net joins these two vertices
abbrev pub AreJoined : Graph → Vertex → Vertex → Type 0
AreJoined G w x = IsArc G (arc w.over x.over (minus x.cell w.cell))

-- from w, each vertex of the list is joined to the one before it, and the last is x
abbrev pub IsWalk : Graph → Vertex → List Vertex → Vertex → Type 0
IsWalk G w [] x = w ≡ x
IsWalk G w (y ∷ ys) x = AreJoined G w y × IsWalk G y ys x

-- a walk leads from w to x
abbrev pub IsReached : Graph → Vertex → Vertex → Type 0
IsReached G w x = (steps : List Vertex) × IsWalk G w steps x

-- the net is connected
abbrev pub IsConnected : Graph → Type 0
IsConnected G = (w x : Vertex) → IsVertex G w → IsVertex G x → IsReached G w x
