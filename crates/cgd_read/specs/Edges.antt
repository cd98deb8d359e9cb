-- The vertices and the edges of rows, which are fields of lines. Rows are listed the nearest first.
use Rattle.std.specs.Prelude.{ℕ, pos, ◌+◌, Bool, true, false, ◌&&◌, ◌==◌, List, [], ◌∷◌, ◌++◌, if◌then◌else◌}
use Rattle.std.specs.List.{list_any, position_or_len}
use Rattle.std.specs.Str.{bytes_eq}
use Rattle.std.specs.Ordering.{int_eq}
use Rattle.cgd_read.specs.Lines.{FieldsView}
use Rattle.cgd_read.specs.declared.edge.RawEdge.{RawEdge}
use Rattle.cgd_read.specs.Spelling.{normal}

-- the list with x last, unless it has one that is the same
abbrev pub with_new : {X : Type 0} → (X → X → Bool) → List X → X → List X
with_new same xs x = if list_any (same x) xs then xs else xs ++ x ∷ []

-- the different vertices in order of appearance
abbrev pub vertices_of : List FieldsView → List (List ℕ)
vertices_of [] = []
vertices_of (row ∷ rows) = with_new bytes_eq (with_new bytes_eq (vertices_of rows) row.u) row.v

-- a vertex has the number of its place in order of appearance
abbrev pub vertex_number : List (List ℕ) → List ℕ → ℕ
vertex_number names name = position_or_len (bytes_eq name) names + 1

-- the edge of a row; these vertices came before it
abbrev pub row_edge : List (List ℕ) → FieldsView → RawEdge
row_edge before row = normal (vertex_number before row.u) (vertex_number (with_new bytes_eq before row.u) row.v) row.x row.y row.z

-- both are the same edge, as they are spelled
abbrev pub same_edge : RawEdge → RawEdge → Bool
same_edge e f = e.u == f.u && (e.v == f.v && (int_eq e.x f.x && (int_eq e.y f.y && int_eq e.z f.z)))

-- the different edges in order of appearance
abbrev pub edges_of : List FieldsView → List RawEdge
edges_of [] = []
edges_of (row ∷ rows) = with_new same_edge (edges_of rows) (row_edge (vertices_of rows) row)

-- both vertices are the same, and the shift is 0
abbrev pub is_self_edge : FieldsView → Bool
is_self_edge row = bytes_eq row.u row.v && (int_eq row.x (pos 0) && (int_eq row.y (pos 0) && int_eq row.z (pos 0)))

-- the row's edge is one of an earlier row, in either direction
abbrev pub is_repeat : List FieldsView → FieldsView → Bool
is_repeat rows row = list_any (same_edge (row_edge (vertices_of rows) row)) (edges_of rows)

-- the number of rows that repeat an edge of an earlier one
abbrev pub repeats_of : List FieldsView → ℕ
repeats_of [] = 0
repeats_of (row ∷ rows) = if is_repeat rows row then repeats_of rows + 1 else repeats_of rows

-- the number of fields of the first row, or 0 if there is none
abbrev pub first_size : List FieldsView → ℕ
first_size [] = 0
first_size (row ∷ rows) = if first_size rows == 0 then row.size else first_size rows

-- there is a row
abbrev pub has_rows : List FieldsView → Bool
has_rows [] = false
has_rows (row ∷ rows) = true
