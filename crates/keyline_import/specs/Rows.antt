-- The rows of a key line: each is an edge.
use Rattle.std.specs.Prelude.{◌≡◌, ◌≤ℤ◌, false, ℕ, ◌+◌, ℤ, pos, ◌-ℤ◌, Bool, ◌&&◌, not, nat_lt, max, List, [], length, if◌then◌else◌, unsigned_abs}
use Rattle.std.specs.List.{list_any}
use Rattle.std.specs.Ordering.{int_eq}
use Rattle.std.specs.Int.Signed.{le_z}
use Rattle.periodic_net.specs.Limits.{most_vertices, most_edges, most_shift}
use Rattle.cgd_read.specs.Spelling.{IsSmallPart, normal}
use Rattle.cgd_read.specs.Edges.{same_edge, with_new}
use Rattle.cgd_read.specs.declared.edge.RawEdge.{RawEdge}

-- five numbers: two vertices, and the parts of a shift; in the plane the third part is 0
pub record Row : Type 0 where
  pub u : ℤ
  pub v : ℤ
  pub x : ℤ
  pub y : ℤ
  pub z : ℤ

-- the row of these numbers
abbrev pub row : ℤ → ℤ → ℤ → ℤ → ℤ → Row
row u v x y z = record { u = u; v = v; x = x; y = y; z = z }

-- from 1 to most_vertices
abbrev pub is_vertex : ℤ → Bool
is_vertex n = le_z (pos 1) n && le_z n (pos most_vertices)

-- from -most_shift to most_shift
abbrev pub is_part : ℤ → Bool
is_part n = le_z (pos 0 -ℤ pos most_shift) n && le_z n (pos most_shift)

-- both vertices are the same, and the shift is 0
abbrev pub is_self_edge : Row → Bool
is_self_edge r = int_eq r.u r.v && (int_eq r.x (pos 0) && (int_eq r.y (pos 0) && int_eq r.z (pos 0)))

-- two vertices and a shift, each within the limits, which are an edge
abbrev pub is_row : Row → Bool
is_row r = is_vertex r.u && (is_vertex r.v && (is_part r.x && (is_part r.y && (is_part r.z && not (is_self_edge r)))))

-- these numbers are a row: two vertices and a shift within the limits, which are an edge
pub record IsRow (r : Row) : Type 0 where
  pub u : (pos 1 ≤ℤ r.u) × (r.u ≤ℤ pos most_vertices)
  pub v : (pos 1 ≤ℤ r.v) × (r.v ≤ℤ pos most_vertices)
  pub x : IsSmallPart r.x
  pub y : IsSmallPart r.y
  pub z : IsSmallPart r.z
  pub joins : is_self_edge r ≡ false

-- the edge of a row, in its normal spelling
abbrev pub row_edge : Row → RawEdge
row_edge r = normal (unsigned_abs r.u) (unsigned_abs r.v) r.x r.y r.z

-- what rows make: as many vertices as the greatest one named, and the different edges in order of appearance
pub record KeyView : Type 0 where
  pub dim : ℕ
  pub vertices : ℕ
  pub edges : List RawEdge
  pub repeats : ℕ

-- no row yet
abbrev pub no_rows : ℕ → KeyView
no_rows dim = record { dim = dim; vertices = 0; edges = []; repeats = 0 }

-- the row's edge is one of an earlier row, in either direction
abbrev pub is_repeat : KeyView → Row → Bool
is_repeat k r = list_any (same_edge (row_edge r)) k.edges

-- one more row
abbrev pub with_row : KeyView → Row → KeyView
with_row k r = record {
  dim = k.dim;
  vertices = max k.vertices (max (unsigned_abs r.u) (unsigned_abs r.v));
  edges = with_new same_edge k.edges (row_edge r);
  repeats = if is_repeat k r then k.repeats + 1 else k.repeats;
}

-- the row is one, and with it there are no more edges than may be
abbrev pub may_follow : KeyView → Row → Bool
may_follow k r = is_row r && not (nat_lt most_edges (length (with_row k r).edges))
