-- The text of the workload.
use Rattle.std.specs.Prelude.{ℕ, ◌+◌, ◌-◌, ◌*◌, ◌/◌, ◌%◌, ℤ, pos, ◌+ℤ◌, ◌*ℤ◌, List, [], ◌∷◌, ◌++◌, ◌==◌, if◌then◌else◌, flat_map, unsigned_abs, codes}
use Rattle.std.specs.Int.{int_rem_euclid, int_div_euclid}
use Rattle.std.specs.List.{range_with_len}
use Rattle.std.specs.Fmt.{decimal, signed_decimal}
use Rattle.workload.specs.BaseNets.{base_edges, dimension}
use Rattle.workload.specs.declared.edge.Edge.{Edge}

-- the place, from 0 to m - 1, to which a part of a shift leads from place r of m
abbrev pub place_after : ℕ → ℕ → ℤ → ℕ
place_after m r part = unsigned_abs (int_rem_euclid (pos r +ℤ part) (pos m))

-- how often it leaves the m places on the way
abbrev pub cells_passed : ℕ → ℕ → ℤ → ℤ
cells_passed m r part = int_div_euclid (pos r +ℤ part) (pos m)

-- vertex u at place r, if each vertex has m places
abbrev pub vertex_at : ℕ → ℕ → ℕ → ℕ
vertex_at m u r = (u - 1) * m + r + 1

-- an edge of the base net from place r, in a cell of m base cells along the first axis, if the second axis is k times the first further
abbrev pub edge_at : ℕ → ℕ → Edge → ℕ → Edge
edge_at m k e r = record {
  u = vertex_at m e.u r;
  v = vertex_at m e.v (place_after m r e.x);
  x = cells_passed m r e.x +ℤ pos k *ℤ e.y;
  y = e.y;
  z = e.z;
}

-- a part of a shift after a blank
unfoldable pub part_text : ℤ → List ℕ
part_text part = 32 ∷ signed_decimal part

-- the third part, which a plane net does not have
unfoldable pub third_text : ℕ → ℤ → List ℕ
third_text d part = if d == 2 then [] else part_text part

-- the two vertices of an edge
abbrev pub ends_text : Edge → List ℕ
ends_text e = decimal e.u ++ 32 ∷ decimal e.v

-- its shift of d parts
abbrev pub shift_text : ℕ → Edge → List ℕ
shift_text d e = part_text e.x ++ part_text e.y ++ third_text d e.z

-- the line of an edge of dimension d
unfoldable pub edge_line : ℕ → Edge → List ℕ
edge_line d e = ends_text e ++ shift_text d e ++ 10 ∷ []

-- the lines of a base edge at the first places
abbrev pub lines_before : ℕ → ℕ → ℕ → Edge → ℕ → List ℕ
lines_before d m k e places = flat_map (λ r. edge_line d (edge_at m k e r)) (range_with_len 0 places)

-- the lines of a base edge, one for each place
abbrev pub place_lines : ℕ → ℕ → ℕ → Edge → List ℕ
place_lines d m k e = lines_before d m k e m

-- the lines of these base edges
abbrev pub all_lines : ℕ → ℕ → ℕ → List Edge → List ℕ
all_lines d m k edges = flat_map (place_lines d m k) edges

-- the base net, the number of cells, and the shear of net i
abbrev pub base_of : ℕ → ℕ
base_of i = i % 8

abbrev pub cells_of : ℕ → ℕ
cells_of i = 1 + i / 8 % 4

abbrev pub shear_of : ℕ → ℕ
shear_of i = i / 32 % 5

-- the lines of the edges of net i
abbrev pub edges_text : ℕ → List ℕ
edges_text i = all_lines (dimension (base_of i)) (cells_of i) (shear_of i) (base_edges (base_of i))

-- the block of net i
unfoldable pub block_text : ℕ → List ℕ
block_text i = codes "PERIODIC_GRAPH\nNAME w" ++ decimal i ++ codes "\nEDGES\n" ++ edges_text i ++ codes "END\n"

-- the blocks of nets 0 to n - 1
abbrev pub workload : ℕ → List ℕ
workload n = flat_map block_text (range_with_len 0 n)

-- the nets of a workload, at most
abbrev pub most_nets : ℕ
most_nets = 4096

-- its bytes, at most: 400 for each net
abbrev pub most_text : ℕ
most_text = 400 * most_nets
