-- The rows of a text of maps, each without its line feed.
use Rattle.std.specs.Prelude.{ℕ, ℤ, pos, List, [], ◌∷◌, ◌++◌, map, codes}
use Rattle.std.specs.Fmt.{signed_decimal}
use Rattle.integers.specs.Vectors.{Vector, parts}
use Rattle.periodic_net.specs.Graph.{Arc, Vertex}
use Rattle.line_text.specs.Numbers.{row_text}
use Rattle.graph_rows.specs.declared.size.GraphSize.{GraphSize}
use Rattle.graph_rows.specs.Rows.{size_row, edge_row}
use Rattle.net_certificate.specs.declared.items.NoMap.{NoMap}
use Rattle.net_certificate.specs.declared.items.NoMap.TheVariants.{Different, Long, Wide}

-- the first line
unfoldable pub title_row : List ℕ
title_row = codes "net_maps 1"

-- `pair` and the number of a graph, which is counted from 1
unfoldable pub pair_text : ℕ → List ℕ
pair_text k = codes "pair " ++ signed_decimal (pos k)

-- why there is no map to the graph
unfoldable pub reason_text : NoMap → List ℕ
reason_text Different = codes " different"
reason_text (Long entries) = codes " long entries=" ++ signed_decimal (pos entries)
reason_text (Wide value) = codes " wide value=" ++ signed_decimal value

-- the graph has no map, and why
abbrev pub reason_row : ℕ → NoMap → List ℕ
reason_row k why = pair_text k ++ reason_text why

-- what follows the number of a graph that has a map
unfoldable pub map_word : List ℕ
map_word = codes " map"

-- the graph has a map
abbrev pub map_row : ℕ → List ℕ
map_row k = pair_text k ++ map_word

-- `period` and its number
unfoldable pub period_row : ℕ → List ℕ
period_row m = row_text (codes "period") (pos m ∷ [])

-- a vertex of a net of dimension d
abbrev pub vertex_numbers : ℕ → Vertex → List ℤ
vertex_numbers d w = pos w.over ∷ parts d w.cell

-- a vertex of a net of dimension d, and its image in one of dimension e
abbrev pub image_numbers : ℕ → ℕ → Vertex → Vertex → List ℤ
image_numbers d e w x = vertex_numbers d w ++ vertex_numbers e x

-- `image` and these numbers
unfoldable pub image_row : ℕ → ℕ → Vertex → Vertex → List ℕ
image_row d e w x = row_text (codes "image") (image_numbers d e w x)

-- `base` and a shift of dimension e
unfoldable pub base_row : ℕ → Vector → List ℕ
base_row e v = row_text (codes "base") (parts e v)

-- `end`
unfoldable pub end_row : List ℕ
end_row = codes "end"

-- a row of a text
pub data Row : Type 0 where
  OfTitle : Row
  OfSize : GraphSize → Row
  -- an edge of a graph of this dimension
  OfEdge : ℕ → Arc → Row
  OfReason : ℕ → NoMap → Row
  OfMap : ℕ → Row
  OfPeriod : ℕ → Row
  -- the dimensions of both nets, a vertex of the first, and its image
  OfImage : ℕ → ℕ → Vertex → Vertex → Row
  -- the dimension of the second net, and a shift
  OfBase : ℕ → Vector → Row
  OfEnd : Row

-- the bytes of a row
abbrev pub row_line : Row → List ℕ
row_line OfTitle = title_row
row_line (OfSize s) = size_row s
row_line (OfEdge dim e) = edge_row dim e
row_line (OfReason k why) = reason_row k why
row_line (OfMap k) = map_row k
row_line (OfPeriod m) = period_row m
row_line (OfImage d e w x) = image_row d e w x
row_line (OfBase e v) = base_row e v
row_line OfEnd = end_row

-- the bytes of these rows
abbrev pub row_lines : List Row → List (List ℕ)
row_lines rows = map row_line rows
