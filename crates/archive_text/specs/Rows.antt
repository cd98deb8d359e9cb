-- The rows of an archive, each without its line feed.
use Rattle.std.specs.Prelude.{ℕ, ℤ, pos, List, [], ◌∷◌, ◌++◌, map, codes}
use Rattle.periodic_net.specs.Graph.{Arc}
use Rattle.line_text.specs.Numbers.{row_text}
use Rattle.archive_text.specs.declared.version.Version.{Version}
use Rattle.archive_text.specs.declared.version.Version.TheVariants.{One, Two}
use Rattle.graph_rows.specs.Rows.{size_row, edge_row}
use Rattle.graph_rows.specs.declared.size.GraphSize.{GraphSize}

-- `net_archive` and the version
abbrev pub first_row : Version → List ℕ
first_row One = codes "net_archive 1"
first_row Two = codes "net_archive 2"

-- `entry` and a name between quotes
unfoldable pub name_row : List ℕ → List ℕ
name_row name = codes "entry \"" ++ (name ++ codes "\"")

-- `key` and its numbers
unfoldable pub key_row : List ℤ → List ℕ
key_row key = row_text (codes "key") key

-- `primitive` and the number of classes
unfoldable pub count_row : ℕ → List ℕ
count_row n = row_text (codes "primitive") (pos n ∷ [])

-- the number of a class, and its coordination sequence
abbrev pub shells_numbers : ℕ → List ℕ → List ℤ
shells_numbers c sizes = pos c ∷ map pos sizes

-- `shells` and these numbers
unfoldable pub shells_row : ℕ → List ℕ → List ℕ
shells_row c sizes = row_text (codes "shells") (shells_numbers c sizes)

-- `end`
unfoldable pub end_row : List ℕ
end_row = codes "end"

-- a row of an entry
pub data Row : Type 0 where
  OfName : List ℕ → Row
  OfSize : GraphSize → Row
  -- an edge of a graph of this dimension
  OfEdge : ℕ → Arc → Row
  OfKey : List ℤ → Row
  OfCount : ℕ → Row
  -- the coordination sequence of the class with this number
  OfShells : ℕ → List ℕ → Row
  OfEnd : Row

-- the bytes of a row
abbrev pub row_line : Row → List ℕ
row_line (OfName name) = name_row name
row_line (OfSize s) = size_row s
row_line (OfEdge dim e) = edge_row dim e
row_line (OfKey key) = key_row key
row_line (OfCount n) = count_row n
row_line (OfShells c sizes) = shells_row c sizes
row_line OfEnd = end_row

-- the bytes of these rows
abbrev pub row_lines : List Row → List (List ℕ)
row_lines rows = map row_line rows
