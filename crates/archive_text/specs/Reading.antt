-- Where the reading of an entry stands.
use Rattle.std.specs.Prelude.{ℕ, ℤ, ◌≡◌, true, ◌<◌, ◌≤◌, ◌+◌, List, [], ◌∷◌, ◌++◌, length, map, All, Result, MatchResult}
use Rattle.line_text.specs.Faults.{IfBadLine}
use Rattle.line_text.specs.Lines.{Place, IsAt, last_line}
use Rattle.line_text.specs.declared.faults.RowFault.{RowFault}
use Rattle.periodic_net.specs.Graph.{Arc}
use Rattle.line_text.specs.Names.{is_name}
use Rattle.archive_text.specs.Rows.{name_row, key_row, count_row, shells_row, end_row, row_lines}
use Rattle.archive_text.specs.Forms.{IsKeyList, IsCount, AreSizes}
use Rattle.archive_text.specs.Parts.{Part, Start, Named, Drawn, Keyed, Counted, end_part, part_rows, shells_rows, IsFormed, HasEdgesAndKey, NoneFollows}
use Rattle.archive_text.specs.declared.version.Version.{Version}
use Rattle.archive_text.specs.declared.rest.KeyedGraph.{KeyedGraph}
use Rattle.archive_text.specs.declared.rest.Form.{Form}
use Rattle.graph_rows.specs.declared.size.GraphSize.{GraphSize}
use Rattle.cgd_read.specs.Spelling.{edge_of}

-- what does not stand at the beginning of what is left

abbrev pub NoName : List ℕ → Type 0
NoName left = (name rest : List ℕ) → is_name name ≡ true → left ≡ name_row name ++ 10 ∷ rest → ⊥

abbrev pub NoKey : List ℕ → Type 0
NoKey left = (key : List ℤ) (rest : List ℕ) → IsKeyList key → left ≡ key_row key ++ 10 ∷ rest → ⊥

abbrev pub NoCount : List ℕ → Type 0
NoCount left = (n : ℕ) (rest : List ℕ) → IsCount n → left ≡ count_row n ++ 10 ∷ rest → ⊥

abbrev pub NoShells : ℕ → List ℕ → Type 0
NoShells class left = (sizes rest : List ℕ) → AreSizes sizes → left ≡ shells_row class sizes ++ 10 ∷ rest → ⊥

-- the coordination sequences of so many classes, as bytes
abbrev pub shells_lines : List (List ℕ) → List (List ℕ)
shells_lines lists = row_lines (shells_rows 1 lists)

-- these coordination sequences are read from the one place to the other
pub record AreShellsTo (start now : Place) (lists : List (List ℕ)) : Type 0 where
  pub at : (text : List ℕ) (rows : List (List ℕ)) → IsAt text rows start → IsAt text (rows ++ shells_lines lists) now
  pub each : All AreSizes lists

-- these coordination sequences were read, those of all classes
pub record HasShells (text : List ℕ) (rows : List (List ℕ)) (n : ℕ) (lists : List (List ℕ)) (place : Place) : Type 0 where
  pub at : IsAt text (rows ++ shells_lines lists) place
  pub each : All AreSizes lists
  pub whole : length lists ≡ n

-- after the coordination sequences of some classes the line with this number has not that of the next
pub record HasBadShells (text : List ℕ) (rows : List (List ℕ)) (n line : ℕ) : Type 0 where
  pub lists : List (List ℕ)
  pub place : Place
  pub at : IsAt text (rows ++ shells_lines lists) place
  pub number : line ≡ place.number
  pub each : All AreSizes lists
  pub few : length lists < n
  pub none : NoShells (length lists + 1) place.rest

-- the part is of an entry with this name
abbrev pub IsOf : List ℕ → Part → Type 0
IsOf name Start = ⊥
IsOf name (Named own) = own ≡ name
IsOf name (Drawn own s edges) = own ≡ name
IsOf name (Keyed own s edges key) = own ≡ name
IsOf name (Counted own s edges key n lists) = own ≡ name

-- after these rows and a part of an entry with this name the line with this number is none that may follow
pub record HasBadLine (v : Version) (text : List ℕ) (rows : List (List ℕ)) (name : List ℕ) (n : ℕ) : Type 0 where
  pub part : Part
  pub place : Place
  pub at : IsAt text (rows ++ row_lines (part_rows part)) place
  pub number : n ≡ place.number
  pub named : IsOf name part
  pub formed : IsFormed v part
  pub none : NoneFollows v part place.rest

-- what the rows of an entry up to its key say
abbrev pub keyed_part : List ℕ → KeyedGraph → Part
keyed_part name k = Keyed name k.size (map edge_of k.edges.items) k.key

-- these rows were read, and the number of the row of the key is reported
pub record HasKeyed (text : List ℕ) (rows : List (List ℕ)) (name : List ℕ) (place : Place) (k : KeyedGraph) : Type 0 where
  pub at : IsAt text (rows ++ row_lines (part_rows (keyed_part name k))) place
  pub formed : HasEdgesAndKey name k.size (map edge_of k.edges.items) k.key
  pub line : k.key_line ≡ length rows + (length k.edges.items + 3)
  pub within : k.key_line ≤ last_line

-- the rows of an entry before its end were read
pub record HasWhole (v : Version) (text : List ℕ) (rows : List (List ℕ)) (part : Part) (place : Place) : Type 0 where
  pub at : IsAt text (rows ++ row_lines (part_rows part)) place
  pub formed : IsFormed v part

-- after the key of an entry coordination sequences are read from the one place to the other, or a line is none that may follow
abbrev pub AreShellsRead : Version → Place → Place → Result (List (List ℕ)) RowFault → Type 0
AreShellsRead v before after result = (text : List ℕ) (rows : List (List ℕ)) (name : List ℕ) (s : GraphSize) (edges : List Arc) (key : List ℤ)
    → HasEdgesAndKey name s edges key → IsAt text (rows ++ row_lines (part_rows (Keyed name s edges key))) before
    → MatchResult result (λ lists. HasWhole v text rows (end_part v name s edges key lists) after) (IfBadLine (HasBadLine v text rows name))

-- what the rows of an entry before its end say
abbrev pub form_part : Version → List ℕ → Form → Part
form_part v name f = end_part v name f.keyed.size (map edge_of f.keyed.edges.items) f.keyed.key f.shells

-- the rows of an entry after its name were read, and its end
pub record HasForm (v : Version) (text : List ℕ) (rows : List (List ℕ)) (name : List ℕ) (after : Place) (f : Form) : Type 0 where
  pub before_end : Place
  pub whole : HasWhole v text rows (form_part v name f) before_end
  pub ends : before_end.rest ≡ end_row ++ 10 ∷ after.rest
  pub at_end : IsAt text ((rows ++ row_lines (part_rows (form_part v name f))) ++ end_row ∷ []) after
  pub line : f.keyed.key_line ≡ length rows + (length f.keyed.edges.items + 3)
  pub within : f.keyed.key_line ≤ last_line
