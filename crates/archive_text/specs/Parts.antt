-- How far an entry was passed.
use Rattle.std.specs.Prelude.{◌≡◌, true, ℕ, ℤ, ◌<◌, ◌≤◌, ◌+◌, List, [], ◌∷◌, ◌++◌, length, map, All}
use Rattle.periodic_net.specs.Graph.{Arc}
use Rattle.quotient_graph.specs.Order.{AreRising}
use Rattle.archive_text.specs.declared.version.Version.{Version}
use Rattle.archive_text.specs.declared.version.Version.TheVariants.{One, Two}
use Rattle.graph_rows.specs.declared.size.GraphSize.{GraphSize}
use Rattle.line_text.specs.Names.{is_name}
use Rattle.archive_text.specs.Rows.{Row, OfName, OfSize, OfEdge, OfKey, OfCount, OfShells, OfEnd, row_line}
use Rattle.archive_text.specs.Forms.{IsKeyList, IsCount, AreSizes}
use Rattle.graph_rows.specs.Forms.{IsSize, IsEdgeOfSize, IsNextEdge}

-- the first rows of an entry
pub data Part : Type 0 where
  -- none
  Start : Part
  Named : List ℕ → Part
  -- the size, and the first edges
  Drawn : List ℕ → GraphSize → List Arc → Part
  Keyed : List ℕ → GraphSize → List Arc → List ℤ → Part
  -- the number of classes, and the coordination sequences of the first of them
  Counted : List ℕ → GraphSize → List Arc → List ℤ → ℕ → List (List ℕ) → Part

-- the coordination sequences of class c and of those after it
abbrev pub shells_rows : ℕ → List (List ℕ) → List Row
shells_rows c [] = []
shells_rows c (sizes ∷ lists) = OfShells c sizes ∷ shells_rows (c + 1) lists

-- a name, a size, and edges
abbrev pub drawn_rows : List ℕ → GraphSize → List Arc → List Row
drawn_rows name s edges = OfName name ∷ OfSize s ∷ map (OfEdge s.dim) edges

-- the rows of a part
abbrev pub part_rows : Part → List Row
part_rows Start = []
part_rows (Named name) = OfName name ∷ []
part_rows (Drawn name s edges) = drawn_rows name s edges
part_rows (Keyed name s edges key) = drawn_rows name s edges ++ OfKey key ∷ []
part_rows (Counted name s edges key n lists) = drawn_rows name s edges ++ OfKey key ∷ OfCount n ∷ shells_rows 1 lists

-- in version 2 the number of classes, and the coordination sequence of each
abbrev pub class_rows : Version → List (List ℕ) → List Row
class_rows One lists = []
class_rows Two lists = OfCount (length lists) ∷ shells_rows 1 lists

-- an entry without its end: in version 2 with the coordination sequences of its classes
abbrev pub end_part : Version → List ℕ → GraphSize → List Arc → List ℤ → List (List ℕ) → Part
end_part One name s edges key lists = Keyed name s edges key
end_part Two name s edges key lists = Counted name s edges key (length lists) lists

-- a name begins an entry
abbrev pub BeginsEntry : Row → Type 0
BeginsEntry (OfName name) = is_name name ≡ true
BeginsEntry row = ⊥

-- a size stands after a name
abbrev pub FollowsName : Row → Type 0
FollowsName (OfSize s) = IsSize s
FollowsName row = ⊥

-- an edge stands after a size and edges, or the key after all edges
abbrev pub FollowsEdges : GraphSize → List Arc → Row → Type 0
FollowsEdges s edges (OfEdge dim e) = (dim ≡ s.dim) × (length edges < s.edges) × IsNextEdge s edges e
FollowsEdges s edges (OfKey key) = (length edges ≡ s.edges) × IsKeyList key
FollowsEdges s edges row = ⊥

-- the end stands after a key, or the number of classes
abbrev pub FollowsKey : Version → Row → Type 0
FollowsKey One OfEnd = Unit {0}
FollowsKey Two (OfCount n) = IsCount n
FollowsKey v row = ⊥

-- the coordination sequence of the next class stands after those of the classes before it, or the end after those of all
abbrev pub FollowsShells : ℕ → List (List ℕ) → Row → Type 0
FollowsShells n lists (OfShells c sizes) = (c ≡ length lists + 1) × (length lists < n) × AreSizes sizes
FollowsShells n lists OfEnd = length lists ≡ n
FollowsShells n lists row = ⊥

-- the row may stand after this part of an entry
abbrev pub MayStandAfter : Version → Part → Row → Type 0
MayStandAfter v Start row = BeginsEntry row
MayStandAfter v (Named name) row = FollowsName row
MayStandAfter v (Drawn name s edges) row = FollowsEdges s edges row
MayStandAfter v (Keyed name s edges key) row = FollowsKey v row
MayStandAfter v (Counted name s edges key n lists) row = FollowsShells n lists row

-- no row that may stand after the part stands at the beginning of what is left
abbrev pub NoneFollows : Version → Part → List ℕ → Type 0
NoneFollows v part left = (row : Row) (rest : List ℕ) → MayStandAfter v part row → left ≡ row_line row ++ 10 ∷ rest → ⊥

-- a name, a size, and edges of a graph of this size, in rising order and no more than it says
pub record IsDrawn (name : List ℕ) (s : GraphSize) (edges : List Arc) : Type 0 where
  pub is_name : is_name name ≡ true
  pub is_size : IsSize s
  pub each : All (IsEdgeOfSize s) edges
  pub rising : AreRising edges
  pub few : length edges ≤ s.edges

-- all edges, and a key
pub record HasEdgesAndKey (name : List ℕ) (s : GraphSize) (edges : List Arc) (key : List ℤ) : Type 0 where
  pub drawn : IsDrawn name s edges
  pub whole : length edges ≡ s.edges
  pub is_key : IsKeyList key

-- a number of classes, and coordination sequences of no more of them
pub record IsCounted (n : ℕ) (lists : List (List ℕ)) : Type 0 where
  pub is_count : IsCount n
  pub each : All AreSizes lists
  pub few : length lists ≤ n

-- the part has the form that it must have by itself
abbrev pub IsFormed : Version → Part → Type 0
IsFormed v Start = Unit {0}
IsFormed v (Named name) = is_name name ≡ true
IsFormed v (Drawn name s edges) = IsDrawn name s edges
IsFormed v (Keyed name s edges key) = HasEdgesAndKey name s edges key
IsFormed v (Counted name s edges key n lists) = (v ≡ Two) × HasEdgesAndKey name s edges key × IsCounted n lists
