-- Searches of shells in a box.
use Rattle.std.specs.Prelude.{◌≡◌, ℕ, ◌-◌, ◌≤◌, List, [], ◌++◌, map, drop, length, Contains, Bool, slice_index_or}
use Rattle.integers.specs.Vectors.{zero_vector}
use Rattle.periodic_net.specs.Graph.{Graph, IsQuotientVertex, Vertex, vertex, AreJoined}
use Rattle.key_theory.specs.Kinds.{kind_of}
use Rattle.coordination.specs.Boxes.{IsBoxOf, IsInside, spot_in}
use Rattle.coordination.specs.Expanding.{Expands, StandOnce}
use Rattle.coordination.specs.Extents.{IsCellWithin}
use Rattle.coordination.specs.Marks.{AreMarked}
use Rattle.coordination.specs.Sequences.{AreShellsOf}
use Rattle.coordination.specs.declared.net_box.NetBox.{NetBox}
use Rattle.coordination.specs.declared.spot.Spot.{Spot}

-- these vertices were found, in this order, and are marked
pub record AreFoundAndMarked (P : Graph) (b : NetBox) (vertices : List Vertex) (marks : List Bool) (found : List Spot) : Type 0 where
  pub size : length marks ≡ b.size
  pub inside : (x : Vertex) → Contains vertices x → IsInside P.vertices b.extent x
  pub spots : map (spot_in P.vertices b.extent) vertices ≡ found
  pub marked : AreMarked marks found

-- what x is joined to is in the box
abbrev pub IsOpen : Graph → NetBox → Vertex → Type 0
IsOpen P b x = (y : Vertex) → AreJoined P x y → IsCellWithin b.extent y.cell

-- these vertices were found, each once, and what those from this place on are joined to is in the box
pub record IsSearchable (P : Graph) (b : NetBox) (vertices : List Vertex) (marks : List Bool) (found : List Spot) (begin : ℕ) : Type 0 where
  pub is_box : IsBoxOf P b
  pub is_found : AreFoundAndMarked P b vertices marks found
  pub once : StandOnce vertices
  pub low : begin ≤ length vertices
  pub open_from : (x : Vertex) → Contains (drop begin vertices) x → IsOpen P b x

-- some vertices of a net were found so
pub record IsReady (b : NetBox) (marks : List Bool) (found : List Spot) (begin : ℕ) : Type 0 where
  pub graph : Graph
  pub vertices : List Vertex
  pub searchable : IsSearchable graph b vertices marks found begin

-- with these vertices the next shell was found
pub record IsFoundNext (P : Graph) (b : NetBox) (vertices : List Vertex) (begin room : ℕ) (marks : List Bool) (found : List Spot) : Type 0 where
  pub next : List Vertex
  pub is_found : AreFoundAndMarked P b (vertices ++ next) marks found
  pub expands : Expands (AreJoined P) room (drop begin vertices) vertices next

-- the next shell was found, in whichever net
abbrev pub IsNextShell : NetBox → ℕ → ℕ → List Bool → List Spot → List Bool → List Spot → Type 0
IsNextShell b begin room marks found marks' found' =
    (P : Graph) (vertices : List Vertex) → IsSearchable P b vertices marks found begin → IsFoundNext P b vertices begin room marks' found'

-- a search may start from the vertex over c in cell 0
pub record IsStart (b : NetBox) (c : ℕ) : Type 0 where
  pub graph : Graph
  pub is_box : IsBoxOf graph b
  pub inside : IsQuotientVertex graph c

-- the sizes of the shells of this vertex, in whichever net
abbrev pub AreShellsInBox : NetBox → ℕ → List ℕ → Type 0
AreShellsInBox b c sizes = (P : Graph) → IsBoxOf P b → IsQuotientVertex P c → AreShellsOf P (vertex c zero_vector) sizes

-- the sizes of the shells of the first vertices in cell 0
pub record AreFirstLists (P : Graph) (n : ℕ) (lists : List (List ℕ)) : Type 0 where
  pub count : length lists ≡ n
  pub each : (c : ℕ) → IsQuotientVertex P c → c ≤ n → AreShellsOf P (vertex c zero_vector) (slice_index_or lists (c - 1) [])

-- and of all
abbrev pub AreListsOf : Graph → List (List ℕ) → Type 0
AreListsOf P lists = AreFirstLists P P.vertices lists

-- for each vertex the number of one whose shells, in cell 0, have the same sizes
pub record AreShellKinds (P : Graph) (kinds : List ℕ) : Type 0 where
  pub count : length kinds ≡ P.vertices
  pub positive : (c : ℕ) → IsQuotientVertex P c → 1 ≤ kind_of kinds c
  pub same : (c : ℕ) (sizes : List ℕ) → IsQuotientVertex P c → IsQuotientVertex P (kind_of kinds c)
      → AreShellsOf P (vertex (kind_of kinds c) zero_vector) sizes → AreShellsOf P (vertex c zero_vector) sizes
