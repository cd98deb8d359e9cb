-- Coordination sequences, as far as they are listed.
use Rattle.std.specs.Prelude.{◌≡◌, ◌⊎◌, ℕ, ◌+◌, ◌-◌, ◌<◌, ◌≤◌, List, [], length, map, sum, slice_index_or, Vec}
use Rattle.std.specs.declared.alloc.Global.{Global}
use Rattle.periodic_net.specs.Classes.{ClassGraph}
use Rattle.periodic_net.specs.Graph.{Graph, IsGraph, Vertex, IsVertex}
use Rattle.periodic_net.specs.Shells.{IsShellSize}
use Rattle.key_theory.specs.Key.{Shape}
use Rattle.key_theory.specs.Kinds.{kind_of}

-- shells that are listed
abbrev pub most_shells : ℕ
most_shells = 10

-- vertices that these have together, without the one that they surround
abbrev pub most_in_shells : ℕ
most_in_shells = 20000

-- with shell k of w the total passes the limit
pub record IsShellPast (G : Graph) (w : Vertex) (k total : ℕ) : Type 0 where
  pub size : ℕ
  pub is_size : IsShellSize G w k size
  pub past : most_in_shells < total + size

-- the sizes of shells 1, 2 and so on of w: of the first ten, or of those before the first with which their total passes the limit
pub record AreShellsOf (G : Graph) (w : Vertex) (sizes : List ℕ) : Type 0 where
  pub each : (k : ℕ) → k < length sizes → IsShellSize G w (k + 1) (slice_index_or sizes k 0)
  pub within : sum sizes ≤ most_in_shells
  pub few : length sizes ≤ most_shells
  pub ends : (length sizes ≡ most_shells) ⊎ IsShellPast G w (length sizes + 1) (sum sizes)

-- these are the sizes for each vertex of class c, in each net with this class graph
abbrev pub AreShellsOfClass : ClassGraph → ℕ → List ℕ → Type 0
AreShellsOfClass K c sizes = (G : Graph) → IsGraph G → (h : Shape G) → h.classes ≡ K
    → (w : Vertex) → IsVertex G w → h.class_of w.over ≡ c → AreShellsOf G w sizes

-- these are the lists of the first n classes
pub record AreFirstSequences (K : ClassGraph) (n : ℕ) (lists : List (List ℕ)) : Type 0 where
  pub count : length lists ≡ n
  pub each : (k : ℕ) → k < n → AreShellsOfClass K (k + 1) (slice_index_or lists k [])

-- class c has the kind of an earlier class, which has this list
pub record IsOfEarlier (kinds : List ℕ) (lists : List (List ℕ)) (c : ℕ) (sizes : List ℕ) : Type 0 where
  pub earlier : kind_of kinds c < c
  pub is_list : sizes ≡ slice_index_or lists (kind_of kinds c - 1) []

-- the lists in these vectors
abbrev pub numbers_in : List (Vec ℕ Global) → List (List ℕ)
numbers_in lists = map (λ list. list.items) lists

-- G is the graph of a connected stable net, and these are the sizes of the shells of its classes: a list for each class, in the
-- order of their numbers, with the sizes for each vertex of the class
pub record AreSequencesOf (G : Graph) (lists : List (List ℕ)) : Type 0 where
  pub shape : Shape G
  pub count : length lists ≡ shape.classes.count
  pub each : (w : Vertex) → IsVertex G w → AreShellsOf G w (slice_index_or lists (shape.class_of w.over - 1) [])
