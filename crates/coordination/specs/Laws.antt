-- What holds of the shells and of the coordination sequence of a vertex.
use Rattle.std.specs.Prelude.{◌≡◌, ◌≢◌, ◌↔◌, ℕ, ◌+◌, ◌<◌, List, [], ◌∷◌, length, slice_index_or}
use Rattle.integers.specs.Vectors.{zero_vector}
use Rattle.periodic_net.specs.Graph.{Graph, IsGraph, Vertex, IsVertex, IsQuotientVertex, AreJoined, vertex}
use Rattle.periodic_net.specs.{Examples.square_net, Maps.BareIso}
use Rattle.periodic_net.specs.Shells.{IsInShell, IsShellSize}
use Rattle.key_theory.specs.Key.{Shape}
use Rattle.coordination.specs.Sequences.{AreShellsOf, AreSequencesOf}

-- a vertex has one list of sizes
abbrev pub OneSequence : Type 0
OneSequence = (G : Graph) (w : Vertex) (xs ys : List ℕ) → AreShellsOf G w xs → AreShellsOf G w ys → xs ≡ ys

-- a graph has one list of the sizes of its classes
abbrev pub SequencesAreOne : Type 0
SequencesAreOne = (G : Graph) (xs ys : List (List ℕ)) → IsGraph G → AreSequencesOf G xs → AreSequencesOf G ys → xs ≡ ys

-- each shell of each vertex of a connected stable net has a size
abbrev pub EachShellHasASize : Type 0
EachShellHasASize = (G : Graph) → IsGraph G → Shape G → (w : Vertex) → IsVertex G w → (k : ℕ) → (size : ℕ) × IsShellSize G w k size

-- x is joined to a vertex of shell k, and is in neither of the shells k and k - 1
pub record IsNewNeighbour (G : Graph) (w : Vertex) (k : ℕ) (x : Vertex) : Type 0 where
  pub from : Vertex
  pub in_shell : IsInShell G w k from
  pub joined : AreJoined G from x
  pub not_here : ¬ IsInShell G w k x
  pub not_before : (j : ℕ) → j + 1 ≡ k → ¬ IsInShell G w j x

-- the next shell has exactly the new neighbours of a shell
abbrev pub TwoShellsSuffice : Type 0
TwoShellsSuffice = (G : Graph) (w : Vertex) (k : ℕ) (x : Vertex) → IsInShell G w (k + 1) x ↔ IsNewNeighbour G w k x

-- a bijection that joins images if and only if the vertices are joined keeps the sizes of shells
abbrev pub BareKeepsShells : Type 0
BareKeepsShells = (G H : Graph) (w : Vertex) (k n : ℕ) → IsGraph G → IsGraph H → IsVertex G w → (e : BareIso G H)
    → IsShellSize G w k n ↔ IsShellSize H (e.map w) k n

-- these are the sizes of shells 1, 2 and so on of w, as many as are listed; nothing is asked of their number and their total
abbrev pub AreFirstSizes : Graph → Vertex → List ℕ → Type 0
AreFirstSizes G w sizes = (k : ℕ) → k < length sizes → IsShellSize G w (k + 1) (slice_index_or sizes k 0)

-- one of the shells of x, as many as are listed, has another size
pub record HasOtherSize (G : Graph) (x : Vertex) (sizes : List ℕ) : Type 0 where
  pub place : ℕ
  pub inside : place < length sizes
  pub size : ℕ
  pub is_size : IsShellSize G x (place + 1) size
  pub other : size ≢ slice_index_or sizes place 0

-- a vertex of the one net whose sizes no vertex of the other has refutes each such bijection. Nothing is asked of placements, keys,
-- connectedness or dimensions
abbrev pub OtherShellsRefute : Type 0
OtherShellsRefute = (G H : Graph) (w : Vertex) (sizes : List ℕ) → IsGraph G → IsGraph H → IsVertex G w → AreFirstSizes G w sizes
    → ((u : ℕ) → IsQuotientVertex H u → HasOtherSize H (vertex u zero_vector) sizes) → ¬ BareIso G H

-- each coordination sequence of a net is one of each net with the same infinite graph. So a sequence that is listed for one of two nets
-- alone refutes each such bijection
abbrev pub SequencesAreKept : Type 0
SequencesAreKept = (G H : Graph) (xs ys : List (List ℕ)) → IsGraph G → IsGraph H → AreSequencesOf G xs → AreSequencesOf H ys → BareIso G H
    → (k : ℕ) → k < length xs → (j : ℕ) × (j < length ys) × (slice_index_or xs k [] ≡ slice_index_or ys j [])

-- an instance of each: of the square net, the first shell of a vertex, and another size than its own
pub record DefinitionsHaveInstances : Type 0 where
  pub first : (w : Vertex) × (size : ℕ) × AreFirstSizes square_net w (size ∷ [])
  pub other : (u : ℕ) × (size : ℕ) × HasOtherSize square_net (vertex u zero_vector) (size ∷ [])
