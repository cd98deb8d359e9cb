-- Coordination shells, in the net itself: their sizes are the coordination sequence of a vertex.
-- Coordination sequences: O'Keeffe, Z. Krist. 210 (1995) 905; Conway and Sloane, Proc. R. Soc. Lond. A453 (1997) 2369.
use Rattle.std.specs.Prelude.{◌≡◌, ◌≢◌, ◌↔◌, ℕ, ◌≤◌, List, length, Contains, AllPairs}
use Rattle.periodic_net.specs.Graph.{Graph, Vertex, IsWalk}

-- k steps lead from w to x
abbrev pub StepsLead : Graph → ℕ → Vertex → Vertex → Type 0
StepsLead G k w x = (steps : List Vertex) × (length steps ≡ k) × IsWalk G w steps x

-- x is reached from w in k steps and in no fewer
pub record IsInShell (G : Graph) (w : Vertex) (k : ℕ) (x : Vertex) : Type 0 where
  pub reached : StepsLead G k w x
  pub no_fewer : (j : ℕ) → StepsLead G j w x → k ≤ j

-- shell k of w has this size
pub record IsShellSize (G : Graph) (w : Vertex) (k size : ℕ) : Type 0 where
  pub members : List Vertex
  pub exact : (x : Vertex) → Contains members x ↔ IsInShell G w k x
  pub once : AllPairs (λ x y. x ≢ y) members
  pub count : length members ≡ size
