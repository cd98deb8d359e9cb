-- The walk that is chosen to a vertex: of the fewest arcs, and then of the least list.
use Rattle.std.specs.Prelude.{◌≡◌, ◌⊎◌, ℕ, ◌<◌, ℤ, pos, List, [], ◌∷◌, ◌++◌, length}
use Rattle.integers.specs.Vectors.{Vector, zero_vector, plus, parts, IsBelow, IsAtMost}
use Rattle.periodic_net.specs.Graph.{Graph, Arc, IsArc}

-- these arcs lead, one after the other, from vertex a to vertex u
abbrev pub IsPath : Graph → ℕ → List Arc → ℕ → Type 0
IsPath G a [] u = a ≡ u
IsPath G a (f ∷ fs) u = IsArc G f × (f.from ≡ a) × IsPath G f.to fs u

-- the sum of their shifts
abbrev pub path_shift : List Arc → Vector
path_shift [] = zero_vector
path_shift (f ∷ fs) = plus f.shift (path_shift fs)

-- the head and the shift of an arc, as numbers
abbrev pub step_key : Arc → List ℤ
step_key f = pos f.to ∷ parts 3 f.shift

-- those of all arcs; paths with as many arcs are compared by them
abbrev pub path_key : List Arc → List ℤ
path_key [] = []
path_key (f ∷ fs) = step_key f ++ path_key fs

-- P has fewer arcs than Q, or as many and the lesser list
abbrev pub IsBefore : List Arc → List Arc → Type 0
IsBefore P Q = (length P < length Q) ⊎ ((length P ≡ length Q) × IsBelow (path_key P) (path_key Q))

-- or the same list
abbrev pub IsNoLater : List Arc → List Arc → Type 0
IsNoLater P Q = (length P < length Q) ⊎ ((length P ≡ length Q) × IsAtMost (path_key P) (path_key Q))

-- P is the chosen walk from a to u
pub record IsChosen (G : Graph) (a u : ℕ) (P : List Arc) : Type 0 where
  pub path : IsPath G a P u
  pub least : (Q : List Arc) → IsPath G a Q u → IsNoLater P Q
