-- What a search of a quotient graph from a vertex has found.
use Rattle.std.specs.Prelude.{◌≡◌, ℕ, ◌+◌, ◌-◌, ◌*◌, ◌<◌, ◌≤◌, List, [], ◌∷◌, ◌++◌, length, slice_index_or, slice_set, All, Contains, count_by, replicate}
use Rattle.std.specs.Prelude.{Option, Some, None, IsSome, is_some, is_none, if◌then◌else◌}
use Rattle.integers.specs.Vectors.{Vector, zero_vector, IsWithin}
use Rattle.periodic_net.specs.Graph.{Graph, Arc, IsArc, IsQuotientVertex}
use Rattle.periodic_net.specs.Split.{WalkShift}
use Rattle.periodic_net.specs.Limits.{most_walk, most_shift}

-- the shift of the walk that was found to vertex u, which is counted from 1
abbrev pub walk_to : List (Option Vector) → ℕ → Option Vector
walk_to found u = slice_index_or found (u - 1) None

-- the shift of a walk, and 0 if none was found
abbrev pub shift_of : Option Vector → Vector
shift_of None = zero_vector
shift_of (Some T) = T

-- of n vertices none is found
abbrev pub none_found : ℕ → List (Option Vector)
none_found n = replicate n None

-- how many vertices were not found
abbrev pub missing_count : List (Option Vector) → ℕ
missing_count found = count_by (λ o. is_none o) found

-- vertex u is found by a walk of shift T, unless it was found before
abbrev pub found_with : List (Option Vector) → ℕ → Vector → List (Option Vector)
found_with found u T = if is_some (walk_to found u) then found else slice_set found (u - 1) (Some T)

-- and it comes last in the order of finding
abbrev pub order_with : List (Option Vector) → List ℕ → ℕ → List ℕ
order_with found order u = if is_some (walk_to found u) then order else order ++ u ∷ []

-- walks lead from the start to the vertices that were found, which stand in the order in which they were
pub record IsSearch (G : Graph) (start : ℕ) (found : List (Option Vector)) (order : List ℕ) : Type 0 where
  pub count : length found ≡ G.vertices
  pub walks : (u : ℕ) (T : Vector) → 1 ≤ u → walk_to found u ≡ Some T → WalkShift G start u T
  pub listed : (u : ℕ) (T : Vector) → 1 ≤ u → walk_to found u ≡ Some T → Contains order u
  pub vertices : (k : ℕ) → k < length order → IsQuotientVertex G (slice_index_or order k 0)
  pub near : (k : ℕ) → k < length order → (T : Vector) × (walk_to found (slice_index_or order k 0) ≡ Some T) × IsWithin (most_shift * k) T

-- each arc from u leads to a vertex that was found
abbrev pub LeadsToFound : Graph → List (Option Vector) → ℕ → Type 0
LeadsToFound G found u = (a : Arc) → IsArc G a → a.from ≡ u → IsSome (walk_to found a.to)

-- the found vertices are exactly those that a walk from the start leads to, each with the shift of one
pub record AreWalks (G : Graph) (start : ℕ) (found : List (Option Vector)) : Type 0 where
  pub count : length found ≡ G.vertices
  pub first : walk_to found start ≡ Some zero_vector
  pub walks : (u : ℕ) (T : Vector) → 1 ≤ u → walk_to found u ≡ Some T → WalkShift G start u T
  pub within : All (λ walk. IsWithin most_walk (shift_of walk)) found
  pub closed : (u : ℕ) → 1 ≤ u → IsSome (walk_to found u) → LeadsToFound G found u

-- a search after more of it: what was found stays, and the order is longer at its end
pub record Grows (G : Graph) (start : ℕ) (found : List (Option Vector)) (order : List ℕ) (found' : List (Option Vector)) (order' : List ℕ) : Type 0 where
  pub search : IsSearch G start found' order'
  pub kept : (k : ℕ) (T : Vector) → slice_index_or found k None ≡ Some T → slice_index_or found' k None ≡ Some T
  pub same : (k : ℕ) → k < length order → slice_index_or order' k 0 ≡ slice_index_or order k 0
  pub longer : length order ≤ length order'
  pub together : missing_count found' + length order' ≡ missing_count found + length order

-- and the arcs from u lead to found vertices
pub record Expands (G : Graph) (start : ℕ) (found : List (Option Vector)) (order : List ℕ) (u : ℕ) (found' : List (Option Vector))
    (order' : List ℕ) : Type 0 where
  pub grows : Grows G start found order found' order'
  pub leads : LeadsToFound G found' u

-- a search whose first vertices, i of them, lead to found ones alone
pub record IsSearchedTo (G : Graph) (start : ℕ) (found : List (Option Vector)) (order : List ℕ) (i : ℕ) : Type 0 where
  pub search : IsSearch G start found order
  pub first : walk_to found start ≡ Some zero_vector
  pub together : missing_count found + length order ≡ G.vertices
  pub done : (k : ℕ) → k < i → LeadsToFound G found (slice_index_or order k 0)
