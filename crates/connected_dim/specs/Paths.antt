-- The paths by which a search in breadth found its vertices.
use Rattle.std.specs.Prelude.{◌≡◌, ◌⊎◌, ℕ, ◌<◌, ◌≤◌, ◌+◌, ◌-◌, List, [], ◌∷◌, length, map, drop, slice_index_or, Option, Some}
use Rattle.integers.proofs.lists.Members.{IsIn}
use Rattle.integers.specs.Vectors.{Vector, zero_vector}
use Rattle.periodic_net.specs.Graph.{Graph, Arc}
use Rattle.periodic_net.specs.Chosen.{path_shift, IsChosen}
use Rattle.periodic_net.specs.Settling.{Entry, entry, IsSettling}
use Rattle.connected_dim.specs.Search.{walk_to}

-- each vertex of the order was found by a path; the one at place i is gone on from by these arcs, and then each after it
pub record IsPathSearch (G : Graph) (a : ℕ) (found : List (Option Vector)) (order : List ℕ) (i : ℕ) (left : List Arc) : Type 0 where
  pub known : List Entry
  pub vertices : map (λ y. y.vertex) known ≡ order
  pub shifts : (y : Entry) → IsIn known y → walk_to found y.vertex ≡ Some (path_shift y.path)
  pub settling : IsSettling G a known (drop (i + 1) known) (slice_index_or known i (entry a [])) left

-- the start alone was found
pub record IsBegun (a : ℕ) (found : List (Option Vector)) (order : List ℕ) : Type 0 where
  pub alone : order ≡ a ∷ []
  pub nowhere : walk_to found a ≡ Some zero_vector

-- the vertices before place i were gone on from by all of their arcs
pub record IsSettledTo (G : Graph) (a : ℕ) (found : List (Option Vector)) (order : List ℕ) (i : ℕ) : Type 0 where
  pub which : ((i ≡ 0) × IsBegun a found order) ⊎ ((1 ≤ i) × IsPathSearch G a found order (i - 1) [])

-- if those before a place of vertex u were gone on from, u is too
abbrev pub SettlesNext : Graph → ℕ → List (Option Vector) → List ℕ → ℕ → List (Option Vector) → List ℕ → Type 0
SettlesNext G a found order u found' order' =
    (i : ℕ) → i < length order → slice_index_or order i 0 ≡ u → IsSettledTo G a found order i → IsSettledTo G a found' order' (i + 1)

-- each shift that was found is that of the chosen walk
pub record AreChosenWalks (G : Graph) (a : ℕ) (found : List (Option Vector)) : Type 0 where
  pub each : (u : ℕ) (T : Vector) → 1 ≤ u → walk_to found u ≡ Some T → (P : List Arc) × IsChosen G a u P × (path_shift P ≡ T)
