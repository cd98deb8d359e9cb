-- A search in breadth from a vertex, with the path to each vertex that it found.
use Rattle.std.specs.Prelude.{◌≡◌, ◌⊎◌, ℕ, List, [], ◌∷◌, ◌++◌, map}
use Rattle.integers.proofs.lists.Members.{IsIn}
use Rattle.periodic_net.specs.Graph.{Graph, Arc, IsArc}
use Rattle.periodic_net.specs.Chosen.{IsPath, IsNoLater}
use Rattle.periodic_net.specs.Breadth.{IsBreadth}

-- a vertex that was found, and the path by which
pub record Entry : Type 0 where
  pub vertex : ℕ
  pub path : List Arc

abbrev pub entry : ℕ → List Arc → Entry
entry u fs = record { vertex = u; path = fs }

-- the arc f from y leads to a known vertex, whose path is no later than that of y with f
pub record Leads (known : List Entry) (y : Entry) (f : Arc) : Type 0 where
  pub to : Entry
  pub is_known : IsIn known to
  pub head : to.vertex ≡ f.to
  pub no_later : IsNoLater to.path (y.path ++ f ∷ [])

-- x is gone on from by the arcs that are left; then each of rest; all others that are known were gone on from by all their arcs
pub record IsSettling (G : Graph) (a : ℕ) (known rest : List Entry) (x : Entry) (left : List Arc) : Type 0 where
  pub breadth : IsBreadth (map (λ y. y.path) known) (map (λ y. y.path) rest) x.path left
  pub start : IsIn known (entry a [])
  pub current : IsIn known x
  pub inside : (y : Entry) → IsIn rest y → IsIn known y
  pub paths : (y : Entry) → IsIn known y → IsPath G a y.path y.vertex
  pub once : (y z : Entry) → IsIn known y → IsIn known z → y.vertex ≡ z.vertex → y ≡ z
  pub arcs : (f : Arc) → IsIn left f → IsArc G f × (f.from ≡ x.vertex)
  pub here : (f : Arc) → IsArc G f → f.from ≡ x.vertex → IsIn left f ⊎ Leads known x f
  pub each : (y : Entry) → IsIn known y → IsIn rest y ⊎ (y ≡ x) ⊎ ((f : Arc) → IsArc G f → f.from ≡ y.vertex → Leads known y f)

-- nothing is left
pub record IsComplete (G : Graph) (a : ℕ) (known : List Entry) : Type 0 where
  pub start : IsIn known (entry a [])
  pub paths : (y : Entry) → IsIn known y → IsPath G a y.path y.vertex
  pub once : (y z : Entry) → IsIn known y → IsIn known z → y.vertex ≡ z.vertex → y ≡ z
  pub leads : (y : Entry) → IsIn known y → (f : Arc) → IsArc G f → f.from ≡ y.vertex → Leads known y f
