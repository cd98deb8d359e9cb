-- The theorems on walks, as statements.
use Rattle.std.specs.Prelude.{Bool, IsTrue, ◌≡◌, ℕ, List, Contains}
use Rattle.integers.specs.Lattices.{IsVectorGroup}
use Rattle.integers.specs.Vectors.{Vector}
use Rattle.periodic_net.specs.Graph.{Graph, IsGraph, IsQuotientVertex, Arc}
use Rattle.periodic_net.specs.Split.{ClosedShift, generator}
use Rattle.periodic_net.specs.Chosen.{IsChosen}
use Rattle.periodic_net.specs.Components.{InComponent, TellsWalks}
use Rattle.periodic_net.specs.Settling.{Entry, IsComplete}

-- a complete search finds the component, each vertex by its chosen walk
pub record SearchesChoose : Type 0 where
  pub chosen : (G : Graph) (a : ℕ) (known : List Entry) → IsComplete G a known → (y : Entry)
      → Contains known y → IsChosen G a y.vertex y.path
  pub finds : (G : Graph) (a : ℕ) (known : List Entry) → IsComplete G a known → (u : ℕ)
      → InComponent G a u → (y : Entry) × Contains known y × (y.vertex ≡ u)
  pub inside : (G : Graph) (a : ℕ) (known : List Entry) → IsComplete G a known → IsGraph G
      → IsQuotientVertex G a → (y : Entry) → Contains known y → InComponent G a y.vertex

-- there is one chosen walk to a vertex
abbrev pub ChosenWalkIsOne : Type 0
ChosenWalkIsOne =
    (G : Graph) (a u : ℕ) (P Q : List Arc) → IsChosen G a u P → IsChosen G a u Q → P ≡ Q

-- the edges of a component give closed walks, and a lattice that has these, of those that are given by
-- tests, has all
pub record ClosedWalksAreGenerated : Type 0 where
  pub closed : (G : Graph) → IsGraph G → (a : ℕ) (T : ℕ → Vector) → TellsWalks G a T → (e : Arc)
      → Contains G.edges e → InComponent G a e.from → ClosedShift G a (generator T e)
  pub all : (G : Graph) → IsGraph G → (a : ℕ) (T : ℕ → Vector) → TellsWalks G a T
      → IsQuotientVertex G a → (L : Vector → Bool) → IsVectorGroup (λ v. IsTrue (L v))
      → ((e : Arc) → Contains G.edges e → InComponent G a e.from → IsTrue (L (generator T e)))
      → (v : Vector) → ClosedShift G a v → IsTrue (L v)
