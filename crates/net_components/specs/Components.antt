-- The components of a quotient graph, as they are found.
use Rattle.std.specs.Prelude.{ℕ, ◌<◌, ◌^◌, List, Option, IsSome, All, AllPairs, Contains}
use Rattle.integers.specs.Vectors.{Vector}
use Rattle.vecdim.specs.Stairs.{Stairs, size_of}
use Rattle.periodic_net.specs.Graph.{Graph, IsQuotientVertex}
use Rattle.net_components.specs.ComponentSets.{IsLeast}
use Rattle.net_components.specs.Ranks.{IsFullAt}
use Rattle.connected_dim.specs.Paths.{AreChosenWalks}
use Rattle.connected_dim.specs.Search.{walk_to, AreWalks}

-- a vertex, the walks to the vertices of its component, and the staircase of its closed walks
pub record Component : Type 0 where
  pub root : ℕ
  pub found : List (Option Vector)
  pub stairs : Stairs

-- the root is the least vertex, the walks are the chosen ones, and the closed walks have full rank
pub record IsComponent (G : Graph) (c : Component) : Type 0 where
  pub least : IsLeast G c.root
  pub walks : AreWalks G c.root c.found
  pub chosen : AreChosenWalks G c.root c.found
  pub full : IsFullAt G c.root c.stairs
  pub few : size_of c.stairs < 2 ^ 60

-- vertex u was found in one of these
abbrev pub IsFoundIn : List Component → ℕ → Type 0
IsFoundIn cs u = (c : Component) × Contains cs c × IsSome (walk_to c.found u)

-- the components of the vertices below u, in the order of their roots
pub record AreComponentsTo (G : Graph) (cs : List Component) (u : ℕ) : Type 0 where
  pub each : All (IsComponent G) cs
  pub below : All (λ c. c.root < u) cs
  pub rising : AllPairs (λ b c. b.root < c.root) cs
  pub covers : (v : ℕ) → IsQuotientVertex G v → v < u → IsFoundIn cs v
