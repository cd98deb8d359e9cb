-- When a map that is written as a table is an isomorphism, as theorems.
use Rattle.std.specs.Prelude.{◌≡◌, ◌↔◌}
use Rattle.periodic_net.specs.Graph.{Graph, IsGraph, Vertex}
use Rattle.periodic_net.specs.Maps.{PeriodicMap, IsMapTable, IsDrawnBy, IsPeriodic, Iso, IsBijection, JoinsAlike}
use Rattle.map_check.specs.Tables.{CountsAgree, HasNoDouble, DegreesAgree, ArcsAreKept}

-- f is the map that the table M writes down, between graphs of one dimension
pub record IsMapOf (G H : Graph) (M : PeriodicMap) (f : Vertex → Vertex) : Type 0 where
  pub graph : IsGraph G
  pub other : IsGraph H
  pub same : G.dimension ≡ H.dimension
  pub table : IsMapTable G H M
  pub drawn : IsDrawnBy G M f

-- the map is a bijection if and only if the counts agree and no image is another, moved by the shifts
abbrev pub TablesOfBijections : Type 0
TablesOfBijections =
    (G H : Graph) (M : PeriodicMap) (f : Vertex → Vertex) → IsMapOf G H M f
    → IsBijection G H f ↔ (CountsAgree G H M × HasNoDouble G M)

-- a bijection joins images if and only if vertices are joined, just when degrees agree and arcs are kept
abbrev pub TablesThatJoin : Type 0
TablesThatJoin =
    (G H : Graph) (M : PeriodicMap) (f : Vertex → Vertex) → IsMapOf G H M f → IsBijection G H f
    → JoinsAlike G H f ↔ (DegreesAgree G H M × ArcsAreKept G H M f)

-- what a table passes
pub record Passes (G H : Graph) (M : PeriodicMap) (f : Vertex → Vertex) : Type 0 where
  pub counts : CountsAgree G H M
  pub no_double : HasNoDouble G M
  pub degrees : DegreesAgree G H M
  pub arcs : ArcsAreKept G H M f

-- the map is periodic, a bijection, and joins images if and only if the vertices are joined
pub record IsIsomorphic (G H : Graph) (M : PeriodicMap) (f : Vertex → Vertex) : Type 0 where
  pub period : IsPeriodic G H f M.m M.base
  pub bijection : IsBijection G H f
  pub joins : JoinsAlike G H f

-- a table passes if and only if its map is so, and then there is an isomorphism, which is this map
pub record TablesGiveIso : Type 0 where
  pub exactly :
      (G H : Graph) (M : PeriodicMap) (f : Vertex → Vertex) → IsMapOf G H M f
      → Passes G H M f ↔ IsIsomorphic G H M f
  pub iso :
      (G H : Graph) (M : PeriodicMap) (f : Vertex → Vertex) → IsMapOf G H M f → Passes G H M f
      → (e : Iso G H) × (e.there ≡ f)
