-- The theorems on isomorphisms of nets as infinite graphs, of which no period is asked, as statements.
use Rattle.std.specs.Prelude.{◌≡◌}
use Rattle.integers.specs.Bases.{Base}
use Rattle.periodic_net.specs.Graph.{Graph, IsGraph, Vertex, IsConnected}
use Rattle.periodic_net.specs.Maps.{IsPeriodic, IsBijection, JoinsAlike, BareIso, Iso}
use Rattle.periodic_net.specs.Placement.{Placement, IsBarycentric, HasNoCollision, IsStable}

-- from a connected net to a net that has a placement without collisions, a bijection that joins images if and only if the vertices are
-- joined is periodic: the denominator of the placement is a period
abbrev pub BareMapsArePeriodic : Type 0
BareMapsArePeriodic = (G H : Graph) (q : Placement) → IsGraph G → IsGraph H → IsConnected G → IsBarycentric H q → HasNoCollision H q
    → (map : Vertex → Vertex) → IsBijection G H map → JoinsAlike G H map → (b : Base) × IsPeriodic G H map q.denominator b

-- to be isomorphic as infinite graphs is an equivalence
pub record BareIsEquivalence : Type 0 where
  pub reflexive : (G : Graph) → BareIso G G
  pub symmetric : (G H : Graph) → BareIso G H → BareIso H G
  pub transitive : (G H K : Graph) → BareIso G H → BareIso H K → BareIso G K

-- between stable nets each such bijection is an isomorphism, and each isomorphism is such a bijection
pub record BareIsIso : Type 0 where
  pub there : (G H : Graph) → IsGraph G → IsGraph H → IsStable G → IsStable H → (e : BareIso G H) → (i : Iso G H) × (i.there ≡ e.map)
  pub back : (G H : Graph) → (i : Iso G H) → (e : BareIso G H) × (e.map ≡ i.there)

-- if one of two nets is stable, a bijection that joins images if and only if the vertices are joined is an isomorphism, with its period;
-- and then the other net is stable too
pub record StableNetsAreTold : Type 0 where
  pub onto : (G H : Graph) → IsGraph G → IsGraph H → IsStable H → (e : BareIso G H) → (i : Iso G H) × (i.there ≡ e.map)
  pub from : (G H : Graph) → IsGraph G → IsGraph H → IsStable G → (e : BareIso G H) → (i : Iso G H) × (i.there ≡ e.map)
  pub stable : (G H : Graph) → IsGraph G → IsGraph H → BareIso G H → IsStable G → IsStable H
