-- The symmetries of a net, carried over to the net of its primitive graph.
use Rattle.std.specs.Prelude.{◌≡◌, List, Contains}
use Rattle.periodic_net.specs.Graph.{Graph, IsVertex, Vertex}
use Rattle.periodic_net.specs.Maps.{BareIso}
use Rattle.net_symmetries.specs.Operations.{IsAfter, Operation}

-- carried over along the bijection i, the symmetry e of the one net is what o writes down in the other, and then a move by whole cells
pub record IsCarried (G P : Graph) (i : BareIso G P) (e : BareIso G G) (o : Operation) : Type 0 where
  pub there : BareIso P P
  pub carried : (w : Vertex) → IsVertex G w → i.map (e.map w) ≡ there.map (i.map w)
  pub after : IsAfter P o there

-- each of these operations is a symmetry of the net of G, carried over so, and each symmetry of it is exactly one of them
pub record AreSymmetriesOver (G P : Graph) (i : BareIso G P) (os : List Operation) : Type 0 where
  pub each : (o : Operation) → Contains os o → (e : BareIso G G) × IsCarried G P i e o
  pub all : (e : BareIso G G) → (o : Operation) × Contains os o × IsCarried G P i e o
  pub one : (e : BareIso G G) (o q : Operation) → Contains os o → Contains os q → IsCarried G P i e o → IsCarried G P i e q → o ≡ q
