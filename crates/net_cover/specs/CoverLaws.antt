-- The theorem on covers, as a statement.
use Rattle.integers.specs.Bases.{Base}
use Rattle.periodic_net.specs.Graph.{Graph, Vertex, IsGraph, IsVertex}
use Rattle.periodic_net.specs.Maps.{Iso}
use Rattle.net_cover.specs.UnitCells.{IsCell}
use Rattle.net_cover.specs.Covers.{IsCover, HasCoverSize, LiesOver}

-- the net of a cover is the net up to isomorphism, by a map that takes each vertex to the one that lies over it; and the
-- cover has the index times as many vertices and edges
pub record CoversAreIsomorphic : Type 0 where
  pub iso : (G : Graph) (b : Base) (C : Graph) → IsGraph G → IsCell G.dimension b → IsCover G b C → Iso G C
  pub over : (G : Graph) (b : Base) (C : Graph) (g : IsGraph G) (c : IsCell G.dimension b) (h : IsCover G b C) (w : Vertex)
      → IsVertex G w → LiesOver b h.lattice w ((iso G b C g c h).there w)
  pub size : (G : Graph) (b : Base) (C : Graph) → IsGraph G → IsCell G.dimension b → IsCover G b C → HasCoverSize G b C
