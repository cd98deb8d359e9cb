-- Blocks that are what was printed.
use Rattle.std.specs.Prelude.{◌≡◌, ℕ, ◌+◌, ◌==◌, List, [], ◌∷◌, map, fold}
use Rattle.std.specs.List.{position_or_len}
use Rattle.std.specs.Fmt.{decimal}
use Rattle.periodic_net.specs.Graph.{Arc, Vertex, vertex}
use Rattle.periodic_net.specs.Maps.{Iso}
use Rattle.cgd_read.specs.Edges.{with_new}
use Rattle.cgd_read.specs.Graphs.{graph_of}
use Rattle.cgd_read.specs.Views.{RawView, Net, BlockView}
use Rattle.cover_answers.specs.Printed.{NamedGraph}

-- the vertices so far, with those of one more edge that are new
abbrev pub order_after : List ℕ → Arc → List ℕ
order_after before e = with_new (λ u v. u == v) (with_new (λ u v. u == v) before e.from) e.to

-- the vertices in the order in which the edges first name them
abbrev pub order_of : List Arc → List ℕ
order_of es = fold order_after [] es

-- the new number of a vertex: its place in this order, counted from 1
abbrev pub new_number : List ℕ → ℕ → ℕ
new_number order u = position_or_len (λ v. u == v) order + 1

-- the block is a net of the same name, in which no row repeats another. Its vertices are named by their old numbers, in
-- the order in which the edges name them. It is isomorphic to the graph that was printed, by the map that gives each
-- vertex its new number in the same cell
pub record IsReadBack (p : NamedGraph) (block : BlockView) : Type 0 where
  pub raw : RawView
  pub name : block.name ≡ p.name
  pub body : block.body ≡ Net raw
  pub names : raw.names ≡ map decimal (order_of p.graph.edges)
  pub repeats : raw.repeats ≡ 0
  pub iso : Iso p.graph (graph_of raw)
  pub there : (w : Vertex) → iso.there w ≡ vertex (new_number (order_of p.graph.edges) w.over) w.cell

-- the blocks are what was printed, one by one
abbrev pub AreReadBack : List NamedGraph → List BlockView → Type 0
AreReadBack [] [] = Unit {0}
AreReadBack [] (block ∷ blocks) = ⊥
AreReadBack (p ∷ ps) [] = ⊥
AreReadBack (p ∷ ps) (block ∷ blocks) = IsReadBack p block × AreReadBack ps blocks
