-- The graph of a block, its cover on a cell, and the texts of the covers of blocks.
use Rattle.std.specs.Prelude.{◌≡◌, ℕ, List, [], ◌∷◌, ◌++◌}
use Rattle.periodic_net.specs.Graph.{Graph, IsGraph}
use Rattle.periodic_net.specs.Limits.{IsSmall}
use Rattle.periodic_net.specs.Maps.{Iso}
use Rattle.cgd_read.specs.Graphs.{graph_of}
use Rattle.cgd_read.specs.Views.{RawView, BodyView, Net, BlockView}
use Rattle.quotient_graph.specs.Order.{AreRising}
use Rattle.quotient_graph.specs.Stars.{IsInOrder}
use Rattle.net_cover.specs.Covers.{IsCover, HasCoverSize}
use Rattle.net_cover.specs.Cells.{CellView}
use Rattle.net_cover.specs.Faults.{IsCoverable}
use Rattle.cover_answers.specs.Blocks.{graph_text}

-- G is the graph that was read: a quotient graph, with its edges in order
pub record IsGraphOf (raw : RawView) (G : Graph) : Type 0 where
  pub in_order : IsInOrder (graph_of raw) G
  pub is_graph : IsGraph G

-- no fault applies to G on the cell, and C is its cover there: a graph within the limits, with its edges in order, whose net is
-- that of G up to isomorphism, with the index times as many vertices and edges
pub record IsCoverOn (cell : CellView) (G C : Graph) : Type 0 where
  pub coverable : IsCoverable G cell
  pub cover : IsCover G cell.rows C
  pub rising : AreRising C.edges
  pub small : IsSmall C
  pub iso : Iso G C
  pub size : HasCoverSize G cell.rows C

-- C is the cover of the graph that was read
pub record IsCoverOfNet (cell : CellView) (raw : RawView) (C : Graph) : Type 0 where
  pub graph : Graph
  pub read : IsGraphOf raw graph
  pub is_cover : IsCoverOn cell graph C

-- C is the cover of what a block holds, which is a graph
abbrev pub IsCoverOf : CellView → BodyView → Graph → Type 0
IsCoverOf cell (Net raw) C = IsCoverOfNet cell raw C
IsCoverOf cell body C = ⊥

-- each block is a graph that is covered, and these are the covers, in the order of the blocks
abbrev pub AreCoversOf : CellView → List BlockView → List Graph → Type 0
AreCoversOf cell [] [] = Unit {0}
AreCoversOf cell (block ∷ blocks) (C ∷ covers) = IsCoverOf cell block.body C × AreCoversOf cell blocks covers
AreCoversOf cell blocks covers = ⊥

-- the texts of the covers of blocks, one after the other, each under the name of its block
abbrev pub covers_text : List BlockView → List Graph → List ℕ
covers_text (block ∷ blocks) (C ∷ covers) = graph_text block.name C ++ covers_text blocks covers
covers_text blocks covers = []

-- each block is covered, and this is the text of the covers
pub record AreCovered (cell : CellView) (blocks : List BlockView) (text : List ℕ) : Type 0 where
  pub covers : List Graph
  pub are_covers : AreCoversOf cell blocks covers
  pub text_is : text ≡ covers_text blocks covers
