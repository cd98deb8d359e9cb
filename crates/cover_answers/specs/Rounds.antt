-- Blocks that are read from the text of covers.
use Rattle.std.specs.Prelude.{◌≡◌, List, [], ◌∷◌}
use Rattle.periodic_net.specs.Maps.{Iso}
use Rattle.cgd_read.specs.Graphs.{graph_of}
use Rattle.cgd_read.specs.Views.{RawView, Net, BlockView}
use Rattle.net_cover.specs.Covers.{HasCoverSize}
use Rattle.net_cover.specs.Cells.{CellView}

-- both blocks are nets of one name, and the second has the net of the first up to isomorphism, with the index times as
-- many vertices and edges; no row of the second repeats another
pub record IsReadAsCover (cell : CellView) (block back : BlockView) : Type 0 where
  pub given : RawView
  pub cover : RawView
  pub given_is : block.body ≡ Net given
  pub cover_is : back.body ≡ Net cover
  pub name : back.name ≡ block.name
  pub iso : Iso (graph_of given) (graph_of cover)
  pub size : HasCoverSize (graph_of given) cell.rows (graph_of cover)
  pub repeats : cover.repeats ≡ 0

-- as many blocks, one by one
abbrev pub AreReadAsCovers : CellView → List BlockView → List BlockView → Type 0
AreReadAsCovers cell [] [] = Unit {0}
AreReadAsCovers cell (block ∷ blocks) (back ∷ backs) = IsReadAsCover cell block back × AreReadAsCovers cell blocks backs
AreReadAsCovers cell blocks backs = ⊥
