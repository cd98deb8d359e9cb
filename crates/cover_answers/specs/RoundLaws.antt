-- The text of covers is read as the covers.
use Rattle.std.specs.Prelude.{ℕ, List}
use Rattle.cgd_read.specs.Blocks.{blocks_of}
use Rattle.net_cover.specs.Cells.{CellView}
use Rattle.net_report.specs.declared.status.Status.TheVariants.{Done}
use Rattle.cover_answers.specs.Due.{IsCoveredAs}
use Rattle.cover_answers.specs.Rounds.{AreReadAsCovers}

-- if the text of the covers is due to a cell and the blocks of a file, the blocks of that text are the nets that were
-- given, each on the cell
abbrev pub CoversAreReadBack : Type 0
CoversAreReadBack = (cell : CellView) (file text : List ℕ) → IsCoveredAs cell (blocks_of file) Done text
    → AreReadAsCovers cell (blocks_of file) (blocks_of text)
