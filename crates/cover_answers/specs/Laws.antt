-- What is due to the command `cover` is one.
use Rattle.std.specs.Prelude.{◌≡◌, ℕ, List}
use Rattle.cgd_read.specs.Views.{BlockView}
use Rattle.net_cover.specs.Cells.{CellView}
use Rattle.net_report.specs.declared.status.Status.{Status}
use Rattle.cover_answers.specs.Due.{IsCoveredAs}

-- two answers that are due to one cell and one list of blocks have one status and one text
abbrev pub OneCovering : Type 0
OneCovering =
    (cell : CellView) (blocks : List BlockView) (s t : Status) (x y : List ℕ) → IsCoveredAs cell blocks s x → IsCoveredAs cell blocks t y
    → (s ≡ t) × (x ≡ y)
