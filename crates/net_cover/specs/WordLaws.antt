-- What is read from words is what they spell.
use Rattle.std.specs.Prelude.{◌≡◌, ◌↔◌, ℕ, List, Some}
use Rattle.net_cover.specs.Cells.{CellView}
use Rattle.net_cover.specs.CellWords.{SpellsCell}
use Rattle.net_cover.specs.Reading.{cell_of}

-- the cell that is read from a word is the one that the word spells
abbrev pub CellsAreRead : Type 0
CellsAreRead = (word : List ℕ) (R : CellView) → (cell_of word ≡ Some R) ↔ SpellsCell word R
