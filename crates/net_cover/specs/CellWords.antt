-- The words that spell cells: 4 or 9 numbers joined by commas.
use Rattle.std.specs.Prelude.{◌≡◌, ℕ, ◌+◌, ℤ, pos, List, [], ◌∷◌, ◌++◌, cond, ◌==◌, slice_index_or}
use Rattle.std.specs.Fmt.{signed_decimal}
use Rattle.integers.specs.Bases.{Base}
use Rattle.integers.specs.Vectors.{Vector, vector}
use Rattle.line_text.specs.Numbers.{marked_text}
use Rattle.net_cover.specs.Cells.{CellView, IsWritten}

-- the byte between numbers
abbrev pub comma : ℕ
comma = 44

-- numbers with commas between them
abbrev pub joined_text : List ℤ → List ℕ
joined_text [] = []
joined_text (x ∷ xs) = signed_decimal x ++ marked_text comma xs

-- the parts of two flat rows
abbrev pub flat_numbers : Base → List ℤ
flat_numbers b = b.first.x ∷ b.first.y ∷ b.second.x ∷ b.second.y ∷ []

-- the parts of three rows
abbrev pub space_numbers : Base → List ℤ
space_numbers b =
    b.first.x ∷ b.first.y ∷ b.first.z ∷ b.second.x ∷ b.second.y ∷ b.second.z
    ∷ b.third.x ∷ b.third.y ∷ b.third.z ∷ []

-- the parts of the rows of a cell, row by row, with as many rows and parts as dimensions
abbrev pub cell_numbers : CellView → List ℤ
cell_numbers R = cond (R.dimension == 2) (flat_numbers R.rows) (space_numbers R.rows)

-- the row with the three parts from place i on, counted from 0
abbrev pub row_in : List ℤ → ℕ → Vector
row_in numbers i =
    vector (slice_index_or numbers i (pos 0)) (slice_index_or numbers (i + 1) (pos 0))
    (slice_index_or numbers (i + 2) (pos 0))

-- these are the numbers of the cell
pub record AreNumbersOf (numbers : List ℤ) (R : CellView) : Type 0 where
  pub written : IsWritten R
  pub are : numbers ≡ cell_numbers R

-- the word spells the cell: its numbers, with commas between them
pub record SpellsCell (word : List ℕ) (R : CellView) : Type 0 where
  pub written : IsWritten R
  pub text : word ≡ joined_text (cell_numbers R)
