-- The cell that a word spells, read from its bytes.
use Rattle.std.specs.Prelude.{ℕ, ◌==◌, ◌&&◌, Bool, cond, not, nat_lt, ℤ, pos, neg_ℤ, List, [], ◌∷◌, length, map, Option, Some, None, slice_index_or}
use Rattle.std.specs.Prelude.{unsigned_abs, if◌then◌else◌}
use Rattle.std.specs.List.{list_all}
use Rattle.std.specs.Str.{bytes_eq}
use Rattle.std.specs.Str.Parse.{digits_value}
use Rattle.integers.specs.Vectors.{vector, zero_vector}
use Rattle.periodic_net.specs.Limits.{most_shift}
use Rattle.net_cover.specs.Cells.{CellView, cell_view}
use Rattle.net_cover.specs.CellWords.{comma, joined_text, cell_numbers, row_in}

-- a byte before the first piece
abbrev pub with_byte : ℕ → List (List ℕ) → List (List ℕ)
with_byte b [] = (b ∷ []) ∷ []
with_byte b (piece ∷ pieces) = (b ∷ piece) ∷ pieces

-- the pieces between the commas of a word
abbrev pub pieces_of : List ℕ → List (List ℕ)
pieces_of [] = [] ∷ []
pieces_of (b ∷ bytes) = cond (b == comma) ([] ∷ pieces_of bytes) (with_byte b (pieces_of bytes))

-- the number that digits write, with a minus before them or without
abbrev pub number_of : List ℕ → ℤ
number_of [] = pos 0
number_of (b ∷ bytes) = cond (b == 45) (neg_ℤ (pos (digits_value 10 bytes))) (pos (digits_value 10 (b ∷ bytes)))

-- the cell of dimension 2 with the first four of these numbers
abbrev pub flat_with : List ℤ → CellView
flat_with numbers =
    cell_view 2 (vector (slice_index_or numbers 0 (pos 0)) (slice_index_or numbers 1 (pos 0)) (pos 0))
    (vector (slice_index_or numbers 2 (pos 0)) (slice_index_or numbers 3 (pos 0)) (pos 0)) zero_vector

-- the cell of dimension 3 with the first nine
abbrev pub space_with : List ℤ → CellView
space_with numbers = cell_view 3 (row_in numbers 0) (row_in numbers 3) (row_in numbers 6)

-- the cell of these numbers: of dimension 2, if there are four
abbrev pub cell_with : List ℤ → CellView
cell_with numbers = cond (length numbers == 4) (flat_with numbers) (space_with numbers)

-- the number may be a part of a row
abbrev pub is_small : ℤ → Bool
is_small z = not (nat_lt most_shift (unsigned_abs z))

-- the word spells this cell, and its parts are small
abbrev pub is_spelled : List ℕ → CellView → Bool
is_spelled word R = bytes_eq word (joined_text (cell_numbers R)) && list_all is_small (cell_numbers R)

-- the cell of the numbers of a word, if the word spells it
abbrev pub cell_of : List ℕ → Option CellView
cell_of word =
    if is_spelled word (cell_with (map number_of (pieces_of word)))
    then Some (cell_with (map number_of (pieces_of word))) else None
