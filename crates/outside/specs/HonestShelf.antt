-- A shelf in memory that never fails, as its callers see it, and what a read of it does.
use Rattle.std.specs.Prelude.{ℕ, ◌+◌, ◌-◌, ◌≡◌, List, [], length, min, unwrap_or, Result, Ok, Err}
use Rattle.outside.specs.Files.{NamedBytes, file_of}
use Rattle.outside.specs.Last.{Last, Nothing, Given}
use Rattle.outside.specs.declared.shelf.ShelfFault.{ShelfFault}

-- what is known of an honest shelf
pub record HonestState : Type 0 where
  pub files : NamedBytes
  pub last : Last

-- a read at this place of this name gives this many bytes: all that are left of the file, as far as there is room; of an absent name, none
abbrev pub GivesAll : HonestState → List ℕ → ℕ → ℕ → ℕ → Type 0
GivesAll s name at room count = count ≡ min (length (unwrap_or (file_of s.files name) []) - at) room

-- the shelf after a read with this answer
abbrev pub after_honest_read : HonestState → List ℕ → ℕ → Result ℕ ShelfFault → HonestState
after_honest_read s name at (Ok count) = record s { last = Given name (at + count) }
after_honest_read s name at (Err _) = record s { last = Nothing }
