-- A shelf in memory, as its callers see it, and what a read of it does.
use Rattle.std.specs.Prelude.{ℕ, ◌+◌, ◌-◌, ◌≡◌, ◌⊎◌, List, length, min, IsTrue, IsFalse, Result, Ok, Err, IsNone, IsSomeAnd}
use Rattle.outside.specs.Counts.{next_count, is_listed}
use Rattle.outside.specs.Files.{NamedBytes, file_of}
use Rattle.outside.specs.Last.{Last, Nothing, Given}
use Rattle.outside.specs.Last as last
use Rattle.outside.specs.declared.shelf.ShelfFault.{ShelfFault}
use Rattle.outside.specs.declared.shelf.ShelfFault.TheVariants.{Failed, NoMemory}

-- what is known of a shelf in memory
pub record ShelfState : Type 0 where
  pub files : NamedBytes
  -- the most bytes of a read
  pub step : ℕ
  -- the numbers of the calls that fail
  pub fails : List ℕ
  -- the calls so far
  pub calls : ℕ
  -- the failures so far
  pub faults : ℕ
  pub last : Last

-- the next read of this name fails: its call is listed, or the name is absent
abbrev pub ReadFails : ShelfState → List ℕ → Type 0
ReadFails s name = IsTrue (is_listed s.fails s.calls) ⊎ IsNone (file_of s.files name)

-- the next read gives this many bytes: its call is not listed, and the count is the least of the step, of what
-- is left of the file at this place, and of the room
abbrev pub ReadGives : ShelfState → List ℕ → ℕ → ℕ → ℕ → Type 0
ReadGives s name at room count =
    IsFalse (is_listed s.fails s.calls) × IsSomeAnd (file_of s.files name) (λ bytes. count ≡ min (min (length bytes - at) s.step) room)

-- the shelf after a read with this answer
abbrev pub after_read : ShelfState → List ℕ → ℕ → Result ℕ ShelfFault → ShelfState
after_read s name at (Ok count) = record s { calls = next_count s.calls; last = Given name (at + count) }
after_read s name at (Err Failed) = record s { calls = next_count s.calls; faults = next_count s.faults; last = last.Failed name }
after_read s name at (Err NoMemory) = record s { calls = next_count s.calls; last = Nothing }
