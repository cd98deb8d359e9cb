-- A sink in memory, as its callers see it, and what a write to it does.
use Rattle.std.specs.Prelude.{ℕ, ◌-◌, ◌<◌, ◌≡◌, ◌≤◌, ◌⊎◌, ◌==◌, if◌then◌else◌, List, ◌++◌, length, min, take, IsTrue, IsFalse, Result, Ok, Err}
use Rattle.outside.specs.Counts.{next_count, is_listed}
use Rattle.outside.specs.declared.sink.SinkFault.{SinkFault}

-- what is known of a sink in memory
pub record SinkState : Type 0 where
  pub written : List ℕ
  -- the room left
  pub room : ℕ
  -- the most bytes of a write
  pub step : ℕ
  -- the numbers of the calls that fail
  pub fails : List ℕ
  -- the calls so far
  pub calls : ℕ
  -- the failures so far
  pub faults : ℕ

-- the bytes that are surely taken: the room left if no call is listed, and none otherwise
abbrev pub sure_of : SinkState → ℕ
sure_of s = (if length s.fails == 0 then s.room else 0)

-- how much of a piece a write takes: the lesser of the step and the piece's length
abbrev pub share_of : SinkState → List ℕ → ℕ
share_of s piece = min (length piece) s.step

-- the next write of this piece fails: its call is listed, or the share does not fit the room left
abbrev pub WriteFails : SinkState → List ℕ → Type 0
WriteFails s piece = IsTrue (is_listed s.fails s.calls) ⊎ (s.room < share_of s piece)

-- the next write takes this many bytes: its call is not listed, and the share fits the room left
abbrev pub WriteTakes : SinkState → List ℕ → ℕ → Type 0
WriteTakes s piece count = IsFalse (is_listed s.fails s.calls) × (count ≡ share_of s piece) × (count ≤ s.room)

-- the sink after a write with this answer
abbrev pub after_write : SinkState → List ℕ → Result ℕ SinkFault → SinkState
after_write s piece (Ok count) = record s { written = s.written ++ take count piece; room = s.room - count; calls = next_count s.calls }
after_write s piece (Err _) = record s { calls = next_count s.calls; faults = next_count s.faults }
