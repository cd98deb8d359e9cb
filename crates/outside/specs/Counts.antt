-- Counters of calls and of failures.
use Rattle.std.specs.Prelude.{ℕ, ◌+◌, ◌-◌, ◌^◌, min, Bool, ◌==◌, List}
use Rattle.std.specs.List.{list_any}

-- a counter after one more: it stands still at the last value of its type
abbrev pub next_count : ℕ → ℕ
next_count n = min (n + 1) (2 ^ 64 - 1)

-- the call after so many is a listed one
abbrev pub is_listed : List ℕ → ℕ → Bool
is_listed fails calls = list_any (λ number. number == next_count calls) fails
