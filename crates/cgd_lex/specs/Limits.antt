-- How long a text may be.
use Rattle.std.specs.Prelude.{ℕ, ◌-◌, ◌^◌}

-- so many bytes at most, so that the numbers of its lines have 32 bits
abbrev pub longest_text : ℕ
longest_text = 2 ^ 32 - 2
