-- The parts of shifts, which may be spelled with any number of digits, and their limits.
use Rattle.std.specs.Prelude.{ℕ, ℤ, List, Option}
use Rattle.cgd_lex.specs.Words.{number_up_to}
use Rattle.periodic_net.specs.Limits.{most_shift}

-- a part of a shift, if it is small enough
abbrev pub part_of : List ℕ → Option ℤ
part_of text = number_up_to most_shift text
