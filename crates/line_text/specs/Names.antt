-- Names that stand between quotes on a line.
use Rattle.std.specs.Prelude.{ℕ, Bool, not, nat_lt, ◌==◌, ◌&&◌, ◌||◌, List, length}
use Rattle.std.specs.List.{list_all}

-- neither a control byte nor the quote, which is 34
abbrev pub is_name_byte : ℕ → Bool
is_name_byte b = not (nat_lt b 32 || (b == 34 || b == 127))

-- bytes of a name
abbrev pub most_name : ℕ
most_name = 200

-- one byte or more, and no more than there may be
abbrev pub is_name : List ℕ → Bool
is_name name = nat_lt 0 (length name) && (not (nat_lt most_name (length name)) && list_all is_name_byte name)
