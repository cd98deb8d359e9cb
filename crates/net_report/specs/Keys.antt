-- The line of a key.
use Rattle.std.specs.Prelude.{ℕ, ℤ, List, ◌++◌, codes}
use Rattle.line_text.specs.Numbers.{list_text}

-- the numbers of a key
abbrev pub key_text : List ℤ → List ℕ
key_text xs = codes "key " ++ list_text xs ++ codes "\n"
