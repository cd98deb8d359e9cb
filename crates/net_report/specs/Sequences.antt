-- The line of a coordination sequence.
use Rattle.std.specs.Prelude.{ℕ, List, [], ◌∷◌, ◌++◌, codes}
use Rattle.line_text.specs.Numbers.{field_text}

-- each size after a blank
abbrev pub sizes_after : List ℕ → List ℕ
sizes_after [] = []
sizes_after (n ∷ ns) = field_text (codes " ") n ++ sizes_after ns

-- the coordination sequence of a class
abbrev pub shells_text : ℕ → List ℕ → List ℕ
shells_text class sizes = field_text (codes "shells ") class ++ sizes_after sizes ++ codes "\n"
