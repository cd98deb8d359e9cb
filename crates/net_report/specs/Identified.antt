-- The lines of a net that is identified.
use Rattle.std.specs.Prelude.{ℕ, ◌+◌, List, [], ◌∷◌, ◌++◌, length, codes}
use Rattle.least_key.specs.KeyedNets.{KeyedNet}
use Rattle.net_report.specs.Keys.{key_text}
use Rattle.line_text.specs.Numbers.{field_text}
use Rattle.net_report.specs.Placements.{placement_text}
use Rattle.net_report.specs.Primitives.{primitive_text}
use Rattle.net_report.specs.Sequences.{shells_text}

-- a line for each coordination sequence, the first for the class with this number
abbrev pub sequences_text : ℕ → List (List ℕ) → List ℕ
sequences_text class [] = []
sequences_text class (sizes ∷ lists) = shells_text class sizes ++ sequences_text (class + 1) lists

-- a name of an archive
abbrev pub archive_name_text : List ℕ → List ℕ
archive_name_text name = codes "name \"" ++ name ++ codes "\"\n"

-- names, in their order
abbrev pub archive_names_text : List (List ℕ) → List ℕ
archive_names_text [] = []
archive_names_text (name ∷ names) = archive_name_text name ++ archive_names_text names

-- how many names of an archive are reported, and the names
abbrev pub found_names_text : List (List ℕ) → List ℕ
found_names_text names = field_text (codes "names ") (length names) ++ codes "\n" ++ archive_names_text names

-- the placement, with the vertices by these names, the primitive graph and the key of a net
abbrev pub net_text : List (List ℕ) → KeyedNet → List ℕ
net_text vertices n = placement_text vertices n.placed ++ primitive_text n.cell ++ key_text n.key

-- and the coordination sequences of its classes, and the names that an archive has for it
abbrev pub identified_text : List (List ℕ) → KeyedNet → List (List ℕ) → List (List ℕ) → List ℕ
identified_text vertices n shells names = net_text vertices n ++ sequences_text 1 shells ++ found_names_text names
