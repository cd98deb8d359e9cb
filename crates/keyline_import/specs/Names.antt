-- The names of items are those of entries of an archive.
use Rattle.std.specs.Prelude.{ℕ, List, [], ◌∷◌, Option, None, Some, if◌then◌else◌}
use Rattle.line_text.specs.Names.{is_name}
use Rattle.cgd_lex.specs.Tokens.{TokenView}
use Rattle.cgd_lex.specs.Words.{name_in}

-- the bytes, if they are a name
abbrev pub if_name : Option (List ℕ) → Option (List ℕ)
if_name None = None
if_name (Some bytes) = if is_name bytes then Some bytes else None

-- the name that these fields of a line give: there is one, it is not bad, and without its quotes it is a name
abbrev pub name_of_fields : List TokenView → Option (List ℕ)
name_of_fields (token ∷ []) = if_name (name_in token)
name_of_fields _ = None
