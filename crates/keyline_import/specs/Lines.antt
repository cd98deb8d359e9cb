-- The lines of a text that have a token.
use Rattle.std.specs.Prelude.{ℕ, Bool, true, false, List, [], ◌∷◌, if◌then◌else◌, codes}
use Rattle.std.specs.List.{flat_map}
use Rattle.cgd_lex.specs.Lines.{filled_lines}
use Rattle.cgd_lex.specs.Tokens.{TokenView}
use Rattle.cgd_lex.specs.Words.{is_keyword}
use Rattle.cgd_lex.specs.declared.token.TokenKind.{TokenKind}
use Rattle.cgd_lex.specs.declared.token.TokenKind.TheVariants.{Word}
use Rattle.keyline_import.specs.declared.line.LineKind.{LineKind}
use Rattle.keyline_import.specs.declared.line.LineKind.TheVariants.{Key, Id, End, Other}

-- the kind of a line that begins with this word, in any case of its letters
abbrev pub kind_of_word : List ℕ → LineKind
kind_of_word word =
    if is_keyword (codes "key") word then Key else
    if is_keyword (codes "id") word then Id else
    if is_keyword (codes "end") word then End else
    Other

-- the kind of a line with this first token
abbrev pub kind_of : TokenKind → List ℕ → LineKind
kind_of Word text = kind_of_word text
kind_of _ text = Other

-- a line of this kind has a key
abbrev pub is_key : LineKind → Bool
is_key Key = true
is_key _ = false

-- a line of this kind has a name
abbrev pub is_id : LineKind → Bool
is_id Id = true
is_id _ = false

-- a line of this kind ends an item
abbrev pub is_end : LineKind → Bool
is_end End = true
is_end _ = false

-- outside an item a line of this kind begins one
abbrev pub begins_item : LineKind → Bool
begins_item Key = true
begins_item Id = true
begins_item _ = false

-- a line: its number, what its first token makes of it, and its further tokens
pub record LineView : Type 0 where
  pub number : ℕ
  pub kind : LineKind
  pub fields : List TokenView

-- the line with this first token and these others
abbrev pub line_with : TokenView → List TokenView → LineView
line_with first others = record { number = first.line; kind = kind_of first.kind first.text; fields = others }

-- the line that these tokens make, if there is any
abbrev pub line_of : List TokenView → List LineView
line_of [] = []
line_of (first ∷ others) = line_with first others ∷ []

-- the lines of these tokens that have one
abbrev pub lines_in : List TokenView → List LineView
lines_in tokens = flat_map line_of (filled_lines tokens)
