-- The lines of tokens: what stands between the Newlines.
use Rattle.std.specs.Prelude.{Bool, true, false, List, [], ◌∷◌, if◌then◌else◌}
use Rattle.std.specs.List.{slice_split, flat_map}
use Rattle.cgd_lex.specs.Tokens.{TokenView}
use Rattle.cgd_lex.specs.declared.token.TokenKind.{TokenKind}
use Rattle.cgd_lex.specs.declared.token.TokenKind.TheVariants.{Newline}

-- a token of this kind ends a line
abbrev pub is_newline : TokenKind → Bool
is_newline Newline = true
is_newline _ = false

-- a line without tokens is passed over
abbrev pub filled_line : List TokenView → List (List TokenView)
filled_line [] = []
filled_line (first ∷ others) = (first ∷ others) ∷ []

-- the lines of these tokens that have one
abbrev pub filled_lines : List TokenView → List (List TokenView)
filled_lines tokens = flat_map filled_line (slice_split (λ (t : TokenView). is_newline t.kind) tokens)

-- the tokens before the next Newline
abbrev pub rest_of_line : List TokenView → List TokenView
rest_of_line [] = []
rest_of_line (token ∷ tokens) = if is_newline token.kind then [] else token ∷ rest_of_line tokens

-- the tokens after the next Newline
abbrev pub after_line : List TokenView → List TokenView
after_line [] = []
after_line (token ∷ tokens) = if is_newline token.kind then tokens else after_line tokens
