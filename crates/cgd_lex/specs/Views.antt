-- What the code has of tokens.
use Rattle.std.specs.Prelude.{ℕ, ◌+◌, ◌≡◌, ◌++◌, List, length, if◌then◌else◌}
use Rattle.cgd_lex.specs.Tokens.{tokens_from, token_at, TokenView}
use Rattle.cgd_lex.specs.declared.token.Token.{Token}
use Rattle.cgd_lex.specs.declared.part.Part.{Part}

-- the token as its reader sees it
abbrev pub token_view : Token → TokenView
token_view token = record { kind = token.kind; text = token.text.now; start = token.start; line = token.line }

-- the text is this part and what follows it, wherever the text begins
abbrev pub IsPartOf : List ℕ → Part → Type 0
IsPartOf text part = (at line : ℕ) →
    tokens_from at line text ≡ token_at at line part.text.now part.kind
    ++ tokens_from (at + length part.text.now) (line + (if part.ends_line then 1 else 0)) part.rest.now
