-- The numbers of key lines: small whole numbers, which may be spelled with any number of digits.
use Rattle.std.specs.Prelude.{ℕ, ℤ, pos, List, Option, None}
use Rattle.std.specs.Option.{unwrap_or}
use Rattle.periodic_net.specs.Limits.{most_vertices}
use Rattle.cgd_lex.specs.Tokens.{TokenView}
use Rattle.cgd_lex.specs.Words.{number_up_to}
use Rattle.cgd_lex.specs.declared.token.TokenKind.{TokenKind}
use Rattle.cgd_lex.specs.declared.token.TokenKind.TheVariants.{Whole}

-- the small number that a token of this kind is
abbrev pub number_of_kind : TokenKind → List ℕ → Option ℤ
number_of_kind Whole text = number_up_to most_vertices text
number_of_kind _ text = None

-- the number that a token is, if it is whole and at most that of the last vertex, as an absolute value
abbrev pub number_of : TokenView → Option ℤ
number_of token = number_of_kind token.kind token.text

-- the number, or 0 if the token is none
abbrev pub number_or_zero : TokenView → ℤ
number_or_zero token = unwrap_or (number_of token) (pos 0)
