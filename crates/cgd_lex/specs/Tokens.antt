-- The tokens of a text.
use Rattle.std.specs.Prelude.{ℕ, ◌+◌, Bool, ◌||◌, ◌==◌, List, [], ◌∷◌, ◌++◌, length, if◌then◌else◌, false, Option, None, Some, is_some, position}
use Rattle.std.specs.List.{slice_split, list_all}
use Rattle.std.specs.Char.{is_ascii_digit}
use Rattle.cgd_lex.specs.Pieces.{Piece, Blank, Comment, Closed, Unclosed, Control, Run, bytes_of, cut_of, other_bytes, quoted_piece, line_feed, quote}
use Rattle.cgd_lex.specs.declared.token.TokenKind.{TokenKind}
use Rattle.cgd_lex.specs.declared.token.TokenKind.TheVariants.{Word, Whole, Quoted, Newline, Bad}

-- a token as its reader sees it
pub record TokenView : Type 0 where
  pub kind : TokenKind
  pub text : List ℕ
  pub start : ℕ
  pub line : ℕ

-- the bytes `+` and `-`
abbrev pub is_sign : ℕ → Bool
is_sign b = b == 43 || b == 45

-- one digit or more
abbrev pub are_digits : List ℕ → Bool
are_digits [] = false
are_digits (b ∷ bs) = list_all is_ascii_digit (b ∷ bs)

-- a sign or none, and then one digit or more
abbrev pub is_whole : List ℕ → Bool
is_whole [] = false
is_whole (b ∷ bs) = if is_sign b then are_digits bs else are_digits (b ∷ bs)

-- a run is a Whole or a Word
abbrev pub kind_of_run : List ℕ → TokenKind
kind_of_run run = if is_whole run then Whole else Word

-- blanks and comments are no tokens
abbrev pub kind_of_piece : Piece → Option TokenKind
kind_of_piece (Blank b) = None
kind_of_piece (Comment bs) = None
kind_of_piece (Closed bs) = Some Quoted
kind_of_piece (Unclosed bs) = Some Bad
kind_of_piece (Control b) = Some Bad
kind_of_piece (Run b bs) = Some (kind_of_run (b ∷ bs))

-- the token of these bytes at this place and line, if there is one
abbrev pub token_at : ℕ → ℕ → List ℕ → Option TokenKind → List TokenView
token_at at line bytes None = []
token_at at line bytes (Some kind) = record { kind = kind; text = bytes; start = at; line = line } ∷ []

-- the tokens of pieces, one after another, from this place on
abbrev pub tokens_of_pieces : ℕ → ℕ → List Piece → List TokenView
tokens_of_pieces at line [] = []
tokens_of_pieces at line (p ∷ ps) = token_at at line (bytes_of p) (kind_of_piece p) ++ tokens_of_pieces (at + length (bytes_of p)) line ps

-- the tokens of the line that begins at this place and has this number
abbrev pub tokens_of_line : ℕ → ℕ → List ℕ → List TokenView
tokens_of_line at line bytes = tokens_of_pieces at line (cut_of bytes)

-- the Newline of the line of this number
abbrev pub newline : ℕ → ℕ → TokenView
newline at line = record { kind = Newline; text = line_feed ∷ []; start = at; line = line }

-- the tokens from the end of a line on: each later line comes after a Newline of the line before it
abbrev pub later_lines : ℕ → ℕ → List (List ℕ) → List TokenView
later_lines at line [] = []
later_lines at line (next ∷ others) =
    newline at line ∷ tokens_of_line (at + 1) (line + 1) next ++ later_lines (at + 1 + length next) (line + 1) others

-- the lines of a text, without their line feeds; there is always a first
abbrev pub lines_of : List ℕ → List (List ℕ)
lines_of text = slice_split (λ x. x == line_feed) text

-- the first of some lines
abbrev pub first_of : List (List ℕ) → List ℕ
first_of [] = []
first_of (line ∷ others) = line

-- the lines after the first
abbrev pub others_of : List (List ℕ) → List (List ℕ)
others_of [] = []
others_of (line ∷ others) = others

-- the first line of a text
abbrev pub first_line : List ℕ → List ℕ
first_line text = first_of (lines_of text)

-- the tokens of a text that begins at this place, in this line
abbrev pub tokens_from : ℕ → ℕ → List ℕ → List TokenView
tokens_from at line text =
    tokens_of_line at line (first_line text) ++ later_lines (at + length (first_line text)) line (others_of (lines_of text))

-- the tokens of a text
abbrev pub tokens_of : List ℕ → List TokenView
tokens_of text = tokens_from 0 1 text

-- what begins with a quote, by the bytes after it in its line

-- whether a quote comes
abbrev pub is_closed : List ℕ → Bool
is_closed bytes = is_some (position (λ x. x == quote) bytes)

-- how many of the bytes belong to it
abbrev pub quoted_size : List ℕ → ℕ
quoted_size bytes = length (other_bytes (quoted_piece (position (λ x. x == quote) bytes) bytes))
