-- Where the tokens of a text stand.
use Rattle.std.specs.Prelude.{ℕ, ◌+◌, ◌≤◌, ◌≡◌, ◌==◌, List, [], ◌∷◌, length, take, drop}
use Rattle.std.specs.List.{count_by}
use Rattle.cgd_lex.specs.Pieces.{line_feed}
use Rattle.cgd_lex.specs.Tokens.{TokenView}

-- the token's text is what the source has where the token starts
abbrev pub IsSliceOf : List ℕ → TokenView → Type 0
IsSliceOf source token = token.text ≡ take (length token.text) (drop token.start source)

-- the number of the line in which this place of the source stands; a line feed stands in the line that it ends
abbrev pub line_number : List ℕ → ℕ → ℕ
line_number source place = count_by (λ b. b == line_feed) (take place source) + 1

-- the token's line is the one in which it starts
abbrev pub IsOnLine : List ℕ → TokenView → Type 0
IsOnLine source token = token.line ≡ line_number source token.start

-- each token starts at this place or after it, and none before the end of the one before it
abbrev pub AreInOrder : ℕ → List TokenView → Type 0
AreInOrder from [] = Unit {0}
AreInOrder from (token ∷ tokens) = (from ≤ token.start) × AreInOrder (token.start + length token.text) tokens
