-- What the kind of a token says of its text.
use Rattle.std.specs.Prelude.{ℕ, ◌≡◌, ◌≢◌, ◌⊎◌, List, [], ◌∷◌, ◌++◌, All, IsTrue, false}
use Rattle.cgd_lex.specs.Pieces.{is_control, is_run_byte, quote, line_feed}
use Rattle.cgd_lex.specs.Tokens.{TokenView, is_whole}
use Rattle.cgd_lex.specs.declared.token.TokenKind.{TokenKind}
use Rattle.cgd_lex.specs.declared.token.TokenKind.TheVariants.{Word, Whole, Quoted, Newline, Bad}

-- one byte or more of a run, and no whole number
abbrev pub IsWord : List ℕ → Type 0
IsWord [] = ⊥
IsWord (b ∷ bs) = IsTrue (is_run_byte b) × All (λ b. IsTrue (is_run_byte b)) bs × (is_whole (b ∷ bs) ≡ false)

-- two quotes and what stands between them
abbrev pub IsQuotedText : List ℕ → Type 0
IsQuotedText bytes = (inside : List ℕ) × (bytes ≡ quote ∷ inside ++ quote ∷ []) × All (λ b. b ≢ quote) inside

-- a quote and no other
abbrev pub IsUnclosedText : List ℕ → Type 0
IsUnclosedText [] = ⊥
IsUnclosedText (b ∷ bs) = (b ≡ quote) × All (λ b. b ≢ quote) bs

-- one control byte
abbrev pub IsControlByte : List ℕ → Type 0
IsControlByte bytes = (b : ℕ) × (bytes ≡ b ∷ []) × IsTrue (is_control b)

-- bytes that a token of this kind may have
abbrev pub IsOfKind : TokenKind → List ℕ → Type 0
IsOfKind Word bytes = IsWord bytes
IsOfKind Whole bytes = IsTrue (is_whole bytes)
IsOfKind Quoted bytes = IsQuotedText bytes
IsOfKind Newline bytes = bytes ≡ line_feed ∷ []
IsOfKind Bad bytes = IsUnclosedText bytes ⊎ IsControlByte bytes

-- the token's text is one of its kind
abbrev pub HasItsForm : TokenView → Type 0
HasItsForm token = IsOfKind token.kind token.text
