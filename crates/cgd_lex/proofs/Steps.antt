-- Tokens and pieces of a text, one after another from its front.
use Rattle.std.proofs.Common.{◌≡◌, ℕ, ◌+◌, ◌≤◌, Bool, true, false, List, [], ◌∷◌, ◌++◌, length, take, drop, cond, ◌==◌, arith, refl, sym, ap, ◌∙◌, not, ◌||◌}
use Rattle.std.proofs.Common.{inl, inr}
use Rattle.std.proofs.lemmas.{Bool.cases_Bool, Grind.common_steps, List.append_assoc, List.length-drop}
use Rattle.std.specs.{Prelude.position, List.onto_first, List.prefix_len}
use Rattle.cgd_lex.specs.Pieces.{pieces_after, cut_of, up_to, Piece, Blank, Comment, Control, Run, first_byte, other_bytes, first_piece, quoted_piece}
use Rattle.cgd_lex.specs.Pieces.{is_run_byte, ends_run, is_blank, is_control}
use Rattle.cgd_lex.specs.Tokens.{tokens_from, first_line, lines_of, first_of, others_of, newline, token_at, later_lines, tokens_of_line, kind_of_piece}

-- a text has a first line
pub split_some : (bs : List ℕ) → lines_of bs ≡ first_line bs ∷ others_of (lines_of bs)
split_some [] = refl
split_some (b ∷ bs) = elim (b == 10) as (λ t. cond t ([] ∷ lines_of bs) (onto_first b (lines_of bs)) ≡ first_of
    (cond t ([] ∷ lines_of bs) (onto_first b (lines_of bs))) ∷ others_of (cond t ([] ∷ lines_of bs) (onto_first b (lines_of bs)))) [
      | true ↦ refl
      | false ↦ rw (split_some bs) refl
    ]

-- the tokens from a line feed on
later : (at line : ℕ) (l : List ℕ) (ls : List (List ℕ)) → later_lines (at + 0) line (l ∷ ls) ≡ newline at line ∷ tokens_of_line (at + 1) (line + 1) l
    ++ later_lines (at + 1 + length l) (line + 1) ls
later at line l ls = let e : at + 0 ≡ at = omega arith in rw e refl

-- a line feed is a Newline, and the next line follows
pub at_newline : (at line : ℕ) (bs : List ℕ) → tokens_from at line (10 ∷ bs) ≡ newline at line ∷ tokens_from (at + 1) (line + 1) bs
at_newline at line bs = ap (λ ls. later_lines (at + 0) line ls) (split_some bs) ∙ later at line (first_line bs) (others_of (lines_of bs))

-- the pieces after the bytes of a piece are the cut of what is left
pub passed : (taken bs : List ℕ) → length taken ≤ length bs → pieces_after taken bs ≡ cut_of (drop (length taken) bs)
passed [] bs fits = refl
passed (t ∷ taken) [] fits = refl
passed (t ∷ taken) (b ∷ bs) fits = passed taken bs (omega (arith, fits))

-- a byte more before the first line
first_onto : (b : ℕ) (ls : List (List ℕ)) → first_of (onto_first b ls) ≡ b ∷ first_of ls
first_onto b ls = search arith

-- a byte more leaves the other lines
others_onto : (b : ℕ) (ls : List (List ℕ)) → others_of (onto_first b ls) ≡ others_of ls
others_onto b ls = search arith

-- a byte other than the line feed belongs to the first line
pub first_line_on : (b : ℕ) (bs : List ℕ) → (b == 10) ≡ false → first_line (b ∷ bs) ≡ b ∷ first_line bs
first_line_on b bs other = ap (λ t. first_of (cond t ([] ∷ lines_of bs) (onto_first b (lines_of bs)))) other ∙ first_onto b (lines_of bs)

-- and to no other line
pub others_on : (b : ℕ) (bs : List ℕ) → (b == 10) ≡ false → others_of (lines_of (b ∷ bs)) ≡ others_of (lines_of bs)
others_on b bs other = ap (λ t. others_of (cond t ([] ∷ lines_of bs) (onto_first b (lines_of bs)))) other ∙ others_onto b (lines_of bs)

-- a fact of a choice by four tests
by_tests : (M : Piece → Type 0) (x y z w : Bool) (a b c d e : Piece)
    → (x ≡ true → M a) → (y ≡ true → M b) → (z ≡ true → M c) → (w ≡ true → M d) → (not (x || (y || (z || w))) ≡ true → M e)
    → M (cond x a (cond y b (cond z c (cond w d e))))
by_tests M x y z w a b c d e h k l u v = search arith

-- any fact of the first piece
pub piece_is : (M : Piece → Type 0) (b : ℕ) (bs : List ℕ)
    → (is_blank b ≡ true → M (Blank b))
    → ((b == 35) ≡ true → M (Comment bs))
    → ((b == 34) ≡ true → M (quoted_piece (position (λ x. x == 34) bs) bs))
    → (is_control b ≡ true → M (Control b))
    → (is_run_byte b ≡ true → M (Run b (up_to (position ends_run bs) bs)))
    → M (first_piece b bs)
piece_is M b bs p q r s t = by_tests M (is_blank b) (b == 35) (b == 34) (is_control b) _ _ _ _ _ p q r s t

-- up to a first byte
pub up_to_on : (p : ℕ → Bool) (bs : List ℕ) → up_to (position p bs) bs ≡ take (prefix_len (λ x. not (p x)) bs) bs
up_to_on p bs = grind (arith, common_steps)

-- bytes of the first line dropped from the text are dropped from that line alone
pub lines_dropped : (taken bs : List ℕ) → length taken ≤ length (first_line bs)
    → lines_of (drop (length taken) bs) ≡ drop (length taken) (first_line bs) ∷ others_of (lines_of bs)
lines_dropped [] bs fits = split_some bs
lines_dropped (t ∷ taken) [] fits = absurd (omega (arith, fits))
lines_dropped (t ∷ taken) (b ∷ bs) fits = elim (cases_Bool (b == 10)) [
  | inl yes_ ↦ absurd (omega (arith, fits, ap (λ t. length (first_of (cond t ([] ∷ lines_of bs) (onto_first b (lines_of bs))))) yes_))
  | inr no_ ↦ rw (first_line_on b bs no_) (rw (others_on b bs no_) (lines_dropped taken bs (omega (arith, fits, ap length (first_line_on b bs no_)))))
]

-- the tokens of a line, after its first piece
with_piece : (at line b : ℕ) (l : List ℕ) (p : Piece) → first_piece b l ≡ p → length (other_bytes p) ≤ length l → first_byte p ≡ b →
    tokens_of_line at line (b ∷ l) ≡ token_at at line (b ∷ other_bytes p) (kind_of_piece p)
    ++ tokens_of_line (at + 1 + length (other_bytes p)) line (drop (length (other_bytes p)) l)
with_piece at line b l p is fits first = grind (arith, passed)

-- if the first line has room for the first piece
pub one_piece : (at line b : ℕ) (bs : List ℕ) (p : Piece) → (b == 10) ≡ false → first_piece b (first_line bs) ≡ p
    → length (other_bytes p) ≤ length (first_line bs) → first_byte p ≡ b →
    tokens_from at line (b ∷ bs) ≡ token_at at line (b ∷ other_bytes p) (kind_of_piece p)
    ++ tokens_from (at + 1 + length (other_bytes p)) line (drop (length (other_bytes p)) bs)
one_piece at line b bs p other is fits first =
    let k = length (other_bytes p) in let l = first_line bs in let o = others_of (lines_of bs) in
    let e : at + length (b ∷ l) ≡ at + 1 + k + length (drop k l) = omega (arith, length-drop k l, fits) in
    ap (λ l. tokens_of_line at line l ++ later_lines (at + length l) line (others_of (lines_of (b ∷ bs)))) (first_line_on b bs other)
    ∙ ap (λ o. tokens_of_line at line (b ∷ l) ++ later_lines (at + length (b ∷ l)) line o) (others_on b bs other)
    ∙ ap (λ t. t ++ later_lines (at + length (b ∷ l)) line o) (with_piece at line b l p is fits first)
    ∙ ap (λ n. (token_at at line (b ∷ other_bytes p) (kind_of_piece p) ++ tokens_of_line (at + 1 + k) line (drop k l)) ++ later_lines n line o) e
    ∙ append_assoc (token_at at line (b ∷ other_bytes p) (kind_of_piece p)) _ _
    ∙ ap (λ ls. token_at at line (b ∷ other_bytes p) (kind_of_piece p) ++
    (tokens_of_line (at + 1 + k) line (first_of ls) ++ later_lines (at + 1 + k + length (first_of ls)) line (others_of ls)))
    (sym (lines_dropped (other_bytes p) bs fits))
