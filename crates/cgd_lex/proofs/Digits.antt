-- A run of digits, and a space before a token.
use Rattle.std.proofs.Common.{◌≡◌, ℕ, zero, suc, ◌+◌, true, false, List, [], ◌∷◌, length, take, get_or, cond, ◌==◌, arith, refl, sym, ap, ◌∙◌, not, inl, inr}
use Rattle.std.proofs.Common.{Some}
use Rattle.std.{specs.Char.is_ascii_digit, specs.List.prefix_len, specs.List.list_all, proofs.lemmas.Bool.cases_Bool, proofs.lemmas.Grind.common_steps}
use Rattle.cgd_lex.specs.Pieces.{Blank, Run, ends_run, is_run_byte, is_blank, is_control, run_bytes, first_piece, other_bytes}
use Rattle.cgd_lex.specs.Tokens.{first_line, tokens_from, kind_of_piece, kind_of_run, is_whole}
use Rattle.cgd_lex.specs.declared.token.{TokenKind.TheVariants.Whole, TokenKind.TheVariants.Word}
use Rattle.cgd_lex.proofs.{Cuts.all_false, Ends.run_is, Ends.run_size, Ends.ends_in_line, Steps.one_piece}

-- the digits that a list begins with, by the byte after them
pub digits_to : (bs : List ℕ) → prefix_len (λ x. not (not (is_ascii_digit x))) bs ≡ prefix_len is_ascii_digit bs
digits_to [] = refl
digits_to (b ∷ bs) = elim (is_ascii_digit b) as (λ t. cond (not (not t)) (1 + prefix_len (λ x. not (not (is_ascii_digit x))) bs) 0
    ≡ cond t (1 + prefix_len is_ascii_digit bs) 0) [
      | true ↦ ap (λ n. 1 + n) (digits_to bs)
      | false ↦ refl
    ]

-- a run goes on with a digit
digit_goes_on : (b : ℕ) → is_ascii_digit b ≡ true → is_run_byte b ≡ true
digit_goes_on b h = grind (arith, common_steps, h)

-- a digit is no sign
digit_whole : (b : ℕ) (run : List ℕ) → is_ascii_digit b ≡ true → list_all is_ascii_digit run ≡ true → is_whole (b ∷ run) ≡ true
digit_whole b run h all = grind (arith, common_steps, h, all)

-- a run that stops after its digits has them alone
run_of_digits : (bs : List ℕ) (k : ℕ) → k ≡ prefix_len is_ascii_digit bs → ends_run (get_or bs k 32) ≡ true → prefix_len is_run_byte bs ≡ k
run_of_digits [] k e h = sym e
run_of_digits (b ∷ bs) zero e h = rw h refl
run_of_digits (b ∷ bs) (suc k) e h = elim (cases_Bool (is_ascii_digit b)) [
  | inl yes_ ↦ let less = rw yes_ at e in rw (digit_goes_on b yes_)
      (let more = run_of_digits bs k (omega (arith, less)) h in omega (arith, more))
  | inr no_ ↦ let none = rw no_ at e in absurd (omega (arith, none))
]

-- the digits are all digits
all_digits : (bs : List ℕ) (k : ℕ) → k ≡ prefix_len is_ascii_digit bs → list_all is_ascii_digit (take k bs) ≡ true
all_digits bs zero e = refl
all_digits [] (suc k) e = refl
all_digits (b ∷ bs) (suc k) e = elim (cases_Bool (is_ascii_digit b)) [
  | inl yes_ ↦ let less = rw yes_ at e in rw yes_ (all_digits bs k (omega (arith, less)))
  | inr no_ ↦ let none = rw no_ at e in absurd (omega (arith, none))
]

-- what begins with a digit is a run
digit_piece : (b : ℕ) (l : List ℕ) → is_ascii_digit b ≡ true → first_piece b l ≡ Run b (run_bytes l)
digit_piece b l h = all_false (is_blank b) (b == 35) (b == 34) (is_control b) _ _ _ _ _ (digit_goes_on b h)

module _ (b : ℕ) (bs : List ℕ) (k : ℕ) (digit : is_ascii_digit b ≡ true) (e : k ≡ prefix_len is_ascii_digit bs) (stops : ends_run (get_or bs k 32) ≡ true) where
  -- the size of the run in its line
  in_line : prefix_len is_run_byte (first_line bs) ≡ k
  in_line = ends_in_line is_run_byte bs refl ∙ run_of_digits bs k e stops

  -- such a run is a Whole
  pub digits_kind : kind_of_piece (first_piece b (first_line bs)) ≡ Some Whole
  digits_kind = ap kind_of_piece (digit_piece b (first_line bs) digit)
      ∙ ap (λ run. Some (kind_of_run (b ∷ run))) (run_is bs)
      ∙ ap (λ n. Some (kind_of_run (b ∷ take n bs))) in_line
      ∙ ap (λ t. Some (cond t Whole Word)) (digit_whole b (take k bs) digit (all_digits bs k e))

  -- and takes so many bytes after its first
  pub digits_size : k ≡ length (other_bytes (first_piece b (first_line bs)))
  digits_size = sym in_line ∙ sym (run_size bs) ∙ sym (ap (λ p. length (other_bytes p)) (digit_piece b (first_line bs) digit))

-- a space before the tokens
pub after_space : (at line : ℕ) (bs : List ℕ) → tokens_from at line (32 ∷ bs) ≡ tokens_from (at + 1) line bs
after_space at line bs =
    let e : at + 1 + 0 ≡ at + 1 = omega arith in
    one_piece at line 32 bs (Blank 32) refl refl (omega arith) refl ∙ ap (λ n. tokens_from n line bs) e
