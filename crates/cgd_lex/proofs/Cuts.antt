-- A line has exactly one cut, and the kind of a token says what its text is.
use Rattle.std.proofs.Common.{◌≡◌, ◌≢◌, ℕ, Bool, true, false, List, [], ◌∷◌, ◌++◌, length, cond, ◌==◌, arith, refl, sym, ap, ◌∙◌, not, ◌||◌, ◌&&◌, nat_lt}
use Rattle.std.proofs.Common.{inl, inr, zero, suc, ◌+◌, ◌≤◌, take, drop, Option, None, Some, subst}
use Rattle.std.proofs.lemmas.List.{append_assoc, append-nil, length-append, length-drop, take-append-drop, take_all}
use Rattle.std.proofs.lemmas.List.Elements.{All-head, All-tail, All-cons, All-nil}
use Rattle.std.{proofs.lemmas.Bool.cases_Bool, proofs.Math.Seq.take-append_seam, proofs.Math.Seq.drop-length, proofs.lemmas.Grind.common_steps}
use Rattle.std.{proofs.lemmas.List.Folds.length-prefix_len, specs.Prelude.position, specs.Prelude.All, specs.List.prefix_len}
use Rattle.cgd_lex.specs.Pieces.{Piece, Blank, Comment, Closed, Unclosed, Control, Run, first_byte, other_bytes, first_piece, quoted_piece, pieces_after}
use Rattle.cgd_lex.specs.Pieces.{cut_of, run_bytes, is_run_byte, is_blank, is_control, MayStand, IsCut, StartsNoRun, bytes_of, ends_run}
use Rattle.cgd_lex.proofs.Steps.{up_to_on, piece_is, passed}
use Rattle.cgd_lex.proofs.Ends.{found_at, found_none, same, end_at, no_end, piece_fits}
use Rattle.cgd_lex.specs.{Tokens.kind_of_piece, Tokens.is_whole, Forms.IsOfKind, Forms.IsWord, declared.token.TokenKind.TokenKind}
use Rattle.cgd_lex.specs.{declared.token.TokenKind.TheVariants.Word, declared.token.TokenKind.TheVariants.Whole}

-- the bytes of a piece are passed over
past : (taken rest : List ℕ) → pieces_after taken (taken ++ rest) ≡ cut_of rest
past [] rest = refl
past (t ∷ taken) rest = past taken rest

-- how many bytes pass a test before the rest
passes : (p : ℕ → Bool) (bs rest : List ℕ) → All (λ b. p b ≡ true) bs → prefix_len p rest ≡ 0 → prefix_len p (bs ++ rest) ≡ length bs
passes p [] rest all none = none
passes p (b ∷ bs) rest all none =
    let h : prefix_len p (bs ++ rest) ≡ length bs = passes p bs rest (All-tail (λ b. p b ≡ true) b bs all) none in
    rw (All-head (λ b. p b ≡ true) b bs all) (omega (arith, h))

-- the test shows a byte other than the quote
other_than : (b : ℕ) → b ≢ 34 → not (b == 34) ≡ true
other_than b h = grind (arith, common_steps, h)

-- true is not false
differ : true ≡ false → ⊥
differ h = grind (arith, common_steps, h)

-- what follows from a fact of each byte
pub All-map : (P Q : ℕ → Type 0) → ((b : ℕ) → P b → Q b) → (bs : List ℕ) → All P bs → All Q bs
All-map P Q h bs k = search arith

-- a closed text is found
quoted_is : (bs rest : List ℕ) → All (λ b. not (b == 34) ≡ true) bs → quoted_piece (position (λ x. x == 34) ((bs ++ 34 ∷ []) ++ rest))
    ((bs ++ 34 ∷ []) ++ rest) ≡ Closed bs
quoted_is bs rest all = grind (arith, append_assoc, passes, found_at, length-append, take-append_seam)

-- an open text is found
open_is : (bs : List ℕ) → All (λ b. not (b == 34) ≡ true) bs → quoted_piece (position (λ x. x == 34) bs) bs ≡ Unclosed bs
open_is bs all =
    let n = passes (λ x. not (x == 34)) bs [] all refl in
    rw (found_none bs (ap (prefix_len (λ x. not (x == 34))) (sym (append-nil bs)) ∙ n)) refl

-- no test of the four holds
pub all_false : (x y z w : Bool) (a b c d e : Piece) → not (x || (y || (z || w))) ≡ true → cond x a (cond y b (cond z c (cond w d e))) ≡ e
all_false x y z w a b c d e k = search arith

-- only the last test holds
only_last : (x y z w : Bool) (a b c d e : Piece) → (not x && w) ≡ true → y ≡ false → z ≡ false → cond x a (cond y b (cond z c (cond (not x && w) d e))) ≡ d
only_last x y z w a b c d e k l p = search arith

-- a control byte is none that is not
no_control : (b n : ℕ) → is_control n ≡ false → is_control b ≡ true → (b == n) ≡ false
no_control b n none h = elim (cases_Bool (b == n)) [
  | inl yes_ ↦ absurd (differ (sym h ∙ ap is_control (same b n yes_) ∙ none))
  | inr no_ ↦ no_
]

-- where no run goes on, no run byte comes
stops : (rest : List ℕ) → StartsNoRun rest → prefix_len is_run_byte rest ≡ 0
stops rest k = search arith

-- the bytes of a run are found
run_of : (bs rest : List ℕ) → All (λ b. is_run_byte b ≡ true) bs → StartsNoRun rest → run_bytes (bs ++ rest) ≡ bs
run_of bs rest all h = grind (arith, up_to_on, passes, stops, take-append_seam)

-- a piece that may stand where it does is the one that is found
is_first : (p : Piece) (rest : List ℕ) → MayStand p rest → first_piece (first_byte p) (other_bytes p ++ rest) ≡ p
is_first (Blank b) rest stands = rw stands refl
is_first (Comment bs) rest stands = rw stands (ap Comment (append-nil bs))
is_first (Closed bs) rest stands = quoted_is bs rest (All-map (λ b. b ≢ 34) (λ b. not (b == 34) ≡ true) other_than bs stands)
is_first (Unclosed bs) rest stands = rw stands.1 (rw (append-nil bs) (open_is bs (All-map (λ b. b ≢ 34) (λ b. not (b == 34) ≡ true) other_than bs stands.0)))
is_first (Control b) rest stands = only_last (is_blank b) (b == 35) (b == 34) (nat_lt b 32 || b == 127) _ _ _ _ _ stands (no_control b 35 refl stands)
    (no_control b 34 refl stands)
is_first (Run b bs) rest stands = all_false (is_blank b) (b == 35) (b == 34) (is_control b) _ _ _ _ _ stands.0 ∙ ap (Run b) (run_of bs rest stands.1 stands.2)

-- each cut of a line is the one that is found
pub one_cut : (ps : List Piece) (line : List ℕ) → IsCut ps line → ps ≡ cut_of line
one_cut [] line cut = rw cut refl
one_cut (p ∷ ps) line cut =
    let rest = cut.0 in let tail = one_cut ps rest cut.3 in let head = is_first p rest cut.2 in
    rw cut.1 (rw head (rw (past (other_bytes p) rest) (ap (λ ps. p ∷ ps) tail)))

-- The cut that is found is one.

-- the bytes before the first that fails a test all pass it
before : (p : ℕ → Bool) (l : List ℕ) → All (λ b. p b ≡ true) (take (prefix_len p l) l)
before p [] = All-nil (λ b. p b ≡ true)
before p (b ∷ l) = elim (cases_Bool (p b)) [
  | inl yes_ ↦ rw yes_ (let e : 1 + prefix_len p l ≡ suc (prefix_len p l) = omega arith in
      rw e (All-cons (λ b. p b ≡ true) b (take (prefix_len p l) l) yes_ (before p l)))
  | inr no_ ↦ rw no_ (All-nil (λ b. p b ≡ true))
]

-- no run goes on where the run bytes end
starts : (l : List ℕ) → StartsNoRun (drop (prefix_len is_run_byte l) l)
starts [] = tt
starts (b ∷ l) = elim (cases_Bool (is_run_byte b)) [
  | inl yes_ ↦ rw yes_ (let e : 1 + prefix_len is_run_byte l ≡ suc (prefix_len is_run_byte l) = omega arith in rw e (starts l))
  | inr no_ ↦ rw no_ no_
]

-- a byte that is found to be no quote
no_quote : (b : ℕ) → not (b == 34) ≡ true → b ≢ 34
no_quote b h e = grind (arith, common_steps, h, e)

-- what begins with a quote may stand where it does
quoted_stands : (l : List ℕ) (o : Option ℕ) → position (λ x. x == 34) l ≡ o → MayStand (quoted_piece o l) (drop (length (other_bytes (quoted_piece o l))) l)
quoted_stands l None e =
    let n = no_end (λ x. x == 34) l e in
    let all = before (λ x. not (x == 34)) l in (
      All-map (λ b. not (b == 34) ≡ true) (λ b. b ≢ 34) no_quote l (subst (λ m. All (λ b. not (b == 34) ≡ true) m)
          (ap (λ n. take n l) n ∙ take_all (length l) l (omega arith)) all),
      drop-length l,
    )
quoted_stands l (Some k) e =
    let n = end_at (λ x. x == 34) l k e in
    All-map (λ b. not (b == 34) ≡ true) (λ b. b ≢ 34) no_quote (take k l)
    (subst (λ m. All (λ b. not (b == 34) ≡ true) (take m l)) n (before (λ x. not (x == 34)) l))

-- a run may stand where it does
run_stands : (b : ℕ) (l : List ℕ) → is_run_byte b ≡ true → MayStand (Run b (run_bytes l)) (drop (length (run_bytes l)) l)
run_stands b l t =
    let e : run_bytes l ≡ take (prefix_len is_run_byte l) l = up_to_on ends_run l in
    let size : length (run_bytes l) ≡ prefix_len is_run_byte l = ap length e ∙ length-prefix_len is_run_byte l in
    (t, subst (λ m. All (λ b. is_run_byte b ≡ true) m) (sym e) (before is_run_byte l), subst (λ n. StartsNoRun (drop n l)) (sym size) (starts l))

-- the first piece may stand where it does
pub stands : (b : ℕ) (l : List ℕ) → MayStand (first_piece b l) (drop (length (other_bytes (first_piece b l))) l)
stands b l = piece_is (λ p. MayStand p (drop (length (other_bytes p)) l)) b l
    (λ t. t)
    (λ t. drop-length l)
    (λ t. quoted_stands l (position (λ x. x == 34) l) refl)
    (λ t. t)
    (λ t. run_stands b l t)

-- the cut that is found from the left is one
pub is_cut : (n : ℕ) (line : List ℕ) → length line ≤ n → IsCut (cut_of line) line
is_cut n [] fits = refl
is_cut zero (b ∷ l) fits = absurd (omega (arith, fits))
is_cut (suc n) (b ∷ l) fits =
    let p = first_piece b l in let k = length (other_bytes p) in let f = piece_fits b l in
    let e : b ∷ l ≡ bytes_of p ++ drop k l = ap (λ t. b ∷ t) (sym (take-append-drop k l)) ∙ ap (λ t. b ∷ t ++ drop k l) (sym f.2)
    ∙ ap (λ c. c ∷ other_bytes p ++ drop k l) (sym f.0) in (
      drop k l,
      e,
      stands b l,
      subst (λ ps. IsCut ps (drop k l)) (sym (passed (other_bytes p) l f.1))
          (is_cut n (drop k l) (omega (arith, fits, length-drop k l))),
    )

-- What the kind of a token says of its text.

-- the kind that a part has, if it has one, is that of its bytes
abbrev pub IsOfItsKind : Option TokenKind → List ℕ → Type 0
IsOfItsKind None bytes = Unit {0}
IsOfItsKind (Some kind) bytes = IsOfKind kind bytes

-- a run has the form of its kind
run_form : (whole : Bool) (run : List ℕ) → is_whole run ≡ whole → (is_whole run ≡ false → IsWord run) → IsOfKind (cond whole Whole Word) run
run_form whole run h k = search arith

-- a piece that may stand where it does has the form of its kind
pub piece_form : (p : Piece) (rest : List ℕ) → MayStand p rest → IsOfItsKind (kind_of_piece p) (bytes_of p)
piece_form (Blank b) rest may = tt
piece_form (Comment bs) rest may = tt
piece_form (Closed bs) rest may = (bs, refl, may)
piece_form (Unclosed bs) rest may = inl (refl, may.0)
piece_form (Control b) rest may = inr (b, refl, may)
piece_form (Run b bs) rest may = run_form (is_whole (b ∷ bs)) (b ∷ bs) refl (λ none. (may.0, may.1, none))

-- so has the first piece of a line
pub first_form : (b : ℕ) (l : List ℕ) → IsOfItsKind (kind_of_piece (first_piece b l)) (bytes_of (first_piece b l))
first_form b l = piece_form (first_piece b l) (drop (length (other_bytes (first_piece b l))) l) (stands b l)
