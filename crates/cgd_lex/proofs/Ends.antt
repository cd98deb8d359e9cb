-- Where a piece ends in its line, and that it is a part of it.
use Rattle.std.proofs.Common.{◌≡◌, ℕ, zero, suc, ◌+◌, ◌<◌, ◌≤◌, Bool, true, false, List, [], ◌∷◌, ◌++◌, length, take, Option, None, Some, cond, ◌==◌, arith}
use Rattle.std.proofs.Common.{refl, sym, ap, ◌∙◌, not, ◌||◌, inl, inr, get_or, ◌≢◌, ◌-◌, drop, take-suc}
use Rattle.std.proofs.lemmas.List.{length-append, length-take, take_all, take_rest}
use Rattle.std.specs.Prelude.{position, is_some, unwrap_or}
use Rattle.std.{proofs.lemmas.List.Sums.prefix_len_stops, proofs.lemmas.List.Sums.prefix_len_passes, proofs.lemmas.Bool.cases_Bool}
use Rattle.std.{proofs.lemmas.Bool.cases_lt, proofs.lemmas.Grind.common_steps, specs.List.prefix_len, specs.List.onto_first}
use Rattle.cgd_lex.specs.Pieces.{other_bytes, quoted_piece, is_run_byte, ends_run, run_bytes, Piece, first_byte, first_piece}
use Rattle.cgd_lex.specs.Tokens.{first_line, first_of, lines_of, is_whole, kind_of_run, is_closed, quoted_size, kind_of_piece, tokens_from, token_at}
use Rattle.cgd_lex.proofs.Steps.{up_to_on, first_line_on, piece_is, one_piece}
use Rattle.cgd_lex.specs.declared.token.{TokenKind.TheVariants.Word, TokenKind.TheVariants.Whole, TokenKind.TokenKind}

-- what the test of equality says
pub same : (a b : ℕ) → (a == b) ≡ true → a ≡ b
same a b yes_ = grind (arith, common_steps, yes_)

-- the first byte that passes a test is the first that fails the opposite
pub end_at : (p : ℕ → Bool) (bs : List ℕ) (k : ℕ) → position p bs ≡ Some k → prefix_len (λ x. not (p x)) bs ≡ k
end_at p bs k some = grind (arith, common_steps, some)

-- a prefix is no longer than its list
pub within : (p : ℕ → Bool) (bs : List ℕ) → prefix_len p bs ≤ length bs
within p [] = omega arith
within p (b ∷ bs) = elim (p b) as (λ t. cond t (1 + prefix_len p bs) 0 ≤ length (b ∷ bs)) [
  | true ↦ omega (arith, within p bs)
  | false ↦ omega arith
]

-- what is found stands in the list
pub found_within : (p : ℕ → Bool) (bs : List ℕ) (k : ℕ) → position p bs ≡ Some k → k < length bs
found_within p bs k some = grind (arith, common_steps, some)

-- if no byte passes a test, all fail it
pub no_end : (p : ℕ → Bool) (bs : List ℕ) → position p bs ≡ None → prefix_len (λ x. not (p x)) bs ≡ length bs
no_end p bs none = grind (arith, common_steps, none, within (λ x. not (p x)) bs)

-- up to the first byte that passes a test, or to the end
pub end_or_length : (p : ℕ → Bool) (bs : List ℕ) (o : Option ℕ) → position p bs ≡ o → unwrap_or o (length bs) ≡ prefix_len (λ x. not (p x)) bs
end_or_length p bs None none = sym (no_end p bs none)
end_or_length p bs (Some k) some = sym (end_at p bs k some)

-- a test that a line feed fails ends at the latest there
pub ends_in_line : (p : ℕ → Bool) (bs : List ℕ) → p 10 ≡ false → prefix_len p (first_line bs) ≡ prefix_len p bs
ends_in_line p [] stops = refl
ends_in_line p (b ∷ bs) stops = elim (cases_Bool (b == 10)) [
  | inl yes_ ↦ let e : b ≡ 10 = same b 10 yes_ in rw e (rw stops refl)
  | inr no_ ↦ rw (first_line_on b bs no_) (ap (λ n. cond (p b) (1 + n) 0) (ends_in_line p bs stops))
]

-- the first line lasts up to the first line feed
pub line_to : (bs : List ℕ) → length (first_line bs) ≡ prefix_len (λ x. not (x == 10)) bs
line_to [] = refl
line_to (b ∷ bs) = elim (cases_Bool (b == 10)) [
  | inl yes_ ↦ let e : b ≡ 10 = same b 10 yes_ in rw e refl
  | inr no_ ↦ rw (first_line_on b bs no_) (rw no_ (let h : length (first_line bs) ≡ prefix_len (λ x. not (x == 10)) bs = line_to bs in omega (arith, h)))
]

-- a stricter test ends no later
pub earlier : (p q : ℕ → Bool) (bs : List ℕ) → ((b : ℕ) → p b ≡ true → q b ≡ true) → prefix_len p bs ≤ prefix_len q bs
earlier p q [] more = omega arith
earlier p q (b ∷ bs) more = elim (cases_Bool (p b)) [
  | inl yes_ ↦ rw yes_ (rw (more b yes_) (omega (arith, earlier p q bs more)))
  | inr no_ ↦ rw no_ (omega arith)
]

-- one byte more, which is no line feed
step_to : (t u : Bool) (m n : ℕ) → u ≡ false → m ≡ n → cond (not t) (1 + m) 0 ≡ cond (not (t || u)) (1 + n) 0
step_to t u m n h k = search arith

-- the first quote of the line, or its end, is the first quote or line feed
pub quote_line : (bs : List ℕ) → prefix_len (λ x. not (x == 34)) (first_line bs) ≡ prefix_len (λ x. not (x == 34 || x == 10)) bs
quote_line [] = refl
quote_line (b ∷ bs) = elim (cases_Bool (b == 10)) [
  | inl yes_ ↦ let e : b ≡ 10 = same b 10 yes_ in rw e refl
  | inr no_ ↦ rw (first_line_on b bs no_) (step_to (b == 34) (b == 10) _ _ no_ (quote_line bs))
]

-- what is neither is not the second
by_two : (t u : Bool) → not (t || u) ≡ true → not u ≡ true
by_two t u k = search arith

-- stopped at a byte 34, it is no line feed
no_feed : (x : ℕ) → x ≡ 34 → not (x == 10) ≡ false → ⊥
no_feed x is h = grind (arith, common_steps, is, h)

-- stopped, and at no line feed, it is a quote
a_quote : (x : ℕ) → not (x == 34 || x == 10) ≡ false → not (x == 10) ≡ true → x ≡ 34
a_quote x stops other = grind (arith, common_steps, stops, other)

-- the quote is before the end of the line
pub closes : (bs : List ℕ) (k d : ℕ) → prefix_len (λ x. not (x == 34 || x == 10)) bs ≡ k → k < length bs → get_or bs k d ≡ 34 → k < length (first_line bs)
closes bs k d is within_ quote =
    let m = prefix_len (λ x. not (x == 10)) bs in let a = line_to bs in
    let c = earlier (λ x. not (x == 34 || x == 10)) (λ x. not (x == 10)) bs (λ b. by_two (b == 34) (b == 10)) in
    elim (cases_lt k m) [
      | inl less ↦ omega (arith, a, less)
      | inr not_less ↦
          let e : m ≡ k = omega (arith, c, is, not_less) in
          let f : m < length bs = omega (arith, e, within_) in
          absurd (no_feed _ (ap (λ i. get_or bs i d) e ∙ quote) (prefix_len_stops (λ x. not (x == 10)) bs d f))
    ]

-- the line ends before a quote
pub opens : (bs : List ℕ) (k d : ℕ) → prefix_len (λ x. not (x == 34 || x == 10)) bs ≡ k → k < length bs → (get_or bs k d ≡ 34 → ⊥) → k ≡ length (first_line bs)
opens bs k d is within_ other =
    let m = prefix_len (λ x. not (x == 10)) bs in let a = line_to bs in
    let c = earlier (λ x. not (x == 34 || x == 10)) (λ x. not (x == 10)) bs (λ b. by_two (b == 34) (b == 10)) in
    let g : prefix_len (λ x. not (x == 34 || x == 10)) bs < length bs = omega (arith, is, within_) in
    let s = ap (λ i. not (get_or bs i d == 34 || get_or bs i d == 10)) (sym is) ∙ prefix_len_stops (λ x. not (x == 34 || x == 10)) bs d g in
    elim (cases_lt k m) [
      | inl less ↦ absurd (other (a_quote _ s (prefix_len_passes (λ x. not (x == 10)) bs k d less)))
      | inr not_less ↦ omega (arith, a, c, is, not_less)
    ]

-- what a search in the line finds
pub found_at : (l : List ℕ) (k : ℕ) → prefix_len (λ x. not (x == 34)) l ≡ k → k < length l → position (λ x. x == 34) l ≡ Some k
found_at l k is less = grind (arith, common_steps, is, less)

-- a search in the line that finds nothing
pub found_none : (l : List ℕ) → prefix_len (λ x. not (x == 34)) l ≡ length l → position (λ x. x == 34) l ≡ None
found_none l is = grind (arith, common_steps, is)

-- the size of a closed text after its first quote
closed_size : (l : List ℕ) (k : ℕ) → k < length l → length (take k l ++ 34 ∷ []) ≡ k + 1
closed_size l k less = omega (arith, length-append (take k l) (34 ∷ []), length-take k l, less)

-- whether a text is closed, and its size, by what the search finds
size_by : (l : List ℕ) (o : Option ℕ) → position (λ x. x == 34) l ≡ o → (is_closed l ≡ is_some o) × (quoted_size l ≡ length (other_bytes (quoted_piece o l)))
size_by l o e = (ap is_some e, ap (λ o. length (other_bytes (quoted_piece o l))) e)

-- a quote before the end of the line closes the text
pub quote_closed : (bs : List ℕ) (k d : ℕ) → position (λ x. x == 34 || x == 10) bs ≡ Some k → get_or bs k d ≡ 34
    → (is_closed (first_line bs) ≡ true) × (quoted_size (first_line bs) ≡ k + 1)
quote_closed bs k d at quote =
    let within_ = found_within (λ x. x == 34 || x == 10) bs k at in
    let is = end_at (λ x. x == 34 || x == 10) bs k at in let less = closes bs k d is within_ quote in
    let e = size_by (first_line bs) (Some k) (found_at (first_line bs) k (quote_line bs ∙ is) less) in
    (e.0, e.1 ∙ closed_size (first_line bs) k less)

-- a line feed before any quote leaves the text open
pub quote_open : (bs : List ℕ) (k d : ℕ) → position (λ x. x == 34 || x == 10) bs ≡ Some k → (get_or bs k d ≡ 34 → ⊥)
    → (is_closed (first_line bs) ≡ false) × (quoted_size (first_line bs) ≡ k)
quote_open bs k d at other = grind (arith, found_within, end_at, opens, size_by, found_none, quote_line)

-- neither a quote nor a line feed: the text is open up to the end
pub quote_none : (bs : List ℕ) → position (λ x. x == 34 || x == 10) bs ≡ None → (is_closed (first_line bs) ≡ false) × (quoted_size (first_line bs) ≡ length bs)
quote_none bs none =
    let is = no_end (λ x. x == 34 || x == 10) bs none in
    let c = earlier (λ x. not (x == 34 || x == 10)) (λ x. not (x == 10)) bs (λ b. by_two (b == 34) (b == 10)) in
    let e : length (first_line bs) ≡ length bs = omega (arith, line_to bs, c, is, within (λ x. not (x == 10)) bs) in
    let f = size_by (first_line bs) None (found_none (first_line bs) (quote_line bs ∙ is ∙ sym e)) in
    (f.0, f.1 ∙ e)

-- the first bytes of the line are those of the text
pub take_line : (n : ℕ) (bs : List ℕ) → n ≤ length (first_line bs) → take n (first_line bs) ≡ take n bs
take_line zero bs fits = refl
take_line (suc n) [] fits = refl
take_line (suc n) (b ∷ bs) fits = elim (cases_Bool (b == 10)) [
  | inl yes_ ↦ absurd (omega (arith, fits, ap (λ t. length (first_of (cond t ([] ∷ lines_of bs) (onto_first b (lines_of bs))))) yes_))
  | inr no_ ↦ rw (first_line_on b bs no_) (ap (λ t. b ∷ t) (take_line n bs (omega (arith, fits, ap length (first_line_on b bs no_)))))
]

-- the bytes of a run are those of the text
pub run_is : (bs : List ℕ) → run_bytes (first_line bs) ≡ take (prefix_len is_run_byte (first_line bs)) bs
run_is bs = up_to_on ends_run (first_line bs) ∙ take_line (prefix_len is_run_byte (first_line bs)) bs (within is_run_byte (first_line bs))

-- the size of a run
pub run_size : (bs : List ℕ) → length (run_bytes (first_line bs)) ≡ prefix_len is_run_byte (first_line bs)
run_size bs = search (arith, up_to_on, length-take, within)

-- the kind of a run, from the test of its bytes
pub kind_by : (b : ℕ) (bs : List ℕ) (n : ℕ) (t : Bool) → n ≡ prefix_len is_run_byte (first_line bs) → t ≡ is_whole (b ∷ take n bs)
    → cond t Whole Word ≡ kind_of_run (b ∷ run_bytes (first_line bs))
kind_by b bs n t size is = ap (λ t. cond t Whole Word) (is ∙ ap (λ n. is_whole (b ∷ take n bs)) size ∙ ap (λ run. is_whole (b ∷ run)) (sym (run_is bs)))

-- A piece is a part of its line.

-- the piece is this byte and the first bytes of the list
abbrev pub FitsIn : ℕ → List ℕ → Piece → Type 0
FitsIn b l p = (first_byte p ≡ b) × (length (other_bytes p) ≤ length l) × (other_bytes p ≡ take (length (other_bytes p)) l)

-- a byte that is found to be a quote
no_quote : (x : ℕ) → not (x == 34) ≡ false → x ≡ 34
no_quote x h = grind (arith, common_steps, h)

-- a closed text fits
quote_fits : (l : List ℕ) (k : ℕ) → position (λ x. x == 34) l ≡ Some k → FitsIn 34 l (quoted_piece (Some k) l)
quote_fits l k at =
    let less = found_within (λ x. x == 34) l k at in let is = end_at (λ x. x == 34) l k at in
    let stop = prefix_len_stops (λ x. not (x == 34)) l 0 (omega (arith, is, less)) in
    let quote : get_or l k 0 ≡ 34 = no_quote _ (ap (λ i. not (get_or l i 0 == 34)) (sym is) ∙ stop) in
    let size : length (take k l ++ 34 ∷ []) ≡ suc k = omega (arith, length-append (take k l) (34 ∷ []), length-take k l, less) in
    (refl, omega (arith, size, less), ap (λ b. take k l ++ b ∷ []) (sym quote) ∙ sym (take-suc l k 0 less) ∙ ap (λ n. take n l) (sym size))

-- what begins with a quote fits
quoted_fits : (l : List ℕ) (o : Option ℕ) → position (λ x. x == 34) l ≡ o → FitsIn 34 l (quoted_piece o l)
quoted_fits l o h = search (arith, take_all, quote_fits)

-- a run fits
run_fits : (b : ℕ) (l : List ℕ) → (length (run_bytes l) ≤ length l) × (run_bytes l ≡ take (length (run_bytes l)) l)
run_fits b l = search (arith, up_to_on, length-take, within)

-- the first piece of a line fits in it
pub piece_fits : (b : ℕ) (l : List ℕ) → FitsIn b l (first_piece b l)
piece_fits b l = piece_is (FitsIn b l) b l
    (λ t. (refl, omega arith, refl))
    (λ t. (sym (same b 35 t), omega arith, sym (take_all (length l) l (omega arith))))
    (λ t. let e = same b 34 t in rw e (quoted_fits l (position (λ x. x == 34) l) refl))
    (λ t. (refl, omega arith, refl))
    (λ t. (refl, (run_fits b l).0, (run_fits b l).1))

-- the test shows a byte other than the line feed
no_line_feed : (b : ℕ) → b ≢ 10 → (b == 10) ≡ false
no_line_feed b other = grind (arith, common_steps, other)

-- the bytes that were measured are a part of the text, whatever its place and line
pub part_is : (text : List ℕ) (b : ℕ) (bs : List ℕ) (n : ℕ) (kind : Option TokenKind) → text ≡ b ∷ bs → b ≢ 10
    → n ≡ length (other_bytes (first_piece b (first_line bs))) → kind ≡ kind_of_piece (first_piece b (first_line bs)) → n ≤ length bs
    → (at line : ℕ) → tokens_from at line text ≡ token_at at line (take (n + 1) text) kind
    ++ tokens_from (at + length (take (n + 1) text)) (line + 0) (take (length bs - n) (drop n bs))
part_is text b bs n kind whole other size kind_is room at line =
    let p = first_piece b (first_line bs) in let fits = piece_fits b (first_line bs) in
    let step = one_piece at line b bs p (no_line_feed b other) refl fits.1 fits.0 in
    let k : n ≤ length (first_line bs) = omega (arith, size, fits.1) in
    let bytes : other_bytes p ≡ take n bs = fits.2 ∙ ap (λ n. take n (first_line bs)) (sym size) ∙ take_line n bs k in
    let head : take (n + 1) (b ∷ bs) ≡ b ∷ other_bytes p = let e : n + 1 ≡ suc n = omega arith in ap (λ n. take n (b ∷ bs)) e ∙ ap (λ t. b ∷ t) (sym bytes) in
    let far : at + length (take (n + 1) (b ∷ bs)) ≡ at + 1 + length (other_bytes p) = omega (arith, ap length head) in
    let same_line : line + 0 ≡ line = omega arith in
    rw whole (rw (take_rest bs n) (rw same_line (rw far (rw head (rw kind_is (rw size step))))))
