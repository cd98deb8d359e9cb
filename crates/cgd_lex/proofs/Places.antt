-- Where the tokens of a text stand, and what their texts are.
use Rattle.std.proofs.Common.{◌≡◌, ℕ, zero, suc, ◌+◌, ◌≤◌, false, List, [], ◌∷◌, ◌++◌, length, take, drop, cond, ◌==◌, arith, refl, sym, ap, ◌∙◌, inl}
use Rattle.std.proofs.Common.{inr, subst, Option, None, Some}
use Rattle.std.proofs.lemmas.List.{append_assoc, length-append, length-drop, take-append-drop}
use Rattle.std.proofs.{lemmas.Bool.cases_Bool, Math.Seq.drop-append_seam, Math.Seq.take-append_seam, lemmas.List.Elements.All-cons}
use Rattle.std.proofs.{lemmas.List.Elements.All-nil, lemmas.List.Sums.sum_by-append, lemmas.List.Sums.sum_by-cons}
use Rattle.std.specs.Prelude.{All, count_by}
use Rattle.cgd_lex.specs.Pieces.{line_feed, other_bytes, first_piece}
use Rattle.cgd_lex.specs.Tokens.{TokenView, tokens_from, token_at, first_line, kind_of_piece}
use Rattle.cgd_lex.specs.Places.{IsSliceOf, IsOnLine, AreInOrder, line_number}
use Rattle.cgd_lex.specs.{Forms.HasItsForm, declared.token.TokenKind.TokenKind, declared.token.TokenKind.TheVariants.Newline}
use Rattle.cgd_lex.proofs.Steps.{at_newline, one_piece, first_line_on}
use Rattle.cgd_lex.proofs.Ends.{same, take_line, piece_fits}
use Rattle.cgd_lex.proofs.Cuts.{IsOfItsKind, first_form}

-- the tokens stand in the source one after another, from this place on
pub record ArePlaced (source : List ℕ) (from : ℕ) (tokens : List TokenView) : Type 0 where
  pub slices : All (IsSliceOf source) tokens
  pub order : AreInOrder from tokens
  pub forms : All HasItsForm tokens
  pub lines : All (IsOnLine source) tokens

-- how many lines end in these bytes
abbrev feeds : List ℕ → ℕ
feeds bytes = count_by (λ b. b == line_feed) bytes

-- the line feeds of one byte more
feeds-cons : (b : ℕ) (bs : List ℕ) → feeds (b ∷ bs) ≡ cond (b == line_feed) 1 0 + feeds bs
feeds-cons b bs = sum_by-cons (λ b. cond (b == line_feed) 1 0) b bs

-- the line feeds of two parts
feeds-append : (bs cs : List ℕ) → feeds (bs ++ cs) ≡ feeds bs + feeds cs
feeds-append bs cs = sum_by-append (λ b. cond (b == line_feed) 1 0) bs cs

-- no line ends within a line
feeds_in_line : (k : ℕ) (bs : List ℕ) → feeds (take k (first_line bs)) ≡ 0
feeds_in_line zero bs = refl
feeds_in_line (suc k) [] = refl
feeds_in_line (suc k) (b ∷ bs) = elim (cases_Bool (b == line_feed)) [
  | inl yes_ ↦ let e : b ≡ line_feed = same b line_feed yes_ in rw e refl
  | inr no_ ↦ rw (first_line_on b bs no_) (feeds-cons b (take k (first_line bs)) ∙ ap (λ t. cond t 1 0 + feeds (take k (first_line bs))) no_
      ∙ omega (arith, feeds_in_line k bs))
]

-- no line ends within a piece
feeds_in_part : (b : ℕ) (bs : List ℕ) → (b == line_feed) ≡ false → feeds (b ∷ other_bytes (first_piece b (first_line bs))) ≡ 0
feeds_in_part b bs other =
    let p = first_piece b (first_line bs) in let k = length (other_bytes p) in
    feeds-cons b (other_bytes p)
    ∙ ap (λ t. cond t 1 0 + feeds (other_bytes p)) other
    ∙ ap (λ bytes. 0 + feeds bytes) (piece_fits b (first_line bs)).2
    ∙ omega (arith, feeds_in_line k bs)

-- an earlier place to start from
sooner : (a b : ℕ) (tokens : List TokenView) → a ≤ b → AreInOrder b tokens → AreInOrder a tokens
sooner a b [] less order = tt
sooner a b (token ∷ tokens) less order = (let first : b ≤ token.start = order.0 in omega (arith, less, first), order.1)

-- what stands between two parts of a source
between : (before part rest : List ℕ) → take (length part) (drop (length before) (before ++ (part ++ rest))) ≡ part
between before part rest = ap (take (length part)) (drop-append_seam before (part ++ rest)) ∙ take-append_seam part rest

-- the number of the line that begins or goes on after these bytes
lines_before : (before rest : List ℕ) → line_number (before ++ rest) (length before) ≡ feeds before + 1
lines_before before rest = ap (λ bytes. feeds bytes + 1) (take-append_seam before rest)

-- the token of a part, if it has one, and those after it
with_part : (before part rest : List ℕ) (kind : Option TokenKind) (from at line : ℕ) (tokens : List TokenView)
    → at ≡ length before → line ≡ feeds before + 1 → from ≤ at → IsOfItsKind kind part
    → ArePlaced (before ++ (part ++ rest)) (at + length part) tokens
    → ArePlaced (before ++ (part ++ rest)) from (token_at at line part kind ++ tokens)
with_part before part rest None from at line tokens place number less form placed = record {
  slices = placed.slices;
  order = sooner from (at + length part) tokens (omega (arith, less)) placed.order;
  forms = placed.forms;
  lines = placed.lines;
}
with_part before part rest (Some kind) from at line tokens place number less form placed =
    let source = before ++ (part ++ rest) in
    let token : TokenView = record { kind = kind; text = part; start = at; line = line } in
    let slice : IsSliceOf source token = sym (ap (λ n. take (length part) (drop n source)) place ∙ between before part rest) in
    let on_line : IsOnLine source token = number ∙ sym (ap (line_number source) place ∙ lines_before before (part ++ rest)) in
    record {
      slices = All-cons (IsSliceOf source) token tokens slice placed.slices;
      order = (less, placed.order);
      forms = All-cons HasItsForm token tokens form placed.forms;
      lines = All-cons (IsOnLine source) token tokens on_line placed.lines;
    }

-- a text, part by part, with what stands before it in its source

-- no tokens
none_left : (source : List ℕ) (from : ℕ) → ArePlaced source from []
none_left source from = record { slices = All-nil (IsSliceOf source); order = tt; forms = All-nil HasItsForm; lines = All-nil (IsOnLine source) }

-- the tokens of a text after some bytes of its source
pub placed : (n : ℕ) (before text : List ℕ) (from at line : ℕ)
    → length text ≤ n → at ≡ length before → line ≡ feeds before + 1 → from ≤ at
    → ArePlaced (before ++ text) from (tokens_from at line text)
placed n before [] from at line fits place number less = none_left (before ++ []) from
placed zero before (b ∷ bs) from at line fits place number less = absurd (omega (arith, fits))
placed (suc n) before (b ∷ bs) from at line fits place number less = elim (cases_Bool (b == line_feed)) [
  | inl yes_ ↦
      let e : b ≡ line_feed = same b line_feed yes_ in let feed : List ℕ = line_feed ∷ [] in
      let later = placed n (before ++ feed) bs (at + 1) (at + 1) (line + 1)
      (omega (arith, fits)) (omega (arith, place, length-append before feed)) (omega (arith, number, feeds-append before feed)) (omega arith) in
      rw e (rw (at_newline at line bs) (with_part before feed bs (Some Newline) from at line _ place number less refl
      (rw (sym (append_assoc before feed bs)) later)))
  | inr no_ ↦
      let p = first_piece b (first_line bs) in let k = length (other_bytes p) in
      let f = piece_fits b (first_line bs) in let part : List ℕ = b ∷ other_bytes p in
      let bytes : other_bytes p ≡ take k bs = f.2 ∙ take_line k bs f.1 in
      let whole : part ++ drop k bs ≡ b ∷ bs = ap (λ bs'. b ∷ bs' ++ drop k bs) bytes ∙ ap (λ bs. b ∷ bs) (take-append-drop k bs) in
      let form : IsOfItsKind (kind_of_piece p) part = subst (λ b. IsOfItsKind (kind_of_piece p) (b ∷ other_bytes p)) f.0 (first_form b (first_line bs)) in
      let none : feeds part ≡ 0 = feeds_in_part b bs no_ in
      let later = placed n (before ++ part) (drop k bs) (at + length part) (at + 1 + k) line
      (omega (arith, fits, length-drop k bs)) (omega (arith, place, length-append before part)) (omega (arith, number, feeds-append before part, none))
      (omega arith) in
      rw (one_piece at line b bs p no_ refl f.1 f.0)
      (subst (λ text. ArePlaced (before ++ text) from (token_at at line part (kind_of_piece p) ++ tokens_from (at + 1 + k) line (drop k bs))) whole
      (with_part before part (drop k bs) (kind_of_piece p) from at line _ place number less form (rw (sym (append_assoc before part (drop k bs))) later)))
]
