-- The lines of tokens, from the left, and their number; a value that is capped.
use Rattle.std.proofs.Common.{◌≡◌, ◌⊎◌, ℕ, ◌+◌, ◌≤◌, List, [], ◌∷◌, length, take, drop, arith, ap, inl, inr, Bool, true, false, cond, refl, sym, ◌∙◌}
use Rattle.std.proofs.Common.{min, fold}
use Rattle.std.proofs.{lemmas.List.length-drop, lemmas.List.length-take, lemmas.List.Elements.All-head, lemmas.List.Elements.All-tail}
use Rattle.std.proofs.{lemmas.Bool.cases_Bool, lemmas.List.Splits.slice_split-cons_yes, lemmas.List.Splits.slice_split-cons_no}
use Rattle.std.specs.List.{All, slice_split, flat_map, onto_first}
use Rattle.cgd_lex.specs.Forms.{HasItsForm, IsOfKind, IsUnclosedText, IsControlByte}
use Rattle.cgd_lex.specs.Lines.{is_newline, filled_line, filled_lines, rest_of_line, after_line}
use Rattle.cgd_lex.specs.Words.{next_value, whole_value, next_capped}
use Rattle.cgd_lex.specs.{Tokens.TokenView, Places.IsSliceOf, Places.AreInOrder, declared.token.TokenKind.TokenKind}

some_bad : (bytes : List ℕ) → IsUnclosedText bytes ⊎ IsControlByte bytes → 1 ≤ length bytes
some_bad bytes k = search arith

some_bytes : (kind : TokenKind) (bytes : List ℕ) → IsOfKind kind bytes → 1 ≤ length bytes
some_bytes kind bytes k = search (arith, some_bad)

-- a part that has a byte ends within its source
ends_within : (source text : List ℕ) (start : ℕ) → text ≡ take (length text) (drop start source) → 1 ≤ length text → start + length text ≤ length source
ends_within source text start e some = omega (arith, ap length e, length-take (length text) (drop start source), length-drop start source)

few_from : (source : List ℕ) (from : ℕ) (tokens : List TokenView) → from ≤ length source → AreInOrder from tokens → All (IsSliceOf source) tokens
    → All HasItsForm tokens → from + length tokens ≤ length source
few_from source from [] l order slices forms = omega (arith, l)
few_from source from (t ∷ ts) l order slices forms =
    let some = some_bytes t.kind t.text (All-head HasItsForm t ts forms) in
    let within = ends_within source t.text t.start (All-head (IsSliceOf source) t ts slices) some in
    let before : from ≤ t.start = order.0 in
    omega (
      arith,
      some,
      before,
      few_from source (t.start + length t.text) ts within order.1 (All-tail (IsSliceOf source) t ts slices)
          (All-tail HasItsForm t ts forms),
    )

pub few_tokens : (source : List ℕ) (tokens : List TokenView) → AreInOrder 0 tokens → All (IsSliceOf source) tokens → All HasItsForm tokens
    → length tokens ≤ length source
few_tokens source tokens order slices forms = omega (arith, few_from source 0 tokens (omega arith) order slices forms)

-- The lines of tokens, from the left.

abbrev ends : TokenView → Bool
ends t = is_newline t.kind

-- the tokens up to the next Newline, and the lines after it
record Cut (ts : List TokenView) : Type 0 where
  others : List (List TokenView)
  split : slice_split ends ts ≡ rest_of_line ts ∷ others
  later : flat_map filled_line others ≡ filled_lines (after_line ts)

cut : (ts : List TokenView) → Cut ts
cut [] = record { others = []; split = refl; later = refl }
cut (t ∷ ts) = elim (cases_Bool (ends t)) [
  | inl yes_ ↦ record {
    others = slice_split ends ts;
    split = slice_split-cons_yes ends t ts yes_ ∙ ap (λ b. cond b [] (t ∷ rest_of_line ts) ∷ slice_split ends ts) (sym yes_);
    later = ap (λ b. filled_lines (cond b ts (after_line ts))) (sym yes_);
  }
  | inr no_ ↦ let c = cut ts in record {
    others = c.others;
    split = slice_split-cons_no ends t ts no_ ∙ ap (onto_first t) c.split ∙ ap (λ b. cond b [] (t ∷ rest_of_line ts) ∷ c.others) (sym no_);
    later = c.later ∙ ap (λ b. filled_lines (cond b ts (after_line ts))) (sym no_);
  }
]

-- a line without tokens is passed over
pub at_newline : (t : TokenView) (ts : List TokenView) → is_newline t.kind ≡ true → filled_lines (t ∷ ts) ≡ filled_lines ts
at_newline t ts e = ap (flat_map filled_line) (slice_split-cons_yes ends t ts e)

-- a token begins a line, which the tokens up to the next Newline belong to
pub at_token : (t : TokenView) (ts : List TokenView) → is_newline t.kind ≡ false → filled_lines (t ∷ ts) ≡ (t ∷ rest_of_line ts) ∷ filled_lines (after_line ts)
at_token t ts e =
    let c = cut ts in
    ap (flat_map filled_line) (slice_split-cons_no ends t ts e ∙ ap (onto_first t) c.split)
    ∙ ap (λ (ls : List (List TokenView)). (t ∷ rest_of_line ts) ∷ ls) c.later

-- A value that is capped.

-- the same value, or both from the cap on
capped_alike : (cap m n : ℕ) (ds : List ℕ) → m ≡ min cap n → min cap (fold (next_capped cap) m ds) ≡ min cap (fold next_value n ds)
capped_alike cap m n [] e = omega (arith, e)
capped_alike cap m n (d ∷ ds) e = capped_alike cap (next_capped cap m d) (next_value n d) ds (omega (arith, e))

at_most_cap : (cap m : ℕ) (ds : List ℕ) → m ≤ cap → fold (next_capped cap) m ds ≤ cap
at_most_cap cap m [] e = e
at_most_cap cap m (d ∷ ds) e = at_most_cap cap (next_capped cap m d) ds (omega arith)

pub capped_is : (cap : ℕ) (ds : List ℕ) → fold (next_capped cap) 0 ds ≡ min cap (whole_value ds)
capped_is cap ds = omega (arith, capped_alike cap 0 0 ds (omega arith), at_most_cap cap 0 ds (omega arith))
