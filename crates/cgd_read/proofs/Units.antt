-- A unit of a text is exactly what its first faulty line, its end or the end of the text decides.
use Rattle.std.proofs.Common.{◌≡◌, ℕ, Bool, cond, List, [], ◌∷◌, Option, Some, None, refl, arith, true, false, ◌⊎◌, inl, inr, sym, ap, subst, ◌∙◌}
use Rattle.std.proofs.lemmas.Bool.{cases_Bool}
use Rattle.cgd_read.specs.Units.{Units, first_true, or_fault, unit_after, AllFalse, IsFirstTrue, in_order, AllPass, IsDecided, IsUnit}

pub none_true : {K : Type 0} (tests : List (K × Bool)) → AllFalse tests → first_true tests ≡ None
none_true [] h = refl
none_true (test ∷ tests) h = ap (λ t. cond t (Some test.0) (first_true tests)) h.0 ∙ none_true tests h.1

pub one_true : {K : Type 0} (tests : List (K × Bool)) (kind : K) → IsFirstTrue tests kind → first_true tests ≡ Some kind
one_true [] kind h = absurd h
one_true (test ∷ tests) kind (inl h) = ap (λ t. cond t (Some test.0) (first_true tests)) h.0 ∙ ap Some h.1
one_true (test ∷ tests) kind (inr h) = ap (λ t. cond t (Some test.0) (first_true tests)) h.0 ∙ one_true tests kind h.1

this_false : {K : Type 0} (t : Bool) (kind : K) (later : Option K) → cond t (Some kind) later ≡ None → (t ≡ false) × (later ≡ None)
this_false t kind later h = search arith

-- none is true if there is no first one
pub all_false : {K : Type 0} (tests : List (K × Bool)) → first_true tests ≡ None → AllFalse tests
all_false [] e = tt
all_false (test ∷ tests) e =
    let h = this_false test.1 test.0 (first_true tests) e in
    (h.0, all_false tests h.1)

record Found {K : Type 0} (tests : List (K × Bool)) : Type 0 where
  kind : K
  first : IsFirstTrue tests kind

-- either no sentence is true, or there is a first one
search_table : {K : Type 0} (tests : List (K × Bool)) → AllFalse tests ⊎ Found tests
search_table [] = inl tt
search_table (test ∷ tests) = elim (cases_Bool test.1) [
  | inl yes_ ↦ inr (record { kind = test.0; first = inl (yes_, refl) })
  | inr no_ ↦ elim (search_table tests) [
    | inl h ↦ inl (no_, h)
    | inr found ↦ inr (record { kind = found.kind; first = inr (no_, found.first) })
  ]
]

-- what a line makes of its unit, by its fault and by whether it ends it
abbrev by_line : {L K U : Type 0} → Units L K U → ℕ → List L → L → List L → Option K → Bool → U
by_line u opening earlier line later fault ends =
    or_fault fault (u.faulty opening earlier line) (cond ends (u.ended opening earlier line) (unit_after u opening (line ∷ earlier) later))

-- a line that passes is passed over
pub passes_on : {L K U : Type 0} (u : Units L K U) (opening : ℕ) (earlier : List L) (line : L) (later : List L)
    → AllFalse (u.table earlier line) → u.ends line ≡ false
    → unit_after u opening earlier (line ∷ later) ≡ unit_after u opening (line ∷ earlier) later
passes_on u opening earlier line later h e =
    ap (λ fault. by_line u opening earlier line later fault (u.ends line)) (none_true (u.table earlier line) h)
    ∙ ap (by_line u opening earlier line later None) e

faulty_here : {L K U : Type 0} (u : Units L K U) (opening : ℕ) (earlier : List L) (line : L) (later : List L) (kind : K)
    → IsFirstTrue (u.table earlier line) kind
    → unit_after u opening earlier (line ∷ later) ≡ u.faulty opening earlier line kind
faulty_here u opening earlier line later kind h =
    ap (λ fault. by_line u opening earlier line later fault (u.ends line)) (one_true (u.table earlier line) kind h)

ends_here : {L K U : Type 0} (u : Units L K U) (opening : ℕ) (earlier : List L) (line : L) (later : List L)
    → AllFalse (u.table earlier line) → u.ends line ≡ true
    → unit_after u opening earlier (line ∷ later) ≡ u.ended opening earlier line
ends_here u opening earlier line later h e =
    ap (λ fault. by_line u opening earlier line later fault (u.ends line)) (none_true (u.table earlier line) h)
    ∙ ap (by_line u opening earlier line later None) e

-- after lines that pass
pub from_start : {L K U : Type 0} (u : Units L K U) (opening : ℕ) (earlier later : List L) → AllPass u earlier
    → unit_after u opening [] (in_order earlier later) ≡ unit_after u opening earlier later
from_start u opening [] later h = refl
from_start u opening (line ∷ earlier) later h = from_start u opening earlier (line ∷ later) h.2 ∙ passes_on u opening earlier line later h.0 h.1

decided_unit : {L K U : Type 0} (u : Units L K U) (opening : ℕ) (earlier later : List L) (unit : U) → IsDecided u opening earlier later unit
    → unit ≡ unit_after u opening earlier later
decided_unit u opening earlier [] unit h = h
decided_unit u opening earlier (line ∷ later) unit (inl f) = f.told ∙ sym (faulty_here u opening earlier line later f.kind f.first)
decided_unit u opening earlier (line ∷ later) unit (inr e) = e.told ∙ sym (ends_here u opening earlier line later e.faultless e.ends)

-- there is at most one
pub only_unit : {L K U : Type 0} (u : Units L K U) (opening : ℕ) (lines : List L) (unit : U) → IsUnit u opening lines unit
    → unit ≡ unit_after u opening [] lines
only_unit u opening lines unit b =
    decided_unit u opening b.earlier b.later unit b.decided ∙ sym (from_start u opening b.earlier b.later b.passed) ∙ ap (unit_after u opening []) b.whole

some_unit : {L K U : Type 0} (u : Units L K U) (opening : ℕ) (lines earlier later : List L) → in_order earlier later ≡ lines → AllPass u earlier
    → IsUnit u opening lines (unit_after u opening earlier later)
some_unit u opening lines earlier [] whole passed = record { earlier = earlier; later = []; whole = whole; passed = passed; decided = refl }
some_unit u opening lines earlier (line ∷ later) whole passed = elim (search_table (u.table earlier line)) [
  | inr found ↦ record {
    earlier = earlier;
    later = line ∷ later;
    whole = whole;
    passed = passed;
    decided = inl (record { kind = found.kind; first = found.first; told = faulty_here u opening earlier line later found.kind found.first });
  }
  | inl none ↦ elim (cases_Bool (u.ends line)) [
    | inl yes_ ↦ record {
      earlier = earlier;
      later = line ∷ later;
      whole = whole;
      passed = passed;
      decided = inr (record { faultless = none; ends = yes_; told = ends_here u opening earlier line later none yes_ });
    }
    | inr no_ ↦ subst (IsUnit u opening lines) (sym (passes_on u opening earlier line later none no_))
        (some_unit u opening lines (line ∷ earlier) later whole (none, no_, passed))
  ]
]

-- there is one
pub the_unit : {L K U : Type 0} (u : Units L K U) (opening : ℕ) (lines : List L) → IsUnit u opening lines (unit_after u opening [] lines)
the_unit u opening lines = some_unit u opening lines [] lines refl tt
