-- Texts that grow by a line.
use Rattle.std.proofs.Common.{◌≡◌, ℕ, ◌+◌, ◌<◌, List, [], ◌∷◌, ◌++◌, length, take, drop, get_or, Result, Ok, Err, sym, ap, ◌∙◌, add-one, append_assoc}
use Rattle.std.proofs.{lemmas.List.append-nil, lemmas.List.at_drop_more, Math.Seq.take-suc}
use Rattle.std.specs.Prelude.{OnOk, if◌then◌else◌}
use Rattle.std.specs.Result.{is_ok}
use Rattle.quotient_graph.specs.PlacedNets.{PlacedNet}
use Rattle.net_report.specs.{Placements.position_text, Placements.positions_text, Reports.outcome_text, Reports.report_text, declared.outcome.Outcome.Outcome}

-- a text to which a part was put last, and then another
pub next_part : (text one two first second : List ℕ) → one ≡ text ++ first → two ≡ one ++ second → two ≡ text ++ (first ++ second)
next_part text one two first second e f = f ∙ ap (λ (t : List ℕ). t ++ second) e ∙ append_assoc text first second

-- the same, if the last one may fail
pub two_parts : {A E : Type 0} (r : Result A E) (text one last first second : List ℕ) → one ≡ text ++ first → OnOk r (last ≡ one ++ second)
    → OnOk r (last ≡ text ++ (first ++ second))
two_parts (Ok x) text one last first second e f = next_part text one last first second e f
two_parts (Err x) text one last first second e f = f

-- and three
pub three_parts : {A E : Type 0} (r : Result A E) (text one two last first second third : List ℕ) → one ≡ text ++ first → two ≡ one ++ second
    → OnOk r (last ≡ two ++ third)
    → OnOk r (last ≡ text ++ (first ++ second ++ third))
three_parts r text one two last first second third e f g =
    two_parts r text two last (first ++ second) third (next_part text one two first second e f) g

-- a slice is put last if that does not fail
pub slice_part : {A E : Type 0} (r : Result A E) (last longer text : List ℕ) → last ≡ (if is_ok r then longer else text) → OnOk r (last ≡ longer)
slice_part (Ok x) last longer text e = e
slice_part (Err x) last longer text e = tt

-- the line of the next item, where the lines of the rest are still to come
pub line_more : {A : Type 0} (lines : List A → List ℕ) (line rest : List ℕ) (xs : List A) (i : ℕ) (x : A) (before after all : List ℕ)
    → i < length xs → after ≡ before ++ line → lines (get_or xs i x ∷ drop (i + 1) xs) ≡ line ++ rest → before ++ lines (drop i xs) ≡ all
    → after ++ rest ≡ all
line_more lines line rest xs i x before after all l e told f =
    ap (λ (t : List ℕ). t ++ rest) e ∙ append_assoc before line rest ∙ ap (λ (t : List ℕ). before ++ t) (sym (at_drop_more lines xs i x l ∙ told)) ∙ f

-- the line of the next vertex, after the lines up to this one
pub positions_more : (names : List (List ℕ)) (p : PlacedNet) (n : ℕ) (text before after : List ℕ) → before ≡ text ++ positions_text names p n
    → after ≡ before ++ position_text names p (n + 1) → after ≡ text ++ positions_text names p (n + 1)
positions_more names p n text before after e f =
    f ∙ ap (λ (t : List ℕ). t ++ position_text names p (n + 1)) e ∙ append_assoc text (positions_text names p n) (position_text names p (n + 1))
    ∙ ap (λ (k : ℕ). text ++ (positions_text names p n ++ position_text names p k)) (add-one n)
    ∙ sym (ap (λ (k : ℕ). text ++ positions_text names p k) (add-one n))

-- the text of one more outcome
pub report_last : (os : List Outcome) (o : Outcome) → report_text (os ++ o ∷ []) ≡ report_text os ++ outcome_text o
report_last [] o = append-nil (outcome_text o)
report_last (x ∷ os) o = ap (λ (t : List ℕ). outcome_text x ++ t) (report_last os o) ∙ sym (append_assoc (outcome_text x) (report_text os) (outcome_text o))

-- the text of the next outcome, after those of the first i
pub report_more : (os : List Outcome) (i : ℕ) (o : Outcome) (text before after : List ℕ) → i < length os → o ≡ get_or os i o
    → before ≡ text ++ report_text (take i os) → after ≡ before ++ outcome_text o
    → after ≡ text ++ report_text (take (i + 1) os)
report_more os i o text before after l is e f =
    let longer : take (i + 1) os ≡ take i os ++ o ∷ [] = ap (λ (n : ℕ). take n os) (add-one i) ∙ take-suc os i o l
    ∙ ap (λ (x : Outcome). take i os ++ x ∷ []) (sym is) in
    f ∙ ap (λ (t : List ℕ). t ++ outcome_text o) e ∙ append_assoc text (report_text (take i os)) (outcome_text o)
    ∙ ap (λ (t : List ℕ). text ++ t) (sym (report_last (take i os) o))
    ∙ ap (λ (xs : List Outcome). text ++ report_text xs) (sym longer)
