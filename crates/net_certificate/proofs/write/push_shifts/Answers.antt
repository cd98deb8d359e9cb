use Rattle.std.proofs.Common.{◌≡◌, ◌+◌, ◌++◌, ◌∷◌, ◌∙◌, [], ℕ, List, drop, map, ap, sym}
use Rattle.std.proofs.lemmas.{List.append_assoc, List.at_drop_more, Result.err_from_is_err_and}
use Rattle.integers.specs.Vectors.{Vector}
use Rattle.line_text.specs.Lines.{rows_text}
use Rattle.net_certificate.specs.Rows.{OfBase, base_row, row_lines}
use Rattle.net_certificate.proofs.write.push_shifts.Goals as goal

-- the rows of these shifts
abbrev rows : ℕ → List Vector → List ℕ
rows e vs = rows_text (row_lines (map (OfBase e) vs))

pub loop-v-preserved : goal.loop-v-preserved
loop-v-preserved c =
    let e = c.args.other in let vs = c.args.base.now in let i = c.loop-v.v-index in let v = c.v-item.result in
    let old = c.loop-v.text.items in let rest = drop (i + 1) vs in
    let next : rows e (drop i vs) ≡ rows_text (base_row e v ∷ []) ++ rows e rest =
    at_drop_more (rows e) vs i v c.loop-v-test.true ∙ ap (λ (w : Vector). rows e (w ∷ rest)) (sym c.v-item.is)
    ∙ sym (append_assoc (base_row e v) (10 ∷ []) (rows e rest)) in
    ap (λ (l : List ℕ). l ++ rows e rest) c.in_ok-push_shift.ensures ∙ append_assoc old (rows_text (base_row e v ∷ [])) (rows e rest)
    ∙ ap (λ (l : List ℕ). old ++ l) (sym next) ∙ c.loop-v.invariant

pub returns-in_err-push_shift : goal.returns-in_err-push_shift
returns-in_err-push_shift c = let told = err_from_is_err_and c.from_residual.result c.from_residual.ensures.1 in rw told.1 tt
