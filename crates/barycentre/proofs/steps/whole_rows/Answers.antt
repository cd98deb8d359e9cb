use Rattle.std.proofs.lemmas.Result.{err_from_is_err_and}
use Rattle.std.proofs.{Common.◌≡◌, Common.◌++◌, Common.[], Common.◌∷◌, Common.◌∙◌, Common.ap, Common.get_or, Common.sym, lemmas.List.map_more}
use Rattle.barycentre.specs.ResidueRows.{residue_vector}
use Rattle.barycentre.proofs.steps.whole_rows.Goals as goal

pub loop-row-preserved : goal.loop-row-preserved
loop-row-preserved g c =
    let rows = c.args.rows.now in let i = c.loop-row.row-index in let row = c.row-item.result in
    let next = residue_vector (get_or rows i row) in
    let same : c.whole_row.result ≡ next = c.whole_row.ensures ∙ ap residue_vector c.row-item.is in
    c.in_ok-push.ensures.items ∙ ap (λ v. c.loop-row.at.items ++ v ∷ []) same ∙ ap (λ vs. vs ++ next ∷ []) c.loop-row.invariant
    ∙ sym (map_more residue_vector rows i row c.loop-row-test.true)

pub returns-in_err-at : goal.returns-in_err-at
returns-in_err-at g c = let told = err_from_is_err_and c.from_residual.result c.from_residual.ensures.1 in rw told.1 tt

pub returns-in_err-push : goal.returns-in_err-push
returns-in_err-push g c = let told = err_from_is_err_and c.from_residual-in_err-push.result c.from_residual-in_err-push.ensures.1 in rw told.1 tt
