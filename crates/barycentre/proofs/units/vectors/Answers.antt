-- Of `vectors`: the loop over `t`; what `to_vector` requires.
use Rattle.std.proofs.lemmas.Result.{err_from_is_err_and}
use Rattle.std.proofs.Common.{◌≡◌, ◌^◌, ◌++◌, [], ◌∷◌, ◌∙◌, ap, get_or, lit<, subst, sym}
use Rattle.std.proofs.lemmas.List.{take_more}
use Rattle.integers.specs.Vectors.{IsWithin, HasDimension}
use Rattle.barycentre.proofs.units.vectors.Goals as goal

pub to_vector-requires : goal.to_vector-requires
to_vector-requires g c =
    let i = c.loop-t.t-index in let t = c.t-item.result in let here = c.loop-t-test.true in
    let within = subst (IsWithin (2 ^ 61)) (sym c.t-item.is) (c.requires.within i t here) in
    (lit< tt, (within, subst (HasDimension g.row.D) (sym c.t-item.is) (c.requires.dimension i t here)))

pub loop-t-preserved : goal.loop-t-preserved
loop-t-preserved g c =
    let at = c.args.at.now in let i = c.loop-t.t-index in let t = c.t-item.result in
    let next = get_or at i t in
    let same : c.to_vector.result ≡ next = c.to_vector.ensures ∙ c.t-item.is in
    c.in_ok-push.ensures.items ∙ ap (λ v. c.loop-t.made.items ++ v ∷ []) same ∙ ap (λ vs. vs ++ next ∷ []) c.loop-t.invariant
    ∙ sym (take_more at i t c.loop-t-test.true)

pub returns-in_err-made : goal.returns-in_err-made
returns-in_err-made g c = let told = err_from_is_err_and c.from_residual.result c.from_residual.ensures.1 in rw told.1 tt

pub returns-in_err-push : goal.returns-in_err-push
returns-in_err-push g c = let told = err_from_is_err_and c.from_residual-in_err-push.result c.from_residual-in_err-push.ensures.1 in rw told.1 tt
