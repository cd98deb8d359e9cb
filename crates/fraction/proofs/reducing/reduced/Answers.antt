use Rattle.std.proofs.{Common.sym, Common.◌∙◌, lemmas.Int.to_z-of_z}
use Rattle.fraction.{specs.Quotients.signed_ratio, proofs.Operations.answered}
use Rattle.fraction.proofs.reducing.reduced.Goals as goal

pub returns : goal.returns
returns c =
    let n = c.ranges.num in let d = c.ranges.den in let s = c.is_negative-negative.ensures in
    let a = c.unsigned_abs.ensures.value in let b = c.unsigned_abs-2.ensures.value in
    let a' = sym (simp to_z-of_z at a) in let b' = sym (simp to_z-of_z at b) in
    answered _ _ _ _ _ _ _ ((simp to_z-of_z at s) ∙ (λ i. signed_ratio c.is_negative-negative.result (a' i) (b' i))) c.lowest-parts.ensures c.fitted.ensures
