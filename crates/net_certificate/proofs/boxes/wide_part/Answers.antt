-- Of `wide_part`: what it ensures.
use Rattle.std.proofs.Common.{rules, ◌≡◌, ◌∷◌, [], ◌==◌, false, cond, sym, subst, ◌∙◌, FitsSigned}
use Rattle.std.{specs.Int.w128, proofs.lemmas.Int.to_z-of_z}
use Rattle.integers.specs.Vectors.{Vector, parts}
use Rattle.net_certificate.{specs.Tables.IsFirstWide, proofs.FirstWide.wide_more, proofs.FirstWide.wide_some}
use Rattle.net_certificate.proofs.boxes.wide_part.Goals as goal

pub returns-then-is_some : goal.returns-then-is_some
returns-then-is_some g c =
    let v = c.v.inside in let fx : FitsSigned w128 v.x = search rules in
    let x = simp to_z-of_z at c.wide_number-x.ensures in
    subst (λ (w : Vector). IsFirstWide (parts g.row.D w) c.wide_number-x.result) c.v.view_is
    (wide_some (v.x ∷ []) (v.y ∷ cond (g.row.D == 2) [] (v.z ∷ [])) c.wide_number-x.result (sym c.is_some.ensures ∙ c.if-is_some.true) x)

pub returns-then-is_some-2 : goal.returns-then-is_some-2
returns-then-is_some-2 g c =
    let v = c.v.inside in let fx : FitsSigned w128 v.x = search rules in
    let fy : FitsSigned w128 v.y = search rules in let x = simp to_z-of_z at c.wide_number-x.ensures in
    let y = simp to_z-of_z at c.wide_number-y.ensures in let last = cond (g.row.D == 2) [] (v.z ∷ []) in
    subst (λ (w : Vector). IsFirstWide (parts g.row.D w) c.wide_number-y.result) c.v.view_is
    (wide_more (v.x ∷ []) (v.y ∷ last) c.wide_number-x.result c.wide_number-y.result (sym c.is_some.ensures ∙ c.if-is_some.false) x
    (wide_some (v.y ∷ []) last c.wide_number-y.result (sym c.is_some-2.ensures ∙ c.if-is_some-2.true) y))

pub returns-else-this-eq2 : goal.returns-else-this-eq2
returns-else-this-eq2 g c =
    let v = c.v.inside in let fx : FitsSigned w128 v.x = search rules in
    let fy : FitsSigned w128 v.y = search rules in let fz : FitsSigned w128 v.z = search rules in
    let x = simp to_z-of_z at c.wide_number-x.ensures in let y = simp to_z-of_z at c.wide_number-y.ensures in
    let z = simp to_z-of_z at c.wide_number.ensures in let other : (g.row.D == 2) ≡ false = search rules in
    let all = wide_more (v.x ∷ []) (v.y ∷ v.z ∷ []) c.wide_number-x.result c.wide_number.result (sym c.is_some.ensures ∙ c.if-is_some.false) x
    (wide_more (v.y ∷ []) (v.z ∷ []) c.wide_number-y.result c.wide_number.result (sym c.is_some-2.ensures ∙ c.if-is_some-2.false) y z) in
    subst (λ (w : Vector). IsFirstWide (parts g.row.D w) c.wide_number.result) c.v.view_is
    (subst (λ b. IsFirstWide (v.x ∷ v.y ∷ cond b [] (v.z ∷ [])) c.wide_number.result) (sym other) all)
