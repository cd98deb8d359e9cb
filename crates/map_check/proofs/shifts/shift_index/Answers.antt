use Rattle.std.proofs.Common.{◌^◌, ◌≤◌, ◌∙◌, ℕ, FitsSigned, sym, subst, ap, unsigned_abs}
use Rattle.std.{specs.Int.w128, proofs.lemmas.Int.to_z-of_z}
use Rattle.map_check.proofs.Drawing.{index_within}
use Rattle.map_check.proofs.shifts.shift_index.Goals as goal

pub returns-clause-within : goal.returns-clause-within
returns-clause-within g c =
    let r = c.requires in
    let fits : FitsSigned w128 c.determinant_of.result = record { sfits = c.determinant_of.type_inv } in
    let e = simp to_z-of_z at c.unsigned_abs.ensures.value in
    subst (λ (n : ℕ). n ≤ 2 ^ 117) (sym (e ∙ ap unsigned_abs c.determinant_of.ensures.value))
    (index_within g.row.D c.args.rows.now r.dimension r.count r.shifts)
