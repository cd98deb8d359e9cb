-- Of `coefficients`: what `divided_by` requires; the clauses `dimension` and `value`.
use Rattle.std.proofs.Common.{◌≡◌, ◌∙◌, ℤ, FitsSigned, to_z, of_z, refl, sym, ap}
use Rattle.std.{proofs.lemmas.Int.to_z-of_z, specs.Int.w128}
use Rattle.integers.specs.{Bases.base_sum, Vectors.Vector, Vectors.times}
use Rattle.net_cover.proofs.CellRows.{products_multiple, coefficients_are}
use Rattle.net_cover.proofs.cell.Cell.coefficients.Goals as goal

pub divided_by-requires-clause-divides : goal.divided_by-requires-clause-divides
divided_by-requires-clause-divides c =
    let n = c.determinant.result in let f : FitsSigned w128 n = record { sfits = c.determinant.type_inv } in
    let q : to_z w128 (of_z w128 n) ≡ n = simp to_z-of_z refl in let i = c.requires.combination in
    let e = products_multiple c.args.self.now c.products.ensures.written.dimension c.requires.rank c.args.v.now i in
    (i.k, c.products.ensures.value ∙ e ∙ ap (λ (z : ℤ). times z i.k) (sym (q ∙ c.determinant.ensures.value)))

pub returns-clause-dimension : goal.returns-clause-dimension
returns-clause-dimension c =
    let n = c.determinant.result in let f : FitsSigned w128 n = record { sfits = c.determinant.type_inv } in
    let q : to_z w128 (of_z w128 n) ≡ n = simp to_z-of_z refl in
    let i = c.requires.combination in let r = c.divided_by.result in
    let e = coefficients_are c.args.self.now c.products.ensures.written.dimension c.requires.rank c.args.v.now i r
    (sym c.products.ensures.value ∙ c.divided_by.ensures.value ∙ ap (λ (z : ℤ). times z r) (q ∙ c.determinant.ensures.value)) in
    λ d. ap (λ (k : Vector). k.z) e ∙ i.dimension d

pub returns-clause-value : goal.returns-clause-value
returns-clause-value c =
    let n = c.determinant.result in let f : FitsSigned w128 n = record { sfits = c.determinant.type_inv } in
    let q : to_z w128 (of_z w128 n) ≡ n = simp to_z-of_z refl in
    let i = c.requires.combination in let r = c.divided_by.result in
    let e = coefficients_are c.args.self.now c.products.ensures.written.dimension c.requires.rank c.args.v.now i r
    (sym c.products.ensures.value ∙ c.divided_by.ensures.value ∙ ap (λ (z : ℤ). times z r) (q ∙ c.determinant.ensures.value)) in
    i.sum ∙ ap (base_sum c.args.self.now.rows) (sym e)
