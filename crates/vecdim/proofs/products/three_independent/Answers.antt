use Rattle.std.proofs.Common.{◌↔◌, ◌≢◌, ℤ, pos, subst}
use Rattle.std.{proofs.lemmas.Int.to_z-of_z, specs.Prelude.FitsSigned, specs.Prelude.IsTrue, specs.Int.w128}
use Rattle.integers.proofs.vectors.Independence.{three_vectors}
use Rattle.vecdim.proofs.Dividing.{through}
use Rattle.vecdim.proofs.products.three_independent.Goals as goal

pub returns : goal.returns
returns g c =
    let r : FitsSigned w128 c.product_of_vectors.result = record { sfits = c.product_of_vectors.type_inv } in
    let e = c.is_not_zero.ensures in
    let n = subst (λ (t : ℤ). IsTrue c.is_not_zero.result ↔ (t ≢ pos 0)) c.product_of_vectors.ensures (simp to_z-of_z at e) in
    through n (three_vectors c.args.a.now c.args.b.now c.args.c.now)
