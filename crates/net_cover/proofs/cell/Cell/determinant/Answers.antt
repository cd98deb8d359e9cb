use Rattle.std.{proofs.Common.FitsSigned, proofs.Common.arith, proofs.lemmas.Int.to_z-of_z, specs.Int.w128}
use Rattle.periodic_net.specs.Limits.{most_shift}
use Rattle.net_cover.proofs.cell.Cell.determinant.Goals as goal

pub returns-clause-within : goal.returns-clause-within
returns-clause-within c =
    let r : FitsSigned w128 c.product_of_three.result = record { sfits = c.product_of_three.type_inv } in
    let s = c.self.invariant.small in
    let h = c.product_of_three.ensures.within most_shift most_shift most_shift s.first s.second c.last.ensures.small in
    simp to_z-of_z (omega (arith, h))
