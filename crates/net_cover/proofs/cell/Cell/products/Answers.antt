use Rattle.std.proofs.{Common.◌^◌, Common.FitsSigned, Common.arith, lemmas.Int.to_z-of_z}
use Rattle.std.specs.Int.{w128}
use Rattle.periodic_net.specs.Limits.{most_shift}
use Rattle.net_cover.proofs.cell.Cell.products.Goals as goal

pub returns-clause-within : goal.returns-clause-within
returns-clause-within c =
    let x : FitsSigned w128 c.product_of_three.result = record { sfits = c.product_of_three.type_inv } in
    let y : FitsSigned w128 c.product_of_three-2.result = record { sfits = c.product_of_three-2.type_inv } in
    let z : FitsSigned w128 c.product_of_three-3.result = record { sfits = c.product_of_three-3.type_inv } in
    let s = c.self.invariant.small in let l = c.last-last.ensures.small in let v = c.requires in
    let f = c.product_of_three.ensures.within (2 ^ 12) most_shift most_shift v s.second l in
    let g = c.product_of_three-2.ensures.within most_shift (2 ^ 12) most_shift s.first v l in
    let h = c.product_of_three-3.ensures.within most_shift most_shift (2 ^ 12) s.first s.second v in
    (simp to_z-of_z (omega (arith, f)), simp to_z-of_z (omega (arith, g)), simp to_z-of_z (omega (arith, h)))
