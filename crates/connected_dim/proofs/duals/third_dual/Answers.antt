use Rattle.std.{proofs.Common.FitsSigned, proofs.lemmas.Int.to_z-of_z, specs.Int.w128}
use Rattle.connected_dim.proofs.Splits.{above_fits}
use Rattle.connected_dim.proofs.duals.third_dual.Goals as goal

pub returns-clause-y : goal.returns-clause-y
returns-clause-y c =
    let r : FitsSigned w128 c.complement-y.result = record { sfits = c.complement-y.type_inv } in
    let h = c.requires.reduced in
    let fits = above_fits c.args.r.second_z c.args.r.third_z h.second_z_from h.second_z_to c.requires.small in
    let f = fits.0 in let i = fits.1 in simp to_z-of_z (simp to_z-of_z at c.complement-y.ensures.complement)
