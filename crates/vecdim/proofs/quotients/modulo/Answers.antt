use Rattle.std.{proofs.Common.◌∙◌, proofs.Common.FitsSigned, proofs.lemmas.Int.to_z-of_z, specs.Int.w128}
use Rattle.vecdim.proofs.Dividing.{remainder}
use Rattle.vecdim.proofs.quotients.modulo.Goals as goal

pub returns-clause-same : goal.returns-clause-same
returns-clause-same c =
    let z = c.ranges.z in let m = c.ranges.m in let r = remainder c.args.z c.args.m c.requires.m in
    let f : FitsSigned w128 c.rem_euclid.result = record { sfits = c.rem_euclid.type_inv } in
    let e = c.rem_euclid.ensures.value in (r.0, simp to_z-of_z (simp to_z-of_z at e ∙ r.1))
