-- Of `divide`: what it ensures.
use Rattle.std.proofs.Common.{FitsSigned}
use Rattle.std.{specs.Int.w128, proofs.lemmas.Int.to_z-of_z}
use Rattle.vecdim.proofs.Boxes.{euclid_is}
use Rattle.vecdim.proofs.columns.divide.Goals as goal

pub returns : goal.returns
returns c =
    let ra = c.ranges.a in let rb = c.ranges.b in
    let fq : FitsSigned w128 c.div_euclid-quotient.result = record { sfits = c.div_euclid-quotient.type_inv } in
    let fr : FitsSigned w128 c.rem_euclid-rest.result = record { sfits = c.rem_euclid-rest.type_inv } in
    let q = c.div_euclid-quotient.ensures in let r = c.rem_euclid-rest.ensures.value in
    let d = euclid_is c.requires.a_from c.requires.b_from (simp to_z-of_z at q) (simp to_z-of_z at r) in
    simp to_z-of_z (record { from = d.from; to = d.to; rest_from = d.rest_from; rest_to = d.rest_to; rest = d.rest })
