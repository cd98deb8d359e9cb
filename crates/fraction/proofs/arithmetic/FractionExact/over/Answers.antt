use Rattle.std.proofs.Common.{◌≢◌, pos, rules, subst, sym}
use Rattle.std.{proofs.lemmas.Int.to_z-of_z, specs.Int.w128, specs.Prelude.FitsSigned, specs.Prelude.ℤ}
use Rattle.fraction.{specs.Quotients.quotient, specs.Values.fraction_value, proofs.Operations.cross_not_zero, proofs.Operations.over_or}
use Rattle.fraction.proofs.arithmetic.FractionExact.over.Goals as goal

pub reduced-requires : goal.reduced-requires
reduced-requires c =
    let y : FitsSigned w128 c.cross-2.result = record { sfits = c.cross-2.type_inv } in
    let z : c.args.o.num ≢ pos 0 = search rules in
    simp to_z-of_z (subst (λ (t : ℤ). t ≢ pos 0) (sym c.cross-2.ensures.value)
    (cross_not_zero (fraction_value c.args.o) (fraction_value c.args.self) c.args.self.reduced.positive z))

pub returns : goal.returns
returns c =
    let x : FitsSigned w128 c.cross.result = record { sfits = c.cross.type_inv } in
    let y : FitsSigned w128 c.cross-2.result = record { sfits = c.cross-2.type_inv } in
    let z : c.args.o.num ≢ pos 0 = search rules in
    let u = c.cross.ensures.value in let v = c.cross-2.ensures.value in let e = c.reduced.ensures in
    record {
      quotient = over_or c.args.self c.args.o _ c.reduced.result c.wide.result c.ok_or.result z
          (λ i. quotient (u i) (v i)) c.wide.ensures c.ok_or.ensures.value (simp to_z-of_z at e);
    }
