use Rattle.std.proofs.Common.{◌*◌, pos, ◌∙◌}
use Rattle.std.{proofs.lemmas.Int.to_z-of_z, specs.Int.w128, specs.Prelude.FitsSigned, specs.Prelude.◌-ℤ◌}
use Rattle.fraction.specs.{Quotients.quotient, Values.fraction_value}
use Rattle.fraction.proofs.Operations.{minus_is, difference_fits, exact_is}
use Rattle.fraction.proofs.arithmetic.FractionExact.minus.Goals as goal

pub returns : goal.returns
returns c =
    let a = fraction_value c.args.self in let b = fraction_value c.args.o in
    let x : FitsSigned w128 c.cross.result = record { sfits = c.cross.type_inv } in
    let y : FitsSigned w128 c.cross-2.result = record { sfits = c.cross-2.type_inv } in
    let s = difference_fits c.cross.result c.cross-2.result c.cross.ensures.small c.cross-2.ensures.small in
    let u = c.cross.ensures.value in let v = c.cross-2.ensures.value in let e = c.over_both.ensures in
    record {
      difference = exact_is _ c.args.self c.args.o _ _ c.over_both.result ((λ i. quotient (u i -ℤ v i) (pos (a.den * b.den))) ∙ minus_is a b)
          (simp to_z-of_z at e);
    }
