use Rattle.std.proofs.Common.{◌*◌, pos, ◌∙◌}
use Rattle.std.{proofs.lemmas.Int.to_z-of_z, specs.Prelude.FitsSigned, specs.Int.w128}
use Rattle.fraction.{specs.Quotients.quotient, specs.Values.fraction_value, proofs.Operations.times_is, proofs.Operations.exact_is}
use Rattle.fraction.proofs.arithmetic.FractionExact.times.Goals as goal

pub returns : goal.returns
returns c =
    let a = fraction_value c.args.self in let b = fraction_value c.args.o in
    let n : FitsSigned w128 c.numerators.result = record { sfits = c.numerators.type_inv } in
    let v = c.numerators.ensures in let e = c.over_both.ensures in
    record {
      product = exact_is _ c.args.self c.args.o _ _ c.over_both.result ((λ i. quotient (v i) (pos (a.den * b.den))) ∙ times_is a b)
          (simp to_z-of_z at e);
    }
