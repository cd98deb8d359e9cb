use Rattle.std.proofs.Common.{◌^◌, ◌+◌, ◌∙◌, ap, sym, subst, arith}
use Rattle.integers.{specs.Vectors.plus, specs.Vectors.IsWithin, proofs.vectors.Bounds.bounded_plus, proofs.vectors.Bounds.wider}
use Rattle.map_check.proofs.small_rows.sum_of_three.Goals as goal

pub returns-clause-within : goal.returns-clause-within
returns-clause-within c =
    let e = c.plus-2.ensures ∙ ap (plus c.args.a.now) c.plus.ensures in
    let b = bounded_plus c.args.b.now c.args.c.now (2 ^ 58) (2 ^ 58) c.requires.b c.requires.c in
    let a = bounded_plus c.args.a.now (plus c.args.b.now c.args.c.now) (2 ^ 58) (2 ^ 58 + 2 ^ 58) c.requires.a b in
    subst (IsWithin (2 ^ 60)) (sym e) (wider (2 ^ 58 + (2 ^ 58 + 2 ^ 58)) (2 ^ 60) (omega arith) (plus c.args.a.now (plus c.args.b.now c.args.c.now)) a)
