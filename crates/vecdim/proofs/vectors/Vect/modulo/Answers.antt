use Rattle.std.proofs.{Common.subst, Common.sym, lemmas.Int.to_z-of_z}
use Rattle.integers.specs.Vectors.{Vector, IsModulo}
use Rattle.vecdim.proofs.vectors.Vect.modulo.Goals as goal

pub returns : goal.returns
returns g c =
    let m = c.args.m in let r = c.ranges.m in let e = c.modulo.ensures in
    subst (λ (r : Vector). IsModulo m c.args.self.now r) (sym c.to_vector.ensures)
    (subst (λ (v : Vector). IsModulo m v c.modulo.result) c.to_triple.ensures.value (simp to_z-of_z at e))
