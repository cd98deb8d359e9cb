use Rattle.std.proofs.Common.{rules, ◌≡◌, ◌+◌, sym, subst}
use Rattle.integers.{specs.Vectors.plus, specs.Vectors.IsWithin, proofs.vectors.Bounds.bounded_plus}
use Rattle.vecdim.proofs.vectors.Vect.plus.Goals as goal

pub returns : goal.returns
returns g c =
    let e : c.to_vector.result ≡ plus c.args.self.now c.args.other.now = search rules in
    record { value = e; within = λ m n h k. subst (IsWithin (m + n)) (sym e) (bounded_plus c.args.self.now c.args.other.now m n h k) }
