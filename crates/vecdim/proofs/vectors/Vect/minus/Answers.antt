use Rattle.std.proofs.Common.{rules, ◌≡◌, ◌+◌, sym, subst}
use Rattle.integers.{specs.Vectors.minus, specs.Vectors.IsWithin, proofs.vectors.Bounds.bounded_minus}
use Rattle.vecdim.proofs.vectors.Vect.minus.Goals as goal

pub returns : goal.returns
returns g c =
    let e : c.to_vector.result ≡ minus c.args.self.now c.args.other.now = search rules in
    record { value = e; within = λ m n h k. subst (IsWithin (m + n)) (sym e) (bounded_minus c.args.self.now c.args.other.now m n h k) }
