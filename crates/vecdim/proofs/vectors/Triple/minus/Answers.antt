use Rattle.std.proofs.Common.{rules, ◌≡◌, ◌+◌, to_z, of_z, sym, subst}
use Rattle.std.specs.Int.{w128}
use Rattle.integers.{specs.Vectors.vector, specs.Vectors.minus, specs.Vectors.IsWithin, proofs.vectors.Bounds.bounded_minus}
use Rattle.vecdim.proofs.vectors.Triple.minus.Goals as goal

pub returns : goal.returns
returns c =
    let x = to_z w128 (of_z w128 c.difference.result) in let y = to_z w128 (of_z w128 c.difference-2.result) in
    let z = to_z w128 (of_z w128 c.difference-3.result) in
    let e : vector x y z ≡ minus c.args.self.now c.args.other.now = search rules in
    record { value = e; within = λ m n h k. subst (IsWithin (m + n)) (sym e) (bounded_minus c.args.self.now c.args.other.now m n h k) }
