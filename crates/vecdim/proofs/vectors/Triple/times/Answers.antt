use Rattle.std.proofs.Common.{rules, ◌≡◌, ◌*◌, to_z, of_z, sym, subst}
use Rattle.std.specs.Int.{w128}
use Rattle.integers.{specs.Vectors.vector, specs.Vectors.times, specs.Vectors.IsWithin, proofs.vectors.Bounds.bounded_times}
use Rattle.vecdim.proofs.vectors.Triple.times.Goals as goal

pub returns : goal.returns
returns c =
    let x = to_z w128 (of_z w128 c.exact_product.result) in
    let y = to_z w128 (of_z w128 c.exact_product-2.result) in
    let z = to_z w128 (of_z w128 c.exact_product-3.result) in
    let e : vector x y z ≡ times c.args.k c.args.self.now = search rules in
    record { value = e; within = λ m n h k. subst (IsWithin (m * n)) (sym e) (bounded_times c.args.k c.args.self.now m n h k) }
