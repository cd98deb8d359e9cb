use Rattle.std.proofs.Common.{rules, ◌≡◌, ◌+ℤ◌, arith, to_z, of_z}
use Rattle.std.{specs.Int.w32, proofs.lemmas.Int.ints}
use Rattle.vecdim.proofs.vectors.Shift.plus.Goals as goal

pub invariant_of-result : goal.invariant_of-result
invariant_of-result g c =
    let e : to_z w32 (of_z w32 c.sum_of_shift_parts-3.result) ≡ c.self.inside.z +ℤ c.other.inside.z = search rules in
    λ d. let h = c.self.invariant d in let k = c.other.invariant d in omega (arith, ints, e, h, k)

pub returns : goal.returns
returns g c = search rules
