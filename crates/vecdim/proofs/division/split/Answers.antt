use Rattle.std.proofs.Common.{◌≡◌, ◌+ℤ◌, ◌*ℤ◌, FitsSigned, ◌∙◌, arith}
use Rattle.std.{specs.Int.w128, specs.Int.int_rem_euclid, proofs.lemmas.Int.to_z-of_z}
use Rattle.integers.proofs.numbers.Division.{euclid_sum, euclid_rest, quotient_within}
use Rattle.vecdim.proofs.division.split.Goals as goal

-- the number is the rest and the multiple
sum_is : (c : goal.After-rem_euclid-rest) → c.args.z ≡ c.rem_euclid-rest.result +ℤ c.args.m *ℤ c.div_euclid-quotient.result
sum_is c = search (arith, to_z-of_z, euclid_sum)

pub returns-clause-same : goal.returns-clause-same
returns-clause-same c =
    let q : FitsSigned w128 c.div_euclid-quotient.result = record { sfits = c.div_euclid-quotient.type_inv } in
    let r : FitsSigned w128 c.rem_euclid-rest.result = record { sfits = c.rem_euclid-rest.type_inv } in
    simp to_z-of_z (sum_is c)

pub returns-clause-within : goal.returns-clause-within
returns-clause-within c =
    let rz = c.ranges.z in let rm = c.ranges.m in
    let q : FitsSigned w128 c.div_euclid-quotient.result = record { sfits = c.div_euclid-quotient.type_inv } in
    let r = c.rem_euclid-rest.ensures.value in let f = simp to_z-of_z at r in
    let b = euclid_rest c.args.z c.args.m c.requires in
    simp to_z-of_z
    (λ n h.
    quotient_within c.args.z c.args.m (int_rem_euclid c.args.z c.args.m) c.div_euclid-quotient.result n b.0 b.1
    (sum_is c ∙ (λ i. f i +ℤ c.args.m *ℤ c.div_euclid-quotient.result)) h)
