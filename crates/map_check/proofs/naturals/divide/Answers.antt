use Rattle.std.proofs.Common.{◌≡◌, ◌+ℤ◌, ◌*ℤ◌, FitsSigned, ◌∙◌, sym, arith}
use Rattle.std.{specs.Int.w32, specs.Int.w128, proofs.lemmas.Int.to_z-of_z}
use Rattle.integers.proofs.numbers.Division.{euclid_sum}
use Rattle.map_check.proofs.naturals.divide.Goals as goal
use Rattle.map_check.proofs.naturals.divide.Goals.{After-rem_euclid-rest}

-- the number is the rest and the multiple
sum_is : (c : After-rem_euclid-rest) → c.args.z ≡ c.rem_euclid-rest.result +ℤ c.args.m *ℤ c.div_euclid-quotient.result
sum_is c = search (arith, to_z-of_z, euclid_sum)

pub returns-clause-same : goal.returns-clause-same
returns-clause-same c =
    let q : FitsSigned w32 c.div_euclid-quotient.result = record { sfits = c.div_euclid-quotient.type_inv } in
    let r : FitsSigned w32 c.rem_euclid-rest.result = record { sfits = c.rem_euclid-rest.type_inv } in
    let wide_q : FitsSigned w128 c.from.result = record { sfits = c.from.type_inv } in
    let wide_r : FitsSigned w128 c.from-2.result = record { sfits = c.from-2.type_inv } in
    let e = simp to_z-of_z at c.from.ensures in let f = simp to_z-of_z at c.from-2.ensures in
    simp to_z-of_z (sum_is c.before.before ∙ sym (λ i. f i +ℤ c.args.m *ℤ e i))
