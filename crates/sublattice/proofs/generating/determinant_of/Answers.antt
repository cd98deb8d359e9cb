use Rattle.std.proofs.Common.{◌≡◌, ◌⊎◌, ◌^◌, ◌<◌, ◌∙◌, ℕ, FitsSigned, sym, subst, arith}
use Rattle.std.{proofs.lemmas.Int.to_z-of_z, proofs.lemmas.List.get_or_default, specs.Int.w128}
use Rattle.integers.specs.Vectors.{IsWithin}
use Rattle.sublattice.proofs.generating.determinant_of.Goals as goal

-- the dimension is past 1
past_one : (d n : ℕ) → (d ≡ 2) ⊎ (d ≡ 3) → n ≡ d → 1 < n
past_one d n h k = omega arith

-- and past 0
past_zero : (n : ℕ) → 1 < n → 0 < n
past_zero n h = omega (arith, h)

pub returns-clause-value : goal.returns-clause-value
returns-clause-value g c = grind (arith, past_one, get_or_default, past_zero, to_z-of_z)

pub returns-clause-within : goal.returns-clause-within
returns-clause-within g c =
    let r : FitsSigned w128 c.product_of_three.result = record { sfits = c.product_of_three.type_inv } in
    let rows = c.args.rows.now in let one = past_one g.row.D _ c.requires.dimension c.requires.count in
    let a = subst (IsWithin (2 ^ 40)) (sym (c.to_triple.ensures.value ∙ c.index-rows-0.is)) (c.requires.small 0 c.index-rows-0.result (past_zero _ one)) in
    let b = subst (IsWithin (2 ^ 40)) (sym (c.to_triple-2.ensures.value ∙ c.index-rows-1.is)) (c.requires.small 1 c.index-rows-1.result one) in
    let w = c.product_of_three.ensures.within (2 ^ 40) (2 ^ 40) (2 ^ 40) a b c.last_row-last.ensures.small in
    simp to_z-of_z (omega (arith, w))
