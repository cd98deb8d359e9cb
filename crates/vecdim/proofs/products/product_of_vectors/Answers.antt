use Rattle.std.proofs.Common.{◌^◌, ◌∙◌, FitsSigned, subst, sym, arith}
use Rattle.std.{specs.Int.w128, proofs.lemmas.Int.to_z-of_z}
use Rattle.integers.{specs.Vectors.triple_product, specs.Vectors.IsWithin, proofs.vectors.Bounds.wider}
use Rattle.vecdim.proofs.products.product_of_vectors.Goals as goal

pub product_of_three-requires : goal.product_of_three-requires
product_of_three-requires g c = record {
  a = wider (2 ^ 40) (2 ^ 41) (omega arith) c.to_triple.result (subst (IsWithin (2 ^ 40)) (sym c.to_triple.ensures.value) c.requires.a);
  b = wider (2 ^ 40) (2 ^ 41) (omega arith) c.to_triple-2.result (subst (IsWithin (2 ^ 40)) (sym c.to_triple-2.ensures.value) c.requires.b);
  c = wider (2 ^ 40) (2 ^ 41) (omega arith) c.to_triple-3.result (subst (IsWithin (2 ^ 40)) (sym c.to_triple-3.ensures.value) c.requires.c);
}

pub returns : goal.returns
returns g c =
    let r : FitsSigned w128 c.product_of_three.result = record { sfits = c.product_of_three.type_inv } in
    simp to_z-of_z
    (c.product_of_three.ensures.value ∙ (λ i. triple_product (c.to_triple.ensures.value i) (c.to_triple-2.ensures.value i) (c.to_triple-3.ensures.value i)))
