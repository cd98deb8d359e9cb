use Rattle.std.proofs.Common.{◌≡◌, ◌≤◌, ◌*◌, ◌^◌, ◌∙◌, ℤ, FitsSigned, unsigned_abs, subst, sym, arith}
use Rattle.std.{proofs.lemmas.Int.to_z-of_z, specs.Int.w128}
use Rattle.integers.specs.Vectors.{dot, triple_product}
use Rattle.integers.proofs.vectors.{Bounds.bounded_triple, Bounds.wider, Laws.dot_cross}
use Rattle.vecdim.proofs.products.product_of_three.Goals as goal

pub dot-requires-clause-left : goal.dot-requires-clause-left
dot-requires-clause-left c =
    wider (2 * (2 ^ 41 * 2 ^ 41)) (2 ^ 84) (omega arith) c.cross.result (c.cross.ensures.within (2 ^ 41) (2 ^ 41) c.requires.b c.requires.c)

-- the product that the code finds is the triple product
is_product : (c : goal.After-dot) → c.dot.result ≡ triple_product c.args.a.now c.args.b.now c.args.c.now
is_product c = c.dot.ensures.value ∙ (λ i. dot (c.cross.ensures.value i) c.args.a.now) ∙ dot_cross c.args.a.now c.args.b.now c.args.c.now

pub returns-clause-value : goal.returns-clause-value
returns-clause-value c =
    let r : FitsSigned w128 c.dot.result = record { sfits = c.dot.type_inv } in simp to_z-of_z (is_product c)

pub returns-clause-within : goal.returns-clause-within
returns-clause-within c =
    let e = returns-clause-value c in
    λ l m n h k j.
    subst (λ (t : ℤ). unsigned_abs t ≤ 3 * (l * (2 * (m * n)))) (sym e) (bounded_triple c.args.a.now c.args.b.now c.args.c.now l m n h k j)
