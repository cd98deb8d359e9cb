use Rattle.std.proofs.Common.{◌≡◌, ◌≤◌, ◌*◌, ◌^◌, pos, ◌+ℤ◌, ◌*ℤ◌, FitsSigned, unsigned_abs, ap, arith, subst, sym}
use Rattle.std.{proofs.Math.Nat.mul-le-mul, proofs.lemmas.Int.fits_signed_from_abs, proofs.lemmas.Int.to_z-of_z, specs.Int.w64}
use Rattle.integers.proofs.vectors.Bounds.{bounded_product, bounded_sum}
use Rattle.coordination.proofs.net_box.weighed.Goals as goal

pub returns : goal.returns
returns c =
    let a = c.args.part in let i = c.args.inner in let w = c.args.width in let d = c.from.result in
    let same : d ≡ pos w = c.from.ensures in
    let few : unsigned_abs d ≤ w = subst (λ z. unsigned_abs z ≤ w) (sym same) (omega arith) in
    let product = bounded_product d i w (unsigned_abs i) few (omega arith) in
    let sum = bounded_sum a (d *ℤ i) (unsigned_abs a) (w * unsigned_abs i) (omega arith) product in
    let limit : w * unsigned_abs i ≤ 20001 * 2 ^ 46 = mul-le-mul c.requires.width c.requires.inner in
    let fits_a : FitsSigned w64 a = c.ranges.part in let fits_i : FitsSigned w64 i = c.ranges.inner in
    let fits_d : FitsSigned w64 d = record { sfits = c.from.type_inv } in
    let fits_product : FitsSigned w64 (d *ℤ i) = fits_signed_from_abs w64 (d *ℤ i) (omega (arith, product, limit)) in
    let fits_sum : FitsSigned w64 (a +ℤ d *ℤ i) = fits_signed_from_abs w64 (a +ℤ d *ℤ i) (omega (arith, sum, limit, c.requires.part)) in
    record { value = simp to_z-of_z (ap (λ z. a +ℤ z *ℤ i) same); bound = simp to_z-of_z sum }
