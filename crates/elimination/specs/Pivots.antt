-- Weight sums to divide by.
use Rattle.std.specs.Prelude.{ℕ, IfSome}
use Rattle.exact.specs.Ratio.{Ratio, IsInverseOf}
use Rattle.exact.specs.Values.{HasValue}
use Rattle.elimination.specs.declared.terms.Pivot.{Pivot}

-- the weight sum has the value b; and if there is an inverse, it is that of the weight sum, and all values fit
pub record IsWeightSumOf {N : Type 0} (m : ℕ) (value : N → Ratio) (fits : Ratio → Type 0) (p : Pivot N) (b : Ratio) : Type 0 where
  pub sum : HasValue m (value p.sum) b
  pub inverse : IfSome p.reciprocal (λ r. IsInverseOf m (value p.sum) (value r))
  pub fit : IfSome p.reciprocal (λ r. (a : Ratio) → fits a)
