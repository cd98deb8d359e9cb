-- What the faults of sums, differences, products and quotients say.
use Rattle.std.specs.Prelude.{◌≡◌, ℕ}
use Rattle.exact.specs.Ratio.{Ratio, HasInverse, ratio_over}
use Rattle.exact.specs.declared.number.Op.{Op}
use Rattle.exact.specs.declared.number.Op.TheVariants.{Over}
use Rattle.exact.specs.declared.number.Wide.{Wide}
use Rattle.exact.specs.declared.number.OverFault.{OverFault}
use Rattle.exact.specs.declared.number.OverFault.TheVariants.{NoInverse}
use Rattle.exact.specs.declared.number.OverFault.TheVariants.{Wide as WideQuotient}

module _ {N : Type 0} (fits : Ratio → Type 0) where
  -- the exact result does not fit, and the operands are kept
  pub record IsWide (operation : Op) (a b : N) (exact : Ratio) (w : Wide N) : Type 0 where
    pub op : w.op ≡ operation
    pub left : w.left ≡ a
    pub right : w.right ≡ b
    pub unfit : ¬ fits exact

  module _ (m : ℕ) (value : N → Ratio) (a b : N) where
    -- the divisor has an inverse, and the quotient does not fit
    pub record IsWideQuotient (w : Wide N) : Type 0 where
      pub inverse : HasInverse m (value b)
      pub wide : IsWide Over a b (ratio_over (value a) (value b)) w

    -- the divisor has no inverse, and is kept
    pub record LacksInverse (d : N) : Type 0 where
      pub divisor : d ≡ b
      pub none : ¬ HasInverse m (value b)

    abbrev pub IsOverFault : OverFault N → Type 0
    IsOverFault (WideQuotient w) = IsWideQuotient w
    IsOverFault (NoInverse d) = LacksInverse d
