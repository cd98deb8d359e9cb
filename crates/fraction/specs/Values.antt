-- The values of fractions, their order, and which fraction has a value.
use Rattle.std.specs.Prelude.{pos, ◌*ℤ◌, Option, MatchOption}
use Rattle.std.specs.Ordering.{int_cmp}
use Rattle.std.specs.declared.cmp.Ordering.{Ordering}
use Rattle.exact.specs.Ratio.{Ratio, Same, ratio}
use Rattle.fraction.specs.Reduced.{IsNarrow}
use Rattle.fraction.specs.declared.numbers.Fraction.{Fraction}

-- the value of a fraction
abbrev pub fraction_value : Fraction → Ratio
fraction_value f = ratio f.num f.den

-- a fraction with the value r, or none if there is none
abbrev pub IsFractionOf : Ratio → Option Fraction → Type 0
IsFractionOf r o = MatchOption o (¬ IsNarrow r) (λ f. Same 0 (fraction_value f) r)

-- the order of two values, by their cross products
abbrev pub value_cmp : Ratio → Ratio → Ordering
value_cmp a b = int_cmp (a.num *ℤ pos b.den) (b.num *ℤ pos a.den)
