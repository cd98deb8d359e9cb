-- The laws of fractions as exact numbers.
use Rattle.exact.specs.Ratio.{Ratio, Same, IsDenominator, IsInLowestTerms}
use Rattle.exact.proofs.CallerLemmas.{denominator_cancels, same_refl, same_trans}
use Rattle.fraction.specs.Reduced.{HasSmallParts, IsNarrow}

-- a fraction is the reduced fraction of its value
pub reduced_narrow : (r : Ratio) → IsInLowestTerms r → HasSmallParts r → IsNarrow r
reduced_narrow r h s = record { reduced = r; lowest = h; small = s; same = same_refl r }

-- the same values have the same reduced fraction
pub narrow_same : (a b : Ratio) → IsDenominator 0 a.den → IsDenominator 0 b.den → Same 0 a b → IsNarrow a → IsNarrow b
narrow_same a b h k s n = record {
  reduced = n.reduced;
  lowest = n.lowest;
  small = n.small;
  same = same_trans (denominator_cancels h) n.same s;
}
