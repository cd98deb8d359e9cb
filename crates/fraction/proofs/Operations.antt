-- Which quotients have a reduced fraction of small parts. Lowest terms: dividing by the greatest common divisor gives them. The answer for a quotient is
-- that for its lowest terms. What the operations answer, from the quotients that they reduce.
use Rattle.std.proofs.Common.{◌≡◌, ℕ, arith, ◌*◌, ◌≤◌, ap, sym, refl, subst, ◌∙◌, ◌/◌, ◌≢◌, ℤ, pos, Option, Some, None, suc, ◌+◌, lit<, lit≤}
use Rattle.std.proofs.Math.Nat.{mul_assoc, mul_comm, eq_of_mul-eq-mul_left, one-dvd}
use Rattle.std.specs.Prelude.{Bool, true, false, cond, neg_ℤ, ◌*ℤ◌, ◌-ℤ◌, unsigned_abs, ◌^◌, MatchOption, MatchResult, Result, negsuc, ◌+ℤ◌, FitsSigned}
use Rattle.std.{proofs.lemmas.Int.ints, proofs.lemmas.Nat.Gcd.dvd_refl, specs.Int.IsGcd, specs.Int.w128, specs.Option.ok_or}
use Rattle.integers.proofs.numbers.Ring.{ring, linear, other_factor_zero, positive_not_zero}
use Rattle.integers.proofs.vectors.Bounds.{abs_negative, bounded_product, bounded_sum, bounded_difference, fits_from_bound}
use Rattle.integers.proofs.numbers.Divisors.{lowest_terms}
use Rattle.exact.specs.Ratio.{Ratio, Same, IsInLowestTerms, ratio, HasInverse, ratio_plus, ratio_minus, ratio_times, ratio_over, inverse_of, whole}
use Rattle.exact.proofs.CallerLemmas.{same_of, denominators_equal, numerators_equal, crossed, sizes_crossed}
use Rattle.exact.specs.{Faults.IsWide, Faults.IsOverFault, declared.number.Op.Op, declared.number.Op.TheVariants.Over, declared.number.Wide.Wide}
use Rattle.exact.specs.{declared.number.OverFault.OverFault, declared.number.OverFault.TheVariants.Wide as WideQuotient}
use Rattle.fraction.specs.Reduced.{AreSmall, HasSmallParts, IsNarrow}
use Rattle.fraction.specs.Quotients.{signed_ratio, IsLowest, quotient}
use Rattle.fraction.specs.{Faults.IsFractionFault, declared.numbers.Fraction.Fraction, Values.fraction_value, Values.IsFractionOf}
use Rattle.fraction.specs.{declared.numbers.FractionFault.FractionFault, declared.numbers.FractionFault.TheVariants.TooBig}

-- x - y is a multiple of 0 if x = y
product_step : (x y : ℤ) → x ≡ y → x -ℤ y ≡ pos 0 *ℤ pos 0
product_step x y e = omega (arith, ints, e)

-- equal cross products make equal values
pub same_crossed : (p q : Ratio) → p.num *ℤ pos q.den ≡ q.num *ℤ pos p.den → Same 0 p q
same_crossed p q e = same_of (pos 0, product_step (p.num *ℤ pos q.den) (q.num *ℤ pos p.den) e)

-- n or -n has the absolute value n
signed_size : (s : Bool) (n : ℕ) → unsigned_abs (cond s (neg_ℤ (pos n)) (pos n)) ≡ n
signed_size s n = search (arith, abs_negative)

-- k over l is g·k over g·l
factor_step : (g k l : ℤ) → k *ℤ (g *ℤ l) ≡ (g *ℤ k) *ℤ l
factor_step g k l = simp ring refl

-- the same of -k
negative_step : (g k l : ℤ) → neg_ℤ k *ℤ (g *ℤ l) ≡ neg_ℤ (g *ℤ k) *ℤ l
negative_step g k l = simp ring refl

-- a common factor keeps the value
scaled : (s : Bool) (g k l : ℕ) → Same 0 (signed_ratio s k l) (signed_ratio s (g * k) (g * l))
scaled false g k l = same_crossed (signed_ratio false k l) (signed_ratio false (g * k) (g * l)) (factor_step (pos g) (pos k) (pos l))
scaled true g k l = same_crossed (signed_ratio true k l) (signed_ratio true (g * k) (g * l)) (negative_step (pos g) (pos k) (pos l))

-- lowest terms keep the value
pub lowest_same : (s : Bool) (a b k l : ℕ) → IsLowest a b k l → Same 0 (signed_ratio s k l) (signed_ratio s a b)
lowest_same s a b k l h = subst (λ t. Same 0 (signed_ratio s k l) (signed_ratio s t b)) (sym h.top)
    (subst (λ t. Same 0 (signed_ratio s k l) (signed_ratio s (h.g * k) t)) (sym h.bottom) (scaled s h.g k l))

-- a factor of both sides cancels
cancelled : (g n k l d : ℕ) → 1 ≤ g → n * (g * l) ≡ (g * k) * d → n * l ≡ k * d
cancelled g n k l d h e = eq_of_mul-eq-mul_left g h (n * l) (k * d) (left g n l ∙ e ∙ mul_assoc g k d)
  where
    left : (g n l : ℕ) → g * (n * l) ≡ n * (g * l)
    left g n l = sym (mul_assoc g n l) ∙ ap (λ t. t * l) (mul_comm g n) ∙ mul_assoc n g l

-- only small parts in lowest terms have a reduced fraction
pub narrow_small : (s : Bool) (a b k l : ℕ) → IsLowest a b k l → IsNarrow (signed_ratio s a b) → AreSmall k l
narrow_small s a b k l h n =
    let q = n.reduced in
    let e : unsigned_abs q.num * b ≡ a * q.den = sizes_crossed q.num (signed_ratio s a b).num q.den b (crossed q (signed_ratio s a b) n.same)
    ∙ ap (λ t. t * q.den) (signed_size s a) in
    let f : unsigned_abs q.num * (h.g * l) ≡ (h.g * k) * q.den = subst (λ t. unsigned_abs q.num * t ≡ (h.g * k) * q.den) h.bottom
    (subst (λ t. unsigned_abs q.num * b ≡ t * q.den) h.top e) in
    let c = cancelled h.g (unsigned_abs q.num) k l q.den h.common f in
    let x = numerators_equal (unsigned_abs q.num) q.den k l n.lowest.positive n.lowest.coprime h.coprime c in
    let y = denominators_equal (unsigned_abs q.num) q.den k l n.lowest.coprime h.coprime c in
    subst (λ t. AreSmall k t) y (subst (λ t. AreSmall t q.den) x n.small)

-- small coprime parts are a reduced fraction
coprime_reduced : (s : Bool) (k l : ℕ) → 1 ≤ l → IsGcd k l 1 → IsInLowestTerms (signed_ratio s k l)
coprime_reduced s k l p c = search (arith, signed_size)

-- of small parts
small_parts : (s : Bool) (k l : ℕ) → AreSmall k l → HasSmallParts (signed_ratio s k l)
small_parts s k l m = subst (λ t. AreSmall t l) (sym (signed_size s k)) m

-- a fact of n or -n over l, of a numerator and a denominator with these values
module _ (P : Ratio → Type 0) (s : Bool) (k l : ℕ) (n d : ℤ) (e : n ≡ (signed_ratio s k l).num) (f : d ≡ pos l) where
  of_parts : P (signed_ratio s k l) → P (ratio n d)
  of_parts h = subst (λ t. P (ratio t d)) (sym e) (subst (λ t. P (ratio (signed_ratio s k l).num t)) (sym f) h)

-- and so are a numerator and a denominator with these values
pub fraction_reduced : (s : Bool) (k l : ℕ) (n d : ℤ) → n ≡ (signed_ratio s k l).num → d ≡ pos l → 1 ≤ l → IsGcd k l 1 → IsInLowestTerms (ratio n d)
fraction_reduced s k l n d e f p c = of_parts IsInLowestTerms s k l n d e f (coprime_reduced s k l p c)

pub fraction_small : (s : Bool) (k l : ℕ) (n d : ℤ) → n ≡ (signed_ratio s k l).num → d ≡ pos l → AreSmall k l → HasSmallParts (ratio n d)
fraction_small s k l n d e f m = of_parts HasSmallParts s k l n d e f (small_parts s k l m)

-- the product of a small numerator and a small denominator is at most 2^124
pub cross_small : (p q : Ratio) → HasSmallParts p → HasSmallParts q → unsigned_abs (p.num *ℤ pos q.den) ≤ 2 ^ 124
cross_small p q h k = search (arith, bounded_product)

-- 1 and any number have no common divisor above 1
pub coprime_to_one : (n : ℕ) → IsGcd n 1 1
coprime_to_one n = (one-dvd n, dvd_refl 1, λ d p q. q)

-- a whole number is in lowest terms
pub lowest_whole : (a b : ℕ) → b ≡ 1 → IsLowest a b a b
lowest_whole a b e = record {
  g = 1;
  top = omega arith;
  bottom = omega arith;
  common = omega arith;
  positive = omega arith;
  coprime = subst (λ t. IsGcd a t 1) (sym e) (coprime_to_one a);
}

-- dividing by the greatest common divisor gives lowest terms
pub lowest : (a b g : ℕ) → 1 ≤ b → IsGcd a b g → IsLowest a b (a / g) (b / g)
lowest a b g h c =
    let t = lowest_terms a b g h c in
    record { g = g; top = t.top; bottom = t.bottom; common = t.common; positive = t.positive; coprime = t.coprime }

-- a fraction of the lowest terms has the value, and if there is none the value has none
pub answered : (q : Ratio) (s : Bool) (a b k l : ℕ) (o : Option Fraction) → q ≡ signed_ratio s a b → IsLowest a b k l
    → MatchOption o (¬ AreSmall k l) (λ f. fraction_value f ≡ signed_ratio s k l)
    → IsFractionOf q o
answered q s a b k l None e h m = λ n. m (narrow_small s a b k l h (subst IsNarrow e n))
answered q s a b k l (Some f) e h m = subst (λ t. Same 0 t q) (sym m) (subst (Same 0 (signed_ratio s k l)) (sym e) (lowest_same s a b k l h))

-- a new fraction has the value of the quotient, or there is none
new_by_option : (n d : ℤ) (o : Option Fraction) → d ≢ pos 0 → IsFractionOf (quotient n d) o
    → MatchResult (ok_or o TooBig) (λ f. (d ≢ pos 0) × Same 0 (fraction_value f) (quotient n d)) (IsFractionFault n d)
new_by_option n d o h k = search arith

-- the same, over what the code computes
pub new_or : (n d : ℤ) (o : Option Fraction) (x : Result Fraction FractionFault) → d ≢ pos 0 → x ≡ ok_or o TooBig → IsFractionOf (quotient n d) o
    → MatchResult x (λ f. (d ≢ pos 0) × Same 0 (fraction_value f) (quotient n d)) (IsFractionFault n d)
new_or n d o x z e m = search (arith, new_by_option)

-- a sum as a quotient
pub plus_is : (a b : Ratio) → quotient (a.num *ℤ pos b.den +ℤ b.num *ℤ pos a.den) (pos (a.den * b.den)) ≡ ratio_plus a b
unfolding ratio_plus
plus_is a b = refl

-- a difference as a quotient
pub minus_is : (a b : Ratio) → quotient (a.num *ℤ pos b.den -ℤ b.num *ℤ pos a.den) (pos (a.den * b.den)) ≡ ratio_minus a b
unfolding ratio_minus
minus_is a b = refl

-- a product as a quotient
pub times_is : (a b : Ratio) → quotient (a.num *ℤ b.num) (pos (a.den * b.den)) ≡ ratio_times a b
unfolding ratio_times
times_is a b = refl

-- what an operation answers, if q is its exact result r
pub exact_is : (op : Op) (a b : Fraction) (q r : Ratio) (x : Result Fraction (Wide Fraction)) → q ≡ r
    → MatchResult x (λ f. Same 0 (fraction_value f) q) (IsWide IsNarrow op a b q)
    → MatchResult x (λ f. Same 0 (fraction_value f) r) (IsWide IsNarrow op a b r)
exact_is op a b q r x e = subst (λ t. MatchResult x (λ f. Same 0 (fraction_value f) t) (IsWide IsNarrow op a b t)) e

-- a sum of cross products fits
pub sum_fits : (x y : ℤ) → unsigned_abs x ≤ 2 ^ 124 → unsigned_abs y ≤ 2 ^ 124 → FitsSigned w128 (x +ℤ y)
sum_fits x y h k = fits_from_bound (x +ℤ y) (2 ^ 124 + 2 ^ 124) (lit< tt) (bounded_sum x y (2 ^ 124) (2 ^ 124) h k)

-- and so does a difference
pub difference_fits : (x y : ℤ) → unsigned_abs x ≤ 2 ^ 124 → unsigned_abs y ≤ 2 ^ 124 → FitsSigned w128 (x -ℤ y)
difference_fits x y h k = fits_from_bound (x -ℤ y) (2 ^ 124 + 2 ^ 124) (lit< tt) (bounded_difference x y (2 ^ 124) (2 ^ 124) h k)

-- q·d = n if q is n over d
quotient_crossed : (n d : ℤ) (q : Ratio) → Same 0 q (quotient n d) → q.num *ℤ d ≡ n *ℤ pos q.den
quotient_crossed n (pos d) q s = crossed q (quotient n (pos d)) s
quotient_crossed n (negsuc d) q s = turned q.num (pos (suc d)) n (pos q.den) (crossed q (quotient n (negsuc d)) s)
  where
    turned : (x d n y : ℤ) → x *ℤ d ≡ neg_ℤ n *ℤ y → x *ℤ neg_ℤ d ≡ n *ℤ y
    turned x d n y e = let p = simp ring at e in simp ring (omega (arith, linear, p))

-- and the other way round
crossed_quotient : (n d : ℤ) (q : Ratio) → q.num *ℤ d ≡ n *ℤ pos q.den → Same 0 q (quotient n d)
crossed_quotient n d q h = grind (arith, same_crossed)

-- the quotient of the cross products
abbrev pub crosses : Ratio → Ratio → Ratio
crosses a b = quotient (a.num *ℤ pos b.den) (b.num *ℤ pos a.den)

-- x·b = a over the denominators, if x over y is the quotient
times_step : (x y an ad bn bd : ℤ) → x *ℤ (bn *ℤ ad) ≡ (an *ℤ bd) *ℤ y → (x *ℤ bn) *ℤ ad ≡ an *ℤ (y *ℤ bd)
times_step x y an ad bn bd e = let p = simp ring at e in simp ring (omega (arith, linear, p))

-- the quotient times the divisor is the dividend
over_times : (a b q : Ratio) → Same 0 q (crosses a b) → Same 0 (ratio_times q b) a
unfolding ratio_times
over_times a b q s = same_crossed (ratio_times q b) a (times_step q.num (pos q.den) a.num (pos a.den) b.num (pos b.den)
    (quotient_crossed (a.num *ℤ pos b.den) (b.num *ℤ pos a.den) q s))

-- a quotient by a number that is not negative
over_step : (x y an ad m bd : ℤ) → x *ℤ (ad *ℤ m) ≡ (an *ℤ bd) *ℤ y → x *ℤ (m *ℤ ad) ≡ (an *ℤ bd) *ℤ y
over_step x y an ad m bd e = let p = simp ring at e in simp ring (omega (arith, linear, p))

-- a quotient by a negative number
over_negative : (x y an ad m bd : ℤ) → x *ℤ (ad *ℤ m) ≡ (an *ℤ neg_ℤ bd) *ℤ y → x *ℤ (neg_ℤ m *ℤ ad) ≡ (an *ℤ bd) *ℤ y
over_negative x y an ad m bd e = let p = simp ring at e in simp ring (omega (arith, linear, p))

-- the quotient of two values is that of their cross products
over_crossed : (q a : Ratio) (bn : ℤ) (bd : ℕ) → Same 0 q (ratio_times a (inverse_of bn bd)) → q.num *ℤ (bn *ℤ pos a.den) ≡ (a.num *ℤ pos bd) *ℤ pos q.den
unfolding ratio_times
over_crossed q a (pos m) bd s = over_step q.num (pos q.den) a.num (pos a.den) (pos m) (pos bd) (crossed q (ratio_times a (inverse_of (pos m) bd)) s)
over_crossed q a (negsuc m) bd s = over_negative q.num (pos q.den) a.num (pos a.den) (pos (suc m)) (pos bd)
    (crossed q (ratio_times a (inverse_of (negsuc m) bd)) s)

-- so if the one has a reduced fraction, the other has it
over_narrow : (a b : Ratio) → IsNarrow (ratio_over a b) → IsNarrow (crosses a b)
unfolding ratio_over
over_narrow a b n = search (arith, crossed_quotient, over_crossed)

-- a value other than 0 has an inverse
has_inverse : (b : Ratio) → b.num ≢ pos 0 → HasInverse 0 b
has_inverse b n = record { not_zero = λ e. n; coprime = λ e. absurd (e refl) }

-- a division answers the quotient, or its operands where it does not fit
over_by_option : (a b : Fraction) (o : Option Fraction) → (fraction_value b).num ≢ pos 0
    → IsFractionOf (crosses (fraction_value a) (fraction_value b)) o
    → MatchResult (ok_or o (WideQuotient (record { op = Over; left = a; right = b })))
    (λ f. HasInverse 0 (fraction_value b) × Same 0 (ratio_times (fraction_value f) (fraction_value b)) (fraction_value a))
    (IsOverFault IsNarrow 0 fraction_value a b)
over_by_option a b None z m = record {
  inverse = has_inverse (fraction_value b) z;
  wide =
      record { op = refl; left = refl; right = refl; unfit = λ n. m (over_narrow (fraction_value a) (fraction_value b) n) };
}
over_by_option a b (Some f) z m = (has_inverse (fraction_value b) z, over_times (fraction_value a) (fraction_value b) (fraction_value f) m)

-- the same, over what the code computes
pub over_or : (a b : Fraction) (q : Ratio) (o : Option Fraction) (w : Wide Fraction) (x : Result Fraction (OverFault Fraction))
    → (fraction_value b).num ≢ pos 0 → q ≡ crosses (fraction_value a) (fraction_value b)
    → w ≡ record { op = Over; left = a; right = b } → x ≡ ok_or o (WideQuotient w) → IsFractionOf q o
    → MatchResult x (λ f. HasInverse 0 (fraction_value b) × Same 0 (ratio_times (fraction_value f) (fraction_value b)) (fraction_value a))
    (IsOverFault IsNarrow 0 fraction_value a b)
over_or a b q o w x z e h f m =
    subst (λ y. MatchResult y (λ f. HasInverse 0 (fraction_value b) × Same 0 (ratio_times (fraction_value f) (fraction_value b)) (fraction_value a))
    (IsOverFault IsNarrow 0 fraction_value a b)) (sym (f ∙ ap (λ y. ok_or o (WideQuotient y)) h))
    (over_by_option a b o z (subst (λ t. IsFractionOf t o) e m))

-- the cross product with a denominator is 0 only if the numerator is
pub cross_not_zero : (a b : Ratio) → 1 ≤ b.den → a.num ≢ pos 0 → a.num *ℤ pos b.den ≢ pos 0
cross_not_zero a b h n e = positive_not_zero b.den h (other_factor_zero a.num (pos b.den) e n)

-- a whole number over 1
pub whole_same : (z : ℤ) (r : Ratio) → r.num ≡ z → r.den ≡ 1 → Same 0 r (whole z)
whole_same z r e f = same_crossed r (whole z) (λ i. e i *ℤ pos (sym f i))

-- a whole number is in lowest terms
pub whole_reduced : (z : ℤ) → IsInLowestTerms (ratio z (pos 1))
whole_reduced z = record { positive = lit≤ tt; coprime = coprime_to_one (unsigned_abs z) }

-- and one of 32 bits has small parts
pub whole_small : (z : ℤ) → unsigned_abs z ≤ 2 ^ 31 → HasSmallParts (ratio z (pos 1))
whole_small z h = (omega arith, lit≤ tt)
