-- `Same` is an equivalence that sums and products respect. Each value has one fraction in lowest terms.
use Rattle.std.proofs.Common.{◌≡◌, ℕ, suc, arith, ap, ◌∙◌, ◌*◌, sym, ◌≢◌, ◌≤◌, refl, subst}
use Rattle.std.specs.Prelude.{ℤ, pos, negsuc, neg_ℤ, ◌*ℤ◌, ◌-ℤ◌, unsigned_abs, ◌+ℤ◌, ◌&&◌, ◌<ℤ◌}
use Rattle.std.proofs.Math.Nat.{mul_comm, eq_of_mul-eq-mul_left, ∣_prop}
use Rattle.std.proofs.lemmas.Bool.Decides.{Decides-and, Decides-int_eq, Decides-like}
use Rattle.std.proofs.{lemmas.Int.unsigned_abs-mul, lemmas.Int.ints, Props.props, lemmas.Nat.Gcd.dvd_antisymm, lemmas.Nat.Gcd.IsGcd-swap}
use Rattle.std.specs.{Int.◌∣◌, Int.IsGcd, Bool.Decides, Ordering.int_eq}
use Rattle.integers.proofs.numbers.Ring.{ring, linear, product_associative, cancel_factor, positive_not_zero}
use Rattle.integers.proofs.numbers.Divisors.{quotient_of, divides_multiple, euclid}
use Rattle.integers.specs.Divisors.{DividesInteger}
use Rattle.exact.specs.Ratio.{Ratio, Same, ratio_plus, ratio_times, whole, IsDenominator, IsInLowestTerms, ratio}
use Rattle.exact.specs.Values.{CanCancel}

-- it is if m divides its absolute value
whole_multiple : (m : ℕ) (z : ℤ) → m ∣ unsigned_abs z → DividesInteger m z
whole_multiple m (pos n) d = let q = quotient_of m n d in (pos q.0, ap pos q.1)
whole_multiple m (negsuc n) d = let q = quotient_of m (suc n) d in (neg_ℤ (pos q.0), ap (λ t. neg_ℤ (pos t)) q.1 ∙ opposite (pos m) (pos q.0))
  where
    opposite : (m k : ℤ) → neg_ℤ (m *ℤ k) ≡ m *ℤ neg_ℤ k
    opposite m k = simp ring (omega (arith, linear))

-- and only there
divides_whole : (m : ℕ) (z : ℤ) → DividesInteger m z → m ∣ unsigned_abs z
divides_whole m z h = divides_multiple m (unsigned_abs z) (unsigned_abs h.0, ap unsigned_abs h.1 ∙ unsigned_abs-mul (pos m) h.0)

-- two values are the same if their difference is a multiple
pub same_of : {m : ℕ} {a b : Ratio} → DividesInteger m (a.num *ℤ pos b.den -ℤ b.num *ℤ pos a.den) → Same m a b
same_of {m} {a} {b} h = record { difference = divides_whole m (a.num *ℤ pos b.den -ℤ b.num *ℤ pos a.den) h }

pub difference_multiple : {m : ℕ} {a b : Ratio} → Same m a b → DividesInteger m (a.num *ℤ pos b.den -ℤ b.num *ℤ pos a.den)
difference_multiple {m} {a} {b} s = whole_multiple m (a.num *ℤ pos b.den -ℤ b.num *ℤ pos a.den) s.difference

-- z can be cancelled if each multiple z·x is of a multiple x
pub cancels_of : {m : ℕ} {z : ℤ} → ((x : ℤ) → DividesInteger m (z *ℤ x) → DividesInteger m x) → CanCancel m z
cancels_of {m} {z} f = record { cancels = λ x d. divides_whole m x (f x (whole_multiple m (z *ℤ x) d)) }

pub cancel : {m : ℕ} {z : ℤ} → CanCancel m z → (x : ℤ) → DividesInteger m (z *ℤ x) → DividesInteger m x
cancel {m} {z} h x d = whole_multiple m x (h.cancels x (divides_whole m (z *ℤ x) d))

pub same_refl : {m : ℕ} (a : Ratio) → Same m a a
same_refl a = same_of (pos 0, omega (arith, ints))

flip : (m a b k : ℤ) → a -ℤ b ≡ m *ℤ k → b -ℤ a ≡ m *ℤ neg_ℤ k
flip m a b k e = simp ring (omega (arith, linear))

pub same_sym : {m : ℕ} {a b : Ratio} → Same m a b → Same m b a
same_sym {m} {a} {b} s = let h = difference_multiple s in same_of (neg_ℤ h.0, flip (pos m) (a.num *ℤ pos b.den) (b.num *ℤ pos a.den) h.0 h.1)

plus_step : (m an ad bn bd an' ad' bn' bd' k l : ℤ) → an *ℤ ad' -ℤ an' *ℤ ad ≡ m *ℤ k → bn *ℤ bd' -ℤ bn' *ℤ bd ≡ m *ℤ l
    → (an *ℤ bd +ℤ bn *ℤ ad) *ℤ (ad' *ℤ bd') -ℤ (an' *ℤ bd' +ℤ bn' *ℤ ad') *ℤ (ad *ℤ bd) ≡ m *ℤ (k *ℤ (bd *ℤ bd') +ℤ l *ℤ (ad *ℤ ad'))
plus_step m an ad bn bd an' ad' bn' bd' k l e f =
    let p = ap (λ t. t *ℤ (bd *ℤ bd')) e in let q = ap (λ t. t *ℤ (ad *ℤ ad')) f in
    simp ring (omega (arith, linear, simp ring at p, simp ring at q))

pub plus_same : {m : ℕ} {a a' b b' : Ratio} → Same m a a' → Same m b b' → Same m (ratio_plus a b) (ratio_plus a' b')
unfolding ratio_plus
plus_same {m} {a} {a'} {b} {b'} s t = let h = difference_multiple s in let i = difference_multiple t in
    same_of (
      h.0 *ℤ (pos b.den *ℤ pos b'.den) +ℤ i.0 *ℤ (pos a.den *ℤ pos a'.den),
      plus_step (pos m) a.num (pos a.den) b.num (pos b.den) a'.num
          (pos a'.den) b'.num (pos b'.den) h.0 i.0 h.1 i.1,
    )

times_step : (m an ad bn bd an' ad' bn' bd' k l : ℤ) → an *ℤ ad' -ℤ an' *ℤ ad ≡ m *ℤ k → bn *ℤ bd' -ℤ bn' *ℤ bd ≡ m *ℤ l
    → (an *ℤ bn) *ℤ (ad' *ℤ bd') -ℤ (an' *ℤ bn') *ℤ (ad *ℤ bd) ≡ m *ℤ (k *ℤ (bn *ℤ bd') +ℤ l *ℤ (an' *ℤ ad))
times_step m an ad bn bd an' ad' bn' bd' k l e f =
    let p = ap (λ t. t *ℤ (bn *ℤ bd')) e in let q = ap (λ t. t *ℤ (an' *ℤ ad)) f in
    simp ring (omega (arith, linear, simp ring at p, simp ring at q))

pub times_same : {m : ℕ} {a a' b b' : Ratio} → Same m a a' → Same m b b' → Same m (ratio_times a b) (ratio_times a' b')
unfolding ratio_times
times_same {m} {a} {a'} {b} {b'} s t = let h = difference_multiple s in let i = difference_multiple t in
    same_of (
      h.0 *ℤ (b.num *ℤ pos b'.den) +ℤ i.0 *ℤ (a'.num *ℤ pos a.den),
      times_step (pos m) a.num (pos a.den) b.num (pos b.den) a'.num (pos a'.den) b'.num
          (pos b'.den) h.0 i.0 h.1 i.1,
    )

trans_step : (m an ad bn bd cn cd k l : ℤ) → an *ℤ bd -ℤ bn *ℤ ad ≡ m *ℤ k → bn *ℤ cd -ℤ cn *ℤ bd ≡ m *ℤ l
    → bd *ℤ (an *ℤ cd -ℤ cn *ℤ ad) ≡ m *ℤ (k *ℤ cd +ℤ l *ℤ ad)
trans_step m an ad bn bd cn cd k l e f =
    let p = ap (λ t. t *ℤ cd) e in let q = ap (λ t. t *ℤ ad) f in
    simp ring (omega (arith, linear, simp ring at p, simp ring at q))

pub product_cancels : {m d e : ℕ} → CanCancel m (pos d) → CanCancel m (pos e) → CanCancel m (pos (d * e))
product_cancels {m} {d} {e} h i = cancels_of (λ z k. cancel i z (cancel h (pos e *ℤ z) (k.0, sym (product_associative (pos d) (pos e) z) ∙ k.1)))

pub plus_cancels : {m : ℕ} (a b : Ratio) → CanCancel m (pos a.den) → CanCancel m (pos b.den) → CanCancel m (pos (ratio_plus a b).den)
unfolding ratio_plus
plus_cancels a b h i = product_cancels h i

pub times_cancels : {m : ℕ} (a b : Ratio) → CanCancel m (pos a.den) → CanCancel m (pos b.den) → CanCancel m (pos (ratio_times a b).den)
unfolding ratio_times
times_cancels a b h i = product_cancels h i

pub one_cancels : {m : ℕ} → CanCancel m (pos 1)
one_cancels = search (arith, cancels_of)

pub same_trans : {m : ℕ} {a b c : Ratio} → CanCancel m (pos b.den) → Same m a b → Same m b c → Same m a c
same_trans {m} {a} {b} {c} d s t = let h = difference_multiple s in let i = difference_multiple t in
    same_of (cancel d _ (h.0 *ℤ pos c.den +ℤ i.0 *ℤ pos a.den, trans_step (pos m) a.num (pos a.den) b.num (pos b.den) c.num (pos c.den) h.0 i.0 h.1 i.1))

-- equal by their parts, up to a common factor
formal_step : (m x y d e : ℤ) → x *ℤ e ≡ y *ℤ d → x *ℤ e -ℤ y *ℤ d ≡ m *ℤ pos 0
formal_step m x y d e h = simp ring (omega (arith, linear))

pub plus_zero : {m : ℕ} (a : Ratio) → Same m (ratio_plus a (whole (pos 0))) a
unfolding ratio_plus
plus_zero {m} a = same_of (
  pos 0,
  formal_step (pos m) (a.num *ℤ pos 1 +ℤ pos 0 *ℤ pos a.den) a.num (pos a.den *ℤ pos 1) (pos a.den)
      (simp ring (omega (arith, linear))),
)

zero_times_step : (m ln ld rn rd k : ℤ) → ln *ℤ pos 1 -ℤ pos 0 *ℤ ld ≡ m *ℤ k → (ln *ℤ rn) *ℤ pos 1 -ℤ pos 0 *ℤ (ld *ℤ rd) ≡ m *ℤ (k *ℤ rn)
zero_times_step m ln ld rn rd k e =
    let p = ap (λ t. t *ℤ rn) e in simp ring (omega (arith, linear, simp ring at p))

pub zero_times : {m : ℕ} {l : Ratio} (r : Ratio) → Same m l (whole (pos 0)) → Same m (ratio_times l r) (whole (pos 0))
unfolding ratio_times
zero_times {m} {l} r s = let h = difference_multiple s in same_of (h.0 *ℤ r.num, zero_times_step (pos m) l.num (pos l.den) r.num (pos r.den) h.0 h.1)

times_zero_step : (m ln ld rn rd k : ℤ) → rn *ℤ pos 1 -ℤ pos 0 *ℤ rd ≡ m *ℤ k → (ln *ℤ rn) *ℤ pos 1 -ℤ pos 0 *ℤ (ld *ℤ rd) ≡ m *ℤ (k *ℤ ln)
times_zero_step m ln ld rn rd k e =
    let p = ap (λ t. t *ℤ ln) e in simp ring (omega (arith, linear, simp ring at p))

pub times_zero : {m : ℕ} (l : Ratio) {r : Ratio} → Same m r (whole (pos 0)) → Same m (ratio_times l r) (whole (pos 0))
unfolding ratio_times
times_zero {m} l {r} s = let h = difference_multiple s in same_of (h.0 *ℤ l.num, times_zero_step (pos m) l.num (pos l.den) r.num (pos r.den) h.0 h.1)

-- a fraction is in lowest terms in one way
pub lowest_terms-prop : (r : Ratio) → IsProp (IsInLowestTerms r)
lowest_terms-prop r = hlevel (props, ∣_prop)

-- the modulus of fractions is not 1
pub zero_not_one : ◌≢◌ {A = ℕ} 0 1
zero_not_one e = omega arith

-- the denominator of a fraction in lowest terms is one modulo 0
pub lowest_denominator : (r : Ratio) → IsInLowestTerms r → IsDenominator 0 r.den
lowest_denominator r h = record { positive = h.positive; coprime = λ n. absurd (n refl) }

-- by Euclid's lemma b divides d if a/b = c/d and a/b is in lowest terms
denominator_divides : (a b c d : ℕ) → IsGcd a b 1 → a * d ≡ c * b → b ∣ d
denominator_divides a b c d h e =
    euclid b a d (IsGcd-swap a b 1 h) (divides_multiple b (a * d) (c, e ∙ mul_comm c b))

-- equal quotients in lowest terms have equal denominators
pub denominators_equal : (a b c d : ℕ) → IsGcd a b 1 → IsGcd c d 1 → a * d ≡ c * b → b ≡ d
denominators_equal a b c d h k e =
    dvd_antisymm (denominator_divides a b c d h e) (denominator_divides c d a b k (sym e))

-- and equal numerators
pub numerators_equal : (a b c d : ℕ) → 1 ≤ b → IsGcd a b 1 → IsGcd c d 1 → a * d ≡ c * b → a ≡ c
numerators_equal a b c d l h k e =
    eq_of_mul-eq-mul_left b l a c (mul_comm b a ∙ ap (λ t. a * t) (denominators_equal a b c d h k e) ∙ e ∙ mul_comm c b)

-- x = y if x - y is a multiple of 0
difference_step : (x y k : ℤ) → x -ℤ y ≡ pos 0 *ℤ k → x ≡ y
difference_step x y k e = let p = simp ring at e in omega (arith, linear, p)

-- equal values have equal cross products
pub crossed : (p q : Ratio) → Same 0 p q → p.num *ℤ pos q.den ≡ q.num *ℤ pos p.den
crossed p q s = search (arith, difference_step, difference_multiple)

-- equal cross products have equal absolute values
pub sizes_crossed : (x y : ℤ) (a b : ℕ) → x *ℤ pos b ≡ y *ℤ pos a → unsigned_abs x * b ≡ unsigned_abs y * a
sizes_crossed x y a b e = sym (unsigned_abs-mul x (pos b)) ∙ ap unsigned_abs e ∙ unsigned_abs-mul y (pos a)

-- fractions in lowest terms of one value have equal denominators
pub same_denominator : (p q : Ratio) → IsInLowestTerms p → IsInLowestTerms q → Same 0 p q → p.den ≡ q.den
same_denominator p q h k s =
    denominators_equal (unsigned_abs p.num) p.den (unsigned_abs q.num) q.den h.coprime k.coprime
    (sizes_crossed p.num q.num p.den q.den (crossed p q s))

-- and equal numerators
pub same_numerator : (p q : Ratio) → IsInLowestTerms p → IsInLowestTerms q → Same 0 p q → p.num ≡ q.num
same_numerator p q h k s =
    cancel_factor (pos p.den) p.num q.num (positive_not_zero p.den h.positive)
    (turned p.num (pos p.den) ∙ ap (λ t. p.num *ℤ pos t) (same_denominator p q h k s) ∙ crossed p q s ∙ sym (turned q.num (pos p.den)))
  where
    turned : (x y : ℤ) → y *ℤ x ≡ x *ℤ y
    turned x y = simp ring refl

-- positive numbers of one size are equal
positive_equal : (d e : ℤ) → pos 0 <ℤ d → pos 0 <ℤ e → unsigned_abs d ≡ unsigned_abs e → d ≡ e
positive_equal d e h k s = omega (arith, ints)

-- fractions in lowest terms are equal if and only if their values are the same
pub equal_decides : (n d m e : ℤ) → pos 0 <ℤ d → pos 0 <ℤ e → IsInLowestTerms (ratio n d) → IsInLowestTerms (ratio m e)
    → Decides (int_eq n m && int_eq d e) (Same 0 (ratio n d) (ratio m e))
equal_decides n d m e p q h k =
    Decides-like (int_eq n m && int_eq d e)
    (λ (w : (n ≡ m) × (d ≡ e)). subst (λ t. Same 0 (ratio n d) (ratio t e)) w.0 (subst (λ t. Same 0 (ratio n d) (ratio n t)) w.1 (same_refl (ratio n d))))
    (λ s. (same_numerator (ratio n d) (ratio m e) h k s, positive_equal d e p q (same_denominator (ratio n d) (ratio m e) h k s)))
    (Decides-and (int_eq n m) (int_eq d e) (Decides-int_eq n m) (Decides-int_eq d e))
