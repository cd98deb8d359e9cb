-- The values modulo m are a commutative semiring, in which equal values are one, and fractions are such values.
use Rattle.std.proofs.Common.{◌≡◌, ℕ, ap, sym, refl, ◌∙◌, arith}
use Rattle.std.specs.Prelude.{ℤ, pos, ◌+ℤ◌, ◌*ℤ◌, neg_ℤ, negsuc}
use mathlib.Core.{Quot.Quotient, Quot.Setoid, Logic.∥∥₁_prop, Logic.∥∥₁_elim, Logic.∥∥₁_map}
use Rattle.exact.specs.Ratio.{Ratio, Same, ratio_plus, ratio_times, whole, HasInverse, inverse_of}
use Rattle.exact.proofs.Values.{same_refl, same_sym, same_trans, plus_same, times_same, product_cancels, one_cancels, same_of, times_cancels}
use Rattle.exact.{specs.Values.CanCancel, proofs.Quotients.inverse_denominator_cancels}
use Rattle.integers.proofs.numbers.Ring.{ring, linear}
use mathlib.Core.Quot.Quotient
use mathlib.Core.Quot

pub record Semiring : Type 1 where
  pub Carrier : Type 0
  pub plus : Carrier → Carrier → Carrier
  pub times : Carrier → Carrier → Carrier
  pub nought : Carrier
  pub plus_comm : (a b : Carrier) → plus a b ≡ plus b a
  pub plus_assoc : (a b c : Carrier) → plus (plus a b) c ≡ plus a (plus b c)
  pub plus_nought : (a : Carrier) → plus a nought ≡ a
  pub times_comm : (a b : Carrier) → times a b ≡ times b a
  pub times_assoc : (a b c : Carrier) → times (times a b) c ≡ times a (times b c)
  pub times_plus : (a b c : Carrier) → times a (plus b c) ≡ plus (times a b) (times a c)
  pub times_nought : (a : Carrier) → times a nought ≡ nought
  pub plus_cancel : (a b c : Carrier) → plus a c ≡ plus b c → a ≡ b

-- c divides every value, and can be cancelled
pub record IsInvertible (S : Semiring) (c : S.Carrier) : Type 0 where
  pub over : S.Carrier → S.Carrier
  pub divides : (x : S.Carrier) → S.times (over x) c ≡ x
  pub cancels : (x y : S.Carrier) → S.times c x ≡ S.times c y → x ≡ y

module _ (m : ℕ) where
  pub record Exact : Type 0 where
    pub ratio : Ratio
    pub denominator : CanCancel m (pos ratio.den)

  unfoldable pub same : Exact → Exact → Type 0
  same a b = ∥ Same m a.ratio b.ratio ∥₁

  abbrev pub by_value : Setoid {0, 0} Exact
  unfolding same
  by_value = record {
    r = same;
    iseqv = record {
      refl = λ a. ∣ same_refl a.ratio ∣₁;
      symm = λ a b s. ∥∥₁_map s same_sym;
      trans = λ a b c s t. ∥∥₁_elim s ∥∥₁_prop (λ s. ∥∥₁_map t (λ t. same_trans b.denominator s t));
    };
  }

  abbrev pub Value : Type 0
  Value = Quotient by_value

  pub value-set : IsSet Value
  value-set = Quot.Quot-set

  unfoldable pub plus_exact : Exact → Exact → Exact
  unfolding ratio_plus
  plus_exact a b = record { ratio = ratio_plus a.ratio b.ratio; denominator = product_cancels a.denominator b.denominator }

  unfoldable pub times_exact : Exact → Exact → Exact
  unfolding ratio_times
  times_exact a b = record { ratio = ratio_times a.ratio b.ratio; denominator = product_cancels a.denominator b.denominator }

  -- an operation that gives equal results of equal numbers, as one on values
  abbrev pub lifted : (f : Exact → Exact → Exact) → ((a b a' b' : Exact) → same a a' → same b b' → same (f a b) (f a' b')) → Value → Value → Value
  unfolding same
  lifted f keeps = Quotient.lift₂ by_value by_value value-set (λ a b. Quotient.mk by_value (f a b))
      (λ a b a' b' s t. Quotient.sound by_value (keeps a b a' b' s t))

  -- it commutes where the one on numbers does
  lifted_comm : (f : Exact → Exact → Exact) (keeps : (a b a' b' : Exact) → same a a' → same b b' → same (f a b) (f a' b'))
      → ((a b : Exact) → same (f a b) (f b a))
      → (x y : Value) → lifted f keeps x y ≡ lifted f keeps y x
  unfolding same Quotient.lift₂
  lifted_comm f keeps turned = Quotient.ind₂ by_value by_value (λ q r. value-set (lifted f keeps q r) (lifted f keeps r q))
      (λ a b. Quotient.sound by_value (turned a b))

  -- and is associative if that one is
  lifted_assoc : (f : Exact → Exact → Exact) (keeps : (a b a' b' : Exact) → same a a' → same b b' → same (f a b) (f a' b'))
      → ((a b c : Exact) → same (f (f a b) c) (f a (f b c)))
      → (x y z : Value) → lifted f keeps (lifted f keeps x y) z ≡ lifted f keeps x (lifted f keeps y z)
  unfolding same Quotient.lift₂
  lifted_assoc f keeps grouped x y z =
      Quotient.induction_on₃ by_value by_value by_value (λ q r s. value-set (lifted f keeps (lifted f keeps q r) s) (lifted f keeps q (lifted f keeps r s))) x
      y z
      (λ a b c. Quotient.sound by_value (grouped a b c))

  -- equal numbers have equal sums
  pub plus_keeps : (a b a' b' : Exact) → same a a' → same b b' → same (plus_exact a b) (plus_exact a' b')
  unfolding same plus_exact
  plus_keeps a b a' b' s t = ∥∥₁_elim s ∥∥₁_prop (λ s. ∥∥₁_map t (λ t. plus_same s t))

  unfoldable pub plus_value : Value → Value → Value
  plus_value = lifted plus_exact plus_keeps

  -- and equal products
  pub times_keeps : (a b a' b' : Exact) → same a a' → same b b' → same (times_exact a b) (times_exact a' b')
  unfolding same times_exact
  times_keeps a b a' b' s t = ∥∥₁_elim s ∥∥₁_prop (λ s. ∥∥₁_map t (λ t. times_same s t))

  unfoldable pub times_value : Value → Value → Value
  times_value = lifted times_exact times_keeps

  unfoldable pub class : (r : Ratio) → CanCancel m (pos r.den) → Value
  class r h = Quotient.mk by_value (record { ratio = r; denominator = h })

  pub formal : (x y d e : ℤ) (a b : Ratio) → x ≡ a.num → y ≡ b.num → d ≡ pos a.den → e ≡ pos b.den → x *ℤ e ≡ y *ℤ d → Same m a b
  formal x y d e a b i j k l h = same_of (pos 0, rw (← i, ← j, ← k, ← l, h) (simp ring (omega (arith, linear))))

  comm_step : (an ad bn bd : ℤ) → (an *ℤ bd +ℤ bn *ℤ ad) *ℤ (bd *ℤ ad) ≡ (bn *ℤ ad +ℤ an *ℤ bd) *ℤ (ad *ℤ bd)
  comm_step an ad bn bd = simp ring (omega (arith, linear))

  comm_formal : (a b : Ratio) → Same m (ratio_plus a b) (ratio_plus b a)
  unfolding ratio_plus
  comm_formal a b = formal _ _ _ _ (ratio_plus a b) (ratio_plus b a) refl refl refl refl (comm_step a.num (pos a.den) b.num (pos b.den))

  pub plus_value_comm : (a b : Value) → plus_value a b ≡ plus_value b a
  unfolding plus_value same plus_exact
  plus_value_comm = lifted_comm plus_exact plus_keeps (λ a b. ∣ comm_formal a.ratio b.ratio ∣₁)

  assoc_step : (an ad bn bd cn cd : ℤ) → ((an *ℤ bd +ℤ bn *ℤ ad) *ℤ cd +ℤ cn *ℤ (ad *ℤ bd)) *ℤ (ad *ℤ (bd *ℤ cd)) ≡
      (an *ℤ (bd *ℤ cd) +ℤ (bn *ℤ cd +ℤ cn *ℤ bd) *ℤ ad) *ℤ ((ad *ℤ bd) *ℤ cd)
  assoc_step an ad bn bd cn cd = simp ring (omega (arith, linear))

  assoc_formal : (a b c : Ratio) → Same m (ratio_plus (ratio_plus a b) c) (ratio_plus a (ratio_plus b c))
  unfolding ratio_plus
  assoc_formal a b c = formal _ _ _ _ (ratio_plus (ratio_plus a b) c) (ratio_plus a (ratio_plus b c)) refl refl refl refl
      (assoc_step a.num (pos a.den) b.num (pos b.den) c.num (pos c.den))

  pub plus_value_assoc : (a b c : Value) → plus_value (plus_value a b) c ≡ plus_value a (plus_value b c)
  unfolding plus_value same plus_exact
  plus_value_assoc = lifted_assoc plus_exact plus_keeps (λ a b c. ∣ assoc_formal a.ratio b.ratio c.ratio ∣₁)

  times_plus_step : (an ad bn bd cn cd : ℤ) → (an *ℤ (bn *ℤ cd +ℤ cn *ℤ bd)) *ℤ ((ad *ℤ bd) *ℤ (ad *ℤ cd)) ≡
      ((an *ℤ bn) *ℤ (ad *ℤ cd) +ℤ (an *ℤ cn) *ℤ (ad *ℤ bd)) *ℤ (ad *ℤ (bd *ℤ cd))
  times_plus_step an ad bn bd cn cd = simp ring (omega (arith, linear))

  times_plus_formal : (a b c : Ratio) → Same m (ratio_times a (ratio_plus b c)) (ratio_plus (ratio_times a b) (ratio_times a c))
  unfolding ratio_plus ratio_times
  times_plus_formal a b c = formal _ _ _ _ (ratio_times a (ratio_plus b c)) (ratio_plus (ratio_times a b) (ratio_times a c)) refl refl refl refl
      (times_plus_step a.num (pos a.den) b.num (pos b.den) c.num (pos c.den))

  pub times_value_plus : (a b c : Value) → times_value a (plus_value b c) ≡ plus_value (times_value a b) (times_value a c)
  unfolding plus_value times_value same plus_exact times_exact Quotient.lift₂
  times_value_plus x y z = Quotient.induction_on₃ by_value by_value by_value
      (λ q r s. value-set (times_value q (plus_value r s)) (plus_value (times_value q r) (times_value q s))) x y z
      (λ a b c. Quotient.sound by_value ∣ times_plus_formal a.ratio b.ratio c.ratio ∣₁)

  -- equal classes are the same value
  pub same_from_class : (a b : Ratio) (h : CanCancel m (pos a.den)) (i : CanCancel m (pos b.den)) → class a h ≡ class b i → ∥ Same m a b ∥₁
  unfolding same class
  same_from_class a b h i e = Quotient.exact by_value (λ x y. ∥∥₁_prop) e

  times_comm_step : (an ad bn bd : ℤ) → (an *ℤ bn) *ℤ (bd *ℤ ad) ≡ (bn *ℤ an) *ℤ (ad *ℤ bd)
  times_comm_step an ad bn bd = simp ring (omega (arith, linear))

  times_comm_formal : (a b : Ratio) → Same m (ratio_times a b) (ratio_times b a)
  unfolding ratio_times
  times_comm_formal a b = formal _ _ _ _ (ratio_times a b) (ratio_times b a) refl refl refl refl (times_comm_step a.num (pos a.den) b.num (pos b.den))

  pub times_value_comm : (a b : Value) → times_value a b ≡ times_value b a
  unfolding times_value same times_exact
  times_value_comm = lifted_comm times_exact times_keeps (λ a b. ∣ times_comm_formal a.ratio b.ratio ∣₁)

  times_assoc_step : (an ad bn bd cn cd : ℤ) → ((an *ℤ bn) *ℤ cn) *ℤ (ad *ℤ (bd *ℤ cd)) ≡ (an *ℤ (bn *ℤ cn)) *ℤ ((ad *ℤ bd) *ℤ cd)
  times_assoc_step an ad bn bd cn cd = simp ring (omega (arith, linear))

  times_assoc_formal : (a b c : Ratio) → Same m (ratio_times (ratio_times a b) c) (ratio_times a (ratio_times b c))
  unfolding ratio_times
  times_assoc_formal a b c = formal _ _ _ _ (ratio_times (ratio_times a b) c) (ratio_times a (ratio_times b c)) refl refl refl refl
      (times_assoc_step a.num (pos a.den) b.num (pos b.den) c.num (pos c.den))

  pub times_value_assoc : (a b c : Value) → times_value (times_value a b) c ≡ times_value a (times_value b c)
  unfolding times_value same times_exact
  times_value_assoc = lifted_assoc times_exact times_keeps (λ a b c. ∣ times_assoc_formal a.ratio b.ratio c.ratio ∣₁)

  unfoldable pub whole_value : ℤ → Value
  whole_value z = Quotient.mk by_value (record { ratio = whole z; denominator = one_cancels })

  plus_zero_step : (an ad : ℤ) → (an *ℤ pos 1 +ℤ pos 0 *ℤ ad) *ℤ ad ≡ an *ℤ (ad *ℤ pos 1)
  plus_zero_step an ad = simp ring (omega (arith, linear))

  plus_zero_formal : (a : Ratio) → Same m (ratio_plus a (whole (pos 0))) a
  unfolding ratio_plus
  plus_zero_formal a = formal _ _ _ _ (ratio_plus a (whole (pos 0))) a refl refl refl refl (plus_zero_step a.num (pos a.den))

  pub plus_value_zero : (a : Value) → plus_value a (whole_value (pos 0)) ≡ a
  unfolding plus_value whole_value same plus_exact Quotient.lift₂
  plus_value_zero = Quotient.ind by_value (λ q. value-set (plus_value q (whole_value (pos 0))) q) (λ a. Quotient.sound by_value ∣ plus_zero_formal a.ratio ∣₁)

  times_zero_step : (an ad : ℤ) → (an *ℤ pos 0) *ℤ pos 1 ≡ pos 0 *ℤ (ad *ℤ pos 1)
  times_zero_step an ad = simp ring (omega (arith, linear))

  times_zero_formal : (a : Ratio) → Same m (ratio_times a (whole (pos 0))) (whole (pos 0))
  unfolding ratio_times
  times_zero_formal a = formal _ _ _ _ (ratio_times a (whole (pos 0))) (whole (pos 0)) refl refl refl refl (times_zero_step a.num (pos a.den))

  pub times_value_zero : (a : Value) → times_value a (whole_value (pos 0)) ≡ whole_value (pos 0)
  unfolding times_value whole_value same times_exact Quotient.lift₂
  times_value_zero = Quotient.ind by_value (λ q. value-set (times_value q (whole_value (pos 0))) (whole_value (pos 0)))
      (λ a. Quotient.sound by_value ∣ times_zero_formal a.ratio ∣₁)

  opposite_step : (an ad : ℤ) → (an *ℤ (pos 1 *ℤ ad) +ℤ (neg_ℤ (pos 1) *ℤ an) *ℤ ad) *ℤ pos 1 ≡ pos 0 *ℤ (ad *ℤ (pos 1 *ℤ ad))
  opposite_step an ad = simp ring (omega (arith, linear))

  opposite_formal : (a : Ratio) → Same m (ratio_plus a (ratio_times (whole (neg_ℤ (pos 1))) a)) (whole (pos 0))
  unfolding ratio_times ratio_plus
  opposite_formal a = formal _ _ _ _ (ratio_plus a (ratio_times (whole (neg_ℤ (pos 1))) a)) (whole (pos 0)) refl refl refl refl
      (opposite_step a.num (pos a.den))

  opposite : (a : Value) → plus_value a (times_value (whole_value (neg_ℤ (pos 1))) a) ≡ whole_value (pos 0)
  unfolding times_value plus_value whole_value same times_exact plus_exact Quotient.lift₂
  opposite = Quotient.ind by_value (λ q. value-set (plus_value q (times_value (whole_value (neg_ℤ (pos 1))) q)) (whole_value (pos 0)))
      (λ a. Quotient.sound by_value ∣ opposite_formal a.ratio ∣₁)

  pub plus_value_cancel : (a b c : Value) → plus_value a c ≡ plus_value b c → a ≡ b
  plus_value_cancel a b c e = sym (undo a) ∙ ap (λ t. plus_value t (times_value (whole_value (neg_ℤ (pos 1))) c)) e ∙ undo b
    where
      undo : (x : Value) → plus_value (plus_value x c) (times_value (whole_value (neg_ℤ (pos 1))) c) ≡ x
      undo x = plus_value_assoc x c (times_value (whole_value (neg_ℤ (pos 1))) c) ∙ ap (plus_value x) (opposite c) ∙ plus_value_zero x

  abbrev pub values : Semiring
  values = record {
    Carrier = Value;
    plus = plus_value;
    times = times_value;
    nought = whole_value (pos 0);
    plus_comm = plus_value_comm;
    plus_assoc = plus_value_assoc;
    plus_nought = plus_value_zero;
    times_comm = times_value_comm;
    times_assoc = times_value_assoc;
    times_plus = times_value_plus;
    times_nought = times_value_zero;
    plus_cancel = plus_value_cancel;
  }

module _ (m : ℕ) where
  pub class_same : (a b : Ratio) (h : CanCancel m (pos a.den)) (i : CanCancel m (pos b.den)) → Same m a b → class m a h ≡ class m b i
  unfolding class same
  class_same a b h i s = Quotient.sound (by_value m) ∣ s ∣₁

  pub class_whole : (z : ℤ) (h : CanCancel m (pos 1)) → whole_value m z ≡ class m (whole z) h
  unfolding class whole_value same
  class_whole z h = Quotient.sound (by_value m) ∣ same_refl (whole z) ∣₁

  pub class_plus : (a b : Ratio) (h : CanCancel m (pos a.den)) (i : CanCancel m (pos b.den)) (j : CanCancel m (pos (ratio_plus a b).den))
      → plus_value m (class m a h) (class m b i) ≡ class m (ratio_plus a b) j
  unfolding class plus_value same plus_exact Quotient.lift₂
  class_plus a b h i j = Quotient.sound (by_value m) ∣ same_refl (ratio_plus a b) ∣₁

  pub class_times : (a b : Ratio) (h : CanCancel m (pos a.den)) (i : CanCancel m (pos b.den)) (j : CanCancel m (pos (ratio_times a b).den))
      → times_value m (class m a h) (class m b i) ≡ class m (ratio_times a b) j
  unfolding class times_value same times_exact Quotient.lift₂
  class_times a b h i j = Quotient.sound (by_value m) ∣ same_refl (ratio_times a b) ∣₁

  one_step : (an ad : ℤ) → (an *ℤ pos 1) *ℤ ad ≡ an *ℤ (ad *ℤ pos 1)
  one_step an ad = simp ring (omega (arith, linear))

  one_formal : (a : Ratio) → Same m (ratio_times a (whole (pos 1))) a
  unfolding ratio_times
  one_formal a = formal m _ _ _ _ (ratio_times a (whole (pos 1))) a refl refl refl refl (one_step a.num (pos a.den))

  pub times_value_one : (a : Value m) → times_value m a (whole_value m (pos 1)) ≡ a
  unfolding times_value whole_value same times_exact Quotient.lift₂
  times_value_one = Quotient.ind (by_value m) (λ q. Quot.Quot-set (times_value m q (whole_value m (pos 1))) q)
      (λ a. Quotient.sound (by_value m) ∣ one_formal a.ratio ∣₁)

  inverse_formal : (an : ℤ) (ad : ℕ) → Same m (ratio_times (inverse_of an ad) (record { num = an; den = ad })) (whole (pos 1))
  unfolding ratio_times
  inverse_formal (pos n) ad = formal m _ _ _ _ (ratio_times (inverse_of (pos n) ad) (record { num = pos n; den = ad })) (whole (pos 1)) refl refl refl refl
      (simp ring (omega (arith, linear)))
  inverse_formal (negsuc n) ad = formal m _ _ _ _ (ratio_times (inverse_of (negsuc n) ad) (record { num = negsuc n; den = ad }))
      (whole (pos 1)) refl refl refl refl (simp ring (omega (arith, linear)))

  module _ (c : Ratio) (h : CanCancel m (pos c.den)) (i : HasInverse m c) where
    unfoldable pub inverse_value : Value m
    inverse_value = class m (inverse_of c.num c.den) (inverse_denominator_cancels c.num c.den i)

    inverse_times : times_value m inverse_value (class m c h) ≡ whole_value m (pos 1)
    unfolding inverse_value
    inverse_times = class_times _ c _ h (times_cancels _ c (inverse_denominator_cancels c.num c.den i) h)
        ∙ class_same _ (whole (pos 1)) _ one_cancels (inverse_formal c.num c.den) ∙ sym (class_whole (pos 1) one_cancels)

    pub divides_value : (x : Value m) → times_value m (times_value m x inverse_value) (class m c h) ≡ x
    divides_value x = times_value_assoc m x inverse_value (class m c h) ∙ ap (times_value m x) inverse_times ∙ times_value_one x

    pub undo : (x : Value m) → times_value m inverse_value (times_value m (class m c h) x) ≡ x
    undo x = search (arith, times_value_assoc, inverse_times, times_value_comm, times_value_one)

    unfoldable pub pivot_value : (v : Value m) → v ≡ class m c h → IsInvertible (values m) v
    pivot_value v e = record {
      over = λ x. times_value m x inverse_value;
      divides = λ x. ap (times_value m (times_value m x inverse_value)) e ∙ divides_value x;
      cancels = λ x y f. sym (undo x) ∙ ap (times_value m inverse_value) (ap (λ t. times_value m t x) (sym e) ∙ f ∙ ap (λ t. times_value m t y) e) ∙ undo y;
    }
