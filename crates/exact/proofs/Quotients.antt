-- What can be cancelled modulo m, the law of `over`, and what whole numbers modulo m keep.
use Rattle.std.proofs.Common.{◌≡◌, ◌≢◌, ◌⊎◌, ℕ, zero, suc, arith, ◌*◌, ◌≤◌, ap, sym, refl, subst, ◌∙◌, ⊎_elim, rules, IsTrue, nat_eq, ◌+◌, ◌↔◌, ◌<◌, inl}
use Rattle.std.proofs.{Common.inr, Common.◌-◌, lemmas.Nat.Gcd.same_from_IsGcd, lemmas.Bool.cases_eq, Math.Nat.mul_comm, lemmas.Int.ints}
use Rattle.std.specs.{Prelude.ℤ, Prelude.pos, Prelude.◌+ℤ◌, Prelude.◌*ℤ◌, Prelude.neg_ℤ, Prelude.unsigned_abs, Prelude.negsuc, Prelude.◌-ℤ◌, Int.IsGcd}
use Rattle.integers.proofs.numbers.Ring.{ring, linear, cancel_factor, positive_not_zero}
use Rattle.integers.proofs.numbers.Divisors.{bezout, Bezout, bezout_gcd, natural_multiple, only_one}
use Rattle.integers.specs.Divisors.{DividesInteger}
use Rattle.exact.specs.Ratio.{Ratio, IsDenominator, HasInverse, Same, IsInverseOf, ratio_times, ratio_over, inverse_of, whole}
use Rattle.exact.specs.Values.{CanCancel, HasValue}
use Rattle.exact.proofs.Values.{cancels_of, cancel, same_of, difference_multiple, product_cancels, one_cancels, same_refl}

-- z is +n or -n
abbrev IsSigned : ℤ → ℕ → Type 0
IsSigned z n = (z ≡ pos n) ⊎ (z ≡ neg_ℤ (pos n))

signed : (z : ℤ) → IsSigned z (unsigned_abs z)
signed z = search arith

-- a number coprime to m can be cancelled
coprime_step : (m d z k s t : ℤ) → d *ℤ z ≡ m *ℤ k → pos 1 ≡ s *ℤ d +ℤ t *ℤ m → z ≡ m *ℤ (k *ℤ s +ℤ t *ℤ z)
coprime_step m d z k s t e f =
    let p = ap (λ x. s *ℤ x) e in let q = ap (λ x. x *ℤ z) f in
    simp ring (omega (arith, linear, simp ring at p, simp ring at q))

pub coprime_cancels : (m d : ℕ) → IsGcd d m 1 → CanCancel m (pos d)
coprime_cancels m d g = by (bezout d m)
  where
    by : Bezout d m → CanCancel m (pos d)
    by b =
        let one : b.g ≡ 1 = same_from_IsGcd d m b.g 1 (bezout_gcd d m b) g in
        let f : pos 1 ≡ b.s *ℤ pos d +ℤ b.t *ℤ pos m = ap pos (sym one) ∙ b.g_is in
        cancels_of (λ z h. (_, coprime_step (pos m) (pos d) z h.0 b.s b.t h.1 f))

-- if m is 0 a number other than 0 can be cancelled
pub not_zero_cancels : (z : ℤ) → z ≢ pos 0 → CanCancel 0 z
not_zero_cancels z n = cancels_of (λ x h. (pos 0, cancel_factor z x (pos 0) n (h.1 ∙ simp ring refl)))

-- -z can be cancelled if z can
pub opposite_cancels : {m : ℕ} {z : ℤ} → CanCancel m z → CanCancel m (neg_ℤ z)
opposite_cancels {m} {z} h = cancels_of (λ x d. cancel h x (neg_ℤ d.0, flip (pos m) z x d.0 d.1))
  where
    flip : (m z x k : ℤ) → neg_ℤ z *ℤ x ≡ m *ℤ k → z *ℤ x ≡ m *ℤ neg_ℤ k
    flip m z x k e = let p = simp ring at e in simp ring (omega (arith, linear, p))

pub denominator_cancels : {m d : ℕ} → IsDenominator m d → CanCancel m (pos d)
denominator_cancels {m} {d} h = ⊎_elim
    (λ (e : m ≡ 0). subst (λ n. CanCancel n (pos d)) (sym e) (not_zero_cancels (pos d) (positive_not_zero d h.positive)))
    (λ n. coprime_cancels m d (h.coprime n)) (cases_eq m 0)

-- what has an inverse can be cancelled
pub inverse_cancels : {m : ℕ} {a : Ratio} → HasInverse m a → CanCancel m a.num
inverse_cancels {m} {a} h = ⊎_elim
    (λ (e : m ≡ 0). subst (λ n. CanCancel n a.num) (sym e) (not_zero_cancels a.num (h.not_zero e)))
    (λ n. let c = coprime_cancels m (unsigned_abs a.num) (h.coprime n) in
    ⊎_elim (λ (e : a.num ≡ pos (unsigned_abs a.num)). subst (CanCancel m) (sym e) c)
    (λ e. subst (CanCancel m) (sym e) (opposite_cancels c)) (signed a.num)) (cases_eq m 0)

-- if g·k can be cancelled modulo g·l, and g·l is not 0, g is 1
common_is_one : (g k l : ℕ) → g * l ≢ 0 → CanCancel (g * l) (pos (g * k)) → g ≡ 1
common_is_one g k l n h = by (cancel h (pos l) (pos k, exchange (pos g) (pos k) (pos l)))
  where
    exchange : (g k l : ℤ) → (g *ℤ k) *ℤ l ≡ (g *ℤ l) *ℤ k
    exchange g k l = simp ring refl

    positive : (l : ℕ) → g * l ≢ 0 → 1 ≤ l
    positive l h = search arith

    by : DividesInteger (g * l) (pos l) → g ≡ 1
    by d = let m = natural_multiple (g * l) l d.0 d.1 in only_one l g m.0 (positive l n) (m.1 ∙ ap (λ t. t * m.0) (mul_comm g l))

-- what can be cancelled has no common divisor with m above 1
pub cancelled_is_coprime : (m n : ℕ) → m ≢ 0 → CanCancel m (pos n) → IsGcd n m 1
cancelled_is_coprime m n ne h = by (bezout n m)
  where
    by : Bezout n m → IsGcd n m 1
    by b =
        let c : CanCancel (b.g * b.l) (pos (b.g * b.k)) = subst (λ t. CanCancel t (pos (b.g * b.k))) b.b_is (subst (λ t. CanCancel m (pos t)) b.a_is h) in
        let one = common_is_one b.g b.k b.l (λ e. ne (b.b_is ∙ e)) c in
        subst (IsGcd n m) one (bezout_gcd n m b)

-- 0 cannot be cancelled if m is 0
zero_stays : (z : ℤ) → CanCancel 0 z → z ≢ pos 0
zero_stays z h e = let d = cancel h (pos 1) (pos 0, ap (λ t. t *ℤ pos 1) e) in positive_not_zero 1 (omega arith) (d.1 ∙ simp ring refl)

-- a numerator that can be cancelled has an inverse
pub cancelled_has_inverse : {m : ℕ} {a : Ratio} → CanCancel m a.num → HasInverse m a
cancelled_has_inverse {m} {a} h = record {
  not_zero = λ e. zero_stays a.num (subst (λ t. CanCancel t a.num) e h);
  coprime = λ ne. cancelled_is_coprime m (unsigned_abs a.num) ne (⊎_elim (λ (e : a.num ≡ pos (unsigned_abs a.num)). subst (CanCancel m) e h)
      (λ e. subst (CanCancel m) (omega (arith, linear, e)) (opposite_cancels h)) (signed a.num));
}

-- what can be cancelled modulo something other than 1 is no 0
positive_from : (m d : ℕ) → m ≢ 1 → CanCancel m (pos d) → 1 ≤ d
positive_from m zero n h = let d = cancel h (pos 1) (pos 0, zeros (pos m)) in let k = natural_multiple m 1 d.0 d.1 in
    absurd (n (only_one 1 m k.0 (omega arith) (k.1 ∙ ap (λ t. t * k.0) (sym (one m)))))
  where
    zeros : (m : ℤ) → pos 0 *ℤ pos 1 ≡ m *ℤ pos 0
    zeros m = simp ring refl

    one : (m : ℕ) → 1 * m ≡ m
    one m = omega arith
positive_from m (suc d) n h = omega arith

-- a denominator is just what can be cancelled
pub cancelled_denominator : (m d : ℕ) → m ≢ 1 → CanCancel m (pos d) → IsDenominator m d
cancelled_denominator m d n h = record { positive = positive_from m d n h; coprime = λ ne. cancelled_is_coprime m d ne h }

over_step : (m rn rd on od sn sd an ad bn bd k l j : ℤ) → (rn *ℤ on) *ℤ sd -ℤ sn *ℤ (rd *ℤ od) ≡ m *ℤ k → sn *ℤ bd -ℤ bn *ℤ sd ≡ m *ℤ l
    → on *ℤ ad -ℤ an *ℤ od ≡ m *ℤ j
    → (od *ℤ sd) *ℤ (rn *ℤ (bd *ℤ an) -ℤ (bn *ℤ ad) *ℤ rd) ≡ m *ℤ ((k *ℤ (bd *ℤ ad) +ℤ l *ℤ (ad *ℤ (rd *ℤ od))) -ℤ j *ℤ (rn *ℤ (bd *ℤ sd)))
over_step m rn rd on od sn sd an ad bn bd k l j e f h =
    let p = ap (λ t. t *ℤ (bd *ℤ ad)) e in let q = ap (λ t. t *ℤ (ad *ℤ (rd *ℤ od))) f in
    let r = ap (λ t. t *ℤ (rn *ℤ (bd *ℤ sd))) h in
    simp ring (omega (arith, linear, simp ring at p, simp ring at q, simp ring at r))

over_step_neg : (m rn rd on od sn sd an ad bn bd k l j : ℤ) → (rn *ℤ on) *ℤ sd -ℤ sn *ℤ (rd *ℤ od) ≡ m *ℤ k → sn *ℤ bd -ℤ bn *ℤ sd ≡ m *ℤ l
    → on *ℤ ad -ℤ an *ℤ od ≡ m *ℤ j
    → (od *ℤ sd) *ℤ (rn *ℤ (bd *ℤ neg_ℤ an) -ℤ (bn *ℤ neg_ℤ ad) *ℤ rd) ≡ m *ℤ (j *ℤ (rn *ℤ (bd *ℤ sd)) -ℤ (k *ℤ (bd *ℤ ad) +ℤ l *ℤ (ad *ℤ (rd *ℤ od))))
over_step_neg m rn rd on od sn sd an ad bn bd k l j e f h =
    let p = ap (λ t. t *ℤ (bd *ℤ ad)) e in let q = ap (λ t. t *ℤ (ad *ℤ (rd *ℤ od))) f in
    let r = ap (λ t. t *ℤ (rn *ℤ (bd *ℤ sd))) h in
    simp ring (omega (arith, linear, simp ring at p, simp ring at q, simp ring at r))

-- r times o is s, so r is like the quotient of what s and o are like
pub over_same : {m : ℕ} (r o s : Ratio) (an : ℤ) (ad : ℕ) (b : Ratio) → CanCancel m (pos o.den) → CanCancel m (pos s.den) → Same m (ratio_times r o) s
    → Same m o (record { num = an; den = ad }) → Same m s b → Same m r (ratio_times b (inverse_of an ad))
unfolding ratio_times
over_same {m} r o s (pos n) ad b x y e f g =
    let h = difference_multiple e in let i = difference_multiple f in let j = difference_multiple g in
    same_of (cancel (product_cancels x y) _ (
      _,
      over_step (pos m) r.num (pos r.den) o.num (pos o.den) s.num (pos s.den) (pos n) (pos ad) b.num
          (pos b.den) h.0 j.0 i.0 h.1 j.1 i.1,
    ))
over_same {m} r o s (negsuc n) ad b x y e f g =
    let h = difference_multiple e in let i = difference_multiple f in let j = difference_multiple g in
    same_of (cancel (product_cancels x y) _ (
      _,
      over_step_neg (pos m) r.num (pos r.den) o.num (pos o.den) s.num (pos s.den) (negsuc n) (pos ad) b.num
          (pos b.den) h.0 j.0 i.0 h.1 j.1 i.1,
    ))

move_step : (m on od an ad z j t : ℤ) → on *ℤ ad -ℤ an *ℤ od ≡ m *ℤ j → an *ℤ z ≡ m *ℤ t → on *ℤ (ad *ℤ z) ≡ m *ℤ (j *ℤ z +ℤ t *ℤ od)
move_step m on od an ad z j t e f =
    let p = ap (λ x. x *ℤ z) e in let q = ap (λ x. x *ℤ od) f in
    simp ring (omega (arith, linear, simp ring at p, simp ring at q))

-- what has the value of something with an inverse has one
pub inverse_same : {m : ℕ} {a b : Ratio} → Same m a b → CanCancel m (pos b.den) → HasInverse m a → HasInverse m b
inverse_same {m} {a} {b} s r h = let i = difference_multiple s in let n = inverse_cancels h in
    cancelled_has_inverse (cancels_of
    (λ z d. cancel r z (cancel n (pos b.den *ℤ z) (_, move_step (pos m) a.num (pos a.den) b.num (pos b.den) z i.0 d.0 i.1 d.1))))

-- the denominator of an inverse is a numerator
numerator_cancels : {m : ℕ} (an : ℤ) (ad : ℕ) → CanCancel m an → CanCancel m (pos (inverse_of an ad).den)
numerator_cancels {m} (pos n) ad h = h
numerator_cancels {m} (negsuc n) ad h = opposite_cancels h

pub inverse_denominator_cancels : {m : ℕ} (an : ℤ) (ad : ℕ) → HasInverse m (record { num = an; den = ad }) → CanCancel m (pos (inverse_of an ad).den)
inverse_denominator_cancels an ad h = numerator_cancels an ad (inverse_cancels h)

pub over_cancels : {m : ℕ} (a b : Ratio) → CanCancel m (pos a.den) → HasInverse m b → CanCancel m (pos (ratio_over a b).den)
unfolding ratio_over ratio_times
over_cancels a b x h = product_cancels x (inverse_denominator_cancels b.num b.den h)

pub over_like : {m : ℕ} (r o s : Ratio) (a b : Ratio) → CanCancel m (pos o.den) → CanCancel m (pos s.den) → Same m (ratio_times r o) s → HasInverse m o
    → HasValue m s a → HasValue m o b → HasValue m r (ratio_over a b)
unfolding ratio_over
over_like r o s a b x y e h i j = grind (arith, over_same, over_cancels, inverse_same)

-- quotients of the same values are the same
both_step : (m sn sd on od an ad bn bd k l : ℤ) → sn *ℤ ad -ℤ an *ℤ sd ≡ m *ℤ k → on *ℤ bd -ℤ bn *ℤ od ≡ m *ℤ l
    → (sn *ℤ od) *ℤ (ad *ℤ bn) -ℤ (an *ℤ bd) *ℤ (sd *ℤ on) ≡ m *ℤ (k *ℤ (od *ℤ bn) -ℤ l *ℤ (an *ℤ sd))
both_step m sn sd on od an ad bn bd k l e f =
    let p = ap (λ t. t *ℤ (od *ℤ bn)) e in let q = ap (λ t. t *ℤ (an *ℤ sd)) f in
    simp ring (omega (arith, linear, simp ring at p, simp ring at q))

both_step_neg : (m sn sd on od an ad bn bd k l : ℤ) → sn *ℤ ad -ℤ an *ℤ sd ≡ m *ℤ k → on *ℤ bd -ℤ bn *ℤ od ≡ m *ℤ l
    → (sn *ℤ od) *ℤ (ad *ℤ neg_ℤ bn) -ℤ (an *ℤ neg_ℤ bd) *ℤ (sd *ℤ on) ≡ m *ℤ (l *ℤ (an *ℤ sd) -ℤ k *ℤ (od *ℤ bn))
both_step_neg m sn sd on od an ad bn bd k l e f =
    let p = ap (λ t. t *ℤ (od *ℤ bn)) e in let q = ap (λ t. t *ℤ (an *ℤ sd)) f in
    simp ring (omega (arith, linear, simp ring at p, simp ring at q))

neg_left_step : (m sn sd on od an ad bn bd k l : ℤ) → sn *ℤ ad -ℤ an *ℤ sd ≡ m *ℤ k → on *ℤ bd -ℤ bn *ℤ od ≡ m *ℤ l
    → (sn *ℤ neg_ℤ od) *ℤ (ad *ℤ bn) -ℤ (an *ℤ bd) *ℤ (sd *ℤ neg_ℤ on) ≡ m *ℤ (l *ℤ (an *ℤ sd) -ℤ k *ℤ (od *ℤ bn))
neg_left_step m sn sd on od an ad bn bd k l e f =
    let p = ap (λ t. t *ℤ (od *ℤ bn)) e in let q = ap (λ t. t *ℤ (an *ℤ sd)) f in
    simp ring (omega (arith, linear, simp ring at p, simp ring at q))

neg_both_step : (m sn sd on od an ad bn bd k l : ℤ) → sn *ℤ ad -ℤ an *ℤ sd ≡ m *ℤ k → on *ℤ bd -ℤ bn *ℤ od ≡ m *ℤ l
    → (sn *ℤ neg_ℤ od) *ℤ (ad *ℤ neg_ℤ bn) -ℤ (an *ℤ neg_ℤ bd) *ℤ (sd *ℤ neg_ℤ on) ≡ m *ℤ (k *ℤ (od *ℤ bn) -ℤ l *ℤ (an *ℤ sd))
neg_both_step m sn sd on od an ad bn bd k l e f =
    let p = ap (λ t. t *ℤ (od *ℤ bn)) e in let q = ap (λ t. t *ℤ (an *ℤ sd)) f in
    simp ring (omega (arith, linear, simp ring at p, simp ring at q))

quotients : {m : ℕ} (s a : Ratio) (on : ℤ) (od : ℕ) (bn : ℤ) (bd : ℕ) → Same m s a → Same m (record { num = on; den = od }) (record { num = bn; den = bd })
    → Same m (ratio_times s (inverse_of on od)) (ratio_times a (inverse_of bn bd))
unfolding ratio_times
quotients {m} s a (pos x) od (pos y) bd e f = let h = difference_multiple e in let i = difference_multiple f in
    same_of (_, both_step (pos m) s.num (pos s.den) (pos x) (pos od) a.num (pos a.den) (pos y) (pos bd) h.0 i.0 h.1 i.1)
quotients {m} s a (pos x) od (negsuc y) bd e f = let h = difference_multiple e in let i = difference_multiple f in
    same_of (_, both_step_neg (pos m) s.num (pos s.den) (pos x) (pos od) a.num (pos a.den) (negsuc y) (pos bd) h.0 i.0 h.1 i.1)
quotients {m} s a (negsuc x) od (pos y) bd e f = let h = difference_multiple e in let i = difference_multiple f in
    same_of (_, neg_left_step (pos m) s.num (pos s.den) (negsuc x) (pos od) a.num (pos a.den) (pos y) (pos bd) h.0 i.0 h.1 i.1)
quotients {m} s a (negsuc x) od (negsuc y) bd e f = let h = difference_multiple e in let i = difference_multiple f in
    same_of (_, neg_both_step (pos m) s.num (pos s.den) (negsuc x) (pos od) a.num (pos a.den) (negsuc y) (pos bd) h.0 i.0 h.1 i.1)

pub over_both : {m : ℕ} (s o a b : Ratio) → Same m s a → Same m o b → Same m (ratio_over s o) (ratio_over a b)
unfolding ratio_over
over_both s o a b e f = quotients s a o.num o.den b.num b.den e f

-- a product with an inverse is a quotient
inverse_step : (m qn qd xn xd rn rd yn yd k l : ℤ) → qn *ℤ (xd *ℤ rd) -ℤ (xn *ℤ rn) *ℤ qd ≡ m *ℤ k → (rn *ℤ yn) *ℤ pos 1 -ℤ pos 1 *ℤ (rd *ℤ yd) ≡ m *ℤ l
    → rd *ℤ ((qn *ℤ yn) *ℤ xd -ℤ xn *ℤ (qd *ℤ yd)) ≡ m *ℤ (k *ℤ yn +ℤ l *ℤ (xn *ℤ qd))
inverse_step m qn qd xn xd rn rd yn yd k l e f =
    let p = ap (λ t. t *ℤ yn) e in let q = ap (λ t. t *ℤ (xn *ℤ qd)) f in
    simp ring (omega (arith, linear, simp ring at p, simp ring at q))

pub product_is_quotient : {m : ℕ} (q x r y : Ratio) → CanCancel m (pos r.den) → Same m q (ratio_times x r) → IsInverseOf m y r → Same m (ratio_times q y) x
unfolding ratio_times
product_is_quotient {m} q x r y h s i =
    let k = difference_multiple s in let l = difference_multiple i.product in
    same_of (cancel h _ (_, inverse_step (pos m) q.num (pos q.den) x.num (pos x.den) r.num (pos r.den) y.num (pos y.den) k.0 l.0 k.1 l.1))

-- a modulus of 2 or more is not 1
pub not_one : (m : ℕ) → 2 ≤ m → m ≢ 1
not_one m l e = omega (arith, e)

-- 1 is a denominator
pub one_denominator : (m : ℕ) → 2 ≤ m → IsDenominator m 1
one_denominator m l = cancelled_denominator m 1 (not_one m l) one_cancels

-- a multiple of m below m is 0
pub small_multiple : (m n : ℕ) → n < m → DividesInteger m (pos n) → n ≡ 0
small_multiple m n l d = by (natural_multiple m n d.0 d.1)
  where
    by : (k : ℕ) × (n ≡ m * k) → n ≡ 0
    by (zero, e) = omega (arith, e)
    by (suc k, e) = absurd (omega (arith, e, l))

-- numbers below m are equal if m divides their difference
below_equal : (m a b : ℕ) → a < m → b < m → DividesInteger m (pos a -ℤ pos b) → a ≡ b
below_equal m a b k l d = by (total a b)
  where
    total : (a b : ℕ) → (a ≤ b) ⊎ (b ≤ a)
    total a b = search arith

    by : (a ≤ b) ⊎ (b ≤ a) → a ≡ b
    by (inl h) = let e : pos (b - a) ≡ pos b -ℤ pos a = (let f : b ≡ (b - a) + a = omega arith in omega (arith, ints, f)) in
        let z = small_multiple m (b - a) (omega arith) (neg_ℤ d.0, e ∙ simp ring (omega (arith, linear, d.1))) in omega (arith, z)
    by (inr h) = let e : pos (a - b) ≡ pos a -ℤ pos b = (let f : a ≡ (a - b) + b = omega arith in omega (arith, ints, f)) in
        let z = small_multiple m (a - b) (omega arith) (d.0, e ∙ d.1) in omega (arith, z)

-- whole numbers that are the same differ by a multiple of m
difference_of : (m a b : ℕ) → Same m (whole (pos a)) (whole (pos b)) → DividesInteger m (pos a -ℤ pos b)
difference_of m a b s = ((difference_multiple s).0, step (pos a) (pos b) (pos m *ℤ (difference_multiple s).0) (difference_multiple s).1)
  where
    step : (a b y : ℤ) → a *ℤ pos 1 -ℤ b *ℤ pos 1 ≡ y → a -ℤ b ≡ y
    step a b y e = let p = simp ring at e in omega (arith, linear, p)

-- equal numbers below m, and those alone, are the same
pub equal_residues : (m a b : ℕ) → a < m → b < m → IsTrue (nat_eq a b) ↔ Same m (whole (pos a)) (whole (pos b))
equal_residues m a b k l = (
  λ t. let e : a ≡ b = search rules in subst (λ n. Same m (whole (pos a)) (whole (pos n))) e (same_refl (whole (pos a))),
  λ s. let e = below_equal m a b k l (difference_of m a b s) in search rules,
)
