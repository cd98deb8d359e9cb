-- Gains are linear, and depend on the values at the vertices alone. If modulo k and modulo l only 0 solves the homogeneous equations, so it is modulo
-- k·l. Mean equations between whole numbers, as equations between integers. If modulo m only 0 solves the homogeneous equations, the denominator of
-- the normal placement is coprime to m, and a solution modulo m, times the denominator, is the placement modulo m.
use Rattle.std.proofs.Common.{◌≡◌, ℕ, List, [], ◌∷◌, arith, refl, ap, ◌∙◌, ◌*◌, ◌≤◌, sym, subst, ◌≢◌, map}
use Rattle.std.specs.Prelude.{ℤ, pos, ◌+ℤ◌, ◌-ℤ◌, ◌*ℤ◌, int_div, neg_ℤ}
use Rattle.std.specs.Int.{IsGcd}
use Rattle.integers.specs.Vectors.{Vector, plus, times, vector, DividesVector}
use Rattle.integers.specs.{Lists.total, Staircase.part, Divisors.DividesInteger, Coordinates.IsCoordinate}
use Rattle.integers.proofs.vectors.Laws.{vector_equal, coordinate_x, coordinate_y, coordinate_z}
use Rattle.integers.proofs.numbers.Ring.{ring, linear, cancel_factor, positive_not_zero, one_product, product_zero, product_associative}
use Rattle.integers.proofs.numbers.Divisors.{factor_positive, Bezout, bezout, bezout_gcd, divides_multiple}
use Rattle.integers.proofs.{lists.Sums.total_same, numbers.Division.exact_quotient}
use Rattle.periodic_net.specs.Graph.{Graph, Arc, IsGraph, IsQuotientVertex, arcs_from}
use Rattle.periodic_net.specs.Placement.{Placement, base, arc_vector, IsBarycentric, IsNormalPlacement}
use Rattle.periodic_net.proofs.CallerLemmas.{arc_inside, from_is_arc, total_zero}
use Rattle.exact.specs.Ratio.{Same, whole, ratio_plus, ratio_minus}
use Rattle.exact.proofs.CallerLemmas.{difference_multiple, same_of, one_cancels, cancelled_denominator}
use Rattle.elimination.specs.Equations.{ratio_sum, arc_gain, IsAtMean, IsSolution, IsOnlySolution}
use Rattle.elimination.specs.RightHand.{arc_difference, IsBalanced, IsSolutionWith}
use Rattle.barycentre.specs.Gains.{gains, Solves, HasOnlyZero, shifts}
use Rattle.barycentre.specs.WholeSolutions.{WholeSolutions}

-- what the arcs of a list gain
abbrev pub gained : (ℕ → ℤ) → List Arc → ℤ
gained x as' = total (λ a. x a.to -ℤ x a.from) as'

plus_step : (k a b c d r s : ℤ) → ((a +ℤ k *ℤ b) -ℤ (c +ℤ k *ℤ d)) +ℤ (r +ℤ k *ℤ s) ≡ ((a -ℤ c) +ℤ r) +ℤ k *ℤ ((b -ℤ d) +ℤ s)
plus_step k a b c d r s = simp ring (omega (arith, linear))

sum_list : (k : ℤ) (x y : ℕ → ℤ) (as' : List Arc) → gained (λ u. x u +ℤ k *ℤ y u) as' ≡ gained x as' +ℤ k *ℤ gained y as'
sum_list k x y [] = simp ring refl
sum_list k x y (a ∷ as') = ap (λ t. ((x a.to +ℤ k *ℤ y a.to) -ℤ (x a.from +ℤ k *ℤ y a.from)) +ℤ t) (sum_list k x y as')
    ∙ plus_step k (x a.to) (y a.to) (x a.from) (y a.from) (gained x as') (gained y as')

-- gains of x + k·y
pub gains_plus : (G : Graph) (k : ℤ) (x y : ℕ → ℤ) (u : ℕ) → gains G (λ v. x v +ℤ k *ℤ y v) u ≡ gains G x u +ℤ k *ℤ gains G y u
gains_plus G k x y u = sum_list k x y (arcs_from G u)

minus_step : (k a b c d r s : ℤ) → ((k *ℤ a -ℤ b) -ℤ (k *ℤ c -ℤ d)) +ℤ (k *ℤ r -ℤ s) ≡ k *ℤ ((a -ℤ c) +ℤ r) -ℤ ((b -ℤ d) +ℤ s)
minus_step k a b c d r s = simp ring (omega (arith, linear))

minus_list : (k : ℤ) (x y : ℕ → ℤ) (as' : List Arc) → gained (λ u. k *ℤ x u -ℤ y u) as' ≡ k *ℤ gained x as' -ℤ gained y as'
minus_list k x y [] = simp ring refl
minus_list k x y (a ∷ as') = ap (λ t. ((k *ℤ x a.to -ℤ y a.to) -ℤ (k *ℤ x a.from -ℤ y a.from)) +ℤ t) (minus_list k x y as')
    ∙ minus_step k (x a.to) (y a.to) (x a.from) (y a.from) (gained x as') (gained y as')

-- gains of k·x - y
pub gains_minus : (G : Graph) (k : ℤ) (x y : ℕ → ℤ) (u : ℕ) → gains G (λ v. k *ℤ x v -ℤ y v) u ≡ k *ℤ gains G x u -ℤ gains G y u
gains_minus G k x y u = minus_list k x y (arcs_from G u)

times_step : (k a c r : ℤ) → (k *ℤ a -ℤ k *ℤ c) +ℤ k *ℤ r ≡ k *ℤ ((a -ℤ c) +ℤ r)
times_step k a c r = simp ring (omega (arith, linear))

times_list : (k : ℤ) (x : ℕ → ℤ) (as' : List Arc) → gained (λ u. k *ℤ x u) as' ≡ k *ℤ gained x as'
times_list k x [] = sym (product_zero k)
times_list k x (a ∷ as') = ap (λ t. (k *ℤ x a.to -ℤ k *ℤ x a.from) +ℤ t) (times_list k x as') ∙ times_step k (x a.to) (x a.from) (gained x as')

-- gains of k·x
pub gains_times : (G : Graph) (k : ℤ) (x : ℕ → ℤ) (u : ℕ) → gains G (λ v. k *ℤ x v) u ≡ k *ℤ gains G x u
gains_times G k x u = times_list k x (arcs_from G u)

-- values that are equal at the vertices have equal gains
pub gains_same : (G : Graph) → IsGraph G → (x y : ℕ → ℤ) → ((u : ℕ) → IsQuotientVertex G u → x u ≡ y u) → (u : ℕ) → gains G x u ≡ gains G y u
gains_same G g x y e u = total_same (λ a. x a.to -ℤ x a.from) (λ a. y a.to -ℤ y a.from) (arcs_from G u)
    (λ a i. let h = arc_inside G g a (from_is_arc G u a i).0 in λ j. e a.to h.to j -ℤ e a.from h.from j)

-- what k·l divides, k divides
pub left_factor : (k l : ℕ) (z : ℤ) → DividesInteger (k * l) z → DividesInteger k z
left_factor k l z h = (pos l *ℤ h.0, h.1 ∙ product_associative (pos k) (pos l) h.0)

-- if k·l divides k·z, l divides z
pub right_factor : (k l : ℕ) → 1 ≤ k → (z : ℤ) → DividesInteger (k * l) (pos k *ℤ z) → DividesInteger l z
right_factor k l p z h = (h.0, cancel_factor (pos k) z (pos l *ℤ h.0) (positive_not_zero k p) (h.1 ∙ product_associative (pos k) (pos l) h.0))

-- k times a multiple of l
pub times_factor : (k l : ℕ) (z : ℤ) → DividesInteger l z → DividesInteger (k * l) (pos k *ℤ z)
times_factor k l z h = (h.0, ap (λ t. pos k *ℤ t) h.1 ∙ sym (product_associative (pos k) (pos l) h.0))

module _ (k l : ℕ) (positive : 1 ≤ k) (G : Graph) (g : IsGraph G) (first : HasOnlyZero k G) (second : HasOnlyZero l G) (x : ℕ → ℤ)
    (s : Solves (k * l) G (λ u. pos 0) x) where
  -- k divides x
  by_first : (u : ℕ) → IsQuotientVertex G u → DividesInteger k (x u)
  by_first = first.only x (record { origin = left_factor k l (x 1) s.origin; means = λ u q h. left_factor k l (gains G x u +ℤ pos 0) (s.means u q h) })

  -- the quotient
  quotient_at : ℕ → ℤ
  quotient_at u = int_div (x u) (pos k)

  quotient_is : (u : ℕ) → IsQuotientVertex G u → x u ≡ pos k *ℤ quotient_at u
  unfolding quotient_at
  quotient_is u q = let h = by_first u q in h.1 ∙ ap (λ t. pos k *ℤ t) (sym (ap (λ t. int_div t (pos k)) h.1 ∙ exact_quotient k positive h.0))

  part_gains : (u : ℕ) → gains G x u +ℤ pos 0 ≡ pos k *ℤ (gains G quotient_at u +ℤ pos 0)
  part_gains u = ap (λ t. t +ℤ pos 0) (gains_same G g x (λ v. pos k *ℤ quotient_at v) quotient_is u ∙ gains_times G (pos k) quotient_at u)
      ∙ step (pos k) (gains G quotient_at u)
    where
      step : (k z : ℤ) → k *ℤ z +ℤ pos 0 ≡ k *ℤ (z +ℤ pos 0)
      step k z = simp ring (omega (arith, linear))

  part_solves : IsQuotientVertex G 1 → Solves l G (λ u. pos 0) quotient_at
  part_solves one = record {
    origin = right_factor k l positive (quotient_at 1) (subst (DividesInteger (k * l)) (quotient_is 1 one) s.origin);
    means = λ u q h. right_factor k l positive (gains G quotient_at u +ℤ pos 0) (subst (DividesInteger (k * l)) (part_gains u) (s.means u q h));
  }

  product_divides : (u : ℕ) → IsQuotientVertex G u → DividesInteger (k * l) (x u)
  product_divides u q = subst (DividesInteger (k * l)) (sym (quotient_is u q))
      (times_factor k l (quotient_at u) (second.only quotient_at (part_solves (omega arith, g.vertices)) u q))

pub only_product : (k l : ℕ) → 1 ≤ k → (G : Graph) → IsGraph G → HasOnlyZero k G → HasOnlyZero l G → HasOnlyZero (k * l) G
only_product k l positive G g first second = record { only = product_divides k l positive G g first second }

plus_whole : (a b : ℤ) → ratio_plus (whole a) (whole b) ≡ whole (a +ℤ b)
unfolding ratio_plus
plus_whole a b = grind arith

minus_whole : (a b : ℤ) → ratio_minus (whole a) (whole b) ≡ whole (a -ℤ b)
unfolding ratio_minus
minus_whole a b = ap whole (step a b)
  where
    step : (a b : ℤ) → a *ℤ pos 1 -ℤ b *ℤ pos 1 ≡ a -ℤ b
    step a b = simp ring refl

-- a whole number is 0 modulo m if m divides it
pub same_zero : (m : ℕ) (z : ℤ) → Same m (whole z) (whole (pos 0)) → DividesInteger m z
same_zero m z s = ((difference_multiple s).0, step z (pos m *ℤ (difference_multiple s).0) (difference_multiple s).1)
  where
    step : (z y : ℤ) → z *ℤ pos 1 -ℤ pos 0 *ℤ pos 1 ≡ y → z ≡ y
    step z y e = let p = simp ring at e in omega (arith, linear, p)

zero_same : (m : ℕ) (z : ℤ) → DividesInteger m z → Same m (whole z) (whole (pos 0))
zero_same m z h = same_of (h.0, step z (pos m *ℤ h.0) h.1)
  where
    step : (z y : ℤ) → z ≡ y → z *ℤ pos 1 -ℤ pos 0 *ℤ pos 1 ≡ y
    step z y e = simp ring (omega (arith, linear, e))

-- equal modulo m
same_difference : (m : ℕ) (a x : ℤ) → Same m (whole a) (whole (a +ℤ x)) → DividesInteger m x
same_difference m a x s = (neg_ℤ (difference_multiple s).0, step a x (pos m) (difference_multiple s).0 (difference_multiple s).1)
  where
    step : (a x m k : ℤ) → a *ℤ pos 1 -ℤ (a +ℤ x) *ℤ pos 1 ≡ m *ℤ k → x ≡ m *ℤ neg_ℤ k
    step a x m k e = let p = simp ring at e in simp ring (omega (arith, linear, p))

module _ (s : ℕ → ℤ) where
  -- the differences of arcs, added
  differences : (as' : List Arc) → ratio_sum (map (arc_difference (λ u. whole (s u))) as') ≡ whole (gained s as')
  differences [] = refl
  differences (a ∷ as') = (λ i. ratio_plus (minus_whole (s a.to) (s a.from) i) (differences as' i)) ∙ plus_whole (s a.to -ℤ s a.from) (gained s as')

  module _ (c : ℕ) where
    gain_is : (a : Arc) → arc_gain (λ u. whole (s u)) c a ≡ whole ((s a.to +ℤ part c a.shift) -ℤ s a.from)
    gain_is a = (λ i. ratio_minus (plus_whole (s a.to) (part c a.shift) i) (whole (s a.from))) ∙ minus_whole (s a.to +ℤ part c a.shift) (s a.from)

    step : (t p f r w : ℤ) → ((t +ℤ p) -ℤ f) +ℤ (r +ℤ w) ≡ ((t -ℤ f) +ℤ r) +ℤ (p +ℤ w)
    step t p f r w = omega (arith, linear)

    -- the gains of arcs, added
    gains_are : (as' : List Arc) → ratio_sum (map (arc_gain (λ u. whole (s u)) c) as') ≡ whole (gained s as' +ℤ total (λ (a : Arc). part c a.shift) as')
    gains_are [] = refl
    gains_are (a ∷ as') =
        (λ i. ratio_plus (gain_is a i) (gains_are as' i))
        ∙ plus_whole ((s a.to +ℤ part c a.shift) -ℤ s a.from) (gained s as' +ℤ total (λ (b : Arc). part c b.shift) as')
        ∙ ap whole (step (s a.to) (part c a.shift) (s a.from) (gained s as') (total (λ (b : Arc). part c b.shift) as'))

module _ (m : ℕ) (G : Graph) where
  pub at_mean : (c : ℕ) (s : ℕ → ℤ) (u : ℕ) → IsAtMean m G c (λ v. whole (s v)) u → DividesInteger m (gains G s u +ℤ shifts G (part c) u)
  at_mean c s u h = same_zero m _ (subst (λ r. Same m r (whole (pos 0))) (gains_are s c (arcs_from G u)) h.balance)

  mean_at : (c : ℕ) (s : ℕ → ℤ) (u : ℕ) → DividesInteger m (gains G s u +ℤ shifts G (part c) u) → IsAtMean m G c (λ v. whole (s v)) u
  mean_at c s u h = record { balance = subst (λ r. Same m r (whole (pos 0))) (sym (gains_are s c (arcs_from G u))) (zero_same m _ h) }

  solves : (c : ℕ) (s : ℕ → ℤ) → IsSolution m G c (λ u. whole (s u)) → Solves m G (shifts G (part c)) s
  solves c s h = record { origin = same_zero m (s 1) h.origin; means = λ u q l. at_mean c s u (h.means u q l) }

  balanced : (right s : ℕ → ℤ) (u : ℕ) → IsBalanced m G (λ v. whole (right v)) (λ v. whole (s v)) u → DividesInteger m (gains G s u +ℤ right u)
  balanced right s u h = same_zero m _ (subst (λ r. Same m r (whole (pos 0)))
      ((λ i. ratio_plus (differences s (arcs_from G u) i) (whole (right u))) ∙ plus_whole (gains G s u) (right u)) h.balance)

  solves_with : (right s : ℕ → ℤ) → IsSolutionWith m G (λ u. whole (right u)) (λ u. whole (s u)) → Solves m G right s
  solves_with right s h = record { origin = same_zero m (s 1) h.origin; means = λ u q l. balanced right s u (h.balanced u q l) }

  module _ (not_one : m ≢ 1) (c : ℕ) (s : ℕ → ℤ) (h : IsSolution m G c (λ u. whole (s u))) (x : ℕ → ℤ) (z : Solves m G (λ u. pos 0) x) where
    sum_step : (a w b m k l : ℤ) → a +ℤ w ≡ m *ℤ k → b +ℤ pos 0 ≡ m *ℤ l → (a +ℤ pos 1 *ℤ b) +ℤ w ≡ m *ℤ (k +ℤ l)
    sum_step a w b m k l e f = simp ring (omega (arith, linear, e, f))

    origin_step : (a b m k l : ℤ) → a ≡ m *ℤ k → b ≡ m *ℤ l → a +ℤ pos 1 *ℤ b ≡ m *ℤ (k +ℤ l)
    origin_step a b m k l e f = simp ring (omega (arith, linear, e, f))

    -- s + x is a solution too
    moved : IsSolution m G c (λ u. whole (s u +ℤ pos 1 *ℤ x u))
    moved = record {
      denominators = λ u q. cancelled_denominator m 1 not_one one_cancels;
      origin = let a = same_zero m (s 1) h.origin in zero_same m _ (a.0 +ℤ z.origin.0, origin_step (s 1) (x 1) (pos m) a.0 z.origin.0 a.1 z.origin.1);
      means = λ u q l.
          let a = at_mean c s u (h.means u q l) in let b = z.means u q l in
          mean_at c (λ v. s v +ℤ pos 1 *ℤ x v) u (
            a.0 +ℤ b.0,
            ap (λ t. t +ℤ shifts G (part c) u) (gains_plus G (pos 1) s x u)
                ∙ sum_step (gains G s u) (shifts G (part c) u) (gains G x u) (pos m) a.0 b.0 a.1 b.1,
          );
    }

    is_zero : IsOnlySolution m G c → (u : ℕ) → IsQuotientVertex G u → DividesInteger m (x u)
    is_zero only u q = subst (DividesInteger m) (one_product (x u)) (same_difference m (s u) (pos 1 *ℤ x u)
        (only (λ v. whole (s v)) (λ v. whole (s v +ℤ pos 1 *ℤ x v)) h moved u q))

pub whole_solutions : WholeSolutions
whole_solutions = record {
  solves = λ m G c s h. solves m G c s h;
  solves_with = λ m G right s h. solves_with m G right s h;
  only_zero = λ m n G g c s h only. record { only = λ x z. is_zero m G n c s h x z only };
}

-- a multiple, by another spelling
pub multiple_like : (m : ℕ) (z w : ℤ) → w ≡ z → DividesInteger m z → DividesInteger m w
multiple_like m z w e h = (h.0, e ∙ h.1)

pub multiple_zero : (m : ℕ) → DividesInteger m (pos 0)
multiple_zero m = (pos 0, sym (product_zero (pos m)))

module _ (P : Placement) (c : Vector → ℤ) (i : IsCoordinate c) where
  reading : (a : Arc) → c (arc_vector P a) ≡ (c (base P a.to) +ℤ pos P.denominator *ℤ c a.shift) -ℤ c (base P a.from)
  reading a =
      i.minus_is (plus (base P a.to) (times (pos P.denominator) a.shift)) (base P a.from)
      ∙ ap (λ k. k -ℤ c (base P a.from)) (i.plus_is (base P a.to) (times (pos P.denominator) a.shift)
      ∙ ap (λ k. c (base P a.to) +ℤ k) (i.times_is (pos P.denominator) a.shift))

  list_step : (d t s f r w : ℤ) → ((t +ℤ d *ℤ s) -ℤ f) +ℤ (r +ℤ d *ℤ w) ≡ ((t -ℤ f) +ℤ r) +ℤ d *ℤ (s +ℤ w)
  list_step d t s f r w = simp ring (omega (arith, linear))

  -- the vectors of arcs lead as far as the gains and the shifts
  list_is : (as' : List Arc) → total (λ a. c (arc_vector P a)) as' ≡ gained (λ u. c (base P u)) as' +ℤ pos P.denominator *ℤ total (λ (a : Arc). c a.shift) as'
  list_is [] = sym (ap (λ t. pos 0 +ℤ t) (product_zero (pos P.denominator)))
  list_is (a ∷ as') =
      (λ j. reading a j +ℤ list_is as' j)
      ∙ list_step (pos P.denominator) (c (base P a.to)) (c a.shift) (c (base P a.from)) (gained (λ u. c (base P u)) as') (total (λ (b : Arc). c b.shift) as')

  -- so in a barycentric placement they cancel
  module _ (G : Graph) (b : IsBarycentric G P) (u : ℕ) (q : IsQuotientVertex G u) where
    pub cancels : gains G (λ v. c (base P v)) u +ℤ pos P.denominator *ℤ shifts G c u ≡ pos 0
    cancels = sym (list_is (arcs_from G u)) ∙ total_zero G P b c i u q

module _ (m : ℕ) (positive : 1 ≤ m) (G : Graph) (g : IsGraph G) (only : HasOnlyZero m G) (P : Placement) (n : IsNormalPlacement G P) where
  -- g is the greatest common divisor of the denominator and m
  module _ (z : Bezout P.denominator m) where
    solves_step : (l d s y k gg : ℤ) → y +ℤ d *ℤ s ≡ pos 0 → d ≡ gg *ℤ k → l *ℤ y +ℤ pos 0 ≡ (gg *ℤ l) *ℤ neg_ℤ (k *ℤ s)
    solves_step l d s y k gg e f =
        let p = ap (λ t. l *ℤ t) e in let q = ap (λ t. l *ℤ (t *ℤ s)) f in
        simp ring (omega (arith, linear, simp ring at p, simp ring at q))

    -- m over g, times the placement, solves the homogeneous equations
    multiple_solves : (c : Vector → ℤ) → IsCoordinate c → Solves m G (λ u. pos 0) (λ u. pos z.l *ℤ c (base P u))
    multiple_solves c i = record {
      origin = multiple_like m (pos 0) (pos z.l *ℤ c (base P 1)) (ap (λ v. pos z.l *ℤ c v) n.normal.origin ∙ ap (λ t. pos z.l *ℤ t) i.zero
          ∙ product_zero (pos z.l)) (multiple_zero m);
      means = λ u q h. (
        neg_ℤ (pos z.k *ℤ shifts G c u),
        ap (λ t. t +ℤ pos 0) (gains_times G (pos z.l) (λ v. c (base P v)) u)
            ∙ solves_step (pos z.l) (pos P.denominator) (shifts G c u) (gains G (λ v. c (base P v)) u) (pos z.k) (pos z.g) (cancels P c i G n.barycentric u q)
            (ap pos z.a_is)
            ∙ ap (λ t. pos t *ℤ neg_ℤ (pos z.k *ℤ shifts G c u)) (sym z.b_is),
      );
    }

    l_positive : 1 ≤ z.l
    l_positive = factor_positive z.g z.l (subst (λ t. 1 ≤ t) z.b_is positive)

    part_step : (l x gg q : ℤ) → l *ℤ x ≡ (gg *ℤ l) *ℤ q → l *ℤ x ≡ l *ℤ (gg *ℤ q)
    part_step l x gg q e = let p = simp ring at e in omega (arith, linear, p)

    part_divided : (c : Vector → ℤ) → IsCoordinate c → (u : ℕ) → IsQuotientVertex G u → DividesInteger z.g (c (base P u))
    part_divided c i u q =
        let h = only.only (λ v. pos z.l *ℤ c (base P v)) (multiple_solves c i) u q in (
          h.0,
          cancel_factor (pos z.l) (c (base P u)) (pos z.g *ℤ h.0) (positive_not_zero z.l l_positive)
              (part_step (pos z.l) (c (base P u)) (pos z.g) h.0 (h.1 ∙ ap (λ t. pos t *ℤ h.0) z.b_is)),
        )

    divided : (u : ℕ) → IsQuotientVertex G u → DividesVector (pos z.g) (base P u)
    divided u q =
        let x = part_divided (λ v. v.x) coordinate_x u q in
        let y = part_divided (λ v. v.y) coordinate_y u q in
        let w = part_divided (λ v. v.z) coordinate_z u q in (vector x.0 y.0 w.0, vector_equal x.1 y.1 w.1)

    one : z.g ≡ 1
    one = n.normal.reduced z.g (divides_multiple z.g P.denominator (z.k, z.a_is)) divided

    is_coprime : IsGcd P.denominator m 1
    is_coprime = subst (IsGcd P.denominator m) one (bezout_gcd P.denominator m z)

  pub coprime : IsGcd P.denominator m 1
  coprime = is_coprime (bezout P.denominator m)

module _ (m : ℕ) (G : Graph) (g : IsGraph G) (only : HasOnlyZero m G) (P : Placement) (n : IsNormalPlacement G P) (c : Vector → ℤ) (i : IsCoordinate c)
    (x : ℕ → ℤ) (s : Solves m G (shifts G c) x) where
  means_step : (d y w a m k : ℤ) → y +ℤ w ≡ m *ℤ k → a +ℤ d *ℤ w ≡ pos 0 → (d *ℤ y -ℤ a) +ℤ pos 0 ≡ m *ℤ (d *ℤ k)
  means_step d y w a m k e f = let p = ap (λ t. d *ℤ t) e in simp ring (omega (arith, linear, simp ring at p, f))

  placement_step : (d x m k : ℤ) → x ≡ m *ℤ k → d *ℤ x -ℤ pos 0 ≡ m *ℤ (d *ℤ k)
  placement_step d x m k e = let p = ap (λ t. d *ℤ t) e in simp ring (omega (arith, linear, p))

  difference_solves : Solves m G (λ u. pos 0) (λ u. pos P.denominator *ℤ x u -ℤ c (base P u))
  difference_solves = record {
    origin = (
      pos P.denominator *ℤ s.origin.0,
      ap (λ t. pos P.denominator *ℤ x 1 -ℤ t) (ap c n.normal.origin ∙ i.zero)
          ∙ placement_step (pos P.denominator) (x 1) (pos m) s.origin.0 s.origin.1,
    );
    means = λ u q h. let e = s.means u q h in (
      pos P.denominator *ℤ e.0,
      ap (λ t. t +ℤ pos 0) (gains_minus G (pos P.denominator) x (λ v. c (base P v)) u)
          ∙ means_step (pos P.denominator) (gains G x u) (shifts G c u) (gains G (λ v. c (base P v)) u) (pos m) e.0 e.1 (cancels P c i G n.barycentric u q),
    );
  }

  pub placement_modulo : (u : ℕ) → IsQuotientVertex G u → DividesInteger m (pos P.denominator *ℤ x u -ℤ c (base P u))
  placement_modulo = only.only (λ u. pos P.denominator *ℤ x u -ℤ c (base P u)) difference_solves
