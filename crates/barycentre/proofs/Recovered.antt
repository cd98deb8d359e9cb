-- The rows of fractions that solve the mean equations hold positions. A number that is a position modulo m, times the denominator, gives back the
-- position in lowest terms. The theorem on lifting, and its two steps together: the positions of a placement are recovered. Rows of fractions that are
-- recovered from residues, row by row.
use Rattle.std.proofs.Common.{◌≡◌, ℕ, zero, suc, arith, ◌+◌, ◌-◌, ◌<◌, List, [], ◌∷◌, length, get_or, ap, sym, refl, ◌∙◌, subst, Option, Some, None, ◌*◌}
use Rattle.std.proofs.Common.{◌≤◌, unsigned_abs, ◌≢◌, ◌^◌, FitsSigned, to_z, ⊎_elim, ◌++◌}
use Rattle.std.proofs.lemmas.Option.{get_or_from_slice_get, slice_get_within, slice_get_read}
use Rattle.std.proofs.lemmas.Nat.Gcd.{IsGcd-from_zero, IsGcd-swap, dvd_trans, le_of_dvd}
use Rattle.std.proofs.Math.Nat.{one-dvd, mul-le-mul, mul-pos}
use Rattle.std.proofs.lemmas.Int.{unsigned_abs-mul, to_z_pos, fits_signed_from_abs}
use Rattle.std.specs.Prelude.{pos, slice_get, ℤ, ◌*ℤ◌, ◌-ℤ◌, negsuc, neg_ℤ, ◌+ℤ◌}
use Rattle.std.specs.Int.{IsGcd, ◌∣◌, w64, w128}
use Rattle.std.{proofs.Math.IntN.*ℤ_comm, proofs.lemmas.List.get_or_default, specs.Option.option_map_or}
use Rattle.vecdim.specs.declared.rows.Row.{Row}
use Rattle.exact.specs.Ratio.{Ratio, whole, Same, IsInLowestTerms}
use Rattle.exact.proofs.CallerLemmas.{difference_multiple, cancel, coprime_cancels, same_refl, same_denominator, same_numerator}
use Rattle.elimination.{specs.Rows.row_part, specs.Rows.value_in, specs.Solutions.SolveAll, specs.Solutions.AreFlat, proofs.CallerLemmas.get_pushed}
use Rattle.integers.proofs.numbers.Ring.{ring, linear, cancel_factor, positive_not_zero, product_exchange}
use Rattle.integers.proofs.numbers.Divisors.{bezout_gcd, quotient_of, Bezout, bezout, cofactors_coprime, factor_positive, first_factor_positive}
use Rattle.integers.{proofs.vectors.Bounds.abs_negative, proofs.vectors.Laws.part_is_coordinate, specs.Divisors.DividesInteger, specs.Vectors.Vector}
use Rattle.integers.{specs.Staircase.part}
use Rattle.periodic_net.specs.Graph.{Graph, IsGraph, IsQuotientVertex}
use Rattle.periodic_net.specs.Placement.{Placement, base, IsNormalPlacement}
use Rattle.fraction.specs.{declared.numbers.Fraction.Fraction, Faults.IsFractionFault, Values.fraction_value, Reduced.HasSmallParts}
use Rattle.fraction.specs.{declared.numbers.FractionFault.FractionFault, declared.numbers.FractionFault.TheVariants.Zero}
use Rattle.fraction.specs.{declared.numbers.FractionFault.TheVariants.TooBig}
use Rattle.residue.specs.{Reconstruction.IsReconstruction, Reconstruction.IsOnlyReconstruction, declared.numbers.Residue.Residue}
use Rattle.barycentre.specs.Gains.{gains, shifts, Solves, HasOnlyZero}
use Rattle.barycentre.specs.Recovered.{IsRecoveredRow, AreRecovered, lifted_part}
use Rattle.barycentre.proofs.Linear.{gains_plus, only_product, coprime, placement_modulo, whole_solutions}
use Rattle.barycentre.{specs.Positions.ArePositions, specs.Recovery.IsLowest, specs.Laws.IsLift, specs.Laws.LiftingGivesPlacement}
use Rattle.barycentre.{specs.TwoSteps.AreTwoSteps, specs.TwoSteps.TwoStepsRecover, proofs.Divisors.denominator_divides}

-- The positions that rows in memory hold.

module _ {N : Type 0} {D : ℕ} (value : N → Ratio) where
  -- the position of vertex k + 1 is in the row at k
  pub value_at : (rows : List (Row N D)) (k : ℕ) (row : Row N D) → k < length rows → row ≡ get_or rows k row → (c : ℕ)
      → value_in value rows (k + 1) c ≡ row_part value row c
  value_at rows k row l e c = search (arith, slice_get_read)

-- 0 is in lowest terms
pub zero_reduced : IsInLowestTerms (whole (pos 0))
zero_reduced = record { positive = omega arith; coprime = IsGcd-swap 1 0 1 (IsGcd-from_zero 1 0 refl) }

part_reduced : {D : ℕ} (r : Row Fraction D) (c : ℕ) → IsInLowestTerms (row_part fraction_value r c)
part_reduced r c = search arith

pub option_reduced : {D : ℕ} (o : Option (Row Fraction D)) (c : ℕ) → IsInLowestTerms (option_map_or (λ r. row_part fraction_value r c) o (whole (pos 0)))
option_reduced o c = search (arith, zero_reduced, part_reduced)

-- a fraction of value 0 has the numerator 0
no_numerator : (n d k : ℤ) → n *ℤ pos 1 -ℤ pos 0 *ℤ d ≡ pos 0 *ℤ k → n ≡ pos 0
no_numerator n d k e = let q = simp ring at e in omega (arith, linear, q)

pub zero_numerator : (r : Ratio) → Same 0 r (whole (pos 0)) → r.num ≡ pos 0
zero_numerator r s = no_numerator r.num (pos r.den) (difference_multiple s).0 (difference_multiple s).1

-- in a plane the third parts are 0
pub option_flat : {D : ℕ} (rows : List (Row Fraction D)) (i : ℕ) → ((i : ℕ) (d : Row Fraction D) → i < length rows
    → Same 0 (fraction_value (get_or rows i d).z) (whole (pos 0)))
    → (o : Option (Row Fraction D)) → slice_get rows i ≡ o → (option_map_or (λ r. row_part fraction_value r 2) o (whole (pos 0))).num ≡ pos 0
option_flat rows i h None e = refl
option_flat rows i h (Some r) e =
    zero_numerator (fraction_value r.z) (subst (λ t. Same 0 (fraction_value t.z) (whole (pos 0))) (get_or_from_slice_get rows i r r e)
    (h i r (slice_get_within rows i r e)))

-- solved rows are positions
pub are_positions : {D : ℕ} (G : Graph) (rows : List (Row Fraction D)) → G.dimension ≡ D → SolveAll 0 fraction_value G rows → AreFlat 0 fraction_value rows
    → ArePositions G (value_in fraction_value rows)
are_positions {D} G rows e solved flat = record {
  reduced = λ u c q l. option_reduced (slice_get rows (u - 1)) c;
  flat = λ h u q. option_flat rows (u - 1) (flat (sym e ∙ h)) (slice_get rows (u - 1)) refl;
  solution = λ c l. (solved c l).0;
  first = λ c l. (solved c l).1;
}

-- if x/n is num/den in lowest terms, den divides n
pub lowest_divides : (x num : ℤ) (n den : ℕ) → IsLowest x n num den → den ∣ n
lowest_divides x num n den h =
    denominator_divides (record { num = num; den = den }) n x (record { positive = h.positive; coprime = h.reduced }) (sym h.same)

-- the numerator is no greater than x
pub lowest_small : (x num : ℤ) (n den bound : ℕ) → 1 ≤ n → IsLowest x n num den → unsigned_abs x ≤ bound → unsigned_abs num ≤ bound
lowest_small x num n den bound one h l =
    let q = quotient_of den n (lowest_divides x num n den h) in
    let scaled : x ≡ num *ℤ pos q.0 = cancel_factor (pos den) x (num *ℤ pos q.0) (positive_not_zero den h.positive)
    (*ℤ_comm (pos den) x ∙ h.same ∙ ap (λ k. num *ℤ pos k) q.1 ∙ product_exchange num (pos den) (pos q.0)) in
    let sizes : unsigned_abs x ≡ unsigned_abs num * q.0 = ap unsigned_abs scaled ∙ unsigned_abs-mul num (pos q.0) in
    let factor : 1 ≤ q.0 = factor_positive den q.0 (subst (λ k. 1 ≤ k) q.1 one) in
    let p : unsigned_abs num ≤ unsigned_abs num = omega arith in
    let m : unsigned_abs num * 1 ≤ unsigned_abs num * q.0 = mul-le-mul p factor in omega (arith, sizes, m, l)

-- each fraction has lowest terms
pub record Lowest (x : ℤ) (n : ℕ) : Type 0 where
  pub num : ℤ
  pub den : ℕ
  pub is : IsLowest x n num den

module _ (n : ℕ) (one : 1 ≤ n) where
  step : (g k l : ℤ) → (g *ℤ k) *ℤ l ≡ k *ℤ (g *ℤ l)
  step g k l = simp ring refl

  -- of a number that is not negative
  of_natural : (a : ℕ) (z : Bezout a n) → Lowest (pos a) n
  of_natural a z = record {
    num = pos z.k;
    den = z.l;
    is = record {
      positive = factor_positive z.g z.l (subst (λ k. 1 ≤ k) z.b_is one);
      reduced = parts_coprime a z;
      same = ap (λ k. pos k *ℤ pos z.l) z.a_is ∙ step (pos z.g) (pos z.k) (pos z.l) ∙ ap (λ k. pos z.k *ℤ pos k) (sym z.b_is);
    };
  }
    where
      parts_coprime : (a : ℕ) (z : Bezout a n) → IsGcd z.k z.l 1
      parts_coprime a z = cofactors_coprime z.g z.k z.l (first_factor_positive z.g z.l (subst (λ k. 1 ≤ k) z.b_is one))
          (subst (λ t. IsGcd t (z.g * z.l) z.g) z.a_is (subst (λ t. IsGcd a t z.g) z.b_is (bezout_gcd a n z)))

  -- and of its negative
  of_negative : (a : ℕ) → Lowest (pos a) n → Lowest (neg_ℤ (pos a)) n
  of_negative a l = record {
    num = neg_ℤ l.num;
    den = l.den;
    is = record {
      positive = l.is.positive;
      reduced = subst (λ k. IsGcd k l.den 1) (sym (abs_negative l.num)) l.is.reduced;
      same = flip (pos a) (pos l.den) l.num (pos n) l.is.same;
    };
  }
    where
      flip : (a d k n : ℤ) → a *ℤ d ≡ k *ℤ n → neg_ℤ a *ℤ d ≡ neg_ℤ k *ℤ n
      flip a d k n e = simp ring (omega (arith, linear, e))

  pub lowest : (x : ℤ) → Lowest x n
  lowest (pos a) = of_natural a (bezout a n)
  lowest (negsuc a) = of_negative (suc a) (of_natural (suc a) (bezout (suc a) n))

-- from lowest terms to a reconstruction modulo m
module _ (m bound : ℕ) (d : ℕ) (one : 1 ≤ d) (coprime : IsGcd d m 1) (a num : ℤ) (den : ℕ) (h : IsLowest a d num den) (small : unsigned_abs a ≤ bound)
    (limit : d ≤ bound) (x : ℕ) (is : DividesInteger m (pos d *ℤ pos x -ℤ a)) where
  product_step : (d x a den num m k : ℤ) → d *ℤ x -ℤ a ≡ m *ℤ k → a *ℤ den ≡ num *ℤ d → d *ℤ (num -ℤ x *ℤ den) ≡ m *ℤ neg_ℤ (k *ℤ den)
  product_step d x a den num m k e f = let p = ap (λ t. t *ℤ den) e in simp ring (omega (arith, linear, simp ring at p, simp ring at f))

  den_divides : den ∣ d
  den_divides = lowest_divides a num d den h

  pub recovered : IsReconstruction x m bound num den
  recovered = record {
    numerator = lowest_small a num d den bound one h small;
    positive = h.positive;
    denominator = let l = le_of_dvd one den_divides in omega (arith, l, limit);
    reduced = h.reduced;
    coprime = (one-dvd den, one-dvd m, λ k p q. coprime.2 k (dvd_trans k p den_divides) q);
    same = cancel (coprime_cancels m d coprime) (num -ℤ pos x *ℤ pos den)
        (neg_ℤ (is.0 *ℤ pos den), product_step (pos d) (pos x) a (pos den) num (pos m) is.0 is.1 h.same);
  }

-- The theorem on lifting, put together.

-- the lifted solution solves the equations modulo m·m
module _ (m : ℕ) (G : Graph) (g : IsGraph G) (c : Vector → ℤ) (s left t : ℕ → ℤ) (h : IsLift m G c s left t) where
  origin_step : (s m t k : ℤ) → s ≡ pos 0 → t ≡ m *ℤ k → s +ℤ m *ℤ t ≡ (m *ℤ m) *ℤ k
  origin_step s m t k e f = let p = ap (λ w. m *ℤ w) f in simp ring (omega (arith, linear, e, p))

  means_step : (a m b w l k : ℤ) → a +ℤ w ≡ m *ℤ l → b +ℤ l ≡ m *ℤ k → (a +ℤ m *ℤ b) +ℤ w ≡ (m *ℤ m) *ℤ k
  means_step a m b w l k e f = let p = ap (λ r. m *ℤ r) f in simp ring (omega (arith, linear, e, simp ring at p))

  lifted : Solves (m * m) G (shifts G c) (λ u. s u +ℤ pos m *ℤ t u)
  lifted = record {
    origin = (h.next.origin.0, origin_step (s 1) (pos m) (t 1) h.next.origin.0 h.first h.next.origin.1);
    means = λ u q l. let e = h.next.means u q l in (
      e.0,
      ap (λ r. r +ℤ shifts G c u) (gains_plus G (pos m) s t u) ∙ means_step (gains G s u) (pos m) (gains G t u) (shifts G c u) (left u) e.0 (h.rest u q l) e.1,
    );
  }

pub lifting : LiftingGivesPlacement
lifting = record {
  coprime = λ m p G g only P n. coprime m p G g only P n;
  square = λ m p G g only. only_product m m p G g only only;
  solves = λ m G g c i s left t h. lifted m G g c s left t h;
  placement = λ m G g only P n c i x s. placement_modulo m G g only P n c i x s;
}

module _ (m : ℕ) (least : 2 ≤ m) (G : Graph) (g : IsGraph G) (c : ℕ) (below : c < 3) (s t r : ℕ → ℕ) (left : ℕ → ℤ) (h : AreTwoSteps m G c s t r left)
    (P : Placement) (n : IsNormalPlacement G P) where
  not_one : m ≢ 1
  not_one e = omega (arith, e)

  square_positive : 1 ≤ m * m
  square_positive = let one : 0 < m = omega (arith, least) in mul-pos one one

  only_first : HasOnlyZero m G
  only_first = whole_solutions.only_zero m not_one G g c (λ u. pos (s u)) h.solution h.only

  only_square : HasOnlyZero (m * m) G
  only_square = lifting.square m (omega arith) G g only_first

  -- t solves the equations for what is left
  residue_step : (g l r m k e : ℤ) → g +ℤ r ≡ m *ℤ k → r -ℤ l ≡ m *ℤ e → g +ℤ l ≡ m *ℤ (k -ℤ e)
  residue_step g l r m k e p q = simp ring (omega (arith, linear, p, q))

  next : Solves m G left (λ u. pos (t u))
  next =
      let w = whole_solutions.solves_with m G (λ u. pos (r u)) (λ u. pos (t u)) h.next in
      record {
        origin = w.origin;
        means = λ u q l.
            let a = w.means u q l in let b = (h.right u q).same in
            (a.0 -ℤ b.0, residue_step (gains G (λ v. pos (t v)) u) (left u) (pos (r u)) (pos m) a.0 b.0 a.1 b.1);
      }

  lift : IsLift m G (part c) (λ u. pos (s u)) left (λ u. pos (t u))
  lift = record { first = ap pos h.origin; rest = λ u q l. h.rest u q; next = next }

  solves_square : Solves (m * m) G (shifts G (part c)) (λ u. pos (s u) +ℤ pos m *ℤ pos (t u))
  solves_square = lifting.solves m G g (part c) (part_is_coordinate c below) (λ u. pos (s u)) left (λ u. pos (t u)) lift

  is_reconstruction : (bound : ℕ) → P.denominator ≤ bound → (u : ℕ) → IsQuotientVertex G u → unsigned_abs (part c (base P u)) ≤ bound
      → (num : ℤ) (den : ℕ) → IsLowest (part c (base P u)) P.denominator num den → IsReconstruction (s u + m * t u) (m * m) bound num den
  is_reconstruction bound d u q small num den low =
      recovered (m * m) bound P.denominator n.barycentric.positive (lifting.coprime (m * m) square_positive G g only_square P n)
      (part c (base P u)) num den low small d (s u + m * t u)
      (lifting.placement (m * m) G g only_square P n (part c) (part_is_coordinate c below) (λ v. pos (s v) +ℤ pos m *ℤ pos (t v)) solves_square u q)

pub two_steps_recover : TwoStepsRecover
two_steps_recover m l G g c b s t r left h P n = is_reconstruction m l G g c b s t r left h P n

-- A reconstruction is a fraction in lowest terms.

abbrev pub parts : ℤ → ℕ → Ratio
parts n d = record { num = n; den = d }

module _ (x m bound : ℕ) (most : bound ≤ 2 ^ 58) (n : ℤ) (d : ℕ) (h : IsOnlyReconstruction x m bound n d) where
  reduced : IsInLowestTerms (parts n d)
  reduced = record { positive = h.is.positive; coprime = h.is.reduced }

  small : HasSmallParts (parts n d)
  small = let a = h.is.numerator in let b = h.is.denominator in (omega (arith, a, most), omega (arith, b, most))

  -- the parts are the same in 64 and 128 bits
  pub record IsWidened : Type 0 where
    pub narrow : FitsSigned w64 n
    pub wide : FitsSigned w128 n
    pub denominator : to_z w128 d ≡ pos d

  pub widened : IsWidened
  widened = omega (arith, fits_signed_from_abs, to_z_pos)

  -- a fraction of the same value is that
  pub recovered_fraction : (f : Fraction) → Same 0 (fraction_value f) (parts n d) → IsOnlyReconstruction x m bound (fraction_value f).num (fraction_value f).den
  recovered_fraction f s =
      subst (λ b. IsOnlyReconstruction x m bound (fraction_value f).num b) (sym (same_denominator (fraction_value f) (parts n d) f.reduced reduced s))
      (subst (λ a. IsOnlyReconstruction x m bound a d) (sym (same_numerator (fraction_value f) (parts n d) f.reduced reduced s)) h)

  -- and there is one
  pub no_fault : (e : FractionFault) → ¬ IsFractionFault n (pos d) e
  no_fault Zero i = let p = h.is.positive in absurd (positive_not_zero d p i)
  no_fault TooBig i = i.1 (record { reduced = parts n d; lowest = reduced; small = small; same = same_refl (parts n d) })

module _ {D : ℕ} (m bound : ℕ) (x : ℕ → ℕ) (r : Row Fraction D) where
  abbrev Has : ℕ → Type 0
  Has c = IsOnlyReconstruction (x c) m bound (row_part fraction_value r c).num (row_part fraction_value r c).den

  pub flat_row : D ≡ 2 → Has 0 → Has 1 → Same 0 (fraction_value r.z) (whole (pos 0)) → IsRecoveredRow m bound x r
  flat_row e a b s = record { each = by; flat = λ f. zero_numerator (fraction_value r.z) s }
    where
      by : (c : ℕ) → c < D → Has c
      by zero l = a
      by (suc zero) l = b
      by (suc (suc c)) l = absurd (omega (arith, l, e))

  pub full_row : D ≡ 3 → Has 0 → Has 1 → Has 2 → IsRecoveredRow m bound x r
  full_row e a b h = record { each = by; flat = λ f. absurd (omega (arith, e, f)) }
    where
      by : (c : ℕ) → c < D → Has c
      by zero l = a
      by (suc zero) l = b
      by (suc (suc zero)) l = h
      by (suc (suc (suc c))) l = absurd (omega (arith, l, e))

-- one row more
pub recovered_pushed : {M D : ℕ} (firsts nexts : List (Row (Residue M) D)) (xs : List (Row Fraction D)) (x : Row Fraction D) (f n : Row (Residue M) D) (k : ℕ)
    → length xs ≡ k → k < length firsts → k < length nexts → f ≡ get_or firsts k f → n ≡ get_or nexts k n
    → AreRecovered firsts nexts xs k → IsRecoveredRow (M * M) (2 ^ 58) (lifted_part f n) x → AreRecovered firsts nexts (xs ++ (x ∷ [])) (k + 1)
recovered_pushed {M} firsts nexts xs x f n k count bf bn ef en h s = record {
  each = λ i d a b l. ⊎_elim
      (λ q. subst (λ t. IsRecoveredRow (M * M) (2 ^ 58) (lifted_part (get_or firsts i a) (get_or nexts i b)) t) (sym q.1) (h.each i d a b q.0))
      (λ q. subst (λ t. IsRecoveredRow (M * M) (2 ^ 58) (lifted_part (get_or firsts i a) (get_or nexts i b)) t) (sym q.1)
      (subst (λ j. IsRecoveredRow (M * M) (2 ^ 58) (lifted_part (get_or firsts j a) (get_or nexts j b)) x) (sym q.0)
      (subst (λ t. IsRecoveredRow (M * M) (2 ^ 58) (lifted_part t (get_or nexts k b)) x) (ef ∙ get_or_default firsts k f a bf)
      (subst (λ t. IsRecoveredRow (M * M) (2 ^ 58) (lifted_part f t) x) (en ∙ get_or_default nexts k n b bn) s)))) (get_pushed xs x d i k count l);
}
