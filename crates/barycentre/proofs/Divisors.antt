-- What fits 128 bits: to + d·s - from, for positions up to 2^102, and d and s within their limits. Fractions in lowest terms: what their denominator
-- divides, and that it is the only one. The least common multiple of denominators, place by place, and the steps towards it. Fractions as positions in
-- whole units of a common denominator.
use Rattle.std.proofs.Common.{arith, ◌+◌, ◌*◌, ◌^◌, ◌≡◌, ℕ, ◌≤◌, ap, sym, refl, ◌∙◌, ◌⊎◌, inl, inr, zero, suc, ◌<◌, [], ◌∷◌, length, get_or, subst, ⊎_elim}
use Rattle.std.proofs.Common.{◌-◌, ◌/◌, List, ◌++◌, length-append, to_z, of_z}
use Rattle.std.proofs.lemmas.Int.{unsigned_abs-mul, ints, to_z-of_z, fits_signed_from_abs}
use Rattle.std.proofs.lemmas.Nat.Gcd.{IsGcd-swap, dvd_antisymm, dvd_trans}
use Rattle.std.proofs.Math.Nat.{mul_comm, one-dvd, mul-pos, mul_assoc, div-mul_cancel, mul-le-mul}
use Rattle.std.specs.Prelude.{ℤ, pos, ◌*ℤ◌, unsigned_abs, ◌≤ℤ◌, FitsSigned}
use Rattle.std.specs.Int.{◌∣◌, IsGcd, w64, w128}
use Rattle.std.{proofs.lemmas.List.get_or_append_left, proofs.lemmas.List.get_or_push, proofs.lemmas.Bool.cases_lt, specs.List.Contains}
use Rattle.integers.specs.Vectors.{Vector, IsWithin, zero_vector}
use Rattle.integers.proofs.numbers.Ring.{ring, linear, cancel_factor, positive_not_zero, product_associative, zero_product}
use Rattle.integers.proofs.numbers.Divisors.{euclid, divides_multiple, least_multiple_of_two, Bezout, bezout, first_factor_positive, factor_positive}
use Rattle.integers.{specs.Divisors.IsLeastMultiple, specs.Staircase.part, proofs.vectors.Bounds.bounded_product, proofs.vectors.Bounds.fits_from_bound}
use Rattle.periodic_net.specs.{Limits.most_shift, Limits.most_units, Graph.Graph, Graph.IsQuotientVertex}
use Rattle.exact.specs.{Ratio.Ratio, Ratio.IsInLowestTerms, Combination.IsCombination}
use Rattle.fraction.specs.Reduced.{HasSmallParts}
use Rattle.quotient_graph.specs.PlacedNets.{placement_of}
use Rattle.barycentre.specs.Multiples.{IsCoordinate, IsUpTo, IsLeastMultipleUpTo, IsDenominatorAt}
use Rattle.barycentre.specs.Denominators.{IsUsable, IsStep, IsWideStep, HasParts, IsPartStep, IsRowStep, IsWideRow, HasSize, IsLeastUpTo}
use Rattle.barycentre.specs.Denominators.{IsCommonDenominator, IsFirstPast}
use Rattle.barycentre.specs.Units.{IsUnits, IsRowDivided, IsInUnits, AreDivided, AreInUnits}
use Rattle.barycentre.specs.{WidePlacements.IsLowestDenominator, Positions.IsScaled, declared.faults.WideSite.TheVariants.Denominator}
use Rattle.barycentre.specs.{declared.faults.WidePlacement.WidePlacement}

-- a multiple of a shift
pub sum_argument : (v : Vector) → IsWithin (most_units * most_shift) v → IsWithin (2 ^ 125) v
sum_argument v h = let x = h.0 in let y = h.1 in let z = h.2 in (omega (arith, x), omega (arith, y), omega (arith, z))

-- a position with such a multiple
pub sum_within : (v : Vector) → IsWithin (2 ^ 102 + most_units * most_shift) v → IsWithin (2 ^ 125) v
sum_within v h = let x = h.0 in let y = h.1 in let z = h.2 in (omega (arith, x), omega (arith, y), omega (arith, z))

-- if n times the fraction is whole, its denominator divides n
pub denominator_divides : (r : Ratio) (n : ℕ) (y : ℤ) → IsInLowestTerms r → r.num *ℤ pos n ≡ y *ℤ pos r.den → r.den ∣ n
denominator_divides r n y h e =
    let sizes : unsigned_abs r.num * n ≡ r.den * unsigned_abs y = sym (unsigned_abs-mul r.num (pos n)) ∙ ap unsigned_abs e ∙ unsigned_abs-mul y (pos r.den)
    ∙ mul_comm (unsigned_abs y) r.den in
    euclid r.den (unsigned_abs r.num) n (IsGcd-swap (unsigned_abs r.num) r.den 1 h.coprime)
    (divides_multiple r.den (unsigned_abs r.num * n) (unsigned_abs y, sizes))

-- the denominator of x/n in lowest terms divides n
pub lowest_divides : (x : ℤ) (n d : ℕ) → IsLowestDenominator x n d → d ∣ n
lowest_divides x n d h =
    denominator_divides (record { num = h.numerator; den = d }) n x (record { positive = h.positive; coprime = h.coprime }) (sym h.same)

-- a denominator in lowest terms is that of the fraction
exchange_step : (n x d k num den : ℤ) → x *ℤ d ≡ k *ℤ n → x *ℤ den ≡ num *ℤ n → n *ℤ (num *ℤ d) ≡ n *ℤ (k *ℤ den)
exchange_step n x d k num den e f =
    let p = ap (λ t. t *ℤ den) e in let q = ap (λ t. t *ℤ d) f in
    simp ring (omega (arith, linear, simp ring at p, simp ring at q))

pub lowest_is : (r : Ratio) (x : ℤ) (n d : ℕ) → 1 ≤ n → IsInLowestTerms r → x *ℤ pos r.den ≡ r.num *ℤ pos n → IsLowestDenominator x n d → d ≡ r.den
lowest_is r x n d one h e l =
    let same : r.num *ℤ pos d ≡ l.numerator *ℤ pos r.den = cancel_factor (pos n) (r.num *ℤ pos d) (l.numerator *ℤ pos r.den) (positive_not_zero n one)
    (exchange_step (pos n) x (pos d) l.numerator r.num (pos r.den) l.same e) in
    dvd_antisymm (denominator_divides (record { num = l.numerator; den = d }) r.den r.num (record { positive = l.positive; coprime = l.coprime }) (sym same))
    (denominator_divides r d l.numerator h same)

-- and that of the fraction is one
pub is_lowest : (r : Ratio) (x : ℤ) (n : ℕ) → IsInLowestTerms r → x *ℤ pos r.den ≡ r.num *ℤ pos n → IsLowestDenominator x n r.den
is_lowest r x n h e = record { numerator = r.num; positive = h.positive; coprime = h.coprime; same = e }

-- 0 has the denominator 1
pub zero_is_whole : (r : Ratio) → IsInLowestTerms r → r.num ≡ pos 0 → r.den ≡ 1
zero_is_whole r h e = dvd_antisymm (denominator_divides r 1 (pos 0) h (ap (λ x. x *ℤ pos 1) e ∙ sym (zero_product (pos r.den)))) (one-dvd r.den)

-- The least common multiple of two numbers.

module _ (a b : ℕ) where
  -- what is in a list of two is the one or the other
  one_of_two : (x : ℕ) → Contains (a ∷ b ∷ []) x → (x ≡ a) ⊎ (x ≡ b)
  one_of_two x c = search arith

  first_in : Contains (a ∷ b ∷ []) a
  first_in = (0, omega arith, refl)

  second_in : Contains (a ∷ b ∷ []) b
  second_in = (1, omega arith, refl)

  module _ (n : ℕ) where
    pub least_of_two : a ∣ n → b ∣ n → ((k : ℕ) → a ∣ k → b ∣ k → n ∣ k) → IsLeastMultiple (a ∷ b ∷ []) n
    least_of_two f s l = record {
      multiple = λ x i. ⊎_elim (λ (e : x ≡ a). subst (λ t. t ∣ n) (sym e) f) (λ e. subst (λ t. t ∣ n) (sym e) s) (one_of_two x i);
      least = λ k h. l k (h a first_in) (h b second_in);
    }

    module _ (h : IsLeastMultiple (a ∷ b ∷ []) n) where
      pub first_divides : a ∣ n
      first_divides = h.multiple a first_in

      pub second_divides : b ∣ n
      second_divides = h.multiple b second_in

      pub divides_each : (k : ℕ) → a ∣ k → b ∣ k → n ∣ k
      divides_each k f s = h.least k (λ x i. ⊎_elim (λ (e : x ≡ a). subst (λ t. t ∣ k) (sym e) f) (λ e. subst (λ t. t ∣ k) (sym e) s) (one_of_two x i))

-- two positive numbers have a least common multiple, which is positive
pub record Together (a b : ℕ) : Type 0 where
  pub n : ℕ
  pub positive : 1 ≤ n
  pub least : IsLeastMultiple (a ∷ b ∷ []) n

pub two_have_least : (a b : ℕ) → 1 ≤ a → 1 ≤ b → Together a b
two_have_least a b i j = by (bezout a b)
  where
    by : Bezout a b → Together a b
    by z =
        let l = least_multiple_of_two a b z in let a_is : 1 ≤ z.g * z.k = subst (λ x. 1 ≤ x) z.a_is i in
        let b_is : 1 ≤ z.g * z.l = subst (λ x. 1 ≤ x) z.b_is j in
        record {
          n = z.g * (z.k * z.l);
          positive = mul-pos (first_factor_positive z.g z.k a_is) (mul-pos (factor_positive z.g z.k a_is) (factor_positive z.g z.l b_is));
          least = least_of_two a b (z.g * (z.k * z.l)) l.0 l.1 l.2;
        }

module _ (G : Graph) (p : ℕ → ℕ → Ratio) where
  -- nothing comes up to the first place
  nothing_before : (v e : ℕ) → IsQuotientVertex G v → IsCoordinate G e → IsUpTo v e 1 0 → ⊥
  nothing_before v e q i o = ⊎_elim (λ (l : v < 1). let h = q.0 in omega arith) (λ s. let l = s.1 in let h = i.0 in omega arith) o

  pub least_none : IsLeastMultipleUpTo G (IsDenominatorAt p) 1 0 1
  least_none = record { multiple = λ v e d q i o a. absurd (nothing_before v e q i o); least = λ k h. one-dvd k }

  -- what comes up to one coordinate more comes up to the coordinate before, or is that one
  one_more : (v e u c : ℕ) → IsUpTo v e u (c + 1) → IsUpTo v e u c ⊎ ((v ≡ u) × (e ≡ c + 1))
  one_more v e u c o = search (arith, cases_lt)

  more : (v e u c : ℕ) → IsUpTo v e u c → IsUpTo v e u (c + 1)
  more v e u c o = ⊎_elim (λ (l : v < u). inl l) (λ s. let l = s.1 in inr (s.0, omega arith)) o

  -- the denominator at coordinate c + 1
  here : (v e u c d : ℕ) → v ≡ u → e ≡ c + 1 → IsDenominatorAt p v e d → d ≡ (p u c).den
  here v e u c d s t a = let k : e - 1 ≡ c = omega arith in a ∙ ap (λ x. (p x (e - 1)).den) s ∙ ap (λ x. (p u x).den) k

  itself : (u c : ℕ) → IsDenominatorAt p u (c + 1) (p u c).den
  itself u c = let k : c ≡ c + 1 - 1 = omega arith in ap (λ x. (p u x).den) k

  pub least_more : (u c m n : ℕ) → IsQuotientVertex G u → c < G.dimension → IsLeastMultipleUpTo G (IsDenominatorAt p) u c m
      → IsLeastMultiple (m ∷ (p u c).den ∷ []) n
      → IsLeastMultipleUpTo G (IsDenominatorAt p) u (c + 1) n
  least_more u c m n q d h two = record {
    multiple = λ v e x i j o a. ⊎_elim (λ (b : IsUpTo v e u c). dvd_trans x (h.multiple v e x i j b a) (first_divides m (p u c).den n two))
        (λ s. subst (λ y. y ∣ n) (sym (here v e u c x s.0 s.1 a)) (second_divides m (p u c).den n two)) (one_more v e u c o);
    least = λ k a. divides_each m (p u c).den n two k (h.least k (λ v e x i j o b. a v e x i j (more v e u c o) b))
        (a u (c + 1) (p u c).den q (omega arith, omega arith) (inr (refl, omega arith)) (itself u c));
  }

  -- once all coordinates are passed, the next vertex begins
  next_vertex : (v e u : ℕ) → IsCoordinate G e → IsUpTo v e (u + 1) 0 → IsUpTo v e u G.dimension
  next_vertex v e u i o = search (arith, cases_lt)

  same_vertex : (v e u : ℕ) → IsUpTo v e u G.dimension → IsUpTo v e (u + 1) 0
  same_vertex v e u o = ⊎_elim (λ (l : v < u). inl (omega arith)) (λ s. let q = s.0 in inl (omega arith)) o

  pub least_row : (u n : ℕ) → IsLeastMultipleUpTo G (IsDenominatorAt p) u G.dimension n → IsLeastMultipleUpTo G (IsDenominatorAt p) (u + 1) 0 n
  least_row u n h = grind (arith, next_vertex, same_vertex)

  -- the denominators up to the last vertex divide their common multiple, and what they all divide it divides
  module _ (n : ℕ) (h : IsLeastMultipleUpTo G (IsDenominatorAt p) (G.vertices + 1) 0 n) where
    pub all_divide : (u c : ℕ) → IsQuotientVertex G u → c < G.dimension → (p u c).den ∣ n
    all_divide u c q d = h.multiple u (c + 1) (p u c).den q (omega arith, omega arith) (inl (let l = q.1 in omega arith)) (itself u c)

    pub divides_common : (k : ℕ) → ((u c : ℕ) → IsQuotientVertex G u → c < G.dimension → (p u c).den ∣ k) → n ∣ k
    divides_common k a = h.least k (λ v e d q i o b. subst (λ x. x ∣ k) (sym b) (a v (e - 1) q (let l = i.0 in let m = i.1 in omega arith)))

  -- a least common multiple, as a number with its property
  pub record HasLeast (u c : ℕ) : Type 0 where
    pub n : ℕ
    pub positive : 1 ≤ n
    pub least : IsLeastMultipleUpTo G (IsDenominatorAt p) u c n

  module _ (dens : (u c : ℕ) → IsQuotientVertex G u → c < G.dimension → 1 ≤ (p u c).den) where
    coordinates_have_least : (u c : ℕ) → IsQuotientVertex G u → c ≤ G.dimension → HasLeast u 0 → HasLeast u c
    coordinates_have_least u zero q d h = h
    coordinates_have_least u (suc c) q d h =
        let r = coordinates_have_least u c q (omega arith) h in
        let t = two_have_least r.n (p u c).den r.positive (dens u c q (omega arith)) in
        let s : c + 1 ≡ suc c = omega arith in
        record {
          n = t.n;
          positive = t.positive;
          least = subst (λ x. IsLeastMultipleUpTo G (IsDenominatorAt p) u x t.n) s
              (least_more u c r.n t.n q (omega arith) r.least t.least);
        }

    -- the least common multiple of the first k vertices
    pub vertices_have_least : (k : ℕ) → k ≤ G.vertices → HasLeast (k + 1) 0
    vertices_have_least zero l = record { n = 1; positive = omega arith; least = least_none }
    vertices_have_least (suc k) l =
        let before = vertices_have_least k (omega arith) in
        let r = coordinates_have_least (k + 1) G.dimension (omega arith, omega arith) (omega arith) before in
        let s : k + 1 + 1 ≡ suc k + 1 = omega arith in
        record { n = r.n; positive = r.positive; least = subst (λ x. IsLeastMultipleUpTo G (IsDenominatorAt p) x 0 r.n) s (least_row (k + 1) r.n r.least) }

-- The steps towards the common denominator.

module _ (a b g : ℕ) (positive : 1 ≤ b) (greatest : IsGcd a b g) (combination : IsCombination a b g) where
  times_quotient : (x : ℕ) → g ∣ x → x ≡ g * (x / g)
  times_quotient x d = sym (mul_comm g (x / g) ∙ div-mul_cancel g d)

  second_positive : 1 ≤ g * (b / g)
  second_positive = subst (λ t. 1 ≤ t) (times_quotient b greatest.1) positive

  -- a common divisor of a positive number is positive
  pub divisor_positive : 1 ≤ g
  divisor_positive = first_factor_positive g (b / g) second_positive

  pub quotient_positive : 1 ≤ b / g
  quotient_positive = factor_positive g (b / g) second_positive

  divisor : Bezout a b
  divisor = search (arith, times_quotient)

  -- the least common multiple, by the greatest common divisor
  pub least_product : IsLeastMultiple (a ∷ b ∷ []) (a * (b / g))
  unfolding divisor
  least_product =
      let l = least_multiple_of_two a b divisor in
      let e : g * ((a / g) * (b / g)) ≡ a * (b / g) = sym (mul_assoc g (a / g) (b / g)) ∙ ap (λ t. t * (b / g)) (sym (times_quotient a greatest.0)) in
      subst (λ t. IsLeastMultiple (a ∷ b ∷ []) t) e (least_of_two a b (g * ((a / g) * (b / g))) l.0 l.1 l.2)

module _ (d u : ℕ) (parts : ℕ → Ratio) (m : ℕ) where
  pub no_parts : IsUsable m → IsPartStep d u parts m 0 m
  no_parts h = record { usable = h; least = λ G p a l. l }

  -- the denominator of the position is that of the part
  same_step : (G : Graph) (p : ℕ → ℕ → Ratio) → HasParts G p d u parts → (c n k : ℕ) → IsLeastMultiple (n ∷ (parts c).den ∷ []) k
      → IsLeastMultiple (n ∷ (p u c).den ∷ []) k
  same_step G p a c n k h = subst (λ (r : Ratio). IsLeastMultiple (n ∷ r.den ∷ []) k) (sym (a.each c)) h

  inside : (G : Graph) (p : ℕ → ℕ → Ratio) → HasParts G p d u parts → (c : ℕ) → c < d → c < G.dimension
  inside G p a c l = subst (λ t. c < t) (sym a.dimension) l

  pub one_part : (c n k : ℕ) → c < d → IsPartStep d u parts m c n → IsStep n (parts c).den k → IsPartStep d u parts m (c + 1) k
  one_part c n k l h s = record {
    usable = s.usable;
    least = λ G p a b. least_more G p u c n k a.vertex (inside G p a c l) (h.least G p a b) (same_step G p a c n k s.least);
  }

  -- all parts are passed
  pub all_parts : (n : ℕ) → IsPartStep d u parts m d n → IsRowStep d u parts m n
  all_parts n h = record {
    usable = h.usable;
    least = λ G p a b. least_row G p u n (subst (λ t. IsLeastMultipleUpTo G (IsDenominatorAt p) u t n) (sym a.dimension) (h.least G p a b));
  }

  -- a part at which the limit is passed
  pub wide_part : (c n : ℕ) (w : WidePlacement) → c < d → IsPartStep d u parts m c n → IsWideStep n (parts c).den (Denominator u (c + 1)) w
      → IsWideRow d u parts m w
  wide_part c n w l h s = record {
    first = λ G p a b. record {
      u = u;
      c = c;
      m = n;
      n = s.n;
      vertex = a.vertex;
      place = inside G p a c l;
      usable = h.usable;
      before = h.least G p a b;
      here = least_more G p u c n s.n a.vertex (inside G p a c l) (h.least G p a b) (same_step G p a c n s.n s.least);
      wide = s.wide;
      site = s.site;
      value = s.value;
    };
  }

  pub two_parts : (x y : ℕ) → 1 < d → IsUsable m → IsStep m (parts 0).den x → IsStep x (parts 1).den y → IsPartStep d u parts m 2 y
  two_parts x y l h a b = one_part 1 x y l (one_part 0 m x (omega arith) (no_parts h) a) b

module _ (d n : ℕ) (p : ℕ → ℕ → Ratio) where
  pub none_passed : IsLeastUpTo d n p 0 1
  none_passed = record { usable = record { positive = omega arith; small = omega arith }; least = λ G s. least_none G p }

  -- vertex k + 1 of any such graph has the parts of the row at k
  has_parts : (G : Graph) → HasSize G d n → (k : ℕ) (parts : ℕ → Ratio) → k < n → ((c : ℕ) → p (k + 1) c ≡ parts c) → HasParts G p d (k + 1) parts
  has_parts G s k parts l e = let v = s.1 in record { dimension = s.0; vertex = (omega arith, omega arith); each = e }

  pub one_passed : (k m j : ℕ) (parts : ℕ → Ratio) → k < n → ((c : ℕ) → p (k + 1) c ≡ parts c) → IsLeastUpTo d n p k m → IsRowStep d (k + 1) parts m j
      → IsLeastUpTo d n p (k + 1) j
  one_passed k m j parts l e h r = record { usable = r.usable; least = λ G s. r.least G p (has_parts G s k parts l e) (h.least G s) }

  pub past_limit : (k m : ℕ) (parts : ℕ → Ratio) (w : WidePlacement) → k < n → ((c : ℕ) → p (k + 1) c ≡ parts c) → IsLeastUpTo d n p k m
      → IsWideRow d (k + 1) parts m w → IsFirstPast d n p w
  past_limit k m parts w l e h r = record { first = λ G s. r.first G p (has_parts G s k parts l e) (h.least G s) }

  pub all_passed : (k m : ℕ) → k ≡ n → IsLeastUpTo d n p k m → IsCommonDenominator d n p m
  all_passed k m e h = record {
    usable = h.usable;
    least = λ G s. subst (λ t. IsLeastMultipleUpTo G (IsDenominatorAt p) (t + 1) 0 m) (e ∙ sym s.1)
        (h.least G s);
  }

-- x is r in units of 1/m, and so are its 128 bits
pub record IsProduct (r : Ratio) (m : ℕ) (x : ℤ) : Type 0 where
  pub fits : FitsSigned w128 x
  pub units : IsUnits r m (to_z w128 (of_z w128 x))
  pub reach : unsigned_abs (to_z w128 (of_z w128 x)) ≤ 2 ^ 102

module _ (r : Ratio) (m : ℕ) (reduced : IsInLowestTerms r) (parts : HasSmallParts r) (usable : IsUsable m) (divides : r.den ∣ m) where
  -- how many units of 1/m are in 1/den
  pub scale_small : m / r.den ≤ most_units
  scale_small = omega (arith, div-mul_cancel, mul-le-mul)

  units_small : unsigned_abs (r.num *ℤ pos (m / r.den)) ≤ 2 ^ 102
  units_small = search (arith, bounded_product, scale_small)

  units_fit : FitsSigned w128 (r.num *ℤ pos (m / r.den))
  units_fit = fits_from_bound (r.num *ℤ pos (m / r.den)) (2 ^ 102) (omega arith) units_small

  are_units : IsUnits r m (r.num *ℤ pos (m / r.den))
  are_units = product_associative r.num (pos (m / r.den)) (pos r.den) ∙ ap (λ (t : ℕ). r.num *ℤ pos t) (div-mul_cancel r.den divides)

  product_is : (n d : ℤ) (u : ℕ) → n ≡ r.num → d ≡ pos r.den → u ≡ unsigned_abs (to_z w64 (of_z w64 d))
      → to_z w128 (of_z w128 (to_z w64 (of_z w64 n))) *ℤ to_z w128 (m / u) ≡ r.num *ℤ pos (m / r.den)
  product_is n d u en ed eu =
      let s = parts in let q = scale_small in
      let n_small : unsigned_abs n ≤ 2 ^ 62 = subst (λ (t : ℤ). unsigned_abs t ≤ 2 ^ 62) (sym en) (let a = s.0 in omega (arith, a)) in
      let d_small : unsigned_abs d ≤ 2 ^ 62 = subst (λ (t : ℤ). unsigned_abs t ≤ 2 ^ 62) (sym ed) (let a = s.1 in omega (arith, a)) in
      let fn : FitsSigned w64 n = fits_signed_from_abs w64 n (omega (arith, n_small)) in
      let gn : FitsSigned w128 n = fits_signed_from_abs w128 n (omega (arith, n_small)) in
      let fd : FitsSigned w64 d = fits_signed_from_abs w64 d (omega (arith, d_small)) in
      let pn : to_z w128 (of_z w128 (to_z w64 (of_z w64 n))) ≡ r.num = simp to_z-of_z en in
      let pu : u ≡ r.den = (simp to_z-of_z at eu) ∙ ap unsigned_abs ed in
      let scale : to_z w128 (m / r.den) ≡ pos (m / r.den) = omega (arith, ints, q) in
      let pq : to_z w128 (m / u) ≡ pos (m / r.den) = ap (λ (t : ℕ). to_z w128 (m / t)) pu ∙ scale in
      λ i. pn i *ℤ pq i

  -- the product, as the code has it
  pub product_in_units : (n d : ℤ) (u : ℕ) → n ≡ r.num → d ≡ pos r.den → u ≡ unsigned_abs (to_z w64 (of_z w64 d))
      → IsProduct r m (to_z w128 (of_z w128 (to_z w64 (of_z w64 n))) *ℤ to_z w128 (m / u))
  product_in_units n d u en ed eu =
      let fits = units_fit in
      rw (product_is n d u en ed eu) (record { fits = units_fit; units = simp to_z-of_z are_units; reach = simp to_z-of_z units_small })

-- a list with one more vector
pub length_pushed : (items made : List Vector) (v : Vector) (k : ℕ) → items ≡ made ++ v ∷ [] → length made ≡ k → length items ≡ k + 1
length_pushed items made v k e n = ap length e ∙ length-append made (v ∷ []) ∙ ap (λ (j : ℕ). j + 1) n

module _ (p : ℕ → ℕ → Ratio) (m : ℕ) where
  -- one more vertex
  pub one_in_units : (at : List Vector) (v : Vector) (parts : ℕ → Ratio) → ((c : ℕ) → p (length at + 1) c ≡ parts c) → IsInUnits parts m v → AreInUnits p m at
      → AreInUnits p m (at ++ v ∷ [])
  one_in_units at v parts e h before = record {
    each = λ u c i j l. ⊎_elim
        (λ (b : length at < u). let last : u ≡ length at + 1 = let n = length-append at (v ∷ []) in omega (arith, n, j) in
        subst (λ (x : ℕ). IsUnits (p x c) m (part c (get_or (at ++ v ∷ []) (x - 1) zero_vector))) (sym last) (here c l))
        (λ b. subst (λ (w : Vector). IsUnits (p u c) m (part c w)) (sym (get_or_append_left at (v ∷ []) zero_vector (u - 1) (omega arith)))
        (before.each u c i b l)) (cases_lt (length at) u);
  }
    where
      here : (c : ℕ) → c < 3 → IsUnits (p (length at + 1) c) m (part c (get_or (at ++ v ∷ []) (length at + 1 - 1) zero_vector))
      here c l = grind (arith, get_or_push)

  -- one more vertex, pushed to a list
  pub pushed : (items made : List Vector) (v : Vector) (k : ℕ) (parts : ℕ → Ratio) → items ≡ made ++ v ∷ [] → length made ≡ k
      → ((c : ℕ) → p (k + 1) c ≡ parts c) → IsInUnits parts m v → AreInUnits p m made → AreInUnits p m items
  pushed items made v k parts e n same h before = search (arith, one_in_units)

  -- the denominators of one row divide what those of all rows do
  pub row_divided : (n k : ℕ) (parts : ℕ → Ratio) → k < n → ((c : ℕ) → p (k + 1) c ≡ parts c) → AreDivided p n m → IsRowDivided parts m
  row_divided n k parts l e h = record { each = λ c i. subst (λ (r : Ratio). r.den ∣ m) (e c) (h.each (k + 1) c (omega arith) (omega arith) i) }

-- the positions of all vertices in whole units
pub in_units_scaled : (G : Graph) (p : ℕ → ℕ → Ratio) (d0 : ℤ) (at : List Vector) → pos 1 ≤ℤ d0 → length at ≡ G.vertices → AreInUnits p (unsigned_abs d0) at
    → IsScaled G p (placement_of d0 at)
in_units_scaled G p d0 at positive count h = search arith
