-- What the arcs of a vertex lead, as values modulo m. A vertex of a graph is at the mean of its neighbours just if its weights and its sum of shifts
-- say so. If all vertices but vertex 1 are at the means of their neighbours, so is vertex 1: the two arcs of an edge lead opposite ways.
pub use Rattle.integers.proofs.lists.Members.{map_same}
use Rattle.std.proofs.Common.{◌≡◌, ℕ, List, [], ◌∷◌, ap, sym, refl, ◌∙◌, arith, subst, cond, ◌+◌, ◌≤◌, Bool, false, ◌<◌, zero, suc}
use Rattle.std.proofs.lemmas.Bool.{cond_both, cond-true, and_parts, and_from, leb-true, le-leb, cases_eq, ne_eqb, cond-false}
use Rattle.std.specs.Prelude.{ℤ, pos, ◌+ℤ◌, ◌-ℤ◌, ◌*ℤ◌, map, ◌&&◌, ◌==◌, count_by, neg_ℤ}
use Rattle.std.proofs.{Math.Dec.leb, lemmas.List.Sums.sum_by-cons}
use Rattle.integers.{specs.Lists.total, specs.Staircase.part, proofs.numbers.Ring.ring, proofs.numbers.Ring.linear, proofs.lists.Members.IsIn}
use Rattle.integers.{proofs.lists.Members.contains_from_in}
use Rattle.periodic_net.specs.Graph.{Graph, Arc, arcs_from, IsGraph, IsQuotientVertex, reverse_of, both_ways, arcs}
use Rattle.periodic_net.proofs.CallerLemmas.{from_is_arc, arc_inside}
use Rattle.exact.specs.Ratio.{Ratio, Same, ratio_plus, ratio_minus, whole, IsDenominator}
use Rattle.exact.proofs.CallerLemmas.{one_cancels, plus_cancels, product_cancels, Value, class, formal, plus_value, whole_value, values, class_same}
use Rattle.exact.proofs.CallerLemmas.{class_plus, class_whole, denominator_cancels, plus_value_cancel, times_value, times_value_comm, times_value_zero}
use Rattle.exact.proofs.CallerLemmas.{times_value_one, plus_value_comm, plus_value_assoc}
use Rattle.exact.specs.Values.{CanCancel}
use Rattle.elimination.specs.Equations.{ratio_sum, arc_gain, IsAtMean}
use Rattle.elimination.specs.RightHand.{arc_difference, IsBalanced, ratio_total}
use Rattle.elimination.proofs.Elimination.{same_of_class, sum_over, over_plus, nought_plus, plus_times, sum_below, sum_same, times_sum, over_same}
use Rattle.elimination.proofs.Elimination.{at_number, grouped, IsMean, swap_last, middle, sum_first, over_filter, sum_plus}
use Rattle.elimination.{specs.Listed.arc_count, specs.Listed.shift_sum, proofs.ArcSums.shift_sum_total, proofs.ArcSums.part_opposite}

-- the denominator of a difference
pub minus_cancels : {m : ℕ} (a b : Ratio) → CanCancel m (pos a.den) → CanCancel m (pos b.den) → CanCancel m (pos (ratio_minus a b).den)
unfolding ratio_minus
minus_cancels a b h i = product_cancels h i

module _ (m : ℕ) where
  back_step : (an ad bn bd : ℤ) → ((an *ℤ bd -ℤ bn *ℤ ad) *ℤ bd +ℤ bn *ℤ (ad *ℤ bd)) *ℤ ad ≡ an *ℤ ((ad *ℤ bd) *ℤ bd)
  back_step an ad bn bd = simp ring (omega (arith, linear))

  -- (a - b) + b is the value a
  pub minus_plus : (a b : Ratio) → Same m (ratio_plus (ratio_minus a b) b) a
  unfolding ratio_plus ratio_minus
  minus_plus a b = formal m _ _ _ _ (ratio_plus (ratio_minus a b) b) a refl refl refl refl (back_step a.num (pos a.den) b.num (pos b.den))

  whole_step : (x y : ℤ) → (x *ℤ pos 1 +ℤ y *ℤ pos 1) *ℤ pos 1 ≡ (x +ℤ y) *ℤ pos 1
  whole_step x y = simp ring (omega (arith, linear))

  -- the sum of whole numbers
  whole_formal : (x y : ℤ) → Same m (ratio_plus (whole x) (whole y)) (whole (x +ℤ y))
  unfolding ratio_plus
  whole_formal x y = formal m _ _ _ _ (ratio_plus (whole x) (whole y)) (whole (x +ℤ y)) refl refl refl refl (whole_step x y)

  -- its class is the sum of their classes
  pub whole_plus : (x y : ℤ) → whole_value m (x +ℤ y) ≡ plus_value m (whole_value m x) (whole_value m y)
  whole_plus x y =
      class_whole m (x +ℤ y) one_cancels
      ∙ sym (class_same m (ratio_plus (whole x) (whole y)) (whole (x +ℤ y)) (plus_cancels (whole x) (whole y) one_cancels one_cancels) one_cancels
      (whole_formal x y))
      ∙ sym (class_plus m (whole x) (whole y) one_cancels one_cancels _)
      ∙ (λ i. plus_value m (sym (class_whole m x one_cancels) i) (sym (class_whole m y one_cancels) i))

  -- the class of a sum of whole numbers over a list
  pub whole_total : {X : Type 0} (g : X → ℤ) (xs : List X) → whole_value m (total g xs) ≡ sum_over (values m) (λ x. whole_value m (g x)) xs
  whole_total g [] = refl
  whole_total g (x ∷ xs) = whole_plus (g x) (total g xs) ∙ ap (plus_value m (whole_value m (g x))) (whole_total g xs)

  -- the denominator of a sum of values over a list
  pub over_cancels : {X : Type 0} (f : X → Ratio) → ((x : X) → CanCancel m (pos (f x).den)) → (xs : List X) → CanCancel m (pos (ratio_sum (map f xs)).den)
  over_cancels f h [] = one_cancels
  over_cancels f h (x ∷ xs) = plus_cancels (f x) (ratio_sum (map f xs)) (h x) (over_cancels f h xs)

  -- its class is the sum of the classes
  pub over_class : {X : Type 0} (f : X → Ratio) (h : (x : X) → CanCancel m (pos (f x).den)) (xs : List X)
      → class m (ratio_sum (map f xs)) (over_cancels f h xs) ≡ sum_over (values m) (λ x. class m (f x) (h x)) xs
  unfolding over_cancels
  over_class f h [] = sym (class_whole m (pos 0) one_cancels)
  over_class f h (x ∷ xs) =
      sym (class_plus m (f x) (ratio_sum (map f xs)) (h x) (over_cancels f h xs) _) ∙ ap (plus_value m (class m (f x) (h x))) (over_class f h xs)

  module _ (c : ℕ) (p : ℕ → Ratio) (h : (u : ℕ) → CanCancel m (pos (p u).den)) where
    -- the denominator of a gain
    pub gain_cancels : (a : Arc) → CanCancel m (pos (arc_gain p c a).den)
    gain_cancels a = search (arith, minus_cancels, plus_cancels, one_cancels)

    -- where a vertex stands, as a value
    abbrev pub stand : ℕ → Value m
    stand u = class m (p u) (h u)

    -- the shift of an arc, as a value
    abbrev pub step : Arc → Value m
    step a = whole_value m (part c a.shift)

    -- how far an arc leads, as a value
    unfoldable pub gain : Arc → Value m
    gain a = class m (arc_gain p c a) (gain_cancels a)

    -- from its tail it leads to its end, moved by its shift
    pub gain_plus : (a : Arc) → plus_value m (gain a) (stand a.from) ≡ plus_value m (stand a.to) (step a)
    unfolding gain
    gain_plus a =
        let end = ratio_plus (p a.to) (whole (part c a.shift)) in
        let end_cancels = plus_cancels (p a.to) (whole (part c a.shift)) (h a.to) one_cancels in
        class_plus m (arc_gain p c a) (p a.from) (gain_cancels a) (h a.from) (plus_cancels (arc_gain p c a) (p a.from) (gain_cancels a) (h a.from))
        ∙ class_same m (ratio_plus (arc_gain p c a) (p a.from)) end _ end_cancels (minus_plus end (p a.from))
        ∙ sym (class_plus m (p a.to) (whole (part c a.shift)) (h a.to) one_cancels end_cancels)
        ∙ ap (plus_value m (stand a.to)) (sym (class_whole m (part c a.shift) one_cancels))

    -- the gains and the tails of a list are its ends and its shifts
    pub gains_plus : (as' : List Arc) → plus_value m (sum_over (values m) gain as') (sum_over (values m) (λ a. stand a.from) as')
        ≡ plus_value m (sum_over (values m) (λ a. stand a.to) as') (sum_over (values m) step as')
    gains_plus as' =
        sym (over_plus (values m) gain (λ a. stand a.from) as') ∙ (λ i. sum_over (values m) (λ a. gain_plus a i) as')
        ∙ over_plus (values m) (λ a. stand a.to) step as'

    -- a vertex is at its mean if the gains of its arcs add up to 0
    pub gains_of_mean : (G : Graph) (u : ℕ) → IsAtMean m G c p u → sum_over (values m) gain (arcs_from G u) ≡ whole_value m (pos 0)
    unfolding gain
    gains_of_mean G u e =
        sym (over_class (arc_gain p c) gain_cancels (arcs_from G u)) ∙ class_same m (ratio_sum (map (arc_gain p c) (arcs_from G u)))
        (whole (pos 0)) _ one_cancels e.balance ∙ sym (class_whole m (pos 0) one_cancels)

    -- and the other way
    pub mean_of_gains : (G : Graph) (u : ℕ) → sum_over (values m) gain (arcs_from G u) ≡ whole_value m (pos 0) → IsAtMean m G c p u
    unfolding gain
    mean_of_gains G u e = record {
      balance = same_of_class m (ratio_sum (map (arc_gain p c) (arcs_from G u))) (whole (pos 0))
          (over_cancels (arc_gain p c) gain_cancels (arcs_from G u)) one_cancels
          (over_class (arc_gain p c) gain_cancels (arcs_from G u) ∙ e ∙ class_whole m (pos 0) one_cancels);
    }

-- Values at the vertices of a graph, with 0 at all other numbers, so that each denominator can be cancelled.

-- p at the vertices, and 0 elsewhere
abbrev pub kept : Graph → (ℕ → Ratio) → ℕ → Ratio
kept G p u = cond (leb 1 u && leb u G.vertices) (p u) (whole (pos 0))

-- at a vertex it is p
pub kept_is : (G : Graph) (p : ℕ → Ratio) (u : ℕ) → IsQuotientVertex G u → kept G p u ≡ p u
kept_is G p u h = search (arith, cond-true, leb, and_from, le-leb)

-- so values that are the same when kept are the same at a vertex
pub same_from_kept : (m : ℕ) (G : Graph) (p q : ℕ → Ratio) (u : ℕ) → IsQuotientVertex G u → Same m (kept G p u) (kept G q u) → Same m (p u) (q u)
same_from_kept m G p q u h s = subst (Same m (p u)) (kept_is G q u h) (subst (λ x. Same m x (kept G q u)) (kept_is G p u h) s)

-- its denominators can be cancelled
pub kept_cancels : (m : ℕ) (G : Graph) (p : ℕ → Ratio) → ((u : ℕ) → IsQuotientVertex G u → IsDenominator m (p u).den) → (u : ℕ)
    → CanCancel m (pos (kept G p u).den)
kept_cancels m G p h u = cond_both (leb 1 u && leb u G.vertices) (p u) (whole (pos 0)) (λ (t : Ratio). CanCancel m (pos t.den))
    (λ e. let q = and_parts (leb 1 u) (leb u G.vertices) e in denominator_cancels (h u (leb-true 1 u q.0, leb-true u G.vertices q.1))) (λ e. one_cancels)

-- so the gains of the arcs stay
gains_stay : (G : Graph) → IsGraph G → (c : ℕ) (p : ℕ → Ratio) (u : ℕ) → map (arc_gain (kept G p) c) (arcs_from G u) ≡ map (arc_gain p c) (arcs_from G u)
gains_stay G g c p u = map_same (arc_gain (kept G p) c) (arc_gain p c) (arcs_from G u) same
  where
    same : (a : Arc) → IsIn (arcs_from G u) a → arc_gain (kept G p) c a ≡ arc_gain p c a
    same a h =
        let ends = arc_inside G g a (from_is_arc G u a h).0 in let from = kept_is G p a.from ends.from in
        let to = kept_is G p a.to ends.to in
        λ i. ratio_minus (ratio_plus (to i) (whole (part c a.shift))) (from i)

-- and a vertex is at its mean by p if it is so by the kept values
pub mean_from_kept : (m : ℕ) (G : Graph) → IsGraph G → (c : ℕ) (p : ℕ → Ratio) (u : ℕ) → IsAtMean m G c (kept G p) u → IsAtMean m G c p u
mean_from_kept m G g c p u h = record { balance = subst (λ xs. Same m (ratio_sum xs) (whole (pos 0))) (gains_stay G g c p u) h.balance }

-- and the other way
pub kept_mean : (m : ℕ) (G : Graph) → IsGraph G → (c : ℕ) (p : ℕ → Ratio) (u : ℕ) → IsAtMean m G c p u → IsAtMean m G c (kept G p) u
kept_mean m G g c p u h = record { balance = subst (λ xs. Same m (ratio_sum xs) (whole (pos 0))) (sym (gains_stay G g c p u)) h.balance }

-- the arcs from a vertex end at vertices
ends_inside : (G : Graph) → IsGraph G → (u : ℕ) (a : Arc) → IsIn (arcs_from G u) a → (1 ≤ a.to) × (a.to ≤ G.vertices)
ends_inside G g u a h = (arc_inside G g a (from_is_arc G u a h).0).to

module _ (m : ℕ) where
  -- 1·y = y, and 0·y = 0
  taken : (b : Bool) (y : Value m) → times_value m (whole_value m (pos (cond b 1 0))) y ≡ cond b y (whole_value m (pos 0))
  taken b y = search (arith, times_value_comm, times_value_one, times_value_zero)

  -- the number of arcs to v, times y, is y for each of them
  counted : (v : ℕ) (y : Value m) (as' : List Arc)
      → times_value m (whole_value m (pos (count_by (λ a. a.to == v) as'))) y ≡ sum_over (values m) (λ a. cond (a.to == v) y (whole_value m (pos 0))) as'
  counted v y [] = taken false y
  counted v y (a ∷ as') =
      let one : ℕ = cond (a.to == v) 1 0 in let rest = count_by (λ (b : Arc). b.to == v) as' in
      ap (λ n. times_value m (whole_value m (pos n)) y) (sum_by-cons (λ b. cond (b.to == v) 1 0) a as')
      ∙ ap (λ t. times_value m t y) (whole_plus m (pos one) (pos rest))
      ∙ plus_times (values m) (whole_value m (pos one)) (whole_value m (pos rest)) y ∙ (λ i. plus_value m (taken (a.to == v) y i) (counted v y as' i))

  -- at the place of t, P (j + 1) is P t
  at_its_place : (P : ℕ → Value m) (t j : ℕ) → cond (t == j + 1) (P (j + 1)) (whole_value m (pos 0)) ≡ at_number (values m) t (P t) j
  at_its_place P t j = grind (arith, ne_eqb, cond-false, cases_eq)

  module _ (G : Graph) (g : IsGraph G) where
    -- the weight of i and j, as a value
    abbrev pub weight : ℕ → ℕ → Value m
    weight i j = whole_value m (pos (arc_count G (i + 1) (j + 1)))

    -- the sum of i in coordinate c, as a value
    abbrev pub shifts : ℕ → ℕ → Value m
    shifts c i = whole_value m (part c (shift_sum G (i + 1)))

    -- the weights of i, times values of the vertices, are the values at the ends of its arcs
    pub by_ends : (P : ℕ → Value m) (i : ℕ) → sum_below (values m) G.vertices (λ j. times_value m (weight i j) (P (j + 1))) ≡ sum_over (values m) (λ a. P a.to)
        (arcs_from G (i + 1))
    by_ends P i =
        sum_same (values m) G.vertices (λ j. times_value m (weight i j) (P (j + 1)))
        (λ j. sum_over (values m) (λ a. at_number (values m) a.to (P a.to) j) (arcs_from G (i + 1)))
        (λ j l. counted (j + 1) (P (j + 1)) (arcs_from G (i + 1)) ∙ (λ x. sum_over (values m) (λ a. at_its_place P a.to j x) (arcs_from G (i + 1))))
        ∙ grouped (values m) G.vertices (λ (a : Arc). a.to) (λ a. P a.to) (arcs_from G (i + 1)) (ends_inside G g (i + 1))

    module _ (c : ℕ) (p : ℕ → Ratio) (h : (u : ℕ) → CanCancel m (pos (p u).den)) (i : ℕ) where
      -- what the tails of the arcs from i + 1 add up to
      abbrev pub tails : Value m
      tails = sum_over (values m) (λ a. stand m c p h a.from) (arcs_from G (i + 1))

      -- the left side of the mean equation is the gains and the tails
      left : plus_value m (sum_below (values m) G.vertices (λ j. times_value m (weight i j) (stand m c p h (j + 1)))) (shifts c i) ≡ plus_value m
          (sum_over (values m) (gain m c p h) (arcs_from G (i + 1))) tails
      left =
          let sums = ap (whole_value m) (shift_sum_total G c (i + 1)) ∙ whole_total m (λ (a : Arc). part c a.shift) (arcs_from G (i + 1)) in
          (λ x. plus_value m (by_ends (stand m c p h) i x) (sums x)) ∙ sym (gains_plus m c p h (arcs_from G (i + 1)))

      -- its right side is the tails
      pub right : times_value m (sum_below (values m) G.vertices (weight i)) (stand m c p h (i + 1)) ≡ tails
      right =
          sym (times_sum (values m) G.vertices (stand m c p h (i + 1)) (weight i))
          ∙ by_ends (λ u. stand m c p h (i + 1)) i
          ∙ over_same (values m) (λ a. stand m c p h (i + 1)) (λ a. stand m c p h a.from) (arcs_from G (i + 1))
          (λ a k. ap (stand m c p h) (sym (from_is_arc G (i + 1) a k).1))

      -- if the mean equation holds, the gains of the arcs add up to 0
      pub gains_of_weights : IsMean (values m) G.vertices weight (shifts c) (λ j. stand m c p h (j + 1)) i
          → sum_over (values m) (gain m c p h) (arcs_from G (i + 1)) ≡ whole_value m (pos 0)
      gains_of_weights e =
          plus_value_cancel m _ (whole_value m (pos 0)) tails (sym left ∙ e ∙ right ∙ sym (nought_plus (values m) tails))

      -- and the other way
      pub weights_of_gains : sum_over (values m) (gain m c p h) (arcs_from G (i + 1)) ≡ whole_value m (pos 0)
          → IsMean (values m) G.vertices weight (shifts c) (λ j. stand m c p h (j + 1)) i
      weights_of_gains e = left ∙ ap (λ t. plus_value m t tails) e ∙ nought_plus (values m) tails ∙ sym right

-- What the values at the ends of arcs exceed those at their tails by, as values modulo m, and the mean equations by weights.

module _ (m : ℕ) (p : ℕ → Ratio) (h : (u : ℕ) → CanCancel m (pos (p u).den)) where
  pub difference_cancels : (a : Arc) → CanCancel m (pos (arc_difference p a).den)
  difference_cancels a = minus_cancels (p a.to) (p a.from) (h a.to) (h a.from)

  -- the difference of an arc, as a value
  unfoldable pub difference : Arc → Value m
  difference a = class m (arc_difference p a) (difference_cancels a)

  -- with the value at the tail it is that at the end
  pub difference_plus : (a : Arc) → plus_value m (difference a) (class m (p a.from) (h a.from)) ≡ class m (p a.to) (h a.to)
  unfolding difference
  difference_plus a =
      class_plus m (arc_difference p a) (p a.from) (difference_cancels a) (h a.from)
      (plus_cancels (arc_difference p a) (p a.from) (difference_cancels a) (h a.from))
      ∙ class_same m (ratio_plus (arc_difference p a) (p a.from)) (p a.to) _ (h a.to) (minus_plus m (p a.to) (p a.from))

  -- so the differences and the tails of a list are its ends
  pub differences_plus : (as' : List Arc) → plus_value m (sum_over (values m) difference as')
      (sum_over (values m) (λ a. class m (p a.from) (h a.from)) as') ≡ sum_over (values m) (λ a. class m (p a.to) (h a.to)) as'
  differences_plus as' = sym (over_plus (values m) difference (λ a. class m (p a.from) (h a.from)) as')
      ∙ (λ i. sum_over (values m) (λ a. difference_plus a i) as')

  module _ (G : Graph) (part : ℕ → Ratio) (k : (u : ℕ) → CanCancel m (pos (part u).den)) (u : ℕ) where
    sum_cancels : CanCancel m (pos (ratio_sum (map (arc_difference p) (arcs_from G u))).den)
    sum_cancels = over_cancels m (arc_difference p) difference_cancels (arcs_from G u)

    both : plus_value m (sum_over (values m) difference (arcs_from G u)) (class m (part u) (k u))
        ≡ class m (ratio_plus (ratio_sum (map (arc_difference p) (arcs_from G u))) (part u))
        (plus_cancels (ratio_sum (map (arc_difference p) (arcs_from G u))) (part u) sum_cancels (k u))
    unfolding difference sum_cancels
    both = ap (λ t. plus_value m t (class m (part u) (k u))) (sym (over_class m (arc_difference p) difference_cancels (arcs_from G u)))
        ∙ class_plus m (ratio_sum (map (arc_difference p) (arcs_from G u))) (part u) sum_cancels (k u) _

    -- a vertex is balanced if its differences and its part add up to 0
    pub of_balance : IsBalanced m G part p u → plus_value m (sum_over (values m) difference (arcs_from G u)) (class m (part u) (k u)) ≡ whole_value m (pos 0)
    of_balance e = both ∙ class_same m _ (whole (pos 0)) _ one_cancels e.balance ∙ sym (class_whole m (pos 0) one_cancels)

    -- and the other way
    pub to_balance : plus_value m (sum_over (values m) difference (arcs_from G u)) (class m (part u) (k u)) ≡ whole_value m (pos 0) → IsBalanced m G part p u
    to_balance e = record { balance = same_of_class m _ (whole (pos 0)) _ one_cancels (sym both ∙ e ∙ class_whole m (pos 0) one_cancels) }

  module _ (G : Graph) (g : IsGraph G) (b : ℕ → Value m) (i : ℕ) where
    abbrev places : ℕ → Value m
    places j = class m (p (j + 1)) (h (j + 1))

    left_side : plus_value m (sum_below (values m) G.vertices (λ j. times_value m (weight m G g i j) (places j))) (b i)
        ≡ plus_value m (plus_value m (sum_over (values m) difference (arcs_from G (i + 1))) (b i)) (tails m G g 0 p h i)
    left_side =
        ap (λ t. plus_value m t (b i)) (by_ends m G g (stand m 0 p h) i ∙ sym (differences_plus (arcs_from G (i + 1))))
        ∙ swap_last (values m) (sum_over (values m) difference (arcs_from G (i + 1))) (tails m G g 0 p h i) (b i)

    -- if the mean equation by weights holds, the differences and the part add up to 0
    pub differences_of_weights : IsMean (values m) G.vertices (weight m G g) b places i
        → plus_value m (sum_over (values m) difference (arcs_from G (i + 1))) (b i) ≡ whole_value m (pos 0)
    differences_of_weights e = plus_value_cancel m _ (whole_value m (pos 0)) (tails m G g 0 p h i)
        (sym left_side ∙ e ∙ right m G g 0 p h i ∙ sym (nought_plus (values m) (tails m G g 0 p h i)))

    -- and the other way
    pub weights_of_differences : plus_value m (sum_over (values m) difference (arcs_from G (i + 1))) (b i) ≡ whole_value m (pos 0)
        → IsMean (values m) G.vertices (weight m G g) b places i
    weights_of_differences e = left_side ∙ ap (λ t. plus_value m t (tails m G g 0 p h i)) e ∙ nought_plus (values m) (tails m G g 0 p h i)
        ∙ sym (right m G g 0 p h i)

-- z - z = 0
no_way : (z o : ℤ) → o ≡ neg_ℤ z → z +ℤ o ≡ pos 0
no_way z o e = omega (arith, linear)

-- the arcs of a graph start at vertices
pub starts_inside : (G : Graph) → IsGraph G → (a : Arc) → IsIn (arcs G) a → (1 ≤ a.from) × (a.from ≤ G.vertices)
starts_inside G g a h = (arc_inside G g a (contains_from_in (arcs G) a h)).from

module _ (m c : ℕ) (p : ℕ → Ratio) (h : (u : ℕ) → CanCancel m (pos (p u).den)) where
  -- the shifts of the two arcs of an edge are opposite
  opposite_steps : (e : Arc) → plus_value m (step m c p h e) (step m c p h (reverse_of e)) ≡ whole_value m (pos 0)
  opposite_steps e = sym (whole_plus m (part c e.shift) (part c (reverse_of e).shift))
      ∙ ap (whole_value m) (no_way (part c e.shift) _ (part_opposite c e.shift))

  -- and so are their gains
  opposite_gains : (e : Arc) → plus_value m (gain m c p h e) (gain m c p h (reverse_of e)) ≡ whole_value m (pos 0)
  opposite_gains e =
      let from = stand m c p h e.from in let to = stand m c p h e.to in
      plus_value_cancel m _ (whole_value m (pos 0)) (plus_value m from to)
      (middle (values m) (gain m c p h e) (gain m c p h (reverse_of e)) from to
      ∙ (λ i. plus_value m (gain_plus m c p h e i) (gain_plus m c p h (reverse_of e) i))
      ∙ middle (values m) to (step m c p h e) from (step m c p h (reverse_of e))
      ∙ (λ i. plus_value m (plus_value_comm m to from i) (opposite_steps e i))
      ∙ plus_value_comm m (plus_value m from to) (whole_value m (pos 0)))

  -- the gains of all arcs add up to 0
  all_gains : (es : List Arc) → sum_over (values m) (gain m c p h) (both_ways es) ≡ whole_value m (pos 0)
  all_gains [] = refl
  all_gains (e ∷ es) =
      sym (plus_value_assoc m (gain m c p h e) (gain m c p h (reverse_of e)) _) ∙ (λ i. plus_value m (opposite_gains e i) (all_gains es i))
      ∙ nought_plus (values m) (whole_value m (pos 0))

  -- so if those of each other vertex do, those of vertex 1 do
  pub first_gains : (G : Graph) → IsGraph G → ((j : ℕ) → 0 < j → j < G.vertices
      → sum_over (values m) (gain m c p h) (arcs_from G (j + 1)) ≡ whole_value m (pos 0))
      → sum_over (values m) (gain m c p h) (arcs_from G 1) ≡ whole_value m (pos 0)
  first_gains G g others =
      let of_vertex = λ (j : ℕ). sum_over (values m) (gain m c p h) (arcs_from G (j + 1)) in
      sym (sum_first (values m) G.vertices of_vertex g.vertices others)
      ∙ sum_same (values m) G.vertices of_vertex (λ j. sum_over (values m) (λ a. at_number (values m) a.from (gain m c p h a) j) (arcs G))
      (λ j l. over_filter (values m) (gain m c p h) (λ a. a.from == j + 1) (arcs G))
      ∙ grouped (values m) G.vertices (λ (a : Arc). a.from) (gain m c p h) (arcs G) (starts_inside G g)
      ∙ all_gains G.edges

-- If all vertices but vertex 1 are balanced, and the right-hand parts add up to 0, so is vertex 1.

-- the sum of values, as the value of the sum
module _ (m : ℕ) (p : ℕ → Ratio) (k : (u : ℕ) → CanCancel m (pos (p u).den)) where
  pub total_cancels : (n : ℕ) → CanCancel m (pos (ratio_total n p).den)
  total_cancels zero = one_cancels
  total_cancels (suc n) = plus_cancels (ratio_total n p) (p (n + 1)) (total_cancels n) (k (n + 1))

  pub total_class : (n : ℕ) → sum_below (values m) n (λ i. class m (p (i + 1)) (k (i + 1))) ≡ class m (ratio_total n p) (total_cancels n)
  unfolding total_cancels
  total_class zero = class_whole m (pos 0) one_cancels
  total_class (suc n) = (λ i. plus_value m (total_class n i) (class m (p (n + 1)) (k (n + 1))))
      ∙ class_plus m (ratio_total n p) (p (n + 1)) (total_cancels n) (k (n + 1)) _

module _ (m : ℕ) (p : ℕ → Ratio) (h : (u : ℕ) → CanCancel m (pos (p u).den)) where
  -- the differences of the two arcs of an edge are opposite
  opposite_differences : (e : Arc) → plus_value m (difference m p h e) (difference m p h (reverse_of e)) ≡ whole_value m (pos 0)
  opposite_differences e =
      let from = class m (p e.from) (h e.from) in let to = class m (p e.to) (h e.to) in
      plus_value_cancel m _ (whole_value m (pos 0)) (plus_value m from to)
      (middle (values m) (difference m p h e) (difference m p h (reverse_of e)) from to
      ∙ (λ i. plus_value m (difference_plus m p h e i) (difference_plus m p h (reverse_of e) i))
      ∙ plus_value_comm m to from
      ∙ sym (nought_plus (values m) (plus_value m from to)))

  -- so those of all arcs add up to 0
  all_differences : (es : List Arc) → sum_over (values m) (difference m p h) (both_ways es) ≡ whole_value m (pos 0)
  all_differences [] = refl
  all_differences (e ∷ es) =
      sym (plus_value_assoc m (difference m p h e) (difference m p h (reverse_of e)) _) ∙ (λ i. plus_value m (opposite_differences e i) (all_differences es i))
      ∙ nought_plus (values m) (whole_value m (pos 0))

  module _ (G : Graph) (g : IsGraph G) where
    of_vertex : ℕ → Value m
    of_vertex j = sum_over (values m) (difference m p h) (arcs_from G (j + 1))

    of_vertices : sum_below (values m) G.vertices of_vertex ≡ whole_value m (pos 0)
    unfolding of_vertex
    of_vertices =
        sum_same (values m) G.vertices of_vertex (λ j. sum_over (values m) (λ a. at_number (values m) a.from (difference m p h a) j) (arcs G))
        (λ j l. over_filter (values m) (difference m p h) (λ a. a.from == j + 1) (arcs G))
        ∙ grouped (values m) G.vertices (λ (a : Arc). a.from) (difference m p h) (arcs G) (starts_inside G g)
        ∙ all_differences G.edges

    pub first_balance : (b : ℕ → Value m) → ((j : ℕ) → 0 < j → j < G.vertices
        → plus_value m (sum_over (values m) (difference m p h) (arcs_from G (j + 1))) (b j) ≡ whole_value m (pos 0))
        → sum_below (values m) G.vertices b ≡ whole_value m (pos 0) → plus_value m (sum_over (values m) (difference m p h) (arcs_from G 1))
        (b 0) ≡ whole_value m (pos 0)
    unfolding of_vertex
    first_balance b others total =
        sym (sum_first (values m) G.vertices (λ j. plus_value m (of_vertex j) (b j)) g.vertices others)
        ∙ sum_plus (values m) G.vertices of_vertex b
        ∙ (λ i. plus_value m (of_vertices i) (total i))
        ∙ nought_plus (values m) (whole_value m (pos 0))
