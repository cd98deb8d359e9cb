-- What is said of one normal placement of a net holds of each, and its first number past a limit is one.
use Rattle.std.proofs.Common.{◌≡◌, ◌∙◌, ℕ, pos, sym, arith, ℤ, ◌-◌, ◌≤◌, ◌<◌, subst, unsigned_abs, suc, List, [], ◌∷◌, ◌++◌, length, drop, get_or, All}
use Rattle.std.proofs.Common.{refl, ap, ◌⊎◌, inl, inr}
use Rattle.std.proofs.lemmas.List.Elements.{All-contains, All-head, All-tail, Contains-append_right}
use Rattle.std.proofs.lemmas.Nat.Gcd.{le_of_dvd, dvd_antisymm}
use Rattle.integers.specs.Vectors.{Vector, plus, minus, times, zero_vector, IsWithin, IsBelow}
use Rattle.integers.{specs.Staircase.part, proofs.lists.ListOrder.below_or_equal, proofs.numbers.Order.three_ways}
use Rattle.periodic_net.specs.Graph.{Graph, Arc, IsGraph, IsArc, IsConnected, IsQuotientVertex, arc}
use Rattle.periodic_net.specs.Placement.{Placement, base, arc_vector, IsNormalPlacement, IsWithinLimits, IsCollision}
use Rattle.periodic_net.proofs.CallerLemmas.{normal_placement_is_one, arc_inside, one_placement}
use Rattle.periodic_net.specs.Limits.{most_units}
use Rattle.barycentre.specs.WidePlacements.{IsWideDenominator, IsWideArc, IsWideAt, coordinate, ComesBefore, HasDenominator, IsWidePlacement}
use Rattle.barycentre.specs.declared.faults.WideSite.TheVariants.{Denominator, ArcPart, Beyond}
use Rattle.barycentre.specs.Reached.{Any, AreNarrow, IsFirstPivot, IsFirstWidePlace}
use Rattle.barycentre.{specs.declared.faults.WideSite.WideSite, specs.Multiples.IsLeastMultipleUpTo, specs.PlaceFaults.IsWideOf}
use Rattle.barycentre.{specs.declared.faults.WidePlacement.WidePlacement, proofs.CallerLemmas.lowest_divides}
use Rattle.elimination.specs.{Faults.IsGood, Listed.Entry, declared.place.Place.Place}
use Rattle.fraction.specs.Reduced.{IsNarrow}
use Rattle.quotient_graph.{proofs.Edges.arc_from_numbers, specs.Order.arc_numbers}

module _ (G : Graph) (g : IsGraph G) (c : IsConnected G) (p q : Placement) (n : IsNormalPlacement G p) (m : IsNormalPlacement G q) where
  one : (p.denominator ≡ q.denominator) × ((u : ℕ) → IsQuotientVertex G u → base p u ≡ base q u)
  one = normal_placement_is_one G g c p q n m

  pub same_denominator : p.denominator ≡ q.denominator
  same_denominator = one.0

  -- the vectors of arcs are the same
  pub same_arc_vector : (a : Arc) → IsArc G a → arc_vector p a ≡ arc_vector q a
  same_arc_vector a h =
      let i = arc_inside G g a h in let d = same_denominator in let from = one.1 a.from i.from in
      let to = one.1 a.to i.to in λ j. minus (plus (to j) (times (pos (d j)) a.shift)) (from j)

  -- and so are the limits
  pub same_limits : IsWithinLimits G p → IsWithinLimits G q
  same_limits l = grind (arith, same_denominator, same_arc_vector)

  -- and the collisions
  pub same_collision : (u v : ℕ) (t : Vector) → IsCollision G p u v t → IsCollision G q u v t
  same_collision u v t h =
      let d = same_denominator in let here = one.1 u h.here in let there = one.1 v h.there.over in
      record {
        here = h.here;
        there = h.there;
        different = h.different;
        same_place =
            sym (λ j. plus (here j) (times (pos (d j)) zero_vector)) ∙ h.same_place ∙ (λ j. plus (there j) (times (pos (d j)) t));
      }

-- Within the limits no number of a normal placement passes one.

-- each part of a vector is within its bound
part_within : (n : ℕ) (v : Vector) (i : ℕ) → IsWithin n v → unsigned_abs (part i v) ≤ n
part_within n v i k = search arith

-- the least common multiple of some denominators divides the denominator
pub multiple_within : (G : Graph) (p : Placement) → IsNormalPlacement G p → (u c k : ℕ) → IsWideDenominator G p u c k → k ≤ p.denominator
multiple_within G p n u c k h =
    le_of_dvd n.barycentric.positive (h.value.least p.denominator (λ v e d i j m has. lowest_divides (coordinate e (base p v)) p.denominator d has))

module _ (G : Graph) (p : Placement) (n : IsNormalPlacement G p) (l : IsWithinLimits G p) where
  not_wide_denominator : (u c k : ℕ) → ¬ IsWideDenominator G p u c k
  not_wide_denominator u c k h =
      let m = multiple_within G p n u c k h in
      let d = l.denominator in let w = h.wide in omega (arith, m, d, w)

  not_wide_arc : (u v c : ℕ) (s : Vector) (x : ℤ) → ¬ IsWideArc G p (arc u v s) c x
  not_wide_arc u v c s x h =
      let m = part_within most_units (arc_vector p (arc u v s)) (c - 1) (l.arcs (arc u v s) h.is_arc) in
      let e = subst (λ (y : ℤ). unsigned_abs y ≤ most_units) (sym h.value) m in let w = h.wide in omega (arith, e, w)

  pub not_wide : (site : WideSite) (x : ℤ) → ¬ IsWideAt G p site x
  not_wide (Denominator u c) x h = not_wide_denominator u c h.0 h.2
  not_wide (ArcPart u v s c) x h = not_wide_arc u v c s x h
  not_wide (Beyond at) x h = h

-- The first listed number past 62 bits stands at one place, and so does the first pivot without an inverse.

-- of a list that begins with members that have P, the first that has it not is one
one_first : {X : Type 0} (P : X → Type 0) (xs ys us vs : List X) (x y : X) → All P xs → All P ys → ¬ P x → ¬ P y → xs ++ x ∷ us ≡ ys ++ y ∷ vs → x ≡ y
one_first P [] [] us vs x y a b n m e = ap (λ l. get_or l 0 x) e
one_first P [] (z ∷ ys) us vs x y a b n m e =
    absurd (n (subst P (sym (ap (λ l. get_or l 0 x) e)) (All-head P z ys b)))
one_first P (z ∷ xs) [] us vs x y a b n m e =
    absurd (m (subst P (ap (λ l. get_or l 0 z) e) (All-head P z xs a)))
one_first P (z ∷ xs) (w ∷ ys) us vs x y a b n m e = one_first P xs ys us vs x y (All-tail P z xs a) (All-tail P w ys b) n m (ap (drop 1) e)

-- the place of the first number past 62 bits
pub one_wide_place : (G : Graph) (at there : Place) → IsFirstWidePlace G at → IsFirstWidePlace G there → at ≡ there
one_wide_place G at there a b =
    a.stands
    ∙ ap (λ (e : Entry). e.place)
    (one_first (IsGood 0 IsNarrow) a.first.before b.first.before a.first.after b.first.after a.entry b.entry a.first.good.all b.first.good.all
    (λ g. a.unfit g.fit) (λ g. b.unfit g.fit) (sym a.first.split ∙ b.first.split))
    ∙ sym b.stands

-- if there is one, not all have 62 bits
pub not_narrow : (G : Graph) (at : Place) → IsFirstWidePlace G at → ¬ AreNarrow G
not_narrow G at h narrow =
    let first : 0 < suc (length h.first.after) = omega arith in
    let stands = Contains-append_right h.first.before (h.entry ∷ h.first.after) h.entry (0, first, refl) in
    let good = All-contains (IsGood 0 IsNarrow) (h.first.before ++ h.entry ∷ h.first.after) h.entry
    (subst (All (IsGood 0 IsNarrow)) h.first.split narrow.all) stands in
    h.unfit good.fit

-- the first pivot without an inverse
pub one_pivot : (m : ℕ) (G : Graph) (k j : ℕ) → IsFirstPivot m G k → IsFirstPivot m G j → k ≡ j
one_pivot m G k j a b =
    a.vertex
    ∙ ap (λ (e : Entry). (e.place).k)
    (one_first (IsGood m Any) a.first.before b.first.before a.first.after b.first.after a.entry b.entry a.first.good.all b.first.good.all
    (λ g. a.none (g.divisor a.op)) (λ g. b.none (g.divisor b.op)) (sym a.first.split ∙ b.first.split))
    ∙ sym b.vertex

-- The first number of a normal placement that passes its limit is one.

-- of two places one comes before the other, or they are one
places : (u c v e : ℕ) → ComesBefore u c v e ⊎ (ComesBefore v e u c ⊎ ((u ≡ v) × (c ≡ e)))
places u c v e = search arith

module _ (G : Graph) (p : Placement) where
  -- no place before the first has a multiple that is too great
  not_before : (u c k v e j : ℕ) → IsWideDenominator G p u c k → IsWideDenominator G p v e j → ¬ ComesBefore u c v e
  not_before u c k v e j a b before =
      let least = b.first u c k a.vertex a.place before a.value in let wide = a.wide in
      omega (arith, least, wide)

  same_multiple : (u c k j : ℕ) → IsLeastMultipleUpTo G (HasDenominator p) u c k → IsLeastMultipleUpTo G (HasDenominator p) u c j → k ≡ j
  same_multiple u c k j a b = dvd_antisymm (a.least j b.multiple) (b.least k a.multiple)

  one_denominator : (u c k v e j : ℕ) → IsWideDenominator G p u c k → IsWideDenominator G p v e j → (u ≡ v) × (c ≡ e) × (k ≡ j)
  one_denominator u c k v e j a b = by (places u c v e)
    where
      by : ComesBefore u c v e ⊎ (ComesBefore v e u c ⊎ ((u ≡ v) × (c ≡ e))) → (u ≡ v) × (c ≡ e) × (k ≡ j)
      by (inl before) = absurd (not_before u c k v e j a b before)
      by (inr (inl before)) = absurd (not_before v e j u c k b a before)
      by (inr (inr same)) = (
        same.0,
        same.1,
        same_multiple u c k j a.value (subst (λ x. IsLeastMultipleUpTo G (HasDenominator p) x c j) (sym same.0)
            (subst (λ d. IsLeastMultipleUpTo G (HasDenominator p) v d j) (sym same.1) b.value)),
      )

  -- no part before the first is too great
  not_past : (a b : Arc) (c e : ℕ) (x y : ℤ) → IsWideArc G p a c x → IsWideArc G p b e y → ¬ (IsBelow (arc_numbers a) (arc_numbers b) ⊎ ((a ≡ b) × (c < e)))
  not_past a b c e x y h k before =
      let least = k.first a c h.is_arc h.place before in
      let wide = subst (λ z. most_units < unsigned_abs z) h.value h.wide in omega (arith, least, wide)

  one_arc : (a b : Arc) (c e : ℕ) (x y : ℤ) → IsWideArc G p a c x → IsWideArc G p b e y → (a ≡ b) × (c ≡ e) × (x ≡ y)
  one_arc a b c e x y h k = by (below_or_equal (arc_numbers a) (arc_numbers b)) (three_ways c e)
    where
      by : IsBelow (arc_numbers a) (arc_numbers b) ⊎ ((arc_numbers a ≡ arc_numbers b) ⊎ IsBelow (arc_numbers b) (arc_numbers a))
          → (c < e) ⊎ ((e < c) ⊎ (c ≡ e)) → (a ≡ b) × (c ≡ e) × (x ≡ y)
      by (inl below) _ = absurd (not_past a b c e x y h k (inl below))
      by (inr (inr below)) _ = absurd (not_past b a e c y x k h (inl below))
      by (inr (inl same)) (inl l) = absurd (not_past a b c e x y h k (inr (arc_from_numbers a b same, l)))
      by (inr (inl same)) (inr (inl l)) = absurd (not_past b a e c y x k h (inr (arc_from_numbers b a (sym same), l)))
      by (inr (inl same)) (inr (inr part)) =
          let one = arc_from_numbers a b same in
          (one, part, h.value ∙ (λ i. coordinate (part i) (arc_vector p (one i))) ∙ sym k.value)

  -- if a multiple of denominators is too great, so is the denominator
  not_both : IsNormalPlacement G p → (u c k : ℕ) (a : Arc) (e : ℕ) (x : ℤ) → IsWideDenominator G p u c k → ¬ IsWideArc G p a e x
  not_both n u c k a e x h w =
      let m = multiple_within G p n u c k h in let wide = h.wide in let d = w.denominator in
      omega (arith, m, wide, d)

  one_wide_at : IsNormalPlacement G p → (s t : WideSite) (x y : ℤ) → IsWideAt G p s x → IsWideAt G p t y → (s ≡ t) × (x ≡ y)
  one_wide_at n (Denominator u c) (Denominator v e) x y h k =
      let r = one_denominator u c h.0 v e k.0 h.2 k.2 in
      ((λ i. Denominator (r.0 i) (r.1 i)), h.1 ∙ ap pos r.2 ∙ sym k.1)
  one_wide_at n (Denominator u c) (ArcPart v w s e) x y h k = absurd (not_both n u c h.0 (arc v w s) e y h.2 k)
  one_wide_at n (ArcPart v w s e) (Denominator u c) x y h k = absurd (not_both n u c k.0 (arc v w s) e x k.2 h)
  one_wide_at n (ArcPart u v s c) (ArcPart w z t e) x y h k =
      let r = one_arc (arc u v s) (arc w z t) c e x y h k in
      ((λ i. ArcPart ((r.0 i).from) ((r.0 i).to) ((r.0 i).shift) (r.1 i)), r.2)
  one_wide_at n (Beyond at) t x y h k = absurd h
  one_wide_at n s (Beyond at) x y h k = absurd k

module _ (G : Graph) (g : IsGraph G) (c : IsConnected G) (w z : WidePlacement) where
  whole : w.dim ≡ z.dim → w.site ≡ z.site → w.value ≡ z.value → w ≡ z
  whole d s v = λ i. record { dim = d i; site = s i; value = v i }

  one_wide_placement : IsWidePlacement G w → IsWidePlacement G z → w ≡ z
  one_wide_placement a b =
      let e = one_placement G g c b.placement a.placement b.normal a.normal in
      let r = one_wide_at G a.placement a.normal w.site z.site w.value z.value a.wide (subst (λ q. IsWideAt G q z.site z.value) e b.wide) in
      whole (a.dimension ∙ sym b.dimension) r.0 r.1

  -- what is reported of a placement past a limit is one
  pub one_wide_of : IsWideOf G w w.site → IsWideOf G z z.site → w ≡ z
  one_wide_of = by w.site z.site refl refl
    where
      by : (s t : WideSite) → w.site ≡ s → z.site ≡ t → IsWideOf G w s → IsWideOf G z t → w ≡ z
      by (Beyond at) (Beyond there) e f a b =
          whole (a.0 ∙ sym b.0) (e ∙ ap Beyond (one_wide_place G at there a.1.wide b.1.wide) ∙ sym f) (a.1.zero ∙ sym b.1.zero)
      by (Beyond at) t e f a b = absurd (not_narrow G at a.1.wide b.0)
      by s (Beyond at) e f a b = absurd (not_narrow G at b.1.wide a.0)
      by s t e f a b = one_wide_placement a.1 b.1
