-- A solution modulo M and one of what is left of it, in rows: two steps, whose reconstructions are the normal placement. What two solutions by residues
-- recover: the normal placement, if it is within the limits. What is left modulo M: exact quotients, and rows that are made one after another. The
-- answers of `place` exclude each other: NoModulus comes if and only if its cause holds.
use Rattle.std.proofs.Common.{◌≡◌, ℕ, zero, suc, arith, ◌-◌, ◌<◌, ◌^◌, List, [], ◌∷◌, length, map, get_or, ap, sym, refl, ◌∙◌, Option, Some, None, ⊎_elim}
use Rattle.std.proofs.Common.{◌+◌, ◌≤◌, subst, IsTrue, nat_eq, rules, ◌*◌, unsigned_abs, ◌%◌, FitsSigned, pos, to_z, of_z, ℤ, ◌++◌, inl, inr}
use Rattle.std.proofs.lemmas.Option.{get_or_from_slice_get, slice_get_within, slice_get-get_or}
use Rattle.std.proofs.lemmas.Int.{to_z-of_z, unsigned_abs-mul, fits_signed_from_abs}
use Rattle.std.specs.Prelude.{◌+ℤ◌, ◌-ℤ◌, ◌*ℤ◌, slice_get, slice_index_or, All, int_div}
use Rattle.std.{proofs.Math.Nat.mul-le-mul, proofs.Math.Nat.mod-eq_of_lt, proofs.lemmas.List.Elements.All-contains}
use Rattle.std.{proofs.lemmas.List.Elements.Contains-append_right, specs.Option.option_map_or, specs.List.Contains, specs.Int.w128}
use Rattle.std.{specs.Int.int_rem_euclid}
use Rattle.integers.specs.Vectors.{zero_vector, plus, times, IsWithin, Vector}
use Rattle.integers.proofs.numbers.Ring.{ring, linear, zero_product}
use Rattle.integers.{specs.Divisors.DividesInteger, specs.Lists.total, specs.Staircase.part, proofs.numbers.Division.exact_quotient}
use Rattle.integers.{proofs.lists.Sums.total_same, proofs.lists.Sums.total_zeros, proofs.vectors.Laws.below_three, proofs.vectors.Laws.part_is_coordinate}
use Rattle.integers.proofs.lists.Members.{some_of}
use Rattle.periodic_net.specs.Graph.{Graph, Arc, IsGraph, arcs_from, IsQuotientVertex, IsConnected}
use Rattle.periodic_net.specs.Placement.{Placement, base, arc_vector, IsNormalPlacement, IsWithinLimits}
use Rattle.periodic_net.proofs.CallerLemmas.{arc_inside, from_is_arc, total_linear}
use Rattle.periodic_net.specs.Limits.{IsSmall}
use Rattle.quotient_graph.{specs.PlacedNets.placement_of, specs.PlacedNets.most_position, proofs.CallerLemmas.position_bounded}
use Rattle.exact.specs.Ratio.{Ratio, whole, Same}
use Rattle.exact.proofs.CallerLemmas.{equal_residues}
use Rattle.vecdim.specs.declared.rows.Row.{Row}
use Rattle.elimination.specs.Solutions.{SolveAll, SolveOnly, AreFlat}
use Rattle.elimination.specs.Faults.{IsGood, AreGood, IsAfterGood}
use Rattle.elimination.{specs.Rows.row_part, specs.Rows.value_in, specs.Listed.Entry, specs.Listed.listed_numbers, specs.Equations.IsAtMean}
use Rattle.elimination.{specs.Equations.IsSolution, specs.RightHand.IsSolutionWith, specs.RightHand.SolveWith, proofs.CallerLemmas.get_pushed}
use Rattle.residue.{specs.declared.numbers.Residue.Residue, specs.Residues.IsResidue, specs.Reconstruction.IsReconstruction}
use Rattle.residue.{proofs.CallerLemmas.residue_small}
use Rattle.fraction.specs.{declared.numbers.Fraction.Fraction, Values.fraction_value, Reduced.IsNarrow}
use Rattle.barycentre.specs.Left.{star_vector, IsLeft, IsLeftRow, IsDividedVector, AreLeftRows}
use Rattle.barycentre.specs.ResidueRows.{residue_value, residue_part, residue_at, residue_vector}
use Rattle.barycentre.specs.Recovered.{lifted_part, IsRecoveredRow, AreRecovered, LacksRow}
use Rattle.barycentre.specs.Reached.{Any, IsFirstPivot, HasInverses, IsReachable, LacksModulus}
use Rattle.barycentre.proofs.Linear.{gained, multiple_zero, same_zero, at_mean}
use Rattle.barycentre.proofs.Recovered.{two_steps_recover, Lowest, lowest, option_reduced}
use Rattle.barycentre.{specs.Gains.gains, specs.Gains.shifts, specs.Limits.AreInReach, specs.Positions.IsScaled, specs.TwoSteps.AreTwoSteps}
use Rattle.barycentre.{specs.Tested.AreFractions, proofs.Normal.dimension_below, proofs.Normal.coordinate_cases}

-- Rows of residues: their values, their vectors, and what the arcs between them lead.

module _ {M D : ℕ} where
  option_value : (o : Option (Row (Residue M) D)) (c : ℕ) → option_map_or (λ r. row_part residue_value r c) o (whole (pos 0)) ≡ whole
      (pos (option_map_or (λ r. residue_part r c) o 0))
  option_value o c = search arith

  -- the values of rows are whole
  pub values_are : (rows : List (Row (Residue M) D)) (c : ℕ) → ◌≡◌ {A = ℕ → Ratio} (λ u. value_in residue_value rows u c)
      (λ u. whole (pos (residue_at rows c u)))
  values_are rows c = λ i u. option_value (slice_get rows (u - 1)) c i

  option_below : 0 < M → (o : Option (Row (Residue M) D)) (c : ℕ) → option_map_or (λ r. residue_part r c) o 0 < M
  option_below h o c = search arith

  pub at_below : 0 < M → (rows : List (Row (Residue M) D)) (c u : ℕ) → residue_at rows c u < M
  at_below l rows c u = option_below l (slice_get rows (u - 1)) c

  -- of a row that is there
  pub part_there : (rows : List (Row (Residue M) D)) (i c : ℕ) (d : Row (Residue M) D) → i < length rows
      → option_map_or (λ r. residue_part r c) (slice_get rows i) 0 ≡ residue_part (get_or rows i d) c
  part_there rows i c d l = ap (λ (o : Option (Row (Residue M) D)). option_map_or (λ r. residue_part r c) o 0) (slice_get-get_or rows i d l)

  part_of : (rows : List (Row (Residue M) D)) (i c : ℕ) → c < 3 → part c (slice_index_or (map residue_vector rows) i zero_vector) ≡ pos
      (option_map_or (λ r. residue_part r c) (slice_get rows i) 0)
  part_of [] i c l = below_three (λ c. part c zero_vector ≡ pos 0) refl refl refl c l
  part_of (r ∷ rs) zero c l = below_three (λ c. part c (residue_vector r) ≡ pos (residue_part r c)) refl refl refl c l
  part_of (r ∷ rs) (suc i) c l = part_of rs i c l

  near : (r : Row (Residue M) D) → IsWithin (2 ^ 102) (residue_vector r)
  near r = let x = r.x.below in let y = r.y.below in let z = r.z.below in let m = r.x.most in (omega (arith, x, m), omega (arith, y, m), omega (arith, z, m))

  all_near : (rows : List (Row (Residue M) D)) → All (IsWithin (2 ^ 102)) (map residue_vector rows)
  all_near [] k v l = absurd (omega arith)
  all_near (r ∷ rs) zero v l = near r
  all_near (r ∷ rs) (suc k) v l = all_near rs k v (omega arith)

  pub in_reach : (rows : List (Row (Residue M) D)) → AreInReach (pos 1) (map residue_vector rows)
  in_reach rows = record { denominator = omega arith; positions = all_near rows }

  module _ (rows : List (Row (Residue M) D)) (c : ℕ) (below : c < 3) where
    abbrev P : Placement
    P = placement_of (pos 1) (map residue_vector rows)

    abbrev at : ℕ → ℤ
    at u = pos (residue_at rows c u)

    arc_is : (a : Arc) → part c (arc_vector P a) ≡ (at a.to +ℤ pos 1 *ℤ part c a.shift) -ℤ at a.from
    arc_is a =
        let k = part_is_coordinate c below in
        k.minus_is (plus (base P a.to) (times (pos 1) a.shift)) (base P a.from)
        ∙ ap (λ x. x -ℤ part c (base P a.from)) (k.plus_is (base P a.to) (times (pos 1) a.shift)
        ∙ ap (λ x. part c (base P a.to) +ℤ x) (k.times_is (pos 1) a.shift))
        ∙ (λ i. (part_of rows (a.to - 1) c below i +ℤ pos 1 *ℤ part c a.shift) -ℤ part_of rows (a.from - 1) c below i)

    step : (t s f g w : ℤ) → ((t +ℤ pos 1 *ℤ s) -ℤ f) +ℤ (g +ℤ w) ≡ ((t -ℤ f) +ℤ g) +ℤ (s +ℤ w)
    step t s f g w = simp ring (omega (arith, linear))

    list_is : (as' : List Arc) → total (λ a. part c (arc_vector P a)) as' ≡ gained at as' +ℤ total (λ (a : Arc). part c a.shift) as'
    list_is [] = refl
    list_is (a ∷ as') = (λ i. arc_is a i +ℤ list_is as' i) ∙ step (at a.to) (part c a.shift) (at a.from) (gained at as')
        (total (λ (b : Arc). part c b.shift) as')

    -- what the arcs of a vertex lead: what they gain, and their shifts
    pub star_is : (G : Graph) (u : ℕ) → part c (star_vector G (map residue_vector rows) u) ≡ gains G at u +ℤ shifts G (part c) u
    star_is G u = sym (total_linear (part c) (part_is_coordinate c below) P (arcs_from G u)) ∙ list_is (arcs_from G u)

-- gains of multiples are multiples
module _ (m : ℕ) (s : ℕ → ℤ) (h : (v : ℕ) → DividesInteger m (s v)) where
  multiple_step : (t f r m a b k : ℤ) → t ≡ m *ℤ a → f ≡ m *ℤ b → r ≡ m *ℤ k → (t -ℤ f) +ℤ r ≡ m *ℤ ((a -ℤ b) +ℤ k)
  multiple_step t f r m a b k e g q = simp ring (omega (arith, linear, e, g, q))

  gained_multiple : (as' : List Arc) → DividesInteger m (gained s as')
  gained_multiple [] = multiple_zero m
  gained_multiple (a ∷ as') =
      let t = h a.to in let f = h a.from in let r = gained_multiple as' in
      ((t.0 -ℤ f.0) +ℤ r.0, multiple_step (s a.to) (s a.from) (gained s as') (pos m) t.0 f.0 r.0 t.1 f.1 r.1)

  pub gains_multiple : (G : Graph) (u : ℕ) → DividesInteger m (gains G s u)
  gains_multiple G u = gained_multiple (arcs_from G u)

-- in a plane the shifts have no third part
pub flat_shifts : (G : Graph) → IsGraph G → G.dimension ≡ 2 → (u : ℕ) → shifts G (part 2) u ≡ pos 0
flat_shifts G g e u =
    total_same (λ (a : Arc). part 2 a.shift) (λ a. pos 0) (arcs_from G u) (λ a i. (arc_inside G g a (from_is_arc G u a i).0).shift e)
    ∙ total_zeros (arcs_from G u)

-- the part of a row that is left
left_part_is : {M D : ℕ} (v : Vector) (r : Row (Residue M) D) → IsLeftRow v r → (c : ℕ) → c < 3 → IsLeft M (part c v) (residue_part r c)
left_part_is {M} v r h = below_three (λ c. IsLeft M (part c v) (residue_part r c)) h.x h.y h.z

module _ {M D : ℕ} (least : 2 ≤ M) (G : Graph) (g : IsGraph G) (dimension : G.dimension ≡ D) (firsts : List (Row (Residue M) D))
    (solved : SolveAll M residue_value G firsts) (flat : AreFlat M residue_value firsts) where
  abbrev first : ℕ → ℕ → ℤ
  first c u = pos (residue_at firsts c u)

  abbrev star : ℕ → Vector
  star u = star_vector G (map residue_vector firsts) u

  solution : (c : ℕ) → c < G.dimension → IsSolution M G c (λ u. whole (first c u))
  solution c l = subst (IsSolution M G c) (values_are firsts c) (solved c l).0

  -- M divides what the arcs of each vertex lead
  mean : (c : ℕ) → c < G.dimension → (u : ℕ) → IsQuotientVertex G u → DividesInteger M (gains G (first c) u +ℤ shifts G (part c) u)
  mean c l zero q = let a = q.0 in absurd (omega arith)
  mean c l (suc zero) q = at_mean M G c (first c) 1 (subst (λ p. IsAtMean M G c p 1) (values_are firsts c) (solved c l).1)
  mean c l (suc (suc u)) q = at_mean M G c (first c) (suc (suc u)) ((solution c l).means (suc (suc u)) q (omega arith))

  part_divided : (c : ℕ) → c < G.dimension → (u : ℕ) → IsQuotientVertex G u → DividesInteger M (part c (star u))
  part_divided c l u q = let h = mean c l u q in (h.0, star_is firsts c (dimension_below G g c l) G u ∙ h.1)

  flat_option : D ≡ 2 → (i : ℕ) (o : Option (Row (Residue M) D)) → slice_get firsts i ≡ o → DividesInteger M (pos (option_map_or (λ r. residue_part r 2) o 0))
  flat_option e i None s = multiple_zero M
  flat_option e i (Some r) s = same_zero M (pos r.z.value) (subst (λ (t : Row (Residue M) D). Same M (residue_value t.z) (whole (pos 0)))
      (get_or_from_slice_get firsts i r r s) (flat e i r (slice_get_within firsts i r s)))

  sum_zero : (x y m k : ℤ) → x ≡ m *ℤ k → y ≡ pos 0 → x +ℤ y ≡ m *ℤ k
  sum_zero x y m k e f = omega (arith, linear, e, f)

  flat_divided : G.dimension ≡ 2 → (u : ℕ) → DividesInteger M (part 2 (star u))
  flat_divided e u =
      let h = gains_multiple M (first 2) (λ v. flat_option (sym dimension ∙ e) (v - 1) (slice_get firsts (v - 1)) refl) G u in
      (h.0, star_is firsts 2 (omega arith) G u ∙ sum_zero (gains G (first 2) u) (shifts G (part 2) u) (pos M) h.0 h.1 (flat_shifts G g e u))

  pub divided : (u : ℕ) → IsQuotientVertex G u → IsDividedVector M (star u)
  divided u q = record { x = third 0 (omega arith); y = third 1 (omega arith); z = third 2 (omega arith) }
    where
      third : (c : ℕ) → c < 3 → DividesInteger M (part c (star u))
      third c l = ⊎_elim
          (λ (d : c < G.dimension). part_divided c d u q)
          (λ (s : (c ≡ 2) × (G.dimension ≡ 2)). subst (λ e. DividesInteger M (part e (star u))) (sym s.0) (flat_divided s.1 u)) (coordinate_cases G g c l)

  -- over M
  abbrev pub quotient : ℕ → ℕ → ℤ
  quotient c u = int_div (part c (star u)) (pos M)

  quotient_is : (c : ℕ) (l : c < G.dimension) (u : ℕ) (q : IsQuotientVertex G u) → quotient c u ≡ (mean c l u q).0
  quotient_is c l u q = let h = mean c l u q in ap (λ t. int_div t (pos M)) (star_is firsts c (dimension_below G g c l) G u ∙ h.1)
      ∙ exact_quotient M (omega arith) h.0

  rest : (c : ℕ) → c < G.dimension → (u : ℕ) → IsQuotientVertex G u → gains G (first c) u +ℤ shifts G (part c) u ≡ pos M *ℤ quotient c u
  rest c l u q = (mean c l u q).1 ∙ ap (λ t. pos M *ℤ t) (sym (quotient_is c l u q))

  -- 0 at vertex 1
  origin : (c : ℕ) → c < G.dimension → residue_at firsts c 1 ≡ 0
  origin c l = let t = (equal_residues M (residue_at firsts c 1) 0 (at_below (omega arith) firsts c 1) (omega arith)).1 (solution c l).origin in
      by (residue_at firsts c 1) t
    where
      by : (a : ℕ) → IsTrue (nat_eq a 0) → a ≡ 0
      by a t = search rules

  module _ (lefts nexts : List (Row (Residue M) D)) (count : length lefts ≡ G.vertices) (left : AreLeftRows G (map residue_vector firsts) lefts G.vertices)
      (only : SolveOnly M G) (next : SolveWith M residue_value G lefts nexts) where
    right : (c : ℕ) → c < G.dimension → (u : ℕ) → IsQuotientVertex G u → IsResidue M (quotient c u) (residue_at lefts c u)
    right c l u q =
        let a = q.0 in let b = q.1 in let inside : u - 1 < G.vertices = omega arith in
        let there : u - 1 < length lefts = omega (arith, count, inside) in
        let back : u - 1 + 1 ≡ u = omega arith in let d = some_of lefts (u - 1) there in
        let row = subst (λ v. IsLeftRow (star v) (get_or lefts (u - 1) d)) back (left.each (u - 1) d inside) in
        let k = dimension_below G g c l in
        let h = (left_part_is (star u) (get_or lefts (u - 1) d) row c k).is (quotient c u) (star_is firsts c k G u ∙ rest c l u q) in
        subst (IsResidue M (quotient c u)) (sym (part_there lefts (u - 1) c d there)) h

    pub steps : (c : ℕ) → c < G.dimension → AreTwoSteps M G c (residue_at firsts c) (residue_at nexts c) (residue_at lefts c) (quotient c)
    steps c l = record {
      solution = solution c l;
      only = only c l;
      origin = origin c l;
      rest = rest c l;
      right = right c l;
      next = subst (IsSolutionWith M G (λ u. whole (pos (residue_at lefts c u)))) (values_are nexts c)
          (subst (λ p. IsSolutionWith M G p (λ u. value_in residue_value nexts u c)) (values_are lefts c) (next c l));
    }

-- the part of a row that is there
fraction_there : {D : ℕ} (rows : List (Row Fraction D)) (i c : ℕ) (d : Row Fraction D) → i < length rows
    → option_map_or (λ r. row_part fraction_value r c) (slice_get rows i) (whole (pos 0)) ≡ row_part fraction_value (get_or rows i d) c
fraction_there {D} rows i c d l = search (arith, slice_get-get_or)

lifted_is : {M D : ℕ} (f n : Row (Residue M) D) (c : ℕ) → lifted_part f n c ≡ residue_part f c + M * residue_part n c
lifted_is f n zero = refl
lifted_is f n (suc zero) = refl
lifted_is f n (suc (suc c)) = refl

module _ {M D : ℕ} (G : Graph) (g : IsGraph G) (dimension : G.dimension ≡ D) (firsts nexts : List (Row (Residue M) D)) (count : length firsts ≡ G.vertices)
    (next_count : length nexts ≡ G.vertices) where
  -- the row of a vertex
  inside : (u : ℕ) → IsQuotientVertex G u → u - 1 < length firsts
  inside u q = let a = q.0 in let b = q.1 in omega (arith, count, a, b)

  next_inside : (u : ℕ) → IsQuotientVertex G u → u - 1 < length nexts
  next_inside u q = let a = q.0 in let b = q.1 in omega (arith, next_count, a, b)

  abbrev lifted_at : ℕ → ℕ → ℕ
  lifted_at c u = residue_at firsts c u + M * residue_at nexts c u

  lifted_there : (u : ℕ) → IsQuotientVertex G u → (c : ℕ) (a b : Row (Residue M) D)
      → lifted_at c u ≡ lifted_part (get_or firsts (u - 1) a) (get_or nexts (u - 1) b) c
  lifted_there u q c a b =
      (λ i. part_there firsts (u - 1) c a (inside u q) i + M * part_there nexts (u - 1) c b (next_inside u q) i)
      ∙ sym (lifted_is (get_or firsts (u - 1) a) (get_or nexts (u - 1) b) c)

  module _ (rows : List (Row Fraction D)) (rows_count : length rows ≡ G.vertices) (recovered : AreRecovered firsts nexts rows (length firsts)) where
    row_inside : (u : ℕ) → IsQuotientVertex G u → u - 1 < length rows
    row_inside u q = let a = q.0 in let b = q.1 in omega (arith, rows_count, a, b)

    -- the row of vertex u
    there : (u : ℕ) → IsQuotientVertex G u → Row Fraction D
    there u q = get_or rows (u - 1) (some_of rows (u - 1) (row_inside u q))

    value_there : (u : ℕ) (q : IsQuotientVertex G u) (c : ℕ) → value_in fraction_value rows u c ≡ row_part fraction_value (there u q) c
    unfolding there
    value_there u q c = fraction_there rows (u - 1) c (some_of rows (u - 1) (row_inside u q)) (row_inside u q)

    is_row : (u : ℕ) (q : IsQuotientVertex G u) → IsRecoveredRow (M * M) (2 ^ 58) (λ c. lifted_at c u) (there u q)
    unfolding there
    is_row u q =
        let a = some_of firsts (u - 1) (inside u q) in
        let b = some_of nexts (u - 1) (next_inside u q) in
        let h = recovered.each (u - 1) (some_of rows (u - 1) (row_inside u q)) a b (inside u q) in
        subst (λ (x : ℕ → ℕ). IsRecoveredRow (M * M) (2 ^ 58) x (get_or rows (u - 1) (some_of rows (u - 1) (row_inside u q))))
        (λ i c. sym (lifted_there u q c a b) i) h

    no_third : G.dimension ≡ 2 → (u : ℕ) → IsQuotientVertex G u → (value_in fraction_value rows u 2).num ≡ pos 0
    no_third e u q = ap (λ (r : Ratio). r.num) (value_there u q 2) ∙ (is_row u q).flat (sym dimension ∙ e)

    -- they are fractions in lowest terms
    pub are_fractions : AreFractions G (value_in fraction_value rows)
    are_fractions = record { reduced = λ u c q l. option_reduced (slice_get rows (u - 1)) c; flat = λ e u q. no_third e u q }

  module _ (least : 2 ≤ M) (lefts : List (Row (Residue M) D)) (quotient : ℕ → ℕ → ℤ)
      (steps : (c : ℕ) → c < G.dimension → AreTwoSteps M G c (residue_at firsts c) (residue_at nexts c) (residue_at lefts c) (quotient c))
      (connected : IsConnected G) (small : IsSmall G) (P : Placement) (normal : IsNormalPlacement G P) (limits : IsWithinLimits G P) where
    -- a position in lowest terms
    terms : (c u : ℕ) → Lowest (part c (base P u)) P.denominator
    terms c u = lowest P.denominator normal.barycentric.positive (part c (base P u))

    small_part : (c u : ℕ) → c < 3 → IsQuotientVertex G u → unsigned_abs (part c (base P u)) ≤ 2 ^ 58
    small_part c u l q =
        let h = position_bounded G g connected small P normal.normal.origin limits u q in
        let b = below_three (λ c. unsigned_abs (part c (base P u)) ≤ most_position) h.0 h.1 h.2 c l in
        omega (arith, b)

    -- is a reconstruction
    is_reconstruction : (c : ℕ) → c < G.dimension → (u : ℕ) → IsQuotientVertex G u
        → IsReconstruction (lifted_at c u) (M * M) (2 ^ 58) (terms c u).num (terms c u).den
    is_reconstruction c l u q =
        let k = dimension_below G g c l in let d = limits.denominator in
        two_steps_recover M least G g c k (residue_at firsts c) (residue_at nexts c) (residue_at lefts c) (quotient c) (steps c l) P normal (2 ^ 58)
        (omega (arith, d)) u q (small_part c u k q)
        (terms c u).num (terms c u).den (terms c u).is

    -- so no row lacks one
    pub no_lack : ¬ LacksRow firsts nexts
    no_lack h =
        let b = h.below in let u = h.i + 1 in
        let q : IsQuotientVertex G (h.i + 1) = (omega arith, omega (arith, b, count)) in
        let back : h.i + 1 - 1 ≡ h.i = omega arith in
        let first = some_of firsts (h.i + 1 - 1) (inside (h.i + 1) q) in
        let next = some_of nexts (h.i + 1 - 1) (next_inside (h.i + 1) q) in let k = h.lacks first next in
        let l : k.c < G.dimension = (let s = k.below in omega (arith, s, dimension)) in
        let r = is_reconstruction k.c l (h.i + 1) q in
        let same = lifted_there (h.i + 1) q k.c first next ∙ ap (λ j. lifted_part (get_or firsts j first) (get_or nexts j next) k.c) back in
        k.none (terms k.c (h.i + 1)).num (terms k.c (h.i + 1)).den (subst
        (λ x. IsReconstruction x (M * M) (2 ^ 58) (terms k.c (h.i + 1)).num (terms k.c (h.i + 1)).den) same r)

    module _ (rows : List (Row Fraction D)) (rows_count : length rows ≡ G.vertices) (recovered : AreRecovered firsts nexts rows (length firsts)) where
      abbrev p : ℕ → ℕ → Ratio
      p u c = value_in fraction_value rows u c

      stands : (u c : ℕ) → IsQuotientVertex G u → c < G.dimension → part c (base P u) *ℤ pos (p u c).den ≡ (p u c).num *ℤ pos P.denominator
      stands u c q l =
          let one = (is_row rows rows_count recovered u q).each c (subst (λ n. c < n) dimension l) in
          let same = one.only (terms c u).num (terms c u).den (is_reconstruction c l u q) in
          subst (λ (r : Ratio). part c (base P u) *ℤ pos r.den ≡ r.num *ℤ pos P.denominator) (sym (value_there rows rows_count recovered u q c))
          ((λ i. part c (base P u) *ℤ pos (sym same.1 i)) ∙ (terms c u).is.same ∙ ap (λ n. n *ℤ pos P.denominator) same.0)

      zero_times : (x d n e : ℤ) → x ≡ pos 0 → n ≡ pos 0 → x *ℤ d ≡ n *ℤ e
      zero_times x d n e f g = ap (λ t. t *ℤ d) f ∙ zero_product d ∙ sym (zero_product e) ∙ ap (λ t. t *ℤ e) (sym g)

      -- the recovered fractions are the positions of the normal placement
      pub is_scaled : IsScaled G p P
      is_scaled = record {
        positive = normal.barycentric.positive;
        count = normal.barycentric.count;
        at = λ u c q l. ⊎_elim
            (λ (d : c < G.dimension). stands u c q d)
            (λ (s : (c ≡ 2) × (G.dimension ≡ 2)). subst (λ e. part e (base P u) *ℤ pos (p u e).den ≡ (p u e).num *ℤ pos P.denominator) (sym s.0)
            (zero_times (part 2 (base P u)) (pos (p u 2).den) (p u 2).num (pos P.denominator) (normal.barycentric.dimension u q s.1)
            (no_third rows rows_count recovered s.1 u q)))
            (coordinate_cases G g c l);
      }

-- Exact quotients by M, modulo M.

-- a number of 128 bits
pub abs_fits : (z : ℤ) → FitsSigned w128 z → unsigned_abs z ≤ 2 ^ 127
abs_fits z k = search arith

-- its quotient by 2 or more fits
quotient_fits : (m : ℕ) → 2 ≤ m → (q : ℤ) → unsigned_abs (pos m *ℤ q) ≤ 2 ^ 127 → unsigned_abs q < 2 ^ 127
quotient_fits m l q h = grind (arith, unsigned_abs-mul, mul-le-mul)

-- what the code makes of total = m·q
pub left_is : (m : ℕ) → 2 ≤ m → (total q r : ℤ) (v : ℕ) → FitsSigned w128 total → total ≡ pos m *ℤ q
    → r ≡ int_rem_euclid (to_z w128 (of_z w128 (int_div total (pos m)))) (pos m) → v ≡ unsigned_abs r % m → IsResidue m q v
left_is m l total q r v fits e is f =
    let small = quotient_fits m l q (subst (λ z. unsigned_abs z ≤ 2 ^ 127) e (abs_fits total fits)) in
    let quotient : int_div total (pos m) ≡ q = ap (λ t. int_div t (pos m)) e ∙ exact_quotient m (omega arith) q in
    let fq : FitsSigned w128 q = fits_signed_from_abs w128 q (omega (arith, small)) in
    let back : to_z w128 (of_z w128 (int_div total (pos m))) ≡ q = ap (λ t. to_z w128 (of_z w128 t)) quotient ∙ to_z-of_z w128 q fq in
    let h = residue_small m q r (omega arith) (is ∙ ap (λ t. int_rem_euclid t (pos m)) back) in
    let b = h.below in let same : unsigned_abs r ≡ v = below_same (unsigned_abs r) m v b f in
    subst (IsResidue m q) same h
  where
    below_same : (a m v : ℕ) → a < m → v ≡ a % m → a ≡ v
    below_same a m v l e = sym (e ∙ mod-eq_of_lt l)

pub left_pushed : {M D : ℕ} (G : Graph) (at : List Vector) (xs : List (Row (Residue M) D)) (x : Row (Residue M) D) (n : ℕ) → length xs ≡ n
    → AreLeftRows G at xs n → IsLeftRow (star_vector G at (n + 1)) x → AreLeftRows G at (xs ++ (x ∷ [])) (n + 1)
left_pushed G at xs x n count h s = record {
  each = λ i d b. ⊎_elim
      (λ q. subst (λ t. IsLeftRow (star_vector G at (i + 1)) t) (sym q.1) (h.each i d q.0))
      (λ q. subst (λ t. IsLeftRow (star_vector G at (i + 1)) t) (sym q.1) (subst (λ k. IsLeftRow (star_vector G at (k + 1)) x) (sym q.0) s))
      (get_pushed xs x d i n count b);
}

-- the entry after the good ones stands in the list
module _ (m : ℕ) (fits : Ratio → Type 0) (es : List Entry) (e : Entry) (h : IsAfterGood m fits es e) where
  entry_stands : Contains es e
  entry_stands = subst (λ xs. Contains xs e) (sym h.split) (Contains-append_right h.before (e ∷ h.after) e
      (0, (let l : 0 < suc (length h.after) = omega arith in l), refl))

  -- so if all are good, it is
  good_there : AreGood m fits es → IsGood m fits e
  good_there g = All-contains (IsGood m fits) es e g.all entry_stands

-- a pivot without an inverse, and inverses of all, exclude each other
pub no_pivot : (m k : ℕ) (G : Graph) → IsFirstPivot m G k → ¬ HasInverses m G
no_pivot m k G h g = h.none ((good_there m Any (listed_numbers G) h.entry h.first g).divisor h.op)

pub not_reachable : (G : Graph) (a b c : ℕ) → LacksModulus G a b c → ¬ IsReachable G
not_reachable G a b c h (inl narrow) = h.wide.unfit (good_there 0 IsNarrow (listed_numbers G) h.wide.entry h.wide.first narrow).fit
not_reachable G a b c h (inr (inl g)) = no_pivot _ a G h.no_first g
not_reachable G a b c h (inr (inr (inl g))) = no_pivot _ b G h.no_second g
not_reachable G a b c h (inr (inr (inr g))) = no_pivot _ c G h.no_third g
