-- Positions are within the limits if all arcs are, and what is computed of them fits 128 bits.
use Rattle.std.proofs.Common.{zero-add, ◌≡◌, ◌⊎◌, inl, inr, ℕ, zero, suc, arith, ◌+◌, ◌-◌, ◌*◌, ◌<◌, ◌≤◌, Bool, true, false, List, [], ◌∷◌, ap, sym, refl}
use Rattle.std.proofs.Common.{subst, ◌∙◌, ⊎_elim, ◌^◌, ℤ, pos, ◌+ℤ◌, ◌-ℤ◌, ◌*ℤ◌}
use Rattle.std.proofs.lemmas.Bool.{cases_Bool, cases_lt, leb-true, le-leb}
use Rattle.std.specs.Prelude.{nat_le, if◌then◌else◌, unsigned_abs, FitsSigned}
use Rattle.std.{proofs.Math.Nat.mul-le-mul, specs.Int.w128}
use Rattle.integers.specs.Vectors.{zero_vector, Vector, plus, times, IsWithin}
use Rattle.integers.proofs.vectors.Bounds.{bounded_sum, bounded_difference, bounded_product, wider, fits_from_bound}
use Rattle.integers.{specs.Staircase.part, proofs.numbers.Ring.linear, proofs.numbers.Ring.ring, proofs.vectors.Laws.below_three}
use Rattle.integers.{proofs.vectors.Laws.part_is_coordinate}
use Rattle.periodic_net.specs.Graph.{Graph, Arc, IsArc, IsGraph, IsQuotientVertex, Vertex, vertex, IsVertex, IsWalk, IsConnected}
use Rattle.periodic_net.specs.Placement.{Placement, base, arc_vector, IsWithinLimits}
use Rattle.periodic_net.specs.Limits.{most_vertices, most_shift, most_units, IsSmall}
use Rattle.periodic_net.proofs.CallerLemmas.{arc_inside}
use Rattle.quotient_graph.{specs.PlacedNets.most_position, proofs.Stars.arc_within}

-- What grows by at most B along each arc is at most B times the number of the other vertices everywhere, if it is 0 at vertex 1.
-- The vertices with a value up to k·B are at least k + 1, or all: if one is missing, the first arc of a walk that leaves them brings one more.

-- how many of the numbers below n pass the test
count : (ℕ → Bool) → ℕ → ℕ
count f zero = 0
count f (suc n) = (if f n then 1 else 0) + count f n

counted : (f : ℕ → Bool) (n : ℕ) → f n ≡ true → count f (suc n) ≡ 1 + count f n
unfolding count
counted f n e = ap (λ b. (if b then 1 else 0) + count f n) e

passed_over : (f : ℕ → Bool) (n : ℕ) → f n ≡ false → count f (suc n) ≡ count f n
unfolding count
passed_over f n e = ap (λ b. (if b then 1 else 0) + count f n) e ∙ zero-add (count f n)

-- a number below n + 1 is below n, or n
below_or : (j n : ℕ) → j < suc n → (j < n) ⊎ (j ≡ n)
below_or j n l = ⊎_elim (λ (h : j < n). inl h) (λ h. inr (omega arith)) (cases_lt j n)

count_at_most : (f : ℕ → Bool) (n : ℕ) → count f n ≤ n
unfolding count
count_at_most f zero = omega arith
count_at_most f (suc n) = let h = count_at_most f n in ⊎_elim
    (λ (e : f n ≡ true). let c = counted f n e in omega (arith, c, h)) (λ e. let c = passed_over f n e in omega (arith, c, h)) (cases_Bool (f n))

-- some number is missed, or all pass
some_missed : (f : ℕ → Bool) (n : ℕ) → ((j : ℕ) × (j < n) × (f j ≡ false)) ⊎ ((j : ℕ) → j < n → f j ≡ true)
some_missed f zero = inr (λ j l. absurd (omega arith))
some_missed f (suc n) = ⊎_elim
    (λ (m : (j : ℕ) × (j < n) × (f j ≡ false)). let l = m.1 in inl (m.0, omega arith, m.2))
    (λ all. ⊎_elim (λ (e : f n ≡ true). inr (λ j l. ⊎_elim (λ (h : j < n). all j h) (λ h. subst (λ x. f x ≡ true) (sym h) e) (below_or j n l)))
    (λ e. inl (n, omega arith, e)) (cases_Bool (f n))) (some_missed f n)

-- if all n are counted, all pass
all_counted : (f : ℕ → Bool) (n : ℕ) → n ≤ count f n → (j : ℕ) → j < n → f j ≡ true
all_counted f zero h j l = absurd (omega arith)
all_counted f (suc n) h j l = ⊎_elim
    (λ (e : f n ≡ true). let c = counted f n e in ⊎_elim (λ (b : j < n). all_counted f n (omega (arith, c, h)) j b) (λ b. subst (λ x. f x ≡ true) (sym b) e)
    (below_or j n l))
    (λ e. let c = passed_over f n e in let m = count_at_most f n in absurd (omega (arith, c, h, m))) (cases_Bool (f n))

last_grows : (f : ℕ → Bool) (n : ℕ) → count f n ≤ count f (suc n)
last_grows f n = ⊎_elim (λ (e : f n ≡ true). let c = counted f n e in omega (arith, c)) (λ e. let c = passed_over f n e in omega (arith, c)) (cases_Bool (f n))

module _ (f g : ℕ → Bool) (inside : (j : ℕ) → f j ≡ true → g j ≡ true) where
  count_grows : (n : ℕ) → count f n ≤ count g n
  unfolding count
  count_grows zero = omega arith
  count_grows (suc n) = let h = count_grows n in ⊎_elim
      (λ (e : f n ≡ true). let c = counted f n e in let d = counted g n (inside n e) in omega (arith, c, d, h))
      (λ e. let c = passed_over f n e in ⊎_elim (λ (i : g n ≡ true). let d = counted g n i in omega (arith, c, d, h))
      (λ i. let d = passed_over g n i in omega (arith, c, d, h)) (cases_Bool (g n))) (cases_Bool (f n))

  -- one more passes g
  count_grows_by : (n j : ℕ) → j < n → f j ≡ false → g j ≡ true → count f n + 1 ≤ count g n
  count_grows_by zero j l a b = absurd (omega arith)
  count_grows_by (suc n) j l a b = ⊎_elim
      (λ (h : j < n). let r = count_grows_by n j h a b in ⊎_elim
      (λ (e : f n ≡ true). let c = counted f n e in let d = counted g n (inside n e) in omega (arith, c, d, r))
      (λ e. let c = passed_over f n e in ⊎_elim (λ (i : g n ≡ true). let d = counted g n i in omega (arith, c, d, r))
      (λ i. let d = passed_over g n i in omega (arith, c, d, r)) (cases_Bool (g n))) (cases_Bool (f n)))
      (λ h. let c = passed_over f n (subst (λ x. f x ≡ false) h a) in let d = counted g n (subst (λ x. g x ≡ true) h b) in let r = count_grows n in
      omega (arith, c, d, r)) (below_or j n l)

module _ (G : Graph) (graph : IsGraph G) (connected : IsConnected G) (size : ℕ → ℕ) (B : ℕ) (origin : size 1 ≡ 0)
    (steps : (a : Arc) → IsArc G a → size a.to ≤ size a.from + B) where
  -- an arc that leaves the vertices that pass a test
  record Leaves (test : ℕ → Bool) : Type 0 where
    a : Arc
    is_arc : IsArc G a
    from : test a.from ≡ true
    to : test a.to ≡ false

  first_exit : (test : ℕ → Bool) (w x : Vertex) (us : List Vertex) → IsWalk G w us x → test w.over ≡ true → test x.over ≡ false → Leaves test
  first_exit test w x [] h a b = let e : true ≡ false = sym a ∙ ap (λ (v : Vertex). test v.over) h ∙ b in cc
  first_exit test w x (y ∷ us) h a b = ⊎_elim
      (λ (e : test y.over ≡ true). first_exit test y x us h.1 e b)
      (λ e. record { a = record { from = w.over; to = y.over; shift = _ }; is_arc = h.0; from = a; to = e }) (cases_Bool (test y.over))

  -- whether a vertex has a size up to k·B
  near : ℕ → ℕ → Bool
  near k u = nat_le (size u) (k * B)

  small : ℕ → ℕ → Bool
  small k j = near k (j + 1)

  is_near : (k u : ℕ) → size u ≤ k * B → near k u ≡ true
  unfolding near
  is_near k u l = le-leb (size u) (k * B) l

  near_is : (k u : ℕ) → near k u ≡ true → size u ≤ k * B
  unfolding near
  near_is k u h = leb-true (size u) (k * B) h

  stays_near : (k u : ℕ) → near k u ≡ true → near (suc k) u ≡ true
  stays_near k u h = let l = near_is k u h in is_near (suc k) u (omega (arith, l))

  stays_small : (k j : ℕ) → small k j ≡ true → small (suc k) j ≡ true
  unfolding small
  stays_small k j h = stays_near k (j + 1) h

  at_origin : (u : ℕ) → IsQuotientVertex G u → IsVertex G (vertex u zero_vector)
  at_origin u q = record { over = q; cell = λ d. refl }

  -- where a vertex is missing, some arc leads out of the near ones
  leaves : (k u : ℕ) → IsQuotientVertex G u → near k u ≡ false → Leaves (near k)
  leaves k u q h =
      let one : IsQuotientVertex G 1 = (omega arith, graph.vertices) in
      let w = connected (vertex 1 zero_vector) (vertex u zero_vector) (at_origin 1 one) (at_origin u q) in
      first_exit (near k) (vertex 1 zero_vector) (vertex u zero_vector) w.0 w.1 (is_near k 1 (omega (arith, origin))) h

  one_more : (k j : ℕ) → j < G.vertices → small k j ≡ false → k + 1 ≤ count (small k) G.vertices → suc k + 1 ≤ count (small (suc k)) G.vertices
  unfolding small
  one_more k j l missed many =
      let out = leaves k (j + 1) (omega arith, omega arith) missed in
      let q = (arc_inside G graph out.a out.is_arc).to in let before = near_is k out.a.from out.from in
      let step = steps out.a out.is_arc in
      let place : out.a.to ≡ out.a.to - 1 + 1 = let h = q.0 in omega arith in
      let reached : near (suc k) (out.a.to - 1 + 1) ≡ true = rw place at (is_near (suc k) out.a.to (omega (arith, before, step))) in
      let grown = count_grows_by (small k) (small (suc k)) (stays_small k) G.vertices (out.a.to - 1) (let h = q.0 in let m = q.1 in omega arith)
      (subst (λ x. near k x ≡ false) place out.to) reached in
      omega (arith, grown, many)

  first_counted : (n : ℕ) → 1 ≤ n → small 0 0 ≡ true → 1 ≤ count (small 0) n
  first_counted zero l h = absurd (omega arith)
  first_counted (suc zero) l h = let c = counted (small 0) 0 h in omega (arith, c)
  first_counted (suc (suc n)) l h = let r = first_counted (suc n) (omega arith) h in let m = last_grows (small 0) (suc n) in omega (arith, r, m)

  -- the vertices up to k·B are k + 1 at least, or all
  many_or_all : (k : ℕ) → (k + 1 ≤ count (small k) G.vertices) ⊎ ((j : ℕ) → j < G.vertices → small k j ≡ true)
  unfolding small
  many_or_all zero = inl (first_counted G.vertices graph.vertices (is_near 0 1 (omega (arith, origin))))
  many_or_all (suc k) = ⊎_elim
      (λ (m : k + 1 ≤ count (small k) G.vertices). ⊎_elim
      (λ (s : (j : ℕ) × (j < G.vertices) × (small k j ≡ false)). inl (one_more k s.0 s.1 s.2 m))
      (λ all. inr (λ j l. stays_small k j (all j l))) (some_missed (small k) G.vertices))
      (λ all. inr (λ j l. stays_small k j (all j l))) (many_or_all k)

  -- so no vertex is further than B times the number of the others
  pub reach : (u : ℕ) → IsQuotientVertex G u → size u ≤ (G.vertices - 1) * B
  unfolding small
  reach u q =
      let k = G.vertices - 1 in let place : u - 1 + 1 ≡ u = let h = q.0 in omega arith in
      let below : u - 1 < G.vertices = let h = q.0 in let m = q.1 in omega arith in
      let n : G.vertices ≤ k + 1 = omega arith in
      near_is k u (subst (λ x. near k x ≡ true) place (⊎_elim
      (λ (m : k + 1 ≤ count (small k) G.vertices). all_counted (small k) G.vertices (omega (arith, m, n)) (u - 1) below)
      (λ all. all (u - 1) below) (many_or_all k)))

-- Where all arcs are within the limits, so are the positions, since at most most_vertices - 1 arcs lead from vertex 1 to another.

-- a part of a vector within n
part_within : (n : ℕ) (v : Vector) → IsWithin n v → (c : ℕ) → c < 3 → unsigned_abs (part c v) ≤ n
part_within n v h = below_three (λ c. unsigned_abs (part c v) ≤ n) h.0 h.1 h.2

-- t = (the arc's part) + f - d·s
end_is : (t d s f a : ℤ) → a ≡ (t +ℤ d *ℤ s) -ℤ f → t ≡ (a +ℤ f) -ℤ d *ℤ s
end_is t d s f a e = omega (arith, linear, e)

module _ (G : Graph) (graph : IsGraph G) (connected : IsConnected G) (small : IsSmall G) (P : Placement) (origin : base P 1 ≡ zero_vector)
    (limits : IsWithinLimits G P) (c : ℕ) (below : c < 3) where
  size : ℕ → ℕ
  size u = unsigned_abs (part c (base P u))

  none_at_first : size 1 ≡ 0
  unfolding size
  none_at_first = ap (λ v. unsigned_abs (part c v)) origin ∙ below_three (λ c. unsigned_abs (part c zero_vector) ≡ 0) refl refl refl c below

  vector_is : (a : Arc) → part c (arc_vector P a) ≡ (part c (base P a.to) +ℤ pos P.denominator *ℤ part c a.shift) -ℤ part c (base P a.from)
  vector_is a =
      let k = part_is_coordinate c below in
      k.minus_is (plus (base P a.to) (times (pos P.denominator) a.shift)) (base P a.from)
      ∙ ap (λ x. x -ℤ part c (base P a.from)) (k.plus_is (base P a.to) (times (pos P.denominator) a.shift)
      ∙ ap (λ x. part c (base P a.to) +ℤ x) (k.times_is (pos P.denominator) a.shift))

  steps : (a : Arc) → IsArc G a → size a.to ≤ size a.from + (most_shift + 1) * most_units
  unfolding size
  steps a i =
      let t = part c (base P a.to) in let f = part c (base P a.from) in let s = part c a.shift in
      let v = part c (arc_vector P a) in
      let arc : unsigned_abs v ≤ most_units = part_within most_units (arc_vector P a) (limits.arcs a i) c below in
      let shift : unsigned_abs s ≤ most_shift = part_within most_shift a.shift (arc_within G small a i) c below in
      let product : unsigned_abs (pos P.denominator *ℤ s) ≤ most_units * most_shift =
      bounded_product (pos P.denominator) s most_units most_shift limits.denominator shift in
      let sum : unsigned_abs (v +ℤ f) ≤ most_units + unsigned_abs f = bounded_sum v f most_units (unsigned_abs f) arc (omega arith) in
      let all = bounded_difference (v +ℤ f) (pos P.denominator *ℤ s) (most_units + unsigned_abs f) (most_units * most_shift) sum product in
      let is = end_is t (pos P.denominator) s f v (vector_is a) in
      let h : unsigned_abs t ≤ most_units + unsigned_abs f + most_units * most_shift =
      subst (λ x. unsigned_abs x ≤ most_units + unsigned_abs f + most_units * most_shift) (sym is) all in
      omega (arith, h)

  part_fits : (u : ℕ) → IsQuotientVertex G u → unsigned_abs (part c (base P u)) ≤ most_position
  unfolding size
  part_fits u q =
      let r = reach G graph connected size ((most_shift + 1) * most_units) none_at_first steps u q in
      let n : G.vertices - 1 ≤ most_vertices - 1 = let v = small.vertices in omega arith in
      let same : (most_shift + 1) * most_units ≤ (most_shift + 1) * most_units = omega arith in
      let m : (G.vertices - 1) * ((most_shift + 1) * most_units) ≤ (most_vertices - 1) * ((most_shift + 1) * most_units) = mul-le-mul n same in
      omega (arith, r, m)

-- the position of each vertex is within that bound
pub position_bounded : (G : Graph) → IsGraph G → IsConnected G → IsSmall G → (P : Placement) → base P 1 ≡ zero_vector → IsWithinLimits G P → (u : ℕ)
    → IsQuotientVertex G u → IsWithin most_position (base P u)
position_bounded G graph connected small P origin limits u q =
    let fits = λ (c : ℕ) (l : c < 3). part_fits G graph connected small P origin limits c l u q in
    (fits 0 (omega arith), fits 1 (omega arith), fits 2 (omega arith))

-- so it fits a vector
pub position_fits : (G : Graph) → IsGraph G → IsConnected G → IsSmall G → (P : Placement) → base P 1 ≡ zero_vector → IsWithinLimits G P → (u : ℕ)
    → IsQuotientVertex G u → IsWithin (2 ^ 61) (base P u)
position_fits G graph connected small P origin limits u q =
    wider most_position (2 ^ 61) (omega arith) (base P u) (position_bounded G graph connected small P origin limits u q)

-- What fits 128 bits: to + d·s - from, for the parts of vectors, a denominator and a shift within the limits.

pub shift_fits : (s : ℤ) → unsigned_abs s ≤ most_shift → FitsSigned w128 s
shift_fits s h = fits_from_bound s most_shift (omega arith) h

module _ (from to d s : ℤ) (f : unsigned_abs from ≤ 2 ^ 61) (t : unsigned_abs to ≤ 2 ^ 61) (h : unsigned_abs d ≤ most_units)
    (i : unsigned_abs s ≤ most_shift) where
  product_small : unsigned_abs (d *ℤ s) ≤ most_units * most_shift
  product_small = bounded_product d s most_units most_shift h i

  pub product_fits : FitsSigned w128 (d *ℤ s)
  product_fits = fits_from_bound (d *ℤ s) (most_units * most_shift) (omega arith) product_small

  sum_small : unsigned_abs (to +ℤ d *ℤ s) ≤ 2 ^ 61 + most_units * most_shift
  sum_small = bounded_sum to (d *ℤ s) (2 ^ 61) (most_units * most_shift) t product_small

  pub sum_fits : FitsSigned w128 (to +ℤ d *ℤ s)
  sum_fits = fits_from_bound (to +ℤ d *ℤ s) (2 ^ 61 + most_units * most_shift) (omega arith) sum_small

  pub difference_fits : FitsSigned w128 ((to +ℤ d *ℤ s) -ℤ from)
  difference_fits = search (arith, fits_from_bound, bounded_difference, sum_small)

-- 0 + d·0 - 0
pub flat_part : (from to d s : ℤ) → from ≡ pos 0 → to ≡ pos 0 → s ≡ pos 0 → (to +ℤ d *ℤ s) -ℤ from ≡ pos 0
flat_part from to d s f t e = rw (f, t, e) (simp ring (omega (arith, linear)))
