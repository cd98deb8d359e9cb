-- The colourings of a net that is not connected are splits.
use Rattle.std.proofs.Common.{◌≡◌, ℕ, zero, suc, ℤ, pos, neg_ℤ, ◌+ℤ◌, ◌-ℤ◌, ◌*ℤ◌, inl, inr, refl, sym, ap, subst, ◌∙◌, arith, ◌<ℤ◌, ◌≢◌, ◌^◌, negsuc, ◌≤ℤ◌}
use Rattle.std.proofs.Common.{FitsSigned, ◌-◌, ◌<◌, ◌≤◌, Bool, false, cond, ◌==◌, List, [], ◌∷◌, length, map, get_or, Option, None, IsSome, All, ◌⊎◌}
use Rattle.std.proofs.{Common.unsigned_abs, lemmas.Int.ints, lemmas.Bool.ne_eqb, lemmas.List.length-map, lemmas.List.get_or-map}
use Rattle.integers.specs.Vectors.{Vector, vector, zero_vector, plus, minus, dot, HasDimension}
use Rattle.integers.proofs.numbers.{Ring.ring, Ring.linear, Division.euclid_rest, Order.positive_natural}
use Rattle.integers.proofs.vectors.{Laws.plus_minus, Directions.Start, Directions.start_of}
use Rattle.periodic_net.specs.Graph.{Graph, IsGraph, Vertex, vertex, moved, IsVertex, IsQuotientVertex, AreJoined, IsConnected}
use Rattle.periodic_net.specs.Split.{Split, AreAlike, entry, colour, IsSplit, IsFound, WalkShift, IsFlatSplit, IsSparseSplit, ClosedShift, IsPivot, EndsBy}
use Rattle.periodic_net.specs.Split.{IsPartSplit}
use Rattle.periodic_net.proofs.CallerLemmas.{reached_transitive, reached_by_arc, joined_moved, same_reached, one_not_alike, closed_difference, split_by_parts}
use Rattle.periodic_net.proofs.CallerLemmas.{split_shows_not_connected}
use Rattle.std.specs.Int.{w128}
use Rattle.vecdim.specs.Stairs.{Stairs, InStairs, IsReducedStair, HasFlatEnd, HasStairShape, rows_of}
use Rattle.vecdim.proofs.CallerLemmas.{fits_within, rows_are_basis, remainder}
use Rattle.connected_dim.specs.Sparse.{IsComplement, IsFirstDual, IsSecondDual, IsThirdDual, IsDual, sparse_colour, sparse_colouring}
use Rattle.integers.specs.Staircase.{part, IsStaircase}
use Rattle.vecdim.specs.Lattices.{Members}
use Rattle.connected_dim.specs.{Search.walk_to, Search.AreWalks, Generators.shift_at, Lattices.AreClosedWalks}
use Rattle.connected_dim.proofs.Generated.{walk_at, each_found, some_walk}
use Rattle.connected_dim.proofs.Normals.{ends_by_zero, ends_by_one, ends_by_two, up_dot}
use Rattle.quotient_graph.specs.{declared.split.Split.Split as GivenSplit, Splits.split_view}
use Rattle.connected_dim.specs.Refusals.{IsDisconnectedBy, IsDegenerateBy}

-- a walk to a vertex, and on to a joined one
further_walk : (G : Graph) (w x : Vertex) (T : Vector) → AreJoined G w x → WalkShift G 1 w.over T → WalkShift G 1 x.over (plus x.cell (minus T w.cell))
further_walk G w x T h f =
    let k = minus T w.cell in
    let step = reached_by_arc G (moved w k) (moved x k) (subst (λ (t : Type 0). t) (sym (joined_moved G w x k)) h) in
    reached_transitive G (vertex 1 zero_vector) (vertex w.over T) (moved x k) f (same_reached G (ap (vertex w.over) (plus_minus w.cell T)) refl step)

-- the two ends have one colour
same_colours : (q c1 c2 c3 t1 t2 t3 w1 w2 w3 x1 x2 x3 h g k l : ℤ)
    → h ≡ neg_ℤ (c1 *ℤ t1 +ℤ c2 *ℤ t2 +ℤ c3 *ℤ t3) +ℤ q *ℤ k
    → g ≡ neg_ℤ (c1 *ℤ (x1 +ℤ (t1 -ℤ w1)) +ℤ c2 *ℤ (x2 +ℤ (t2 -ℤ w2)) +ℤ c3 *ℤ (x3 +ℤ (t3 -ℤ w3))) +ℤ q *ℤ l
    → h +ℤ (c1 *ℤ w1 +ℤ c2 *ℤ w2 +ℤ c3 *ℤ w3) ≡ (g +ℤ (c1 *ℤ x1 +ℤ c2 *ℤ x2 +ℤ c3 *ℤ x3)) +ℤ q *ℤ (k -ℤ l)
same_colours q c1 c2 c3 t1 t2 t3 w1 w2 w3 x1 x2 x3 h g k l e f = simp ring (omega (arith, linear, e, simp ring at f))

-- if each vertex is found and has the entry -c·T modulo q, joined vertices have one colour
joined_alike : (G : Graph) (S : Split) → ((u : ℕ) → IsQuotientVertex G u → IsFound G 1 u)
    → ((u : ℕ) (T : Vector) → IsQuotientVertex G u → WalkShift G 1 u T → AreAlike S.q (entry S.h u) (neg_ℤ (dot S.c T)))
    → (w x : Vertex) → IsVertex G w → IsVertex G x → AreJoined G w x → AreAlike S.q (colour S w) (colour S x)
joined_alike G S found h w x i j joined =
    let f = found w.over i.over in let T = f.0 in let a = h w.over T i.over f.1 in
    let b = h x.over (plus x.cell (minus T w.cell)) j.over (further_walk G w x T joined f.1) in (
      a.0 -ℤ b.0,
      same_colours (pos S.q) S.c.x S.c.y S.c.z T.x T.y T.z w.cell.x w.cell.y w.cell.z x.cell.x x.cell.y x.cell.z (entry S.h w.over)
          (entry S.h x.over) a.0 b.0 a.1 b.1,
    )

-- if (1, 0) and (1, v) have one colour, c·v is 0 modulo q
shift_alike : (q c1 c2 c3 v1 v2 v3 h k : ℤ) → h +ℤ (c1 *ℤ pos 0 +ℤ c2 *ℤ pos 0 +ℤ c3 *ℤ pos 0) ≡ (h +ℤ (c1 *ℤ v1 +ℤ c2 *ℤ v2 +ℤ c3 *ℤ v3)) +ℤ q *ℤ k
    → c1 *ℤ v1 +ℤ c2 *ℤ v2 +ℤ c3 *ℤ v3 ≡ pos 0 +ℤ q *ℤ neg_ℤ k
shift_alike q c1 c2 c3 v1 v2 v3 h k e = simp ring (omega (arith, linear, simp ring at e))

-- a vector whose product with c is not 0 modulo q gives two colours
split_by_vector : (G : Graph) (S : Split) → IsGraph G → ((u : ℕ) → IsQuotientVertex G u → IsFound G 1 u)
    → ((u : ℕ) (T : Vector) → IsQuotientVertex G u → WalkShift G 1 u T → AreAlike S.q (entry S.h u) (neg_ℤ (dot S.c T)))
    → (v : Vector) → HasDimension G.dimension v → ¬ AreAlike S.q (dot S.c v) (pos 0) → IsSplit G S
split_by_vector G S g found h v d a = record {
  joined = joined_alike G S found h;
  two = (
    vertex 1 zero_vector,
    vertex 1 v,
    record { over = (omega arith, g.vertices); cell = λ _. refl },
    record { over = (omega arith, g.vertices); cell = d },
    λ k. a (neg_ℤ k.0, shift_alike (pos S.q) S.c.x S.c.y S.c.z v.x v.y v.z (entry S.h 1) k.0 k.1),
  );
}

-- equal numbers are alike
equal_alike : (q : ℕ) (x y : ℤ) → x ≡ y → AreAlike q x y
equal_alike q x y e = (pos 0, more (pos q) x y e)
  where
    more : (q x y : ℤ) → x ≡ y → x ≡ y +ℤ q *ℤ pos 0
    more q x y e = simp ring (omega (arith, linear, e))

-- modulo 0 a number that is not 0 is not like 0
not_alike : (q : ℕ) (x y : ℤ) → q ≡ 0 → x ≡ y → pos 0 <ℤ y → ¬ AreAlike q x (pos 0)
not_alike q x y z e h a = search arith

-- the product with the first axis
first_part : (c1 c2 c3 : ℤ) → c1 *ℤ pos 1 +ℤ c2 *ℤ pos 0 +ℤ c3 *ℤ pos 0 ≡ c1
first_part c1 c2 c3 = simp ring (omega (arith, linear))

-- with the second
second_part : (c1 c2 c3 : ℤ) → c1 *ℤ pos 0 +ℤ c2 *ℤ pos 1 +ℤ c3 *ℤ pos 0 ≡ c2
second_part c1 c2 c3 = simp ring (omega (arith, linear))

-- the second case is a split
pub flat_is_split : (G : Graph) (S : Split) → IsGraph G → IsFlatSplit G S → IsSplit G S
flat_is_split G S g p = by (start_of S.c p.positive)
  where
    h : (u : ℕ) (T : Vector) → IsQuotientVertex G u → WalkShift G 1 u T → AreAlike S.q (entry S.h u) (neg_ℤ (dot S.c T))
    h u T v w = equal_alike S.q (entry S.h u) (neg_ℤ (dot S.c T)) (p.h u T v w)

    flat : G.dimension ≡ 2 → pos 0 <ℤ S.c.z → ⊥
    flat d l = let z = p.dimension d in omega (arith, ints, z, l)

    by : Start S.c → IsSplit G S
    by s = elim s.which [
      | inl l ↦ split_by_vector G S g p.found h (vector (pos 1) (pos 0) (pos 0)) (λ d. refl)
          (not_alike S.q (dot S.c (vector (pos 1) (pos 0) (pos 0))) S.c.x p.q (first_part S.c.x S.c.y S.c.z) l)
      | inr m ↦ elim m [
        | inl l ↦ split_by_vector G S g p.found h (vector (pos 0) (pos 1) (pos 0)) (λ d. refl)
            (not_alike S.q (dot S.c (vector (pos 0) (pos 1) (pos 0))) S.c.y p.q (second_part S.c.x S.c.y S.c.z) l.1)
        | inr l ↦ split_by_vector G S g p.found h (vector (pos 0) (pos 0) (pos 1)) (λ d. absurd (flat d l.2))
            (not_alike S.q (dot S.c (vector (pos 0) (pos 0) (pos 1))) S.c.z p.q (up_dot S.c.x S.c.y S.c.z) l.2)
      ]
    ]

-- and the third
pub sparse_is_split : (G : Graph) (S : Split) (k : ℕ) → IsGraph G → IsSparseSplit G S k → IsSplit G S
sparse_is_split G S zero g p = split_by_vector G S g p.found p.h (vector (pos 1) (pos 0) (pos 0)) (λ d. refl)
    (one_not_alike S.q p.above (dot S.c (vector (pos 1) (pos 0) (pos 0))) (first_part S.c.x S.c.y S.c.z ∙ p.one))
sparse_is_split G S (suc zero) g p = split_by_vector G S g p.found p.h (vector (pos 0) (pos 1) (pos 0)) (λ d. refl)
    (one_not_alike S.q p.above (dot S.c (vector (pos 0) (pos 1) (pos 0))) (second_part S.c.x S.c.y S.c.z ∙ p.one))
sparse_is_split G S (suc (suc zero)) g p = split_by_vector G S g p.found p.h (vector (pos 0) (pos 0) (pos 1)) (λ d. absurd (let l = p.place in omega arith))
    (one_not_alike S.q p.above (dot S.c (vector (pos 0) (pos 0) (pos 1))) (up_dot S.c.x S.c.y S.c.z ∙ p.one))
sparse_is_split G S (suc (suc (suc k))) g p = absurd (let l = p.place in elim g.dimension [ inl e ↦ omega arith | inr e ↦ omega arith ])

-- The vector that takes the members of a staircase to multiples of a pivot.

-- a pivot, and what stands above it
pub above_fits : (f i : ℤ) → pos 0 ≤ℤ f → f <ℤ i → i ≤ℤ pos (2 ^ 60) → FitsSigned w128 f × FitsSigned w128 i
above_fits f i a b c = (fits_within f i c a (omega (arith, ints, b)), fits_within i i c (omega (arith, ints, a, b)) (omega (arith, ints)))

-- a number and what completes it to a multiple
pub complement_is : (q b c : ℤ) → IsComplement q b c → (j : ℤ) × (c ≡ neg_ℤ b +ℤ q *ℤ j)
complement_is q b c (inl h) = (pos 0, let e = h.0 in let f = h.1 in omega (arith, ints, e, f))
complement_is q b c (inr h) = (pos 1, let e = h.1 in omega (arith, ints, e))

-- and its range
pub complement_range : (q b c : ℤ) → pos 0 ≤ℤ b → b <ℤ q → IsComplement q b c → (pos 0 ≤ℤ c) × (c <ℤ q)
complement_range q b c l u (inl h) = let e = h.0 in let f = h.1 in (omega (arith, ints, f), omega (arith, ints, e, f, u, l))
complement_range q b c l u (inr h) = let e = h.1 in let n = h.0 in (omega (arith, ints, e, u), above b l n e)
  where
    above : (b : ℤ) → pos 0 ≤ℤ b → b ≢ pos 0 → c ≡ q -ℤ b → c <ℤ q
    above b h k p = grind arith

-- the product at the first place
first : (x y z k a : ℤ) → x ≡ k *ℤ a → pos 1 *ℤ x +ℤ pos 0 *ℤ y +ℤ pos 0 *ℤ z ≡ a *ℤ k
first x y z k a e = simp ring (omega (arith, linear, e))

-- at the second
second : (c x y z k l b e j : ℤ) → c ≡ neg_ℤ b +ℤ e *ℤ j → x ≡ k *ℤ pos 1 → y ≡ k *ℤ b +ℤ l *ℤ e → c *ℤ x +ℤ pos 1 *ℤ y +ℤ pos 0 *ℤ z ≡ e *ℤ (j *ℤ k +ℤ l)
second c x y z k l b e j ec ex ey =
    let p = ap (λ t. c *ℤ t) ex in let q = ap (λ t. k *ℤ t) ec in
    simp ring (omega (arith, linear, ey, simp ring at p, simp ring at q))

-- and at the third
third : (c d x y z k l n c0 f i j h : ℤ) → c ≡ neg_ℤ c0 +ℤ i *ℤ j → d ≡ neg_ℤ f +ℤ i *ℤ h → x ≡ k *ℤ pos 1 → y ≡ k *ℤ pos 0 +ℤ l *ℤ pos 1
    → z ≡ k *ℤ c0 +ℤ l *ℤ f +ℤ n *ℤ i
    → c *ℤ x +ℤ d *ℤ y +ℤ pos 1 *ℤ z ≡ i *ℤ (j *ℤ k +ℤ h *ℤ l +ℤ n)
third c d x y z k l n c0 f i j h ec ed ex ey ez =
    let p = ap (λ t. c *ℤ t) ex in let q = ap (λ t. k *ℤ t) ec in let r = ap (λ t. d *ℤ t) ey in
    let s = ap (λ t. l *ℤ t) ed in
    simp ring (omega (arith, linear, ez, simp ring at p, simp ring at q, simp ring at r, simp ring at s))

-- q divides c·v
abbrev pub Divides : ℤ → ℤ → Type 0
Divides q z = (n : ℤ) × (z ≡ q *ℤ n)

-- each place's vector takes the members to multiples
pub first_divides : (S : Stairs) (q : ℤ) (c : Vector) → IsFirstDual S q c → (v : Vector) → InStairs S v → Divides q (dot c v)
first_divides S q c h v m = subst (λ q. Divides q (dot c v)) (sym h.pivot) (subst (λ c. Divides S.first_x (dot c v)) (sym h.is)
    (m.k, first v.x v.y v.z m.k S.first_x m.x))

-- a product, by the parts of the first vector
dot_with : (c v : Vector) (x y z : ℤ) → c.x ≡ x → c.y ≡ y → c.z ≡ z → dot c v ≡ dot (vector x y z) v
dot_with c v x y z e f g = λ i. e i *ℤ v.x +ℤ f i *ℤ v.y +ℤ g i *ℤ v.z

-- the second
pub second_divides : (S : Stairs) (q : ℤ) (c : Vector) → IsSecondDual S q c → (v : Vector) → InStairs S v → Divides q (dot c v)
second_divides S q c h v m =
    let j = complement_is S.second_y S.first_y c.x (subst (λ q. IsComplement q S.first_y c.x) h.pivot h.x) in
    let e = second c.x v.x v.y v.z m.k m.l S.first_y S.second_y j.0 j.1 (m.x ∙ ap (λ t. m.k *ℤ t) h.first_x) m.y in
    subst (λ q. Divides q (dot c v)) (sym h.pivot) (j.0 *ℤ m.k +ℤ m.l, dot_with c v c.x (pos 1) (pos 0) refl h.y h.z ∙ e)

-- and the third
pub third_divides : (S : Stairs) (q : ℤ) (c : Vector) → IsReducedStair S → IsThirdDual S q c → (v : Vector) → InStairs S v → Divides q (dot c v)
third_divides S q c r h v m =
    let j = complement_is S.third_z S.first_z c.x (subst (λ q. IsComplement q S.first_z c.x) h.pivot h.x) in
    let l = complement_is S.third_z S.second_z c.y (subst (λ q. IsComplement q S.second_z c.y) h.pivot h.y) in
    let from = r.first_y_from in let to = r.first_y_to in let one = h.second_y in let b : S.first_y ≡ pos 0 = omega (arith, ints, from, to, one) in
    let y : v.y ≡ m.k *ℤ pos 0 +ℤ m.l *ℤ pos 1 = m.y ∙ (λ i. m.k *ℤ b i +ℤ m.l *ℤ h.second_y i) in
    let e = third c.x c.y v.x v.y v.z m.k m.l m.n S.first_z S.second_z S.third_z j.0 l.0 j.1 l.1 (m.x ∙ ap (λ t. m.k *ℤ t) h.first_x) y m.z in
    subst (λ q. Divides q (dot c v)) (sym h.pivot) (j.0 *ℤ m.k +ℤ l.0 *ℤ m.l +ℤ m.n, dot_with c v c.x c.y (pos 1) refl refl h.z ∙ e)

-- The colouring of a net whose closed walks have full rank and are not all shifts.

-- the entry of one walk is that of each walk to the vertex, modulo q
same_alike : (q c1 c2 c3 s1 s2 s3 t1 t2 t3 h k n : ℤ) → h ≡ neg_ℤ (c1 *ℤ t1 +ℤ c2 *ℤ t2 +ℤ c3 *ℤ t3) +ℤ q *ℤ k
    → c1 *ℤ (s1 -ℤ t1) +ℤ c2 *ℤ (s2 -ℤ t2) +ℤ c3 *ℤ (s3 -ℤ t3) ≡ pos 0 +ℤ q *ℤ n
    → h ≡ neg_ℤ (c1 *ℤ s1 +ℤ c2 *ℤ s2 +ℤ c3 *ℤ s3) +ℤ q *ℤ (k +ℤ n)
same_alike q c1 c2 c3 s1 s2 s3 t1 t2 t3 h k n e f = simp ring (omega (arith, linear, e, simp ring at f))

-- the third row of a stair in space
third_of : (b : Bool) (u v w : Vector) → b ≡ false → part 2 (get_or (u ∷ v ∷ cond b [] (w ∷ [])) 2 zero_vector) ≡ w.z
third_of b u v w h = cc

-- a dimension above 2 is not 2
not_two : (d : ℕ) → 2 < d → (d == 2) ≡ false
not_two d h = ne_eqb d 2 (λ e. omega (arith, e))

-- its pivot
third_row : (d : ℕ) (R : Stairs) → 2 < d → part 2 (get_or (rows_of d R) 2 zero_vector) ≡ R.third_z
third_row d R h = third_of (d == 2) (vector R.first_x R.first_y R.first_z) (vector (pos 0) R.second_y R.second_z) (vector (pos 0) (pos 0) R.third_z)
    (not_two d h)

-- each part is from 0 to below q
parts_range : (q : ℕ) (c : Vector) → 2 ≤ q → (pos 0 ≤ℤ c.x) × (c.x <ℤ pos q) → (pos 0 ≤ℤ c.y) × (c.y <ℤ pos q) → (pos 0 ≤ℤ c.z) × (c.z <ℤ pos q) → (i : ℕ)
    → (pos 0 ≤ℤ part i c) × (part i c <ℤ pos q)
parts_range q c h x y z zero = x
parts_range q c h x y z (suc zero) = y
parts_range q c h x y z (suc (suc zero)) = z
parts_range q c h x y z (suc (suc (suc i))) = (omega (arith, ints), omega (arith, ints, h))

-- 0 is in that range
zero_range : (q : ℕ) (z : ℤ) → 2 ≤ q → z ≡ pos 0 → (pos 0 ≤ℤ z) × (z <ℤ pos q)
zero_range q z h e = (omega (arith, ints, e), omega (arith, ints, e, h))

-- and 1
one_range : (q : ℕ) (z : ℤ) → 2 ≤ q → z ≡ pos 1 → (pos 0 ≤ℤ z) × (z <ℤ pos q)
one_range q z h e = (omega (arith, ints, e), omega (arith, ints, e, h))

-- an order of whole numbers as one of natural numbers
above_two : (q : ℕ) → pos 2 ≤ℤ pos q → 2 ≤ q
above_two q h = omega (arith, ints, h)

-- 0 at the front of a sum
plus_nothing : (z w : ℤ) → z ≡ w → z ≡ pos 0 +ℤ w
plus_nothing z w e = omega (arith, ints, e)

module _ (G : Graph) (found : List (Option Vector)) (R : Stairs) (S : Split) (g : IsGraph G) (w : AreWalks G 1 found) (all : All IsSome found)
    (two : 2 ≤ G.dimension) (l : AreClosedWalks G 1 R)
    (basis : IsStaircase (Members G.dimension R) G.dimension (rows_of G.dimension R)) (reduced : IsReducedStair R) (flat : G.dimension ≡ 2 → HasFlatEnd R)
    (sh : S.h ≡ map (sparse_colour (pos S.q) S.c) found) where
  -- the row at a place gives the pivot there
  pivot_at : (i p : ℕ) → i < G.dimension → 1 ≤ p → part i (get_or (rows_of G.dimension R) i zero_vector) ≡ pos p → IsPivot G i p
  pivot_at i p place low e =
      let row = get_or (rows_of G.dimension R) i zero_vector in let stair = basis.each i place in
      record {
        positive = low;
        reached = (row, l.out row stair.may.member, stair.may.before, e);
        least = λ v k z above. subst (λ x. x ≤ℤ part i v) e (stair.least v (record { member = l.into v k; before = z; leads = above }));
      }

  -- so each place has a pivot
  full : (i : ℕ) → i < G.dimension → (p : ℕ) × IsPivot G i p
  full zero l = let n = positive_natural R.first_x reduced.first_x in (n.0, pivot_at 0 n.0 l n.1 n.2)
  full (suc zero) l = let n = positive_natural R.second_y reduced.second_y in (n.0, pivot_at 1 n.0 l n.1 n.2)
  full (suc (suc zero)) l = let n = positive_natural R.third_z reduced.third_z in (n.0, pivot_at 2 n.0 l n.1 (third_row G.dimension R l ∙ n.2))
  full (suc (suc (suc i))) l = absurd (by g.dimension)
    where
      by : (G.dimension ≡ 2) ⊎ (G.dimension ≡ 3) → ⊥
      by h = omega arith

  -- the entries
  at : (u : ℕ) → IsQuotientVertex G u → entry S.h u ≡ sparse_colour (pos S.q) S.c (walk_to found u)
  at u v =
      let count = w.count in let low = v.0 in let high = v.1 in
      ap (λ hs. entry hs u) sh ∙ get_or-map (sparse_colour (pos S.q) S.c) found (u - 1) None (pos 0) (omega arith)

  -- the colouring, for the place of the first pivot above 1
  assembled : (k : ℕ) → k < G.dimension → 2 ≤ S.q → IsPivot G k S.q → ((i : ℕ) → i < k → IsPivot G i 1)
      → ((i : ℕ) → (pos 0 ≤ℤ part i S.c) × (part i S.c <ℤ pos S.q))
      → part k S.c ≡ pos 1 → EndsBy k S.c → ((v : Vector) → InStairs R v → Divides (pos S.q) (dot S.c v)) → IsSparseSplit G S k
  assembled k place above pivot earlier range one ends divides = record {
    found = each_found G g found w all;
    place = place;
    full = full;
    pivot = pivot;
    above = above;
    earlier = earlier;
    range = range;
    one = one;
    ends = ends;
    divides = closed;
    count = ap length sh ∙ length-map found (sparse_colour (pos S.q) S.c) ∙ w.count;
    h_range = λ u v. rw (at u v) (euclid_rest (neg_ℤ (dot S.c (shift_at found u))) (pos S.q) (omega (arith, ints, above)));
    h = λ u T v walk.
        let U = shift_at found u in let c = S.c in
        let r = remainder (neg_ℤ (dot c U)) (pos S.q) (omega (arith, ints, above)) in
        let n = closed (minus T U) (closed_difference G 1 u T U walk (walk_at G g 1 found w u v.0 (some_walk G g found w all u v))) in (
          r.0 +ℤ n.0,
          same_alike (pos S.q) c.x c.y c.z T.x T.y T.z U.x U.y U.z (entry S.h u) r.0 n.0 (at u v ∙ r.1) n.1,
        );
  }
    where
      closed : (v : Vector) → ClosedShift G 1 v → AreAlike S.q (dot S.c v) (pos 0)
      closed v k = let d = divides v (l.into v k).0 in (d.0, plus_nothing (dot S.c v) (pos S.q *ℤ d.0) d.1)

  -- the three places
  pub sparse_split_is : IsDual R (pos S.q) S.c → (k : ℕ) × IsSparseSplit G S k
  sparse_split_is (inl h) =
      let above = above_two S.q h.above in let x = ap (λ (c : Vector). c.x) h.is in
      let y = ap (λ (c : Vector). c.y) h.is in
      let z = ap (λ (c : Vector). c.z) h.is in (
        0,
        assembled 0 (omega arith) above (pivot_at 0 S.q (omega arith) (omega arith) (sym h.pivot)) (λ i l. absurd (omega arith))
            (parts_range S.q S.c above (one_range S.q S.c.x above x) (zero_range S.q S.c.y above y) (zero_range S.q S.c.z above z)) x (ends_by_zero S.c 0 y z)
            (first_divides R (pos S.q) S.c h),
      )
  sparse_split_is (inr (inl h)) =
      let above = above_two S.q h.above in
      let x = complement_range (pos S.q) R.first_y S.c.x reduced.first_y_from (subst (λ e. R.first_y <ℤ e) (sym h.pivot) reduced.first_y_to) h.x in (
        1,
        assembled 1 (omega arith) above (pivot_at 1 S.q (omega arith) (omega arith) (sym h.pivot)) earlier
            (parts_range S.q S.c above x (one_range S.q S.c.y above h.y) (zero_range S.q S.c.z above h.z)) h.y (ends_by_one S.c 1 h.z (omega arith))
            (second_divides R (pos S.q) S.c h),
      )
    where
      earlier : (i : ℕ) → i < 1 → IsPivot G i 1
      earlier zero l = pivot_at 0 1 (omega arith) (omega arith) h.first_x
      earlier (suc i) l = absurd (omega arith)
  sparse_split_is (inr (inr h)) =
      let above = above_two S.q h.above in
      let x = complement_range (pos S.q) R.first_z S.c.x reduced.first_z_from (subst (λ e. R.first_z <ℤ e) (sym h.pivot) reduced.first_z_to) h.x in
      let y = complement_range (pos S.q) R.second_z S.c.y reduced.second_z_from (subst (λ e. R.second_z <ℤ e) (sym h.pivot) reduced.second_z_to) h.y in (
        2,
        assembled 2 (space h.pivot h.above) above (pivot_at 2 S.q (space h.pivot h.above) (omega arith)
            (third_row G.dimension R (space h.pivot h.above) ∙ sym h.pivot)) earlier
            (parts_range S.q S.c above x y (one_range S.q S.c.z above h.z)) h.z (ends_by_two S.c 2 (omega arith)) (third_divides R (pos S.q) S.c reduced h),
      )
    where
      earlier : (i : ℕ) → i < 2 → IsPivot G i 1
      earlier zero l = pivot_at 0 1 (omega arith) (omega arith) h.first_x
      earlier (suc zero) l = pivot_at 1 1 (omega arith) (omega arith) h.second_y
      earlier (suc (suc i)) l = absurd (omega arith)

      space : pos S.q ≡ R.third_z → pos 2 ≤ℤ pos S.q → 2 < G.dimension
      space e a = grind arith

-- the colouring, from the lattice
pub sparse_from_lattice : (G : Graph) (found : List (Option Vector)) (R : Stairs) (q : ℤ) (c : Vector) → IsGraph G → AreWalks G 1 found → All IsSome found
    → AreClosedWalks G 1 R
    → HasStairShape G.dimension R → pos 1 ≤ℤ q → IsDual R q c → (k : ℕ) × IsSparseSplit G (sparse_colouring q c found) k
sparse_from_lattice G found R q c g w all l s low d =
    sparse_split_is G found R (sparse_colouring q c found) g w all (two g.dimension) l
    (rows_are_basis G.dimension R (two g.dimension) (three g.dimension) s) s.reduced s.flat
    (ap (λ (z : ℤ). map (sparse_colour z c) found) (sym same)) (subst (λ (z : ℤ). IsDual R z c) (sym same) d)
  where
    same : pos (unsigned_abs q) ≡ q
    same = positive q low
      where
        positive : (z : ℤ) → pos 1 ≤ℤ z → pos (unsigned_abs z) ≡ z
        positive (pos n) h = refl
        positive (negsuc n) h = absurd (omega (arith, ints, h))

    two : (G.dimension ≡ 2) ⊎ (G.dimension ≡ 3) → 2 ≤ G.dimension
    two h = omega arith

    three : (G.dimension ≡ 2) ⊎ (G.dimension ≡ 3) → G.dimension ≤ 3
    three (inl e) = omega (arith, e)
    three (inr e) = omega (arith, e)

-- What is reported of a net that is not connected is a split of it.

-- the first case
pub part_refusal : (G : Graph) (s : GivenSplit) (S : Split) → IsGraph G → s.dim ≡ G.dimension → split_view s ≡ S → IsPartSplit G S → IsDisconnectedBy G s
part_refusal G s S g d e p = let q = subst (IsPartSplit G) (sym e) p in (d, split_by_parts G (split_view s) g.vertices q, inl q)

-- the second
pub flat_refusal : (G : Graph) (s : GivenSplit) (S : Split) → IsGraph G → s.dim ≡ G.dimension → split_view s ≡ S → IsFlatSplit G S → IsDegenerateBy G s
flat_refusal G s S g d e p = let q = subst (IsFlatSplit G) (sym e) p in (d, flat_is_split G (split_view s) g q, q)

-- the third
pub sparse_refusal : (G : Graph) (s : GivenSplit) (S : Split) → IsGraph G → s.dim ≡ G.dimension → split_view s ≡ S → (k : ℕ) × IsSparseSplit G S k
    → IsDisconnectedBy G s
sparse_refusal G s S g d e p = let q = subst (λ S. IsSparseSplit G S p.0) (sym e) p.1 in (d, sparse_is_split G (split_view s) p.0 g q, inr (p.0, q))

-- so the net is not connected
pub disconnected_refutes : (G : Graph) (s : GivenSplit) → IsGraph G → IsDisconnectedBy G s → ¬ IsConnected G
disconnected_refutes G s g h = split_shows_not_connected G (split_view s) g h.1

-- the same of the second case
pub degenerate_refutes : (G : Graph) (s : GivenSplit) → IsGraph G → IsDegenerateBy G s → ¬ IsConnected G
degenerate_refutes G s g h = split_shows_not_connected G (split_view s) g h.1
