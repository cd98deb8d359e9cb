-- The colouring that is reported of a net that is not connected is one, in each of the three cases, and no two cases hold of one net.
use Rattle.std.proofs.Common.{◌≡◌, ◌≢◌, ◌⊎◌, inl, inr, ℕ, zero, suc, ◌+◌, ◌-◌, ◌<◌, ◌≤◌, ℤ, pos, negsuc, ◌+ℤ◌, ◌-ℤ◌, ◌*ℤ◌, neg_ℤ, List, length, get_or}
use Rattle.std.proofs.Common.{refl, sym, ap, subst, ◌∙◌, arith}
use Rattle.std.{proofs.lemmas.Int.ints, proofs.lemmas.List.ext_get_or, specs.Prelude.◌<ℤ◌, specs.Prelude.◌≤ℤ◌}
use Rattle.integers.specs.Vectors.{Vector, zero_vector, StartsPositive, dot}
use Rattle.integers.proofs.numbers.Ring.{ring, linear, other_factor_zero}
use Rattle.integers.{specs.Staircase.part, proofs.lists.Sums.same_from_zero, proofs.numbers.Order.three_ways}
use Rattle.integers.proofs.vectors.Laws.{vector_equal}
use Rattle.periodic_net.specs.Graph.{Graph, IsGraph, IsQuotientVertex}
use Rattle.periodic_net.specs.Split.{AreAlike, Split, entry, ClosedShift, IsFound, IsPartSplit, IsFlatSplit, IsPivot, IsSparseSplit, EndsBy}
use Rattle.periodic_net.proofs.CallerLemmas.{normal_is_one, equal_if_not_unequal}

-- entries that agree at each vertex are one list
same_entries : (n : ℕ) (h k : List ℤ) → length h ≡ n → length k ≡ n → ((u : ℕ) → 1 ≤ u → u ≤ n → entry h u ≡ entry k u) → h ≡ k
same_entries n h k a b same = ext_get_or (pos 0) h k (a ∙ sym b) (λ i l. by i (omega (arith, l, a)))
  where
    by : (i : ℕ) → i < n → get_or h i (pos 0) ≡ get_or k i (pos 0)
    by i l =
        let place : i + 1 - 1 ≡ i = omega arith in
        subst (λ j. get_or h j (pos 0) ≡ get_or k j (pos 0)) place (same (i + 1) (omega arith) (omega (arith, l)))

same_split : (S T : Split) → S.q ≡ T.q → S.c ≡ T.c → S.h ≡ T.h → S ≡ T
same_split S T q c h = λ i. record { q = q i; c = c i; h = h i }

module _ (G : Graph) (S T : Split) where
  -- if the quotient graph is not connected
  pub one_part_split : IsPartSplit G S → IsPartSplit G T → S ≡ T
  one_part_split a b = same_split S T (a.q ∙ sym b.q) (a.c ∙ sym b.c) (same_entries G.vertices S.h T.h a.count b.count at)
    where
      at : (u : ℕ) → 1 ≤ u → u ≤ G.vertices → entry S.h u ≡ entry T.h u
      at u low high = equal_if_not_unequal (entry S.h u) (entry T.h u) (λ other.
          let i : IsQuotientVertex G u = (low, high) in
          let none : ¬ IsFound G 1 u = λ f. other (a.found u i f ∙ sym (b.found u i f)) in
          other (a.elsewhere u i none ∙ sym (b.elsewhere u i none)))

  -- in the other cases it is connected
  pub not_flat : IsPartSplit G S → ¬ IsFlatSplit G T
  not_flat a b = a.missed.2 (b.found a.missed.0 a.missed.1)

  pub not_sparse : (k : ℕ) → IsPartSplit G S → ¬ IsSparseSplit G T k
  not_sparse k a b = a.missed.2 (b.found a.missed.0 a.missed.1)

module _ (G : Graph) (S T : Split) (a : IsFlatSplit G S) (b : IsFlatSplit G T) where
  same_vector : S.c ≡ T.c
  same_vector =
      normal_is_one G.dimension (ClosedShift G 1) S.c T.c
      (record { dimension = a.dimension; orthogonal = a.orthogonal; positive = a.positive; lowest = a.lowest; coprime = a.coprime })
      (record { dimension = b.dimension; orthogonal = b.orthogonal; positive = b.positive; lowest = b.lowest; coprime = b.coprime })

  -- if the closed walks have a rank below the dimension
  pub one_flat_split : S ≡ T
  one_flat_split = same_split S T (a.q ∙ sym b.q) same_vector (same_entries G.vertices S.h T.h a.count b.count at)
    where
      at : (u : ℕ) → 1 ≤ u → u ≤ G.vertices → entry S.h u ≡ entry T.h u
      at u low high =
          let f = a.found u (low, high) in
          a.h u f.0 (low, high) f.1 ∙ ap (λ (c : Vector). neg_ℤ (dot c f.0)) same_vector ∙ sym (b.h u f.0 (low, high) f.1)

-- there is one pivot at a place
one_pivot : (G : Graph) (k p q : ℕ) → IsPivot G k p → IsPivot G k q → p ≡ q
one_pivot G k p q a b =
    let v = a.reached in let w = b.reached in let low = a.positive in let high = b.positive in
    let l = a.least w.0 w.1 w.2 (subst (λ z. pos 0 <ℤ z) (sym w.3) (omega (arith, ints, high))) in
    let m = b.least v.0 v.1 v.2 (subst (λ z. pos 0 <ℤ z) (sym v.3) (omega (arith, ints, low))) in
    order p q (subst (λ z. pos p ≤ℤ z) w.3 l) (subst (λ z. pos q ≤ℤ z) v.3 m)
  where
    order : (p q : ℕ) → pos p ≤ℤ pos q → pos q ≤ℤ pos p → p ≡ q
    order p q l m = omega (arith, ints, l, m)

-- a multiple of q between -q and q is 0
small_multiple : (q : ℕ) (z k : ℤ) → z ≡ pos q *ℤ k → z <ℤ pos q → neg_ℤ (pos q) <ℤ z → z ≡ pos 0
small_multiple q z (pos zero) e l m = omega (arith, ints, e)
small_multiple q z (pos (suc k)) e l m = absurd (omega (arith, ints, e, l))
small_multiple q z (negsuc k) e l m = absurd (omega (arith, ints, e, m))

-- a number in a range
abbrev InRange : ℕ → ℤ → Type 0
InRange q a = (pos 0 ≤ℤ a) × (a <ℤ pos q)

-- numbers from 0 to q - 1 that are alike modulo q are one
one_rest : (q : ℕ) (a b r n m : ℤ) → InRange q a → InRange q b → a +ℤ r ≡ pos q *ℤ n → b +ℤ r ≡ pos q *ℤ m → a ≡ b
one_rest q a b r n m ra rb e f =
    let multiple = difference a b r (pos q *ℤ n) (pos q *ℤ m) e f ∙ factor (pos q) n m in
    let z = small_multiple q (a -ℤ b) (n -ℤ m) multiple (below a b (pos q) ra.1 rb.0) (above a b (pos q) rb.1 ra.0) in
    same_from_zero a b z
  where
    difference : (a b r x y : ℤ) → a +ℤ r ≡ x → b +ℤ r ≡ y → a -ℤ b ≡ x -ℤ y
    difference a b r x y e f = omega (arith, linear, e, f)

    factor : (q n m : ℤ) → q *ℤ n -ℤ q *ℤ m ≡ q *ℤ (n -ℤ m)
    factor q n m = simp ring (omega (arith, linear))

    below : (a b q : ℤ) → a <ℤ q → pos 0 ≤ℤ b → (a -ℤ b) <ℤ q
    below a b q l m = omega (arith, ints, l, m)

    above : (a b q : ℤ) → b <ℤ q → pos 0 ≤ℤ a → neg_ℤ q <ℤ (a -ℤ b)
    above a b q l m = omega (arith, ints, l, m)

-- c·v, where v starts with 1 at a place
dot_from_x : (q c1 c2 c3 v1 v2 v3 n : ℤ) → v1 ≡ pos 1 → c1 *ℤ v1 +ℤ c2 *ℤ v2 +ℤ c3 *ℤ v3 ≡ pos 0 +ℤ q *ℤ n → c1 +ℤ (c2 *ℤ v2 +ℤ c3 *ℤ v3) ≡ q *ℤ n
dot_from_x q c1 c2 c3 v1 v2 v3 n a e = let p = ap (λ t. c1 *ℤ t) a in omega (arith, linear, e, simp ring at p)

dot_from_y : (q c1 c2 c3 v1 v2 v3 n : ℤ) → v1 ≡ pos 0 → v2 ≡ pos 1 → c1 *ℤ v1 +ℤ c2 *ℤ v2 +ℤ c3 *ℤ v3 ≡ pos 0 +ℤ q *ℤ n → c2 +ℤ c3 *ℤ v3 ≡ q *ℤ n
dot_from_y q c1 c2 c3 v1 v2 v3 n a b e =
    let p = ap (λ t. c1 *ℤ t) a in let r = ap (λ t. c2 *ℤ t) b in
    omega (arith, linear, e, simp ring at p, simp ring at r)

module _ (G : Graph) (g : IsGraph G) (S T : Split) (k j : ℕ) (a : IsSparseSplit G S k) (b : IsSparseSplit G T j) where
  -- the place is one
  same_place : k ≡ j
  same_place = by (three_ways k j)
    where
      by : (k < j) ⊎ ((j < k) ⊎ (k ≡ j)) → k ≡ j
      by (inl l) = let e = one_pivot G k S.q 1 a.pivot (b.earlier k l) in let h = a.above in absurd (omega (arith, e, h))
      by (inr (inl l)) = let e = one_pivot G j T.q 1 b.pivot (a.earlier j l) in let h = b.above in absurd (omega (arith, e, h))
      by (inr (inr e)) = e

  -- the modulus is one
  same_modulus : S.q ≡ T.q
  same_modulus = one_pivot G k S.q T.q a.pivot (subst (λ i. IsPivot G i T.q) (sym same_place) b.pivot)

  range_there : (i : ℕ) → InRange S.q (part i T.c)
  range_there i = subst (λ q. InRange q (part i T.c)) (sym same_modulus) (b.range i)

  divides_there : (v : Vector) → ClosedShift G 1 v → AreAlike S.q (dot T.c v) (pos 0)
  divides_there v h = subst (λ q. AreAlike q (dot T.c v) (pos 0)) (sym same_modulus) (b.divides v h)

  one_there : part k T.c ≡ pos 1
  one_there = subst (λ i. part i T.c ≡ pos 1) (sym same_place) b.one

  ends_there : EndsBy k T.c
  ends_there = subst (λ i. EndsBy i T.c) (sym same_place) b.ends

  -- the vector is one: at the place it is 1, after it 0, and each part before it is determined by those after it
  same_parts_y : (1 < k) → S.c.z ≡ T.c.z → S.c.y ≡ T.c.y
  same_parts_y l z =
      let p = (a.earlier 1 l).reached in let v = p.0 in let m = a.divides v p.1 in
      let n = divides_there v p.1 in let x : v.x ≡ pos 0 = p.2 0 (omega arith) in
      one_rest S.q S.c.y T.c.y (S.c.z *ℤ v.z) m.0 n.0 (a.range 1) (range_there 1) (dot_from_y (pos S.q) S.c.x S.c.y S.c.z v.x v.y v.z m.0 x p.3 m.1)
      (ap (λ t. T.c.y +ℤ t *ℤ v.z) z ∙ dot_from_y (pos S.q) T.c.x T.c.y T.c.z v.x v.y v.z n.0 x p.3 n.1)

  same_parts_x : (0 < k) → S.c.y ≡ T.c.y → S.c.z ≡ T.c.z → S.c.x ≡ T.c.x
  same_parts_x l y z =
      let p = (a.earlier 0 l).reached in let v = p.0 in let m = a.divides v p.1 in
      let n = divides_there v p.1 in
      one_rest S.q S.c.x T.c.x (S.c.y *ℤ v.y +ℤ S.c.z *ℤ v.z) m.0 n.0 (a.range 0) (range_there 0)
      (dot_from_x (pos S.q) S.c.x S.c.y S.c.z v.x v.y v.z m.0 p.3 m.1)
      ((λ i. T.c.x +ℤ (y i *ℤ v.y +ℤ z i *ℤ v.z)) ∙ dot_from_x (pos S.q) T.c.x T.c.y T.c.z v.x v.y v.z n.0 p.3 n.1)

  same_sparse_vector : S.c ≡ T.c
  same_sparse_vector = by k refl
    where
      by : (i : ℕ) → k ≡ i → S.c ≡ T.c
      by zero e =
          let y : S.c.y ≡ T.c.y = a.ends 1 (omega (arith, e)) ∙ sym (ends_there 1 (omega (arith, e))) in
          let z : S.c.z ≡ T.c.z = a.ends 2 (omega (arith, e)) ∙ sym (ends_there 2 (omega (arith, e))) in
          let x : S.c.x ≡ T.c.x = subst (λ i. part i S.c ≡ part i T.c) e (a.one ∙ sym one_there) in
          vector_equal x y z
      by (suc zero) e =
          let z : S.c.z ≡ T.c.z = a.ends 2 (omega (arith, e)) ∙ sym (ends_there 2 (omega (arith, e))) in
          let y : S.c.y ≡ T.c.y = subst (λ i. part i S.c ≡ part i T.c) e (a.one ∙ sym one_there) in
          vector_equal (same_parts_x (omega (arith, e)) y z) y z
      by (suc (suc zero)) e =
          let z : S.c.z ≡ T.c.z = subst (λ i. part i S.c ≡ part i T.c) e (a.one ∙ sym one_there) in
          let y = same_parts_y (omega (arith, e)) z in vector_equal (same_parts_x (omega (arith, e)) y z) y z
      by (suc (suc (suc i))) e =
          let place = a.place in
          absurd (elim g.dimension [ inl d ↦ omega (arith, e, d, place) | inr d ↦ omega (arith, e, d, place) ])

  -- if they have full rank
  pub one_sparse_split : S ≡ T
  one_sparse_split = same_split S T same_modulus same_sparse_vector (same_entries G.vertices S.h T.h a.count b.count at)
    where
      entries : (q h n c : ℤ) → h ≡ neg_ℤ c +ℤ q *ℤ n → h +ℤ c ≡ q *ℤ n
      entries q h n c e = omega (arith, linear, e)

      at : (u : ℕ) → 1 ≤ u → u ≤ G.vertices → entry S.h u ≡ entry T.h u
      at u low high =
          let i : IsQuotientVertex G u = (low, high) in let f = a.found u i in let m = a.h u f.0 i f.1 in
          let n = subst (λ q. AreAlike q (entry T.h u) (neg_ℤ (dot T.c f.0))) (sym same_modulus) (b.h u f.0 i f.1) in
          let range = subst (λ q. InRange q (entry T.h u)) (sym same_modulus) (b.h_range u i) in
          one_rest S.q (entry S.h u) (entry T.h u) (dot S.c f.0) m.0 n.0 (a.h_range u i) range (entries (pos S.q) (entry S.h u) m.0 (dot S.c f.0) m.1)
          (ap (λ (c : Vector). entry T.h u +ℤ dot c f.0) same_sparse_vector ∙ entries (pos S.q) (entry T.h u) n.0 (dot T.c f.0) n.1)

-- a part whose product with a positive pivot is 0 is 0
part_zero : (p : ℕ) (c v m n : ℤ) → 1 ≤ p → v ≡ pos p → m ≡ pos 0 → n ≡ pos 0 → c *ℤ v +ℤ m +ℤ n ≡ pos 0 → c ≡ pos 0
part_zero p c v m n h e y z f = search (arith, other_factor_zero)

-- no vector but 0 is orthogonal to closed walks of full rank
pub full_not_flat : (G : Graph) → IsGraph G → (S T : Split) (k : ℕ) → IsFlatSplit G S → ¬ IsSparseSplit G T k
full_not_flat G g S T k a b = not_zero S.c a.positive (vector_equal x y z)
  where
    not_zero : (v : Vector) → StartsPositive v → v ≢ zero_vector
    not_zero v h e = cc

    only : (c v : ℤ) → v ≡ pos 0 → c *ℤ v ≡ pos 0
    only c v e = ap (λ t. c *ℤ t) e ∙ simp ring refl

    none : (c v : ℤ) → c ≡ pos 0 → c *ℤ v ≡ pos 0
    none c v e = ap (λ t. t *ℤ v) e ∙ simp ring refl

    total : (v : Vector) → ClosedShift G 1 v → S.c.x *ℤ v.x +ℤ S.c.y *ℤ v.y +ℤ S.c.z *ℤ v.z ≡ pos 0
    total v h = a.orthogonal v h

    z_from : (p : ℕ) → IsPivot G 2 p → S.c.z ≡ pos 0
    z_from p h =
        let r = h.reached in let v = r.0 in let t = total v r.1 in
        part_zero p S.c.z v.z (S.c.x *ℤ v.x) (S.c.y *ℤ v.y) h.positive r.3 (only S.c.x v.x (r.2 0 (omega arith))) (only S.c.y v.y (r.2 1 (omega arith)))
        (omega (arith, linear, t))

    z : S.c.z ≡ pos 0
    z = elim g.dimension [ inl d ↦ a.dimension d | inr d ↦ let p = b.full 2 (omega (arith, d)) in z_from p.0 p.1 ]

    above_one : 1 < G.dimension
    above_one = elim g.dimension [ inl d ↦ omega (arith, d) | inr d ↦ omega (arith, d) ]

    y : S.c.y ≡ pos 0
    y =
        let p = b.full 1 above_one in let r = p.1.reached in let v = r.0 in let t = total v r.1 in
        part_zero p.0 S.c.y v.y (S.c.x *ℤ v.x) (S.c.z *ℤ v.z) p.1.positive r.3 (only S.c.x v.x (r.2 0 (omega arith))) (none S.c.z v.z z)
        (omega (arith, linear, t))

    x : S.c.x ≡ pos 0
    x =
        let p = b.full 0 (let l = above_one in omega (arith, l)) in let r = p.1.reached in let v = r.0 in
        part_zero p.0 S.c.x v.x (S.c.y *ℤ v.y) (S.c.z *ℤ v.z) p.1.positive r.3 (none S.c.y v.y y) (none S.c.z v.z z) (total v r.1)
