-- Independent vectors: the triple product, Cramer's rule, a normal vector of too few of them, and what keeps them so.
use Rattle.std.proofs.Common.{◌≡◌, ◌≢◌, ℤ, pos, ◌+ℤ◌, ◌-ℤ◌, ◌*ℤ◌, neg_ℤ, [], ◌∷◌, ⊎_elim, inl, inr, ◌⊎◌, refl, sym, ap, ◌∙◌, arith, ◌≤◌, List, length, ℕ}
use Rattle.std.{proofs.Common.◌<◌, proofs.Common.◌++◌, proofs.Common.subst, proofs.lemmas.Int.ints, specs.Prelude.◌↔◌}
use Rattle.integers.specs.Vectors.{Vector, triple_product, AreIndependent, up_vector, vector, zero_vector, plus, minus, times, dot, cross, combination}
use Rattle.integers.proofs.numbers.Ring.{ring, linear, zero_or_not, factor_zero, other_factor_zero}
use Rattle.integers.proofs.vectors.Laws.{vector_equal, minus_itself, equal_of_minus, plus_zero, plus_equal, zero_times, times_dimension, plus_dimension}
use Rattle.integers.specs.{Vectors.AllZero, Vectors.HasDimension, LinearRelations.IsLinear, Lists.AreMatched}
use Rattle.integers.proofs.lists.Matched.{matched_length}
use Prim.{Dec, yes, no}

-- the determinant of three rows
abbrev pub determinant : ℤ → ℤ → ℤ → ℤ → ℤ → ℤ → ℤ → ℤ → ℤ → ℤ
determinant a b c d e f g h i = a *ℤ (e *ℤ i -ℤ f *ℤ h) -ℤ b *ℤ (d *ℤ i -ℤ f *ℤ g) +ℤ c *ℤ (d *ℤ h -ℤ e *ℤ g)

-- a relation of the three rows whose numbers are not all 0
pub record Relation (a b c d e f g h i : ℤ) : Type 0 where
  pub x : ℤ
  pub y : ℤ
  pub z : ℤ
  pub some : (x ≡ pos 0) × (y ≡ pos 0) × (z ≡ pos 0) → ⊥
  pub first : x *ℤ a +ℤ y *ℤ d +ℤ z *ℤ g ≡ pos 0
  pub second : x *ℤ b +ℤ y *ℤ e +ℤ z *ℤ h ≡ pos 0
  pub third : x *ℤ c +ℤ y *ℤ f +ℤ z *ℤ i ≡ pos 0

module _ (a b c d e f g h i : ℤ) where
  -- a relation of the rows makes 0 of its first number times the determinant
  relation_times_determinant : (x y z : ℤ) → x *ℤ a +ℤ y *ℤ d +ℤ z *ℤ g ≡ pos 0 → x *ℤ b +ℤ y *ℤ e +ℤ z *ℤ h ≡ pos 0 → x *ℤ c +ℤ y *ℤ f +ℤ z *ℤ i ≡ pos 0
      → x *ℤ determinant a b c d e f g h i ≡ pos 0
  relation_times_determinant x y z p q r =
      let p' = ap (λ t. t *ℤ (e *ℤ i -ℤ f *ℤ h)) p in let q' = ap (λ t. t *ℤ (d *ℤ i -ℤ f *ℤ g)) q in
      let r' = ap (λ t. t *ℤ (d *ℤ h -ℤ e *ℤ g)) r in
      simp ring (omega (arith, linear, simp ring at p', simp ring at q', simp ring at r'))

  -- a relation, by its numbers
  relation : (x y z : ℤ) → ((x ≡ pos 0) × (y ≡ pos 0) × (z ≡ pos 0) → ⊥) → x *ℤ a +ℤ y *ℤ d +ℤ z *ℤ g ≡ pos 0 → x *ℤ b +ℤ y *ℤ e +ℤ z *ℤ h ≡ pos 0
      → x *ℤ c +ℤ y *ℤ f +ℤ z *ℤ i ≡ pos 0 → Relation a b c d e f g h i
  relation x y z n p q r = record { x = x; y = y; z = z; some = n; first = p; second = q; third = r }

  -- if q times the second row is p times the third, and p is not 0, they have a relation
  relation_of_two : (p q : ℤ) → p ≢ pos 0 → q *ℤ d ≡ p *ℤ g → q *ℤ e ≡ p *ℤ h → q *ℤ f ≡ p *ℤ i → Relation a b c d e f g h i
  relation_of_two p q n u v w =
      relation (pos 0) q (neg_ℤ p) (λ t. n (let s = t.2 in omega (arith, linear))) (last a d g u) (last b e h v) (last c f i w)
    where
      last : (x y z : ℤ) → q *ℤ y ≡ p *ℤ z → pos 0 *ℤ x +ℤ q *ℤ y +ℤ neg_ℤ p *ℤ z ≡ pos 0
      last x y z k = simp ring (omega (arith, linear, k))

  -- if the second and the third row are parallel they have a relation
  relation_of_parallel : d *ℤ h -ℤ e *ℤ g ≡ pos 0 → d *ℤ i -ℤ f *ℤ g ≡ pos 0 → e *ℤ i -ℤ f *ℤ h ≡ pos 0 → Relation a b c d e f g h i
  relation_of_parallel nz ny nx = by (zero_or_not d) (zero_or_not e) (zero_or_not f)
    where
      by : (d ≡ pos 0) ⊎ (d ≢ pos 0) → (e ≡ pos 0) ⊎ (e ≢ pos 0) → (f ≡ pos 0) ⊎ (f ≢ pos 0) → Relation a b c d e f g h i
      by (inr n) v w = relation_of_two d g n (simp ring (omega (arith, linear))) (simp ring (omega (arith, linear))) (simp ring (omega (arith, linear)))
      by (inl u) (inr n) w = relation_of_two e h n (simp ring (omega (arith, linear))) (simp ring (omega (arith, linear))) (simp ring (omega (arith, linear)))
      by (inl u) (inl v) (inr n) = relation_of_two f i n (simp ring (omega (arith, linear))) (simp ring (omega (arith, linear)))
          (simp ring (omega (arith, linear)))
      by (inl u) (inl v) (inl w) =
          relation (pos 0) (pos 1) (pos 0) (λ t. let s = t.1 in omega (arith, ints)) (simp ring (omega (arith, linear))) (simp ring (omega (arith, linear)))
          (simp ring (omega (arith, linear)))

  -- if the determinant is 0 the rows have a relation
  pub relation_of_zero : determinant a b c d e f g h i ≡ pos 0 → Relation a b c d e f g h i
  relation_of_zero z = by (zero_or_not (d *ℤ h -ℤ e *ℤ g)) (zero_or_not (d *ℤ i -ℤ f *ℤ g)) (zero_or_not (e *ℤ i -ℤ f *ℤ h))
    where
      by : (d *ℤ h -ℤ e *ℤ g ≡ pos 0) ⊎ (d *ℤ h -ℤ e *ℤ g ≢ pos 0) → (d *ℤ i -ℤ f *ℤ g ≡ pos 0) ⊎ (d *ℤ i -ℤ f *ℤ g ≢ pos 0)
          → (e *ℤ i -ℤ f *ℤ h ≡ pos 0) ⊎ (e *ℤ i -ℤ f *ℤ h ≢ pos 0) → Relation a b c d e f g h i
      by (inr nz) v w =
          relation (d *ℤ h -ℤ e *ℤ g) (b *ℤ g -ℤ a *ℤ h) (a *ℤ e -ℤ b *ℤ d) (λ t. nz t.0) (simp ring (omega (arith, linear)))
          (simp ring (omega (arith, linear))) (simp ring (omega (arith, linear, simp ring at z)))
      by (inl nz) (inr ny) w =
          relation (d *ℤ i -ℤ f *ℤ g) (c *ℤ g -ℤ a *ℤ i) (a *ℤ f -ℤ c *ℤ d) (λ t. ny t.0) (simp ring (omega (arith, linear)))
          (simp ring (omega (arith, linear, simp ring at z))) (simp ring (omega (arith, linear)))
      by (inl nz) (inl ny) (inr nx) =
          relation (e *ℤ i -ℤ f *ℤ h) (c *ℤ h -ℤ b *ℤ i) (b *ℤ f -ℤ c *ℤ e) (λ t. nx t.0) (simp ring (omega (arith, linear, simp ring at z)))
          (simp ring (omega (arith, linear))) (simp ring (omega (arith, linear)))
      by (inl nz) (inl ny) (inl nx) = relation_of_parallel nz ny nx

  -- if it is not 0, the first number of a relation is 0
  pub first_is_zero : (determinant a b c d e f g h i ≡ pos 0 → ⊥) → (x y z : ℤ) → x *ℤ a +ℤ y *ℤ d +ℤ z *ℤ g ≡ pos 0 → x *ℤ b +ℤ y *ℤ e +ℤ z *ℤ h ≡ pos 0
      → x *ℤ c +ℤ y *ℤ f +ℤ z *ℤ i ≡ pos 0 → x ≡ pos 0
  first_is_zero n x y z p q r = ⊎_elim (λ u. u) (λ u. absurd (n u)) (factor_zero x (determinant a b c d e f g h i) (relation_times_determinant x y z p q r))

-- the triple product is the determinant
pub product_is_determinant : (a b c d e f g h i : ℤ) → a *ℤ (e *ℤ i -ℤ f *ℤ h) +ℤ b *ℤ (f *ℤ g -ℤ d *ℤ i) +ℤ c *ℤ
    (d *ℤ h -ℤ e *ℤ g) ≡ determinant a b c d e f g h i
product_is_determinant a b c d e f g h i = simp ring (omega (arith, linear))

-- only the third has a part there
flat_zero : (x y z : ℤ) → x *ℤ pos 0 +ℤ y *ℤ pos 0 +ℤ z *ℤ pos 1 ≡ pos 0 → z ≡ pos 0
flat_zero x y z h = omega (arith, ints)

-- three independent vectors have a product other than 0
pub product_of_independent : (a b c : Vector) → AreIndependent (a ∷ b ∷ c ∷ []) → triple_product a b c ≢ pos 0
product_of_independent a b c i h =
    let r = relation_of_zero a.x a.y a.z b.x b.y b.z c.x c.y c.z (sym (product_is_determinant a.x a.y a.z b.x b.y b.z c.x c.y c.z) ∙ h) in
    let z = i (r.x ∷ r.y ∷ r.z ∷ []) refl
    (vector_equal (omega (arith, linear, r.first)) (omega (arith, linear, r.second))
    (omega (arith, linear, r.third))) in
    r.some (z.0, z.1.0, z.1.1.0)

-- the product of three flat vectors is 0
flat_product : (a b c d e f x y z : ℤ) → c ≡ pos 0 → f ≡ pos 0 → z ≡ pos 0
    → a *ℤ (e *ℤ z -ℤ f *ℤ y) +ℤ b *ℤ (f *ℤ x -ℤ d *ℤ z) +ℤ c *ℤ (d *ℤ y -ℤ e *ℤ x) ≡ pos 0
flat_product a b c d e f x y z p q r =
    (λ i. a *ℤ (e *ℤ r i -ℤ q i *ℤ y) +ℤ b *ℤ (q i *ℤ x -ℤ d *ℤ r i) +ℤ p i *ℤ (d *ℤ y -ℤ e *ℤ x)) ∙ simp ring (omega (arith, linear))

pub flat_triple : (p q e : Vector) → p.z ≡ pos 0 → q.z ≡ pos 0 → e.z ≡ pos 0 → triple_product p q e ≡ pos 0
flat_triple p q e f g h = flat_product p.x p.y p.z q.x q.y q.z e.x e.y e.z f g h

-- flat vectors have flat combinations
flat_sum : (x y a b : ℤ) → a ≡ pos 0 → b ≡ pos 0 → x *ℤ a +ℤ (y *ℤ b +ℤ pos 0) ≡ pos 0
flat_sum x y a b e h = (λ i. x *ℤ e i +ℤ (y *ℤ h i +ℤ pos 0)) ∙ omega (arith, ints)

-- two independent flat vectors have a cross product other than 0
pub flat_product_of_independent : (a b : Vector) → a.z ≡ pos 0 → b.z ≡ pos 0 → AreIndependent (a ∷ b ∷ []) → triple_product a b up_vector ≢ pos 0
flat_product_of_independent a b fa fb i h =
    let r = relation_of_zero a.x a.y a.z b.x b.y b.z (pos 0) (pos 0) (pos 1)
    (sym (product_is_determinant a.x a.y a.z b.x b.y b.z (pos 0) (pos 0) (pos 1)) ∙ h) in
    let third : r.x *ℤ pos 0 +ℤ r.y *ℤ pos 0 +ℤ r.z *ℤ pos 1 ≡ pos 0 = (λ j. r.x *ℤ sym fa j +ℤ r.y *ℤ sym fb j +ℤ r.z *ℤ pos 1) ∙ r.third in
    let z0 = flat_zero r.x r.y r.z third in
    let z = i (r.x ∷ r.y ∷ []) refl
    (vector_equal (omega (arith, linear, ints, z0, r.first)) (omega (arith, linear, ints, z0, r.second)) (flat_sum r.x r.y a.z b.z fa fb)) in
    r.some (z.0, z.1.0, z0)

-- k_1·a + k_2·b + k_3·c
abbrev pub sum_along : Vector → Vector → Vector → Vector → Vector
sum_along a b c k = plus (times k.x a) (plus (times k.y b) (times k.z c))

-- the product of three vectors, in numbers
abbrev pub product : ℤ → ℤ → ℤ → ℤ → ℤ → ℤ → ℤ → ℤ → ℤ → ℤ
product a b c d e f g h i = a *ℤ (e *ℤ i -ℤ f *ℤ h) +ℤ b *ℤ (f *ℤ g -ℤ d *ℤ i) +ℤ c *ℤ (d *ℤ h -ℤ e *ℤ g)

-- one coordinate of Cramer's rule, the first
cramer_first : (a b c d e f g h i x y z : ℤ) → product a b c d e f g h i *ℤ x ≡ product x y z d e f g h i *ℤ a +ℤ
    (product a b c x y z g h i *ℤ d +ℤ product a b c d e f x y z *ℤ g)
cramer_first a b c d e f g h i x y z = simp ring (omega (arith, linear))

-- the second
cramer_second : (a b c d e f g h i x y z : ℤ) → product a b c d e f g h i *ℤ y ≡ product x y z d e f g h i *ℤ b +ℤ
    (product a b c x y z g h i *ℤ e +ℤ product a b c d e f x y z *ℤ h)
cramer_second a b c d e f g h i x y z = simp ring (omega (arith, linear))

-- the third
cramer_third : (a b c d e f g h i x y z : ℤ) → product a b c d e f g h i *ℤ z ≡ product x y z d e f g h i *ℤ c +ℤ
    (product a b c x y z g h i *ℤ f +ℤ product a b c d e f x y z *ℤ i)
cramer_third a b c d e f g h i x y z = simp ring (omega (arith, linear))

-- the three products in which v stands in place of one of the vectors
abbrev pub products : Vector → Vector → Vector → Vector → Vector
products a b c v = vector (triple_product v b c) (triple_product a v c) (triple_product a b v)

-- Cramer's rule: the product of a, b and c times v is the sum of these products times a, b and c
pub cramer : (a b c v : Vector) → times (triple_product a b c) v ≡ sum_along a b c (products a b c v)
cramer a b c v = search (arith, vector_equal, cramer_first, cramer_second, cramer_third)

-- the product stays when its vectors are moved round
pub triple_turned : (a b c : Vector) → triple_product a b c ≡ triple_product b c a
triple_turned a b c = simp ring (omega (arith, linear))

-- a sum of three that is 0, moved round
turned_sum : (x y z : ℤ) → x +ℤ (y +ℤ z) ≡ pos 0 → y +ℤ (z +ℤ x) ≡ pos 0
turned_sum x y z h = omega (arith, linear, h)

-- if the product is not 0, a combination that is 0 has 0 for its first number
first_zero : (a b c : Vector) → triple_product a b c ≢ pos 0 → (x y z : ℤ) → plus (times x a) (plus (times y b) (times z c)) ≡ zero_vector → x ≡ pos 0
first_zero a b c n x y z h =
    first_is_zero a.x a.y a.z b.x b.y b.z c.x c.y c.z (λ e. n (product_is_determinant a.x a.y a.z b.x b.y b.z c.x c.y c.z ∙ e)) x y z
    (omega (arith, linear, ap (λ (v : Vector). v.x) h))
    (omega (arith, linear, ap (λ (v : Vector). v.y) h))
    (omega (arith, linear, ap (λ (v : Vector). v.z) h))

-- a combination that is 0, with its terms moved round
zero_turned : (a b c : Vector) (x y z : ℤ) → plus (times x a) (plus (times y b) (times z c)) ≡ zero_vector
    → plus (times y b) (plus (times z c) (times x a)) ≡ zero_vector
zero_turned a b c x y z h = search (arith, vector_equal, turned_sum)

-- if the product is not 0, only the combination with numbers 0 is 0
pub only_zero : (a b c : Vector) → triple_product a b c ≢ pos 0 → (k : Vector) → sum_along a b c k ≡ zero_vector → k ≡ zero_vector
only_zero a b c n k h = search (arith, zero_turned, vector_equal, first_zero, triple_turned)

-- the sum along three vectors takes differences to differences
difference_part : (x y z x' y' z' a b c : ℤ) → (x -ℤ x') *ℤ a +ℤ ((y -ℤ y') *ℤ b +ℤ (z -ℤ z') *ℤ c) ≡ (x *ℤ a +ℤ (y *ℤ b +ℤ z *ℤ c)) -ℤ
    (x' *ℤ a +ℤ (y' *ℤ b +ℤ z' *ℤ c))
difference_part x y z x' y' z' a b c = simp ring (omega (arith, linear))

-- the same of vectors
pub sum_along_minus : (a b c k l : Vector) → sum_along a b c (minus k l) ≡ minus (sum_along a b c k) (sum_along a b c l)
sum_along_minus a b c k l = search (arith, vector_equal, difference_part)

-- if the product is not 0, the coordinates of a vector are the only ones
pub coordinates_unique : (a b c : Vector) → triple_product a b c ≢ pos 0 → (k l : Vector) → sum_along a b c k ≡ sum_along a b c l → k ≡ l
coordinates_unique a b c n k l h =
    equal_of_minus k l (only_zero a b c n (minus k l)
    (sum_along_minus a b c k l ∙ ap (λ (v : Vector). minus v (sum_along a b c l)) h ∙ minus_itself (sum_along a b c l)))

-- three vectors whose product is not 0 are independent
pub independent_of_product : (a b c : Vector) → triple_product a b c ≢ pos 0 → AreIndependent (a ∷ b ∷ c ∷ [])
independent_of_product a b c n [] l h = tt
independent_of_product a b c n (x ∷ []) l h = absurd (omega arith)
independent_of_product a b c n (x ∷ y ∷ []) l h = absurd (omega arith)
independent_of_product a b c n (x ∷ y ∷ z ∷ []) l h =
    let e = only_zero a b c n (vector x y z)
    (vector_equal (omega (arith, linear, ap (λ (v : Vector). v.x) h))
    (omega (arith, linear, ap (λ (v : Vector). v.y) h))
    (omega (arith, linear, ap (λ (v : Vector). v.z) h))) in
    (ap (λ (v : Vector). v.x) e, (ap (λ (v : Vector). v.y) e, (ap (λ (v : Vector). v.z) e, tt)))
independent_of_product a b c n (x ∷ y ∷ z ∷ w ∷ ks) l h = absurd (omega arith)

-- a factor that makes 0 of a vector other than 0 is 0
pub zero_factor : (m : ℤ) (v : Vector) → v ≢ zero_vector → times m v ≡ zero_vector → m ≡ pos 0
zero_factor m v n e = search (arith, zero_or_not, vector_equal, other_factor_zero)

-- it is decided whether a vector is 0
pub zero_or_other : (v : Vector) → (v ≡ zero_vector) ⊎ (v ≢ zero_vector)
zero_or_other v = grind arith

-- 1 is not 0
pub one_is_not_zero : pos 1 ≡ pos 0 → ⊥
one_is_not_zero e = omega (arith, ints)

-- a vector other than 0 is independent
pub independent_one : (v : Vector) → v ≢ zero_vector → AreIndependent (v ∷ [])
independent_one v n [] l h = tt
independent_one v n (k ∷ []) l h = (zero_factor k v n (sym (plus_zero (times k v)) ∙ h), tt)
independent_one v n (k ∷ m ∷ ks) l h = absurd (omega arith)

-- an independent vector is not 0
pub one_not_zero : (v : Vector) → AreIndependent (v ∷ []) → v ≢ zero_vector
one_not_zero v i e = one_is_not_zero (i (pos 1 ∷ []) refl (ap (λ (t : Vector). plus (times (pos 1) t) zero_vector) e)).0

-- what makes 0 of each part of a cross product, with k·a + m·b = 0, makes 0 of the product
cross_factor : (a b : Vector) (k m n : ℤ) → ((y z u v : ℤ) → k *ℤ y +ℤ (m *ℤ u +ℤ pos 0) ≡ pos 0 → k *ℤ z +ℤ (m *ℤ v +ℤ pos 0) ≡ pos 0
    → n *ℤ (y *ℤ v -ℤ z *ℤ u) ≡ pos 0)
    → plus (times k a) (plus (times m b) zero_vector) ≡ zero_vector → times n (cross a b) ≡ zero_vector
cross_factor a b k m n one h = grind arith

-- with a relation k·a + m·b = 0, k makes 0 of the cross product
first_factor : (a b : Vector) (k m : ℤ) → plus (times k a) (plus (times m b) zero_vector) ≡ zero_vector → times k (cross a b) ≡ zero_vector
first_factor a b k m = cross_factor a b k m k (λ y z u v p q. let s = ap (λ t. t *ℤ v) p in let t = ap (λ t. t *ℤ u) q in
    simp ring (omega (arith, linear, simp ring at s, simp ring at t)))

-- and so does m
second_factor : (a b : Vector) (k m : ℤ) → plus (times k a) (plus (times m b) zero_vector) ≡ zero_vector → times m (cross a b) ≡ zero_vector
second_factor a b k m = cross_factor a b k m m (λ y z u v p q. let s = ap (λ t. t *ℤ z) p in let t = ap (λ t. t *ℤ y) q in
    simp ring (omega (arith, linear, simp ring at s, simp ring at t)))

-- two vectors whose cross product is not 0 are independent
pub independent_two : (a b : Vector) → cross a b ≢ zero_vector → AreIndependent (a ∷ b ∷ [])
independent_two a b n [] l h = tt
independent_two a b n (k ∷ []) l h = absurd (omega arith)
independent_two a b n (k ∷ m ∷ []) l h = (zero_factor k (cross a b) n (first_factor a b k m h), (zero_factor m (cross a b) n (second_factor a b k m h), tt))
independent_two a b n (k ∷ m ∷ q ∷ ks) l h = absurd (omega arith)

-- and the other way: each part of b times a is the same part of a times b, so else all parts of a were 0
pub cross_not_zero : (a b : Vector) → AreIndependent (a ∷ b ∷ []) → cross a b ≢ zero_vector
cross_not_zero a b i e =
    let ex = ap (λ (t : Vector). t.x) e in let ey = ap (λ (t : Vector). t.y) e in
    let ez = ap (λ (t : Vector). t.z) e in
    let x = (i (b.x ∷ neg_ℤ a.x ∷ []) refl (vector_equal (own a.x b.x) (up a.x a.y b.x b.y ez) (down a.x a.z b.x b.z ey))).1.0 in
    let y = (i (b.y ∷ neg_ℤ a.y ∷ []) refl (vector_equal (down a.y a.x b.y b.x ez) (own a.y b.y) (up a.y a.z b.y b.z ex))).1.0 in
    let z = (i (b.z ∷ neg_ℤ a.z ∷ []) refl (vector_equal (up a.z a.x b.z b.x ey) (down a.z a.y b.z b.y ex) (own a.z b.z))).1.0 in
    one_is_not_zero (i (pos 1 ∷ pos 0 ∷ []) refl (vector_equal (none a.x b.x x) (none a.y b.y y) (none a.z b.z z))).0
  where
    own : (u v : ℤ) → v *ℤ u +ℤ (neg_ℤ u *ℤ v +ℤ pos 0) ≡ pos 0
    own u v = simp ring (omega (arith, linear))

    up : (u v w x : ℤ) → u *ℤ x -ℤ v *ℤ w ≡ pos 0 → w *ℤ v +ℤ (neg_ℤ u *ℤ x +ℤ pos 0) ≡ pos 0
    up u v w x h = simp ring (omega (arith, linear, h))

    down : (u v w x : ℤ) → v *ℤ w -ℤ u *ℤ x ≡ pos 0 → w *ℤ v +ℤ (neg_ℤ u *ℤ x +ℤ pos 0) ≡ pos 0
    down u v w x h = simp ring (omega (arith, linear, h))

    none : (u v : ℤ) → neg_ℤ u ≡ pos 0 → pos 1 *ℤ u +ℤ (pos 0 *ℤ v +ℤ pos 0) ≡ pos 0
    none u v h = simp ring (omega (arith, linear, h))

-- one vector
pub one_vector : (a : Vector) → (a ≢ zero_vector) ↔ AreIndependent (a ∷ [])
one_vector a = (independent_one a, one_not_zero a)

-- two vectors
pub two_vectors : (a b : Vector) → (cross a b ≢ zero_vector) ↔ AreIndependent (a ∷ b ∷ [])
two_vectors a b = (independent_two a b, cross_not_zero a b)

-- three vectors
pub three_vectors : (a b c : Vector) → (triple_product a b c ≢ pos 0) ↔ AreIndependent (a ∷ b ∷ c ∷ [])
three_vectors a b c = (independent_of_product a b c, product_of_independent a b c)

-- it is decided whether at most three vectors are independent
pub independent_or_not : (vs : List Vector) → length vs ≤ 3 → Dec (AreIndependent vs)
independent_or_not [] l = yes empty
  where
    empty : AreIndependent []
    empty [] n h = tt
    empty (k ∷ ks) n h = absurd (omega arith)
independent_or_not (a ∷ []) l = elim (zero_or_other a) [ inl z ↦ no (λ i. one_not_zero a i z) | inr n ↦ yes (independent_one a n) ]
independent_or_not (a ∷ b ∷ []) l = elim (zero_or_other (cross a b)) [ inl z ↦ no (λ i. cross_not_zero a b i z) | inr n ↦ yes (independent_two a b n) ]
independent_or_not (a ∷ b ∷ c ∷ []) l = elim (zero_or_not (triple_product a b c)) [
  | inl z ↦ no (λ i. product_of_independent a b c i z)
  | inr n ↦ yes (independent_of_product a b c n)
]
independent_or_not (a ∷ b ∷ c ∷ d ∷ vs) l = absurd (omega arith)

-- what is orthogonal to a, and not to v, shows that v is no multiple of a
pub independent_across : (c a v : Vector) → AreIndependent (a ∷ []) → dot c a ≡ pos 0 → dot c v ≢ pos 0 → AreIndependent (a ∷ v ∷ [])
independent_across c a v i z n = independent_two a v (λ e. n (zero_factor (dot c v) a (one_not_zero a i) (vector_equal (at_x e) (at_y e) (at_z e))))
  where
    at_x : cross a v ≡ zero_vector → dot c v *ℤ a.x ≡ pos 0
    at_x e = let p = ap (λ (t : Vector). c.y *ℤ t.z) e in let q = ap (λ (t : Vector). c.z *ℤ t.y) e in let r = ap (λ t. t *ℤ v.x) z in
        simp ring (omega (arith, linear, simp ring at p, simp ring at q, simp ring at r))

    at_y : cross a v ≡ zero_vector → dot c v *ℤ a.y ≡ pos 0
    at_y e = let p = ap (λ (t : Vector). c.z *ℤ t.x) e in let q = ap (λ (t : Vector). c.x *ℤ t.z) e in let r = ap (λ t. t *ℤ v.y) z in
        simp ring (omega (arith, linear, simp ring at p, simp ring at q, simp ring at r))

    at_z : cross a v ≡ zero_vector → dot c v *ℤ a.z ≡ pos 0
    at_z e = let p = ap (λ (t : Vector). c.x *ℤ t.y) e in let q = ap (λ (t : Vector). c.y *ℤ t.x) e in let r = ap (λ t. t *ℤ v.z) z in
        simp ring (omega (arith, linear, simp ring at p, simp ring at q, simp ring at r))

-- a third vector that is not orthogonal to the cross product of two is independent of them
pub independent_three : (a b v : Vector) → dot (cross a b) v ≢ pos 0 → AreIndependent (a ∷ b ∷ v ∷ [])
independent_three a b v n = independent_of_product a b v (λ e. n (same ∙ e))
  where
    same : dot (cross a b) v ≡ triple_product a b v
    same = simp ring (omega (arith, linear))

-- without the last of them, independent vectors are independent
pub independent_before : (vs : List Vector) (v : Vector) → AreIndependent (vs ++ v ∷ []) → AreIndependent vs
independent_before vs v i ks l h = zero_before ks (i (ks ++ pos 0 ∷ []) (longer ks vs l) (same ks vs l ∙ h))
  where
    longer : (ks : List ℤ) (vs : List Vector) → length ks ≡ length vs → length (ks ++ pos 0 ∷ []) ≡ length (vs ++ v ∷ [])
    longer [] [] l = refl
    longer [] (w ∷ vs) l = absurd (omega arith)
    longer (k ∷ ks) [] l = absurd (omega arith)
    longer (k ∷ ks) (w ∷ vs) l = let e = longer ks vs (omega arith) in omega arith

    same : (ks : List ℤ) (vs : List Vector) → length ks ≡ length vs → combination (ks ++ pos 0 ∷ []) (vs ++ v ∷ []) ≡ combination ks vs
    same [] [] l = plus_zero _ ∙ zero_times v
    same [] (w ∷ vs) l = absurd (omega arith)
    same (k ∷ ks) [] l = absurd (omega arith)
    same (k ∷ ks) (w ∷ vs) l = plus_equal refl (same ks vs (omega arith))

    zero_before : (ks : List ℤ) → AllZero (ks ++ pos 0 ∷ []) → AllZero ks
    zero_before [] z = tt
    zero_before (k ∷ ks) z = (z.0, zero_before ks z.1)

-- a vector other than 0; what is not orthogonal to it is independent of the earlier vectors
pub record Normal (d : ℕ) (earlier : List Vector) : Type 0 where
  pub vector : Vector
  pub flat : HasDimension d vector
  pub some : vector ≢ zero_vector
  pub follows : (v : Vector) → dot vector v ≢ pos 0 → AreIndependent (earlier ++ v ∷ [])

-- of no vectors
normal_to_none : (d : ℕ) → Normal d []
normal_to_none d = record {
  vector = along;
  flat = λ e. refl;
  some = λ e. one_is_not_zero (ap (λ (t : Vector). t.x) e);
  follows = λ v n. independent_one v (λ e. n (ap (dot along) e));
}
  where
    along : Vector
    along = vector (pos 1) (pos 0) (pos 0)

-- of one: it is turned in the plane of the first two parts, if it has one of them
normal_to_one : (d : ℕ) (a : Vector) → AreIndependent (a ∷ []) → Normal d (a ∷ [])
normal_to_one d a i = by (zero_or_not a.x) (zero_or_not a.y)
  where
    turned : (neg_ℤ a.y ≡ pos 0 → a.x ≡ pos 0 → ⊥) → Normal d (a ∷ [])
    turned n = record {
      vector = c;
      flat = λ e. refl;
      some = λ e. n (ap (λ (t : Vector). t.x) e) (ap (λ (t : Vector). t.y) e);
      follows = λ v. independent_across c a v i (across a.x a.y a.z);
    }
      where
        c : Vector
        c = vector (neg_ℤ a.y) a.x (pos 0)

        across : (x y z : ℤ) → neg_ℤ y *ℤ x +ℤ x *ℤ y +ℤ pos 0 *ℤ z ≡ pos 0
        across x y z = simp ring (omega (arith, linear))

    upright : a.x ≡ pos 0 → Normal d (a ∷ [])
    upright h = record {
      vector = c;
      flat = λ e. refl;
      some = λ e. one_is_not_zero (ap (λ (t : Vector). t.x) e);
      follows = λ v. independent_across c a v i across;
    }
      where
        c : Vector
        c = vector (pos 1) (pos 0) (pos 0)

        across : pos 1 *ℤ a.x +ℤ pos 0 *ℤ a.y +ℤ pos 0 *ℤ a.z ≡ pos 0
        across = simp ring (omega (arith, linear, h))

    by : (a.x ≡ pos 0) ⊎ (a.x ≢ pos 0) → (a.y ≡ pos 0) ⊎ (a.y ≢ pos 0) → Normal d (a ∷ [])
    by (inr n) r = turned (λ e f. n f)
    by (inl h) (inr n) = turned (λ e f. n (omega (arith, linear, e)))
    by (inl h) (inl k) = upright h

-- of fewer than the dimension; of two it is their cross product
pub normal_to : (d : ℕ) → (d ≡ 2) ⊎ (d ≡ 3) → (earlier : List Vector) → AreIndependent earlier → length earlier < d → Normal d earlier
normal_to d two [] i l = normal_to_none d
normal_to d two (a ∷ []) i l = normal_to_one d a i
normal_to d two (a ∷ b ∷ []) i l = record {
  vector = cross a b;
  flat = λ e. absurd (omega (arith, e, l));
  some = cross_not_zero a b i;
  follows = independent_three a b;
}
normal_to d (inl e) (a ∷ b ∷ c ∷ rest) i l = absurd (omega arith)
normal_to d (inr e) (a ∷ b ∷ c ∷ rest) i l = absurd (omega arith)

-- the other way
pub linear_turned : (d : ℕ) (R : Vector → Vector → Type 0) → IsLinear d R → IsLinear d (λ y v. R v y)
linear_turned d R l = grind arith

-- all these vectors have dimension d
abbrev pub AllHave : ℕ → List Vector → Type 0
AllHave d [] = Unit {0}
AllHave d (v ∷ vs) = HasDimension d v × AllHave d vs

-- related vectors have related combinations
pub related_combination : (d : ℕ) (R : Vector → Vector → Type 0) → IsLinear d R → (ks : List ℤ) (vs ys : List Vector) → AreMatched R vs ys
    → R (combination ks vs) (combination ks ys)
related_combination d R l [] vs ys h = l.zero
related_combination d R l (k ∷ ks) [] [] h = l.zero
related_combination d R l (k ∷ ks) [] (y ∷ ys) h = absurd h
related_combination d R l (k ∷ ks) (v ∷ vs) [] h = absurd h
related_combination d R l (k ∷ ks) (v ∷ vs) (y ∷ ys) h =
    l.plus_is (times k v) (combination ks vs) (times k y) (combination ks ys) (l.times_is k v y h.0) (related_combination d R l ks vs ys h.1)

-- a combination of vectors of dimension d has dimension d
pub combination_dimension : (d : ℕ) (ks : List ℤ) (vs : List Vector) → AllHave d vs → HasDimension d (combination ks vs)
combination_dimension d [] vs h = λ e. refl
combination_dimension d (k ∷ ks) [] h = λ e. refl
combination_dimension d (k ∷ ks) (v ∷ vs) h =
    plus_dimension d (times k v) (combination ks vs) (times_dimension d k v h.0) (combination_dimension d ks vs h.1)

-- independence is kept: a relation of the images is one of the vectors
pub independent_there : (d : ℕ) (R : Vector → Vector → Type 0) → IsLinear d R → (vs ys : List Vector) → AreMatched R vs ys → AllHave d vs
    → AreIndependent vs → AreIndependent ys
independent_there d R l vs ys h dim ind ks n z =
    let r = related_combination d R l ks vs ys h in let r0 = subst (R (combination ks vs)) z r in
    ind ks (n ∙ sym (matched_length R vs ys h)) (l.back_once (combination ks vs) zero_vector zero_vector (combination_dimension d ks vs dim)
    (λ e. refl) r0 l.zero)
