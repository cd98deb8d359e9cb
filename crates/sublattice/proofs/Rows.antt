-- Rows whose determinant is not 0 are undone by others, up to it; so the staircase that is built from them has their lattice.
use Rattle.std.proofs.Common.{◌≡◌, ◌⊎◌, ℕ, ℤ, pos, ◌+ℤ◌, ◌-ℤ◌, ◌*ℤ◌, refl, sym, ap, ◌∙◌, arith, ◌↔◌, ◌≤◌, List, [], ◌∷◌, neg_ℤ, inl, inr, subst, ◌≢◌}
use Rattle.std.{proofs.Common.length, proofs.lemmas.Int.ints, specs.Prelude.unsigned_abs}
use Rattle.integers.proofs.vectors.Laws.{vector_equal, product_times, base_sum_times, divided_dimension, plus_dimension, zero_plus, plus_zero, times_zero}
use Rattle.integers.proofs.vectors.Laws.{zero_times, times_dimension, base_sum_plus, base_sum_zero}
use Rattle.integers.specs.Vectors.{Vector, vector, up_vector, times, triple_product, HasDimension, zero_vector, plus, opposite, combination}
use Rattle.integers.proofs.vectors.Independence.{sum_along, products, cramer}
use Rattle.integers.specs.{Bases.Base, Bases.base_sum, Lattices.IsVectorGroup, Staircase.IsStaircase}
use Rattle.integers.proofs.{numbers.Ring.ring, numbers.Ring.linear, lists.Members.IsIn, vectors.StairBasis.same_staircase}
use Rattle.sublattice.specs.Sublattices.{determinant, AreFlat, index_of, IsCombination, base_of, HasMembersOf, IsSublattice}
use Rattle.sublattice.proofs.{RowSteps.Signed, RowSteps.signed, RowNumbers.any_last, RowNumbers.flat_part, RowNumbers.pivots_multiply}
use Rattle.vecdim.specs.{Stairs.Stairs, Stairs.HasStairShape, Stairs.rows_of, Lattices.Members, Lattices.AreMultiples, Lattices.IsWith}
use Rattle.vecdim.proofs.CallerLemmas.{with_has, with_inside}

-- rows that undo b, up to the absolute value of the determinant
pub record Undoing (d : ℕ) (b : Base) : Type 0 where
  pub rows : Base
  pub dimension : (k : Vector) → HasDimension d k → HasDimension d (base_sum rows k)
  pub is : (k : Vector) → HasDimension d k → base_sum b (base_sum rows k) ≡ times (pos (unsigned_abs (determinant d b))) k

-- the products of the unit vectors, with a sign
abbrev adjugate : ℤ → Vector → Vector → Vector → Base
adjugate s a b c = record {
  first = times s (products a b c (vector (pos 1) (pos 0) (pos 0)));
  second = times s (products a b c (vector (pos 0) (pos 1) (pos 0)));
  third = times s (products a b c (vector (pos 0) (pos 0) (pos 1)));
}

-- a part of the sum: the vector in the first place of the product
first_part : (s x y z d e f g h i : ℤ) → x *ℤ (s *ℤ (pos 1 *ℤ (e *ℤ i -ℤ f *ℤ h) +ℤ pos 0 *ℤ (f *ℤ g -ℤ d *ℤ i) +ℤ pos 0 *ℤ (d *ℤ h -ℤ e *ℤ g)))
    +ℤ (y *ℤ (s *ℤ (pos 0 *ℤ (e *ℤ i -ℤ f *ℤ h) +ℤ pos 1 *ℤ (f *ℤ g -ℤ d *ℤ i) +ℤ pos 0 *ℤ (d *ℤ h -ℤ e *ℤ g)))
    +ℤ z *ℤ (s *ℤ (pos 0 *ℤ (e *ℤ i -ℤ f *ℤ h) +ℤ pos 0 *ℤ (f *ℤ g -ℤ d *ℤ i) +ℤ pos 1 *ℤ (d *ℤ h -ℤ e *ℤ g))))
    ≡ s *ℤ (x *ℤ (e *ℤ i -ℤ f *ℤ h) +ℤ y *ℤ (f *ℤ g -ℤ d *ℤ i) +ℤ z *ℤ (d *ℤ h -ℤ e *ℤ g))
first_part s x y z d e f g h i = simp ring (omega (arith, linear))

-- in the second place
second_part : (s x y z a b c g h i : ℤ) → x *ℤ (s *ℤ (a *ℤ (pos 0 *ℤ i -ℤ pos 0 *ℤ h) +ℤ b *ℤ (pos 0 *ℤ g -ℤ pos 1 *ℤ i) +ℤ c *ℤ (pos 1 *ℤ h -ℤ pos 0 *ℤ g)))
    +ℤ (y *ℤ (s *ℤ (a *ℤ (pos 1 *ℤ i -ℤ pos 0 *ℤ h) +ℤ b *ℤ (pos 0 *ℤ g -ℤ pos 0 *ℤ i) +ℤ c *ℤ (pos 0 *ℤ h -ℤ pos 1 *ℤ g)))
    +ℤ z *ℤ (s *ℤ (a *ℤ (pos 0 *ℤ i -ℤ pos 1 *ℤ h) +ℤ b *ℤ (pos 1 *ℤ g -ℤ pos 0 *ℤ i) +ℤ c *ℤ (pos 0 *ℤ h -ℤ pos 0 *ℤ g))))
    ≡ s *ℤ (a *ℤ (y *ℤ i -ℤ z *ℤ h) +ℤ b *ℤ (z *ℤ g -ℤ x *ℤ i) +ℤ c *ℤ (x *ℤ h -ℤ y *ℤ g))
second_part s x y z a b c g h i = simp ring (omega (arith, linear))

-- in the third place
third_part : (s x y z a b c d e f : ℤ) → x *ℤ (s *ℤ (a *ℤ (e *ℤ pos 0 -ℤ f *ℤ pos 0) +ℤ b *ℤ (f *ℤ pos 1 -ℤ d *ℤ pos 0) +ℤ c *ℤ (d *ℤ pos 0 -ℤ e *ℤ pos 1)))
    +ℤ (y *ℤ (s *ℤ (a *ℤ (e *ℤ pos 0 -ℤ f *ℤ pos 1) +ℤ b *ℤ (f *ℤ pos 0 -ℤ d *ℤ pos 0) +ℤ c *ℤ (d *ℤ pos 1 -ℤ e *ℤ pos 0)))
    +ℤ z *ℤ (s *ℤ (a *ℤ (e *ℤ pos 1 -ℤ f *ℤ pos 0) +ℤ b *ℤ (f *ℤ pos 0 -ℤ d *ℤ pos 1) +ℤ c *ℤ (d *ℤ pos 0 -ℤ e *ℤ pos 0))))
    ≡ s *ℤ (a *ℤ (e *ℤ z -ℤ f *ℤ y) +ℤ b *ℤ (f *ℤ x -ℤ d *ℤ z) +ℤ c *ℤ (d *ℤ y -ℤ e *ℤ x))
third_part s x y z a b c d e f = simp ring (omega (arith, linear))

-- the sign times the number is its absolute value
sign_off : (x : ℤ) (g : Signed x) → g.sign *ℤ x ≡ pos (unsigned_abs x)
sign_off x g = search arith

-- so it undoes the rows
undone : (a b c k : Vector) (g : Signed (triple_product a b c)) → sum_along a b c (base_sum (adjugate g.sign a b c) k) ≡ times
    (pos (unsigned_abs (triple_product a b c))) k
undone a b c k g =
    ap (sum_along a b c) (simp (vector_equal, first_part, second_part, third_part))
    ∙ base_sum_times (record { first = a; second = b; third = c }) g.sign (products a b c k)
    ∙ ap (times g.sign) (sym (cramer a b c k))
    ∙ sym (product_times g.sign (triple_product a b c) k)
    ∙ ap (λ (t : ℤ). times t k) (sign_off (triple_product a b c) g)

-- n·0 = 0
times_nothing : (n z : ℤ) → z ≡ pos 0 → n *ℤ z ≡ pos 0
times_nothing n z e = ap (λ (t : ℤ). n *ℤ t) e ∙ omega (arith, ints)

-- in dimension 2
flat_undoing : (b : Base) → AreFlat 2 b → Undoing 2 b
flat_undoing b f =
    let a = adjugate (signed (determinant 2 b)).sign b.first b.second up_vector in
    let z : (k : Vector) → HasDimension 2 k → (base_sum a k).z ≡ pos 0 =
    (λ k d. sym (flat_part (base_sum a k).x (base_sum a k).y (base_sum a k).z b.first.z b.second.z (f refl).0 (f refl).1)
    ∙ ap (λ (v : Vector). v.z) (undone b.first b.second up_vector k (signed (determinant 2 b)))
    ∙ times_nothing (pos (unsigned_abs (determinant 2 b))) k.z (d refl)) in
    record {
      rows = a;
      dimension = λ k d _. z k d;
      is = λ k d. any_last b.first b.second b.third up_vector (base_sum a k) (z k d) ∙ undone b.first b.second up_vector k (signed (determinant 2 b));
    }

-- in dimension 3
full_undoing : (b : Base) → Undoing 3 b
full_undoing b = record {
  rows = adjugate (signed (determinant 3 b)).sign b.first b.second b.third;
  dimension = λ k d e. absurd (omega arith);
  is = λ k d. undone b.first b.second b.third k (signed (determinant 3 b));
}

-- rows have such
pub undoing : (d : ℕ) (b : Base) → (d ≡ 2) ⊎ (d ≡ 3) → AreFlat d b → Undoing d b
undoing d b h k = search (arith, flat_undoing, full_undoing)

-- the opposite, as a multiple
opposite_part : (x : ℤ) → pos 0 -ℤ x ≡ (pos 0 -ℤ pos 1) *ℤ x
opposite_part x = simp ring (omega (arith, linear))

-- the opposite of a vector
opposite_times : (v : Vector) → opposite v ≡ times (pos 0 -ℤ pos 1) v
opposite_times v = vector_equal (negative v.x ∙ opposite_part v.x) (negative v.y ∙ opposite_part v.y) (negative v.z ∙ opposite_part v.z)
  where
    negative : (x : ℤ) → neg_ℤ x ≡ pos 0 -ℤ x
    negative x = omega (arith, linear)

-- the combinations of rows are a group
pub combination_group : (d : ℕ) (b : Base) → IsVectorGroup (IsCombination d b)
combination_group d b = record {
  zero = record { k = zero_vector; dimension = λ _. refl; sum = sym (base_sum_zero b) };
  sums = λ v w i j. record {
    k = plus i.k j.k;
    dimension = plus_dimension d i.k j.k i.dimension j.dimension;
    sum = (λ t. plus (i.sum t) (j.sum t))
        ∙ sym (base_sum_plus b i.k j.k);
  };
  opposites = λ v i. record {
    k = times (pos 0 -ℤ pos 1) i.k;
    dimension = times_dimension d (pos 0 -ℤ pos 1) i.k i.dimension;
    sum = opposite_times v ∙ ap (times (pos 0 -ℤ pos 1)) i.sum ∙ sym (base_sum_times b (pos 0 -ℤ pos 1) i.k);
  };
}

-- vectors whose combinations are those of the rows b
pub record AreRowsOf (d : ℕ) (b : Base) (vs : List Vector) : Type 0 where
  pub each : (v : Vector) → IsIn vs v → IsCombination d b v
  pub all : (k : Vector) → HasDimension d k → (ks : List ℤ) × (base_sum b k ≡ combination ks vs)

module _ (d : ℕ) (b : Base) (S T : Stairs) (vs : List Vector) (c : (d ≡ 2) ⊎ (d ≡ 3)) (f : AreFlat d b) (n : 1 ≤ index_of d b)
    (m : AreMultiples d (pos (index_of d b)) (Members d S)) (a : IsWith (Members d S) vs (Members d T)) (r : AreRowsOf d b vs) where
  undo : Undoing d b
  undo = undoing d b c f

  -- the multiples of the index are combinations of the rows
  multiple_in : (v : Vector) → Members d S v → IsCombination d b v
  multiple_in v i =
      let u = (m v i.1).0 i in
      let du = divided_dimension d (index_of d b) n u.0 (subst (HasDimension d) u.1 i.1) in
      record { k = base_sum undo.rows u.0; dimension = undo.dimension u.0 du; sum = u.1 ∙ sym (undo.is u.0 du) }

  -- 0 is a multiple
  zero_in : Members d S zero_vector
  zero_in = (m zero_vector (λ _. refl)).1 (zero_vector, sym (times_zero (pos (index_of d b))))

  -- a staircase with the rows added to the multiples of the index has the combinations of the rows
  pub built_members : (w : Vector) → Members d T w ↔ IsCombination d b w
  built_members w = (
    with_inside (Members d S) (Members d T) (IsCombination d b) vs a (combination_group d b) multiple_in r.each w,
    λ i.
        let s = r.all i.k i.dimension in
        a.into w (record { u = zero_vector; member = zero_in; ks = s.0; sum = i.sum ∙ s.1 ∙ sym (zero_plus (combination s.0 vs)) }),
  )

  -- the rows are among them
  pub row_in : (v : Vector) → IsIn vs v → Members d T v
  row_in v i = with_has (Members d S) (Members d T) vs a zero_in v i

-- 1·x + (0·y + 0·z)
first_unit : (x y z : ℤ) → x ≡ pos 1 *ℤ x +ℤ (pos 0 *ℤ y +ℤ pos 0 *ℤ z)
first_unit x y z = simp ring (omega (arith, linear))

-- the second
second_unit : (x y z : ℤ) → y ≡ pos 0 *ℤ x +ℤ (pos 1 *ℤ y +ℤ pos 0 *ℤ z)
second_unit x y z = simp ring (omega (arith, linear))

-- the third
third_unit : (x y z : ℤ) → z ≡ pos 0 *ℤ x +ℤ (pos 0 *ℤ y +ℤ pos 1 *ℤ z)
third_unit x y z = simp ring (omega (arith, linear))

-- the rows are combinations of themselves
first_in : (d : ℕ) (b : Base) → IsCombination d b b.first
first_in d b = record {
  k = vector (pos 1) (pos 0) (pos 0);
  dimension = λ _. refl;
  sum = vector_equal (first_unit b.first.x b.second.x b.third.x) (first_unit b.first.y b.second.y b.third.y) (first_unit b.first.z b.second.z b.third.z);
}

-- the second
second_in : (d : ℕ) (b : Base) → IsCombination d b b.second
second_in d b = record {
  k = vector (pos 0) (pos 1) (pos 0);
  dimension = λ _. refl;
  sum = vector_equal (second_unit b.first.x b.second.x b.third.x) (second_unit b.first.y b.second.y b.third.y) (second_unit b.first.z b.second.z b.third.z);
}

-- in dimension 3 they are all three
pub full_rows : (b : Base) → AreRowsOf 3 b (b.first ∷ b.second ∷ b.third ∷ [])
full_rows b = record {
  each = λ v. elim [
    | inl e ↦ subst (IsCombination 3 b) e (first_in 3 b)
    | inr (inl e) ↦ subst (IsCombination 3 b) e (second_in 3 b)
    | inr (inr (inl e)) ↦ subst (IsCombination 3 b) e (record {
      k = vector (pos 0) (pos 0) (pos 1);
      dimension = λ t. absurd (omega arith);
      sum = vector_equal (third_unit b.first.x b.second.x b.third.x) (third_unit b.first.y b.second.y b.third.y) (third_unit b.first.z b.second.z b.third.z);
    })
    | inr (inr (inr i)) ↦ absurd i
  ];
  all = λ k d. (k.x ∷ k.y ∷ k.z ∷ [], ap (plus (times k.x b.first)) (ap (plus (times k.y b.second)) (sym (plus_zero (times k.z b.third)))));
}

-- a last term that is 0
no_last : (z : ℤ) (v : Vector) → z ≡ pos 0 → times z v ≡ zero_vector
no_last z v e = ap (λ (t : ℤ). times t v) e ∙ zero_times v

-- in dimension 2 they are the first two
pub flat_rows_of : (b : Base) → AreRowsOf 2 b (b.first ∷ b.second ∷ [])
flat_rows_of b = record {
  each = λ v. elim [
    | inl e ↦ subst (IsCombination 2 b) e (first_in 2 b)
    | inr (inl e) ↦ subst (IsCombination 2 b) e (second_in 2 b)
    | inr (inr i) ↦ absurd i
  ];
  all = λ k d. (k.x ∷ k.y ∷ [], ap (λ (v : Vector). plus (times k.x b.first) (plus (times k.y b.second) v)) (no_last k.z b.third (d refl)));
}

-- the dimension is neither 0 nor 1 nor above 3
none : {d : ℕ} → (d ≡ 2) ⊎ (d ≡ 3) → d ≡ 0 → ⊥
none h k = omega arith

one : {d : ℕ} → (d ≡ 2) ⊎ (d ≡ 3) → d ≡ 1 → ⊥
one h k = omega arith

more : {d : ℕ} → (d ≡ 2) ⊎ (d ≡ 3) → 4 ≤ d → ⊥
more h k = omega arith

-- the rows in a list have the combinations of the base of the list
pub rows_span : (d : ℕ) (rows : List Vector) → (d ≡ 2) ⊎ (d ≡ 3) → length rows ≡ d → AreRowsOf d (base_of rows) rows
rows_span d [] c n = absurd (none c (sym n))
rows_span d (a ∷ []) c n = absurd (one c (sym n))
rows_span d (a ∷ b ∷ []) c n = subst (λ (d : ℕ). AreRowsOf d (base_of (a ∷ b ∷ [])) (a ∷ b ∷ [])) n (flat_rows_of (base_of (a ∷ b ∷ [])))
rows_span d (a ∷ b ∷ c' ∷ []) c n = subst (λ (d : ℕ). AreRowsOf d (base_of (a ∷ b ∷ c' ∷ [])) (a ∷ b ∷ c' ∷ [])) n (full_rows (base_of (a ∷ b ∷ c' ∷ [])))
rows_span d (a ∷ b ∷ c' ∷ e ∷ rows) c n = absurd (more c (omega (arith, n)))

-- the first two rows of a list whose members have the dimension are flat
pub rows_flat : (d : ℕ) (rows : List Vector) → (d ≡ 2) ⊎ (d ≡ 3) → length rows ≡ d → ((v : Vector) → IsIn rows v → d ≡ 2 → v.z ≡ pos 0)
    → AreFlat d (base_of rows)
rows_flat d [] c n h e = absurd (none c (sym n))
rows_flat d (a ∷ []) c n h e = absurd (one c (sym n))
rows_flat d (a ∷ b ∷ rows) c n h e = (h a (inl refl) e, h b (inr (inl refl)) e)

-- an index of at least 1 is that of a determinant that is not 0
not_zero : (d : ℕ) (rows : List Vector) → 1 ≤ index_of d (base_of rows) → determinant d (base_of rows) ≢ pos 0
not_zero d rows h e = let t = ap unsigned_abs e in omega (arith, t, h)

-- the staircase that rows make from the multiples of their index
pub made_sublattice : (d : ℕ) (rows : List Vector) (index : ℕ) (S T : Stairs) → (d ≡ 2) ⊎ (d ≡ 3) → length rows ≡ d
    → ((v : Vector) → IsIn rows v → d ≡ 2 → v.z ≡ pos 0) → index ≡ index_of d (base_of rows) → 1 ≤ index
    → AreMultiples d (pos index) (Members d S) → IsWith (Members d S) rows (Members d T) → HasStairShape d T → IsStaircase (Members d T) d (rows_of d T)
    → IsSublattice d (base_of rows) T
made_sublattice d rows index S T c n flat e l m a s basis =
    let b = base_of rows in let f = rows_flat d rows c n flat in let r = rows_span d rows c n in
    let h = subst (λ (k : ℕ). 1 ≤ k) e l in
    let same = built_members d b S T rows c f h (subst (λ (k : ℕ). AreMultiples d (pos k) (Members d S)) e m) a r in
    let members : HasMembersOf d T b = λ w dim. ((λ i. (same w).0 (i, dim)), (λ k. ((same w).1 k).0)) in
    record {
      members = members;
      stair = s;
      basis = same_staircase (Members d T) (IsCombination d b) same d (rows_of d T) basis;
      size = pivots_multiply d T b c s f (not_zero d rows h) members;
    }
