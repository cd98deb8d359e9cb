-- The rows of a staircase are the staircase basis of its lattice, and the only one. They span its members.
use Rattle.std.proofs.Common.{◌≡◌, zero, suc, ℤ, pos, negsuc, ◌+ℤ◌, ◌-ℤ◌, ◌*ℤ◌, ◌<ℤ◌, ◌≤ℤ◌, refl, sym, ap, subst, ◌∙◌, arith, ◌⊎◌, inl, inr, ⊎_elim, ℕ}
use Rattle.std.proofs.Common.{neg_ℤ, [], ◌∷◌, ◌≢◌, ◌<◌, ◌≤◌, List}
use Rattle.std.specs.Prelude.{Bool, true, false, cond, ◌==◌, slice_index_or, take, ◌^◌, All}
use Rattle.std.specs.declared.cmp.Ordering.TheVariants.{Less, Equal, Greater}
use Rattle.std.proofs.lemmas.{Int.ints, Bool.Decides.eqb_tells, List.Elements.All-cons}
use Rattle.std.specs.{Ordering.int_cmp, Ordering.ordering_then, Cmp.int_cmp_is, Cmp.Lexicographic.slice_cmp, declared.cmp.Ordering.Ordering}
use Rattle.integers.specs.Vectors.{Vector, vector, zero_vector, plus, opposite, combination, HasDimension, IsAtMost, IsWithin}
use Rattle.integers.specs.Staircase.{Spans, IsStaircase, IsStair, IsZeroBefore, NotNegativeAfter}
use Rattle.integers.proofs.vectors.Laws.{vector_equal, plus_dimension, opposite_dimension}
use Rattle.integers.proofs.{numbers.Ring.ring, numbers.Ring.linear, vectors.StairBasis.combination_in, lists.Members.IsIn}
use Rattle.integers.specs.Lattices.{IsVectorGroup}
use Rattle.vecdim.specs.Stairs.{InStairs, IsReducedStair, Stairs, HasStairShape, rows_of, HasFlatEnd}
use Rattle.vecdim.proofs.{Inserting.zero_factor, Inserting.zero_member, Lattice.in_pair, Lattice.own_rows, Remainders.first_off, Remainders.second_off}
use Rattle.vecdim.proofs.{Remainders.third_off, Remainders.member_rests, Boxes.boxed_within, Boxes.boxed_first, Boxes.boxed_second, Boxes.boxed_third}
use Rattle.vecdim.specs.{Lattices.Members, Steps.HasRemainder, Steps.IsBoundedStair}

-- a positive multiple of a positive number is at least that number
least_multiple : (k a : ℤ) → pos 0 <ℤ (k *ℤ a) → pos 0 <ℤ a → a ≤ℤ (k *ℤ a)
least_multiple (pos zero) a h p = absurd (omega (arith, ints, h))
least_multiple (pos (suc k)) (pos a) h p = omega (arith, ints)
least_multiple (pos (suc k)) (negsuc a) h p = absurd (omega (arith, ints, p))
least_multiple (negsuc k) (pos a) h p = absurd (omega (arith, ints, h))
least_multiple (negsuc k) (negsuc a) h p = absurd (omega (arith, ints, p))

-- it is that number only for the factor 1
once : (k a : ℤ) → k *ℤ a ≡ a → pos 0 <ℤ a → k ≡ pos 1
once k a e p =
    let z = zero_factor (k -ℤ pos 1) a (simp ring (omega (arith, linear, e))) p in omega (arith, linear, z)

-- the first of b, b + e, b + 2e, .. that is not negative
pub least_rest : (l b e w : ℤ) → pos 0 ≤ℤ b → b <ℤ e → pos 0 ≤ℤ w → w ≡ b +ℤ l *ℤ e → (b <ℤ w) ⊎ ((w ≡ b) × (l ≡ pos 0))
least_rest (pos zero) b e w h i j q = inr (omega (arith, ints, q), refl)
least_rest (pos (suc l)) (pos b) (pos e) w h i j q = inl (omega (arith, ints, q, i))
least_rest (pos (suc l)) (negsuc b) e w h i j q = absurd (omega (arith, ints, h))
least_rest (pos (suc l)) (pos b) (negsuc e) w h i j q = absurd (omega (arith, ints, i))
least_rest (negsuc l) (pos b) (pos e) w h i j q = absurd (omega (arith, ints, q, i, j))
least_rest (negsuc l) (negsuc b) e w h i j q = absurd (omega (arith, ints, h))
least_rest (negsuc l) (pos b) (negsuc e) w h i j q = absurd (omega (arith, ints, i))

-- (b, c) is at most (y, z), compared from the left
abbrev pub IsAtMost2 : ℤ → ℤ → ℤ → ℤ → Type 0
IsAtMost2 b c y z = (b <ℤ y) ⊎ ((y ≡ b) × (c ≤ℤ z))

-- the third part of a member whose coefficients begin with 1 and 0
z_at_one : (k l n c f i z : ℤ) → k ≡ pos 1 → l ≡ pos 0 → z ≡ k *ℤ c +ℤ l *ℤ f +ℤ n *ℤ i → z ≡ c +ℤ n *ℤ i
z_at_one k l n c f i z h g q = q ∙ ap (λ t. t *ℤ c +ℤ l *ℤ f +ℤ n *ℤ i) h ∙ ap (λ t. pos 1 *ℤ c +ℤ t *ℤ f +ℤ n *ℤ i) g ∙ simp ring (omega (arith, linear))

-- less or equal is at most
at_most_of : (b w : ℤ) {A : Type 0} → (b <ℤ w) ⊎ ((w ≡ b) × A) → b ≤ℤ w
at_most_of b w k = search arith

-- the first row has the least positive first part
pub first_least : {S : Stairs} (w : Vector) → IsReducedStair S → InStairs S w → pos 0 <ℤ w.x → S.first_x ≤ℤ w.x
first_least {S} w r m h = subst (λ t. S.first_x ≤ℤ t) (sym m.x) (least_multiple m.k S.first_x (subst (λ t. pos 0 <ℤ t) m.x h) r.first_x)

-- among these the least parts after it
pub first_rest : {S : Stairs} (w : Vector) → IsReducedStair S → InStairs S w → w.x ≡ S.first_x → pos 0 ≤ℤ w.y → pos 0 ≤ℤ w.z
    → IsAtMost2 S.first_y S.first_z w.y w.z
first_rest {S} w r m h j i =
    let k = once m.k S.first_x (sym m.x ∙ h) r.first_x in
    ⊎_elim (λ (t : S.first_y <ℤ w.y). inl t)
    (λ (t : (w.y ≡ S.first_y) × (m.l ≡ pos 0)). inr (
      t.0,
      at_most_of S.first_z w.z (least_rest m.n S.first_z S.third_z w.z r.first_z_from r.first_z_to i
          (z_at_one m.k m.l m.n S.first_z S.second_z S.third_z w.z k t.1 m.z)),
    ))
    (least_rest m.l S.first_y S.second_y w.y r.first_y_from r.first_y_to j (m.y ∙ ap (λ t. t *ℤ S.first_y +ℤ m.l *ℤ S.second_y) k
    ∙ simp ring (omega (arith, linear))))

-- a member with first part 0 has the first coefficient 0
no_first : {S : Stairs} (w : Vector) → IsReducedStair S → (m : InStairs S w) → w.x ≡ pos 0 → m.k ≡ pos 0
no_first {S} w r m h = zero_factor m.k S.first_x (sym h ∙ m.x) r.first_x

-- the second part of such a member
y_at_zero : (k l b e y : ℤ) → k ≡ pos 0 → y ≡ k *ℤ b +ℤ l *ℤ e → y ≡ l *ℤ e
y_at_zero k l b e y h q = q ∙ ap (λ t. t *ℤ b +ℤ l *ℤ e) h ∙ simp ring (omega (arith, linear))

-- its third part, if the second coefficient is 1
z_at_second : (k l n c f i z : ℤ) → k ≡ pos 0 → l ≡ pos 1 → z ≡ k *ℤ c +ℤ l *ℤ f +ℤ n *ℤ i → z ≡ f +ℤ n *ℤ i
z_at_second k l n c f i z h g q = q ∙ ap (λ t. t *ℤ c +ℤ l *ℤ f +ℤ n *ℤ i) h ∙ ap (λ t. pos 0 *ℤ c +ℤ t *ℤ f +ℤ n *ℤ i) g ∙ simp ring (omega (arith, linear))

-- its third part, if the second coefficient is 0
z_at_third : (k l n c f i z : ℤ) → k ≡ pos 0 → l ≡ pos 0 → z ≡ k *ℤ c +ℤ l *ℤ f +ℤ n *ℤ i → z ≡ n *ℤ i
z_at_third k l n c f i z h g q = q ∙ ap (λ t. t *ℤ c +ℤ l *ℤ f +ℤ n *ℤ i) h ∙ ap (λ t. pos 0 *ℤ c +ℤ t *ℤ f +ℤ n *ℤ i) g ∙ simp ring (omega (arith, linear))

-- the second row has the least positive second part
pub second_least : {S : Stairs} (w : Vector) → IsReducedStair S → InStairs S w → w.x ≡ pos 0 → pos 0 <ℤ w.y → S.second_y ≤ℤ w.y
second_least {S} w r m x h =
    let e = y_at_zero m.k m.l S.first_y S.second_y w.y (no_first w r m x) m.y in
    subst (λ t. S.second_y ≤ℤ t) (sym e) (least_multiple m.l S.second_y (subst (λ t. pos 0 <ℤ t) e h) r.second_y)

-- among these the least third part
pub second_rest : {S : Stairs} (w : Vector) → IsReducedStair S → InStairs S w → w.x ≡ pos 0 → w.y ≡ S.second_y → pos 0 ≤ℤ w.z → S.second_z ≤ℤ w.z
second_rest {S} w r m x h j =
    let k = no_first w r m x in let l = once m.l S.second_y (sym (y_at_zero m.k m.l S.first_y S.second_y w.y k m.y) ∙ h) r.second_y in
    at_most_of S.second_z w.z (least_rest m.n S.second_z S.third_z w.z r.second_z_from r.second_z_to j
    (z_at_second m.k m.l m.n S.first_z S.second_z S.third_z w.z k l m.z))

-- the third row has the least positive third part
pub third_least : {S : Stairs} (w : Vector) → IsReducedStair S → InStairs S w → w.x ≡ pos 0 → w.y ≡ pos 0 → pos 0 <ℤ w.z → S.third_z ≤ℤ w.z
third_least {S} w r m x y h =
    let k = no_first w r m x in
    let l = zero_factor m.l S.second_y (sym y ∙ y_at_zero m.k m.l S.first_y S.second_y w.y k m.y) r.second_y in
    let e = z_at_third m.k m.l m.n S.first_z S.second_z S.third_z w.z k l m.z in
    subst (λ t. S.third_z ≤ℤ t) (sym e) (least_multiple m.n S.third_z (subst (λ t. pos 0 <ℤ t) e h) r.third_z)

-- the first part of the sum
sum_x : (w k l n a : ℤ) → w ≡ k *ℤ a → k *ℤ a +ℤ (l *ℤ pos 0 +ℤ (n *ℤ pos 0 +ℤ pos 0)) ≡ w
sum_x w k l n a e = simp ring (omega (arith, linear, e))

-- the second
sum_y : (w k l n b f : ℤ) → w ≡ k *ℤ b +ℤ l *ℤ f → k *ℤ b +ℤ (l *ℤ f +ℤ (n *ℤ pos 0 +ℤ pos 0)) ≡ w
sum_y w k l n b f e = simp ring (omega (arith, linear, e))

-- the third
sum_z : (w k l n c f i : ℤ) → w ≡ k *ℤ c +ℤ l *ℤ f +ℤ n *ℤ i → k *ℤ c +ℤ (l *ℤ f +ℤ (n *ℤ i +ℤ pos 0)) ≡ w
sum_z w k l n c f i e = omega (arith, linear, e)

-- the first part of a flat sum
flat_x : (w k l a : ℤ) → w ≡ k *ℤ a → k *ℤ a +ℤ (l *ℤ pos 0 +ℤ pos 0) ≡ w
flat_x w k l a e = simp ring (omega (arith, linear, e))

-- the second
flat_y : (w k l b f : ℤ) → w ≡ k *ℤ b +ℤ l *ℤ f → k *ℤ b +ℤ (l *ℤ f +ℤ pos 0) ≡ w
flat_y w k l b f e = omega (arith, linear, e)

-- the third
flat_z : (w k l c f : ℤ) → w ≡ pos 0 → c ≡ pos 0 → f ≡ pos 0 → k *ℤ c +ℤ (l *ℤ f +ℤ pos 0) ≡ w
flat_z w k l c f e p q = grind arith

-- a member is the combination of the rows with its coefficients
pub combination_of : (d : ℕ) (S : Stairs) (v : Vector) → HasStairShape d S → HasDimension d v → (m : InStairs S v)
    → combination (m.k ∷ m.l ∷ m.n ∷ []) (rows_of d S) ≡ v
combination_of d S v s dim m = by (eqb_tells d 2)
  where
    -- without the third row
    without : d ≡ 2 → plus (vector (m.k *ℤ S.first_x) (m.k *ℤ S.first_y) (m.k *ℤ S.first_z)) (plus (vector (m.l *ℤ pos 0) (m.l *ℤ S.second_y)
        (m.l *ℤ S.second_z)) zero_vector) ≡ v
    without e =
        let f = s.flat e in
        vector_equal (flat_x v.x m.k m.l S.first_x m.x) (flat_y v.y m.k m.l S.first_y S.second_y m.y)
        (flat_z v.z m.k m.l S.first_z S.second_z (dim e) f.first_z f.second_z)

    by : (((d == 2) ≡ true) × (d ≡ 2)) ⊎ (((d == 2) ≡ false) × (d ≡ 2 → ⊥)) → combination (m.k ∷ m.l ∷ m.n ∷ []) (rows_of d S) ≡ v
    by h = grind (arith, without, vector_equal, sum_x, sum_y, sum_z)

-- the last coefficient of a flat member is 0
no_third : (w k l n c f i : ℤ) → w ≡ pos 0 → c ≡ pos 0 → f ≡ pos 0 → i ≡ pos 1 → w ≡ k *ℤ c +ℤ l *ℤ f +ℤ n *ℤ i → n ≡ pos 0
no_third w k l n c f i e p q o h =
    let u = ap (λ (t : ℤ). k *ℤ t) p in let v = ap (λ (t : ℤ). l *ℤ t) q in
    let r = ap (λ (t : ℤ). n *ℤ t) o in
    omega (arith, linear, e, h, simp ring at u, simp ring at v, simp ring at r)

-- so the coefficients have the dimension of the member
pub coefficients_dimension : (d : ℕ) (S : Stairs) (v : Vector) → HasStairShape d S → HasDimension d v → (m : InStairs S v)
    → HasDimension d (vector m.k m.l m.n)
coefficients_dimension d S v s dim m e = let f = s.flat e in no_third v.z m.k m.l m.n S.first_z S.second_z S.third_z (dim e) f.first_z f.second_z f.third_z m.z

-- a part, if the rest is 0
exact_x : (v r a q : ℤ) → r ≡ pos 0 → v -ℤ r ≡ q *ℤ a → v ≡ q *ℤ a
exact_x v r a q h e = omega (arith, linear, h, e)

-- the second
exact_y : (v r p q : ℤ) → r ≡ pos 0 → v -ℤ r ≡ p +ℤ q → v ≡ p +ℤ q
exact_y v r p q h e = omega (arith, linear, h, e)

-- the third
exact_z : (v r o p q : ℤ) → r ≡ pos 0 → v -ℤ r ≡ o +ℤ p +ℤ q → v ≡ o +ℤ p +ℤ q
exact_z v r o p q h e = omega (arith, linear, h, e)

-- the coordinates of a member
pub coordinates_are : (d : ℕ) {S : Stairs} {v q r : Vector} → HasStairShape d S → HasRemainder S v q r → Members d S v
    → (combination (q.x ∷ q.y ∷ q.z ∷ []) (rows_of d S) ≡ v) × HasDimension d q
coordinates_are d {S} {v} {q} {r} s h m =
    let e = member_rests d s h m.0 in
    let t : InStairs S v = record {
      k = q.x;
      l = q.y;
      n = q.z;
      x = exact_x v.x r.x S.first_x q.x (ap (λ (t : Vector). t.x) e) (first_off v.x r.x S.first_x q.x h.x);
      y = exact_y v.y r.y (q.x *ℤ S.first_y) (q.y *ℤ S.second_y) (ap (λ (t : Vector). t.y) e) (second_off v.y r.y S.first_y S.second_y q.x q.y h.y);
      z = exact_z v.z r.z (q.x *ℤ S.first_z) (q.y *ℤ S.second_z) (q.z *ℤ S.third_z) (ap (λ (t : Vector). t.z) e)
          (third_off v.z r.z S.first_z S.second_z S.third_z q.x q.y q.z h.z);
    } in
    (combination_of d S v s m.1 t, coefficients_dimension d S v s m.1 t)

-- a sum
sum_part : (x y : ℤ) → x +ℤ y ≡ pos 1 *ℤ x +ℤ pos 1 *ℤ y
sum_part x y = simp ring (omega (arith, linear))

-- the members of a staircase are a group
pub members_group : (d : ℕ) (S : Stairs) → IsVectorGroup (Members d S)
members_group d S = record {
  zero = (zero_member S, λ e. refl);
  sums = λ v w m n. (in_pair (pos 1) (pos 1) m.0 n.0 (sum_part v.x w.x) (sum_part v.y w.y) (sum_part v.z w.z), plus_dimension d v w m.1 n.1);
  opposites = λ v m. (opposite_member v m.0, opposite_dimension d v m.1);
}
  where
    opposite_member : (v : Vector) → InStairs S v → InStairs S (opposite v)
    opposite_member v m = record {
      k = neg_ℤ m.k;
      l = neg_ℤ m.l;
      n = neg_ℤ m.n;
      x = simp ring (omega (arith, linear, simp ring at m.x));
      y = simp ring (omega (arith, linear, simp ring at m.y));
      z = simp ring (omega (arith, linear, simp ring at m.z));
    }

-- the rows are members
rows_in : (d : ℕ) (S : Stairs) → HasStairShape d S → (v : Vector) → IsIn (rows_of d S) v → Members d S v
rows_in d S s v (inl e) = subst (Members d S) e ((own_rows S).first, λ t. (s.flat t).first_z)
rows_in d S s v (inr (inl e)) = subst (Members d S) e ((own_rows S).second, λ t. (s.flat t).second_z)
rows_in d S s v (inr (inr i)) = by (eqb_tells d 2)
  where
    last : IsIn (vector (pos 0) (pos 0) S.third_z ∷ []) v → (d ≡ 2 → ⊥) → Members d S v
    last (inl e) n = subst (Members d S) e ((own_rows S).third, λ t. absurd (n t))
    last (inr k) n = absurd k

    by : (((d == 2) ≡ true) × (d ≡ 2)) ⊎ (((d == 2) ≡ false) × (d ≡ 2 → ⊥)) → Members d S v
    by (inl e) = absurd (subst (λ (b : Bool). IsIn (cond b [] (vector (pos 0) (pos 0) S.third_z ∷ [])) v) e.0 i)
    by (inr n) = last (subst (λ (b : Bool). IsIn (cond b [] (vector (pos 0) (pos 0) S.third_z ∷ [])) v) n.0 i) n.1

-- the rows span the members
pub rows_span : (d : ℕ) (S : Stairs) → HasStairShape d S → Spans (Members d S) (rows_of d S)
rows_span d S s = record {
  inside = λ ks. combination_in (Members d S) (members_group d S) ks (rows_of d S) (rows_in d S s);
  all = λ v m. (m.0.k ∷ m.0.l ∷ m.0.n ∷ [], combination_of d S v s m.1 m.0);
}

-- Less is not Greater
less_not_greater : Less ≢ Greater
less_not_greater e = cc

-- nor is Equal
equal_not_greater : Equal ≢ Greater
equal_not_greater e = cc

-- the empty list is at most itself
at_most_nothing : IsAtMost [] []
at_most_nothing = equal_not_greater

-- if the first numbers are equal, the others compare
at_most_after : (a x : ℤ) (bs ys : List ℤ) → a ≡ x → IsAtMost bs ys → IsAtMost (a ∷ bs) (x ∷ ys)
at_most_after a x bs ys e h g = h (ap (λ (o : Ordering). ordering_then o (slice_cmp int_cmp bs ys)) (int_cmp_is a x Equal e) ∙ g)

-- a list with a lesser first number is at most the other
at_most_first : (a x : ℤ) (bs ys : List ℤ) → a <ℤ x → IsAtMost (a ∷ bs) (x ∷ ys)
at_most_first a x bs ys l g = less_not_greater (ap (λ (o : Ordering). ordering_then o (slice_cmp int_cmp bs ys)) (int_cmp_is a x Less l) ∙ g)

-- at most is less or equal
less_or_equal : (c z : ℤ) → c ≤ℤ z → (c <ℤ z) ⊎ (c ≡ z)
less_or_equal c z h = search arith

-- one number
at_most_one : (c z : ℤ) → c ≤ℤ z → IsAtMost (c ∷ []) (z ∷ [])
at_most_one c z h = grind (arith, less_or_equal, at_most_first, at_most_after, at_most_nothing)

-- two numbers
at_most_two : (b c y z : ℤ) → IsAtMost2 b c y z → IsAtMost (b ∷ c ∷ []) (y ∷ z ∷ [])
at_most_two b c y z k = grind (arith, at_most_first, at_most_after, at_most_one)

-- 0 is not negative
zero_from : pos 0 ≤ℤ pos 0
zero_from = omega (arith, ints)

-- the parts after the first, after the second and after the third are not negative
after_first : (v : Vector) → pos 0 ≤ℤ v.y → pos 0 ≤ℤ v.z → NotNegativeAfter 0 v
after_first v h r s t = search (arith, zero_from)

-- after the second
after_second : (v : Vector) → pos 0 ≤ℤ v.z → NotNegativeAfter 1 v
after_second v h p r = search (arith, zero_from)

-- after the third
after_third : (v : Vector) → NotNegativeAfter 2 v
after_third v h p = search (arith, zero_from)

-- the parts before the second are 0
before_second : (v : Vector) → v.x ≡ pos 0 → IsZeroBefore 1 v
before_second v h q r = search arith

-- the parts before the third
before_third : (v : Vector) → v.x ≡ pos 0 → v.y ≡ pos 0 → IsZeroBefore 2 v
before_third v h r s t = search arith

-- the first row
first_row : (d : ℕ) (S : Stairs) → IsReducedStair S → HasDimension d (vector S.first_x S.first_y S.first_z)
    → IsStair (Members d S) 0 (vector S.first_x S.first_y S.first_z)
first_row d S r dim = record {
  may = record { member = ((own_rows S).first, dim); before = λ k l. absurd (omega arith); leads = r.first_x };
  least = λ w m. first_least w r m.member.0 m.leads;
  rest = after_first (vector S.first_x S.first_y S.first_z) r.first_y_from r.first_z_from;
  least_rest = λ w m e n. at_most_after S.first_x w.x (S.first_y ∷ S.first_z ∷ []) (w.y ∷ w.z ∷ []) (sym e)
      (at_most_two S.first_y S.first_z w.y w.z (first_rest w r m.member.0 e (n 1 (omega arith)) (n 2 (omega arith))));
}

-- the second row
second_row : (d : ℕ) (S : Stairs) → IsReducedStair S → HasDimension d (vector (pos 0) S.second_y S.second_z)
    → IsStair (Members d S) 1 (vector (pos 0) S.second_y S.second_z)
second_row d S r dim = record {
  may = record { member = ((own_rows S).second, dim); before = before_second (vector (pos 0) S.second_y S.second_z) refl; leads = r.second_y };
  least = λ w m. second_least w r m.member.0 (m.before 0 (omega arith)) m.leads;
  rest = after_second (vector (pos 0) S.second_y S.second_z) r.second_z_from;
  least_rest = λ w m e n. at_most_after S.second_y w.y (S.second_z ∷ []) (w.z ∷ []) (sym e)
      (at_most_one S.second_z w.z (second_rest w r m.member.0 (m.before 0 (omega arith)) e (n 2 (omega arith))));
}

-- the third row
third_row : (d : ℕ) (S : Stairs) → IsReducedStair S → HasDimension d (vector (pos 0) (pos 0) S.third_z)
    → IsStair (Members d S) 2 (vector (pos 0) (pos 0) S.third_z)
third_row d S r dim = record {
  may = record { member = ((own_rows S).third, dim); before = before_third (vector (pos 0) (pos 0) S.third_z) refl refl; leads = r.third_z };
  least = λ w m. third_least w r m.member.0 (m.before 0 (omega arith)) (m.before 1 (omega arith)) m.leads;
  rest = after_third (vector (pos 0) (pos 0) S.third_z);
  least_rest = λ w m e n. at_most_after S.third_z w.z [] [] (sym e) at_most_nothing;
}

-- each vector has dimension 3
has_three : (v : Vector) → HasDimension 3 v
has_three v e = absurd (omega (arith, e))

-- the rows of dimension 2
two_rows : (S : Stairs) → IsReducedStair S → HasFlatEnd S → IsStaircase (Members 2 S) 2 (rows_of 2 S)
two_rows S r f = record { count = refl; each = each }
  where
    each : (i : ℕ) → i < 2 → IsStair (Members 2 S) i (slice_index_or (rows_of 2 S) i zero_vector)
    each zero l = first_row 2 S r (λ e. f.first_z)
    each (suc zero) l = second_row 2 S r (λ e. f.second_z)
    each (suc (suc i)) l = absurd (omega arith)

-- the rows of dimension 3
three_rows : (S : Stairs) → IsReducedStair S → IsStaircase (Members 3 S) 3 (rows_of 3 S)
three_rows S r = record { count = refl; each = each }
  where
    each : (i : ℕ) → i < 3 → IsStair (Members 3 S) i (slice_index_or (rows_of 3 S) i zero_vector)
    each zero l = first_row 3 S r (has_three (vector S.first_x S.first_y S.first_z))
    each (suc zero) l = second_row 3 S r (has_three (vector (pos 0) S.second_y S.second_z))
    each (suc (suc zero)) l = third_row 3 S r (has_three (vector (pos 0) (pos 0) S.third_z))
    each (suc (suc (suc i))) l = absurd (omega arith)

-- the rows are the staircase basis
pub rows_are_basis : (d : ℕ) (S : Stairs) → 2 ≤ d → d ≤ 3 → HasStairShape d S → IsStaircase (Members d S) d (rows_of d S)
rows_are_basis zero S h k s = absurd (omega arith)
rows_are_basis (suc zero) S h k s = absurd (omega arith)
rows_are_basis (suc (suc zero)) S h k s = two_rows S s.reduced (s.flat refl)
rows_are_basis (suc (suc (suc zero))) S h k s = three_rows S s.reduced
rows_are_basis (suc (suc (suc (suc d)))) S h k s = absurd (omega arith)

-- what a staircase lends of its list
lent : (d : ℕ) → 2 ≤ d → d ≤ 3 → (S : Stairs)
    → take d (vector S.first_x S.first_y S.first_z ∷ vector (pos 0) S.second_y S.second_z ∷ vector (pos 0) (pos 0) (cond (d == 2) (pos 0) S.third_z)
    ∷ []) ≡ rows_of d S
lent d l p S = search arith

-- the rows' parts are at most 2^60
rows_within : (d : ℕ) → 2 ≤ d → d ≤ 3 → {m : ℤ} (S : Stairs) → IsBoundedStair m S → All (IsWithin (2 ^ 60)) (rows_of d S)
rows_within d h k {m} S kept =
    let P = IsWithin (2 ^ 60) in let s = boxed_within kept.m_to (boxed_second kept) in
    let t = boxed_within kept.m_to (boxed_third kept) in
    All-cons P (vector S.first_x S.first_y S.first_z) (vector (pos 0) S.second_y S.second_z ∷ cond (d == 2) [] (vector (pos 0) (pos 0) S.third_z
    ∷ [])) (boxed_within kept.m_to (boxed_first kept))
    (All-cons P (vector (pos 0) S.second_y S.second_z) (cond (d == 2) [] (vector (pos 0) (pos 0) S.third_z ∷ [])) (omega arith, s.0, s.1)
    (last (d == 2) (omega arith, omega arith, t.0)))
  where
    last : (b : Bool) → IsWithin (2 ^ 60) (vector (pos 0) (pos 0) S.third_z) → All (IsWithin (2 ^ 60)) (cond b [] (vector (pos 0) (pos 0) S.third_z ∷ []))
    last b h = grind arith

-- what is known of the vectors that a staircase lends
pub record AreRows (d : ℕ) (S : Stairs) (vs : List Vector) : Type 0 where
  pub basis : IsStaircase (Members d S) d vs
  pub small : All (IsWithin (2 ^ 60)) vs
  pub spans : Spans (Members d S) vs

-- and that they are the rows
pub lent_rows : (d : ℕ) → 2 ≤ d → d ≤ 3 → {m : ℤ} {S : Stairs} → (d ≡ 2 → HasFlatEnd S) → IsBoundedStair m S → {vs : List Vector}
    → vs ≡ vector S.first_x S.first_y S.first_z ∷ vector (pos 0) S.second_y S.second_z ∷ vector (pos 0) (pos 0) (cond (d == 2) (pos 0) S.third_z) ∷ []
    → AreRows d S (take d vs)
lent_rows d h k {m} {S} flat kept {vs} e = subst (AreRows d S) (sym (ap (take d) e ∙ lent d h k S))
    (record { basis = rows_are_basis d S h k shape; small = rows_within d h k S kept; spans = rows_span d S shape })
  where
    shape : HasStairShape d S
    shape = record { reduced = kept.reduced; flat = flat }
