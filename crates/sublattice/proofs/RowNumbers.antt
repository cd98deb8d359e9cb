-- The vectors up to the lattice of given rows are numbered below the absolute value of their determinant.
use Rattle.std.proofs.Common.{◌≡◌, ◌≢◌, ℕ, ◌*◌, ℤ, pos, ◌*ℤ◌, ap, subst, ◌∙◌, arith, ◌⊎◌, inl, inr, neg_ℤ, ◌+ℤ◌, ◌-ℤ◌, refl, sym}
use Rattle.std.{proofs.lemmas.Int.ints, proofs.lemmas.Int.unsigned_abs-mul, specs.Prelude.unsigned_abs, specs.Prelude.◌↔◌}
use Rattle.integers.specs.Vectors.{minus, Vector, vector, up_vector, plus, times, HasDimension}
use Rattle.integers.proofs.counting.Numbering.{Numbering, along, one_size}
use Rattle.integers.proofs.vectors.Laws.{vector_equal, minus_dimension}
use Rattle.integers.{specs.Bases.Base, specs.Bases.base_sum, proofs.numbers.Ring.ring, proofs.numbers.Ring.linear, proofs.numbers.Order.positive_is_some}
use Rattle.vecdim.specs.Stairs.{InStairs, Stairs, HasFlatEnd, HasStairShape}
use Rattle.sublattice.proofs.RowSteps.{Rows, InRows, product_of, StairOf, stair_of, rows}
use Rattle.sublattice.proofs.Residues.{IsAny, DifferBy, stair_numbers, HasPivots}
use Rattle.sublattice.specs.{Sublattices.determinant, Sublattices.AreFlat, Sublattices.IsCombination, Sublattices.HasMembersOf}

-- a factor of what is not 0 is not 0: the first
first_not_zero : (a b : ℤ) → a *ℤ b ≢ pos 0 → a ≢ pos 0
first_not_zero a b n e = let u = ap (λ (z : ℤ). z *ℤ b) e in n (u ∙ omega (arith, ints))

-- the second
second_not_zero : (a b : ℤ) → a *ℤ b ≢ pos 0 → b ≢ pos 0
second_not_zero a b n e = let u = ap (λ (z : ℤ). a *ℤ z) e in n (u ∙ omega (arith, ints))

-- the pivots of the stair of such rows
pivots : (R : Rows) → product_of R ≢ pos 0 → (s : StairOf R) → HasPivots s.stair
pivots R n s =
    let m : s.stair.first_x *ℤ (s.stair.second_y *ℤ s.stair.third_z) ≢ pos 0 = λ e. n (s.product ∙ e) in
    let k = second_not_zero s.stair.first_x (s.stair.second_y *ℤ s.stair.third_z) m in
    record {
      first_x = first_not_zero s.stair.first_x (s.stair.second_y *ℤ s.stair.third_z) m;
      second_y = first_not_zero s.stair.second_y s.stair.third_z k;
      third_z = second_not_zero s.stair.second_y s.stair.third_z k;
    }

-- their product
pivot_product : (R : Rows) (s : StairOf R) → unsigned_abs s.stair.first_x * (unsigned_abs s.stair.second_y * unsigned_abs s.stair.third_z)
    ≡ unsigned_abs (product_of R)
pivot_product R s = search (arith, unsigned_abs-mul)

-- a numbering holds of a relation with the same members
pub renumbered : {X : Type 0} (P : X → Type 0) (R S : X → X → Type 0) (n m : ℕ) → Numbering P R n → n ≡ m → ((x y : X) → P x → P y → R x y ↔ S x y)
    → Numbering P S m
renumbered P R S n m a e h = subst (Numbering P S) e (record {
  code = a.code;
  below = a.below;
  same = λ x y p q c. (h x y p q).0 (a.same x y p q c);
  alike = λ x y p q r. a.alike x y p q ((h x y p q).1 r);
  of = a.of;
  is = a.is;
  again = a.again;
})

-- the vectors up to the lattice of the rows
pub row_numbers : (R : Rows) → product_of R ≢ pos 0 → Numbering IsAny (DifferBy (InRows R)) (unsigned_abs (product_of R))
row_numbers R n =
    let s = stair_of R in
    renumbered IsAny (DifferBy (InStairs s.stair)) (DifferBy (InRows R))
    (unsigned_abs s.stair.first_x * (unsigned_abs s.stair.second_y * unsigned_abs s.stair.third_z))
    (unsigned_abs (product_of R))
    (stair_numbers s.stair (pivots R n s)) (pivot_product R s) (λ x y p q. (s.back (minus x y), s.out (minus x y)))

-- the three rows in dimension 2
abbrev flat_rows : Base → Rows
flat_rows b = rows b.first b.second up_vector

-- a part of a sum of flat vectors
pub flat_part : (x y z a b : ℤ) → a ≡ pos 0 → b ≡ pos 0 → x *ℤ a +ℤ (y *ℤ b +ℤ z *ℤ pos 1) ≡ z
flat_part x y z a b e f = let u = ap (λ (t : ℤ). x *ℤ t) e in let v = ap (λ (t : ℤ). y *ℤ t) f in
    simp ring (omega (arith, linear, simp ring at u, simp ring at v))

-- 0 times a part, in place of 0 times another
last_part : (x y a b : ℤ) → x +ℤ (y +ℤ pos 0 *ℤ a) ≡ x +ℤ (y +ℤ pos 0 *ℤ b)
last_part x y a b = simp ring (omega (arith, linear))

-- a sum whose last number is 0 may have any last vector
pub any_last : (a b c c' k : Vector) → k.z ≡ pos 0 → plus (times k.x a) (plus (times k.y b) (times k.z c)) ≡ plus (times k.x a)
    (plus (times k.y b) (times k.z c'))
any_last a b c c' k e =
    ap (λ (t : ℤ). plus (times k.x a) (plus (times k.y b) (times t c))) e
    ∙ vector_equal (last_part (k.x *ℤ a.x) (k.y *ℤ b.x) c.x c'.x) (last_part (k.x *ℤ a.y) (k.y *ℤ b.y) c.y c'.y) (last_part (k.x *ℤ a.z) (k.y *ℤ b.z) c.z c'.z)
    ∙ sym (ap (λ (t : ℤ). plus (times k.x a) (plus (times k.y b) (times t c'))) e)

-- a flat sum of the three is one of the two
combination_of_rows : (b : Base) → AreFlat 2 b → (w : Vector) → w.z ≡ pos 0 → InRows (flat_rows b) w → IsCombination 2 b w
combination_of_rows b f w e i =
    let z : i.k.z ≡ pos 0 = sym (flat_part i.k.x i.k.y i.k.z b.first.z b.second.z (f refl).0 (f refl).1) ∙ sym (ap (λ (v : Vector). v.z) i.sum) ∙ e in
    record { k = i.k; dimension = λ _. z; sum = i.sum ∙ any_last b.first b.second up_vector b.third i.k z }

-- and the other way
rows_of_combination : (b : Base) (w : Vector) → IsCombination 2 b w → InRows (flat_rows b) w
rows_of_combination b w i = record { k = i.k; sum = i.sum ∙ any_last b.first b.second b.third up_vector i.k (i.dimension refl) }

-- a vector and its flat part differ by a sum of the rows
flattened : (b : Base) (y : Vector) → InRows (flat_rows b) (minus (vector y.x y.y (pos 0)) y)
flattened b y = record {
  k = vector (pos 0) (pos 0) (neg_ℤ y.z);
  sum = vector_equal (simp ring (omega (arith, linear))) (simp ring (omega (arith, linear)))
      (simp ring (omega (arith, linear)));
}

-- the vectors of dimension 2
flat_numbers : (b : Base) → AreFlat 2 b → determinant 2 b ≢ pos 0 → Numbering (HasDimension 2) (DifferBy (IsCombination 2 b)) (unsigned_abs (determinant 2 b))
flat_numbers b f n =
    along (HasDimension 2) (DifferBy (IsCombination 2 b)) IsAny (DifferBy (InRows (flat_rows b))) (unsigned_abs (determinant 2 b))
    (row_numbers (flat_rows b) n) (λ w. w)
    (record { into = λ _ _. tt; once = λ v w p q i. combination_of_rows b f (minus v w) (omega (arith, linear, p refl, q refl)) i })
    (λ v w _ _ i. rows_of_combination b (minus v w) i) (λ y. vector y.x y.y (pos 0)) (λ _ _ _. refl) (λ y _. flattened b y)

-- the vectors of dimension 3
full_numbers : (b : Base) → determinant 3 b ≢ pos 0 → Numbering (HasDimension 3) (DifferBy (IsCombination 3 b)) (unsigned_abs (determinant 3 b))
full_numbers b n =
    along (HasDimension 3) (DifferBy (IsCombination 3 b)) IsAny (DifferBy (InRows (rows b.first b.second b.third))) (unsigned_abs (determinant 3 b))
    (row_numbers (rows b.first b.second b.third) n) (λ w. w)
    (record { into = λ _ _. tt; once = λ v w p q i. record { k = i.k; dimension = λ e. absurd (omega arith); sum = i.sum } })
    (λ v w _ _ i. record { k = i.k; sum = i.sum }) (λ y. y) (λ _ _ e. absurd (omega arith)) (λ y _. record { k = vector (pos 0) (pos 0) (pos 0); sum = none y })
  where
    none_part : (x a c e : ℤ) → x -ℤ x ≡ pos 0 *ℤ a +ℤ (pos 0 *ℤ c +ℤ pos 0 *ℤ e)
    none_part x a c e = simp ring (omega (arith, linear))

    none : (y : Vector) → minus y y ≡ base_sum b (vector (pos 0) (pos 0) (pos 0))
    none y = search (arith, vector_equal, none_part)

-- what is numbered, by the dimension
abbrev Numbered : Base → ℕ → Type 0
Numbered b d = AreFlat d b → determinant d b ≢ pos 0 → Numbering (HasDimension d) (DifferBy (IsCombination d b)) (unsigned_abs (determinant d b))

-- the vectors up_vector to the combinations of the rows
pub class_numbers : (d : ℕ) (b : Base) → (d ≡ 2) ⊎ (d ≡ 3) → AreFlat d b → determinant d b ≢ pos 0
    → Numbering (HasDimension d) (DifferBy (IsCombination d b)) (unsigned_abs (determinant d b))
class_numbers d b (inl e) = subst (Numbered b) (sym e) (flat_numbers b)
class_numbers d b (inr e) = subst (Numbered b) (sym e) (λ _. full_numbers b)

-- the pivots of a staircase
pub shape_pivots : (d : ℕ) (S : Stairs) → HasStairShape d S → HasPivots S
shape_pivots d S h = record {
  first_x = positive_is_some S.first_x h.reduced.first_x;
  second_y = positive_is_some S.second_y h.reduced.second_y;
  third_z = positive_is_some S.third_z h.reduced.third_z;
}

-- the last part of a vector, and 0 times numbers
level_third : (z c f i : ℤ) → i ≡ pos 1 → pos 0 -ℤ z ≡ pos 0 *ℤ c +ℤ pos 0 *ℤ f +ℤ (pos 0 -ℤ z) *ℤ i
level_third z c f i e = let u = ap (λ (t : ℤ). z *ℤ t) e in simp ring (omega (arith, linear, simp ring at u))

-- a vector and its flat part differ by a member
level : (S : Stairs) → HasFlatEnd S → (y : Vector) → InStairs S (minus (vector y.x y.y (pos 0)) y)
level S h y = record {
  k = pos 0;
  l = pos 0;
  n = pos 0 -ℤ y.z;
  x = simp ring (omega (arith, linear));
  y = simp ring (omega (arith, linear));
  z = level_third y.z S.first_z S.second_z S.third_z h.third_z;
}

-- the numbers of the pivots, for the vectors of dimension 2
flat_stair : (S : Stairs) → HasStairShape 2 S → Numbering (HasDimension 2) (DifferBy (InStairs S))
    (unsigned_abs S.first_x * (unsigned_abs S.second_y * unsigned_abs S.third_z))
flat_stair S h =
    along (HasDimension 2) (DifferBy (InStairs S)) IsAny (DifferBy (InStairs S)) (unsigned_abs S.first_x * (unsigned_abs S.second_y * unsigned_abs S.third_z))
    (stair_numbers S (shape_pivots 2 S h)) (λ w. w)
    (record { into = λ _ _. tt; once = λ v w p q i. i }) (λ v w _ _ i. i) (λ y. vector y.x y.y (pos 0)) (λ _ _ _. refl) (λ y _. level S (h.flat refl) y)

-- and of dimension 3
full_stair : (S : Stairs) → HasStairShape 3 S → Numbering (HasDimension 3) (DifferBy (InStairs S))
    (unsigned_abs S.first_x * (unsigned_abs S.second_y * unsigned_abs S.third_z))
full_stair S h =
    let a = stair_numbers S (shape_pivots 3 S h) in
    along (HasDimension 3) (DifferBy (InStairs S)) IsAny (DifferBy (InStairs S))
    (unsigned_abs S.first_x * (unsigned_abs S.second_y * unsigned_abs S.third_z)) a (λ w. w)
    (record { into = λ _ _. tt; once = λ v w p q i. i }) (λ v w _ _ i. i) (λ y. y) (λ _ _ e. absurd (omega arith)) (λ y _. a.same y y tt tt refl)

-- the product of the pivots
pub pivots_multiply : (d : ℕ) (S : Stairs) (b : Base) → (d ≡ 2) ⊎ (d ≡ 3) → HasStairShape d S → AreFlat d b → determinant d b ≢ pos 0 → HasMembersOf d S b
    → unsigned_abs S.first_x * (unsigned_abs S.second_y * unsigned_abs S.third_z) ≡ unsigned_abs (determinant d b)
pivots_multiply d S b c h f n same =
    let size = unsigned_abs S.first_x * (unsigned_abs S.second_y * unsigned_abs S.third_z) in
    one_size (HasDimension d) (DifferBy (IsCombination d b)) size (unsigned_abs (determinant d b))
    (renumbered (HasDimension d) (DifferBy (InStairs S)) (DifferBy (IsCombination d b)) size size (shaped c h) refl
    (λ x y p q. same (minus x y) (minus_dimension d x y p q))) (class_numbers d b c f n)
  where
    shaped : (d ≡ 2) ⊎ (d ≡ 3) → HasStairShape d S → Numbering (HasDimension d) (DifferBy (InStairs S))
        (unsigned_abs S.first_x * (unsigned_abs S.second_y * unsigned_abs S.third_z))
    shaped h k = search (arith, flat_stair, full_stair)
