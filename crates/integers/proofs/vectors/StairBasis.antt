-- Each member of a group of vectors has coordinates in its staircase basis. They are one, and so is the basis.
use Rattle.std.proofs.Common.{◌≡◌, ℕ, zero, suc, ℤ, pos, negsuc, ◌+ℤ◌, ◌*ℤ◌, List, [], ◌∷◌, sym, ap, subst, ◌∙◌, arith, inl, inr, ◌≤◌, ◌<◌, ◌-ℤ◌, refl}
use Rattle.std.specs.Prelude.{◌<ℤ◌, slice_index_or, ◌↔◌, drop}
use Rattle.std.proofs.{Common.◌⊎◌, Common.length, Common.◌≤ℤ◌, lemmas.Int.ints, Math.Decide.dec_lt, lemmas.List.ext_get_or}
use Rattle.integers.specs.Vectors.{Vector, plus, opposite, times, combination, vector, zero_vector, minus, HasDimension, parts}
use Rattle.integers.proofs.vectors.Laws.{vector_equal, zero_times, plus_zero, equal_of_minus, minus_dimension, minus_itself, times_zero}
use Rattle.integers.proofs.numbers.Ring.{ring, linear, negative_product, other_factor_zero}
use Rattle.integers.specs.{Lattices.IsVectorGroup, Staircase.part, Staircase.IsZeroBefore, Staircase.IsStair, Staircase.IsStaircase, Staircase.MayLead}
use Rattle.integers.proofs.{lists.Members.IsIn, numbers.Division.divided, numbers.Order.positive_natural, lists.ListOrder.at_most_both}
use Prim.{Dec, yes, no}

-- the next multiple
next_times : (n : ℕ) (v : Vector) → times (pos (suc n)) v ≡ plus v (times (pos n) v)
next_times n v = vector_equal (next v.x) (next v.y) (next v.z)
  where
    one_more : pos (suc n) ≡ pos 1 +ℤ pos n
    one_more = omega (arith, ints)

    next : (x : ℤ) → pos (suc n) *ℤ x ≡ x +ℤ pos n *ℤ x
    next x = ap (λ (k : ℤ). k *ℤ x) one_more ∙ simp ring (omega (arith, linear))

-- a multiple by a negative number
negative_times : (n : ℕ) (v : Vector) → times (negsuc n) v ≡ opposite (times (pos (suc n)) v)
negative_times n v = vector_equal (negative_product (pos (suc n)) v.x) (negative_product (pos (suc n)) v.y) (negative_product (pos (suc n)) v.z)

-- a group has the natural multiples of its members
natural_in : (K : Vector → Type 0) → IsVectorGroup K → (n : ℕ) (v : Vector) → K v → K (times (pos n) v)
natural_in K h zero v i = subst K (sym (zero_times v)) h.zero
natural_in K h (suc n) v i = subst K (sym (next_times n v)) (h.sums v (times (pos n) v) i (natural_in K h n v i))

-- and all multiples
pub times_in : (K : Vector → Type 0) → IsVectorGroup K → (k : ℤ) (v : Vector) → K v → K (times k v)
times_in K h (pos n) v i = natural_in K h n v i
times_in K h (negsuc n) v i = subst K (sym (negative_times n v)) (h.opposites (times (pos (suc n)) v) (natural_in K h (suc n) v i))

-- and all combinations
pub combination_in : (K : Vector → Type 0) → IsVectorGroup K → (ks : List ℤ) (vs : List Vector) → ((v : Vector) → IsIn vs v → K v) → K (combination ks vs)
combination_in K h [] vs i = h.zero
combination_in K h (k ∷ ks) [] i = h.zero
combination_in K h (k ∷ ks) (v ∷ vs) i = h.sums (times k v) (combination ks vs) (times_in K h k v (i v (inl (λ j. v))))
    (combination_in K h ks vs (λ w m. i w (inr m)))

-- the row at i
abbrev pub row : List Vector → ℕ → Vector
row rows i = slice_index_or rows i zero_vector

-- k.x, k.y and k.z times the first three rows
abbrev pub row_sum : List Vector → Vector → Vector
row_sum rows k = plus (times k.x (row rows 0)) (plus (times k.y (row rows 1)) (times k.z (row rows 2)))

-- past the third a vector has no part
none : (q : ℤ) → pos 0 ≡ pos 0 -ℤ q *ℤ pos 0
none q = omega (arith, ints)

-- a part of v - q·r
part_less : (i : ℕ) (q : ℤ) (v r : Vector) → part i (minus v (times q r)) ≡ part i v -ℤ q *ℤ part i r
part_less i q v r = search arith

-- a lattice has differences with multiples
less_in : (L : Vector → Type 0) → IsVectorGroup L → (q : ℤ) (v r : Vector) → L v → L r → L (minus v (times q r))
less_in L l q v r i j = subst L (same v (times q r)) (l.sums v (opposite (times q r)) i (l.opposites (times q r) (times_in L l q r j)))
  where
    same : (v w : Vector) → plus v (opposite w) ≡ minus v w
    same v w = vector_equal (omega (arith, linear)) (omega (arith, linear)) (omega (arith, linear))

-- v less a multiple of the row, which is 0 one place further
record Cleared (L : Vector → Type 0) (i : ℕ) (r v : Vector) : Type 0 where
  quotient : ℤ
  member : L (minus v (times quotient r))
  before : IsZeroBefore (suc i) (minus v (times quotient r))

-- a part before i stays 0
stays : (q a b : ℤ) → a ≡ pos 0 → b ≡ pos 0 → a -ℤ q *ℤ b ≡ pos 0
stays q a b e f = (λ i. e i -ℤ q *ℤ f i) ∙ sym (none q)

-- the row at i divides the part at i of what is 0 before i
clear : (L : Vector → Type 0) → IsVectorGroup L → (i : ℕ) (r v : Vector) → IsStair L i r → L v → IsZeroBefore i v → Cleared L i r v
clear L l i r v s m b =
    let n = positive_natural (part i r) s.may.leads in let d = divided n.0 n.1 (part i v) in let q = d.1 in
    let w = minus v (times q r) in let iw = less_in L l q v r m s.may.member in
    let zeros : IsZeroBefore i w = λ k h. part_less k q v r ∙ stays q (part k v) (part k r) (b k h) (s.may.before k h) in
    let at : part i w ≡ pos d.0 = part_less i q v r ∙ ap (λ (t : ℤ). part i v -ℤ q *ℤ t) n.2 ∙ simp ring (omega (arith, linear, d.3)) in
    record { quotient = q; member = iw; before = last w iw zeros d.0 at n.0 n.2 d.2 }
  where
    last : (w : Vector) → L w → IsZeroBefore i w → (t : ℕ) → part i w ≡ pos t → (n : ℕ) → part i r ≡ pos n → t < n → IsZeroBefore (suc i) w
    last w iw z zero e n f h k j = by (dec_lt k i)
      where
        by : Dec (k < i) → part k w ≡ pos 0
        by (yes a) = z k a
        by (no a) = let g : k ≡ i = omega arith in ap (λ (t : ℕ). part t w) g ∙ e
    last w iw z (suc t) e n f h k j =
        let most = s.least w (record { member = iw; before = z; leads = subst (λ (x : ℤ). pos 0 <ℤ x) (sym e) (omega (arith, ints)) }) in
        absurd (omega (arith, ints, e, f, most))

-- what is 0 before the third place, and 0 there, is 0
all_zero : (v : Vector) → IsZeroBefore 2 v → v.z ≡ pos 0 → v ≡ zero_vector
all_zero v h e = vector_equal (h 0 (omega arith)) (h 1 (omega arith)) e

-- v is the sum of what was taken off
sum_back : (v a b : Vector) → minus (minus v a) b ≡ zero_vector → v ≡ plus a b
sum_back v a b e = vector_equal (omega (arith, linear, ap (λ (t : Vector). t.x) e)) (omega (arith, linear, ap (λ (t : Vector). t.y) e))
    (omega (arith, linear, ap (λ (t : Vector). t.z) e))

-- the same, of three
sum_back_three : (v a b c : Vector) → minus (minus (minus v a) b) c ≡ zero_vector → v ≡ plus a (plus b c)
sum_back_three v a b c e = vector_equal (back v.x a.x b.x c.x (ap (λ (t : Vector). t.x) e)) (back v.y a.y b.y c.y (ap (λ (t : Vector). t.y) e))
    (back v.z a.z b.z c.z (ap (λ (t : Vector). t.z) e))
  where
    back : (v a b c : ℤ) → ((v -ℤ a) -ℤ b) -ℤ c ≡ pos 0 → v ≡ a +ℤ (b +ℤ c)
    back v a b c e = omega (arith, linear, e)

module _ (L : Vector → Type 0) (l : IsVectorGroup L) (d : ℕ) (rows : List Vector) (s : IsStaircase L d rows)
    (flat : (v : Vector) → L v → HasDimension d v) where
  -- what the first two rows leave of a member
  cleared_twice : 2 ≤ d → (v : Vector) → L v
      → (p : ℤ) × (q : ℤ) × L (minus (minus v (times p (row rows 0))) (times q (row rows 1)))
      × IsZeroBefore 2 (minus (minus v (times p (row rows 0))) (times q (row rows 1)))
  cleared_twice h v m =
      let one = clear L l 0 (row rows 0) v (s.each 0 (omega (arith, h))) m (λ k h. absurd (omega arith)) in
      let two = clear L l 1 (row rows 1) (minus v (times one.quotient (row rows 0))) (s.each 1 (omega (arith, h))) one.member one.before in
      (one.quotient, two.quotient, two.member, two.before)

  -- the coordinates of a member, in two dimensions
  pub flat_coordinates : d ≡ 2 → (v : Vector) → L v → (k : Vector) × HasDimension d k × (row_sum rows k ≡ v)
  flat_coordinates e v m =
      let t = cleared_twice (omega arith) v m in let a = times t.0 (row rows 0) in
      let b = times t.1 (row rows 1) in
      let zero = all_zero (minus (minus v a) b) t.3 (flat (minus (minus v a) b) t.2 e) in
      (vector t.0 t.1 (pos 0), (λ h. refl), ap (λ (u : Vector). plus a u) (ap (plus b) (zero_times (row rows 2)) ∙ plus_zero b) ∙ sym (sum_back v a b zero))

  -- and in three
  pub space_coordinates : d ≡ 3 → (v : Vector) → L v → (k : Vector) × HasDimension d k × (row_sum rows k ≡ v)
  space_coordinates e v m =
      let t = cleared_twice (omega arith) v m in let a = times t.0 (row rows 0) in
      let b = times t.1 (row rows 1) in
      let three = clear L l 2 (row rows 2) (minus (minus v a) b) (s.each 2 (omega arith)) t.2 t.3 in
      let zero = all_zero (minus (minus (minus v a) b) (times three.quotient (row rows 2))) (λ k h. three.before k (omega arith))
      (three.before 2 (omega arith)) in
      (vector t.0 t.1 three.quotient, (λ h. absurd (omega arith)), sym (sum_back_three v a b (times three.quotient (row rows 2)) zero))

-- each member of L is the sum of k.x, k.y and k.z times the rows for one k of dimension d, and each such sum is a member
pub record IsRowBasis (L : Vector → Type 0) (d : ℕ) (rows : List Vector) : Type 0 where
  pub inside : (k : Vector) → HasDimension d k → L (row_sum rows k)
  pub coordinates : (v : Vector) → L v → (k : Vector) × HasDimension d k × (row_sum rows k ≡ v)
  pub once : (k l : Vector) → HasDimension d k → HasDimension d l → row_sum rows k ≡ row_sum rows l → k ≡ l

-- sums of rows take differences to differences
pub row_sum_minus : (rows : List Vector) (v w : Vector) → row_sum rows (minus v w) ≡ minus (row_sum rows v) (row_sum rows w)
row_sum_minus rows v w = by (row rows 0) (row rows 1) (row rows 2)
  where
    by : (a b c : Vector) → plus (times (v.x -ℤ w.x) a) (plus (times (v.y -ℤ w.y) b) (times (v.z -ℤ w.z) c))
        ≡ minus (plus (times v.x a) (plus (times v.y b) (times v.z c))) (plus (times w.x a) (plus (times w.y b) (times w.z c)))
    by a b c = vector_equal (simp ring (omega (arith, linear))) (simp ring (omega (arith, linear))) (simp ring (omega (arith, linear)))

-- a factor of 0, beside positive numbers
factor : (m a : ℤ) → pos 0 <ℤ a → m *ℤ a ≡ pos 0 → m ≡ pos 0
factor m a h e = search (arith, other_factor_zero)

-- the first of three terms, if the others are 0
first_zero : (k l n a b c : ℤ) → pos 0 <ℤ a → b ≡ pos 0 → (n ≡ pos 0) ⊎ (c ≡ pos 0) → k *ℤ a +ℤ (l *ℤ b +ℤ n *ℤ c) ≡ pos 0 → k ≡ pos 0
first_zero k l n a b c h e f s =
    let u = ap (λ (t : ℤ). l *ℤ t) e in factor k a h (omega (arith, ints, s, u, last f))
  where
    last : (n ≡ pos 0) ⊎ (c ≡ pos 0) → n *ℤ c ≡ pos 0
    last (inl z) = ap (λ (t : ℤ). t *ℤ c) z ∙ omega (arith, ints)
    last (inr z) = ap (λ (t : ℤ). n *ℤ t) z ∙ omega (arith, ints)

-- the second term, after a first that is 0
second_zero : (k l n a b c : ℤ) → k ≡ pos 0 → pos 0 <ℤ b → (n ≡ pos 0) ⊎ (c ≡ pos 0) → k *ℤ a +ℤ (l *ℤ b +ℤ n *ℤ c) ≡ pos 0 → l ≡ pos 0
second_zero k l n a b c e h f s =
    let u = ap (λ (t : ℤ). t *ℤ a) e in first_zero l k n b (pos 0) c h refl f (omega (arith, ints, s, u))

-- the third
third_zero : (k l n a b c : ℤ) → k ≡ pos 0 → l ≡ pos 0 → pos 0 <ℤ c → k *ℤ a +ℤ (l *ℤ b +ℤ n *ℤ c) ≡ pos 0 → n ≡ pos 0
third_zero k l n a b c e f h s =
    let u = ap (λ (t : ℤ). t *ℤ a) e in let v = ap (λ (t : ℤ). t *ℤ b) f in
    factor n c h (omega (arith, ints, s, u, v))

-- a sum of rows that is 0 has the coordinates 0
only_zero : (L : Vector → Type 0) (d : ℕ) (rows : List Vector) → (d ≡ 2) ⊎ (d ≡ 3) → IsStaircase L d rows → (m : Vector) → HasDimension d m
    → row_sum rows m ≡ zero_vector → m ≡ zero_vector
only_zero L d rows (inl e) s m h z =
    let r0 = s.each 0 (omega arith) in let r1 = s.each 1 (omega arith) in let n = h e in
    let x = first_zero m.x m.y m.z (row rows 0).x (row rows 1).x (row rows 2).x r0.may.leads (r1.may.before 0 (omega arith)) (inl n)
    (ap (λ (t : Vector). t.x) z) in
    let y = second_zero m.x m.y m.z (row rows 0).y (row rows 1).y (row rows 2).y x r1.may.leads (inl n) (ap (λ (t : Vector). t.y) z) in
    vector_equal x y n
only_zero L d rows (inr e) s m h z =
    let r0 = s.each 0 (omega arith) in let r1 = s.each 1 (omega arith) in let r2 = s.each 2 (omega arith) in
    let x = first_zero m.x m.y m.z (row rows 0).x (row rows 1).x (row rows 2).x r0.may.leads (r1.may.before 0 (omega arith))
    (inr (r2.may.before 0 (omega arith))) (ap (λ (t : Vector). t.x) z) in
    let y = second_zero m.x m.y m.z (row rows 0).y (row rows 1).y (row rows 2).y x r1.may.leads (inr (r2.may.before 1 (omega arith)))
    (ap (λ (t : Vector). t.y) z) in
    vector_equal x y (third_zero m.x m.y m.z (row rows 0).z (row rows 1).z (row rows 2).z x y r2.may.leads (ap (λ (t : Vector). t.z) z))

module _ (L : Vector → Type 0) (l : IsVectorGroup L) (d : ℕ) (rows : List Vector) (s : IsStaircase L d rows) where
  -- the sums of rows are members
  sums_in : (d ≡ 2) ⊎ (d ≡ 3) → (k : Vector) → HasDimension d k → L (row_sum rows k)
  sums_in c k h = l.sums (times k.x (row rows 0)) (plus (times k.y (row rows 1)) (times k.z (row rows 2)))
      (times_in L l k.x (row rows 0) (s.each 0 (omega (arith, c))).may.member)
      (l.sums (times k.y (row rows 1)) (times k.z (row rows 2)) (times_in L l k.y (row rows 1) (s.each 1 (omega (arith, c))).may.member) (third c))
    where
      third : (d ≡ 2) ⊎ (d ≡ 3) → L (times k.z (row rows 2))
      third (inl e) = subst L (sym (zero_times (row rows 2)) ∙ sym (ap (λ (t : ℤ). times t (row rows 2)) (h e))) l.zero
      third (inr e) = times_in L l k.z (row rows 2) (s.each 2 (omega arith)).may.member

  -- a staircase basis is a basis
  pub stair_basis : (d ≡ 2) ⊎ (d ≡ 3) → ((v : Vector) → L v → HasDimension d v) → IsRowBasis L d rows
  stair_basis c flat = record {
    inside = sums_in c;
    coordinates = λ v m. elim c [ inl e ↦ flat_coordinates L l d rows s flat e v m | inr e ↦ space_coordinates L l d rows s flat e v m ];
    once = λ k n hk hn e.
        equal_of_minus k n (only_zero L d rows c s (minus k n) (minus_dimension d k n hk hn)
        (row_sum_minus rows k n ∙ ap (λ (t : Vector). minus t (row_sum rows n)) e ∙ minus_itself (row_sum rows n)));
  }

-- a combination of the rows, as a sum of the shifts of a map
pub combination_is : (d : ℕ) → (d ≡ 2) ⊎ (d ≡ 3) → (rows : List Vector) → length rows ≡ d → (k : Vector) → HasDimension d k
    → combination (parts 3 k) rows ≡ row_sum rows k
combination_is d (inl e) (a ∷ b ∷ []) l k h = ap (λ (t : Vector). plus (times k.x a) (plus (times k.y b) t)) (sym (times_zero k.z))
combination_is d (inr e) (a ∷ b ∷ c ∷ []) l k h = ap (λ (t : Vector). plus (times k.x a) (plus (times k.y b) t)) (plus_zero (times k.z c))
combination_is d (inl e) [] l k h = absurd (omega arith)
combination_is d (inl e) (a ∷ []) l k h = absurd (omega arith)
combination_is d (inl e) (a ∷ b ∷ c ∷ rest) l k h = absurd (omega arith)
combination_is d (inr e) [] l k h = absurd (omega arith)
combination_is d (inr e) (a ∷ []) l k h = absurd (omega arith)
combination_is d (inr e) (a ∷ b ∷ []) l k h = absurd (omega arith)
combination_is d (inr e) (a ∷ b ∷ c ∷ f ∷ rest) l k h = absurd (omega arith)

-- less or equal both ways
equal_of_both : (x y : ℤ) → x ≤ℤ y → y ≤ℤ x → x ≡ y
equal_of_both x y h k = omega (arith, ints, h, k)

-- a row that may lead in one set may lead in the other
other_may : {L M : Vector → Type 0} → ((w : Vector) → L w → M w) → (i : ℕ) (v : Vector) → MayLead L i v → MayLead M i v
other_may h i v m = record { member = h v m.member; before = m.before; leads = m.leads }

-- vectors that are equal from place i on, with 0 before it, are equal
equal_from : (i : ℕ) (v w : Vector) → pos 0 <ℤ part i v → IsZeroBefore i v → IsZeroBefore i w → drop i (parts 3 v) ≡ drop i (parts 3 w) → v ≡ w
equal_from i v w h k l q = grind arith

-- the row at i of two such sets
pub one_stair : (L M : Vector → Type 0) → ((w : Vector) → L w → M w) → ((w : Vector) → M w → L w) → (i : ℕ) (v w : Vector)
    → IsStair L i v → IsStair M i w → v ≡ w
one_stair L M lm ml i v w s t =
    let a = other_may lm i v s.may in let b = other_may ml i w t.may in
    let e = equal_of_both (part i v) (part i w) (s.least w b) (t.least v a) in
    let below = s.least_rest w b (sym e) t.rest in let above = t.least_rest v a e s.rest in
    equal_from i v w s.may.leads s.may.before t.may.before (at_most_both (drop i (parts 3 v)) (drop i (parts 3 w)) below above)

-- so the rows are equal
pub one_staircase : (L M : Vector → Type 0) (d : ℕ) (rows others : List Vector) → IsStaircase L d rows → IsStaircase M d others
    → ((w : Vector) → L w ↔ M w) → rows ≡ others
one_staircase L M d rows others s t h =
    ext_get_or zero_vector rows others (s.count ∙ sym t.count)
    (λ i l.
    one_stair L M (λ w. (h w).0) (λ w. (h w).1) i (slice_index_or rows i zero_vector) (slice_index_or others i zero_vector)
    (s.each i (omega (arith, l, s.count))) (t.each i (omega (arith, l, s.count))))

-- a staircase of a set is that of each set with the same members
pub same_staircase : (L M : Vector → Type 0) → ((v : Vector) → L v ↔ M v) → (d : ℕ) (rows : List Vector) → IsStaircase L d rows → IsStaircase M d rows
same_staircase L M f d rows s = record {
  count = s.count;
  each = λ i l. let r = s.each i l in record {
    may = other_may (λ v. (f v).0) i _ r.may;
    least = λ w m. r.least w (other_may (λ v. (f v).1) i w m);
    rest = r.rest;
    least_rest = λ w m. r.least_rest w (other_may (λ v. (f v).1) i w m);
  };
}
