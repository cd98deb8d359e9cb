-- The order of vectors by their parts, vectors that start positive, and coprime vectors on one line.
use Rattle.std.proofs.Common.{◌≡◌, ◌≢◌, ℤ, pos, neg_ℤ, ◌⊎◌, sym, ap, arith, inl, inr, ◌+ℤ◌, ◌-ℤ◌, List, [], ◌∷◌, ◌∙◌, ℕ, zero, suc, ◌*◌, ◌≤◌, negsuc, ◌*ℤ◌}
use Rattle.std.proofs.{Common.refl, Common.subst, lemmas.Int.ints}
use Rattle.std.specs.{Prelude.◌<ℤ◌, Ordering.int_cmp, Ordering.ordering_then, Ordering.ordering_reverse, Cmp.int_cmp_is, declared.cmp.Ordering.Ordering}
use Rattle.std.specs.{declared.cmp.Ordering.TheVariants.Less, declared.cmp.Ordering.TheVariants.Equal, Cmp.Lexicographic.slice_cmp}
use Rattle.integers.specs.Vectors.{Vector, zero_vector, opposite, StartsPositive, parts, plus, minus, IsBelow, times}
use Rattle.integers.proofs.numbers.Divisors.{bezout, coprime_combination, coprime_multiple, cancel_common}
use Rattle.integers.proofs.{vectors.Laws.vector_equal, numbers.Ring.linear, numbers.Ring.ring, numbers.Ring.positive_not_zero}

-- a positive number comes after 0
before : (x : ℤ) → pos 0 <ℤ x → int_cmp (pos 0) x ≡ Less
before x h = sym (int_cmp_is (pos 0) x Less h)

-- 0 is level with 0
level : (x : ℤ) → x ≡ pos 0 → int_cmp (pos 0) x ≡ Equal
level x e = sym (int_cmp_is (pos 0) x Equal (sym e))

-- by the first part
pub starts_x : (v : Vector) → pos 0 <ℤ v.x → StartsPositive v
starts_x v h = ap (λ (o : Ordering). ordering_then o (ordering_then (int_cmp (pos 0) v.y) (ordering_then (int_cmp (pos 0) v.z) Equal))) (before v.x h)

-- by the second
pub starts_y : (v : Vector) → v.x ≡ pos 0 → pos 0 <ℤ v.y → StartsPositive v
starts_y v e h = grind arith

-- by the third
pub starts_z : (v : Vector) → v.x ≡ pos 0 → v.y ≡ pos 0 → pos 0 <ℤ v.z → StartsPositive v
starts_z v e f h = grind arith

-- which part it is
pub record Start (v : Vector) : Type 0 where
  pub which : (pos 0 <ℤ v.x) ⊎ ((v.x ≡ pos 0) × (pos 0 <ℤ v.y)) ⊎ ((v.x ≡ pos 0) × (v.y ≡ pos 0) × (pos 0 <ℤ v.z))

-- what starts positive has such a part
pub start_of : (v : Vector) → StartsPositive v → Start v
start_of v h = grind arith

-- a part of the opposite of a vector that does not start positive is positive, if it is the first other than 0
opposite_part : (x : ℤ) → x <ℤ pos 0 → pos 0 <ℤ neg_ℤ x
opposite_part x h = omega (arith, ints, h)

-- the opposite of 0
opposite_none : (x : ℤ) → x ≡ pos 0 → neg_ℤ x ≡ pos 0
opposite_none x e = omega (arith, ints, e)

-- a number is positive, 0 or negative
sign_of : (x : ℤ) → (pos 0 <ℤ x) ⊎ ((x ≡ pos 0) ⊎ (x <ℤ pos 0))
sign_of x = grind arith

-- of a vector other than 0 and its opposite one starts positive
pub one_starts_positive : (v : Vector) → v ≢ zero_vector → StartsPositive v ⊎ StartsPositive (opposite v)
one_starts_positive v n = search (arith, starts_x, opposite_part, starts_y, opposite_none, starts_z, vector_equal)

-- what does not start positive has an opposite that does
pub opposite_starts : (v : Vector) → v ≢ zero_vector → ¬ StartsPositive v → StartsPositive (opposite v)
opposite_starts v n h = search (arith, one_starts_positive)

-- the negative of a number is on the other side of 0
neg_cmp : (x : ℤ) → int_cmp (pos 0) (neg_ℤ x) ≡ ordering_reverse (int_cmp (pos 0) x)
neg_cmp x = grind arith

-- and so the opposite of a vector
pub opposite_cmp : (s : Vector) → slice_cmp int_cmp (parts 3 zero_vector) (parts 3 (opposite s)) ≡ ordering_reverse
    (slice_cmp int_cmp (parts 3 zero_vector) (parts 3 s))
opposite_cmp s = search (arith, neg_cmp)

-- a list with a lesser first number is below
pub below_head : (x y : ℤ) (xs ys : List ℤ) → x <ℤ y → IsBelow (x ∷ xs) (y ∷ ys)
below_head x y xs ys h = ap (λ (o : Ordering). ordering_then o (slice_cmp int_cmp xs ys)) (sym (int_cmp_is x y Less h))

-- with equal first numbers the others decide
pub below_rest : (x y : ℤ) (xs ys : List ℤ) → x ≡ y → IsBelow xs ys → IsBelow (x ∷ xs) (y ∷ ys)
below_rest x y xs ys e h = ap (λ (o : Ordering). ordering_then o (slice_cmp int_cmp xs ys)) (sym (int_cmp_is x y Equal e)) ∙ h

-- these are the two ways
pub below_ways : (x y : ℤ) (xs ys : List ℤ) → IsBelow (x ∷ xs) (y ∷ ys) → (x <ℤ y) ⊎ ((x ≡ y) × IsBelow xs ys)
below_ways x y xs ys h = grind arith

-- no list is below the empty list
none_below : IsBelow [] [] → ⊥
none_below h = grind arith

-- v is below w: by the first part, the second or the third
abbrev pub Precedes : Vector → Vector → Type 0
Precedes v w = (v.x <ℤ w.x) ⊎ ((v.x ≡ w.x) × ((v.y <ℤ w.y) ⊎ ((v.y ≡ w.y) × (v.z <ℤ w.z))))

-- as lists of parts
pub precedes : (v w : Vector) → IsBelow (parts 3 v) (parts 3 w) → Precedes v w
precedes v w h = search (arith, below_ways, none_below)

-- and the other way
pub parts_below : (v w : Vector) → Precedes v w → IsBelow (parts 3 v) (parts 3 w)
parts_below v w h = grind arith

-- moved alike, vectors keep their order
pub moved_below : (v w s t : Vector) → IsBelow (parts 3 v) (parts 3 w) → IsBelow (parts 3 (minus (plus v s) t)) (parts 3 (minus (plus w s) t))
moved_below v w s t h = parts_below (minus (plus v s) t) (minus (plus w s) t) (by (precedes v w h))
  where
    less : (a b s t : ℤ) → a <ℤ b → ((a +ℤ s) -ℤ t) <ℤ ((b +ℤ s) -ℤ t)
    less a b s t h = omega (arith, linear, h)

    by : Precedes v w → Precedes (minus (plus v s) t) (minus (plus w s) t)
    by (inl x) = inl (less v.x w.x s.x t.x x)
    by (inr (x, inl y)) = inr (ap (λ (a : ℤ). (a +ℤ s.x) -ℤ t.x) x, inl (less v.y w.y s.y t.y y))
    by (inr (x, inr (y, z))) = inr (ap (λ (a : ℤ). (a +ℤ s.x) -ℤ t.x) x, inr (ap (λ (a : ℤ). (a +ℤ s.y) -ℤ t.y) y, less v.z w.z s.z t.z z))

-- c is a multiple of no vector but itself and its opposite
abbrev pub IsCoprime : Vector → Type 0
IsCoprime c = (e : Vector) (k : ℤ) → c ≡ record { x = k *ℤ e.x; y = k *ℤ e.y; z = k *ℤ e.z } → (k ≡ pos 1) ⊎ (k ≡ neg_ℤ (pos 1))

-- a and b in lowest terms: they are g·k and g·l, and s·k + t·l = 1
record LowestTerms (a b : ℤ) : Type 0 where
  g : ℤ
  k : ℤ
  l : ℤ
  s : ℤ
  t : ℤ
  some : g ≢ pos 0
  a_is : a ≡ g *ℤ k
  b_is : b ≡ g *ℤ l
  one : s *ℤ k +ℤ t *ℤ l ≡ pos 1

turned : (a b : ℤ) → LowestTerms a b → LowestTerms b a
turned a b r = search arith

negated : (a b : ℤ) → LowestTerms a b → LowestTerms (neg_ℤ a) b
negated a b r = record {
  g = r.g;
  k = neg_ℤ r.k;
  l = r.l;
  s = neg_ℤ r.s;
  t = r.t;
  some = r.some;
  a_is = ap neg_ℤ r.a_is ∙ simp ring (omega (arith, linear));
  b_is = r.b_is;
  one = same r.s r.k r.t r.l ∙ r.one;
}
  where
    same : (s k t l : ℤ) → neg_ℤ s *ℤ neg_ℤ k +ℤ t *ℤ l ≡ s *ℤ k +ℤ t *ℤ l
    same s k t l = simp ring (omega (arith, linear, twice (s *ℤ k)))
      where
        twice : (z : ℤ) → neg_ℤ (neg_ℤ z) ≡ z
        twice z = omega (arith, linear)

of_naturals : (m n : ℕ) → 1 ≤ m → LowestTerms (pos m) (pos n)
of_naturals m n h =
    let z = bezout m n in let some : pos z.g ≢ pos 0 = positive_not_zero z.g (above z.g z.k z.a_is) in
    record {
      g = pos z.g;
      k = pos z.k;
      l = pos z.l;
      s = z.s;
      t = z.t;
      some = some;
      a_is = ap pos z.a_is;
      b_is = ap pos z.b_is;
      one = coprime_combination (pos z.g) (pos z.k) (pos z.l) z.s z.t some (z.g_is ∙ (λ i. z.s *ℤ pos (z.a_is i) +ℤ z.t *ℤ pos (z.b_is i)));
    }
  where
    above : (g k : ℕ) → m ≡ g * k → 1 ≤ g
    above zero k e = absurd (omega (arith, e, h))
    above (suc g) k e = omega arith

lowest_terms : (a b : ℤ) → a ≢ pos 0 → LowestTerms a b
lowest_terms (pos zero) b n = absurd (n refl)
lowest_terms (pos (suc m)) (pos n) some = of_naturals (suc m) n (omega arith)
lowest_terms (pos (suc m)) (negsuc n) some = turned (negsuc n) (pos (suc m)) (negated (pos (suc n)) (pos (suc m)) (of_naturals (suc n) (suc m) (omega arith)))
lowest_terms (negsuc m) (pos n) some = negated (pos (suc m)) (pos n) (of_naturals (suc m) n (omega arith))
lowest_terms (negsuc m) (negsuc n) some =
    negated (pos (suc m)) (negsuc n) (turned (negsuc n) (pos (suc m)) (negated (pos (suc n)) (pos (suc m)) (of_naturals (suc n) (suc m) (omega arith))))

-- no vector and its opposite both start positive
pub not_both : (v : Vector) → StartsPositive v → StartsPositive (opposite v) → ⊥
not_both v h k = grind arith

-- coprime vectors that start positive and have a multiple in common are one
pub one_direction : (a b : ℤ) (c d : Vector) → a ≢ pos 0 → times a c ≡ times b d → IsCoprime c → IsCoprime d → StartsPositive c → StartsPositive d → c ≡ d
one_direction a b c d some e hc hd pc pd = by (hd (multiple c d k l s t) k first) (hc (multiple d c l k t s) l second)
  where
    r : LowestTerms a b
    r = lowest_terms a b some

    k : ℤ
    k = r.k

    l : ℤ
    l = r.l

    s : ℤ
    s = r.s

    t : ℤ
    t = r.t

    part : (x y : ℤ) → a *ℤ x ≡ b *ℤ y → k *ℤ x ≡ l *ℤ y
    part x y f = cancel_common r.g k l y x r.some (ap (λ z. z *ℤ x) (sym r.a_is) ∙ f ∙ ap (λ z. z *ℤ y) r.b_is)

    x : k *ℤ c.x ≡ l *ℤ d.x
    x = part c.x d.x (ap (λ (v : Vector). v.x) e)

    y : k *ℤ c.y ≡ l *ℤ d.y
    y = part c.y d.y (ap (λ (v : Vector). v.y) e)

    z : k *ℤ c.z ≡ l *ℤ d.z
    z = part c.z d.z (ap (λ (v : Vector). v.z) e)

    -- what one of them is a multiple of
    multiple : Vector → Vector → ℤ → ℤ → ℤ → ℤ → Vector
    multiple v w k l s t = plus (times s w) (times t v)

    turned_one : t *ℤ l +ℤ s *ℤ k ≡ pos 1
    turned_one = let o = r.one in omega (arith, linear, o)

    first : d ≡ times k (multiple c d k l s t)
    first = vector_equal (coprime_multiple k l s t d.x c.x r.one x) (coprime_multiple k l s t d.y c.y r.one y) (coprime_multiple k l s t d.z c.z r.one z)

    second : c ≡ times l (multiple d c l k t s)
    second = vector_equal (coprime_multiple l k t s c.x d.x turned_one (sym x)) (coprime_multiple l k t s c.y d.y turned_one (sym y))
        (coprime_multiple l k t s c.z d.z turned_one (sym z))

    equal : (u v : ℤ) → k *ℤ u ≡ l *ℤ v → k ≡ l → (k ≡ pos 1) ⊎ (k ≡ neg_ℤ (pos 1)) → u ≡ v
    equal u v f same (inl one) =
        let p = ap (λ n. n *ℤ u) one in let q = ap (λ n. n *ℤ v) (sym same ∙ one) in
        omega (arith, ints, f, p, q)
    equal u v f same (inr one) =
        let p = ap (λ n. n *ℤ u) one in let q = ap (λ n. n *ℤ v) (sym same ∙ one) in
        omega (arith, ints, f, p, q)

    against : (u v : ℤ) → k *ℤ u ≡ l *ℤ v → k ≡ neg_ℤ l → (k ≡ pos 1) ⊎ (k ≡ neg_ℤ (pos 1)) → u ≡ neg_ℤ v
    against u v f other (inl one) =
        let m : l ≡ neg_ℤ (pos 1) = omega (arith, linear, other, one) in let p = ap (λ n. n *ℤ u) one in
        let q = ap (λ n. n *ℤ v) m in omega (arith, ints, f, p, q)
    against u v f other (inr one) =
        let m : l ≡ pos 1 = omega (arith, linear, other, one) in let p = ap (λ n. n *ℤ u) one in
        let q = ap (λ n. n *ℤ v) m in omega (arith, ints, f, p, q)

    same_way : k ≡ l → (k ≡ pos 1) ⊎ (k ≡ neg_ℤ (pos 1)) → c ≡ d
    same_way same one = vector_equal (equal c.x d.x x same one) (equal c.y d.y y same one) (equal c.z d.z z same one)

    other_way : k ≡ neg_ℤ l → (k ≡ pos 1) ⊎ (k ≡ neg_ℤ (pos 1)) → c ≡ d
    other_way other one =
        let turned : c ≡ opposite d = vector_equal (against c.x d.x x other one) (against c.y d.y y other one) (against c.z d.z z other one) in
        absurd (not_both d pd (subst StartsPositive turned pc))

    by : (k ≡ pos 1) ⊎ (k ≡ neg_ℤ (pos 1)) → (l ≡ pos 1) ⊎ (l ≡ neg_ℤ (pos 1)) → c ≡ d
    by (inl p) (inl q) = same_way (p ∙ sym q) (inl p)
    by (inr p) (inr q) = same_way (p ∙ sym q) (inr p)
    by (inl p) (inr q) = other_way (p ∙ ap neg_ℤ (sym q)) (inl p)
    by (inr p) (inl q) = other_way (p ∙ ap neg_ℤ (sym q)) (inr p)
