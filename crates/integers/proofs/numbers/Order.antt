-- The order of natural and of whole numbers, and products with positive ones.
use Rattle.std.proofs.Common.{◌≡◌, ◌⊎◌, ℕ, suc, ◌+◌, ◌<◌, ◌≤◌, pos, arith, ◌≢◌, zero, ℤ, negsuc, ◌+ℤ◌, ◌-ℤ◌, ◌*ℤ◌, ◌-◌, ◌*◌, ap, sym, refl, subst, ◌∙◌}
use Rattle.std.proofs.lemmas.Int.{ints}
use Rattle.std.specs.{Prelude.◌<ℤ◌, Ordering.int_cmp, Ordering.ordering_then, declared.cmp.Ordering.TheVariants.Equal, Cmp.Lexicographic.slice_cmp}
use Rattle.integers.{specs.Vectors.Vector, specs.Vectors.times, specs.Vectors.parts, proofs.numbers.Ring.product_sum}

-- what is below the next number is below or equal
pub before_or_at : (k n : ℕ) → k < n + 1 → (k < n) ⊎ (k ≡ n)
before_or_at k n l = grind arith

-- what is at most the next number is at most this one, or the next
pub at_most_next : (k n : ℕ) → k ≤ n + 1 → (k ≤ n) ⊎ (k ≡ n + 1)
at_most_next k n l = grind arith

-- one of two numbers is less, or they are equal
pub three_ways : (m n : ℕ) → (m < n) ⊎ ((n < m) ⊎ (m ≡ n))
three_ways m n = grind arith

-- the next number
pub next_number : (n : ℕ) → suc n ≡ n + 1
next_number n = omega arith

-- equal whole numbers are equal natural numbers
pub pos_same : (m n : ℕ) → pos m ≡ pos n → m ≡ n
pos_same m n e = omega (arith, ints, e)

-- a positive number is not 0
pub positive_is_some : (x : ℤ) → pos 0 <ℤ x → x ≢ pos 0
positive_is_some x h e = omega (arith, ints, h, e)

-- a positive number is a natural one
pub positive_natural : (x : ℤ) → pos 0 <ℤ x → (n : ℕ) × (1 ≤ n) × (x ≡ pos n)
positive_natural x k = grind arith

-- what is above x is x and a positive number
step_between : (x y : ℤ) → x <ℤ y → (d : ℕ) × (y ≡ x +ℤ pos (suc d))
step_between x y h = by (y -ℤ x) refl
  where
    by : (z : ℤ) → z ≡ y -ℤ x → (d : ℕ) × (y ≡ x +ℤ pos (suc d))
    by (pos zero) e = absurd (omega (arith, ints))
    by (pos (suc d)) e = (d, omega (arith, ints))
    by (negsuc d) e = absurd (omega (arith, ints))

-- a positive factor keeps the order
pub multiple_below : (n : ℕ) (x y : ℤ) → x <ℤ y → (pos (suc n) *ℤ x) <ℤ (pos (suc n) *ℤ y)
multiple_below n x y h =
    let s = step_between x y h in let p : suc n * suc s.0 ≡ suc (suc n * suc s.0 - 1) = omega arith in
    let e : pos (suc n) *ℤ y ≡ pos (suc n) *ℤ x +ℤ pos (suc (suc n * suc s.0 - 1)) =
    ap (λ t. pos (suc n) *ℤ t) s.1 ∙ product_sum (pos (suc n)) x (pos (suc s.0)) ∙ ap (λ (t : ℕ). pos (suc n) *ℤ x +ℤ pos t) p in
    subst (λ t. (pos (suc n) *ℤ x) <ℤ t) (sym e) (omega (arith, ints))

-- so multiples compare as the numbers do
compare_scaled : (n : ℕ) (x y : ℤ) → int_cmp x y ≡ int_cmp (pos (suc n) *ℤ x) (pos (suc n) *ℤ y)
compare_scaled n x y = search (arith, multiple_below)

-- the same, of any positive factor
pub compare_multiples : (n : ℕ) → 1 ≤ n → (x y : ℤ) → int_cmp x y ≡ int_cmp (pos n *ℤ x) (pos n *ℤ y)
compare_multiples zero h x y = absurd (omega arith)
compare_multiples (suc n) h x y = compare_scaled n x y

-- proportional numbers compare alike
pub compare_proportional : (m n : ℕ) → 1 ≤ m → 1 ≤ n → (x y x' y' : ℤ) → pos n *ℤ x ≡ pos m *ℤ x' → pos n *ℤ y ≡ pos m *ℤ y' → int_cmp x y ≡ int_cmp x' y'
compare_proportional m n hm hn x y x' y' e d = compare_multiples n hn x y ∙ (λ i. int_cmp (e i) (d i)) ∙ sym (compare_multiples m hm x' y')

-- proportional vectors compare alike
pub compare_proportional_vectors : (m n : ℕ) → 1 ≤ m → 1 ≤ n → (v w v' w' : Vector) → times (pos n) v ≡ times (pos m) v' → times (pos n) w ≡ times (pos m) w'
    → slice_cmp int_cmp (parts 3 v) (parts 3 w) ≡ slice_cmp int_cmp (parts 3 v') (parts 3 w')
compare_proportional_vectors m n hm hn v w v' w' e d =
    let x = compare_proportional m n hm hn v.x w.x v'.x w'.x (ap (λ (t : Vector). t.x) e) (ap (λ (t : Vector). t.x) d) in
    let y = compare_proportional m n hm hn v.y w.y v'.y w'.y (ap (λ (t : Vector). t.y) e) (ap (λ (t : Vector). t.y) d) in
    let z = compare_proportional m n hm hn v.z w.z v'.z w'.z (ap (λ (t : Vector). t.z) e) (ap (λ (t : Vector). t.z) d) in
    λ i. ordering_then (x i) (ordering_then (y i) (ordering_then (z i) Equal))
