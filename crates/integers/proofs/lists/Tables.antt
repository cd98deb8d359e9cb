-- The values of a function on a finite table: the list of them, and the greatest.
use Rattle.std.proofs.Common.{suc, arith, sym, ℕ, subst, ◌≡◌, ◌≤ℤ◌, ◌≤◌, ◌<◌, ◌-◌, zero, ℤ, List, [], ◌∷◌, length, map, refl, ap}
use Rattle.std.{proofs.lemmas.Int.ints, proofs.lemmas.Int.by_lt_z, proofs.Math.Nat.le_refl, specs.Prelude.slice_index_or}
use Rattle.integers.{specs.Vectors.Vector, specs.Vectors.zero_vector, specs.Vectors.times, proofs.vectors.Laws.times_zero}

-- what holds up to n and at n + 1 holds up to n + 1
pub at_or_below : (P : ℕ → Type 0) (v n : ℕ) → v ≤ suc n → (v ≤ n → P v) → P (suc n) → P v
at_or_below P v n b below here = grind arith

-- a place from 1 to n + 1 if f is greatest
pub greatest_at : (f : ℕ → ℤ) (n : ℕ) → (u : ℕ) × (1 ≤ u) × (u ≤ suc n) × ((v : ℕ) → 1 ≤ v → v ≤ suc n → f v ≤ℤ f u)
greatest_at f zero = (1, omega arith, omega arith, λ v a b. let e : v ≡ 1 = omega arith in subst (λ (k : ℕ). f k ≤ℤ f 1) (sym e) (omega (arith, ints)))
greatest_at f (suc n) = more (greatest_at f n)
  where
    Greatest : ℕ → ℕ → Type 0
    Greatest m u = (v : ℕ) → 1 ≤ v → v ≤ m → f v ≤ℤ f u

    more : (u : ℕ) × (1 ≤ u) × (u ≤ suc n) × ((v : ℕ) → 1 ≤ v → v ≤ suc n → f v ≤ℤ f u)
        → (u : ℕ) × (1 ≤ u) × (u ≤ suc (suc n)) × ((v : ℕ) → 1 ≤ v → v ≤ suc (suc n) → f v ≤ℤ f u)
    more r =
        by_lt_z (f r.0) (f (suc (suc n)))
        (λ lt. (
          suc (suc n),
          omega arith,
          le_refl (suc (suc n)),
          λ v a b.
              at_or_below (λ k. f k ≤ℤ f (suc (suc n))) v (suc n) b (λ c. let h = r.3 v a c in omega (arith, ints)) (omega (arith, ints)),
        ))
        (λ le. (
          r.0,
          r.1,
          omega arith,
          λ v a b.
              at_or_below (λ k. f k ≤ℤ f r.0) v (suc n) b (λ c. r.3 v a c) le,
        ))

-- every function to the whole numbers has a greatest value on P
abbrev pub Searchable : (A : Type 0) → (A → Type 0) → Type 0
Searchable A P = (f : A → ℤ) → (a : A) × P a × ((b : A) → P b → f b ≤ℤ f a)

-- so it has on pairs
pub search_pair : {A B : Type 0} (P : A → Type 0) (Q : B → Type 0) → Searchable A P → Searchable B Q → Searchable (A × B) (λ p. P p.0 × Q p.1)
search_pair P Q s t f =
    let best = λ (a : _). t (λ b. f (a, b)) in let r = s (λ a. f (a, (best a).0)) in
    ((r.0, (best r.0).0), (r.1, (best r.0).1), λ p h. let x = (best p.0).2 p.1 h.1 in let y = r.2 p.0 h.0 in omega (arith, ints))

-- so it has below m
pub search_below : (m : ℕ) → 1 ≤ m → Searchable ℕ (λ r. r < m)
search_below m h f =
    let r = greatest_at (λ k. f (k - 1)) (m - 1) in
    let top = r.2 in (
      r.0 - 1,
      omega arith,
      λ v b.
          let x = r.3 (suc v) (omega arith) (omega arith) in let e : suc v - 1 ≡ v = omega arith in
          subst (λ (k : ℕ). f k ≤ℤ f (r.0 - 1)) e x,
    )

-- f 0, f 1 and so on, n values
abbrev pub table : (ℕ → Vector) → ℕ → List Vector
table f zero = []
table f (suc n) = f 0 ∷ table (λ i. f (suc i)) n

-- it has n values
pub table_length : (f : ℕ → Vector) (n : ℕ) → length (table f n) ≡ n
table_length f zero = refl
table_length f (suc n) = ap suc (table_length (λ i. f (suc i)) n)

-- the value at place i is f i
pub at_table : (f : ℕ → Vector) (n i : ℕ) → i < n → slice_index_or (table f n) i zero_vector ≡ f i
at_table f zero i l = absurd (omega arith)
at_table f (suc n) zero l = refl
at_table f (suc n) (suc i) l = at_table (λ j. f (suc j)) n i (omega arith)

-- of a list of multiples the vector at place i is the multiple of the one there
pub at_scaled : (g : ℤ) (ws : List Vector) (i : ℕ) → slice_index_or (map (times g) ws) i zero_vector ≡ times g (slice_index_or ws i zero_vector)
at_scaled g [] i = sym (times_zero g)
at_scaled g (w ∷ ws) zero = refl
at_scaled g (w ∷ ws) (suc i) = at_scaled g ws i
