-- Whole vectors within a bound are finitely many: they have numbers below a bound. So of enough of them two are equal.
use Rattle.std.proofs.Common.{◌≡◌, ◌≢◌, ◌⊎◌, inl, inr, ◌≤◌, ◌<◌, ◌+◌, ◌*◌, ◌/◌, ◌%◌, ◌+ℤ◌, ◌∙◌, ℤ, ℕ, pos, zero, suc, ap, arith, sym}
use Rattle.std.proofs.lemmas.Nat.{div-mul-add, mod-mul-add}
use Rattle.std.{proofs.Math.Decide.ℕ_discrete, specs.Prelude.unsigned_abs}
use Prim.{Dec, no, yes}
use Rattle.integers.specs.Vectors.{IsWithin, Vector}
use Rattle.integers.proofs.{counting.Numbering.not_fewer, counting.Numbering.turned_below, vectors.Laws.vector_equal}

-- Of n + 1 numbers below n two are equal.

-- two of the numbers below n go to one
record AreTwo (n : ℕ) (f : ℕ → ℕ) : Type 0 where
  i : ℕ
  j : ℕ
  before : i < j
  last : j < n
  same : f i ≡ f j

-- some number below n goes to y, or none does
hit_or_not : (n : ℕ) (f : ℕ → ℕ) (y : ℕ) → ((x : ℕ) × (x < n) × (f x ≡ y)) ⊎ ((x : ℕ) → x < n → f x ≢ y)
hit_or_not zero f y = inr (λ x l. absurd (omega arith))
hit_or_not (suc n) f y = by (ℕ_discrete (f n) y) (hit_or_not n f y)
  where
    by : Dec (f n ≡ y) → ((x : ℕ) × (x < n) × (f x ≡ y)) ⊎ ((x : ℕ) → x < n → f x ≢ y)
        → ((x : ℕ) × (x < suc n) × (f x ≡ y)) ⊎ ((x : ℕ) → x < suc n → f x ≢ y)
    by (yes e) r = inl (n, omega arith, e)
    by (no k) (inl r) = let l = r.1 in inl (r.0, omega arith, r.2)
    by (no k) (inr h) = inr (λ x l. grind (arith, h, k))

-- two go to one, or no two do
two_or_once : (n : ℕ) (f : ℕ → ℕ) → AreTwo n f ⊎ ((x y : ℕ) → x < n → y < n → f x ≡ f y → x ≡ y)
two_or_once zero f = inr (λ x y l k e. absurd (omega arith))
two_or_once (suc n) f = by (two_or_once n f) (hit_or_not n f (f n))
  where
    by : AreTwo n f ⊎ ((x y : ℕ) → x < n → y < n → f x ≡ f y → x ≡ y) → ((x : ℕ) × (x < n) × (f x ≡ f n)) ⊎ ((x : ℕ) → x < n → f x ≢ f n)
        → AreTwo (suc n) f ⊎ ((x y : ℕ) → x < suc n → y < suc n → f x ≡ f y → x ≡ y)
    by (inl t) r = let l = t.last in inl (record { i = t.i; j = t.j; before = t.before; last = omega arith; same = t.same })
    by (inr h) (inl r) = inl (record { i = r.0; j = n; before = r.1; last = omega arith; same = r.2 })
    by (inr h) (inr k) = inr (λ x y l m e. grind (arith, h, k, e))

-- of n + 1 numbers below n two are equal
two_alike : (n : ℕ) (f : ℕ → ℕ) → ((x : ℕ) → f x < n) → AreTwo (suc n) f
two_alike n f into = by (two_or_once (suc n) f)
  where
    by : AreTwo (suc n) f ⊎ ((x y : ℕ) → x < suc n → y < suc n → f x ≡ f y → x ≡ y) → AreTwo (suc n) f
    by (inl t) = t
    by (inr h) = let l = not_fewer (suc n) n (λ x k. f x) (λ x k. into x) (λ x y k m e. h x y k m e) in absurd (omega arith)

-- Three numbers below m have one number below m·m·m.

-- that number
abbrev three : ℕ → ℕ → ℕ → ℕ → ℕ
three m a b c = (a * m + b) * m + c

-- it is below
three_below : (m a b c : ℕ) → a < m → b < m → c < m → three m a b c < m * m * m
three_below m a b c i j k = turned_below (a * m + b) c (m * m) m (turned_below a b m m i j) k

-- and tells the three
three_same : (m a b c a' b' c' : ℕ) → b < m → c < m → b' < m → c' < m → three m a b c ≡ three m a' b' c' → (a ≡ a') × (b ≡ b') × (c ≡ c')
three_same m a b c a' b' c' i j i' j' e =
    let s = parts (a * m + b) c (a' * m + b') c' j j' e in let t = parts a b a' b' i i' s.0 in (t.0, t.1, s.1)
  where
    parts : (x y x' y' : ℕ) → y < m → y' < m → x * m + y ≡ x' * m + y' → (x ≡ x') × (y ≡ y')
    parts x y x' y' l k h = (
      sym (div-mul-add x m y l) ∙ ap (λ (t : ℕ). t / m) h ∙ div-mul-add x' m y' k,
      sym (mod-mul-add x m y l) ∙ ap (λ (t : ℕ). t % m) h ∙ mod-mul-add x' m y' k,
    )

-- so has a vector within n
abbrev shifted : ℕ → ℤ → ℕ
shifted n z = unsigned_abs (z +ℤ pos n)

-- a part, moved to be positive, is below 2n + 1
shifted_below : (n : ℕ) (z : ℤ) → unsigned_abs z ≤ n → shifted n z < suc (n + n)
shifted_below n z h = grind arith

-- and tells the part
shifted_same : (n : ℕ) (y z : ℤ) → unsigned_abs y ≤ n → unsigned_abs z ≤ n → shifted n y ≡ shifted n z → y ≡ z
shifted_same n y z h k e = grind arith

-- the number of a vector
abbrev number : ℕ → Vector → ℕ
number n v = three (suc (n + n)) (shifted n v.x) (shifted n v.y) (shifted n v.z)

-- the bound of these numbers
abbrev cube : ℕ → ℕ
cube m = m * m * m

-- it is below
number_below : (n : ℕ) (v : Vector) → IsWithin n v → number n v < cube (suc (n + n))
number_below n v i =
    three_below (suc (n + n)) (shifted n v.x) (shifted n v.y) (shifted n v.z) (shifted_below n v.x i.0) (shifted_below n v.y i.1) (shifted_below n v.z i.2)

-- and tells the vector
number_same : (n : ℕ) (v w : Vector) → IsWithin n v → IsWithin n w → number n v ≡ number n w → v ≡ w
number_same n v w i j e =
    let s = three_same (suc (n + n)) (shifted n v.x) (shifted n v.y) (shifted n v.z) (shifted n w.x) (shifted n w.y) (shifted n w.z)
    (shifted_below n v.y i.1) (shifted_below n v.z i.2) (shifted_below n w.y j.1) (shifted_below n w.z j.2) e in
    vector_equal (shifted_same n v.x w.x i.0 j.0 s.0) (shifted_same n v.y w.y i.1 j.1 s.1) (shifted_same n v.z w.z i.2 j.2 s.2)

-- Of enough triples of vectors within n two are equal.

-- the bound
pub bound : ℕ → ℕ
bound n = cube (cube (suc (n + n)))

-- two triples are equal
pub record AreTwoTriples (n : ℕ) (f g h : ℕ → Vector) : Type 0 where
  pub i : ℕ
  pub j : ℕ
  pub before : i < j
  pub last : j ≤ bound n
  pub first : f i ≡ f j
  pub second : g i ≡ g j
  pub third : h i ≡ h j

-- so there are such
pub two_triples : (n : ℕ) (f g h : ℕ → Vector) → ((x : ℕ) → IsWithin n (f x)) → ((x : ℕ) → IsWithin n (g x)) → ((x : ℕ) → IsWithin n (h x))
    → AreTwoTriples n f g h
unfolding bound
two_triples n f g h p q r =
    let m = cube (suc (n + n)) in let code = λ (x : ℕ). three m (number n (f x)) (number n (g x)) (number n (h x)) in
    let below = λ (x : ℕ). number_below n (f x) (p x) in let below' = λ (x : ℕ). number_below n (g x) (q x) in
    let below'' = λ (x : ℕ). number_below n (h x) (r x) in
    let t = two_alike (cube m) code (λ x. three_below m (number n (f x)) (number n (g x)) (number n (h x)) (below x) (below' x) (below'' x)) in
    let s = three_same m (number n (f t.i)) (number n (g t.i)) (number n (h t.i)) (number n (f t.j)) (number n (g t.j)) (number n (h t.j))
    (below' t.i) (below'' t.i) (below' t.j) (below'' t.j) t.same in
    let l = t.last in
    record {
      i = t.i;
      j = t.j;
      before = t.before;
      last = omega arith;
      first = number_same n (f t.i) (f t.j) (p t.i) (p t.j) s.0;
      second = number_same n (g t.i) (g t.j) (q t.i) (q t.j) s.1;
      third = number_same n (h t.i) (h t.j) (r t.i) (r t.j) s.2;
    }
