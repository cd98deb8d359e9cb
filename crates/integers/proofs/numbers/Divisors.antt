-- Divisibility: greatest common divisors as combinations, also of the parts of vectors, Euclid's lemma, and lowest terms.
use Rattle.std.proofs.Common.{pos, arith, ℤ, ◌≡◌, ◌≢◌, ◌*◌, ◌≤◌, ◌+ℤ◌, ◌*ℤ◌, ◌∙◌, ap, sym, ℕ, ◌+◌, ◌/◌, ◌%◌, ◌-ℤ◌, suc, zero, List, [], ◌∷◌, refl, subst}
use Rattle.std.proofs.Common.{inl, inr, ◌<◌, negsuc, neg_ℤ, map}
use Rattle.std.proofs.lemmas.Nat.Gcd.{mod-eq-zero_of_dvd, same_from_IsGcd, dvd_trans, dvd_antisymm, dvd-zero, dvd_refl}
use Rattle.std.proofs.Math.Nat.{eq-zero_of_zero-dvd, dvd-mul_right, one-dvd, mul_assoc, mul_comm, eq_of_mul-eq-mul_left, div-mul_cancel}
use Rattle.std.{proofs.lemmas.Int.ints, specs.Int.◌∣◌, specs.Int.IsGcd, specs.List.Contains}
use Rattle.integers.proofs.numbers.Ring.{ring, cancel_factor, product_associative, linear, positive_not_zero}
use Rattle.integers.specs.Divisors.{IsGreatestDivisor, IsLeastMultiple, DividesInteger}
use Rattle.integers.specs.Vectors.{Vector, times, vector, DividesVector}
use Rattle.integers.proofs.{lists.Members.is_in, lists.Members.contains_from_in, lists.Tables.table, vectors.Laws.numbers_times}

-- g = s·a + t·b, if a = g·k and b = g·l: the greatest common divisor of a and b
pub record Bezout (a b : ℕ) : Type 0 where
  pub g : ℕ
  pub k : ℕ
  pub l : ℕ
  pub s : ℤ
  pub t : ℤ
  pub a_is : a ≡ g * k
  pub b_is : b ≡ g * l
  pub g_is : pos g ≡ s *ℤ pos a +ℤ t *ℤ pos b

-- a combination of b and r = a - q·b is one of a and b
combination_step : (g s t a b q r : ℤ) → g ≡ s *ℤ b +ℤ t *ℤ r → a ≡ q *ℤ b +ℤ r → g ≡ t *ℤ a +ℤ (s -ℤ t *ℤ q) *ℤ b
combination_step g s t a b q r e f = let h = ap (λ (x : ℤ). t *ℤ x) f in simp ring (omega (arith, ints, e, simp ring at h))

-- what divides b and r divides q·b + r
divides_step : (a b q r g k l : ℕ) → a ≡ q * b + r → b ≡ g * k → r ≡ g * l → a ≡ g * (q * k + l)
divides_step a b q r g k l e f h = let f' = ap (λ (x : ℕ). q * x) f in omega arith

-- a number is its quotient times the divisor, and the remainder
division_is : (a b : ℕ) → 1 ≤ b → a ≡ (a / b) * b + a % b
division_is a b h = omega arith

-- Euclid's algorithm, in at most n steps
bezout_within : (n a b : ℕ) → b ≤ n → Bezout a b
bezout_within n a zero h = record { g = a; k = 1; l = 0; s = pos 1; t = pos 0; a_is = omega arith; b_is = omega arith; g_is = omega (arith, ints) }
bezout_within zero a (suc b) h = absurd (omega arith)
bezout_within (suc n) a (suc b) h = more (bezout_within n (suc b) (a % suc b) (omega arith))
  where
    more : Bezout (suc b) (a % suc b) → Bezout a (suc b)
    more z =
        let d = division_is a (suc b) (omega arith) in
        record {
          g = z.g;
          k = (a / suc b) * z.k + z.l;
          l = z.k;
          s = z.t;
          t = z.s -ℤ z.t *ℤ pos (a / suc b);
          a_is = divides_step a (suc b) (a / suc b) (a % suc b) z.g z.k z.l d z.a_is z.b_is;
          b_is = z.a_is;
          g_is = combination_step (pos z.g) z.s z.t (pos a) (pos (suc b)) (pos (a / suc b)) (pos (a % suc b)) z.g_is (ap pos d);
        }

-- any two numbers have such a divisor
pub bezout : (a b : ℕ) → Bezout a b
bezout a b = bezout_within b a b (omega arith)

-- if g = s·(g·k) + t·(g·l), s·k + t·l = 1
pub coprime_combination : (g k l s t : ℤ) → g ≢ pos 0 → g ≡ s *ℤ (g *ℤ k) +ℤ t *ℤ (g *ℤ l) → s *ℤ k +ℤ t *ℤ l ≡ pos 1
coprime_combination g k l s t n e = cancel_factor g (s *ℤ k +ℤ t *ℤ l) (pos 1) n (let f = e in simp ring (omega (arith, ints, simp ring at f)))

-- Euclid: if s·k + t·l = 1 and k·y = l·x, k divides x
pub coprime_multiple : (k l s t x y : ℤ) → s *ℤ k +ℤ t *ℤ l ≡ pos 1 → k *ℤ y ≡ l *ℤ x → x ≡ k *ℤ (s *ℤ x +ℤ t *ℤ y)
coprime_multiple k l s t x y e f =
    let a = ap (λ (r : ℤ). r *ℤ x) e in let b = ap (λ (r : ℤ). t *ℤ r) f in
    simp ring (omega (arith, ints, simp ring at a, simp ring at b))

-- a common factor cancels
pub cancel_common : (g k l x y : ℤ) → g ≢ pos 0 → (g *ℤ k) *ℤ y ≡ (g *ℤ l) *ℤ x → k *ℤ y ≡ l *ℤ x
cancel_common g k l x y n e = cancel_factor g (k *ℤ y) (l *ℤ x) n (sym (product_associative g k y) ∙ e ∙ product_associative g l x)

-- k is j times a number
abbrev pub IsMultiple : ℕ → ℕ → Type 0
IsMultiple j k = (l : ℕ) × (k ≡ j * l)

-- the quotient, if j divides k
pub quotient_of : (j k : ℕ) → j ∣ k → IsMultiple j k
quotient_of j k h = search (arith, eq-zero_of_zero-dvd, mod-eq-zero_of_dvd)

-- and back
pub divides_multiple : (j k : ℕ) → IsMultiple j k → j ∣ k
divides_multiple j k m = subst (λ (x : ℕ). j ∣ x) (sym m.1) (dvd-mul_right j m.0)

-- a natural number that is j times an integer is j times a natural number
pub natural_multiple : (j k : ℕ) (r : ℤ) → pos k ≡ pos j *ℤ r → IsMultiple j k
natural_multiple j k r h = grind arith

-- j divides a combination of its multiples
pub combination_of_multiples : (s t x y j : ℤ) → s *ℤ (j *ℤ x) +ℤ t *ℤ (j *ℤ y) ≡ j *ℤ (s *ℤ x +ℤ t *ℤ y)
combination_of_multiples s t x y j = simp ring (omega (arith, linear))

-- what divides a and b divides the divisor that is a combination of them
pub bezout_greatest : (a b : ℕ) (z : Bezout a b) (d : ℕ) → d ∣ a → d ∣ b → d ∣ z.g
bezout_greatest a b z d p q =
    let x = quotient_of d a p in let y = quotient_of d b q in let ex = ap pos x.1 in let ey = ap pos y.1 in
    divides_multiple d z.g (natural_multiple d z.g (z.s *ℤ pos x.0 +ℤ z.t *ℤ pos y.0)
    (z.g_is ∙ (λ i. z.s *ℤ ex i +ℤ z.t *ℤ ey i) ∙ combination_of_multiples z.s z.t (pos x.0) (pos y.0) (pos d)))

-- it is the greatest common divisor
pub bezout_gcd : (a b : ℕ) (z : Bezout a b) → IsGcd a b z.g
bezout_gcd a b z = (divides_multiple z.g a (z.k, z.a_is), divides_multiple z.g b (z.l, z.b_is), λ d p q. bezout_greatest a b z d p q)

-- Euclid's lemma: a number that divides b·c and is coprime to b divides c
pub euclid : (a b c : ℕ) → IsGcd a b 1 → a ∣ b * c → a ∣ c
euclid a b c h d = by (bezout a b)
  where
    by : Bezout a b → a ∣ c
    by z =
        let one : 1 ≡ z.g = same_from_IsGcd a b 1 z.g h (bezout_gcd a b z) in
        let q = quotient_of a (b * c) d in
        divides_multiple a c (natural_multiple a c (z.s *ℤ pos c +ℤ z.t *ℤ pos q.0)
        (coprime_multiple (pos a) (pos b) z.s z.t (pos c) (pos q.0) (sym (ap pos one ∙ z.g_is)) (sym (ap pos q.1))))

-- c is in the relation to each number of the list, and whatever is so is in it to c
abbrev pub IsBound : (ℕ → ℕ → Type 0) → List ℕ → ℕ → Type 0
IsBound R xs c = ((x : ℕ) → Contains xs x → R c x) × ((d : ℕ) → ((x : ℕ) → Contains xs x → R d x) → R d c)

-- c is so of two numbers
abbrev pub IsBoundOfTwo : (ℕ → ℕ → Type 0) → ℕ → ℕ → ℕ → Type 0
IsBoundOfTwo R a b c = R c a × R c b × ((d : ℕ) → R d a → R d b → R d c)

-- if any two numbers have such a number, and all are in the relation to e, any list has one
bound_of_list : (R : ℕ → ℕ → Type 0) → ((a b c : ℕ) → R a b → R b c → R a c) → ((a b : ℕ) → (c : ℕ) × IsBoundOfTwo R a b c) → (e : ℕ) → ((d : ℕ) → R d e)
    → (xs : List ℕ) → (c : ℕ) × IsBound R xs c
bound_of_list R chain two e all [] = (e, (λ x c. absurd (omega (arith, c.1)), λ d h. all d))
bound_of_list R chain two e all (x ∷ xs) = by (bound_of_list R chain two e all xs)
  where
    by : (c : ℕ) × IsBound R xs c → (c : ℕ) × IsBound R (x ∷ xs) c
    by r = more (two x r.0)
      where
        more : (c : ℕ) × IsBoundOfTwo R x r.0 c → (c : ℕ) × IsBound R (x ∷ xs) c
        more t = (
          t.0,
          (
            λ y k. elim (is_in (x ∷ xs) y k) [
              | inl e ↦ subst (λ (n : ℕ). R t.0 n) e t.1.0
              | inr i ↦ chain t.0 r.0 y t.1.1 (r.1.0 y (contains_from_in xs y i))
            ],
            λ d h. t.1.2 d (h x (contains_from_in (x ∷ xs) x (inl refl))) (r.1.1 d (λ y k. h y (contains_from_in (x ∷ xs) y (inr (is_in xs y k))))),
          ),
        )

-- the greatest common divisor of any list
pub greatest_divisor : (xs : List ℕ) → (g : ℕ) × IsGreatestDivisor xs g
greatest_divisor xs = by (bound_of_list (λ d x. d ∣ x) (λ a b c p q. dvd_trans a p q) (λ a b. let z = bezout a b in (z.g, bezout_gcd a b z)) 0
    (λ d. dvd-zero d) xs)
  where
    by : (g : ℕ) × IsBound (λ d x. d ∣ x) xs g → (g : ℕ) × IsGreatestDivisor xs g
    by r = (r.0, record { divides = r.1.0; greatest = r.1.1 })

-- it is the only one
pub greatest_divisor_unique : (xs : List ℕ) (g h : ℕ) → IsGreatestDivisor xs g → IsGreatestDivisor xs h → g ≡ h
greatest_divisor_unique xs g h a b = dvd_antisymm (b.greatest g a.divides) (a.greatest h b.divides)

-- n is a multiple of g·(k·l) if it is one of g·k and of g·l, and k and l are coprime
common_multiple : (g k l n x y : ℕ) (s t : ℤ) → 1 ≤ g → pos g ≡ s *ℤ (pos g *ℤ pos k) +ℤ t *ℤ (pos g *ℤ pos l) → n ≡ (g * k) * x → n ≡ (g * l) * y
    → IsMultiple (g * (k * l)) n
common_multiple zero k l n x y s t h e f f' = absurd (omega arith)
common_multiple (suc g) k l n x y s t h e f f' =
    let one = coprime_combination (pos (suc g)) (pos k) (pos l) s t (positive_not_zero (suc g) h) e in
    let same : k * x ≡ l * y = eq_of_mul-eq-mul_left (suc g) (omega arith) (k * x) (l * y) (sym (mul_assoc (suc g) k x) ∙ sym f ∙ f' ∙ mul_assoc (suc g) l y) in
    let w = natural_multiple k y (s *ℤ pos y +ℤ t *ℤ pos x) (coprime_multiple (pos k) (pos l) s t (pos y) (pos x) one (ap pos same)) in
    (w.0, f' ∙ ap (λ (r : ℕ). (suc g * l) * r) w.1 ∙ group (suc g) k l w.0)
  where
    group : (a b c d : ℕ) → (a * c) * (b * d) ≡ (a * (b * c)) * d
    group a b c d = mul_assoc a c (b * d) ∙ ap (λ (r : ℕ). a * r) (sym (mul_assoc c b d) ∙ ap (λ (r : ℕ). r * d) (mul_comm c b)) ∙ sym (mul_assoc a (b * c) d)

-- g·(k·l) is the least common multiple of g·k and g·l
pub least_multiple_of_two : (a b : ℕ) (z : Bezout a b) → (a ∣ z.g * (z.k * z.l)) × (b ∣ z.g * (z.k * z.l)) × ((n : ℕ) → a ∣ n → b ∣ n → z.g * (z.k * z.l) ∣ n)
least_multiple_of_two a b z = (
  divides_multiple a (z.g * (z.k * z.l)) (z.l, sym (mul_assoc z.g z.k z.l) ∙ ap (λ (r : ℕ). r * z.l) (sym z.a_is)),
  divides_multiple b (z.g * (z.k * z.l)) (z.k, ap (λ (r : ℕ). z.g * r) (mul_comm z.k z.l) ∙ sym (mul_assoc z.g z.l z.k) ∙ ap (λ (r : ℕ). r * z.k) (sym z.b_is)),
  λ n p q. least n (quotient_of a n p) (quotient_of b n q) z.g refl,
)
  where
    least : (n : ℕ) → IsMultiple a n → IsMultiple b n → (g : ℕ) → g ≡ z.g → z.g * (z.k * z.l) ∣ n
    least n u v zero e =
        let none : n ≡ 0 = u.1 ∙ ap (λ (r : ℕ). r * u.0) (z.a_is ∙ ap (λ (r : ℕ). r * z.k) (sym e)) ∙ omega arith in
        subst (λ (m : ℕ). z.g * (z.k * z.l) ∣ m) (sym none) (dvd-zero (z.g * (z.k * z.l)))
    least n u v (suc g) e =
        let ea = ap pos z.a_is in let eb = ap pos z.b_is in
        divides_multiple (z.g * (z.k * z.l)) n
        (common_multiple z.g z.k z.l n u.0 v.0 z.s z.t (subst (λ (m : ℕ). 1 ≤ m) e (omega arith)) (z.g_is ∙ (λ i. z.s *ℤ ea i +ℤ z.t *ℤ eb i))
        (u.1 ∙ ap (λ (r : ℕ). r * u.0) z.a_is) (v.1 ∙ ap (λ (r : ℕ). r * v.0) z.b_is))

-- the least common multiple of any list
pub least_multiple : (xs : List ℕ) → (m : ℕ) × IsLeastMultiple xs m
least_multiple xs = by (bound_of_list (λ n x. x ∣ n) (λ a b c p q. dvd_trans c q p)
    (λ a b. let z = bezout a b in (z.g * (z.k * z.l), least_multiple_of_two a b z)) 1 (λ n. one-dvd n) xs)
  where
    by : (m : ℕ) × IsBound (λ n x. x ∣ n) xs m → (m : ℕ) × IsLeastMultiple xs m
    by r = (r.0, record { multiple = r.1.0; least = r.1.1 })

-- the second factor of a positive product is positive
pub factor_positive : (g k : ℕ) → 1 ≤ g * k → 1 ≤ k
factor_positive g k l = grind arith

-- and so is the first
pub first_factor_positive : (g k : ℕ) → 1 ≤ g * k → 1 ≤ g
first_factor_positive g k l = grind arith

-- j divides each part of each of these vectors
abbrev pub AllDivided : ℕ → List Vector → Type 0
AllDivided j [] = Unit {0}
AllDivided j (v ∷ vs) = DividesVector (pos j) v × AllDivided j vs

-- j divides a table whose values it divides
pub all_table : (j : ℕ) (f : ℕ → Vector) (n : ℕ) → ((i : ℕ) → i < n → DividesVector (pos j) (f i)) → AllDivided j (table f n)
all_table j f zero h = tt
all_table j f (suc n) h = (h 0 (omega arith), all_table j (λ i. f (suc i)) n (λ i l. h (suc i) (omega arith)))

-- only 1 divides 1
product_one : (j l : ℕ) → 1 ≡ j * l → j ≡ 1
product_one j l h = grind arith

-- if g·j divides g, j is 1
pub only_one : (g j l : ℕ) → 1 ≤ g → g ≡ (g * j) * l → j ≡ 1
only_one zero j l h e = absurd (omega arith)
only_one (suc g) j l h e = product_one j l (eq_of_mul-eq-mul_left (suc g) (omega arith) 1 (j * l) (one (suc g) ∙ e ∙ mul_assoc (suc g) j l))
  where
    one : (n : ℕ) → n * 1 ≡ n
    one n = omega arith

-- h is the greatest common divisor of g and z
pub record CommonWith (g : ℕ) (z : ℤ) : Type 0 where
  pub h : ℕ
  pub a : ℕ
  pub w : ℤ
  pub g_is : g ≡ h * a
  pub z_is : z ≡ pos h *ℤ w
  pub greatest : (j : ℕ) → IsMultiple j g → DividesInteger j z → IsMultiple j h

-- two natural numbers have one
common_with_positive : (g n : ℕ) → CommonWith g (pos n)
common_with_positive g n =
    let z = bezout g n in
    record {
      h = z.g;
      a = z.k;
      w = pos z.l;
      g_is = z.a_is;
      z_is = ap pos z.b_is;
      greatest = λ j d e.
          let x = ap pos d.1 in
          natural_multiple j z.g (z.s *ℤ pos d.0 +ℤ z.t *ℤ e.0)
          (z.g_is ∙ (λ i. z.s *ℤ x i +ℤ z.t *ℤ e.1 i) ∙ combination_of_multiples z.s z.t (pos d.0) e.0 (pos j));
    }

-- a number and an integer have one
pub common_with : (g : ℕ) (z : ℤ) → CommonWith g z
common_with g (pos n) = common_with_positive g n
common_with g (negsuc n) =
    let s = common_with_positive g (suc n) in
    record {
      h = s.h;
      a = s.a;
      w = neg_ℤ s.w;
      g_is = s.g_is;
      z_is = ap neg_ℤ s.z_is ∙ simp ring (omega (arith, ints));
      greatest = λ j d e. s.greatest j d (neg_ℤ e.0, ap neg_ℤ e.1 ∙ simp ring (omega (arith, ints)));
    }

-- g is the greatest common divisor of d and the vectors, which are g times ws
pub record Common (d : ℕ) (vs : List Vector) : Type 0 where
  pub g : ℕ
  pub k : ℕ
  pub ws : List Vector
  pub d_is : d ≡ g * k
  pub vs_is : vs ≡ map (times (pos g)) ws
  pub greatest : (j : ℕ) → IsMultiple j d → AllDivided j vs → IsMultiple j g

-- the multiples of multiples of vectors
map_twice : (h a : ℕ) (ws : List Vector) → map (times (pos (h * a))) ws ≡ map (times (pos h)) (map (times (pos a)) ws)
map_twice h a [] = refl
map_twice h a (w ∷ ws) = λ i. numbers_times h a w i ∷ map_twice h a ws i

-- a number and vectors have a greatest common divisor
pub common : (d : ℕ) (vs : List Vector) → Common d vs
common d [] = record { g = d; k = 1; ws = []; d_is = omega arith; vs_is = refl; greatest = λ j e f. e }
common d (v ∷ vs) = more (common d vs)
  where
    assoc : (a b c e f : ℕ) → a ≡ b * c → b ≡ e * f → a ≡ e * (f * c)
    assoc a b c e f p q = p ∙ ap (λ (t : ℕ). t * c) q ∙ mul_assoc e f c

    more : Common d vs → Common d (v ∷ vs)
    more c =
        let x = common_with c.g v.x in let y = common_with x.h v.y in let z = common_with y.h v.z in
        let a = z.a * (y.a * x.a) in
        let g_is : c.g ≡ z.h * a = assoc c.g y.h (y.a * x.a) z.h z.a (assoc c.g x.h x.a y.h y.a x.g_is y.g_is) z.g_is in
        let xw : v.x ≡ pos z.h *ℤ (pos z.a *ℤ (pos y.a *ℤ x.w)) = x.z_is ∙ ap (λ (t : ℕ). pos t *ℤ x.w) (assoc x.h y.h y.a z.h z.a y.g_is z.g_is)
        ∙ simp ring (omega (arith, ints)) in
        let yw : v.y ≡ pos z.h *ℤ (pos z.a *ℤ y.w) = y.z_is ∙ ap (λ (t : ℕ). pos t *ℤ y.w) z.g_is ∙ product_associative (pos z.h) (pos z.a) y.w in
        record {
          g = z.h;
          k = a * c.k;
          ws = vector (pos z.a *ℤ (pos y.a *ℤ x.w)) (pos z.a *ℤ y.w) z.w ∷ map (times (pos a)) c.ws;
          d_is = assoc d c.g c.k z.h a c.d_is g_is;
          vs_is = (λ i. vector (xw i) (yw i) (z.z_is i) ∷ (c.vs_is ∙ ap (λ (t : ℕ). map (times (pos t)) c.ws) g_is ∙ map_twice z.h a c.ws) i);
          greatest = λ j e f.
              let w = f.0 in
              z.greatest j (y.greatest j (x.greatest j (c.greatest j e f.1) (w.0.x, ap (λ (t : Vector). t.x) w.1)) (w.0.y, ap (λ (t : Vector). t.y) w.1))
              (w.0.z, ap (λ (t : Vector). t.z) w.1);
        }

-- g·d divides g·k if d divides k
pub multiple_divides : (g d k : ℕ) → d ∣ k → g * d ∣ g * k
multiple_divides g d k p = let m = quotient_of d k p in divides_multiple (g * d) (g * k) (m.0, ap (λ t. g * t) m.1 ∙ sym (mul_assoc g d m.0))

-- what is left after the greatest common divisor is coprime
pub cofactors_coprime : (g k l : ℕ) → 1 ≤ g → IsGcd (g * k) (g * l) g → IsGcd k l 1
cofactors_coprime g k l h c =
    (one-dvd k, one-dvd l, λ d p q. by d (quotient_of (g * d) g (c.2 (g * d) (multiple_divides g d k p) (multiple_divides g d l q))))
  where
    by : (d : ℕ) → IsMultiple (g * d) g → d ∣ 1
    by d m = subst (λ t. t ∣ 1) (sym (only_one g d m.0 h m.1)) (dvd_refl 1)

-- the greatest common divisor with a positive number is positive
pub divisor_positive : (a b g : ℕ) → 1 ≤ b → IsGcd a b g → 1 ≤ g
divisor_positive a b g h c = let m = quotient_of g b c.1 in first_factor_positive g m.0 (subst (λ t. 1 ≤ t) m.1 h)

-- the parts that the greatest common divisor leaves of a and b: a quotient in lowest terms
pub record AreLowestTerms (a b g : ℕ) : Type 0 where
  pub top : a ≡ g * (a / g)
  pub bottom : b ≡ g * (b / g)
  pub common : 1 ≤ g
  pub positive : 1 ≤ b / g
  pub coprime : IsGcd (a / g) (b / g) 1

-- dividing by the greatest common divisor gives lowest terms
pub lowest_terms : (a b g : ℕ) → 1 ≤ b → IsGcd a b g → AreLowestTerms a b g
lowest_terms a b g h c =
    let k : a ≡ g * (a / g) = sym (mul_comm g (a / g) ∙ div-mul_cancel g c.0) in
    let l : b ≡ g * (b / g) = sym (mul_comm g (b / g) ∙ div-mul_cancel g c.1) in
    let h' : 1 ≤ g * (b / g) = subst (λ t. 1 ≤ t) l h in let p = divisor_positive a b g h c in
    record {
      top = k;
      bottom = l;
      common = p;
      positive = factor_positive g (b / g) h';
      coprime = cofactors_coprime g (a / g) (b / g) p (subst (λ t. IsGcd t (g * (b / g)) g) k (subst (λ t. IsGcd a t g) l c));
    }
