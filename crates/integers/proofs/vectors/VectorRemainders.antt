-- Vectors modulo a number: each has a remainder, and one alone, and vectors with one remainder are a multiple apart.
use Rattle.std.proofs.Common.{◌≡◌, ℕ, zero, suc, ◌≤◌, ◌+◌, ◌*◌, ℤ, pos, negsuc, ◌+ℤ◌, ◌-ℤ◌, ◌*ℤ◌, neg_ℤ, sym, ap, ◌∙◌, arith}
use Rattle.std.{proofs.lemmas.Int.ints, specs.Prelude.◌<ℤ◌, specs.Prelude.◌≤ℤ◌}
use Rattle.integers.specs.Vectors.{Vector, vector, plus, minus, opposite, times, IsModulo}
use Rattle.integers.proofs.numbers.Ring.{ring, linear, product_zero, product_negative}
use Rattle.integers.proofs.{numbers.Division.divided, numbers.Division.IsRest, numbers.Division.modulo_is, vectors.Laws.vector_equal}

-- a multiple of m that lies between -m and m is 0
small_multiple : (m : ℕ) (k e : ℤ) → pos m *ℤ k ≡ e → e <ℤ pos m → neg_ℤ (pos m) <ℤ e → e ≡ pos 0
small_multiple m (pos zero) e h a b = sym h ∙ product_zero (pos m)
small_multiple m (pos (suc n)) e h a b = absurd (let q : m * suc n ≡ m + m * n = omega arith in omega (arith, ints, h, q))
small_multiple m (negsuc n) e h a b = absurd (let q : m * suc n ≡ m + m * n = omega arith in omega (arith, ints, h, q, product_negative (pos m) (pos (suc n))))

-- a number has one remainder
one_rest : (m : ℕ) (r r' s s' : ℤ) → pos 0 ≤ℤ r → r <ℤ pos m → pos 0 ≤ℤ r' → r' <ℤ pos m → r +ℤ pos m *ℤ s ≡ r' +ℤ pos m *ℤ s' → r ≡ r'
one_rest m r r' s s' a b c d e =
    let z = small_multiple m (s' -ℤ s) (r -ℤ r') (parted (pos m) r r' s s' e) (omega (arith, linear, b, c)) (omega (arith, linear, a, d)) in
    omega (arith, linear, z)
  where
    parted : (m r r' s s' : ℤ) → r +ℤ m *ℤ s ≡ r' +ℤ m *ℤ s' → m *ℤ (s' -ℤ s) ≡ r -ℤ r'
    parted m r r' s s' e = simp ring (omega (arith, linear, e))

-- vectors a multiple of m apart have one remainder
pub one_modulo : (m : ℕ) (v w r q t : Vector) → IsModulo (pos m) v r → IsModulo (pos m) w q → v ≡ plus w (times (pos m) t) → r ≡ q
one_modulo m v w r q t x y e =
    let h : plus r (times (pos m) x.steps) ≡ plus q (times (pos m) (plus y.steps t)) = sym x.is ∙ e ∙ ap (λ (a : Vector). plus a (times (pos m) t)) y.is
    ∙ joined (pos m) q y.steps t in
    vector_equal
    (one_rest m r.x q.x x.steps.x (plus y.steps t).x x.low.0 x.high.0 y.low.0 y.high.0 (ap (λ (a : Vector). a.x) h))
    (one_rest m r.y q.y x.steps.y (plus y.steps t).y x.low.1 x.high.1 y.low.1 y.high.1 (ap (λ (a : Vector). a.y) h))
    (one_rest m r.z q.z x.steps.z (plus y.steps t).z x.low.2 x.high.2 y.low.2 y.high.2 (ap (λ (a : Vector). a.z) h))
  where
    joined : (m : ℤ) (q s t : Vector) → plus (plus q (times m s)) (times m t) ≡ plus q (times m (plus s t))
    joined m q s t = vector_equal (simp ring (omega (arith, linear))) (simp ring (omega (arith, linear))) (simp ring (omega (arith, linear)))

-- vectors with one remainder are a multiple of m apart
pub modulo_apart : (m : ℤ) (v w r : Vector) (x : IsModulo m v r) (y : IsModulo m w r) → v ≡ plus w (times m (minus x.steps y.steps))
modulo_apart m v w r x y = x.is ∙ apart r x.steps y.steps ∙ ap (λ (a : Vector). plus a (times m (minus x.steps y.steps))) (sym y.is)
  where
    apart : (r s t : Vector) → plus r (times m s) ≡ plus (plus r (times m t)) (times m (minus s t))
    apart r s t = vector_equal (simp ring (omega (arith, linear))) (simp ring (omega (arith, linear))) (simp ring (omega (arith, linear)))

-- the remainder is the vector and a multiple of m
pub remainder_is : (m : ℤ) (v r : Vector) (x : IsModulo m v r) → r ≡ plus v (times m (opposite x.steps))
remainder_is m v r x = off r x.steps ∙ ap (λ (w : Vector). plus w (times m (opposite x.steps))) (sym x.is)
  where
    off : (r t : Vector) → r ≡ plus (plus r (times m t)) (times m (opposite t))
    off r t = vector_equal (simp ring (omega (arith, linear))) (simp ring (omega (arith, linear))) (simp ring (omega (arith, linear)))

-- each vector has a remainder
pub modulo_of : (m : ℕ) → 1 ≤ m → (v : Vector) → (r : Vector) × IsModulo (pos m) v r
modulo_of m h v =
    let x = rest v.x in let y = rest v.y in let z = rest v.z in
    (vector x.0 y.0 z.0, modulo_is (pos m) v x.0 y.0 z.0 x.1 y.1 z.1)
  where
    back : (z m r k : ℤ) → z ≡ r +ℤ m *ℤ k → r ≡ z +ℤ m *ℤ neg_ℤ k
    back z m r k e = simp ring (omega (arith, linear, e))

    rest : (z : ℤ) → (r : ℤ) × IsRest (pos m) z r
    rest z =
        let d = divided m h z in let l = d.2 in
        (pos d.0, record { from = omega (arith, ints); to = omega (arith, ints, l); same = (neg_ℤ d.1, back z (pos m) (pos d.0) d.1 d.3) })
