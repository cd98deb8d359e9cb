-- Division with a remainder that is not negative, exact division, and what numbers and vectors are modulo a number.
use Rattle.std.proofs.Common.{◌∙◌, negsuc, pos, arith, sym, ℤ, ap, ℕ, ◌≡◌, ◌+◌, ◌*◌, ◌-◌, ◌/◌, ◌%◌, ◌<◌, ◌≤◌, ◌+ℤ◌, ◌*ℤ◌, zero, suc, neg_ℤ}
use Rattle.std.proofs.{Math.Nat.mul_comm, Math.Nat.le_of_mul-le-mul_left, Math.Nat.lt_of_mul-lt-mul_left, lemmas.Int.ints, lemmas.Nat.div-mul-add}
use Rattle.std.specs.{Prelude.int_div, Prelude.◌≤ℤ◌, Prelude.◌<ℤ◌, Prelude.unsigned_abs, Int.int_div_euclid, Int.int_rem_euclid}
use borrow.Author.Differences.{product_is}
use Rattle.integers.specs.Vectors.{Vector, vector, HasDimension, IsModulo}
use Rattle.integers.proofs.{numbers.Ring.ring, numbers.Ring.linear, vectors.Laws.vector_equal}

-- z is r + m·k, with r below m
pub divided : (m : ℕ) → 1 ≤ m → (z : ℤ) → (r : ℕ) × (k : ℤ) × (r < m) × (z ≡ pos r +ℤ pos m *ℤ k)
divided m h (pos n) = (n % m, pos (n / m), omega arith, let q : n % m + m * (n / m) ≡ n = omega arith in ap pos (sym q))
divided m h (negsuc n) =
    let q : m * (n / m) + n % m ≡ n = omega arith in
    (m - 1 - n % m, negsuc (n / m), omega arith, omega (arith, ints))

-- n·m / n = m
pub product_quotient : (n m : ℕ) → 1 ≤ n → n * m / n ≡ m
product_quotient n m h = let e : n * m ≡ m * n + 0 = omega arith in ap (λ (t : ℕ). t / n) e ∙ div-mul-add m n 0 h

-- an exact quotient
pub exact_quotient : (n : ℕ) → 1 ≤ n → (w : ℤ) → int_div (pos n *ℤ w) (pos n) ≡ w
exact_quotient n k w = grind arith

-- the quotient by a divisor, times the divisor
pub quotient_times : (a g : ℤ) → pos 0 <ℤ g → (w : ℤ) × (a ≡ g *ℤ w) → a ≡ g *ℤ int_div a g
quotient_times a g h k = search (arith, exact_quotient)

-- a number is its remainder and the divisor times its quotient
pub euclid_sum : (z m : ℤ) → pos 0 <ℤ m → z ≡ int_rem_euclid z m +ℤ m *ℤ int_div_euclid z m
euclid_sum z m k = grind arith

-- the remainder is from 0 to below the divisor
pub euclid_rest : (z m : ℤ) → pos 0 <ℤ m → (pos 0 ≤ℤ int_rem_euclid z m) × (int_rem_euclid z m <ℤ m)
euclid_rest z m k = grind arith

-- what n times the divisor bounds has a quotient of at most n
pub quotient_within : (z m r q : ℤ) (n : ℕ) → pos 0 ≤ℤ r → r <ℤ m → z ≡ r +ℤ m *ℤ q → unsigned_abs z ≤ n * unsigned_abs m → unsigned_abs q ≤ n
quotient_within z m r q n l s t u = search (arith, product_is, mul_comm, le_of_mul-le-mul_left, lt_of_mul-lt-mul_left)

-- r is from 0 to below m, and z up to a multiple of m
pub record IsRest (m z r : ℤ) : Type 0 where
  pub from : pos 0 ≤ℤ r
  pub to : r <ℤ m
  pub same : (k : ℤ) × (r ≡ z +ℤ m *ℤ k)

-- the multiple on the other side
turned : (m z r k : ℤ) → r ≡ z +ℤ m *ℤ k → z ≡ r +ℤ m *ℤ neg_ℤ k
turned m z r k e = simp ring (omega (arith, linear, e))

-- three rests make a vector modulo m
pub modulo_is : (m : ℤ) (v : Vector) (x y z : ℤ) → IsRest m v.x x → IsRest m v.y y → IsRest m v.z z → IsModulo m v (vector x y z)
modulo_is m v x y z a b c = record {
  low = (a.from, b.from, c.from);
  high = (a.to, b.to, c.to);
  steps = vector (neg_ℤ a.same.0) (neg_ℤ b.same.0) (neg_ℤ c.same.0);
  is = vector_equal (turned m v.x x a.same.0 a.same.1) (turned m v.y y b.same.0 b.same.1) (turned m v.z z c.same.0 c.same.1);
}

-- a multiple of m that is above -m and at most 0 is 0
no_steps : (m r k : ℤ) → pos 0 ≤ℤ r → r <ℤ m → pos 0 ≡ r +ℤ m *ℤ k → k ≡ pos 0
no_steps (pos m) r (pos zero) h i e = omega (arith, ints)
no_steps (pos m) r (pos (suc k)) h i e = absurd (let p = product_is (pos m) (pos (suc k)) in omega (arith, ints))
no_steps (pos m) r (negsuc k) h i e = absurd (let p = product_is (pos m) (negsuc k) in omega (arith, ints))
no_steps (negsuc m) r k h i e = absurd (omega (arith, ints, h, i))

-- then the rest is 0 too
no_rest : (m r k : ℤ) → k ≡ pos 0 → pos 0 ≡ r +ℤ m *ℤ k → r ≡ pos 0
no_rest m r k h e = let u = ap (λ (t : ℤ). m *ℤ t) h in omega (arith, linear, e, simp ring at u)

-- the steps of a vector of dimension d have dimension d
pub steps_dimension : (d : ℕ) (m : ℤ) (v r : Vector) → HasDimension d v → (h : IsModulo m v r) → HasDimension d h.steps
steps_dimension d m v r dim h e = no_steps m r.z h.steps.z h.low.2 h.high.2 (sym (dim e) ∙ ap (λ (t : Vector). t.z) h.is)

-- and so has the vector modulo m
pub modulo_dimension : (d : ℕ) (m : ℤ) (v r : Vector) → HasDimension d v → IsModulo m v r → HasDimension d r
modulo_dimension d m v r dim h e = no_rest m r.z h.steps.z (steps_dimension d m v r dim h e) (sym (dim e) ∙ ap (λ (t : Vector). t.z) h.is)
