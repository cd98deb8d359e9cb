-- The laws of ℤ as a commutative ring, and the two rulesets that serve as a ring tactic: `simp ring (omega (arith, linear))`
-- multiplies out and compares; a hypothesis h is multiplied out by `simp ring at h` in omega's list.
use Rattle.std.specs.Prelude.{ℤ, ◌+ℤ◌, ◌*ℤ◌, pos}
use Rattle.std.proofs.Common.{◌⊎◌, ◌≡◌, ◌+◌, ◌*◌, ◌∙◌, arith, ap, sym, ◌≢◌, ◌-ℤ◌, ℕ, ◌≤◌}
use Rattle.std.proofs.{Math.IntN.*ℤ_comm, Math.IntN.neg_ℤ, lemmas.Int.ints, Math.Nat.eq_of_mul-eq-mul_left}
use borrow.Author.Differences.{down, up, product_is, same_in, sum_is_lem, neg_is, below_in, at_most_in, lt_out, le_out, same_out}

-- the two parts of a product, as a difference of natural numbers
up_product : (a b : ℤ) → up (a *ℤ b) ≡ up a * up b + down a * down b
up_product a b = (product_is a b).0

-- and the other part
down_product : (a b : ℤ) → down (a *ℤ b) ≡ up a * down b + down a * up b
down_product a b = (product_is a b).1

-- (a·b)·c = a·(b·c)
pub product_associative : (a b c : ℤ) → (a *ℤ b) *ℤ c ≡ a *ℤ (b *ℤ c)
product_associative a b c = same_in _ _ (simp (up_product, down_product) (omega arith))

-- a·(b + c) = a·b + a·c
pub product_sum : (a b c : ℤ) → a *ℤ (b +ℤ c) ≡ a *ℤ b +ℤ a *ℤ c
product_sum a b c =
    let e = sum_is_lem b c in let eu = ap (λ n. up a * n) e in let ed = ap (λ n. down a * n) e in
    same_in _ _ (omega (arith, eu, ed, sum_is_lem (a *ℤ b) (a *ℤ c), product_is a (b +ℤ c), product_is a b, product_is a c))

-- (a + b)·c = a·c + b·c
pub sum_product : (a b c : ℤ) → (a +ℤ b) *ℤ c ≡ a *ℤ c +ℤ b *ℤ c
sum_product a b c = *ℤ_comm (a +ℤ b) c ∙ product_sum c a b ∙ ap (λ t. t +ℤ c *ℤ b) (*ℤ_comm c a) ∙ ap (λ t. a *ℤ c +ℤ t) (*ℤ_comm c b)

-- (-a)·b = -(a·b)
pub negative_product : (a b : ℤ) → neg_ℤ a *ℤ b ≡ neg_ℤ (a *ℤ b)
negative_product a b = grind arith

-- a·(-b) = -(a·b)
pub product_negative : (a b : ℤ) → a *ℤ neg_ℤ b ≡ neg_ℤ (a *ℤ b)
product_negative a b = *ℤ_comm a (neg_ℤ b) ∙ negative_product b a ∙ ap neg_ℤ (*ℤ_comm b a)

-- a·(b·c) = b·(a·c)
pub product_exchange : (a b c : ℤ) → a *ℤ (b *ℤ c) ≡ b *ℤ (a *ℤ c)
product_exchange a b c = sym (product_associative a b c) ∙ ap (λ t. t *ℤ c) (*ℤ_comm a b) ∙ product_associative b a c

-- 1·a = a
pub one_product : (a : ℤ) → pos 1 *ℤ a ≡ a
one_product a = omega (arith, ints)

-- a·1 = a
pub product_one : (a : ℤ) → a *ℤ pos 1 ≡ a
product_one a = omega (arith, ints)

-- 0·a = 0
pub zero_product : (a : ℤ) → pos 0 *ℤ a ≡ pos 0
zero_product a = omega (arith, ints)

-- a·0 = 0
pub product_zero : (a : ℤ) → a *ℤ pos 0 ≡ pos 0
product_zero a = omega (arith, ints)

-- multiplies out, and sorts the factors of each product
pub ruleset ring = (
  one_product,
  product_one,
  zero_product,
  product_zero,
  product_sum,
  sum_product,
  negative_product,
  product_negative,
  product_associative,
  *ℤ_comm,
  product_exchange,
)

-- what omega needs of sums, with each product an atom
pub ruleset linear = (same_out, same_in, sum_is_lem, neg_is, lt_out, le_out, below_in, at_most_in)

-- the same, by the signs
other_factor_zero_by : (a b : ℤ) → up a * up b + down a * down b ≡ up a * down b + down a * up b → a *ℤ b ≡ pos 0 → a ≢ pos 0 → b ≡ pos 0
other_factor_zero_by a b k l p = search (arith, eq_of_mul-eq-mul_left)

-- if a product is 0 and a factor is not, the other is
pub other_factor_zero : (a b : ℤ) → a *ℤ b ≡ pos 0 → a ≢ pos 0 → b ≡ pos 0
other_factor_zero a b h n = let p = product_is a b in let q = same_out (a *ℤ b) (pos 0) h in other_factor_zero_by a b (omega arith) h n

-- a factor other than 0 cancels
pub cancel_factor : (k a b : ℤ) → k ≢ pos 0 → k *ℤ a ≡ k *ℤ b → a ≡ b
cancel_factor k a b n h =
    let z : k *ℤ (a -ℤ b) ≡ pos 0 = simp ring (omega (arith, ints, h)) in
    let d = other_factor_zero k (a -ℤ b) z n in omega (arith, ints, d)

-- a positive number is not 0
pub positive_not_zero : (n : ℕ) → 1 ≤ n → pos n ≢ pos 0
positive_not_zero n h e = omega (arith, ints)

-- a number is 0 or not
pub zero_or_not : (z : ℤ) → (z ≡ pos 0) ⊎ (z ≢ pos 0)
zero_or_not z = grind arith

-- a product is 0 only if a factor is
pub factor_zero : (a b : ℤ) → a *ℤ b ≡ pos 0 → (a ≡ pos 0) ⊎ (b ≡ pos 0)
factor_zero a b e = search (arith, zero_or_not, other_factor_zero)
