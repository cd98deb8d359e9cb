-- The whole numbers as an ordered group.
use Rattle.std.proofs.Common.{◌≡◌, ◌⊎◌, ◌+ℤ◌, ◌≤ℤ◌, ℤ, pos, neg_ℤ, List, [], ◌∷◌, ap, arith, refl}
use Rattle.std.proofs.lemmas.Int.{clamps, ints}
use Rattle.std.specs.Int.{int_max}
use Rattle.integers.specs.Lists.{total}
use Rattle.periodic_net.specs.OrderedGroups.{OrderedGroup, sum_over}

-- of two numbers one is the greater
pub one_of : (a b : ℤ) → (int_max a b ≡ a) ⊎ (int_max a b ≡ b)
one_of a b = grind arith

-- the whole numbers
abbrev pub whole_numbers : OrderedGroup ℤ
whole_numbers = record {
  zero = pos 0;
  sum = ◌+ℤ◌;
  opposite = neg_ℤ;
  greater = int_max;
  sum_zero = λ a. omega (arith, ints);
  sum_opposite = λ a. omega (arith, ints);
  sum_commutes = λ a b. omega (arith, ints);
  sum_associates = λ a b c. omega (arith, ints);
  greater_is_one = one_of;
  greater_commutes = λ a b. omega (arith, ints, clamps);
  greater_associates = λ a b c. omega (arith, ints, clamps);
  greater_kept = λ a b c. omega (arith, ints, clamps);
}

-- a sum over a list is the sum of whole numbers
pub sum_is_total : {X : Type 0} (f : X → ℤ) (xs : List X) → sum_over whole_numbers f xs ≡ total f xs
sum_is_total f [] = refl
sum_is_total f (x ∷ xs) = ap (λ (z : ℤ). f x +ℤ z) (sum_is_total f xs)

-- a number is at most another if it is so in this group
pub at_most : (a b : ℤ) → a ≤ℤ b → int_max a b ≡ b
at_most a b h = omega (arith, ints, clamps)
