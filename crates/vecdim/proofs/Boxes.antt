-- What fits in 128 bits: products of the parts of vectors, numbers in a box, and what a division by rows takes. What a division with a rest gives.
use Rattle.std.proofs.Common.{ℤ, ◌≤◌, ◌^◌, ◌*ℤ◌, ◌∙◌, ap, arith, sym, FitsSigned, ◌≡◌, ◌+◌, ◌*◌, ◌<◌, ◌≤ℤ◌, ◌<ℤ◌, pos, ◌-ℤ◌, ℕ, ◌+ℤ◌}
use Rattle.std.proofs.lemmas.Int.{ints, unsigned_abs-mul, fits_signed_from_abs}
use Rattle.std.specs.Int.{int_div_euclid, int_rem_euclid}
use Rattle.integers.proofs.numbers.{Division.euclid_sum, Division.euclid_rest, Ring.ring, Ring.linear}
use Rattle.std.{specs.Int.RustNames.unsigned_abs, specs.Int.w128, proofs.lemmas.Nat.mul-le, proofs.Math.Nat.mul-le-mul_left, proofs.Math.Nat.le_trans}
use Rattle.integers.proofs.vectors.Bounds.{bounded_product, fits_from_bound, abs_difference, bounded_difference}
use Rattle.integers.specs.Vectors.{Vector, vector, IsWithin}
use Rattle.vecdim.specs.{Stairs.Stairs, Steps.IsBoxed, Steps.IsBoundedStair, Steps.HasRemainder}

-- a product of a long number and a short one
pub product_within : (a b : ℤ) → unsigned_abs a ≤ 2 ^ 84 → unsigned_abs b ≤ 2 ^ 41 → unsigned_abs (a *ℤ b) ≤ 2 ^ 125
product_within a b h k = bounded_product a b (2 ^ 84) (2 ^ 41) h k

-- which fits
pub product_fits : (a b : ℤ) → unsigned_abs a ≤ 2 ^ 84 → unsigned_abs b ≤ 2 ^ 41 → FitsSigned w128 (a *ℤ b)
product_fits a b h k = fits_from_bound (a *ℤ b) (2 ^ 125) (omega arith) (product_within a b h k)

-- a product of two numbers of at most 2^62
pub square_within : (a b : ℤ) → unsigned_abs a ≤ 2 ^ 62 → unsigned_abs b ≤ 2 ^ 62 → unsigned_abs (a *ℤ b) ≤ 2 ^ 124
square_within a b h k = bounded_product a b (2 ^ 62) (2 ^ 62) h k

-- which fits
pub square_fits : (a b : ℤ) → unsigned_abs a ≤ 2 ^ 62 → unsigned_abs b ≤ 2 ^ 62 → FitsSigned w128 (a *ℤ b)
square_fits a b h k = fits_from_bound (a *ℤ b) (2 ^ 124) (omega arith) (square_within a b h k)

-- the absolute value of a number from 0 to m
abs_to : (z m : ℤ) → m ≤ℤ pos (2 ^ 60) → pos 0 ≤ℤ z → z ≤ℤ m → unsigned_abs z ≤ 2 ^ 60
abs_to z m h i j = omega (arith, ints)

-- what `less_times` computes fits in 128 bits
pub boxed_product : (a q b m : ℤ) → m ≤ℤ pos (2 ^ 60) → pos 0 ≤ℤ a → a ≤ℤ m → pos 0 ≤ℤ b → b ≤ℤ m → pos 0 ≤ℤ q → q ≤ℤ m
    → FitsSigned w128 (q *ℤ b) × FitsSigned w128 (a -ℤ q *ℤ b)
boxed_product a q b m h af at bf bt qf qt =
    let u = abs_to a m h af at in let v = abs_to b m h bf bt in let w = abs_to q m h qf qt in
    let p : unsigned_abs (q *ℤ b) ≤ 2 ^ 60 * 2 ^ 60 = rw unsigned_abs-mul (mul-le (unsigned_abs q) (unsigned_abs b) (2 ^ 60) (2 ^ 60) w v) in
    let r : unsigned_abs (a -ℤ q *ℤ b) ≤ unsigned_abs a + unsigned_abs (q *ℤ b) = abs_difference a (q *ℤ b) in
    (fits_signed_from_abs w128 (q *ℤ b) (omega arith), fits_signed_from_abs w128 (a -ℤ q *ℤ b) (omega arith))

-- a number from 0 to m fits
pub fits_within : (z m : ℤ) → m ≤ℤ pos (2 ^ 60) → pos 0 ≤ℤ z → z ≤ℤ m → FitsSigned w128 z
fits_within z m h i j = let u = abs_to z m h i j in fits_signed_from_abs w128 z (omega arith)

-- below is at most
pub at_most : (z m : ℤ) → z <ℤ m → z ≤ℤ m
at_most z m h = omega (arith, ints)

-- what is not negative and not 0 is positive
pub not_zero : (z : ℤ) → pos 0 ≤ℤ z → (z ≡ pos 0 → ⊥) → pos 0 <ℤ z
not_zero z h n = omega (arith, ints)

-- a rest is nearer to 0
pub rests_fall : (r z : ℤ) → pos 0 ≤ℤ r → r <ℤ z → unsigned_abs r < unsigned_abs z
rests_fall r z h i = omega (arith, ints)

-- at most, and at most again
pub up_to : (x y z : ℤ) → x ≤ℤ y → y ≤ℤ z → x ≤ℤ z
up_to x y z h i = omega (arith, ints)

-- the three parts fit in 128 bits
pub record PartsFit (v : Vector) : Type 0 where
  pub x : FitsSigned w128 v.x
  pub y : FitsSigned w128 v.y
  pub z : FitsSigned w128 v.z

-- the parts of a vector in the box fit
pub boxed_fits : {m : ℤ} {v : Vector} → m ≤ℤ pos (2 ^ 60) → IsBoxed m v → PartsFit v
boxed_fits {m} {v} h b = record {
  x = fits_within v.x m h b.x_from b.x_to;
  y = fits_within v.y m h b.y_from (at_most v.y m b.y_to);
  z = fits_within v.z m h b.z_from (at_most v.z m b.z_to);
}

-- below, and at most
below : (x y z : ℤ) → x <ℤ y → y ≤ℤ z → x <ℤ z
below x y z h i = omega (arith, ints)

-- 0 is at most 0
zero_most : pos 0 ≤ℤ pos 0
zero_most = omega (arith, ints)

-- the rows are in the box
pub boxed_first : {m : ℤ} {S : Stairs} → IsBoundedStair m S → IsBoxed m (vector S.first_x S.first_y S.first_z)
boxed_first {m} {S} k = let r = k.reduced in let b = k.second_y_to in let c = k.third_z_to in
    record {
      x_from = at_most (pos 0) S.first_x r.first_x;
      x_to = k.first_x_to;
      y_from = r.first_y_from;
      y_to = below S.first_y S.second_y m r.first_y_to b;
      z_from = r.first_z_from;
      z_to = below S.first_z S.third_z m r.first_z_to c;
    }

-- the second row, one place to the left
pub boxed_second : {m : ℤ} {S : Stairs} → IsBoundedStair m S → IsBoxed m (vector S.second_y S.second_z (pos 0))
boxed_second {m} {S} k = let r = k.reduced in record {
  x_from = at_most (pos 0) S.second_y r.second_y;
  x_to = k.second_y_to;
  y_from = r.second_z_from;
  y_to = below S.second_z S.third_z m r.second_z_to k.third_z_to;
  z_from = zero_most;
  z_to = k.m_from;
}

-- the third row, two places to the left
pub boxed_third : {m : ℤ} {S : Stairs} → IsBoundedStair m S → IsBoxed m (vector S.third_z (pos 0) (pos 0))
boxed_third {m} {S} k = search (arith, at_most, zero_most)

-- three rests are in the box
pub boxed_rests : {m x y z : ℤ} → pos 0 ≤ℤ x → x <ℤ m → pos 0 ≤ℤ y → y <ℤ m → pos 0 ≤ℤ z → z <ℤ m → IsBoxed m (vector x y z)
boxed_rests {m} {x} {y} {z} a b c d e f = record { x_from = a; x_to = at_most x m b; y_from = c; y_to = d; z_from = e; z_to = f }

-- the two later parts, one place to the left
pub boxed_left : {m : ℤ} {v : Vector} → pos 0 <ℤ m → IsBoxed m v → IsBoxed m (vector v.y v.z (pos 0))
boxed_left {m} {v} h b = boxed_rests b.y_from b.y_to b.z_from b.z_to zero_most h

-- the second part alone, in the first place
pub boxed_front : {m : ℤ} {v : Vector} → pos 0 <ℤ m → IsBoxed m v → IsBoxed m (vector v.y (pos 0) (pos 0))
boxed_front {m} {v} h b = boxed_rests b.y_from b.y_to zero_most h zero_most h

-- what is at most 2^61 fits
pub small_fits : (z : ℤ) → unsigned_abs z ≤ 2 ^ 61 → FitsSigned w128 z
small_fits z h = fits_signed_from_abs w128 z (omega arith)

-- a vector in the box has parts of at most 2^60
pub boxed_within : {m : ℤ} {v : Vector} → m ≤ℤ pos (2 ^ 60) → IsBoxed m v → IsWithin (2 ^ 60) v
boxed_within {m} {v} h b = (abs_to v.x m h b.x_from b.x_to, abs_to v.y m h b.y_from (at_most v.y m b.y_to), abs_to v.z m h b.z_from (at_most v.z m b.z_to))

-- what is at most 2^60 is at most 2^61
weaker : (z : ℤ) → unsigned_abs z ≤ 2 ^ 60 → unsigned_abs z ≤ 2 ^ 61
weaker z h = omega arith

-- the first row is a vector
pub first_small : {m : ℤ} {S : Stairs} → IsBoundedStair m S → IsWithin (2 ^ 61) (vector S.first_x S.first_y S.first_z)
first_small {m} {S} k = let w = boxed_within k.m_to (boxed_first k) in (weaker S.first_x w.0, weaker S.first_y w.1, weaker S.first_z w.2)

-- and so is the second
pub second_small : {m : ℤ} {S : Stairs} → IsBoundedStair m S → IsWithin (2 ^ 61) (vector (pos 0) S.second_y S.second_z)
second_small {m} {S} k = let w = boxed_within k.m_to (boxed_second k) in (omega arith, weaker S.second_y w.0, weaker S.second_z w.1)

-- a product that `less` takes off fits
pub taken_fits : (b k : ℤ) → unsigned_abs b ≤ 2 ^ 60 → unsigned_abs k ≤ 2 ^ 61 → FitsSigned w128 (b *ℤ k)
taken_fits b k h i = fits_from_bound (b *ℤ k) (2 ^ 121) (omega arith) (bounded_product b k (2 ^ 60) (2 ^ 61) h i)

-- and what it leaves is small
pub less_within : (z b k : ℤ) (n : ℕ) → unsigned_abs z ≤ n → unsigned_abs b ≤ 2 ^ 60 → unsigned_abs k ≤ 2 ^ 61 → unsigned_abs (z -ℤ b *ℤ k) ≤ n + 2 ^ 121
less_within z b k n h i j = bounded_difference z (b *ℤ k) n (2 ^ 121) h (bounded_product b k (2 ^ 60) (2 ^ 61) i j)

-- so it fits
pub less_fits : (z b k : ℤ) → unsigned_abs z ≤ 2 ^ 125 → unsigned_abs b ≤ 2 ^ 60 → unsigned_abs k ≤ 2 ^ 61 → FitsSigned w128 (z -ℤ b *ℤ k)
less_fits z b k h i j = fits_from_bound (z -ℤ b *ℤ k) (2 ^ 125 + 2 ^ 121) (omega arith) (less_within z b k (2 ^ 125) h i j)

-- from a part of a vector it leaves what may be taken off again
pub less_again : (z b k : ℤ) → unsigned_abs z ≤ 2 ^ 61 → unsigned_abs b ≤ 2 ^ 60 → unsigned_abs k ≤ 2 ^ 61 → unsigned_abs (z -ℤ b *ℤ k) ≤ 2 ^ 125
less_again z b k h i j = let s = less_within z b k (2 ^ 61) h i j in omega (arith, s)

-- a part of a vector is one of these
pub part_taken : (z : ℤ) → unsigned_abs z ≤ 2 ^ 61 → unsigned_abs z ≤ 2 ^ 125
part_taken z h = omega (arith, h)

-- what is below a pivot is small
pub below_small : (b m : ℤ) → pos 0 ≤ℤ b → b <ℤ m → m ≤ℤ pos (2 ^ 60) → unsigned_abs b ≤ 2 ^ 60
below_small b m h i j = omega (arith, ints, h, i, j)

-- a number from 0 to below m, and 1 more, is at most m
one_more : (b m : ℤ) → pos 0 ≤ℤ b → b <ℤ m → 1 + unsigned_abs b ≤ unsigned_abs m
one_more b m h k = omega (arith, ints)

-- z - b·k is at most n times m, for b below m
pub second_bound : (z b k m : ℤ) (n : ℕ) → pos 0 ≤ℤ b → b <ℤ m → unsigned_abs z ≤ n → unsigned_abs k ≤ n → unsigned_abs (z -ℤ b *ℤ k) ≤ n * unsigned_abs m
second_bound z b k m n h i j l =
    le_trans (bounded_difference z (b *ℤ k) n (unsigned_abs b * n) j (bounded_product b k (unsigned_abs b) n (omega arith) l))
    (more (unsigned_abs b) (unsigned_abs m) (one_more b m h i))
  where
    more : (b m : ℕ) → 1 + b ≤ m → n + b * n ≤ n * m
    more b m l = let p : n * (1 + b) ≤ n * m = mul-le-mul_left n l in omega arith

-- z - c·k - f·l is at most 2·n times m, for c and f below m
pub third_bound : (z c k f l m : ℤ) (n : ℕ) → pos 0 ≤ℤ c → c <ℤ m → pos 0 ≤ℤ f → f <ℤ m → unsigned_abs z ≤ n → unsigned_abs k ≤ n → unsigned_abs l ≤ n
    → unsigned_abs ((z -ℤ c *ℤ k) -ℤ f *ℤ l) ≤ 2 * n * unsigned_abs m
third_bound z c k f l m n hc ic hf jf hz hk hl =
    le_trans
    (bounded_difference (z -ℤ c *ℤ k) (f *ℤ l) (n * unsigned_abs m) (unsigned_abs f * n) (second_bound z c k m n hc ic hz hk)
    (bounded_product f l (unsigned_abs f) n (omega arith) hl)) (more (unsigned_abs f) (unsigned_abs m) (one_more f m hf jf))
  where
    more : (b m : ℕ) → 1 + b ≤ m → n * m + b * n ≤ 2 * n * m
    more b m l = grind (arith, mul-le-mul_left)

-- what is above a number that is not negative is positive
pub above_from : (c m : ℤ) → pos 0 ≤ℤ c → c <ℤ m → pos 0 <ℤ m
above_from c m h i = omega (arith, ints, h, i)

-- the vector is divided
pub divided_is : {S : Stairs} {v q r : Vector} → (pos 0 ≤ℤ r.x) × (r.x <ℤ S.first_x) × (v.x ≡ r.x +ℤ S.first_x *ℤ q.x)
    → (pos 0 ≤ℤ r.y) × (r.y <ℤ S.second_y) × (v.y -ℤ S.first_y *ℤ q.x ≡ r.y +ℤ S.second_y *ℤ q.y)
    → (pos 0 ≤ℤ r.z) × (r.z <ℤ S.third_z) × ((v.z -ℤ S.first_z *ℤ q.x) -ℤ S.second_z *ℤ q.y ≡ r.z +ℤ S.third_z *ℤ q.z) → HasRemainder S v q r
divided_is x y z = record { low = (x.0, y.0, z.0); high = (x.1, y.1, z.1); x = x.2; y = y.2; z = z.2 }

-- what a division of a number that is not negative by a positive one gives
pub record IsEuclid (a b q r : ℤ) : Type 0 where
  pub from : pos 0 ≤ℤ q
  pub to : q ≤ℤ a
  pub rest_from : pos 0 ≤ℤ r
  pub rest_to : r <ℤ b
  pub rest : r ≡ a -ℤ q *ℤ b

-- the quotient of a number that is not negative is from 0 to that number
euclid_within : (a b : ℤ) → pos 0 ≤ℤ a → pos 0 <ℤ b → (pos 0 ≤ℤ int_div_euclid a b) × (int_div_euclid a b ≤ℤ a)
euclid_within a b h i = grind arith

-- what the code divides
pub euclid_is : {a b q r : ℤ} → pos 0 ≤ℤ a → pos 0 <ℤ b → q ≡ int_div_euclid a b → r ≡ int_rem_euclid a b → IsEuclid a b q r
euclid_is {a} {b} {q} {r} h i e f =
    let w = euclid_within a b h i in let s = euclid_rest a b i in
    record {
      from = rw e w.0;
      to = rw e w.1;
      rest_from = rw f s.0;
      rest_to = rw f s.1;
      rest = f ∙ moved a b (int_div_euclid a b) (int_rem_euclid a b) (euclid_sum a b i) ∙ ap (λ t. a -ℤ t *ℤ b) (sym e);
    }
  where
    moved : (a b q r : ℤ) → a ≡ r +ℤ b *ℤ q → r ≡ a -ℤ q *ℤ b
    moved a b q r e = simp ring (omega (arith, linear, e))
