-- Whole numerators over whole denominators of any size, when two of them are the same value modulo m, and what has an inverse.
use Rattle.std.specs.Prelude.{◌≡◌, ◌≢◌, ℕ, suc, ℤ, pos, negsuc, neg_ℤ, ◌+ℤ◌, ◌-ℤ◌, ◌*ℤ◌, ◌*◌, ◌≤◌, unsigned_abs}
use Rattle.std.specs.Int.{IsGcd, ◌∣◌}

pub record Ratio : Type 0 where
  pub num : ℤ
  pub den : ℕ

-- m divides a·b' - a'·b, for the values a/b and a'/b'; for m = 0 the values are equal
pub record Same (m : ℕ) (a b : Ratio) : Type 0 where
  pub difference : m ∣ unsigned_abs (a.num *ℤ pos b.den -ℤ b.num *ℤ pos a.den)

-- a numerator over the absolute value of a denominator
abbrev pub ratio : ℤ → ℤ → Ratio
ratio n d = record { num = n; den = unsigned_abs d }

-- a whole number
abbrev pub whole : ℤ → Ratio
whole z = record { num = z; den = 1 }

-- a + b
unfoldable pub ratio_plus : Ratio → Ratio → Ratio
ratio_plus a b = record { num = a.num *ℤ pos b.den +ℤ b.num *ℤ pos a.den; den = a.den * b.den }

-- -a
unfoldable pub ratio_opposite : Ratio → Ratio
ratio_opposite a = record { num = neg_ℤ a.num; den = a.den }

-- a - b
unfoldable pub ratio_minus : Ratio → Ratio → Ratio
ratio_minus a b = record { num = a.num *ℤ pos b.den -ℤ b.num *ℤ pos a.den; den = a.den * b.den }

-- a·b
unfoldable pub ratio_times : Ratio → Ratio → Ratio
ratio_times a b = record { num = a.num *ℤ b.num; den = a.den * b.den }

-- 1 over n/d; of n = 0 nothing is said
abbrev pub inverse_of : ℤ → ℕ → Ratio
inverse_of (pos n) d = record { num = pos d; den = n }
inverse_of (negsuc n) d = record { num = neg_ℤ (pos d); den = suc n }

-- a/b
unfoldable pub ratio_over : Ratio → Ratio → Ratio
ratio_over a b = ratio_times a (inverse_of b.num b.den)

-- a fraction in lowest terms
pub record IsInLowestTerms (r : Ratio) : Type 0 where
  pub positive : 1 ≤ r.den
  pub coprime : IsGcd (unsigned_abs r.num) r.den 1

-- a denominator of a type with this modulus: at least 1, and for m above 0 without a common divisor with m above 1
pub record IsDenominator (m d : ℕ) : Type 0 where
  pub positive : 1 ≤ d
  pub coprime : m ≢ 0 → IsGcd d m 1

-- for m = 0 the numerator is not 0, and for m above 0 it has no common divisor with m above 1
pub record HasInverse (m : ℕ) (a : Ratio) : Type 0 where
  pub not_zero : m ≡ 0 → a.num ≢ pos 0
  pub coprime : m ≢ 0 → IsGcd (unsigned_abs a.num) m 1

-- a has an inverse, and r is one: r·a is 1
pub record IsInverseOf (m : ℕ) (a r : Ratio) : Type 0 where
  pub exists : HasInverse m a
  pub product : Same m (ratio_times r a) (whole (pos 1))
