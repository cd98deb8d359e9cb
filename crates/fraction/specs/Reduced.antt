-- Reduced fractions of small parts, and the values that they reach.
use Rattle.std.specs.Prelude.{◌≤◌, ◌-◌, ◌^◌, ℕ, unsigned_abs}
use Rattle.exact.specs.Ratio.{Ratio, Same, IsInLowestTerms}

-- numbers of at most 2^62 - 1
abbrev pub AreSmall : ℕ → ℕ → Type 0
AreSmall n d = (n ≤ 2 ^ 62 - 1) × (d ≤ 2 ^ 62 - 1)

-- both parts are at most 2^62 - 1 in absolute value
abbrev pub HasSmallParts : Ratio → Type 0
HasSmallParts r = AreSmall (unsigned_abs r.num) r.den

-- a fraction in lowest terms, of small parts, has the value r
pub record IsNarrow (r : Ratio) : Type 0 where
  pub reduced : Ratio
  pub lowest : IsInLowestTerms reduced
  pub small : HasSmallParts reduced
  pub same : Same 0 reduced r
