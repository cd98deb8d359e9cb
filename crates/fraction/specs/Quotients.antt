-- Quotients of whole numbers, over denominators that are not negative.
use Rattle.std.specs.Prelude.{◌≡◌, ◌*◌, ◌≤◌, Bool, cond, ℕ, suc, ℤ, pos, negsuc, neg_ℤ}
use Rattle.std.specs.Int.{IsGcd}
use Rattle.exact.specs.Ratio.{Ratio}

-- n over d, the sign of d brought into the numerator
abbrev pub quotient : ℤ → ℤ → Ratio
quotient n (pos d) = record { num = n; den = d }
quotient n (negsuc d) = record { num = neg_ℤ n; den = suc d }

-- n or -n over d
abbrev pub signed_ratio : Bool → ℕ → ℕ → Ratio
signed_ratio negative n d = record { num = cond negative (neg_ℤ (pos n)) (pos n); den = d }

-- k over l is a over b in lowest terms
pub record IsLowest (a b k l : ℕ) : Type 0 where
  pub g : ℕ
  pub top : a ≡ g * k
  pub bottom : b ≡ g * l
  pub common : 1 ≤ g
  pub positive : 1 ≤ l
  pub coprime : IsGcd k l 1
