-- Divisors of whole numbers, and greatest common divisors and least common multiples of lists of numbers.
use Rattle.std.specs.Prelude.{◌≡◌, ℕ, ℤ, pos, ◌*ℤ◌, List}
use Rattle.std.specs.Int.{◌∣◌}
use Rattle.std.specs.List.{Contains}

-- m divides z
abbrev pub DividesInteger : ℕ → ℤ → Type 0
DividesInteger m z = (k : ℤ) × (z ≡ pos m *ℤ k)

-- g divides each of the numbers, and each number that divides them all divides g
pub record IsGreatestDivisor (xs : List ℕ) (g : ℕ) : Type 0 where
  pub divides : (x : ℕ) → Contains xs x → g ∣ x
  pub greatest : (d : ℕ) → ((x : ℕ) → Contains xs x → d ∣ x) → d ∣ g

-- each of the numbers divides m, and m divides each number that they all divide
pub record IsLeastMultiple (xs : List ℕ) (m : ℕ) : Type 0 where
  pub multiple : (x : ℕ) → Contains xs x → x ∣ m
  pub least : (n : ℕ) → ((x : ℕ) → Contains xs x → x ∣ n) → m ∣ n
