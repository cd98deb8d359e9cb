-- Lists of numbers that are numbered as they appear, and the first place of each number. Places are counted from 1.
use Rattle.std.specs.Prelude.{◌≡◌, ℕ, ◌-◌, ◌<◌, ◌≤◌, List, length, slice_index}

-- the number at place u
abbrev pub number_at : List ℕ → ℕ → ℕ
number_at ns u = slice_index ns (u - 1)

-- u is a place of the list
abbrev pub IsPlace : List ℕ → ℕ → Type 0
IsPlace ns u = (1 ≤ u) × (u ≤ length ns)

-- the numbers are 1 at least, and each number below the one at u stands at a place before u
pub record AreInOrder (ns : List ℕ) : Type 0 where
  pub positive : (u : ℕ) → IsPlace ns u → 1 ≤ number_at ns u
  pub before : (u c : ℕ) → IsPlace ns u → 1 ≤ c → c < number_at ns u
      → (v : ℕ) × (v < u) × IsPlace ns v × (number_at ns v ≡ c)

-- u is the first place of the number c
pub record IsFirstPlace (ns : List ℕ) (c u : ℕ) : Type 0 where
  pub place : IsPlace ns u
  pub number : number_at ns u ≡ c
  pub least : (v : ℕ) → IsPlace ns v → number_at ns v ≡ c → u ≤ v

-- the list us has the first place of each number, and the numbers go up to its length
pub record AreFirstPlaces (ns us : List ℕ) : Type 0 where
  pub each : (c : ℕ) → IsPlace us c → IsFirstPlace ns c (number_at us c)
  pub all : (u : ℕ) → IsPlace ns u → IsPlace us (number_at ns u)
