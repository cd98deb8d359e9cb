-- Places in a list of numbers.
use Rattle.std.specs.Prelude.{◌≡◌, ℕ, ◌-◌, ◌==◌, List, [], length, take, map, filter, nat_eq, Option, None, Some, Vec}
use Rattle.std.specs.List.{enumerate_from}
use Rattle.std.specs.declared.alloc.Global.{Global}
use Rattle.std.specs.HashMap.{HashMap, get}

-- the places, counted from 0, at which x stands in the list
abbrev pub places_of : List ℕ → ℕ → List ℕ
places_of xs x = map (λ p. p.0) (filter (λ p. p.1 == x) (enumerate_from 0 xs))

-- the places that are kept for a number, none if nothing is kept
abbrev pub listed : Option (Vec ℕ Global) → List ℕ
listed None = []
listed (Some places) = places.items

-- for each number its places in the list are kept
abbrev pub ArePlaces : {S : Type 0} → List ℕ → HashMap ℕ (Vec ℕ Global) S → Type 0
ArePlaces xs kept = (x : ℕ) → listed (get nat_eq kept x) ≡ places_of xs x

-- a list without its last number
abbrev pub without_last : List ℕ → List ℕ
without_last xs = take (length xs - 1) xs
