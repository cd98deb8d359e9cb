-- Lists of keys, each of which stands once.
use Rattle.std.specs.Prelude.{◌≡◌, ◌↔◌, ◌⊎◌, ◌≢◌, ℤ, List, map, Contains, AllPairs}
use Rattle.std.specs.Borrow.{Bor}
use Rattle.indexmap.specs.IndexSet.{IndexSet}

-- the lists in a set of slices
abbrev pub lists_in : {S : Type 0} → IndexSet (Bor (List ℤ)) S → List (List ℤ)
lists_in keys = map (λ (b : Bor (List ℤ)). b.now) keys.keys

-- the new keys are the old ones and this one, and each stands once where it did so before
pub record IsPutIn (old : List (List ℤ)) (key : List ℤ) (new : List (List ℤ)) : Type 0 where
  pub exact : (xs : List ℤ) → Contains new xs ↔ (Contains old xs ⊎ (key ≡ xs))
  pub once : AllPairs (λ xs ys. xs ≢ ys) old → AllPairs (λ xs ys. xs ≢ ys) new
