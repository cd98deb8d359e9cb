-- The vertices that are eliminated one after the other, from the last one down, and then placed from the first one up.
use Rattle.std.specs.Prelude.{ℕ, zero, suc, ◌+◌, ◌-◌, ◌<◌, ◌≡◌, List, get_or, length, All}
use Rattle.std.specs.Global.{Vec}
use Rattle.exact.specs.Ratio.{Ratio}
use Rattle.vecdim.specs.declared.rows.Row.{Row}
use Rattle.elimination.specs.declared.{joined.Joined.Joined, solution.Gone.Gone, terms.Pivot.Pivot}
use Rattle.elimination.specs.Listed.{Level, Entry, list_to, next_level, pivot_sum, level_entries, position_entries, position_up_to}
use Rattle.elimination.specs.Lines.{IsLastLine}
use Rattle.elimination.specs.Pivots.{IsWeightSumOf}

-- the weights and sums once i of the vertices up to n are gone
abbrev pub level_at : ℕ → Level → ℕ → Level
level_at n l zero = l
level_at n l (suc i) = next_level (n - i) (level_at n l i)

-- vertex n - i is eliminated
abbrev pub gone_entry : ℕ → ℕ → Level → ℕ → List Entry
gone_entry D n l i = level_entries D (level_at n l i) (n - i)

-- the vertices from n down to 1 are
abbrev pub gone_entries : ℕ → ℕ → Level → List Entry
gone_entries D n l = list_to n (gone_entry D n l)

-- vertex j + 1 is placed
abbrev pub placed_entry : ℕ → ℕ → Level → ℕ → List Entry
placed_entry D n l j = list_to D (position_entries (level_at n l (n - (j + 1))) (j + 1) (position_up_to j (level_at n l (n - j))))

-- the vertices from 1 up to n are
abbrev pub placed_entries : ℕ → ℕ → Level → List Entry
placed_entries D n l = list_to n (placed_entry D n l)

-- so many vertices are gone
pub record HasGone {N : Type 0} {D : ℕ} (g : Gone N D) (count : ℕ) : Type 0 where
  pub joined : length g.joined.items ≡ count
  pub sums : length g.sums.items ≡ count
  pub pivots : length g.pivots.items ≡ count

-- vertex k is eliminated at this level: its line, and its weight sum
pub record IsGone {N : Type 0} {D : ℕ} (m : ℕ) (value : N → Ratio) (fits : Ratio → Type 0) (xs : List (Joined N)) (row : Row N D) (p : Pivot N) (l : Level)
    (k : ℕ) : Type 0 where
  pub line : IsLastLine m value xs row l k
  pub pivot : IsWeightSumOf m value fits p (pivot_sum l k)

-- the first `count` are the vertices n, n - 1 and so on, each at its level
pub record AreGone {N : Type 0} {D : ℕ} (m : ℕ) (value : N → Ratio) (fits : Ratio → Type 0) (g : Gone N D) (l : Level) (n count : ℕ) : Type 0 where
  pub has : (i : ℕ) (x : Vec (Joined N)) (r : Row N D) (p : Pivot N) → i < count
      → IsGone m value fits (get_or g.joined.items i x).items (get_or g.sums.items i r) (get_or g.pivots.items i p) (level_at n l i) (n - i)

-- the first `count` are joined to vertices below n, n - 1 and so on
pub record AreBelow {N : Type 0} (xs : List (Vec (Joined N))) (n count : ℕ) : Type 0 where
  pub has : (i : ℕ) (x : Vec (Joined N)) → i < count → All (λ y. y.place < n - i) (get_or xs i x).items
