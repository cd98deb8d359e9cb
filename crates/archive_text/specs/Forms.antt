-- What may stand in a row.
use Rattle.std.specs.Prelude.{ℕ, ℤ, ◌<◌, ◌≤◌, ◌^◌, ◌+◌, ◌*◌, List, length, All}
use Rattle.periodic_net.specs.Limits.{most_vertices, most_edges}
use Rattle.coordination.specs.Sequences.{most_shells}
use Rattle.line_text.specs.Numbers.{IsWide}

-- the numbers of a key, at most
abbrev pub most_numbers : ℕ
most_numbers = 3 + 5 * most_edges

-- one number or more, and no more than there may be, each of 128 bits
pub record IsKeyList (key : List ℤ) : Type 0 where
  pub some : 1 ≤ length key
  pub few : length key ≤ most_numbers
  pub wide : All IsWide key

-- the number of classes
abbrev pub IsCount : ℕ → Type 0
IsCount n = (1 ≤ n) × (n ≤ most_vertices)

-- a number of 32 bits
abbrev pub IsShort : ℕ → Type 0
IsShort k = k < 2 ^ 32

-- a coordination sequence: ten sizes of shells at most
pub record AreSizes (sizes : List ℕ) : Type 0 where
  pub few : length sizes ≤ most_shells
  pub short : All IsShort sizes
