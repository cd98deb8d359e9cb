-- The staircase basis of a lattice, which is given by its membership: the row Hermite normal form
-- (H. Cohen, A Course in Computational Algebraic Number Theory, 1993, 2.4).
use Rattle.std.specs.Prelude.{Bool, IsTrue, ◌↔◌, ◌≡◌, ℕ, ℤ, pos, List, length, ◌<ℤ◌, ◌≤ℤ◌, ◌<◌, drop, slice_index_or}
use Rattle.integers.specs.Vectors.{Vector, zero_vector, parts, IsAtMost, combination}

-- the part of v at place i, counted from 0
abbrev pub part : ℕ → Vector → ℤ
part i v = slice_index_or (parts 3 v) i (pos 0)

-- the parts before the one at i are 0
abbrev pub IsZeroBefore : ℕ → Vector → Type 0
IsZeroBefore i v = (k : ℕ) → k < i → part k v ≡ pos 0

-- a member that may be the row at i of the basis: 0 before i, and positive at i
pub record MayLead (L : Vector → Type 0) (i : ℕ) (v : Vector) : Type 0 where
  pub member : L v
  pub before : IsZeroBefore i v
  pub leads : pos 0 <ℤ part i v

-- no part after place i is negative
abbrev pub NotNegativeAfter : ℕ → Vector → Type 0
NotNegativeAfter i v = (k : ℕ) → i < k → pos 0 ≤ℤ part k v

-- the row at i, counted from 0: the least leading part, and then the least remaining parts that
-- are not negative
pub record IsStair (L : Vector → Type 0) (i : ℕ) (v : Vector) : Type 0 where
  pub may : MayLead L i v
  pub least : (w : Vector) → MayLead L i w → part i v ≤ℤ part i w
  pub rest : NotNegativeAfter i v
  pub least_rest : (w : Vector) → MayLead L i w → part i w ≡ part i v → NotNegativeAfter i w
      → IsAtMost (drop i (parts 3 v)) (drop i (parts 3 w))

-- the staircase basis: one row at each place
pub record IsStaircase (L : Vector → Type 0) (d : ℕ) (rows : List Vector) : Type 0 where
  pub count : length rows ≡ d
  pub each : (i : ℕ) → i < d → IsStair L i (slice_index_or rows i zero_vector)

-- the members are exactly the whole combinations of these vectors
pub record Spans (L : Vector → Type 0) (rows : List Vector) : Type 0 where
  pub inside : (ks : List ℤ) → L (combination ks rows)
  pub all : (v : Vector) → L v → (ks : List ℤ) × (combination ks rows ≡ v)

-- sets that are given by tests and have the same members have one staircase basis
abbrev pub StaircasesAreOne : Type 0
StaircasesAreOne =
    (L M : Vector → Bool) (d : ℕ) (rows others : List Vector) → IsStaircase (λ v. IsTrue (L v)) d rows
    → IsStaircase (λ v. IsTrue (M v)) d others → ((v : Vector) → IsTrue (L v) ↔ IsTrue (M v)) → rows ≡ others
