-- Lattices, as sets of vectors: the members of a stair, and a lattice with vectors added.
use Rattle.std.specs.Prelude.{List, ◌≡◌, ℕ, ℤ, ◌↔◌}
use Rattle.integers.specs.Vectors.{Vector, HasDimension, DividesVector, plus, combination}
use Rattle.vecdim.specs.Stairs.{Stairs, InStairs}

-- the vectors of dimension d that are whole combinations of the rows
abbrev pub Members : ℕ → Stairs → Vector → Type 0
Members d S w = InStairs S w × HasDimension d w

-- these are the vectors of dimension d whose parts are multiples of b
abbrev pub AreMultiples : ℕ → ℤ → (Vector → Type 0) → Type 0
AreMultiples d b L = (w : Vector) → HasDimension d w → L w ↔ DividesVector b w

-- w is the sum of a member of L and a whole combination of these vectors
pub record IsSumWith (L : Vector → Type 0) (vs : List Vector) (w : Vector) : Type 0 where
  pub u : Vector
  pub member : L u
  pub ks : List ℤ
  pub sum : w ≡ plus u (combination ks vs)

-- the members of M are those of L, with all that these vectors generate added
pub record IsWith (L : Vector → Type 0) (vs : List Vector) (M : Vector → Type 0) : Type 0 where
  pub out : (w : Vector) → M w → IsSumWith L vs w
  pub into : (w : Vector) → IsSumWith L vs w → M w
