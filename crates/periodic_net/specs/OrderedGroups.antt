-- Groups with a total order: the fractions are one, and so are the real numbers, if it is taken that of two the greater is known.
use Rattle.std.specs.Prelude.{◌≡◌, ◌⊎◌, ℕ, zero, suc, ℤ, pos, negsuc, List, [], ◌∷◌}
use Rattle.integers.specs.Vectors.{Vector}

-- a commutative group with a total order that sums keep: of two values one is the greater
pub record OrderedGroup (Value : Type 0) : Type 0 where
  pub zero : Value
  pub sum : Value → Value → Value
  pub opposite : Value → Value
  pub greater : Value → Value → Value
  pub sum_zero : (a : Value) → sum a zero ≡ a
  pub sum_opposite : (a : Value) → sum a (opposite a) ≡ zero
  pub sum_commutes : (a b : Value) → sum a b ≡ sum b a
  pub sum_associates : (a b c : Value) → sum (sum a b) c ≡ sum a (sum b c)
  pub greater_is_one : (a b : Value) → (greater a b ≡ a) ⊎ (greater a b ≡ b)
  pub greater_commutes : (a b : Value) → greater a b ≡ greater b a
  pub greater_associates : (a b c : Value) → greater (greater a b) c ≡ greater a (greater b c)
  pub greater_kept : (a b c : Value) → greater (sum a c) (sum b c) ≡ sum (greater a b) c

-- a - b
abbrev pub difference : {V : Type 0} → OrderedGroup V → V → V → V
difference A a b = A.sum a (A.opposite b)

-- the sum of f over the list
abbrev pub sum_over : {V X : Type 0} → OrderedGroup V → (X → V) → List X → V
sum_over A f [] = A.zero
sum_over A f (x ∷ xs) = A.sum (f x) (sum_over A f xs)

-- n times a
abbrev pub natural_multiple : {V : Type 0} → OrderedGroup V → ℕ → V → V
natural_multiple A zero a = A.zero
natural_multiple A (suc n) a = A.sum a (natural_multiple A n a)

-- a whole number times a
abbrev pub multiple : {V : Type 0} → OrderedGroup V → ℤ → V → V
multiple A (pos n) a = natural_multiple A n a
multiple A (negsuc n) a = A.opposite (natural_multiple A (suc n) a)

-- one coordinate of each of the three vectors of a lattice; in dimension 2 the third counts for nothing
pub record LatticeIn (V : Type 0) : Type 0 where
  pub first : V
  pub second : V
  pub third : V

-- the sum of t_i times the i-th vector
abbrev pub along : {V : Type 0} → OrderedGroup V → LatticeIn V → Vector → V
along A b t = A.sum (multiple A t.x b.first) (A.sum (multiple A t.y b.second) (multiple A t.z b.third))
