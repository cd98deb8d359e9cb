-- Of the vectors that are orthogonal to a set there is one that is coprime, starts positive and ends first: its normal.
use Rattle.std.proofs.Common.{◌≡◌, ◌≢◌, ◌⊎◌, inl, inr, ℕ, ℤ, pos, ◌-ℤ◌, ◌+ℤ◌, ◌*ℤ◌, ap, sym, arith}
use Rattle.integers.specs.Vectors.{Vector, zero_vector, StartsPositive, HasDimension, minus, times, dot}
use Rattle.integers.proofs.numbers.Ring.{ring, linear, zero_or_not}
use Rattle.integers.proofs.vectors.Laws.{vector_equal, minus_dimension, times_dimension, equal_of_minus}
use Rattle.integers.proofs.vectors.{Directions.IsCoprime, Directions.one_direction, Independence.zero_or_other}
use Rattle.periodic_net.specs.Split.{EndsBy}

-- (m·c - n·e)·v is 0 if c·v and e·v are
dot_difference : (m n c1 c2 c3 e1 e2 e3 v1 v2 v3 : ℤ) → c1 *ℤ v1 +ℤ c2 *ℤ v2 +ℤ c3 *ℤ v3 ≡ pos 0 → e1 *ℤ v1 +ℤ e2 *ℤ v2 +ℤ e3 *ℤ v3 ≡ pos 0
    → (m *ℤ c1 -ℤ n *ℤ e1) *ℤ v1 +ℤ (m *ℤ c2 -ℤ n *ℤ e2) *ℤ v2 +ℤ (m *ℤ c3 -ℤ n *ℤ e3) *ℤ v3 ≡ pos 0
dot_difference m n c1 c2 c3 e1 e2 e3 v1 v2 v3 e f =
    let p = ap (λ t. m *ℤ t) e in let q = ap (λ t. n *ℤ t) f in
    simp ring (omega (arith, linear, simp ring at p, simp ring at q))

-- m·n - n·m is 0
crossed : (m n : ℤ) → m *ℤ n -ℤ n *ℤ m ≡ pos 0
crossed m n = simp ring (omega (arith, linear))

-- and so is a difference of multiples of 0
no_part : (m n x y : ℤ) → x ≡ pos 0 → y ≡ pos 0 → m *ℤ x -ℤ n *ℤ y ≡ pos 0
no_part m n x y e f = search arith

-- a vector ends by place 1 if its last part is 0
ends_at_one : (v : Vector) → v.z ≡ pos 0 → EndsBy 1 v
ends_at_one v h k p = search arith

-- and by place 0 if the last two are
ends_at_zero : (v : Vector) → v.y ≡ pos 0 → v.z ≡ pos 0 → EndsBy 0 v
ends_at_zero v h k p q = search arith

-- what starts positive is not 0
not_zero : (v : Vector) → StartsPositive v → v ≢ zero_vector
not_zero v h e = cc

-- c is orthogonal to the vectors that P holds of
abbrev pub IsOrthogonalToAll : (Vector → Type 0) → Vector → Type 0
IsOrthogonalToAll P c = (v : Vector) → P v → dot c v ≡ pos 0

-- c is the normal of the vectors that P holds of
pub record IsNormalTo (d : ℕ) (P : Vector → Type 0) (c : Vector) : Type 0 where
  pub dimension : HasDimension d c
  pub orthogonal : IsOrthogonalToAll P c
  pub positive : StartsPositive c
  pub lowest : (e : Vector) (k : ℕ) → HasDimension d e → IsOrthogonalToAll P e → e ≢ zero_vector → EndsBy k e → EndsBy k c
  pub coprime : IsCoprime c

-- two vectors with a multiple in common
record HaveMultiple (c e : Vector) : Type 0 where
  m : ℤ
  n : ℤ
  some : n ≢ pos 0
  same : times m e ≡ times n c

module _ (d : ℕ) (P : Vector → Type 0) (c e : Vector) (h : IsNormalTo d P c) (k : IsNormalTo d P e) where
  -- a combination of two normals
  abbrev between : ℤ → ℤ → Vector
  between m n = minus (times m e) (times n c)

  between_orthogonal : (m n : ℤ) → IsOrthogonalToAll P (between m n)
  between_orthogonal m n v w = dot_difference m n e.x e.y e.z c.x c.y c.z v.x v.y v.z (k.orthogonal v w) (h.orthogonal v w)

  between_dimension : (m n : ℤ) → HasDimension d (between m n)
  between_dimension m n = grind (arith, minus_dimension, times_dimension)

  -- one that ends before both do is 0
  ends_early : (m n : ℤ) (i : ℕ) → EndsBy i (between m n) → ¬ EndsBy i c → between m n ≡ zero_vector
  ends_early m n i ends none = by (zero_or_other (between m n))
    where
      by : (between m n ≡ zero_vector) ⊎ (between m n ≢ zero_vector) → between m n ≡ zero_vector
      by (inl z) = z
      by (inr some) = absurd (none (h.lowest (between m n) i (between_dimension m n) (between_orthogonal m n) some ends))

  -- where the one ends, the other ends
  ends_too : (i : ℕ) → EndsBy i c → EndsBy i e
  ends_too i ends = k.lowest c i h.dimension h.orthogonal (not_zero c h.positive) ends

  ends_back : (i : ℕ) → EndsBy i e → EndsBy i c
  ends_back i ends = h.lowest e i k.dimension k.orthogonal (not_zero e k.positive) ends

  from_zero : (m n : ℤ) → n ≢ pos 0 → between m n ≡ zero_vector → HaveMultiple c e
  from_zero m n some z = record { m = m; n = n; some = some; same = equal_of_minus (times m e) (times n c) z }

  -- so they have a multiple in common
  on_one_line : HaveMultiple c e
  on_one_line = by (zero_or_not c.z) (zero_or_not c.y)
    where
      by : (c.z ≡ pos 0) ⊎ (c.z ≢ pos 0) → (c.y ≡ pos 0) ⊎ (c.y ≢ pos 0) → HaveMultiple c e
      by (inr z) _ =
          let other : e.z ≢ pos 0 = λ w. z (ends_back 1 (ends_at_one e w) 2 (omega arith)) in
          let ends = ends_at_one (between c.z e.z) (crossed c.z e.z) in
          from_zero c.z e.z other (ends_early c.z e.z 1 ends (λ x. z (x 2 (omega arith))))
      by (inl z) (inr y) =
          let w : e.z ≡ pos 0 = ends_too 1 (ends_at_one c z) 2 (omega arith) in
          let other : e.y ≢ pos 0 = λ v. y (ends_back 0 (ends_at_zero e v w) 1 (omega arith)) in
          let ends = ends_at_zero (between c.y e.y) (crossed c.y e.y) (no_part c.y e.y e.z c.z w z) in
          from_zero c.y e.y other (ends_early c.y e.y 0 ends (λ x. y (x 1 (omega arith))))
      by (inl z) (inl y) =
          let w : e.z ≡ pos 0 = ends_too 0 (ends_at_zero c y z) 2 (omega arith) in
          let v : e.y ≡ pos 0 = ends_too 0 (ends_at_zero c y z) 1 (omega arith) in
          let other : e.x ≢ pos 0 = λ u. not_zero e k.positive (vector_equal u v w) in
          from_zero c.x e.x other (vector_equal (crossed c.x e.x) (no_part c.x e.x e.y c.y v y) (no_part c.x e.x e.z c.z w z))

  -- and are one
  pub normal_is_one : c ≡ e
  normal_is_one =
      let l = on_one_line in
      one_direction l.n l.m c e l.some (sym l.same) h.coprime k.coprime h.positive k.positive
