-- The remainders modulo a staircase, their numbers in a box, and that they tell the classes.
use Rattle.std.proofs.Common.{◌≡◌, ◌⊎◌, inl, inr, ℕ, ◌+◌, ◌*◌, ◌/◌, ◌%◌, ◌<◌, ◌≤◌, pos, ap, ◌∙◌, arith, ℤ, ◌+ℤ◌, ◌-ℤ◌, ◌*ℤ◌, sym, subst}
use Rattle.std.proofs.lemmas.Nat.{le-div, div_below, mul-add-lt, div-mul-add, mod-mul-add}
use Rattle.std.specs.Prelude.{◌<ℤ◌, unsigned_abs, ◌≤ℤ◌}
use Rattle.std.proofs.{Math.Decide.dec_lt, Math.Nat.div-mul-le_self, lemmas.Int.ints}
use Prim.{Dec, yes, no}
use Rattle.integers.specs.Vectors.{Vector, vector, parts, IsBelow, minus, HasDimension}
use Rattle.integers.proofs.{vectors.Directions.Precedes, vectors.Directions.parts_below, counting.Numbering.made_again, counting.Numbering.remainder_below}
use Rattle.integers.proofs.{numbers.Ring.ring, numbers.Ring.linear, vectors.Laws.vector_equal, vectors.Laws.minus_dimension}
use Rattle.vecdim.specs.{Stairs.Stairs, Stairs.InStairs, Stairs.HasStairShape, Stairs.IsReducedStair, Stairs.IsRemainder, Stairs.size_of, Lattices.Members}
use Rattle.sublattice.specs.Remainders.{HasNumber, number_of, remainder_with, IsRemainderOf}
use Rattle.sublattice.specs.{Laws.AreNumbered, Laws.RemaindersAreNumbered, Laws.RemaindersTellClasses, Digits.HasDigits, Residues.Residue}
use Rattle.sublattice.proofs.{Residues.member_of_residue, Residues.residue_of_member, Residues.residue, RowNumbers.shape_pivots}

-- quotients rise
quotients_rise : (s t m : ℕ) → 1 ≤ m → s ≤ t → s / m ≤ t / m
quotients_rise s t m h l = le-div (s / m) t m (omega arith) (let q = div-mul-le_self s m in omega (arith, q))

-- of numbers with one quotient the lesser has the lesser remainder
remainders_rise : (s t m : ℕ) → 1 ≤ m → s < t → s / m ≡ t / m → s % m < t % m
remainders_rise s t m h l e = search arith

-- a product of positive numbers
pub product_positive : (n l : ℕ) → 1 ≤ n → 1 ≤ l → 1 ≤ n * l
product_positive n l h k = let p = mul-add-lt 0 l 0 n (omega arith) (omega arith) in omega (arith, p)

module _ (n l : ℕ) (hn : 1 ≤ n) (hl : 1 ≤ l) where
  -- the number of the vectors with a first part
  abbrev w : ℕ
  w = n * l

  hw : 1 ≤ w
  hw = product_positive n l hn hl

  -- the vector with a number
  abbrev pub box_vector : ℕ → Vector
  box_vector t = vector (pos (t / (n * l))) (pos (t % (n * l) / l)) (pos (t % (n * l) % l))

  -- the number of a vector
  abbrev pub box_number : ℕ → ℕ → ℕ → ℕ
  box_number i j k = i * (n * l) + (j * l + k)

  -- the parts of the vector with a number are within the sides
  pub first_below : (m t : ℕ) → t < m * (n * l) → t / (n * l) < m
  first_below m t h = div_below t w m (omega (arith, hw)) h

  pub second_below : (t : ℕ) → t % (n * l) / l < n
  second_below t = div_below (t % w) l n (omega arith) (remainder_below t w hw)

  pub third_below : (t : ℕ) → t % (n * l) % l < l
  third_below t = remainder_below (t % w) l hl

  -- the number of a vector of the box is below the size of the box
  pub number_below : (m i j k : ℕ) → i < m → j < n → k < l → box_number i j k < m * (n * l)
  number_below m i j k a b c = search (arith, mul-add-lt)

  -- the vector with the number of a vector
  pub vector_there : (i j k : ℕ) → j < n → k < l → box_vector (box_number i j k) ≡ vector (pos i) (pos j) (pos k)
  vector_there i j k b c = search (arith, mul-add-lt, div-mul-add, mod-mul-add)

  -- the number of the vector with a number
  pub number_back : (t : ℕ) → box_number (t / (n * l)) (t % (n * l) / l) (t % (n * l) % l) ≡ t
  number_back t = ap (λ (z : ℕ). (t / w) * w + z) (made_again (t % w) l hl) ∙ made_again t w hw

  -- vectors rise with their numbers
  pub vectors_rise : (s t : ℕ) → s < t → IsBelow (parts 3 (box_vector s)) (parts 3 (box_vector t))
  vectors_rise s t h = parts_below (box_vector s) (box_vector t) (first (dec_lt (s / w) (t / w)))
    where
      first : Dec (s / w < t / w) → Precedes (box_vector s) (box_vector t)
      first (yes a) = inl (omega (arith, ints, a))
      first (no a) =
          let q = quotients_rise s t w hw (omega (arith, h)) in let e : s / w ≡ t / w = omega (arith, a, q) in
          let r = remainders_rise s t w hw h e in inr (ap pos e, second r (dec_lt (s % w / l) (t % w / l)))
        where
          second : s % w < t % w → Dec (s % w / l < t % w / l)
              → (pos (s % w / l) <ℤ pos (t % w / l)) ⊎ ((pos (s % w / l) ≡ pos (t % w / l)) × (pos (s % w % l) <ℤ pos (t % w % l)))
          second r (yes b) = inl (omega (arith, ints, b))
          second r (no b) =
              let q = quotients_rise (s % w) (t % w) l hl (omega (arith, r)) in
              let e : s % w / l ≡ t % w / l = omega (arith, b, q) in
              let z = remainders_rise (s % w) (t % w) l hl r e in inr (ap pos e, omega (arith, ints, z))

-- a positive number has a size of at least 1
pub size_positive : (z : ℤ) → pos 0 <ℤ z → 1 ≤ unsigned_abs z
size_positive z k = search arith

-- a number from 0 to below p, by its size
pub natural_part : (z p : ℤ) → pos 0 ≤ℤ z → z <ℤ p → (z ≡ pos (unsigned_abs z)) × (unsigned_abs z < unsigned_abs p)
natural_part z p k q = search arith

-- a natural number below the size of a positive number is below it
pub below_pivot : (n : ℕ) (p : ℤ) → pos 0 <ℤ p → n < unsigned_abs p → pos n <ℤ p
below_pivot n p k q = search arith

-- 0 is no greater than a natural number
pub from_zero : (n : ℕ) → pos 0 ≤ℤ pos n
from_zero n = omega (arith, ints)

module _ (d : ℕ) (S : Stairs) (s : HasStairShape d S) where
  second_positive : 1 ≤ unsigned_abs S.second_y
  second_positive = size_positive S.second_y s.reduced.second_y

  third_positive : 1 ≤ unsigned_abs S.third_z
  third_positive = size_positive S.third_z s.reduced.third_z

  module _ (r : Vector) (q : IsRemainder d S r) where
    x_part : (r.x ≡ pos (unsigned_abs r.x)) × (unsigned_abs r.x < unsigned_abs S.first_x)
    x_part = natural_part r.x S.first_x q.low.0 q.high.0

    y_part : (r.y ≡ pos (unsigned_abs r.y)) × (unsigned_abs r.y < unsigned_abs S.second_y)
    y_part = natural_part r.y S.second_y q.low.1 q.high.1

    z_part : (r.z ≡ pos (unsigned_abs r.z)) × (unsigned_abs r.z < unsigned_abs S.third_z)
    z_part = natural_part r.z S.third_z q.low.2 q.high.2

    -- the number of a remainder is below the size
    pub remainder_number_below : number_of S r < size_of S
    remainder_number_below = grind (arith, number_below, second_positive, third_positive, x_part, y_part, z_part)

    -- and the remainder stands there
    pub remainder_there : remainder_with S (number_of S r) ≡ r
    remainder_there = search (arith, vector_there, second_positive, third_positive, y_part, z_part, vector_equal, x_part)

  -- what stands at a number is a remainder
  pub remainder_stands : (n : ℕ) → n < size_of S → IsRemainder d S (remainder_with S n)
  remainder_stands n h = search (arith, third_below, second_positive, third_positive, from_zero, below_pivot, first_below, second_below)

  pub are_numbered : AreNumbered d S
  are_numbered = search (arith, remainder_number_below, remainder_stands, remainder_there, number_back, second_positive, third_positive, vectors_rise)

-- the remainders are numbered
pub remainders_numbered : RemaindersAreNumbered
remainders_numbered d S s = are_numbered d S s

-- a factor of a product of positive numbers is at most the product
pub factors_small : (n : ℕ) (S : Stairs) → IsReducedStair S → size_of S ≤ n → (unsigned_abs S.first_x ≤ n) × (unsigned_abs S.second_y ≤ n)
    × (unsigned_abs S.third_z ≤ n)
factors_small n S r l =
    let a = size_positive S.first_x r.first_x in let e = size_positive S.second_y r.second_y in let i = size_positive S.third_z r.third_z in
    let ei = product_positive (unsigned_abs S.second_y) (unsigned_abs S.third_z) e i in
    let m = at_most_product (unsigned_abs S.first_x) (unsigned_abs S.second_y * unsigned_abs S.third_z) ei in
    let k = at_least_product (unsigned_abs S.first_x) (unsigned_abs S.second_y * unsigned_abs S.third_z) a in
    let p = at_most_product (unsigned_abs S.second_y) (unsigned_abs S.third_z) i in
    let q = at_least_product (unsigned_abs S.second_y) (unsigned_abs S.third_z) e in
    (omega (arith, m, l), omega (arith, k, p, l), omega (arith, k, q, l))
  where
    at_most_product : (a b : ℕ) → 1 ≤ b → a ≤ a * b
    at_most_product a b h = grind (arith, h)

    at_least_product : (a b : ℕ) → 1 ≤ a → b ≤ a * b
    at_least_product a b h = grind (arith, h)

-- a number with the value of a part has its size
size_of_part : (p : ℕ) (z : ℤ) → pos p ≡ z → p ≡ unsigned_abs z
size_of_part p z e = ap unsigned_abs e

-- what is below a small pivot is small
pub below_most : {n : ℕ} (p : ℕ) (z a : ℤ) → pos p ≡ z → z <ℤ a → unsigned_abs a ≤ n → p ≤ n
below_most {n} p z a e l m = omega (arith, ints, e, l, m)

-- the number, from the parts
pub number_of_digits : (d : ℕ) (S : Stairs) (v : Vector) (p q s e i n : ℕ) → HasDigits d S v p q s → e ≡ unsigned_abs S.second_y → i ≡ unsigned_abs S.third_z
    → n ≡ p * (e * i) + (q * i + s) → HasNumber d S v n
number_of_digits d S v p q s e i n h f g k = search (arith, size_of_part)

-- it is below the size
pub digits_below : (d : ℕ) (S : Stairs) (v : Vector) (n : ℕ) → HasStairShape d S → HasNumber d S v n → n < size_of S
digits_below d S v n s h = subst (λ (t : ℕ). t < size_of S) (sym h.is) (remainder_number_below d S s h.r h.remainder.remainder)

-- what was taken off, put back
pub back_x : (v r p a k : ℤ) → r ≡ p → v -ℤ r ≡ k *ℤ a → v ≡ p +ℤ a *ℤ k
back_x v r p a k e h = omega (arith, linear, e, simp ring at h)

-- the second part
pub back_y : (v r p b e k l : ℤ) → r ≡ p → v -ℤ r ≡ k *ℤ b +ℤ l *ℤ e → v ≡ p +ℤ e *ℤ l +ℤ b *ℤ k
back_y v r p b e k l g h = omega (arith, linear, g, simp ring at h)

-- the third
pub back_z : (v r p c f i k l n : ℤ) → r ≡ p → v -ℤ r ≡ k *ℤ c +ℤ l *ℤ f +ℤ n *ℤ i → v ≡ p +ℤ i *ℤ n +ℤ f *ℤ l +ℤ c *ℤ k
back_z v r p c f i k l n g h = omega (arith, linear, g, simp ring at h)

-- the residue of a vector that has a remainder
unfoldable pub residue_of : (d : ℕ) (S : Stairs) (v r : Vector) → IsRemainder d S r → InStairs S (minus v r) → Residue S v
residue_of d S v r h m =
    let x = natural_part r.x S.first_x h.low.0 h.high.0 in let y = natural_part r.y S.second_y h.low.1 h.high.1 in
    let z = natural_part r.z S.third_z h.low.2 h.high.2 in
    record {
      p = unsigned_abs r.x;
      q = unsigned_abs r.y;
      s = unsigned_abs r.z;
      k = m.k;
      l = m.l;
      n = m.n;
      p_below = x.1;
      q_below = y.1;
      s_below = z.1;
      x = back_x v.x r.x (pos (unsigned_abs r.x)) S.first_x m.k x.0 m.x;
      y = back_y v.y r.y (pos (unsigned_abs r.y)) S.first_y S.second_y m.k m.l y.0 m.y;
      z = back_z v.z r.z (pos (unsigned_abs r.z)) S.first_z S.second_z S.third_z m.k m.l m.n z.0 m.z;
    }

-- what is taken off, part by part
off_x : (v p a k : ℤ) → v ≡ p +ℤ a *ℤ k → v -ℤ p ≡ k *ℤ a
off_x v p a k e = simp ring (omega (arith, linear, e))

-- the second part
off_y : (v p e l b k : ℤ) → v ≡ p +ℤ e *ℤ l +ℤ b *ℤ k → v -ℤ p ≡ k *ℤ b +ℤ l *ℤ e
off_y v p e l b k h = simp ring (omega (arith, linear, h))

-- the third
off_z : (v p i n f l c k : ℤ) → v ≡ p +ℤ i *ℤ n +ℤ f *ℤ l +ℤ c *ℤ k → v -ℤ p ≡ k *ℤ c +ℤ l *ℤ f +ℤ n *ℤ i
off_z v p i n f l c k h = simp ring (omega (arith, linear, h))

-- a vector that differs from a flat one by a flat one is flat
flat_again : (d : ℕ) (v r : Vector) → HasDimension d (minus v r) → HasDimension d r → HasDimension d v
flat_again d v r h g e = search arith

-- each vector has a remainder
some_remainder : (d : ℕ) (S : Stairs) (v : Vector) → HasStairShape d S → HasDimension d v → (r : Vector) × IsRemainderOf d S v r
some_remainder d S v s f =
    let t = residue S (shape_pivots d S s) v in let r = vector (pos t.p) (pos t.q) (pos t.s) in
    let flat : HasDimension d r = λ e. last t.s (ap unsigned_abs ((s.flat e).third_z)) t.s_below in (
      r,
      record {
        remainder = record {
          dimension = flat;
          low = (from_zero t.p, from_zero t.q, from_zero t.s);
          high = (
            below_pivot t.p S.first_x s.reduced.first_x t.p_below,
            below_pivot t.q S.second_y s.reduced.second_y t.q_below,
            below_pivot t.s S.third_z s.reduced.third_z t.s_below,
          );
        };
        difference = (
          record {
            k = t.k;
            l = t.l;
            n = t.n;
            x = off_x v.x (pos t.p) S.first_x t.k t.x;
            y = off_y v.y (pos t.q) S.second_y t.l S.first_y t.k t.y;
            z = off_z v.z (pos t.s) S.third_z t.n S.second_z t.l S.first_z t.k t.z;
          },
          minus_dimension d v r f flat,
        );
      },
    )
  where
    last : (n : ℕ) → unsigned_abs S.third_z ≡ 1 → n < unsigned_abs S.third_z → pos n ≡ pos 0
    last n e l = ap pos (omega (arith, e, l))

module _ (d : ℕ) (S : Stairs) (v w r s : Vector) (h : IsRemainderOf d S v r) (g : IsRemainderOf d S w s) where
  -- vectors with one remainder differ by a member
  differ : r ≡ s → Members d S (minus v w)
  unfolding residue_of
  differ e = (
    member_of_residue S v w (residue_of d S v r h.remainder h.difference.0) (residue_of d S w s g.remainder g.difference.0)
        (record { p = ap (λ (t : Vector). unsigned_abs t.x) e; q = ap (λ (t : Vector). unsigned_abs t.y) e; s = ap (λ (t : Vector). unsigned_abs t.z) e }),
    minus_dimension d v w (flat_again d v r h.difference.1 h.remainder.dimension) (flat_again d w s g.difference.1 g.remainder.dimension),
  )

  -- vectors that differ by a member have one remainder
  agree : Members d S (minus v w) → r ≡ s
  unfolding residue_of
  agree m =
      let e = residue_of_member S v w (residue_of d S v r h.remainder h.difference.0) (residue_of d S w s g.remainder g.difference.0) m.0 in
      let a = h.remainder in let b = g.remainder in
      vector_equal
      ((natural_part r.x S.first_x a.low.0 a.high.0).0 ∙ ap pos e.p ∙ sym (natural_part s.x S.first_x b.low.0 b.high.0).0)
      ((natural_part r.y S.second_y a.low.1 a.high.1).0 ∙ ap pos e.q ∙ sym (natural_part s.y S.second_y b.low.1 b.high.1).0)
      ((natural_part r.z S.third_z a.low.2 a.high.2).0 ∙ ap pos e.s ∙ sym (natural_part s.z S.third_z b.low.2 b.high.2).0)

-- the remainders determine the classes
pub tell_classes : RemaindersTellClasses
tell_classes = search (arith, some_remainder, differ, agree)
