-- Residues modulo the lattice of a stair: each vector has one, they tell its class, and the pivots count them.
use Rattle.std.proofs.Common.{◌≡◌, ◌≢◌, ℕ, zero, suc, ◌<◌, ℤ, pos, negsuc, neg_ℤ, ◌+ℤ◌, ◌-ℤ◌, ◌*ℤ◌, refl, arith, ap, ◌∙◌, ◌*◌}
use Rattle.std.{proofs.lemmas.Int.ints, specs.Prelude.unsigned_abs}
use borrow.Author.Differences.{product_is}
use Rattle.integers.specs.Vectors.{Vector, minus, vector}
use Rattle.integers.proofs.counting.Numbering.{Numbering, Pair, pair, Both, Each, along, numbers_below, pairs}
use Rattle.integers.proofs.numbers.{Ring.ring, Ring.linear, Division.divided, Order.pos_same}
use Rattle.vecdim.specs.Stairs.{Stairs, InStairs}
use Rattle.sublattice.specs.Residues.{Residue}

-- z is r + m·k, with r from 0 to below the absolute value of m
pub record Divided (m z : ℤ) : Type 0 where
  pub r : ℕ
  pub k : ℤ
  pub below : r < unsigned_abs m
  pub is : z ≡ pos r +ℤ m *ℤ k

-- a negative divisor
turned_divisor : (r z n k : ℤ) → z ≡ r +ℤ neg_ℤ n *ℤ k → z ≡ r +ℤ n *ℤ neg_ℤ k
turned_divisor r z n k e = simp ring (omega (arith, linear, simp ring at e))

-- each number is such a sum
pub dividing : (m z : ℤ) → m ≢ pos 0 → Divided m z
dividing (pos zero) z n = absurd (n refl)
dividing (pos (suc m)) z n = let d = divided (suc m) (omega arith) z in record { r = d.0; k = d.1; below = d.2; is = d.3 }
dividing (negsuc m) z n =
    let d = divided (suc m) (omega arith) z in
    record { r = d.0; k = neg_ℤ d.1; below = d.2; is = turned_divisor (pos d.0) z (negsuc m) d.1 d.3 }

-- the difference of quotients, if the remainders are below the divisor
same_quotient : (m : ℤ) (r s : ℕ) (d : ℤ) → r < unsigned_abs m → s < unsigned_abs m → pos r ≡ pos s +ℤ m *ℤ d → d ≡ pos 0
same_quotient m r s (pos zero) h k e = refl
same_quotient (pos m) r s (pos (suc n)) h k e = absurd (let p = product_is (pos m) (pos (suc n)) in omega (arith, ints))
same_quotient (pos m) r s (negsuc n) h k e = absurd (let p = product_is (pos m) (negsuc n) in omega (arith, ints))
same_quotient (negsuc m) r s (pos (suc n)) h k e = absurd (let p = product_is (negsuc m) (pos (suc n)) in omega (arith, ints))
same_quotient (negsuc m) r s (negsuc n) h k e = absurd (let p = product_is (negsuc m) (negsuc n) in omega (arith, ints))

-- then the remainders are equal too
pub same_remainder : (m : ℤ) (r s : ℕ) (d : ℤ) → r < unsigned_abs m → s < unsigned_abs m → pos r ≡ pos s +ℤ m *ℤ d → (r ≡ s) × (d ≡ pos 0)
same_remainder m r s d h k e = search (arith, same_quotient, pos_same)

-- no pivot is 0
pub record HasPivots (S : Stairs) : Type 0 where
  pub first_x : S.first_x ≢ pos 0
  pub second_y : S.second_y ≢ pos 0
  pub third_z : S.third_z ≢ pos 0

-- a term brought to the other side
brought : (a b c : ℤ) → a -ℤ b ≡ c → a ≡ c +ℤ b
brought a b c e = omega (arith, linear, e)

-- two terms
brought_two : (a b c d : ℤ) → a -ℤ b -ℤ c ≡ d → a ≡ d +ℤ b +ℤ c
brought_two a b c d e = omega (arith, linear, e)

-- each vector is such a sum
pub residue : (S : Stairs) → HasPivots S → (w : Vector) → Residue S w
residue S h w =
    let x = dividing S.first_x w.x h.first_x in let y = dividing S.second_y (w.y -ℤ S.first_y *ℤ x.k) h.second_y in
    let z = dividing S.third_z (w.z -ℤ S.second_z *ℤ y.k -ℤ S.first_z *ℤ x.k) h.third_z in
    record {
      p = x.r;
      q = y.r;
      s = z.r;
      k = x.k;
      l = y.k;
      n = z.k;
      p_below = x.below;
      q_below = y.below;
      s_below = z.below;
      x = x.is;
      y = brought w.y (S.first_y *ℤ x.k) (pos y.r +ℤ S.second_y *ℤ y.k) y.is;
      z = brought_two w.z (S.second_z *ℤ y.k) (S.first_z *ℤ x.k) (pos z.r +ℤ S.third_z *ℤ z.k) z.is;
    }

-- equal sums, with the terms of the quotients on one side, if the later terms are equal
second_side : (w q q' e b k k' l l' : ℤ) → k' -ℤ k ≡ pos 0 → w ≡ q +ℤ e *ℤ l +ℤ b *ℤ k → w ≡ q' +ℤ e *ℤ l' +ℤ b *ℤ k' → q ≡ q' +ℤ e *ℤ (l' -ℤ l)
second_side w q q' e b k k' l l' h f g = let u = ap (λ (t : ℤ). b *ℤ t) h in simp ring (omega (arith, linear, f, g, simp ring at u))

-- and if two later terms are
third_side : (w s s' i n n' f l l' c k k' : ℤ) → k' -ℤ k ≡ pos 0 → l' -ℤ l ≡ pos 0 → w ≡ s +ℤ i *ℤ n +ℤ f *ℤ l +ℤ c *ℤ k
    → w ≡ s' +ℤ i *ℤ n' +ℤ f *ℤ l' +ℤ c *ℤ k'
    → s ≡ s' +ℤ i *ℤ (n' -ℤ n)
third_side w s s' i n n' f l l' c k k' h j p q =
    let u = ap (λ (t : ℤ). c *ℤ t) h in let v = ap (λ (t : ℤ). f *ℤ t) j in
    simp ring (omega (arith, linear, p, q, simp ring at u, simp ring at v))

-- a vector has one residue
pub record SameResidue {S : Stairs} {v w : Vector} (r : Residue S v) (t : Residue S w) : Type 0 where
  pub p : r.p ≡ t.p
  pub q : r.q ≡ t.q
  pub s : r.s ≡ t.s

-- it is so
pub residue_once : (S : Stairs) (w : Vector) (r t : Residue S w) → SameResidue r t
residue_once S w r t =
    let x = same_remainder S.first_x r.p t.p (t.k -ℤ r.k) r.p_below t.p_below (simp ring (omega (arith, linear, r.x, t.x))) in
    let y = same_remainder S.second_y r.q t.q (t.l -ℤ r.l) r.q_below t.q_below (second_side w.y (pos r.q)
    (pos t.q) S.second_y S.first_y r.k t.k r.l t.l x.1 r.y t.y) in
    let z = same_remainder S.third_z r.s t.s (t.n -ℤ r.n) r.s_below t.s_below
    (third_side w.z (pos r.s) (pos t.s) S.third_z r.n t.n S.second_z r.l t.l S.first_z r.k t.k x.1 y.1 r.z t.z) in
    record { p = x.0; q = y.0; s = z.0 }

-- vectors with one residue differ by a member of the lattice
pub member_of_residue : (S : Stairs) (v w : Vector) (r : Residue S v) (t : Residue S w) → SameResidue r t → InStairs S (minus v w)
member_of_residue S v w r t h = record {
  k = r.k -ℤ t.k;
  l = r.l -ℤ t.l;
  n = r.n -ℤ t.n;
  x = simp ring (omega (arith, linear, r.x ∙ ap (λ (u : ℕ). pos u +ℤ S.first_x *ℤ r.k) h.p, t.x));
  y = let e = r.y ∙ ap (λ (u : ℕ). pos u +ℤ S.second_y *ℤ r.l +ℤ S.first_y *ℤ r.k) h.q in simp ring (omega (arith, linear, simp ring at e, simp ring at t.y));
  z = let e = r.z ∙ ap (λ (u : ℕ). pos u +ℤ S.third_z *ℤ r.n +ℤ S.second_z *ℤ r.l +ℤ S.first_z *ℤ r.k) h.s in
      simp ring (omega (arith, linear, simp ring at e, simp ring at t.z));
}

-- a vector that differs by a member has the same residue
moved_residue : (S : Stairs) (v w : Vector) → InStairs S (minus v w) → Residue S w → Residue S v
moved_residue S v w m t = record {
  p = t.p;
  q = t.q;
  s = t.s;
  k = t.k +ℤ m.k;
  l = t.l +ℤ m.l;
  n = t.n +ℤ m.n;
  p_below = t.p_below;
  q_below = t.q_below;
  s_below = t.s_below;
  x = simp ring (omega (arith, linear, simp ring at m.x, t.x));
  y = simp ring (omega (arith, linear, simp ring at m.y, simp ring at t.y));
  z = simp ring (omega (arith, linear, simp ring at m.z, simp ring at t.z));
}

-- vectors that differ by a member of the lattice have one residue
pub residue_of_member : (S : Stairs) (v w : Vector) (r : Residue S v) (t : Residue S w) → InStairs S (minus v w) → SameResidue r t
unfolding moved_residue
residue_of_member S v w r t m =
    let e = residue_once S v r (moved_residue S v w m t) in record { p = e.p; q = e.q; s = e.s }

-- three numbers
abbrev pub Three : Type 0
Three = Pair ℕ (Pair ℕ ℕ)

-- they are below these
abbrev pub AreBelow : ℕ → ℕ → ℕ → Three → Type 0
AreBelow a e i = Both (λ (x : ℕ). x < a) (Both (λ (x : ℕ). x < e) (λ (x : ℕ). x < i))

-- they are equal
abbrev pub AreSame : Three → Three → Type 0
AreSame = Each (λ (x y : ℕ). x ≡ y) (Each (λ (x y : ℕ). x ≡ y) (λ (x y : ℕ). x ≡ y))

-- three numbers below these are numbered below their product
pub threes : (a e i : ℕ) → Numbering (AreBelow a e i) AreSame (a * (e * i))
threes a e i =
    pairs (λ (x : ℕ). x < a) (λ (x y : ℕ). x ≡ y) (Both (λ (x : ℕ). x < e) (λ (x : ℕ). x < i)) (Each (λ (x y : ℕ). x ≡ y) (λ (x y : ℕ). x ≡ y)) a (e * i)
    (numbers_below a)
    (pairs (λ (x : ℕ). x < e) (λ (x y : ℕ). x ≡ y) (λ (x : ℕ). x < i) (λ (x y : ℕ). x ≡ y) e i (numbers_below e) (numbers_below i))

-- any vector
abbrev pub IsAny : Vector → Type 0
IsAny v = Unit {0}

-- the vectors differ by a member of the lattice
abbrev pub DifferBy : (Vector → Type 0) → Vector → Vector → Type 0
DifferBy L v w = L (minus v w)

-- the numbers of a residue
abbrev numbers_of : (S : Stairs) (w : Vector) → Residue S w → Three
numbers_of S w r = pair r.p (pair r.q r.s)

-- the vector of three numbers
abbrev pub vector_of : Three → Vector
vector_of t = vector (pos t.left) (pos t.right.left) (pos t.right.right)

-- three numbers below the pivots are their own residue
abbrev own_residue : (S : Stairs) (t : Three) → AreBelow (unsigned_abs S.first_x) (unsigned_abs S.second_y) (unsigned_abs S.third_z) t → Residue S (vector_of t)
own_residue S t h = record {
  p = t.left;
  q = t.right.left;
  s = t.right.right;
  k = pos 0;
  l = pos 0;
  n = pos 0;
  p_below = h.left;
  q_below = h.right.left;
  s_below = h.right.right;
  x = simp ring (omega (arith, linear));
  y = simp ring (omega (arith, linear));
  z = simp ring (omega (arith, linear));
}

-- the vectors up to the lattice are numbered below the product of the pivots
pub stair_numbers : (S : Stairs) → HasPivots S → Numbering IsAny (DifferBy (InStairs S)) (unsigned_abs S.first_x *
    (unsigned_abs S.second_y * unsigned_abs S.third_z))
stair_numbers S h =
    along IsAny (DifferBy (InStairs S)) (AreBelow (unsigned_abs S.first_x) (unsigned_abs S.second_y) (unsigned_abs S.third_z)) AreSame
    (unsigned_abs S.first_x * (unsigned_abs S.second_y * unsigned_abs S.third_z))
    (threes (unsigned_abs S.first_x) (unsigned_abs S.second_y) (unsigned_abs S.third_z)) (λ w. numbers_of S w (residue S h w))
    (record {
      into = λ w _. let r = residue S h w in record { left = r.p_below; right = record { left = r.q_below; right = r.s_below } };
      once = λ v w _ _ e. member_of_residue S v w (residue S h v) (residue S h w) (record { p = e.left; q = e.right.left; s = e.right.right });
    })
    (λ v w _ _ m. let e = residue_of_member S v w (residue S h v) (residue S h w) m in record { left = e.p; right = record { left = e.q; right = e.s } })
    vector_of (λ t _. tt)
    (λ t b. let e = residue_once S (vector_of t) (residue S h (vector_of t)) (own_residue S t b) in
    record { left = e.p; right = record { left = e.q; right = e.s } })
