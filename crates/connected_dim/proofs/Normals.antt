-- Vectors that are orthogonal to the closed walks of a net, divided by the greatest common divisor of their parts.
use Rattle.std.proofs.Common.{◌≡◌, ◌≢◌, ℕ, zero, suc, ◌*◌, ℤ, pos, negsuc, neg_ℤ, ◌+ℤ◌, ◌*ℤ◌, unsigned_abs, ◌⊎◌, inl, inr, refl, sym, ap, subst, ◌∙◌, arith}
use Rattle.std.proofs.Common.{◌≤◌, to_z, of_z, ◌<ℤ◌, ◌-ℤ◌, List, get_or, All, Contains, ◌≤ℤ◌, ◌^◌}
use Rattle.std.proofs.lemmas.Int.{ints, unsigned_abs-mul, to_z-of_z}
use Rattle.std.{proofs.lemmas.List.Elements.All-contains, specs.Int.IsGcd, specs.Int.w128}
use Rattle.integers.specs.Vectors.{Vector, vector, zero_vector, times, dot, opposite, StartsPositive, IsWithin, HasDimension, cross}
use Rattle.integers.proofs.numbers.Ring.{ring, linear, cancel_factor, zero_or_not, other_factor_zero, factor_zero}
use Rattle.integers.proofs.{numbers.Divisors.quotient_of, vectors.Laws.vector_equal, vectors.Bounds.fits_from_bound}
use Rattle.exact.specs.Combination.{IsCombination}
use Rattle.connected_dim.specs.Orthogonal.{IsCoprime, IsDivisor, IsReduction, IsOrthogonalTo, IsFlatNormal}
use Rattle.connected_dim.specs.{Bounds.most_normal, Full.IsVolume}
use Rattle.periodic_net.specs.Split.{EndsBy}

-- a factor of 1 is 1 or -1
pub unit : (k x : ℤ) → pos 1 ≡ k *ℤ x → (k ≡ pos 1) ⊎ (k ≡ neg_ℤ (pos 1))
unit (pos (suc zero)) x e = inl refl
unit (negsuc zero) x e = inr refl
unit k (pos zero) e = absurd (omega (arith, ints, e))
unit k (pos (suc x)) e = absurd (omega (arith, ints, e))
unit k (negsuc x) e = absurd (omega (arith, ints, e))

-- a number is its absolute value, or the negative of it
pub sign_of : (z : ℤ) → (s : ℤ) × (pos (unsigned_abs z) ≡ s *ℤ z) × (z ≡ s *ℤ pos (unsigned_abs z))
sign_of (pos n) = (pos 1, simp ring refl, simp ring refl)
sign_of (negsuc n) = (neg_ℤ (pos 1), omega (arith, ints), omega (arith, ints))

-- a combination of a combination
combined : (s1 t1 s2 t2 g g1 x y z sx sy sz ax ay az : ℤ) → g ≡ s1 *ℤ g1 +ℤ t1 *ℤ az → g1 ≡ s2 *ℤ ax +ℤ t2 *ℤ ay → ax ≡ sx *ℤ x → ay ≡ sy *ℤ y → az ≡ sz *ℤ z
    → g ≡ (s1 *ℤ (s2 *ℤ sx)) *ℤ x +ℤ (s1 *ℤ (t2 *ℤ sy)) *ℤ y +ℤ (t1 *ℤ sz) *ℤ z
combined s1 t1 s2 t2 g g1 x y z sx sy sz ax ay az e f hx hy hz =
    let p = ap (λ t. s1 *ℤ t) f in let q = ap (λ t. s1 *ℤ (s2 *ℤ t)) hx in
    let r = ap (λ t. s1 *ℤ (t2 *ℤ t)) hy in let u = ap (λ t. t1 *ℤ t) hz in
    simp ring (omega (arith, linear, e, simp ring at p, simp ring at q, simp ring at r, simp ring at u))

-- a quotient with the sign
divided : (g s a w : ℤ) (z : ℤ) → z ≡ s *ℤ a → a ≡ g *ℤ w → z ≡ g *ℤ (s *ℤ w)
divided g s a w z e f = let p = ap (λ t. s *ℤ t) f in omega (arith, linear, e, simp ring at p)

-- the greatest common divisor of the first two parts, and of it and the third
pub divisor_is : (v : Vector) (h g : ℕ) → v ≢ zero_vector → IsGcd (unsigned_abs v.x) (unsigned_abs v.y) h
    → IsCombination (unsigned_abs v.x) (unsigned_abs v.y) h
    → IsGcd h (unsigned_abs v.z) g → IsCombination h (unsigned_abs v.z) g → IsDivisor v (pos g)
divisor_is v h g n a ac b bc =
    let p = quotient_of g h b.0 in let x = quotient_of h (unsigned_abs v.x) a.0 in
    let y = quotient_of h (unsigned_abs v.y) a.1 in let z = quotient_of g (unsigned_abs v.z) b.1 in
    let sx = sign_of v.x in let sy = sign_of v.y in let sz = sign_of v.z in
    let dx = divided (pos g) sx.0 (pos (unsigned_abs v.x)) (pos p.0 *ℤ pos x.0) v.x sx.2 (twice g p.0 x.0 h (unsigned_abs v.x) p.1 x.1) in
    let dy = divided (pos g) sy.0 (pos (unsigned_abs v.y)) (pos p.0 *ℤ pos y.0) v.y sy.2 (twice g p.0 y.0 h (unsigned_abs v.y) p.1 y.1) in
    let dz = divided (pos g) sz.0 (pos (unsigned_abs v.z)) (pos z.0) v.z sz.2 (ap pos z.1) in
    let w = vector (sx.0 *ℤ (pos p.0 *ℤ pos x.0)) (sy.0 *ℤ (pos p.0 *ℤ pos y.0)) (sz.0 *ℤ pos z.0) in
    let multiple : v ≡ times (pos g) w = vector_equal dx dy dz in
    record {
      positive = above g w multiple;
      w = w;
      multiple = multiple;
      s = vector (bc.s *ℤ (ac.s *ℤ sx.0)) (bc.s *ℤ (ac.t *ℤ sy.0)) (bc.t *ℤ sz.0);
      combination = combined bc.s bc.t ac.s ac.t (pos g) (pos h) v.x v.y v.z sx.0 sy.0 sz.0 (pos (unsigned_abs v.x)) (pos (unsigned_abs v.y))
          (pos (unsigned_abs v.z)) bc.is ac.is sx.1 sy.1 sz.1;
    }
  where
    twice : (g p x h a : ℕ) → h ≡ g * p → a ≡ h * x → pos a ≡ pos g *ℤ (pos p *ℤ pos x)
    twice g p x h a e f = ap pos f ∙ ap (λ (t : ℕ). pos (t * x)) e ∙ ap pos (assoc g p x)
      where
        assoc : (g p x : ℕ) → (g * p) * x ≡ g * (p * x)
        assoc g p x = omega arith

    above : (k : ℕ) (w : Vector) → v ≡ times (pos k) w → pos 0 <ℤ pos k
    above zero w e = absurd (n (e ∙ vector_equal (simp ring refl) (simp ring refl) (simp ring refl)))
    above (suc k) w e = omega (arith, ints)

-- 1 is a combination of the parts of the quotient
one_of : (g s1 s2 s3 w1 w2 w3 : ℤ) → g ≢ pos 0 → g ≡ s1 *ℤ (g *ℤ w1) +ℤ s2 *ℤ (g *ℤ w2) +ℤ s3 *ℤ (g *ℤ w3) → pos 1 ≡ s1 *ℤ w1 +ℤ s2 *ℤ w2 +ℤ s3 *ℤ w3
one_of g s1 s2 s3 w1 w2 w3 n e = cancel_factor g (pos 1) (s1 *ℤ w1 +ℤ s2 *ℤ w2 +ℤ s3 *ℤ w3) n (simp ring (omega (arith, linear, simp ring at e)))

-- a common factor of the parts divides 1
part_of : (k s1 s2 s3 w1 w2 w3 e1 e2 e3 : ℤ) → pos 1 ≡ s1 *ℤ w1 +ℤ s2 *ℤ w2 +ℤ s3 *ℤ w3 → w1 ≡ k *ℤ e1 → w2 ≡ k *ℤ e2 → w3 ≡ k *ℤ e3
    → pos 1 ≡ k *ℤ (s1 *ℤ e1 +ℤ s2 *ℤ e2 +ℤ s3 *ℤ e3)
part_of k s1 s2 s3 w1 w2 w3 e1 e2 e3 o a b c =
    let p = ap (λ t. s1 *ℤ t) a in let q = ap (λ t. s2 *ℤ t) b in let r = ap (λ t. s3 *ℤ t) c in
    simp ring (omega (arith, linear, o, simp ring at p, simp ring at q, simp ring at r))

-- so the quotient is coprime
pub quotient_coprime : (v : Vector) (g : ℤ) (c : Vector) → IsDivisor v g → v ≡ times g c → IsCoprime c
quotient_coprime v g c d m e k h =
    let positive = d.positive in let some : g ≢ pos 0 = λ z. absurd (omega (arith, ints, z, positive)) in
    let s = d.s in let one = one_of g s.x s.y s.z c.x c.y c.z some (d.combination ∙ ap (dot s) m) in
    unit k (s.x *ℤ e.x +ℤ s.y *ℤ e.y +ℤ s.z *ℤ e.z) (part_of k s.x s.y s.z c.x c.y c.z e.x e.y e.z one (ap (λ (t : Vector). t.x) h)
    (ap (λ (t : Vector). t.y) h) (ap (λ (t : Vector). t.z) h))

-- a multiple, turned
turned_back : (k e c : ℤ) → neg_ℤ c ≡ k *ℤ e → c ≡ k *ℤ neg_ℤ e
turned_back k e c h = simp ring (omega (arith, linear, h))

-- and so is its opposite
pub opposite_coprime : (c : Vector) → IsCoprime c → IsCoprime (opposite c)
opposite_coprime c h e k m =
    h (opposite e) k (vector_equal (turned_back k e.x c.x (ap (λ (t : Vector). t.x) m)) (turned_back k e.y c.y (ap (λ (t : Vector). t.y) m))
    (turned_back k e.z c.z (ap (λ (t : Vector). t.z) m)))

-- two signs cancel
negative_times : (g c : ℤ) → g *ℤ c ≡ neg_ℤ g *ℤ neg_ℤ c
negative_times g c = simp ring (omega (arith, linear))

-- of the quotient and its opposite the one that starts positive
pub reduction_is : (v c f : Vector) (g : ℤ) → IsDivisor v g → v ≡ times g c → (f ≡ c) ⊎ (f ≡ opposite c) → StartsPositive f → IsReduction v f
reduction_is v c f g d m (inl e) p = record {
  k = g;
  multiple = m ∙ ap (times g) (sym e);
  positive = p;
  coprime = subst IsCoprime (sym e) (quotient_coprime v g c d m);
}
reduction_is v c f g d m (inr e) p = record {
  k = neg_ℤ g;
  multiple = m ∙ vector_equal (negative_times g c.x) (negative_times g c.y) (negative_times g c.z) ∙ ap (times (neg_ℤ g)) (sym e);
  positive = p;
  coprime = subst IsCoprime (sym e) (opposite_coprime c (quotient_coprime v g c d m));
}

-- Division by the greatest common divisor of the parts, in 128 bits.

-- a part that is not 0 is not less than the divisor
part_above : (z g w : ℤ) → z ≢ pos 0 → z ≡ g *ℤ w → unsigned_abs g ≤ unsigned_abs z
part_above z g w n e = by w e
  where
    times_more : (a b : ℕ) → a ≤ a * suc b
    times_more a b = omega arith

    by : (w : ℤ) → z ≡ g *ℤ w → unsigned_abs g ≤ unsigned_abs z
    by (pos zero) e = absurd (n (e ∙ omega (arith, ints)))
    by (pos (suc w)) e = subst (λ (t : ℕ). unsigned_abs g ≤ t) (sym (ap unsigned_abs e ∙ unsigned_abs-mul g (pos (suc w)))) (times_more (unsigned_abs g) w)
    by (negsuc w) e = subst (λ (t : ℕ). unsigned_abs g ≤ t) (sym (ap unsigned_abs e ∙ unsigned_abs-mul g (negsuc w))) (times_more (unsigned_abs g) w)

-- so the divisor of a vector within a bound is within it
pub divisor_within : (b : ℕ) (v : Vector) (g : ℤ) → v ≢ zero_vector → IsWithin b v → IsDivisor v g → unsigned_abs g ≤ b
divisor_within b v g some near d = by (zero_or_not v.x) (zero_or_not v.y) (zero_or_not v.z)
  where
    le : (a c : ℕ) → a ≤ c → c ≤ b → a ≤ b
    le a c h k = omega arith

    by : (v.x ≡ pos 0) ⊎ (v.x ≢ pos 0) → (v.y ≡ pos 0) ⊎ (v.y ≢ pos 0) → (v.z ≡ pos 0) ⊎ (v.z ≢ pos 0) → unsigned_abs g ≤ b
    by (inr n) y z = le (unsigned_abs g) (unsigned_abs v.x) (part_above v.x g d.w.x n (ap (λ (t : Vector). t.x) d.multiple)) near.0
    by (inl x) (inr n) z = le (unsigned_abs g) (unsigned_abs v.y) (part_above v.y g d.w.y n (ap (λ (t : Vector). t.y) d.multiple)) near.1
    by (inl x) (inl y) (inr n) = le (unsigned_abs g) (unsigned_abs v.z) (part_above v.z g d.w.z n (ap (λ (t : Vector). t.z) d.multiple)) near.2
    by (inl x) (inl y) (inl z) = absurd (some (vector_equal x y z))

-- the divisor, from the absolute values
pub divisor_found : (v : Vector) (ax ay az h g : ℕ) → v ≢ zero_vector → ax ≡ unsigned_abs v.x → ay ≡ unsigned_abs v.y → az ≡ unsigned_abs v.z
    → IsGcd ax ay h → IsCombination ax ay h → IsGcd h az g → IsCombination h az g → IsDivisor v (pos g)
divisor_found v ax ay az h g some ex ey ez a ac b bc =
    divisor_is v h g some
    (subst (λ (t : ℕ). IsGcd t (unsigned_abs v.y) h) ex (subst (λ (t : ℕ). IsGcd ax t h) ey a))
    (subst (λ (t : ℕ). IsCombination t (unsigned_abs v.y) h) ex (subst (λ (t : ℕ). IsCombination ax t h) ey ac))
    (subst (λ (t : ℕ). IsGcd h t g) ez b)
    (subst (λ (t : ℕ). IsCombination h t g) ez bc)

-- the absolute value of a part as the code reads it
pub same_abs : (z : ℤ) → unsigned_abs z ≤ most_normal → unsigned_abs (to_z w128 (of_z w128 z)) ≡ unsigned_abs z
same_abs z h = ap unsigned_abs (to_z-of_z w128 z (fits_from_bound z most_normal (omega arith) h))

-- Vectors that end by a place.

-- each vector ends by the third place
pub ends_by_two : (v : Vector) (k : ℕ) → 2 ≤ k → EndsBy k v
ends_by_two v k p q r = search arith

-- by the second, if z is 0
pub ends_by_one : (v : Vector) (k : ℕ) → v.z ≡ pos 0 → 1 ≤ k → EndsBy k v
ends_by_one v k p q r s = search arith

-- by the first, if y is 0 too
pub ends_by_zero : (v : Vector) (k : ℕ) → v.y ≡ pos 0 → v.z ≡ pos 0 → EndsBy k v
ends_by_zero v k h p q r = search arith

-- The vectors orthogonal to closed walks of a rank below the dimension.

-- the first axis
abbrev pub axis : Vector
axis = vector (pos 1) (pos 0) (pos 0)

-- a vector with no first part is orthogonal to the first axis
on_axis : (x y z : ℤ) → x ≡ pos 0 → pos 1 *ℤ x +ℤ pos 0 *ℤ y +ℤ pos 0 *ℤ z ≡ pos 0
on_axis x y z e = simp ring (omega (arith, linear, e))

-- if no vector has a first part
pub axis_normal : (d : ℕ) (vs : List Vector) → All (λ v. v.x ≡ pos 0) vs → IsFlatNormal d vs axis
axis_normal d vs h = grind (arith, on_axis, ends_by_zero, unit)

-- the product of a multiple
scaled : (k c1 c2 c3 v1 v2 v3 w1 w2 w3 : ℤ) → v1 ≡ k *ℤ c1 → v2 ≡ k *ℤ c2 → v3 ≡ k *ℤ c3
    → v1 *ℤ w1 +ℤ v2 *ℤ w2 +ℤ v3 *ℤ w3 ≡ k *ℤ (c1 *ℤ w1 +ℤ c2 *ℤ w2 +ℤ c3 *ℤ w3)
scaled k c1 c2 c3 v1 v2 v3 w1 w2 w3 a b d =
    let p = ap (λ t. t *ℤ w1) a in let q = ap (λ t. t *ℤ w2) b in let r = ap (λ t. t *ℤ w3) d in
    simp ring (omega (arith, linear, simp ring at p, simp ring at q, simp ring at r))

module _ (v c : Vector) (some : v ≢ zero_vector) (r : IsReduction v c) where
  -- v is no multiple by 0
  factor : r.k ≢ pos 0
  factor e = some (r.multiple ∙ ap (λ (k : ℤ). times k c) e ∙ vector_equal (simp ring refl) (simp ring refl) (simp ring refl))

  -- what v is orthogonal to, c is
  reduced_orthogonal : (w : Vector) → dot v w ≡ pos 0 → dot c w ≡ pos 0
  reduced_orthogonal w e =
      other_factor_zero r.k (dot c w)
      (sym (scaled r.k c.x c.y c.z v.x v.y v.z w.x w.y w.z (ap (λ (t : Vector). t.x) r.multiple) (ap (λ (t : Vector). t.y) r.multiple)
      (ap (λ (t : Vector). t.z) r.multiple)) ∙ e) factor

  -- if v has no part there, c has none
  reduced_y : v.y ≡ pos 0 → c.y ≡ pos 0
  reduced_y e = other_factor_zero r.k c.y (sym (ap (λ (t : Vector). t.y) r.multiple) ∙ e) factor

  -- of the third part the same
  reduced_z : v.z ≡ pos 0 → c.z ≡ pos 0
  reduced_z e = other_factor_zero r.k c.z (sym (ap (λ (t : Vector). t.z) r.multiple) ∙ e) factor

-- a vector on the first axis that is orthogonal to one with a first part is 0
axis_only : (x y z a b c : ℤ) → y ≡ pos 0 → z ≡ pos 0 → x *ℤ a +ℤ y *ℤ b +ℤ z *ℤ c ≡ pos 0 → x *ℤ a ≡ pos 0
axis_only x y z a b c hy hz e =
    let p = ap (λ t. t *ℤ b) hy in let q = ap (λ t. t *ℤ c) hz in
    omega (arith, linear, e, simp ring at p, simp ring at q)

-- a vector on the line of (a, b) is orthogonal to (b, -a)
parallel : (a b w1 w2 w3 : ℤ) → a *ℤ w2 -ℤ b *ℤ w1 ≡ pos 0 → b *ℤ w1 +ℤ neg_ℤ a *ℤ w2 +ℤ pos 0 *ℤ w3 ≡ pos 0
parallel a b w1 w2 w3 e = simp ring (omega (arith, linear, e))

-- if all are on the line of one with a first part
pub line_normal : (d : ℕ) (vs : List Vector) (a c : Vector) → Contains vs a → a.x ≢ pos 0 → All (λ v. cross a v ≡ zero_vector) vs
    → IsReduction (vector a.y (neg_ℤ a.x) (pos 0)) c → IsFlatNormal d vs c
line_normal d vs a c i some all r = record {
  dimension = λ e. flat;
  orthogonal = λ k v l.
      let w = get_or vs k v in
      reduced_orthogonal across c nonzero r w (parallel a.x a.y w.x w.y w.z (ap (λ (t : Vector). t.z) (all k v l)));
  positive = r.positive;
  lowest = lowest;
  coprime = r.coprime;
}
  where
    across : Vector
    across = vector a.y (neg_ℤ a.x) (pos 0)

    nonzero : vector a.y (neg_ℤ a.x) (pos 0) ≢ zero_vector
    nonzero e = some (let z = ap (λ (t : Vector). t.y) e in omega (arith, linear, ints, z))

    flat : c.z ≡ pos 0
    flat = reduced_z (vector a.y (neg_ℤ a.x) (pos 0)) c nonzero r refl

    lowest : (e : Vector) (k : ℕ) → HasDimension d e → IsOrthogonalTo vs e → e ≢ zero_vector → EndsBy k e → EndsBy k c
    lowest e zero dim o ne ends =
        let y : e.y ≡ pos 0 = ends 1 (omega arith) in let z : e.z ≡ pos 0 = ends 2 (omega arith) in
        let p = axis_only e.x e.y e.z a.x a.y a.z y z (All-contains (λ v. dot e v ≡ pos 0) vs a o i) in
        elim (factor_zero e.x a.x p) [ inl x ↦ absurd (ne (vector_equal x y z)) | inr x ↦ absurd (some x) ]
    lowest e (suc k) dim o ne ends = ends_by_one c (suc k) flat (omega arith)

-- a vector with no third part has the product of its flat parts
flat_product : (x y z a1 a2 a3 : ℤ) → z ≡ pos 0 → x *ℤ a1 +ℤ y *ℤ a2 +ℤ z *ℤ a3 ≡ pos 0 → x *ℤ a1 +ℤ y *ℤ a2 ≡ pos 0
flat_product x y z a1 a2 a3 hz e = let r = ap (λ t. t *ℤ a3) hz in omega (arith, linear, e, simp ring at r)

-- if it is orthogonal to two vectors, its first part times the third part of their cross product is 0
first_times : (x y a1 a2 b1 b2 : ℤ) → x *ℤ a1 +ℤ y *ℤ a2 ≡ pos 0 → x *ℤ b1 +ℤ y *ℤ b2 ≡ pos 0 → x *ℤ (a1 *ℤ b2 -ℤ a2 *ℤ b1) ≡ pos 0
first_times x y a1 a2 b1 b2 e f = let p = ap (λ t. t *ℤ b2) e in let q = ap (λ t. t *ℤ a2) f in
    simp ring (omega (arith, linear, simp ring at p, simp ring at q))

-- and so is its second part
second_times : (x y a1 a2 b1 b2 : ℤ) → x *ℤ a1 +ℤ y *ℤ a2 ≡ pos 0 → x *ℤ b1 +ℤ y *ℤ b2 ≡ pos 0 → y *ℤ (a1 *ℤ b2 -ℤ a2 *ℤ b1) ≡ pos 0
second_times x y a1 a2 b1 b2 e f = let p = ap (λ t. t *ℤ b1) e in let q = ap (λ t. t *ℤ a1) f in
    simp ring (omega (arith, linear, simp ring at p, simp ring at q))

-- vectors with no first part have a cross product on the first axis
no_first : (a1 a3 b1 b3 : ℤ) → a1 ≡ pos 0 → b1 ≡ pos 0 → a3 *ℤ b1 -ℤ a1 *ℤ b3 ≡ pos 0
no_first a1 a3 b1 b3 e f =
    let p = ap (λ t. a3 *ℤ t) f in let q = ap (λ t. t *ℤ b3) e in
    omega (arith, linear, simp ring at p, simp ring at q)

-- of the third part the same
no_first_too : (a1 a2 b1 b2 : ℤ) → a1 ≡ pos 0 → b1 ≡ pos 0 → a1 *ℤ b2 -ℤ a2 *ℤ b1 ≡ pos 0
no_first_too a1 a2 b1 b2 e f = let h = no_first a1 a2 b1 b2 e f in omega (arith, linear, h)

-- if all are in the plane of two
pub plane_normal : (d : ℕ) (vs : List Vector) (a b c : Vector) → d ≢ 2 → Contains vs a → Contains vs b → cross a b ≢ zero_vector
    → All (λ v. dot (cross a b) v ≡ pos 0) vs
    → IsReduction (cross a b) c → IsFlatNormal d vs c
plane_normal d vs a b c three i j some all r = record {
  dimension = λ e. absurd (three e);
  orthogonal = λ k v l. reduced_orthogonal (cross a b) c some r (get_or vs k v) (all k v l);
  positive = r.positive;
  lowest = lowest;
  coprime = r.coprime;
}
  where
    lowest : (e : Vector) (k : ℕ) → HasDimension d e → IsOrthogonalTo vs e → e ≢ zero_vector → EndsBy k e → EndsBy k c
    lowest e zero dim o ne ends =
        let y : e.y ≡ pos 0 = ends 1 (omega arith) in let z : e.z ≡ pos 0 = ends 2 (omega arith) in
        let p = axis_only e.x e.y e.z a.x a.y a.z y z (All-contains (λ v. dot e v ≡ pos 0) vs a o i) in
        let q = axis_only e.x e.y e.z b.x b.y b.z y z (All-contains (λ v. dot e v ≡ pos 0) vs b o j) in
        let n : e.x ≢ pos 0 = λ x. ne (vector_equal x y z) in let ax = other_factor_zero e.x a.x p n in
        let bx = other_factor_zero e.x b.x q n in
        ends_by_zero c zero (reduced_y (cross a b) c some r (no_first a.x a.z b.x b.z ax bx))
        (reduced_z (cross a b) c some r (no_first_too a.x a.y b.x b.y ax bx))
    lowest e (suc zero) dim o ne ends =
        let z : e.z ≡ pos 0 = ends 2 (omega arith) in
        let oa = flat_product e.x e.y e.z a.x a.y a.z z (All-contains (λ v. dot e v ≡ pos 0) vs a o i) in
        let ob = flat_product e.x e.y e.z b.x b.y b.z z (All-contains (λ v. dot e v ≡ pos 0) vs b o j) in
        let p = first_times e.x e.y a.x a.y b.x b.y oa ob in
        let q = second_times e.x e.y a.x a.y b.x b.y oa ob in
        let n : (cross a b).z ≡ pos 0 = elim (factor_zero e.x (a.x *ℤ b.y -ℤ a.y *ℤ b.x) p) [
          | inr m ↦ m
          | inl x ↦ other_factor_zero e.y (a.x *ℤ b.y -ℤ a.y *ℤ b.x) q (λ y. ne (vector_equal x y z))
        ] in
        ends_by_one c (suc zero) (reduced_z (cross a b) c some r n) (omega arith)
    lowest e (suc (suc k)) dim o ne ends = ends_by_two c (suc (suc k)) (omega arith)

-- a vector on the line of one with no first part has none
pub no_first_part : (a w : Vector) → a ≢ zero_vector → a.x ≡ pos 0 → cross a w ≡ zero_vector → w.x ≡ pos 0
no_first_part a w some x e = elim (zero_or_not w.x) [
  | inl z ↦ z
  | inr n ↦ absurd (some (vector_equal x (factor a.y (product_y a.x a.y w.x w.y x (ap (λ (t : Vector). t.z) e)) n)
      (factor a.z (product_z a.x a.z w.x w.z x (ap (λ (t : Vector). t.y) e)) n)))
]
  where
    factor : (b : ℤ) → w.x *ℤ b ≡ pos 0 → w.x ≢ pos 0 → b ≡ pos 0
    factor b h n = other_factor_zero w.x b h n

    product_y : (a1 a2 w1 w2 : ℤ) → a1 ≡ pos 0 → a1 *ℤ w2 -ℤ a2 *ℤ w1 ≡ pos 0 → w1 *ℤ a2 ≡ pos 0
    product_y a1 a2 w1 w2 z h = let p = ap (λ t. t *ℤ w2) z in simp ring (omega (arith, linear, h, simp ring at p))

    product_z : (a1 a3 w1 w3 : ℤ) → a1 ≡ pos 0 → a3 *ℤ w1 -ℤ a1 *ℤ w3 ≡ pos 0 → w1 *ℤ a3 ≡ pos 0
    product_z a1 a3 w1 w3 z h = let p = ap (λ t. t *ℤ w3) z in simp ring (omega (arith, linear, h, simp ring at p))

-- vectors that are 0 have no first part
pub none_first : (vs : List Vector) → All (λ v. v ≡ zero_vector) vs → All (λ v. v.x ≡ pos 0) vs
none_first vs h k v l = ap (λ (t : Vector). t.x) (h k v l)

-- The answers on the rank of closed walks.

-- a vector on a line with no first part
pub line_axis : (d : ℕ) (vs : List Vector) (a c : Vector) → c ≡ axis → a ≢ zero_vector → a.x ≡ pos 0 → All (λ v. cross a v ≡ zero_vector) vs
    → IsFlatNormal d vs c
line_axis d vs a c e some x all = subst (IsFlatNormal d vs) (sym e) (axis_normal d vs (λ k v l. no_first_part a _ some x (all k v l)))

-- a line with a first part
pub line_across : (d : ℕ) (vs : List Vector) (a v c : Vector) → Contains vs a → a.x ≢ pos 0 → All (λ v. cross a v ≡ zero_vector) vs
    → v ≡ vector a.y (neg_ℤ a.x) (pos 0) → IsReduction v c → IsFlatNormal d vs c
line_across d vs a v c i n all e r = line_normal d vs a c i n all (subst (λ v. IsReduction v c) e r)

-- no vector but 0
pub all_none : (d : ℕ) (vs : List Vector) (c : Vector) → c ≡ axis → All (λ v. v ≡ zero_vector) vs → IsFlatNormal d vs c
all_none d vs c e h = subst (IsFlatNormal d vs) (sym e) (axis_normal d vs (none_first vs h))

-- a plane in space
pub plane_in_space : (d : ℕ) (vs : List Vector) (a b v c : Vector) → d ≢ 2 → Contains vs a → Contains vs b → cross a b ≢ zero_vector → v ≡ cross a b
    → All (λ w. dot v w ≡ pos 0) vs → IsReduction v c → IsFlatNormal d vs c
plane_in_space d vs a b v c n i j some e all r = plane_normal d vs a b c n i j some (subst (λ v. All (λ w. dot v w ≡ pos 0) vs) e all)
    (subst (λ v. IsReduction v c) e r)

-- flat vectors have a cross product with a third part alone
flat_part : (a2 a3 b2 b3 : ℤ) → a3 ≡ pos 0 → b3 ≡ pos 0 → a2 *ℤ b3 -ℤ a3 *ℤ b2 ≡ pos 0
flat_part a2 a3 b2 b3 e f =
    let p = ap (λ t. a2 *ℤ t) f in let q = ap (λ t. t *ℤ b2) e in
    omega (arith, linear, simp ring at p, simp ring at q)

-- nor a second
flat_part_too : (a1 a3 b1 b3 : ℤ) → a3 ≡ pos 0 → b3 ≡ pos 0 → a3 *ℤ b1 -ℤ a1 *ℤ b3 ≡ pos 0
flat_part_too a1 a3 b1 b3 e f =
    let p = ap (λ t. a1 *ℤ t) f in let q = ap (λ t. t *ℤ b1) e in
    omega (arith, linear, simp ring at p, simp ring at q)

-- so if it is not 0 that part is not
pub flat_cross : (a b : Vector) → a.z ≡ pos 0 → b.z ≡ pos 0 → cross a b ≢ zero_vector → (cross a b).z ≢ pos 0
flat_cross a b e f some z = some (vector_equal (flat_part a.y a.z b.y b.z e f) (flat_part_too a.x a.z b.x b.z e f) z)

-- the product with (0, 0, 1)
pub up_dot : (c1 c2 c3 : ℤ) → c1 *ℤ pos 0 +ℤ c2 *ℤ pos 0 +ℤ c3 *ℤ pos 1 ≡ c3
up_dot c1 c2 c3 = simp ring (omega (arith, linear))

-- full rank in the plane
pub full_flat : (d : ℕ) (vs : List Vector) (a b v : Vector) (m : ℤ) → d ≡ 2 → Contains vs a → Contains vs b → v ≡ cross a b → m ≡ pos (unsigned_abs v.z)
    → pos 1 ≤ℤ m → m <ℤ pos (2 ^ 60) → IsVolume d vs m
full_flat d vs a b v m two i j e is from to = record {
  a = a;
  b = b;
  c = vector (pos 0) (pos 0) (pos 1);
  first = i;
  second = j;
  third = ((λ t. refl), (λ n. absurd (n two)));
  is = is ∙ ap (λ (v : Vector). pos (unsigned_abs v.z)) e ∙ ap (λ (t : ℤ). pos (unsigned_abs t)) (sym (up_dot (cross a b).x (cross a b).y (cross a b).z));
  from = from;
  to = to;
}

-- and in space
pub full_space : (d : ℕ) (vs : List Vector) (a b c v : Vector) (m : ℤ) → d ≢ 2 → Contains vs a → Contains vs b → Contains vs c → v ≡ cross a b
    → m ≡ pos (unsigned_abs (dot v c)) → pos 1 ≤ℤ m → m <ℤ pos (2 ^ 60) → IsVolume d vs m
full_space d vs a b c v m n i j k e is from to = record {
  a = a;
  b = b;
  c = c;
  first = i;
  second = j;
  third = ((λ t. absurd (n t)), (λ t. k));
  is = is ∙ ap (λ (v : Vector). pos (unsigned_abs (dot v c))) e;
  from = from;
  to = to;
}
