-- A lattice with vectors added is the least one that has them. If all pivots are 1 it has all vectors.
use Rattle.std.proofs.Common.{◌≡◌, ℕ, ℤ, pos, ◌+ℤ◌, ◌*ℤ◌, List, [], ◌∷◌, refl, sym, ap, subst, ◌∙◌, arith, inl, inr, ◌*◌, ◌≤◌, ◌<◌, ◌^◌, ◌<ℤ◌, ◌-ℤ◌}
use Rattle.std.{proofs.Common.unsigned_abs, proofs.Common.FitsSigned, proofs.lemmas.Int.ints, specs.Int.w128}
use Rattle.integers.specs.Vectors.{Vector, zero_vector, HasDimension, plus, times, combination}
use Rattle.integers.proofs.vectors.Laws.{vector_equal, plus_zero, plus_associative, plus_dimension, times_dimension, zero_plus, zero_times, one_times}
use Rattle.integers.{proofs.numbers.Ring.linear, proofs.numbers.Ring.ring, specs.Lattices.IsVectorGroup, proofs.lists.Members.IsIn}
use Rattle.integers.{proofs.vectors.StairBasis.combination_in, proofs.vectors.Bounds.bounded_product, proofs.vectors.Bounds.fits_from_bound}
use Rattle.vecdim.specs.Stairs.{Stairs, InStairs, IsReducedStair, IsWhole, size_of}
use Rattle.vecdim.specs.{Lattices.Members, Lattices.IsSumWith, Lattices.IsWith, Steps.HasAdded}

-- a combination of no vectors is 0
pub combination_nothing : (ks : List ℤ) → combination ks [] ≡ zero_vector
combination_nothing [] = refl
combination_nothing (k ∷ ks) = refl

-- a combination of one vector is a multiple of it
pub combination_one : (ks : List ℤ) (v : Vector) → (k : ℤ) × (combination ks (v ∷ []) ≡ times k v)
combination_one [] v = (pos 0, vector_equal (omega (arith, ints)) (omega (arith, ints)) (omega (arith, ints)))
combination_one (k ∷ ks) v = (k, ap (λ (w : Vector). plus (times k v) w) (combination_nothing ks) ∙ plus_zero (times k v))

-- a flat sum has a flat first term, if the second is flat
flat_term : (w u k v : ℤ) → w ≡ u +ℤ k *ℤ v → w ≡ pos 0 → v ≡ pos 0 → u ≡ pos 0
flat_term w u k v e p q = let f : w ≡ u +ℤ k *ℤ pos 0 = e ∙ ap (λ (t : ℤ). u +ℤ k *ℤ t) q in omega (arith, ints, f, p)

-- what an insertion does, for the members of dimension d
pub with_of_added : (d : ℕ) (S T : Stairs) (v : Vector) → HasDimension d v → HasAdded S T v → IsWith (Members d S) (v ∷ []) (Members d T)
with_of_added d S T v dim a = record {
  out = λ w m.
      let s = a.out w m.0 in
      record {
        u = s.u;
        member = (s.member, λ e. flat_term w.z s.u.z s.k v.z s.z (m.1 e) (dim e));
        ks = s.k ∷ [];
        sum = vector_equal (omega (arith, linear, s.x)) (omega (arith, linear, s.y)) (omega (arith, linear, s.z));
      };
  into = λ w s.
      let c = combination_one s.ks v in
      let e : w ≡ plus s.u (times c.0 v) = s.sum ∙ ap (plus s.u) c.1 in (
        a.into w (record {
          k = c.0;
          u = s.u;
          member = s.member.0;
          x = ap (λ (t : Vector). t.x) e;
          y = ap (λ (t : Vector). t.y) e;
          z = ap (λ (t : Vector). t.z) e;
        }),
        subst (HasDimension d) (sym e) (plus_dimension d s.u (times c.0 v) s.member.1 (times_dimension d c.0 v dim)),
      );
}

-- with no vectors added a lattice is the same
pub with_nothing : (L : Vector → Type 0) → IsWith L [] L
with_nothing L = grind (arith, plus_zero, combination_nothing)

-- one vector added, and then others
pub with_more : (L K M : Vector → Type 0) (v : Vector) (vs : List Vector) → IsWith L (v ∷ []) K → IsWith K vs M → IsWith L (v ∷ vs) M
with_more L K M v vs h i = record { out = out; into = into }
  where
    out : (w : Vector) → M w → IsSumWith L (v ∷ vs) w
    out w m =
        let s = i.out w m in let t = h.out s.u s.member in let c = combination_one t.ks v in
        record {
          u = t.u;
          member = t.member;
          ks = c.0 ∷ s.ks;
          sum = s.sum ∙ ap (λ (u : Vector). plus u (combination s.ks vs)) (t.sum ∙ ap (plus t.u) c.1)
              ∙ plus_associative t.u (times c.0 v) (combination s.ks vs);
        }

    from : (w u : Vector) → L u → (ks : List ℤ) → w ≡ plus u (combination ks (v ∷ vs)) → M w
    from w u m [] e = i.into w (record { u = u; member = h.into u (record { u = u; member = m; ks = []; sum = sym (plus_zero u) }); ks = []; sum = e })
    from w u m (k ∷ ks) e =
        i.into w
        (record {
          u = plus u (times k v);
          member = h.into (plus u (times k v)) (record { u = u; member = m; ks = k ∷ []; sum = sym (ap (plus u) (plus_zero (times k v))) });
          ks = ks;
          sum = e ∙ sym (plus_associative u (times k v) (combination ks vs));
        })

    into : (w : Vector) → IsSumWith L (v ∷ vs) w → M w
    into w s = from w s.u s.member s.ks s.sum

-- a lattice that has L and the vectors has all of L with them
pub with_inside : (L M K : Vector → Type 0) (vs : List Vector) → IsWith L vs M → IsVectorGroup K → ((w : Vector) → L w → K w) → ((v : Vector) → IsIn vs v → K v)
    → (w : Vector) → M w → K w
with_inside L M K vs a h l i w m =
    let s = a.out w m in
    subst K (sym s.sum) (h.sums s.u (combination s.ks vs) (l s.u s.member) (combination_in K h s.ks vs i))

-- it has L
pub with_start : (L M : Vector → Type 0) (vs : List Vector) → IsWith L vs M → (w : Vector) → L w → M w
with_start L M vs a w m = a.into w (record { u = w; member = m; ks = []; sum = sym (plus_zero w) })

-- the coefficients that make a vector of the list
unit : (vs : List Vector) (v : Vector) → IsIn vs v → (ks : List ℤ) × (combination ks vs ≡ v)
unit [] v i = absurd i
unit (y ∷ ys) v (inl e) = (pos 1 ∷ [], plus_zero (times (pos 1) y) ∙ one_times y ∙ e)
unit (y ∷ ys) v (inr i) = let r = unit ys v i in (pos 0 ∷ r.0, (λ j. plus (zero_times y j) (r.1 j)) ∙ zero_plus v)

-- it has the vectors
pub with_has : (L M : Vector → Type 0) (vs : List Vector) → IsWith L vs M → L zero_vector → (v : Vector) → IsIn vs v → M v
with_has L M vs a z v i = search (arith, unit, zero_plus)

-- the second number of a combination of rows with pivots 1
rest_y : (x y b e : ℤ) → e ≡ pos 1 → y ≡ x *ℤ b +ℤ (y -ℤ x *ℤ b) *ℤ e
rest_y x y b e h = let p = ap (λ t. (y -ℤ x *ℤ b) *ℤ t) h in simp ring (omega (arith, linear, simp ring at p))

-- and the third
rest_z : (x l z c f i : ℤ) → i ≡ pos 1 → z ≡ x *ℤ c +ℤ l *ℤ f +ℤ (z -ℤ x *ℤ c -ℤ l *ℤ f) *ℤ i
rest_z x l z c f i h = let p = ap (λ t. (z -ℤ x *ℤ c -ℤ l *ℤ f) *ℤ t) h in simp ring (omega (arith, linear, simp ring at p))

-- each vector is a member
pub all_members : (S : Stairs) → IsWhole S → (v : Vector) → InStairs S v
all_members S w v = record {
  k = v.x;
  l = v.y -ℤ v.x *ℤ S.first_y;
  n = v.z -ℤ v.x *ℤ S.first_z -ℤ (v.y -ℤ v.x *ℤ S.first_y) *ℤ S.second_z;
  x = sym (ap (λ t. v.x *ℤ t) w.first_x ∙ simp ring refl);
  y = rest_y v.x v.y S.first_y S.second_y w.second_y;
  z = rest_z v.x (v.y -ℤ v.x *ℤ S.first_y) v.z S.first_z S.second_z S.third_z w.third_z;
}

-- so a vector more changes nothing
whole_added : (S : Stairs) → IsWhole S → (v : Vector) → HasAdded S S v
whole_added S h v = record {
  out = λ w m. record { k = pos 0; u = w; member = m; x = omega (arith, ints); y = omega (arith, ints); z = omega (arith, ints) };
  into = λ w s. all_members S h w;
}

-- it changes no members
pub with_whole : (d : ℕ) (S : Stairs) (v : Vector) → HasDimension d v → IsWhole S → IsWith (Members d S) (v ∷ []) (Members d S)
with_whole d S v dim h = with_of_added d S S v dim (whole_added S h v)

-- a positive number is its own size
own : (m : ℤ) → pos 0 <ℤ m → m ≡ pos (unsigned_abs m)
own m h = omega (arith, ints)

-- the product of the last two pivots
pub last_two : (S : Stairs) → IsReducedStair S → S.second_y *ℤ S.third_z ≡ pos (unsigned_abs S.second_y * unsigned_abs S.third_z)
last_two S r = (λ j. own S.second_y r.second_y j *ℤ own S.third_z r.third_z j)

-- the product of the pivots
pub size_is : (S : Stairs) → IsReducedStair S → S.first_x *ℤ (S.second_y *ℤ S.third_z) ≡ pos (size_of S)
size_is S r = (λ j. own S.first_x r.first_x j *ℤ last_two S r j)

-- it fits if it is small
pub size_fits : (S : Stairs) → IsReducedStair S → size_of S < 2 ^ 127 → FitsSigned w128 (S.first_x *ℤ (S.second_y *ℤ S.third_z))
size_fits S r h = search (arith, size_is, fits_from_bound)

-- the product of two small pivots fits
pub two_fit : (e i : ℤ) → unsigned_abs e ≤ 2 ^ 60 → unsigned_abs i ≤ 2 ^ 60 → FitsSigned w128 (e *ℤ i)
two_fit e i h k = fits_from_bound (e *ℤ i) (2 ^ 120) (omega arith) (bounded_product e i (2 ^ 60) (2 ^ 60) h k)
