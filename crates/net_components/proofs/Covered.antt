-- The copies of the components are the classes of vertices that walks join, and the components cover the vertices.
use Rattle.std.proofs.Common.{◌≡◌, ℕ, ℤ, ◌+ℤ◌, ◌-ℤ◌, pos, refl, sym, ap, arith, neg_ℤ, subst, ◌≢◌, ◌⊎◌, inl, inr, ◌<◌, ◌≤◌, ◌∙◌, zero, suc, ◌*ℤ◌, ◌*◌}
use Rattle.std.proofs.Common.{unsigned_abs, ◌≤ℤ◌, ◌<ℤ◌, ◌^◌, List, Option, All, ◌+◌, [], ◌∷◌, ◌++◌, IsSome, Result, Ok, Err, IfErr, Contains}
use Rattle.std.proofs.lemmas.List.Elements.{All-contains, Contains-append_left, Contains-append_right}
use Rattle.std.proofs.{lemmas.Int.ints, lemmas.Int.unsigned_abs-mul, Math.Decide.dec_lt}
use Rattle.integers.specs.Vectors.{Vector, zero_vector, plus, minus, opposite, HasDimension, cross, dot, vector}
use Rattle.integers.proofs.vectors.Laws.{vector_equal, zero_plus, plus_minus, minus_itself, minus_zero}
use Rattle.integers.proofs.{counting.Numbering.not_fewer, lists.GrownLists.all_with, lists.GrownLists.pairs_with, numbers.Order.three_ways}
use Rattle.integers.proofs.{numbers.Order.before_or_at, numbers.Ring.ring, numbers.Ring.linear}
use Rattle.periodic_net.specs.Graph.{Graph, Vertex, vertex, IsQuotientVertex, IsReached, IsGraph, IsVertex}
use Rattle.periodic_net.proofs.CallerLemmas.{reached_transitive, reached_moved, reached_turned, same_reached, closed_group, reached_inside, with_turned}
use Rattle.periodic_net.proofs.CallerLemmas.{with_transitive, with_itself}
use Rattle.periodic_net.specs.{Split.WalkShift, Split.ClosedShift, Components.InComponent, Components.TellsWalks}
use Rattle.net_components.specs.Ranks.{IsFullAt, IsFlatAt, IsOrthogonalAt, IsLowRank}
use Rattle.net_components.specs.Components.{IsComponent, Component, IsFoundIn, AreComponentsTo}
use Rattle.net_components.specs.declared.fault.PartFault.TheVariants.{LowRank, WideShift, NoMemory}
use Rattle.net_components.specs.{ComponentSets.InCopy, ComponentSets.IsLeast, Copies.AreSameCopy, Copies.HasCopies, Faults.IsFlatFault, Faults.IsPartFault}
use Rattle.net_components.specs.{declared.fault.PartFault.PartFault}
use Rattle.vecdim.specs.Stairs.{Stairs, IsRemainder, size_of, InStairs, HasStairShape, HasFlatEnd}
use Rattle.vecdim.specs.Lattices.{Members}
use Rattle.sublattice.specs.Remainders.{IsRemainderOf, number_of, remainder_with}
use Rattle.sublattice.{specs.Laws.AreNumbered, proofs.CallerLemmas.remainders_numbered, proofs.CallerLemmas.tell_classes}
use Rattle.connected_dim.specs.Search.{AreWalks, walk_to, shift_of}
use Rattle.connected_dim.proofs.CallerLemmas.{closed_by_volume, generators_closed, orthogonal_closed, all_found, walk_at}
use Rattle.connected_dim.specs.{Lattices.IsLatticeOf, Lattices.AreClosedWalks, Generators.generators, Generators.shift_at, Full.IsVolume}
use Rattle.connected_dim.specs.{Paths.AreChosenWalks, Orthogonal.IsFlatNormal, Orthogonal.IsOrthogonalTo}
use Prim.{Dec, yes, no}

-- The copy of r is what walks reach from the vertex over a in cell r.

module _ (G : Graph) (a : ℕ) (T : ℕ → Vector) (t : TellsWalks G a T) where
  -- (t - T - r) + r = 0 + (t - T)
  to_start : (v s r : ℤ) → ((v -ℤ s) -ℤ r) +ℤ r ≡ pos 0 +ℤ (v -ℤ s)
  to_start v s r = omega (arith, ints)

  -- a vertex of a copy is reached from the vertex of the copy over a
  pub copy_reached : (r : Vector) (w : Vertex) → InCopy G a T r w → IsReached G (vertex a r) w
  copy_reached r w h =
      let k = minus w.cell (T w.over) in let l = minus k r in
      let one = reached_moved G (vertex a zero_vector) (vertex a l) r h.cell in
      let two = reached_moved G (vertex a zero_vector) (vertex w.over (T w.over)) k (t.walks w.over h.over) in
      reached_transitive G (vertex a r) (vertex a (plus l r)) w
      (same_reached G (ap (vertex a) (zero_plus r)) refl one)
      (same_reached G (ap (vertex a)
      (sym (vector_equal (to_start w.cell.x (T w.over).x r.x) (to_start w.cell.y (T w.over).y r.y) (to_start w.cell.z (T w.over).z r.z))))
      (ap (vertex w.over) (plus_minus (T w.over) w.cell)) two)

  -- 0 + (t - r)
  from_start : (v r : ℤ) → r +ℤ (pos 0 -ℤ r) ≡ pos 0
  from_start v r = omega (arith, ints)

  less_start : (v r : ℤ) → v +ℤ (pos 0 -ℤ r) ≡ v -ℤ r
  less_start v r = omega (arith, ints)

  closing : (v s r : ℤ) → pos 0 +ℤ ((v -ℤ r) -ℤ s) ≡ (v -ℤ s) -ℤ r
  closing v s r = omega (arith, ints)

  -- what is reached from the vertex over a, from cell 0
  from_zero : (r : Vector) (w : Vertex) → IsReached G (vertex a r) w → WalkShift G a w.over (minus w.cell r)
  from_zero r w h =
      same_reached G
      (ap (vertex a) (vector_equal (from_start r.x r.x) (from_start r.y r.y) (from_start r.z r.z)))
      (ap (vertex w.over) (vector_equal (less_start w.cell.x r.x) (less_start w.cell.y r.y) (less_start w.cell.z r.z)))
      (reached_moved G (vertex a r) w (minus zero_vector r) h)

  -- and it is a vertex of the copy
  pub reached_copy : (r : Vector) (w : Vertex) → IsQuotientVertex G w.over → IsReached G (vertex a r) w → InCopy G a T r w
  reached_copy r w q h =
      let c = from_zero r w h in
      let i : InComponent G a w.over = record { vertex = q; shift = minus w.cell r; walk = c } in
      let k = minus (minus w.cell r) (T w.over) in
      let back = reached_moved G (vertex w.over (T w.over)) (vertex a zero_vector) k
      (reached_turned G (vertex a zero_vector) (vertex w.over (T w.over)) (t.walks w.over i)) in
      record {
        over = i;
        cell = reached_transitive G (vertex a zero_vector) (vertex w.over (minus w.cell r)) (vertex a (minus (minus w.cell (T w.over)) r)) c
            (same_reached G (ap (vertex w.over) (plus_minus (T w.over) (minus w.cell r)))
            (ap (vertex a) (vector_equal (closing w.cell.x (T w.over).x r.x) (closing w.cell.y (T w.over).y r.y) (closing w.cell.z (T w.over).z r.z))) back);
      }

module _ (G : Graph) (a : ℕ) (T : ℕ → Vector) (t : TellsWalks G a T) where
  -- walks join the vertices of a copy
  pub copy_joined : (r : Vector) (w x : Vertex) → InCopy G a T r w → InCopy G a T r x → IsReached G w x
  copy_joined r w x h k = reached_transitive G w (vertex a r) x (reached_turned G (vertex a r) w (copy_reached G a T t r w h)) (copy_reached G a T t r x k)

  -- and lead out of it to no other
  pub copy_closed : IsGraph G → (r : Vector) (w x : Vertex) → IsVertex G w → InCopy G a T r w → IsReached G w x → InCopy G a T r x
  copy_closed g r w x i h k =
      let j = reached_inside G g w x i k in
      reached_copy G a T t r x j.over (reached_transitive G (vertex a r) w x (copy_reached G a T t r w h) k)

module _ (G : Graph) (a : ℕ) (T : ℕ → Vector) where
  -- each vertex over the component is in a copy
  pub in_copy : (w : Vertex) → InComponent G a w.over → InCopy G a T (minus w.cell (T w.over)) w
  in_copy w i = record { over = i; cell = subst (ClosedShift G a) (sym (minus_itself (minus w.cell (T w.over)))) (closed_group G a).zero }

  apart : (p r s : ℤ) → (p -ℤ s) +ℤ neg_ℤ (p -ℤ r) ≡ r -ℤ s
  apart p r s = omega (arith, ints)

  -- two copies of a component that share a vertex differ by the shift of a closed walk
  pub copies_meet : (r s : Vector) (w : Vertex) → InCopy G a T r w → InCopy G a T s w → ClosedShift G a (minus r s)
  copies_meet r s w h k =
      let p = minus w.cell (T w.over) in let l = closed_group G a in
      subst (ClosedShift G a) (vector_equal (apart p.x r.x s.x) (apart p.y r.y s.y) (apart p.z r.z s.z))
      (l.sums (minus p s) (opposite (minus p r)) k.cell (l.opposites (minus p r) h.cell))

  together : (p r s : ℤ) → (p -ℤ r) +ℤ (r -ℤ s) ≡ p -ℤ s
  together p r s = omega (arith, ints)

  -- and are then the same
  pub copies_same : (r s : Vector) (w : Vertex) → ClosedShift G a (minus r s) → InCopy G a T r w → InCopy G a T s w
  copies_same r s w d h =
      let p = minus w.cell (T w.over) in
      record {
        over = h.over;
        cell = subst (ClosedShift G a) (vector_equal (together p.x r.x s.x) (together p.y r.y s.y) (together p.z r.z s.z))
            ((closed_group G a).sums (minus p r) (minus r s) h.cell d);
      }

-- a component has one least vertex
pub one_least : (G : Graph) (a b : ℕ) → IsLeast G a → IsLeast G b → InComponent G a b → a ≡ b
one_least G a b h k w = let p = h.least b w in let q = k.least a (with_turned G a b h.vertex w) in omega arith

-- copies that share a vertex are of one component
pub one_component : (G : Graph) (a b : ℕ) (S T : ℕ → Vector) (r s : Vector) (w : Vertex) → IsLeast G a → IsLeast G b → InCopy G a S r w → InCopy G b T s w
    → a ≡ b
one_component G a b S T r s w h k i j = one_least G a b h k (with_transitive G a w.over b i.over (with_turned G b w.over k.vertex j.over))

-- A component has as many copies as there are remainders, and one number of copies.

module _ (G : Graph) (a : ℕ) (T : ℕ → Vector) where
  -- copies that share a vertex are the same
  sharing_same : (r s : Vector) (w : Vertex) → InCopy G a T r w → InCopy G a T s w → AreSameCopy G a T r s
  sharing_same r s w h k =
      let there = copies_meet G a T r s w h k in let back = copies_meet G a T s r w k h in
      λ x i. ((λ j. copies_same G a T r s x there j), λ j. copies_same G a T s r x back j)

  -- the vertex over a in cell r is in the copy of r
  origin_in : IsLeast G a → TellsWalks G a T → (r : Vector) → InCopy G a T r (vertex a r)
  origin_in l t r =
      subst (λ (v : Vector). InCopy G a T v (vertex a r)) (ap (minus r) t.start ∙ minus_zero r) (in_copy G a T (vertex a r) (with_itself G a l.vertex))

  module _ (S : Stairs) (l : IsLeast G a) (t : TellsWalks G a T) (f : IsFullAt G a S) where
    numbered : AreNumbered G.dimension S
    numbered = remainders_numbered G.dimension S f.shape

    -- a remainder is its own
    own : (r : Vector) → IsRemainder G.dimension S r → IsRemainderOf G.dimension S r r
    own r i = record { remainder = i; difference = f.inside (minus r r) (copies_meet G a T r r (vertex a r) (origin_in l t r) (origin_in l t r)) }

    -- remainders with one copy are equal
    same_remainder : (q r : Vector) → IsRemainder G.dimension S q → IsRemainder G.dimension S r → AreSameCopy G a T q r → q ≡ r
    same_remainder q r i j h =
        let here = origin_in l t q in
        let there = (h (vertex a q) (record { over = l.vertex; cell = i.dimension })).0 here in
        (tell_classes.same G.dimension S q r q r (own q i) (own r j)).1 (f.inside (minus q r) (copies_meet G a T q r (vertex a q) here there))

    -- so different numbers have different copies
    different : (i j : ℕ) → i < size_of S → j < size_of S → i ≢ j → ¬ AreSameCopy G a T (remainder_with S i) (remainder_with S j)
    different i j k m n h =
        let e = same_remainder (remainder_with S i) (remainder_with S j) (numbered.remainder i k) (numbered.remainder j m) h in
        n (sym (numbered.back i k) ∙ ap (number_of S) e ∙ numbered.back j m)

    -- and each copy is that of a number
    every : (r : Vector) → HasDimension G.dimension r → (i : ℕ) × (i < size_of S) × AreSameCopy G a T r (remainder_with S i)
    every r d =
        let q = tell_classes.some G.dimension S r f.shape d in let i = q.1.remainder in
        let there = f.all (minus r q.0) q.1.difference in
        let here = copies_same G a T r q.0 (vertex a r) there (origin_in l t r) in
        let same : AreSameCopy G a T r q.0 = sharing_same r q.0 (vertex a r) (origin_in l t r) here in
        (number_of S q.0, numbered.below q.0 i, subst (AreSameCopy G a T r) (sym (numbered.there q.0 i)) same)

-- there are as many as the product of the pivots
pub copy_count : (G : Graph) → IsGraph G → (a : ℕ) (T : ℕ → Vector) (S : Stairs) → IsLeast G a → TellsWalks G a T → IsFullAt G a S → HasCopies G a T (size_of S)
copy_count G g a T S l t f = record {
  shift = remainder_with S;
  dimension = λ i k. ((numbered G a T S l t f).remainder i k).dimension;
  different = different G a T S l t f;
  every = every G a T S l t f;
}

-- no number of copies is above another
no_more : (G : Graph) (a : ℕ) (T : ℕ → Vector) (m n : ℕ) (h : HasCopies G a T m) (k : HasCopies G a T n) → m ≤ n
no_more G a T m n h k = not_fewer m n to (λ i l. (k.every (h.shift i) (h.dimension i l)).1) once
  where
    to : (i : ℕ) → i < m → ℕ
    to i l = (k.every (h.shift i) (h.dimension i l)).0

    once : (i j : ℕ) (l : i < m) (p : j < m) → to i l ≡ to j p → i ≡ j
    once i j l p e = by (three_ways i j)
      where
        there : AreSameCopy G a T (h.shift i) (k.shift (to i l))
        there = (k.every (h.shift i) (h.dimension i l)).2

        back : AreSameCopy G a T (h.shift j) (k.shift (to i l))
        back = subst (λ x. AreSameCopy G a T (h.shift j) (k.shift x)) (sym e) (k.every (h.shift j) (h.dimension j p)).2

        same : AreSameCopy G a T (h.shift i) (h.shift j)
        same w v = ((λ x. (back w v).1 ((there w v).0 x)), λ x. (there w v).1 ((back w v).0 x))

        by : (i < j) ⊎ ((j < i) ⊎ (i ≡ j)) → i ≡ j
        by (inl a) = absurd (h.different i j l p (λ s. omega (arith, a, s)) same)
        by (inr (inl a)) = absurd (h.different i j l p (λ s. omega (arith, a, s)) same)
        by (inr (inr s)) = s

-- so there is one
pub one_count : (G : Graph) (a : ℕ) (T : ℕ → Vector) (m n : ℕ) → HasCopies G a T m → HasCopies G a T n → m ≡ n
one_count G a T m n h k = let p = no_more G a T m n h k in let q = no_more G a T n m k h in omega (arith, p, q)

-- The number of remainders is at most the volume of three independent members.

-- the determinant of three sums of rows
rows_product : (k l n k' l' n' k'' l'' n'' a b c e f i : ℤ)
    → ((k *ℤ b +ℤ l *ℤ e) *ℤ (k' *ℤ c +ℤ l' *ℤ f +ℤ n' *ℤ i) -ℤ (k *ℤ c +ℤ l *ℤ f +ℤ n *ℤ i) *ℤ (k' *ℤ b +ℤ l' *ℤ e)) *ℤ (k'' *ℤ a)
    +ℤ ((k *ℤ c +ℤ l *ℤ f +ℤ n *ℤ i) *ℤ (k' *ℤ a) -ℤ (k *ℤ a) *ℤ (k' *ℤ c +ℤ l' *ℤ f +ℤ n' *ℤ i)) *ℤ (k'' *ℤ b +ℤ l'' *ℤ e)
    +ℤ ((k *ℤ a) *ℤ (k' *ℤ b +ℤ l' *ℤ e) -ℤ (k *ℤ b +ℤ l *ℤ e) *ℤ (k' *ℤ a)) *ℤ (k'' *ℤ c +ℤ l'' *ℤ f +ℤ n'' *ℤ i)
    ≡ (a *ℤ (e *ℤ i)) *ℤ ((l *ℤ n' -ℤ n *ℤ l') *ℤ k'' +ℤ (n *ℤ k' -ℤ k *ℤ n') *ℤ l'' +ℤ (k *ℤ l' -ℤ l *ℤ k') *ℤ n'')
rows_product k l n k' l' n' k'' l'' n'' a b c e f i = simp ring (omega (arith, linear))

-- the number of the coefficients' determinant
abbrev times_of : {S : Stairs} {u v w : Vector} → InStairs S u → InStairs S v → InStairs S w → ℤ
times_of p q r = (p.l *ℤ q.n -ℤ p.n *ℤ q.l) *ℤ r.k +ℤ (p.n *ℤ q.k -ℤ p.k *ℤ q.n) *ℤ r.l +ℤ (p.k *ℤ q.l -ℤ p.l *ℤ q.k) *ℤ r.n

-- so the volume of three members is a multiple of the product of the pivots
volume_of : (S : Stairs) (u v w : Vector) (p : InStairs S u) (q : InStairs S v) (r : InStairs S w) → dot (cross u v) w
    ≡ (S.first_x *ℤ (S.second_y *ℤ S.third_z)) *ℤ times_of p q r
volume_of S u v w p q r = grind (arith, rows_product)

size_is : (S : Stairs) → unsigned_abs (S.first_x *ℤ (S.second_y *ℤ S.third_z)) ≡ size_of S
size_is S = unsigned_abs-mul S.first_x (S.second_y *ℤ S.third_z) ∙ ap (λ t. unsigned_abs S.first_x * t) (unsigned_abs-mul S.second_y S.third_z)

at_most : (n k : ℕ) → 1 ≤ n * k → n ≤ n * k
at_most n zero h = absurd (let e = none n in omega arith)
  where
    none : (n : ℕ) → n * 0 ≡ 0
    none n = omega arith
at_most n (suc k) h = grind arith

-- the product of the pivots is at most the volume, if it is not 0
pub size_at_most : (S : Stairs) (u v w : Vector) → InStairs S u → InStairs S v → InStairs S w → 1 ≤ unsigned_abs (dot (cross u v) w)
    → size_of S ≤ unsigned_abs (dot (cross u v) w)
size_at_most S u v w p q r some =
    let e : unsigned_abs (dot (cross u v) w) ≡ size_of S * unsigned_abs (times_of p q r) =
    ap unsigned_abs (volume_of S u v w p q r) ∙ unsigned_abs-mul (S.first_x *ℤ (S.second_y *ℤ S.third_z)) (times_of p q r)
    ∙ ap (λ t. t * unsigned_abs (times_of p q r)) (size_is S) in
    subst (λ n. size_of S ≤ n) (sym e) (at_most (size_of S) (unsigned_abs (times_of p q r)) (subst (λ n. 1 ≤ n) e some))

-- A component whose closed walks have full rank.

-- the vector (0, 0, 1) is a sum of rows in dimension 2
up_in : (S : Stairs) → HasFlatEnd S → InStairs S (vector (pos 0) (pos 0) (pos 1))
up_in S h = record { k = pos 0; l = pos 0; n = pos 1; x = none S.first_x; y = two S.first_y S.second_y; z = three S.first_z S.second_z S.third_z h.third_z }
  where
    none : (a : ℤ) → pos 0 ≡ pos 0 *ℤ a
    none a = omega (arith, ints)

    two : (b e : ℤ) → pos 0 ≡ pos 0 *ℤ b +ℤ pos 0 *ℤ e
    two b e = omega (arith, ints)

    three : (c f i : ℤ) → i ≡ pos 1 → pos 1 ≡ pos 0 *ℤ c +ℤ pos 0 *ℤ f +ℤ pos 1 *ℤ i
    three c f i e = omega (arith, ints, e)

two_or_not : (d : ℕ) → (d ≡ 2) ⊎ (d ≢ 2)
two_or_not d = grind arith

module _ (G : Graph) (g : IsGraph G) (a : ℕ) (least : IsLeast G a) (found : List (Option Vector)) (h : AreWalks G a found) (m : ℤ) (S : Stairs)
    (v : IsVolume G.dimension (generators G found) m) (l : IsLatticeOf G.dimension m (generators G found) S) (shape : HasStairShape G.dimension S) where
  closed : AreClosedWalks G a S
  closed = closed_by_volume G a found m S g least.vertex h v l

  full : IsFullAt G a S
  full = record { shape = shape; inside = closed.into; all = closed.out }

  members : All (Members G.dimension S) (generators G found)
  members k w i = closed.into _ (generators_closed G g a found h least.vertex.0 k w i)

  third_in : (G.dimension ≡ 2) ⊎ (G.dimension ≢ 2) → InStairs S v.c
  third_in (inl two) = subst (InStairs S) (sym (v.third.0 two)) (up_in S (shape.flat two))
  third_in (inr n) = (All-contains (Members G.dimension S) (generators G found) v.c members (v.third.1 n)).0

  few : size_of S < 2 ^ 60
  few =
      let low = v.from in let high = v.to in let is = v.is in
      let b = size_at_most S v.a v.b v.c (All-contains (Members G.dimension S) (generators G found) v.a members v.first).0
      (All-contains (Members G.dimension S) (generators G found) v.b members v.second).0 (third_in (two_or_not G.dimension))
      (some m (unsigned_abs (dot (cross v.a v.b) v.c)) is low) in
      below m (unsigned_abs (dot (cross v.a v.b) v.c)) is high b
    where
      some : (m : ℤ) (n : ℕ) → m ≡ pos n → pos 1 ≤ℤ m → 1 ≤ n
      some m n e h = omega (arith, ints, e, h)

      below : (m : ℤ) (n : ℕ) → m ≡ pos n → m <ℤ pos (2 ^ 60) → size_of S ≤ n → size_of S < 2 ^ 60
      below m n e h k = omega (arith, ints, e, h, k)

  pub is_component : AreChosenWalks G a found → IsComponent G (record { root = a; found = found; stairs = S })
  is_component chosen = record { least = least; walks = h; chosen = chosen; full = full; few = few }

-- A component whose closed walks have a rank below the dimension.

module _ (G : Graph) (g : IsGraph G) (a : ℕ) (least : IsLeast G a) (found : List (Option Vector)) (h : AreWalks G a found) where
  -- what is orthogonal to the closed walks is so to the generators
  to_generators : (e : Vector) → IsOrthogonalAt G a e → IsOrthogonalTo (generators G found) e
  to_generators e o k v i = o _ (generators_closed G g a found h least.vertex.0 k v i)

  -- the normal of the generators is that of the closed walks
  pub flat_at : (c : Vector) → IsFlatNormal G.dimension (generators G found) c → IsFlatAt G a c
  flat_at c n = record {
    dimension = n.dimension;
    orthogonal = λ v k. orthogonal_closed G a found c g least.vertex.0 h n.orthogonal v k;
    positive = n.positive;
    lowest = λ e k d o some ends. n.lowest e k d (to_generators e o) some ends;
    coprime = n.coprime;
  }

-- a walk leads exactly to the vertices that were found
pub found_in : (G : Graph) (c : Component) → IsComponent G c → (u : ℕ) → IsQuotientVertex G u → (o : IsSome (walk_to c.found u)) → IsGraph G
    → InComponent G c.root u
found_in G c h u q o g = let T = walk_at G g c.root c.found h.walks u q.0 o in record { vertex = q; shift = _; walk = T }

pub in_found : (G : Graph) (c : Component) → IsComponent G c → (u : ℕ) → InComponent G c.root u → IsGraph G → IsSome (walk_to c.found u)
in_found G c h u i g = all_found G g c.root c.found h.walks h.least.vertex.0 u (i.shift, i.walk)

-- the walks that were found determine the component
pub tells : (G : Graph) → IsGraph G → (c : Component) → IsComponent G c → TellsWalks G c.root (shift_at c.found)
tells G g c h = record { start = ap shift_of h.walks.first; walks = λ u i. walk_at G g c.root c.found h.walks u i.vertex.0 (in_found G c h u i g) }

module _ (G : Graph) (g : IsGraph G) (cs : List Component) (u : ℕ) (q : IsQuotientVertex G u) (h : AreComponentsTo G cs u) where
  component_in : (c : Component) → Contains cs c → IsComponent G c
  component_in c i = All-contains (IsComponent G) cs c h.each i

  -- a vertex that was not found is the least of its component
  pub next_least : ¬ IsFoundIn cs u → IsLeast G u
  next_least none = record { vertex = q; least = λ v i. by v i (dec_lt v u) }
    where
      by : (v : ℕ) → InComponent G u v → Dec (v < u) → u ≤ v
      by v i (no n) = omega (arith, n)
      by v i (yes l) =
          let f = h.covers v i.vertex l in let c = component_in f.0 f.1 in
          let w = found_in G f.0 c v i.vertex f.2 g in
          absurd (none (f.0, f.1, in_found G f.0 c u (with_transitive G f.0.root v u w (with_turned G u v q i)) g))

  -- the components of lesser least vertices have full rank
  pub earlier_full : (b : ℕ) → IsLeast G b → b < u → (c : Component) × Contains cs c × (c.root ≡ b)
  earlier_full b k l =
      let f = h.covers b k.vertex l in let c = component_in f.0 f.1 in
      (f.0, f.1, one_least G f.0.root b c.least k (found_in G f.0 c b k.vertex f.2 g))

  -- if the next is of low rank it is the first
  pub low_rank : ¬ IsFoundIn cs u → (c : Vector) → IsFlatAt G u c → IsLowRank G u c
  low_rank none c flat = record {
    least = next_least none;
    flat = flat;
    first = λ b k l. let f = earlier_full b k l in (f.0.stairs, subst (λ a. IsFullAt G a f.0.stairs) f.2 (component_in f.0 f.1).full);
  }

  -- if it was found, nothing is added
  pub passed : IsFoundIn cs u → AreComponentsTo G cs (u + 1)
  passed f = record {
    each = h.each;
    below = λ k c l. let b = h.below k c l in omega (arith, b);
    rising = h.rising;
    covers = λ v i l. elim (before_or_at v u l) [ inl m ↦ h.covers v i m | inr e ↦ subst (IsFoundIn cs) (sym e) f ];
  }

  -- its component is put last
  pub added : (c : Component) → IsComponent G c → c.root ≡ u → AreComponentsTo G (cs ++ c ∷ []) (u + 1)
  added c i e = record {
    each = all_with (IsComponent G) cs c h.each i;
    below = all_with (λ c. c.root < u + 1) cs c (λ k c l. let b = h.below k c l in omega (arith, b)) (omega (arith, e));
    rising = pairs_with (λ b c. b.root < c.root) cs c h.rising (λ b j. subst (λ n. b.root < n) (sym e) (All-contains (λ c. c.root < u) cs b h.below j));
    covers = λ v k l. elim (before_or_at v u l) [
      | inl m ↦ let f = h.covers v k m in (f.0, Contains-append_left cs (c ∷ []) f.0 f.1, f.2)
      | inr d ↦ (
        c,
        Contains-append_right cs (c ∷ []) c (0, omega arith, refl),
        in_found G c i v
            (subst (λ w. InComponent G w v) (d ∙ sym e) (with_itself G v k)) g,
      )
    ];
  }

-- why the next component is not taken
pub low_fault : (G : Graph) → IsGraph G → (cs : List Component) (u : ℕ) → IsQuotientVertex G u → AreComponentsTo G cs u → ¬ IsFoundIn cs u
    → (f : PartFault) → IsFlatFault G u f → IsPartFault G f
low_fault G g cs u q h none (LowRank v c) k = subst (λ w. IsLowRank G w c) (sym k.0) (low_rank G g cs u q h none c k.1)
low_fault G g cs u q h none (WideShift v w s c value) k = absurd k
low_fault G g cs u q h none NoMemory k = k

-- the same of an answer
pub low_answer : {X : Type 0} (G : Graph) → IsGraph G → (cs : List Component) (u : ℕ) → IsQuotientVertex G u → AreComponentsTo G cs u → ¬ IsFoundIn cs u
    → (r : Result X PartFault) → IfErr r (IsFlatFault G u) → IfErr r (IsPartFault G)
low_answer G g cs u q h none (Ok x) k = k
low_answer G g cs u q h none (Err f) k = low_fault G g cs u q h none f k
