-- Closed walks of full rank have one staircase, and the arcs of a part are written in its basis.
use Rattle.std.proofs.Common.{◌≡◌, ◌⊎◌, inl, inr, ℕ, ℤ, pos, sym, arith, ◌+ℤ◌, ◌*ℤ◌, Bool, true, cond, [], ◌∷◌, refl, ap, ◌<ℤ◌, ◌∙◌, ◌≤◌, List}
use Rattle.std.proofs.Common.{◌++◌, length, subst, ◌-ℤ◌, neg_ℤ}
use Rattle.std.{proofs.lemmas.Bool.eqb-true, proofs.lemmas.Int.ints, proofs.Math.IntN.*ℤ_comm, specs.Prelude.◌==◌, specs.Prelude.slice_index_or}
use Rattle.std.{specs.List.AllByRecursion}
use Rattle.integers.specs.Vectors.{Vector, zero_vector, minus, times, HasDimension, vector, plus, parts, combination, opposite}
use Rattle.integers.proofs.numbers.Ring.{ring, linear, cancel_factor}
use Rattle.integers.proofs.vectors.Laws.{vector_equal, flat_sum}
use Rattle.integers.{specs.Bases.base_sum, specs.Bases.Base}
use Rattle.integers.{proofs.vectors.StairBasis.one_staircase, proofs.numbers.Order.positive_is_some, proofs.numbers.Order.three_ways}
use Rattle.integers.{proofs.lists.Members.IsIn, proofs.lists.Members.AreApart}
use Rattle.periodic_net.specs.Graph.{Graph, IsGraph, Arc, arc, reverse_of, both_ways, IsQuotientVertex}
use Rattle.periodic_net.proofs.CallerLemmas.{normal_is_one}
use Rattle.periodic_net.specs.{Split.ClosedShift, Components.InComponent}
use Rattle.net_components.specs.Ranks.{IsFlatAt, IsFullAt}
use Rattle.net_components.specs.PartGraphs.{stair_base, AreWritten, IsNumber, IsWritten, IsPart}
use Rattle.vecdim.specs.Stairs.{Stairs, rows_of, HasStairShape}
use Rattle.vecdim.{specs.Lattices.Members, proofs.CallerLemmas.rows_are_basis}

-- closed walks of a rank below the dimension have one normal
pub one_normal : (G : Graph) (a : ℕ) (c e : Vector) → IsFlatAt G a c → IsFlatAt G a e → c ≡ e
one_normal G a c e h k =
    normal_is_one G.dimension (ClosedShift G a) c e
    (record { dimension = h.dimension; orthogonal = h.orthogonal; positive = h.positive; lowest = h.lowest; coprime = h.coprime })
    (record { dimension = k.dimension; orthogonal = k.orthogonal; positive = k.positive; lowest = k.lowest; coprime = k.coprime })

-- Coordinates in the rows of a staircase, as a sum along them.

-- if the last coordinate is 0
none : (z r : ℤ) → z ≡ pos 0 → pos 0 ≡ z *ℤ r
none z r e = let p = ap (λ t. t *ℤ r) e in omega (arith, linear, simp ring at p)

-- and where it counts
one : (z r : ℤ) → z *ℤ r +ℤ pos 0 ≡ z *ℤ r
one z r = omega (arith, linear)

pub sum_of_rows : (d : ℕ) (S : Stairs) (k : Vector) → HasDimension d k → combination (parts 3 k) (rows_of d S) ≡ base_sum (stair_base S) k
sum_of_rows d S k h = by (d == 2) (λ e. h (eqb-true d 2 e))
  where
    third : Vector
    third = vector (pos 0) (pos 0) S.third_z

    last : (b : Bool) → (b ≡ true → k.z ≡ pos 0) → combination (k.z ∷ []) (cond b [] (third ∷ [])) ≡ times k.z third
    last b h = grind (arith, vector_equal)

    by : (b : Bool) → (b ≡ true → k.z ≡ pos 0)
        → combination (parts 3 k) (vector S.first_x S.first_y S.first_z ∷ vector (pos 0) S.second_y S.second_z ∷ cond b [] (third ∷ []))
        ≡ base_sum (stair_base S) k
    by b z = ap (λ t. plus (times k.x (vector S.first_x S.first_y S.first_z)) (plus (times k.y (vector (pos 0) S.second_y S.second_z)) t)) (last b z)

-- Sums of the rows of a stair: each member is one, and of one vector alone.

module _ (d : ℕ) (S : Stairs) (h : HasStairShape d S) where
  sum_x : (k l n a : ℤ) → k *ℤ a ≡ k *ℤ a +ℤ (l *ℤ pos 0 +ℤ n *ℤ pos 0)
  sum_x k l n a = simp ring (omega (arith, ints))

  sum_y : (k l n b e : ℤ) → k *ℤ b +ℤ l *ℤ e ≡ k *ℤ b +ℤ (l *ℤ e +ℤ n *ℤ pos 0)
  sum_y k l n b e = simp ring (omega (arith, ints))

  sum_z : (k l n c f i : ℤ) → k *ℤ c +ℤ l *ℤ f +ℤ n *ℤ i ≡ k *ℤ c +ℤ (l *ℤ f +ℤ n *ℤ i)
  sum_z k l n c f i = omega (arith, linear)

  -- a sum of rows is a member
  pub sum_member : (k : Vector) → HasDimension d k → Members d S (base_sum (stair_base S) k)
  sum_member k q = (
    record {
      k = k.x;
      l = k.y;
      n = k.z;
      x = sym (sum_x k.x k.y k.z S.first_x);
      y = sym (sum_y k.x k.y k.z S.first_y S.second_y);
      z = sym (sum_z k.x k.y k.z S.first_z S.second_z S.third_z);
    },
    λ e. let u = h.flat e in flat_sum k.x k.y k.z S.first_z S.second_z S.third_z u.first_z u.second_z (q e),
  )

  flat_last : (k l n c f i z : ℤ) → c ≡ pos 0 → f ≡ pos 0 → i ≡ pos 1 → z ≡ pos 0 → z ≡ k *ℤ c +ℤ l *ℤ f +ℤ n *ℤ i → n ≡ pos 0
  flat_last k l n c f i z p q r s e = let p' = ap (λ t. k *ℤ t) p in let q' = ap (λ t. l *ℤ t) q in let r' = ap (λ t. n *ℤ t) r in
      omega (arith, linear, s, e, simp ring at p', simp ring at q', simp ring at r')

  -- a member is a sum of rows
  pub member_sum : (v : Vector) → Members d S v → (k : Vector) × HasDimension d k × (base_sum (stair_base S) k ≡ v)
  member_sum v m =
      let s = m.0 in (
        vector s.k s.l s.n,
        (λ e. let u = h.flat e in flat_last s.k s.l s.n S.first_z S.second_z S.third_z v.z u.first_z u.second_z u.third_z (m.1 e) s.z),
        vector_equal (sym (s.x ∙ sum_x s.k s.l s.n S.first_x)) (sym (s.y ∙ sum_y s.k s.l s.n S.first_y S.second_y))
            (sym (s.z ∙ sum_z s.k s.l s.n S.first_z S.second_z S.third_z)),
      )

  cancel : (k l a : ℤ) → pos 0 <ℤ a → k *ℤ a ≡ l *ℤ a → k ≡ l
  cancel k l a h e = cancel_factor a k l (positive_is_some a h) (*ℤ_comm a k ∙ e ∙ *ℤ_comm l a)

  drop_first : (p q x y : ℤ) → p ≡ q → p +ℤ x ≡ q +ℤ y → x ≡ y
  drop_first p q x y e f = omega (arith, linear, e, f)

  drop_two : (p q r s x y : ℤ) → p ≡ q → r ≡ s → (p +ℤ r) +ℤ x ≡ (q +ℤ s) +ℤ y → x ≡ y
  drop_two p q r s x y e f g = omega (arith, linear, e, f, g)

  -- and of one vector alone
  pub sum_once : (k l : Vector) → base_sum (stair_base S) k ≡ base_sum (stair_base S) l → k ≡ l
  sum_once k l e =
      let r = h.reduced in
      let x : k.x ≡ l.x = cancel k.x l.x S.first_x r.first_x (sum_x k.x k.y k.z S.first_x ∙ ap (λ (v : Vector). v.x) e ∙ sym (sum_x l.x l.y l.z S.first_x)) in
      let y : k.y ≡ l.y = cancel k.y l.y S.second_y r.second_y
      (drop_first (k.x *ℤ S.first_y) (l.x *ℤ S.first_y) (k.y *ℤ S.second_y) (l.y *ℤ S.second_y) (ap (λ t. t *ℤ S.first_y) x)
      (sum_y k.x k.y k.z S.first_y S.second_y ∙ ap (λ (v : Vector). v.y) e ∙ sym (sum_y l.x l.y l.z S.first_y S.second_y))) in
      let z : k.z ≡ l.z = cancel k.z l.z S.third_z r.third_z
      (drop_two (k.x *ℤ S.first_z) (l.x *ℤ S.first_z) (k.y *ℤ S.second_z) (l.y *ℤ S.second_z) (k.z *ℤ S.third_z) (l.z *ℤ S.third_z)
      (ap (λ t. t *ℤ S.first_z) x) (ap (λ t. t *ℤ S.second_z) y)
      (sum_z k.x k.y k.z S.first_z S.second_z S.third_z ∙ ap (λ (v : Vector). v.z) e ∙ sym (sum_z l.x l.y l.z S.first_z S.second_z S.third_z))) in
      vector_equal x y z

-- a row of equal lists
row : (k : ℕ) (vs ws : List Vector) → vs ≡ ws → slice_index_or vs k zero_vector ≡ slice_index_or ws k zero_vector
row k vs ws e = ap (λ us. slice_index_or us k zero_vector) e

-- in dimension 2 the last row is (0, 0, 1), and else it is among the rows
last_same : (d : ℕ) (S S' : Stairs) → HasStairShape d S → HasStairShape d S' → (d ≡ 2) ⊎ (d ≡ 3) → rows_of d S ≡ rows_of d S' → S.third_z ≡ S'.third_z
last_same d S S' k l p q = search arith

-- stairs with the same rows are the same
rows_tell : (d : ℕ) (S S' : Stairs) → HasStairShape d S → HasStairShape d S' → (d ≡ 2) ⊎ (d ≡ 3) → rows_of d S ≡ rows_of d S' → S ≡ S'
rows_tell d S S' h h' w e = search (arith, last_same)

pub at_least_two : (d : ℕ) → (d ≡ 2) ⊎ (d ≡ 3) → 2 ≤ d
at_least_two d h = omega arith

pub at_most_three : (d : ℕ) → (d ≡ 2) ⊎ (d ≡ 3) → d ≤ 3
at_most_three d h = omega arith

pub one_stair : (G : Graph) → IsGraph G → (a : ℕ) (S S' : Stairs) → IsFullAt G a S → IsFullAt G a S' → S ≡ S'
one_stair G g a S S' f f' =
    let d = G.dimension in let low = at_least_two d g.dimension in let high = at_most_three d g.dimension in
    rows_tell d S S' f.shape f'.shape g.dimension
    (one_staircase (Members d S) (Members d S') d (rows_of d S) (rows_of d S') (rows_are_basis d S low high f.shape) (rows_are_basis d S' low high f'.shape)
    (λ w. ((λ m. f'.inside w (f.all w m)), λ m. f.inside w (f'.all w m))))

-- Lists of edges, and the lists that are written for them.

module _ (K : ℕ → Type 0) (W : Arc → Arc → Type 0) where
  -- what holds of the edges that are written holds, by what each is written for
  pub written_all : (P Q : Arc → Type 0) → ((e f : Arc) → P e → W e f → Q f) → (es fs : List Arc) → AreWritten K W es fs → AllByRecursion P es
      → AllByRecursion Q fs
  written_all P Q one [] [] w h = tt
  written_all P Q one [] (f ∷ fs) w h = elim w [ ]
  written_all P Q one (e ∷ es) [] w h = written_all P Q one es [] w.1 h.1
  written_all P Q one (e ∷ es) (f ∷ fs) (inl w) h = written_all P Q one es (f ∷ fs) w.1 h.1
  written_all P Q one (e ∷ es) (f ∷ fs) (inr w) h = (one e f h.0 w.1, written_all P Q one es fs w.2 h.1)

  -- no more are written
  pub written_few : (es fs : List Arc) → AreWritten K W es fs → length fs ≤ length es
  written_few [] (f ∷ fs) h = absurd h
  written_few es [] h = omega arith
  written_few (e ∷ es) (f ∷ fs) (inl h) = let l = written_few es (f ∷ fs) h.1 in omega arith
  written_few (e ∷ es) (f ∷ fs) (inr h) = let l = written_few es fs h.2 in omega arith

  -- each is written for an edge
  pub written_for : (es fs : List Arc) → AreWritten K W es fs → (f : Arc) → IsIn fs f → (e : Arc) × IsIn es e × W e f
  written_for [] (g ∷ fs) h f i = absurd h
  written_for es [] h f i = elim i [ ]
  written_for (e ∷ es) (g ∷ fs) (inl h) f i = let k = written_for es (g ∷ fs) h.1 f i in (k.0, inr k.1, k.2)
  written_for (e ∷ es) (g ∷ fs) (inr h) f (inl d) = (e, inl refl, subst (W e) d h.1)
  written_for (e ∷ es) (g ∷ fs) (inr h) f (inr i) = let k = written_for es fs h.2 f i in (k.0, inr k.1, k.2)

  -- and each edge that starts in K is written
  pub edge_written : (es fs : List Arc) → AreWritten K W es fs → (e : Arc) → IsIn es e → K e.from → (f : Arc) × IsIn fs f × W e f
  edge_written [] fs h e i k = elim i [ ]
  edge_written (d ∷ es) [] h e (inl s) k = absurd (h.0 (subst (λ (x : Arc). K x.from) (sym s) k))
  edge_written (d ∷ es) [] h e (inr i) k = edge_written es [] h.1 e i k
  edge_written (d ∷ es) (f ∷ fs) (inl h) e (inl s) k = absurd (h.0 (subst (λ (x : Arc). K x.from) (sym s) k))
  edge_written (d ∷ es) (f ∷ fs) (inl h) e (inr i) k = edge_written es (f ∷ fs) h.1 e i k
  edge_written (d ∷ es) (f ∷ fs) (inr h) e (inl s) k = (f, inl refl, subst (λ x. W x f) s h.1)
  edge_written (d ∷ es) (f ∷ fs) (inr h) e (inr i) k = let w = edge_written es fs h.2 e i k in (w.0, inr w.1, w.2)

  -- if what is written determines the edge, different edges are written differently
  pub written_apart : ((d e f : Arc) → W d f → W e f → d ≡ e) → (es fs : List Arc) → AreWritten K W es fs → AreApart es → AreApart fs
  written_apart once es [] w h = tt
  written_apart once [] (g ∷ fs) w h = elim w [ ]
  written_apart once (e ∷ es) (g ∷ fs) (inl w) h = written_apart once es (g ∷ fs) w.1 h.1
  written_apart once (e ∷ es) (g ∷ fs) (inr w) h = (
    (λ i. let k = written_for es fs w.2 g i in h.0 (subst (IsIn es) (once k.0 e g k.2 w.1) k.1)),
    written_apart once es fs w.2 h.1,
  )

  -- an edge that starts elsewhere is passed over
  pub passed_over : (es fs : List Arc) (e : Arc) → AreWritten K W es fs → ¬ K e.from → AreWritten K W (es ++ e ∷ []) fs
  passed_over [] [] e h n = (n, tt)
  passed_over [] (f ∷ fs) e h n = absurd h
  passed_over (d ∷ es) [] e h n = (h.0, passed_over es [] e h.1 n)
  passed_over (d ∷ es) (f ∷ fs) e (inl h) n = inl (h.0, passed_over es (f ∷ fs) e h.1 n)
  passed_over (d ∷ es) (f ∷ fs) e (inr h) n = inr (h.0, h.1, passed_over es fs e h.2 n)

  -- and one that starts in K is written last
  pub put_last : (es fs : List Arc) (e f : Arc) → AreWritten K W es fs → K e.from → W e f → AreWritten K W (es ++ e ∷ []) (fs ++ f ∷ [])
  put_last [] [] e f h k w = inr (k, w, tt)
  put_last [] (g ∷ fs) e f h k w = absurd h
  put_last (d ∷ es) [] e f h k w = inl (h.0, put_last es [] e f h.1 k w)
  put_last (d ∷ es) (g ∷ fs) e f (inl h) k w = inl (h.0, put_last es (g ∷ fs) e f h.1 k w)
  put_last (d ∷ es) (g ∷ fs) e f (inr h) k w = inr (h.0, h.1, put_last es fs e f h.2 k w)

-- by another way of writing that follows
pub written_as : (K : ℕ → Type 0) (V W : Arc → Arc → Type 0) → ((e f : Arc) → K e.from → V e f → W e f) → (es fs : List Arc) → AreWritten K V es fs
    → AreWritten K W es fs
written_as K V W g [] [] h = tt
written_as K V W g [] (f ∷ fs) h = absurd h
written_as K V W g (e ∷ es) [] h = (h.0, written_as K V W g es [] h.1)
written_as K V W g (e ∷ es) (f ∷ fs) (inl h) = inl (h.0, written_as K V W g es (f ∷ fs) h.1)
written_as K V W g (e ∷ es) (f ∷ fs) (inr h) = inr (h.0, g e f h.0 h.1, written_as K V W g es fs h.2)

-- if an edge is written in one way, one list is written
pub written_once : (K : ℕ → Type 0) (V W : Arc → Arc → Type 0) → ((e f g : Arc) → K e.from → V e f → W e g → f ≡ g) → (es fs gs : List Arc)
    → AreWritten K V es fs → AreWritten K W es gs → fs ≡ gs
written_once K V W once [] (f ∷ fs) gs h k = absurd h
written_once K V W once [] [] (g ∷ gs) h k = absurd k
written_once K V W once es [] [] h k = refl
written_once K V W once (e ∷ es) [] (g ∷ gs) h (inl k) = written_once K V W once es [] (g ∷ gs) h.1 k.1
written_once K V W once (e ∷ es) [] (g ∷ gs) h (inr k) = absurd (h.0 k.0)
written_once K V W once (e ∷ es) (f ∷ fs) [] (inl h) k = written_once K V W once es (f ∷ fs) [] h.1 k.1
written_once K V W once (e ∷ es) (f ∷ fs) [] (inr h) k = absurd (k.0 h.0)
written_once K V W once (e ∷ es) (f ∷ fs) (g ∷ gs) (inl h) (inl k) = written_once K V W once es (f ∷ fs) (g ∷ gs) h.1 k.1
written_once K V W once (e ∷ es) (f ∷ fs) (g ∷ gs) (inl h) (inr k) = absurd (h.0 k.0)
written_once K V W once (e ∷ es) (f ∷ fs) (g ∷ gs) (inr h) (inl k) = absurd (k.0 h.0)
written_once K V W once (e ∷ es) (f ∷ fs) (g ∷ gs) (inr h) (inr k) = λ i. once e f g h.0 h.1 k.1 i ∷ written_once K V W once es fs gs h.2 k.2 i

-- The arcs of a part are the arcs of its component, written in the basis.

module _ (d n : ℕ) (K : ℕ → Type 0) (T : ℕ → Vector) (b : Base) (at : ℕ → ℕ) where
  -- the arc of the net's quotient graph that an arc of the part is written for
  abbrev pub lifted : Arc → Arc
  lifted f = arc (at f.from) (at f.to) (minus (plus (base_sum b f.shift) (T (at f.to))) (T (at f.from)))

  back : (t s u : ℤ) → ((t +ℤ s) -ℤ u +ℤ u) -ℤ t ≡ s
  back t s u = omega (arith, linear)

  -- it is the edge
  pub lifted_is : (e f : Arc) → IsWritten d n T b at e f → lifted f ≡ e
  lifted_is e f w =
      (λ i. arc (w.from i) (w.to i) (minus (plus (w.shift i) (T (w.to i))) (T (w.from i))))
      ∙ ap (arc e.from e.to) (vector_equal (back (T e.from).x e.shift.x (T e.to).x) (back (T e.from).y e.shift.y (T e.to).y)
      (back (T e.from).z e.shift.z (T e.to).z))

  turned : (x y z p q : ℤ) → x ≡ neg_ℤ y → (x +ℤ p) -ℤ q ≡ neg_ℤ ((y +ℤ q) -ℤ p)
  turned x y z p q e = omega (arith, linear, e)

  sum_turned : (b1 b2 b3 x y z : ℤ) → neg_ℤ x *ℤ b1 +ℤ (neg_ℤ y *ℤ b2 +ℤ neg_ℤ z *ℤ b3) ≡ neg_ℤ (x *ℤ b1 +ℤ (y *ℤ b2 +ℤ z *ℤ b3))
  sum_turned b1 b2 b3 x y z = simp ring (omega (arith, ints))

  -- turned with the arc
  pub lifted_turned : (f : Arc) → lifted (reverse_of f) ≡ reverse_of (lifted f)
  lifted_turned f =
      let k = f.shift in let p = T (at f.from) in let q = T (at f.to) in let s = base_sum b k in
      let o = base_sum b (opposite k) in
      ap (arc (at f.to) (at f.from)) (vector_equal
      (turned o.x s.x s.x p.x q.x (sum_turned b.first.x b.second.x b.third.x k.x k.y k.z))
      (turned o.y s.y s.y p.y q.y (sum_turned b.first.y b.second.y b.third.y k.x k.y k.z))
      (turned o.z s.z s.z p.z q.z (sum_turned b.first.z b.second.z b.third.z k.x k.y k.z)))

  -- each arc of the part is written for an arc of the net's quotient graph
  pub arcs_lifted : (es fs : List Arc) → AreWritten K (IsWritten d n T b at) es fs → (f : Arc) → IsIn (both_ways fs) f → IsIn (both_ways es) (lifted f)
  arcs_lifted es [] w f h = elim h [ ]
  arcs_lifted [] (g ∷ fs) w f h = elim w [ ]
  arcs_lifted (e ∷ es) (g ∷ fs) (inl w) f h = inr (inr (arcs_lifted es (g ∷ fs) w.1 f h))
  arcs_lifted (e ∷ es) (g ∷ fs) (inr w) f (inl h) = inl (sym (lifted_is e g w.1) ∙ ap lifted h)
  arcs_lifted (e ∷ es) (g ∷ fs) (inr w) f (inr (inl h)) = inr (inl (ap reverse_of (sym (lifted_is e g w.1)) ∙ sym (lifted_turned g) ∙ ap lifted h))
  arcs_lifted (e ∷ es) (g ∷ fs) (inr w) f (inr (inr h)) = inr (inr (arcs_lifted es fs w.2 f h))

  -- an arc of numbers from 1 to n
  pub record IsOfNumbers (f : Arc) : Type 0 where
    pub from : IsNumber n f.from
    pub to : IsNumber n f.to

  -- of what is written for an arc of the component, the part has the arc
  pub arcs_written : ((f g : Arc) → IsOfNumbers f → IsOfNumbers g → lifted f ≡ lifted g → f ≡ g) → ((i : ℕ) → IsNumber n i → K (at i))
      → (es fs : List Arc) → AreWritten K (IsWritten d n T b at) es fs → (f : Arc) → IsOfNumbers f → IsIn (both_ways es) (lifted f) → IsIn (both_ways fs) f
  arcs_written once inside [] [] w f i h = elim h [ ]
  arcs_written once inside [] (g ∷ fs) w f i h = elim w [ ]
  arcs_written once inside (e ∷ es) [] w f i (inl h) = absurd (w.0 (subst K (sym (ap (λ (a : Arc). a.from) h)) (inside f.from i.from)))
  arcs_written once inside (e ∷ es) [] w f i (inr (inl h)) = absurd (w.0 (subst K (sym (ap (λ (a : Arc). a.to) h)) (inside f.to i.to)))
  arcs_written once inside (e ∷ es) [] w f i (inr (inr h)) = arcs_written once inside es [] w.1 f i h
  arcs_written once inside (e ∷ es) (g ∷ fs) (inl w) f i (inl h) = absurd (w.0 (subst K (sym (ap (λ (a : Arc). a.from) h)) (inside f.from i.from)))
  arcs_written once inside (e ∷ es) (g ∷ fs) (inl w) f i (inr (inl h)) = absurd (w.0 (subst K (sym (ap (λ (a : Arc). a.to) h)) (inside f.to i.to)))
  arcs_written once inside (e ∷ es) (g ∷ fs) (inl w) f i (inr (inr h)) = arcs_written once inside es (g ∷ fs) w.1 f i h
  arcs_written once inside (e ∷ es) (g ∷ fs) (inr w) f i (inl h) =
      inl (once g f (record { from = w.1.from_number; to = w.1.to_number }) i (lifted_is e g w.1 ∙ h))
  arcs_written once inside (e ∷ es) (g ∷ fs) (inr w) f i (inr (inl h)) =
      inr (inl (once (reverse_of g) f (record { from = w.1.to_number; to = w.1.from_number }) i (lifted_turned g ∙ ap reverse_of (lifted_is e g w.1) ∙ h)))
  arcs_written once inside (e ∷ es) (g ∷ fs) (inr w) f i (inr (inr h)) = inr (inr (arcs_written once inside es fs w.2 f i h))

-- Vertices and arcs of a part go to different ones.

module _ (G : Graph) (g : IsGraph G) (a : ℕ) (T : ℕ → Vector) (S : Stairs) (at : ℕ → ℕ) (H : Graph) (p : IsPart G a T S at H) where
  abbrev d : ℕ
  d = G.dimension

  abbrev b : Base
  b = stair_base S

  -- different numbers are of different vertices
  pub at_once : (i j : ℕ) → IsQuotientVertex H i → IsQuotientVertex H j → at i ≡ at j → i ≡ j
  at_once i j h k e = elim (three_ways i j) [
    | inl l ↦ absurd (let r = p.rising i j h k l in omega arith)
    | inr (inl l) ↦ absurd (let r = p.rising j i k h l in omega arith)
    | inr (inr f) ↦ f
  ]

  apart : (x y t : ℤ) → (x +ℤ t) -ℤ t ≡ x
  apart x y t = omega (arith, linear)

  lifted_parts : (k l s t : Vector) → minus (plus (base_sum b k) s) t ≡ minus (plus (base_sum b l) s) t → base_sum b k ≡ base_sum b l
  lifted_parts k l s t e =
      vector_equal
      (same (base_sum b k).x (base_sum b l).x s.x t.x (ap (λ (v : Vector). v.x) e))
      (same (base_sum b k).y (base_sum b l).y s.y t.y (ap (λ (v : Vector). v.y) e))
      (same (base_sum b k).z (base_sum b l).z s.z t.z (ap (λ (v : Vector). v.z) e))
    where
      same : (x y s t : ℤ) → (x +ℤ s) -ℤ t ≡ (y +ℤ s) -ℤ t → x ≡ y
      same x y s t e = omega (arith, linear, e)

  -- different arcs are written for different arcs
  pub lifted_once : (e f : Arc) → IsOfNumbers d H.vertices (InComponent G a) T b at e → IsOfNumbers d H.vertices (InComponent G a) T b at f
      → lifted d H.vertices (InComponent G a) T b at e ≡ lifted d H.vertices (InComponent G a) T b at f → e ≡ f
  lifted_once e f i j h =
      let u = at_once e.from f.from i.from j.from (ap (λ (x : Arc). x.from) h) in
      let v = at_once e.to f.to i.to j.to (ap (λ (x : Arc). x.to) h) in
      let s : minus (plus (base_sum b e.shift) (T (at e.to))) (T (at e.from)) ≡ minus (plus (base_sum b f.shift) (T (at e.to))) (T (at e.from)) =
      ap (λ (x : Arc). x.shift) h ∙ (λ k. minus (plus (base_sum b f.shift) (T (at (sym v k)))) (T (at (sym u k)))) in
      let t = sum_once d S p.full.shape e.shift f.shift (lifted_parts e.shift f.shift (T (at e.to)) (T (at e.from)) s) in
      λ k. arc (u k) (v k) (t k)
