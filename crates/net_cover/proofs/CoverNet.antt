-- The arcs of a cover are the lifts of the arcs of the graph, and its net is the net of the graph.
use Rattle.std.proofs.Common.{◌≡◌, ℕ, ◌+◌, ◌-◌, ◌*◌, ◌/◌, ◌%◌, ◌<◌, ◌≤◌, ◌∙◌, arith, inl, inr, ℤ, ◌+ℤ◌, ◌*ℤ◌, neg_ℤ, refl, sym, ap, subst, ◌⊎◌, ◌-ℤ◌, pos}
use Rattle.std.{proofs.lemmas.Nat.mul-add-lt, proofs.lemmas.Nat.div_below, specs.List.Contains}
use Rattle.integers.proofs.vectors.Laws.{vector_equal, opposite_dimension, plus_cancel, minus_dimension, minus_itself, plus_minus, plus_dimension}
use Rattle.integers.proofs.vectors.Laws.{plus_associative, one_times, base_sum_zero, base_sum_minus, base_sum_plus}
use Rattle.integers.specs.Vectors.{Vector, zero_vector, plus, minus, HasDimension, times}
use Rattle.integers.{proofs.counting.Numbering.parts_same, proofs.numbers.Ring.ring, proofs.numbers.Ring.linear, specs.Bases.Base, specs.Bases.base_sum}
use Rattle.net_cover.specs.Covers.{number_in_cover, IsLiftTo, IsLift, IsGiven, IsCover, IsNewShift, HasCoverSize, LiesOver, Spells, IsGivenAt}
use Rattle.net_cover.proofs.CellRows.{coefficients_once, index_positive, sum_flat}
use Rattle.net_cover.specs.{UnitCells.IsCell, CoverLaws.CoversAreIsomorphic}
use Rattle.periodic_net.specs.Graph.{Graph, IsGraph, Arc, reverse_of, IsArc, Vertex, vertex, IsVertex, AreJoined, moved, arc, IsNormalSpelling}
use Rattle.periodic_net.proofs.CallerLemmas.{arc_inside, arc_turned, reverse_twice, arc_between, one_spelling}
use Rattle.key_theory.proofs.CallerLemmas.{arc_no_point, arc_by_edge, edge_is_arc, reverse_is_arc, spelled, PairedIso, paired_iso}
use Rattle.sublattice.specs.Remainders.{remainder_with, IsRemainderOf, number_of}
use Rattle.sublattice.specs.Sublattices.{IsCombination, IsSublattice, index_of}
use Rattle.sublattice.proofs.CallerLemmas.{remainders_numbered, tell_classes, Undoing, undoing}
use Rattle.sublattice.specs.Laws.{AreNumbered}
use Rattle.vecdim.{specs.Stairs.Stairs, specs.Stairs.size_of, specs.Lattices.Members, proofs.CallerLemmas.members_group}

-- The numbers of the vertices of a cover.

-- a number determines the vertex and the place
pub number_once : (n u v i j : ℕ) → 1 ≤ u → 1 ≤ v → i < n → j < n → number_in_cover n u i ≡ number_in_cover n v j → (u ≡ v) × (i ≡ j)
number_once n u v i j a b k l e =
    let s = parts_same n (u - 1) i (v - 1) j k l (omega (arith, e)) in let f = s.0 in
    (omega (arith, f, a, b), s.1)

-- numbers go from 1 to the number of pairs
pub number_inside : (n m u i : ℕ) → 1 ≤ u → u ≤ m → i < n → (1 ≤ number_in_cover n u i) × (number_in_cover n u i ≤ m * n)
number_inside n m u i a b l = grind (arith, mul-add-lt)

-- what is below a product shows that its second factor is not 0
factor : (m n x : ℕ) → 1 ≤ x → x ≤ m * n → 1 ≤ n
factor m n x h k = search arith

-- each of them is the number of a pair
pub number_found : (n m x : ℕ) → 1 ≤ x → x ≤ m * n → (u : ℕ) × (i : ℕ) × (1 ≤ u) × (u ≤ m) × (i < n) × (number_in_cover n u i ≡ x)
number_found n m x a b =
    let h = factor m n x a b in let q = div_below (x - 1) n m (omega (arith, h)) (omega (arith, a, b)) in
    let r : (x - 1) % n < n = omega (arith, h) in
    let s : (x - 1) / n * n + (x - 1) % n ≡ x - 1 = omega (arith, h) in
    let p : (x - 1) / n + 1 - 1 ≡ (x - 1) / n = omega arith in (
      (x - 1) / n + 1,
      (x - 1) % n,
      omega arith,
      omega (arith, q),
      r,
      (λ t. p t * n + (x - 1) % n + 1)
          ∙ (let z : (x - 1) / n * n + (x - 1) % n + 1 ≡ x = omega (arith, s, a) in z),
    )

-- what lies between, the other way
turned_back : (x s y p q r k l n : ℤ) → x +ℤ s ≡ y +ℤ (k *ℤ p +ℤ (l *ℤ q +ℤ n *ℤ r)) → y +ℤ neg_ℤ s ≡ x +ℤ (neg_ℤ k *ℤ p +ℤ (neg_ℤ l *ℤ q +ℤ neg_ℤ n *ℤ r))
turned_back x s y p q r k l n e = simp ring (omega (arith, linear, simp ring at e))

-- the reverse of a lift lifts the reverse
pub lift_turned : (d : ℕ) (b : Base) (S : Stairs) (a : Arc) (i j : ℕ) (e : Arc) → IsLiftTo d b S a i j e → IsLiftTo d b S (reverse_of a) j i (reverse_of e)
lift_turned d b S a i j e h = record {
  from = h.to;
  to = h.from;
  leads = record {
    start = h.leads.end;
    end = h.leads.start;
    dimension = opposite_dimension d e.shift h.leads.dimension;
    shift = vector_equal
        (turned_back (remainder_with S i).x a.shift.x (remainder_with S j).x b.first.x b.second.x b.third.x e.shift.x e.shift.y e.shift.z
        (ap (λ (v : Vector). v.x) h.leads.shift))
        (turned_back (remainder_with S i).y a.shift.y (remainder_with S j).y b.first.y b.second.y b.third.y e.shift.x e.shift.y e.shift.z
        (ap (λ (v : Vector). v.y) h.leads.shift))
        (turned_back (remainder_with S i).z a.shift.z (remainder_with S j).z b.first.z b.second.z b.third.z e.shift.x e.shift.y e.shift.z
        (ap (λ (v : Vector). v.z) h.leads.shift));
  };
}

-- if a lift is a loop with shift 0, so is what it lifts
pub lift_point : (d : ℕ) (b : Base) (S : Stairs) (a : Arc) (i : ℕ) (e : Arc) → 1 ≤ a.from → 1 ≤ a.to → IsLift d b S a i e → e.from ≡ e.to
    → e.shift ≡ zero_vector
    → (a.from ≡ a.to) × (a.shift ≡ zero_vector)
lift_point d b S a i e u v l same none =
    let t = l.1 in
    let s = number_once (size_of S) a.from a.to i l.0 u v t.leads.start t.leads.end (sym t.from ∙ same ∙ t.to) in (
      s.0,
      plus_cancel (remainder_with S i) a.shift zero_vector
          (t.leads.shift ∙ ap (λ (v : Vector). plus (remainder_with S l.0) (base_sum b v)) none ∙ ap (plus (remainder_with S l.0)) (base_sum_zero b)
          ∙ ap (λ (n : ℕ). plus (remainder_with S n) zero_vector) (sym s.1)),
    )

-- e lifts an arc of G
pub record IsLifted (G : Graph) (b : Base) (S : Stairs) (e : Arc) : Type 0 where
  pub below : Arc
  pub is_arc : IsArc G below
  pub i : ℕ
  pub j : ℕ
  pub lift : IsLiftTo G.dimension b S below i j e

-- so does its reverse
lifted_turned : (G : Graph) (b : Base) (S : Stairs) (e : Arc) → IsLifted G b S e → IsLifted G b S (reverse_of e)
lifted_turned G b S e h = record {
  below = reverse_of h.below;
  is_arc = arc_turned G h.below h.is_arc;
  i = h.j;
  j = h.i;
  lift = lift_turned G.dimension b S h.below h.i h.j e h.lift;
}

-- what is given lifts an arc
given_lifts : (G : Graph) (b : Base) (S : Stairs) (e : Arc) → IsGiven G b S e → IsLifted G b S e
given_lifts G b S e q =
    let l : IsLifted G b S q.3.0 = record { below = q.0; is_arc = edge_is_arc G q.0 q.2; i = q.1; j = q.3.1.0; lift = q.3.1.1 } in
    elim q.3.2.1 [ inl s ↦ subst (IsLifted G b S) (sym s) l | inr s ↦ subst (IsLifted G b S) (sym s) (lifted_turned G b S q.3.0 l) ]

module _ (G : Graph) (b : Base) (C : Graph) (g : IsGraph G) (h : IsCover G b C) where
  -- an arc of the cover lifts an arc of the graph
  pub arc_lifts : (e : Arc) → IsArc C e → IsLifted G b h.lattice e
  arc_lifts e m = elim (arc_by_edge C e m) [
    | inl k ↦ given_lifts G b h.lattice e ((h.edges e).0 k)
    | inr k ↦
        rw (reverse_twice e) at (lifted_turned G b h.lattice (reverse_of e) (given_lifts G b h.lattice (reverse_of e) ((h.edges (reverse_of e)).0 k)))
  ]

  -- the lift of an edge is an arc of the cover
  edge_lifted : (a : Arc) (i j : ℕ) (e : Arc) → Contains G.edges a → IsLiftTo G.dimension b h.lattice a i j e → IsArc C e
  edge_lifted a i j e k l = elim (spelled e) [
    | inl n ↦ edge_is_arc C e ((h.edges e).1 (a, i, k, (e, (j, l), (n, inl refl))))
    | inr r ↦ elim r [
      | inl n ↦ reverse_is_arc C e ((h.edges (reverse_of e)).1 (a, i, k, (e, (j, l), (n, inr refl))))
      | inr z ↦
          let inside = arc_inside G g a (edge_is_arc G a k) in
          let p = lift_point G.dimension b h.lattice a i e inside.from.0 inside.to.0 (j, l) z.0 z.1 in
          absurd (arc_no_point G g a (edge_is_arc G a k) p.0 p.1)
    ]
  ]

  -- the lift of an arc is an arc of the cover
  pub lifted_arc : (e : Arc) → IsLifted G b h.lattice e → IsArc C e
  lifted_arc e q = elim (arc_by_edge G q.below q.is_arc) [
    | inl k ↦ edge_lifted q.below q.i q.j e k q.lift
    | inr k ↦
        subst (IsArc C) (reverse_twice e)
        (arc_turned C (reverse_of e) (edge_lifted (reverse_of q.below) q.j q.i (reverse_of e) k (lift_turned G.dimension b h.lattice q.below q.i q.j e q.lift)))
  ]

-- The net of a cover is the net: a vertex over number (u, i) in cell k is the vertex over u at the remainder at i, moved by the
-- sum of the rows with the coefficients k.

-- Each vector differs from one remainder by a combination of the rows.

module _ (d : ℕ) (b : Base) (S : Stairs) (h : IsSublattice d b S) where
  numbered : AreNumbered d S
  numbered = remainders_numbered d S h.stair

  -- a remainder has the dimension
  pub remainder_flat : (i : ℕ) → i < size_of S → HasDimension d (remainder_with S i)
  remainder_flat i l = (numbered.remainder i l).dimension

  -- it is its own remainder
  own : (i : ℕ) → i < size_of S → IsRemainderOf d S (remainder_with S i) (remainder_with S i)
  own i l = record { remainder = numbered.remainder i l; difference = subst (Members d S) (sym (minus_itself (remainder_with S i))) (members_group d S).zero }

  -- remainders that differ by a combination have one number
  pub one_place : (i j : ℕ) → i < size_of S → j < size_of S → IsCombination d b (minus (remainder_with S i) (remainder_with S j)) → i ≡ j
  one_place i j k l p =
      let r = remainder_with S i in let q = remainder_with S j in
      let flat = minus_dimension d r q (remainder_flat i k) (remainder_flat j l) in
      let e : r ≡ q = (tell_classes.same d S r q r q (own i k) (own j l)).1 ((h.members (minus r q) flat).1 p, flat) in
      sym (numbered.back i k) ∙ ap (number_of S) e ∙ numbered.back j l

  -- each vector differs from one by a combination
  pub some_place : (v : Vector) → HasDimension d v → (i : ℕ) × (i < size_of S) × IsCombination d b (minus v (remainder_with S i))
  some_place v f =
      let r = tell_classes.some d S v h.stair f in let m = r.1.difference in
      let e = numbered.there r.0 r.1.remainder in
      (number_of S r.0, numbered.below r.0 r.1.remainder, subst (λ (x : Vector). IsCombination d b (minus v x)) (sym e) ((h.members (minus v r.0) m.1).0 m.0))

-- The new shift of an arc at a remainder is one.

-- a part of what lies between two remainders of one vector
apart_part : (r q k l v : ℤ) → v ≡ r +ℤ k → v ≡ q +ℤ l → r -ℤ q ≡ l -ℤ k
apart_part r q k l v e f = omega (arith, linear, e, f)

-- two remainders of one vector differ by a sum of the rows
pub apart : (b : Base) (r q v k l : Vector) → v ≡ plus r (base_sum b k) → v ≡ plus q (base_sum b l) → minus r q ≡ base_sum b (minus l k)
apart b r q v k l e f =
    let x = base_sum b k in let y = base_sum b l in
    vector_equal (apart_part r.x q.x x.x y.x v.x (ap (λ (u : Vector). u.x) e) (ap (λ (u : Vector). u.x) f))
    (apart_part r.y q.y x.y y.y v.y (ap (λ (u : Vector). u.y) e) (ap (λ (u : Vector). u.y) f))
    (apart_part r.z q.z x.z y.z v.z (ap (λ (u : Vector). u.z) e) (ap (λ (u : Vector). u.z) f))
    ∙ sym (base_sum_minus b l k)

module _ (d : ℕ) (b : Base) (S : Stairs) (dim : (d ≡ 2) ⊎ (d ≡ 3)) (c : IsCell d b) (h : IsSublattice d b S) where
  -- there is one remainder to which an arc leads, and one shift
  pub lift_once : (a : Arc) (i : ℕ) (k l : Vector) (s : IsNewShift d b S a i k) (t : IsNewShift d b S a i l) → (s.0 ≡ t.0) × (k ≡ l)
  lift_once a i k l s t =
      let x = s.1 in let y = t.1 in let r = remainder_with S s.0 in let q = remainder_with S t.0 in
      let v = plus (remainder_with S i) a.shift in let flat = minus_dimension d l k y.dimension x.dimension in
      let j : s.0 ≡ t.0 = one_place d b S h s.0 t.0 x.end y.end (record { k = minus l k; dimension = flat; sum = apart b r q v k l x.shift y.shift }) in
      let sums : base_sum b k ≡ base_sum b l =
      plus_cancel q (base_sum b k) (base_sum b l) (ap (λ (n : ℕ). plus (remainder_with S n) (base_sum b k)) (sym j) ∙ sym x.shift ∙ y.shift) in
      (j, coefficients_once d b dim c k l x.dimension y.dimension sums)

  -- so the shift is one
  pub shift_once : (a : Arc) (i : ℕ) (k l : Vector) → IsNewShift d b S a i k → IsNewShift d b S a i l → k ≡ l
  shift_once a i k l s t = (lift_once a i k l s t).1

-- if the remainder is one, so is the sum
same_sum : (r v k l : Vector) → v ≡ plus r k → v ≡ plus r l → k ≡ l
same_sum r v k l e f = plus_cancel r k l (sym e ∙ f)

-- what leads from the remainder of one cell to that of another
between : (r q k l v w : ℤ) → v ≡ r +ℤ k → w ≡ q +ℤ l → r +ℤ (w -ℤ v) ≡ q +ℤ (l -ℤ k)
between r q k l v w e f = omega (arith, linear, e, f)

-- and back
across : (r q k l v w s : ℤ) → v ≡ r +ℤ k → w ≡ q +ℤ l → r +ℤ s ≡ q +ℤ (l -ℤ k) → s ≡ w -ℤ v
across r q k l v w s e f g = omega (arith, linear, e, f, g)

-- v is r and what v is less r
taken_back : (v r k : Vector) → k ≡ minus v r → v ≡ plus r k
taken_back v r k e = sym (plus_minus r v) ∙ ap (plus r) (sym e)

module _ (G : Graph) (b : Base) (C : Graph) (g : IsGraph G) (c : IsCell G.dimension b) (h : IsCover G b C) where
  abbrev S : Stairs
  S = h.lattice

  abbrev n : ℕ
  n = size_of S

  -- to lie over, in this cover
  abbrev pub Over : Vertex → Vertex → Type 0
  Over w x = LiesOver b h.lattice w x

  flat_there : (k : Vector) → HasDimension G.dimension k → HasDimension C.dimension k
  flat_there k = subst (λ (d : ℕ). HasDimension d k) (sym h.dimension)

  flat_back : (k : Vector) → HasDimension C.dimension k → HasDimension G.dimension k
  flat_back k = subst (λ (d : ℕ). HasDimension d k) h.dimension

  -- for each vertex of the net one of the cover's lies over it
  some_there : (w : Vertex) → IsVertex G w → (x : Vertex) × IsVertex C x × Over w x
  some_there w v =
      let p = some_place G.dimension b S h.is_lattice w.cell v.cell in let k = p.2 in
      let m = number_inside n G.vertices w.over p.0 v.over.0 v.over.1 p.1 in (
        vertex (number_in_cover n w.over p.0) k.k,
        record { over = (m.0, subst (λ (t : ℕ). number_in_cover n w.over p.0 ≤ t) (sym h.vertices) m.1); cell = flat_there k.k k.dimension },
        record { i = p.0; below = p.1; over = refl; cell = taken_back w.cell (remainder_with S p.0) (base_sum b k.k) (sym k.sum) },
      )

  -- and one alone
  one_there : (w x y : Vertex) → IsVertex G w → IsVertex C x → IsVertex C y → Over w x → Over w y → x ≡ y
  one_there w x y v vx vy s t =
      let r = remainder_with S s.i in let q = remainder_with S t.i in let fx = flat_back x.cell vx.cell in
      let fy = flat_back y.cell vy.cell in let flat = minus_dimension G.dimension y.cell x.cell fy fx in
      let i : s.i ≡ t.i = one_place G.dimension b S h.is_lattice s.i t.i s.below t.below
      (record { k = minus y.cell x.cell; dimension = flat; sum = apart b r q w.cell x.cell y.cell s.cell t.cell }) in
      let over : x.over ≡ y.over = s.over ∙ ap (number_in_cover n w.over) i ∙ sym t.over in
      let sums : base_sum b x.cell ≡ base_sum b y.cell =
      same_sum q w.cell (base_sum b x.cell) (base_sum b y.cell) (s.cell ∙ ap (λ (j : ℕ). plus (remainder_with S j) (base_sum b x.cell)) i) t.cell in
      let cells : x.cell ≡ y.cell = coefficients_once G.dimension b g.dimension c x.cell y.cell fx fy sums in
      λ j. vertex (over j) (cells j)

  -- each vertex of the cover's net lies over one
  some_back : (x : Vertex) → IsVertex C x → (w : Vertex) × IsVertex G w × Over w x
  some_back x v =
      let p = number_found n G.vertices x.over v.over.0 (subst (λ (t : ℕ). x.over ≤ t) h.vertices v.over.1) in
      let r = remainder_with S p.1 in
      let flat = plus_dimension G.dimension r (base_sum b x.cell) (remainder_flat G.dimension b S h.is_lattice p.1 p.4)
      (sum_flat G.dimension b c.flat x.cell (flat_back x.cell v.cell)) in
      (vertex p.0 (plus r (base_sum b x.cell)), record { over = (p.2, p.3); cell = flat }, record { i = p.1; below = p.4; over = sym p.5; cell = refl })

  -- and over one alone
  one_back : (x w y : Vertex) → IsVertex C x → IsVertex G w → IsVertex G y → Over w x → Over y x → w ≡ y
  one_back x w y v vw vy s t =
      let q = number_once n w.over y.over s.i t.i vw.over.0 vy.over.0 s.below t.below (sym s.over ∙ t.over) in
      let cells : w.cell ≡ y.cell = s.cell ∙ ap (λ (j : ℕ). plus (remainder_with S j) (base_sum b x.cell)) q.1 ∙ sym t.cell in
      λ j. vertex (q.0 j) (cells j)

  -- over joined vertices lie joined ones
  joins_there : (w v x y : Vertex) → IsVertex G w → IsVertex G v → IsVertex C x → IsVertex C y → Over w x → Over v y → AreJoined G w v → AreJoined C x y
  joins_there w v x y vw vv vx vy s t j =
      let r = remainder_with S s.i in let q = remainder_with S t.i in let k = base_sum b x.cell in
      let l = base_sum b y.cell in
      let shift : plus r (minus v.cell w.cell) ≡ plus q (base_sum b (minus y.cell x.cell)) =
      vector_equal (between r.x q.x k.x l.x w.cell.x v.cell.x (ap (λ (u : Vector). u.x) s.cell) (ap (λ (u : Vector). u.x) t.cell))
      (between r.y q.y k.y l.y w.cell.y v.cell.y (ap (λ (u : Vector). u.y) s.cell) (ap (λ (u : Vector). u.y) t.cell))
      (between r.z q.z k.z l.z w.cell.z v.cell.z (ap (λ (u : Vector). u.z) s.cell) (ap (λ (u : Vector). u.z) t.cell))
      ∙ ap (plus q) (sym (base_sum_minus b y.cell x.cell)) in
      lifted_arc G b C g h (arc_between x y) (record {
        below = arc_between w v;
        is_arc = j;
        i = s.i;
        j = t.i;
        lift = record {
          from = s.over;
          to = t.over;
          leads = record {
            start = s.below;
            end = t.below;
            dimension = minus_dimension G.dimension y.cell x.cell (flat_back y.cell vy.cell) (flat_back x.cell vx.cell);
            shift = shift;
          };
        };
      })

  -- and under joined ones
  joins_back : (x y w v : Vertex) → IsVertex C x → IsVertex C y → IsVertex G w → IsVertex G v → Over w x → Over v y → AreJoined C x y → AreJoined G w v
  joins_back x y w v vx vy vw vv s t j =
      let a = arc_lifts G b C g h (arc_between x y) j in let e = a.lift in
      let inside = arc_inside G g a.below a.is_arc in
      let f = number_once n a.below.from w.over a.i s.i inside.from.0 vw.over.0 e.leads.start s.below (sym e.from ∙ s.over) in
      let o = number_once n a.below.to v.over a.j t.i inside.to.0 vv.over.0 e.leads.end t.below (sym e.to ∙ t.over) in
      let r = remainder_with S s.i in let q = remainder_with S t.i in let k = base_sum b x.cell in
      let l = base_sum b y.cell in
      let lead : plus r a.below.shift ≡ plus q (minus l k) =
      ap (λ (m : ℕ). plus (remainder_with S m) a.below.shift) (sym f.1) ∙ e.leads.shift
      ∙ (λ m. plus (remainder_with S (o.1 m)) (base_sum_minus b y.cell x.cell m)) in
      let shift : a.below.shift ≡ minus v.cell w.cell =
      vector_equal (across r.x q.x k.x l.x w.cell.x v.cell.x a.below.shift.x (ap (λ (u : Vector). u.x) s.cell) (ap (λ (u : Vector). u.x) t.cell)
      (ap (λ (u : Vector). u.x) lead))
      (across r.y q.y k.y l.y w.cell.y v.cell.y a.below.shift.y (ap (λ (u : Vector). u.y) s.cell) (ap (λ (u : Vector). u.y) t.cell)
      (ap (λ (u : Vector). u.y) lead))
      (across r.z q.z k.z l.z w.cell.z v.cell.z a.below.shift.z (ap (λ (u : Vector). u.z) s.cell) (ap (λ (u : Vector). u.z) t.cell)
      (ap (λ (u : Vector). u.z) lead)) in
      subst (IsArc G) (λ m. arc (f.0 m) (o.0 m) (shift m)) a.is_arc

  -- what is further by as much in both lies over
  further : (w x : Vertex) (m k : Vector) → Over w x → m ≡ base_sum b k → Over (moved w m) (moved x k)
  further w x m k s e = record {
    i = s.i;
    below = s.below;
    over = s.over;
    cell = (λ j. plus (s.cell j) (e j)) ∙ plus_associative (remainder_with S s.i) (base_sum b x.cell) (base_sum b k)
        ∙ ap (plus (remainder_with S s.i)) (sym (base_sum_plus b x.cell k));
  }

  undo : Undoing G.dimension b
  undo = undoing G.dimension b g.dimension c.flat

  -- so the nets are isomorphic
  pub cover_iso : PairedIso G C Over
  cover_iso =
      paired_iso G C Over (sym h.dimension) (record { some = some_there; one = one_there; joins = joins_there })
      (record { some = some_back; one = one_back; joins = λ x y w v vx vy vw vv s t j. joins_back x y w v vx vy vw vv s t j })
      (index_of G.dimension b) undo.rows
      (record {
        positive = index_positive G.dimension b c;
        flat = λ k f. flat_there (base_sum undo.rows k) (undo.dimension k f);
        further = λ w x k vw vx s f. further w x (times (pos (index_of G.dimension b)) k) (base_sum undo.rows k) s (sym (undo.is k f));
      }) 1 b (record {
        positive = omega arith;
        flat = λ k f. sum_flat G.dimension b c.flat k (flat_back k f);
        further = λ x w k vx vw s f. further w x (base_sum b k) (times (pos 1) k) s (ap (base_sum b) (sym (one_times k)));
      })

  -- and the cover has the index times as many vertices and edges
  cover_size : HasCoverSize G b C
  cover_size = grind arith

-- as the theorem says it
pub covers_are_isomorphic : CoversAreIsomorphic
covers_are_isomorphic = record {
  iso = λ G b C g c h. (cover_iso G b C g c h).iso;
  over = λ G b C g c h. (cover_iso G b C g c h).there_is;
  size = cover_size;
}

-- What is given by an edge at a remainder is one, and determines the edge and the remainder.

-- an edge has one normal spelling
spelled_once : (l e f : Arc) → Spells l e → Spells l f → e ≡ f
spelled_once l e f (n, inl p) (m, inl q) = p ∙ sym q
spelled_once l e f (n, inr p) (m, inr q) = p ∙ sym q
spelled_once l e f (n, inl p) (m, inr q) = absurd (one_spelling l (subst IsNormalSpelling p n) (subst IsNormalSpelling q m))
spelled_once l e f (n, inr p) (m, inl q) = absurd (one_spelling l (subst IsNormalSpelling q m) (subst IsNormalSpelling p n))

module _ (d : ℕ) (b : Base) (S : Stairs) (dim : (d ≡ 2) ⊎ (d ≡ 3)) (c : IsCell d b) (h : IsSublattice d b S) where
  -- an arc has one lift at a remainder
  lifted_once : (a : Arc) (i : ℕ) (e f : Arc) → IsLift d b S a i e → IsLift d b S a i f → e ≡ f
  lifted_once a i e f l m =
      let s = l.1 in let t = m.1 in
      let o = lift_once d b S dim c h a i e.shift f.shift (l.0, s.leads) (m.0, t.leads) in
      let to : l.0 ≡ m.0 = o.0 in
      λ k. arc ((s.from ∙ sym t.from) k) ((s.to ∙ ap (number_in_cover (size_of S) a.to) to ∙ sym t.to) k) (o.1 k)

  -- so an edge gives one edge at a remainder
  pub given_once : (a : Arc) (i : ℕ) (e f : Arc) → IsGivenAt d b S a i e → IsGivenAt d b S a i f → e ≡ f
  given_once a i e f p q = spelled_once p.0 e f p.2 (subst (λ (l : Arc). Spells l f) (lifted_once a i q.0 p.0 q.1 p.1) q.2)

-- an arc between vertices
pub record HasVertices (a : Arc) : Type 0 where
  pub from : 1 ≤ a.from
  pub to : 1 ≤ a.to

-- a lift determines the arc and the remainder
lift_tells : (d : ℕ) (b : Base) (S : Stairs) (a a' : Arc) (i i' j j' : ℕ) (l : Arc) → HasVertices a → HasVertices a' → IsLiftTo d b S a i j l
    → IsLiftTo d b S a' i' j' l
    → (a ≡ a') × (i ≡ i')
lift_tells d b S a a' i i' j j' l v w s t =
    let n = size_of S in
    let f = number_once n a.from a'.from i i' v.from w.from s.leads.start t.leads.start (sym s.from ∙ t.from) in
    let o = number_once n a.to a'.to j j' v.to w.to s.leads.end t.leads.end (sym s.to ∙ t.to) in
    let k : a.shift ≡ a'.shift =
    plus_cancel (remainder_with S i) a.shift a'.shift
    (s.leads.shift ∙ ap (λ (x : ℕ). plus (remainder_with S x) (base_sum b l.shift)) o.1 ∙ sym t.leads.shift
    ∙ ap (λ (x : ℕ). plus (remainder_with S x) a'.shift) (sym f.1)) in
    ((λ x. arc (f.0 x) (o.0 x) (k x)), f.1)

-- what is given by edges in normal spelling determines the edge and the remainder
pub given_tells : (d : ℕ) (b : Base) (S : Stairs) (a a' : Arc) (i i' : ℕ) (e : Arc) → HasVertices a → HasVertices a' → IsNormalSpelling a → IsNormalSpelling a'
    → IsGivenAt d b S a i e → IsGivenAt d b S a' i' e → (a ≡ a') × (i ≡ i')
given_tells d b S a a' i i' e v w m n p q = by p.2.1 q.2.1
  where
    same : p.0 ≡ q.0 → (a ≡ a') × (i ≡ i')
    same s = lift_tells d b S a a' i i' p.1.0 q.1.0 q.0 v w (subst (IsLiftTo d b S a i p.1.0) s p.1.1) q.1.1

    other : p.0 ≡ reverse_of q.0 → ⊥
    other s =
        let t = lift_tells d b S a (reverse_of a') i q.1.0 p.1.0 i' (reverse_of q.0) v (record { from = w.to; to = w.from })
        (subst (IsLiftTo d b S a i p.1.0) s p.1.1)
        (lift_turned d b S a' i' q.1.0 q.0 q.1.1) in
        one_spelling a' n (subst IsNormalSpelling t.0 m)

    by : ((e ≡ p.0) ⊎ (e ≡ reverse_of p.0)) → ((e ≡ q.0) ⊎ (e ≡ reverse_of q.0)) → (a ≡ a') × (i ≡ i')
    by (inl x) (inl y) = same (sym x ∙ y)
    by (inl x) (inr y) = absurd (other (sym x ∙ y))
    by (inr x) (inl y) = absurd (other (sym (reverse_twice p.0) ∙ ap reverse_of (sym x ∙ y)))
    by (inr x) (inr y) = same (sym (reverse_twice p.0) ∙ ap reverse_of (sym x ∙ y) ∙ reverse_twice q.0)
