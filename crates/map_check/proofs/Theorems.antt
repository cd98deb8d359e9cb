-- The theorems on tables of maps, as functions of the crate carry them. A periodic bijection between nets has equal dimensions.
use Rattle.std.proofs.Common.{◌≡◌, ◌≢◌, ◌⊎◌, inl, inr, ℕ, zero, suc, ◌+◌, ◌<◌, ◌≤◌, ℤ, pos, ◌+ℤ◌, ◌*ℤ◌, sym, ap, subst, ◌∙◌, arith, List, [], ◌∷◌, length}
use Rattle.std.proofs.Common.{refl}
use Rattle.std.{proofs.lemmas.Int.unsigned_abs-mul, proofs.Math.Decide.dec_lt, proofs.Math.Nat.le-mul_of_pos_right, specs.Prelude.unsigned_abs}
use Prim.{Dec}
use Rattle.integers.specs.Vectors.{Vector, vector, zero_vector, times, dot, HasDimension, IsModulo, plus, minus}
use Rattle.integers.proofs.numbers.Ring.{ring, linear, positive_not_zero, zero_or_not}
use Rattle.integers.proofs.vectors.Independence.{Relation, determinant, relation_of_zero}
use Rattle.integers.proofs.vectors.Laws.{vector_equal, zero_plus, plus_zero, times_cancel, times_dimension, times_zero, dot_plus, dot_times, plus_minus}
use Rattle.integers.proofs.vectors.Laws.{plus_exchange}
use Rattle.integers.proofs.lists.Members.{IsIn, AreApart, take_out, TakesOnce, taken_length, not_longer}
use Rattle.integers.{specs.Bases.Base, specs.Bases.base_sum, proofs.vectors.VectorRemainders.modulo_of, proofs.numbers.Division.modulo_dimension}
use Rattle.integers.{proofs.numbers.Division.steps_dimension}
use Rattle.periodic_net.specs.Graph.{Graph, IsGraph, IsVertex, Vertex, vertex, moved, Arc, arc, arcs_from, AreJoined}
use Rattle.periodic_net.specs.Maps.{IsBijection, IsPeriodic, PeriodicMap, JoinsAlike}
use Rattle.periodic_net.proofs.CallerLemmas.{moved_vertex, origin_vertex, arc_between, arc_is_from, arcs_apart, between_end, carried, end_between}
use Rattle.periodic_net.proofs.CallerLemmas.{end_joined, end_of, from_is_arc, in_box, joined_inside, joined_moved, periodic_of_drawn}
use Rattle.sublattice.proofs.Numbers.{natural_part}
use Rattle.map_check.specs.Laws.{IsMapOf, TablesOfBijections, TablesThatJoin, TablesGiveIso}
use Rattle.map_check.proofs.Bijections.{grouped, equal_numbers, count_of_bijection, no_double, nonzero_size, iso_of_bijection, iso_there, at_place}
use Rattle.map_check.proofs.Bijections.{bijection_of_count}
use Rattle.map_check.specs.Tables.{DegreesAgree, ArcsAreKept}

-- three rows of two numbers have a relation
relation_of_pairs : (a b d e g h : ℤ) → Relation a b (pos 0) d e (pos 0) g h (pos 0)
relation_of_pairs a b d e g h = relation_of_zero a b (pos 0) d e (pos 0) g h (pos 0) (flat a b d e g h)
  where
    flat : (a b d e g h : ℤ) → determinant a b (pos 0) d e (pos 0) g h (pos 0) ≡ pos 0
    flat a b d e g h = simp ring (omega (arith, linear))

-- what is added to 0 to make 0 is 0
added_zero : (x y : ℤ) → x ≡ pos 0 → x +ℤ y ≡ pos 0 → y ≡ pos 0
added_zero x y e f = omega (arith, linear, e, f)

-- no bijection leads to a net of dimension 2 from one of dimension 3: three shifts have a relation, so two vertices have one image
pub not_to_plane : (G H : Graph) (f : Vertex → Vertex) (m : ℕ) (b : Base) → IsGraph G → IsPeriodic G H f m b → IsBijection G H f → G.dimension ≡ 3
    → H.dimension ≡ 2 → ⊥
not_to_plane G H f m b g p j dg dh = r.some (ap (λ (v : Vector). v.x) none, ap (λ (v : Vector). v.y) none, ap (λ (v : Vector). v.z) none)
  where
    r : Relation b.first.x b.first.y (pos 0) b.second.x b.second.y (pos 0) b.third.x b.third.y (pos 0)
    r = relation_of_pairs b.first.x b.first.y b.second.x b.second.y b.third.x b.third.y

    k : Vector
    k = vector r.x r.y r.z

    flat : HasDimension G.dimension k
    flat e = absurd (omega (arith, e, dg))

    w : Vertex
    w = vertex 1 zero_vector

    is_vertex : IsVertex G w
    is_vertex = origin_vertex G 1 (omega arith, g.vertices)

    further : Vertex
    further = moved w (times (pos m) k)

    is_further : IsVertex G further
    is_further = moved_vertex G w (times (pos m) k) is_vertex (times_dimension G.dimension (pos m) k flat)

    last : (base_sum b k).z ≡ pos 0
    last = added_zero (f w).cell.z (base_sum b k).z ((p.into w is_vertex).cell dh)
        (ap (λ (x : Vertex). x.cell.z) (sym (p.repeats w k is_vertex flat)) ∙ (p.into further is_further).cell dh)

    sum : base_sum b k ≡ zero_vector
    sum = vector_equal (grouped (r.x *ℤ b.first.x) (r.y *ℤ b.second.x) (r.z *ℤ b.third.x) r.first)
        (grouped (r.x *ℤ b.first.y) (r.y *ℤ b.second.y) (r.z *ℤ b.third.y) r.second) last

    same : further ≡ w
    same = j.once further w is_further is_vertex (p.repeats w k is_vertex flat ∙ ap (moved (f w)) sum ∙ ap (vertex (f w).over) (plus_zero (f w).cell))

    none : k ≡ zero_vector
    none = times_cancel (pos m) k zero_vector (positive_not_zero m p.positive)
        (sym (zero_plus (times (pos m) k)) ∙ ap (λ (x : Vertex). x.cell) same ∙ sym (times_zero (pos m)))

-- the sum of the values at numbers below n
abbrev sum_below : (ℕ → ℕ) → ℕ → ℕ
sum_below g zero = 0
sum_below g (suc n) = sum_below g n + g n

-- no value is above it
within_sum : (g : ℕ → ℕ) (n i : ℕ) → i < n → g i ≤ sum_below g n
within_sum g zero i l = absurd (omega (arith, l))
within_sum g (suc n) i l = by (within_sum g n i) (dec_lt i n)
  where
    by : (i < n → g i ≤ sum_below g n) → Dec (i < n) → g i ≤ sum_below g n + g n
    by h k = search arith

-- a vector other than 0 has a product other than 0 with some vector
product_with : (n : Vector) → ((n.x ≡ pos 0) × (n.y ≡ pos 0) × (n.z ≡ pos 0) → ⊥) → (v : Vector) × (dot n v ≢ pos 0)
product_with n some = by (zero_or_not n.x) (zero_or_not n.y) (zero_or_not n.z)
  where
    by : (n.x ≡ pos 0) ⊎ (n.x ≢ pos 0) → (n.y ≡ pos 0) ⊎ (n.y ≢ pos 0) → (n.z ≡ pos 0) ⊎ (n.z ≢ pos 0) → (v : Vector) × (dot n v ≢ pos 0)
    by (inr x) y z = (vector (pos 1) (pos 0) (pos 0), λ e. x (omega (arith, linear, simp ring at e)))
    by (inl x) (inr y) z = (vector (pos 0) (pos 1) (pos 0), λ e. y (omega (arith, linear, simp ring at e)))
    by (inl x) (inl y) (inr z) = (vector (pos 0) (pos 0) (pos 1), λ e. z (omega (arith, linear, simp ring at e)))
    by (inl x) (inl y) (inl z) = absurd (some (x, y, z))

-- a multiple of a number other than 0 is no less than the factor
multiple_above : (l : ℕ) (q : ℤ) → q ≢ pos 0 → l ≤ unsigned_abs (pos l *ℤ q)
multiple_above l q n = subst (λ (t : ℕ). l ≤ t) (sym (unsigned_abs-mul (pos l) q)) (le-mul_of_pos_right l (nonzero_size q n))

-- what is orthogonal to two shifts is so to their sums
sum_orthogonal : (n : Vector) (b : Base) (k : Vector) → dot n b.first ≡ pos 0 → dot n b.second ≡ pos 0 → k.z ≡ pos 0 → dot n (base_sum b k) ≡ pos 0
sum_orthogonal n b k p q z =
    let r = ap (λ (t : ℤ). k.x *ℤ t) p in let s = ap (λ (t : ℤ). k.y *ℤ t) q in
    let t = ap (λ (t : ℤ). t *ℤ dot n b.third) z in
    simp ring (omega (arith, linear, simp ring at r, simp ring at s, simp ring at t))

-- none leads to a net of dimension 3 from one of dimension 2: the images lie within some distance of a plane along two shifts
pub not_from_plane : (G H : Graph) (f : Vertex → Vertex) (m : ℕ) (b : Base) → IsGraph H → IsPeriodic G H f m b → IsBijection G H f → G.dimension ≡ 2
    → H.dimension ≡ 3 → ⊥
not_from_plane G H f m b h p j dg dh =
    let high = multiple_above (suc bound) (dot n away.0) away.1 in
    let low = subst (λ (t : ℕ). t ≤ bound) (ap (λ (x : Vertex). unsigned_abs (dot n x.cell)) hit.2 ∙ ap unsigned_abs (dot_times n (pos (suc bound)) away.0))
    (within hit.0 hit.1) in
    omega (arith, high, low)
  where
    r : Relation b.first.x b.second.x (pos 0) b.first.y b.second.y (pos 0) b.first.z b.second.z (pos 0)
    r = relation_of_pairs b.first.x b.second.x b.first.y b.second.y b.first.z b.second.z

    n : Vector
    n = vector r.x r.y r.z

    away : (v : Vector) × (dot n v ≢ pos 0)
    away = product_with n r.some

    -- the distance of the image of a vertex, up to a factor
    distance : Vertex → ℕ
    distance w = unsigned_abs (dot n (f w).cell)

    -- of one in the box
    in_box : ℕ → ℕ → ℕ → ℕ
    in_box u x y = distance (vertex u (vector (pos x) (pos y) (pos 0)))

    -- all of them together
    bound : ℕ
    bound = sum_below (λ u. sum_below (λ x. sum_below (in_box u x) m) m) (suc G.vertices)

    within_box : (u x y : ℕ) → u < suc G.vertices → x < m → y < m → in_box u x y ≤ bound
    within_box u x y a c d =
        let s = within_sum (in_box u x) m y d in let t = within_sum (λ x. sum_below (in_box u x) m) m x c in
        let l = within_sum (λ u. sum_below (λ x. sum_below (in_box u x) m) m) (suc G.vertices) u a in
        omega (arith, s, t, l)

    within : (w : Vertex) → IsVertex G w → distance w ≤ bound
    within w i = subst (λ (t : ℕ). t ≤ bound) (sym same) (within_box w.over (unsigned_abs s.x) (unsigned_abs s.y) over x.1 y.1)
      where
        split : (s : Vector) × IsModulo (pos m) w.cell s
        split = modulo_of m p.positive w.cell

        s : Vector
        s = split.0

        k : Vector
        k = split.1.steps

        flat : HasDimension G.dimension k
        flat = steps_dimension G.dimension (pos m) w.cell s i.cell split.1

        x : (s.x ≡ pos (unsigned_abs s.x)) × (unsigned_abs s.x < m)
        x = natural_part s.x (pos m) split.1.low.0 split.1.high.0

        y : (s.y ≡ pos (unsigned_abs s.y)) × (unsigned_abs s.y < m)
        y = natural_part s.y (pos m) split.1.low.1 split.1.high.1

        over : w.over < suc G.vertices
        over = let l = i.over.1 in omega (arith, l)

        z : s.z ≡ pos 0
        z = modulo_dimension G.dimension (pos m) w.cell s i.cell split.1 dg

        image : f w ≡ moved (f (vertex w.over s)) (base_sum b k)
        image = ap (λ (t : Vector). f (vertex w.over t)) split.1.is
            ∙ p.repeats (vertex w.over s) k (record { over = i.over; cell = modulo_dimension G.dimension (pos m) w.cell s i.cell split.1 }) flat

        level : dot n (f w).cell ≡ dot n (f (vertex w.over s)).cell
        level = ap (λ (x : Vertex). dot n x.cell) image ∙ dot_plus n (f (vertex w.over s)).cell (base_sum b k)
            ∙ ap (λ (t : ℤ). dot n (f (vertex w.over s)).cell +ℤ t) (sum_orthogonal n b k r.first r.second (flat dg))
            ∙ plus_nothing (dot n (f (vertex w.over s)).cell)
          where
            plus_nothing : (t : ℤ) → t +ℤ pos 0 ≡ t
            plus_nothing t = omega (arith, linear)

        same : distance w ≡ in_box w.over (unsigned_abs s.x) (unsigned_abs s.y)
        same = ap unsigned_abs level ∙ ap (λ (t : Vector). distance (vertex w.over t))
            (vector_equal {v = s} {w = vector (pos (unsigned_abs s.x)) (pos (unsigned_abs s.y)) (pos 0)} x.0 y.0 z)

    -- a vertex whose image lies further out than all of them
    hit : (w : Vertex) × IsVertex G w × (f w ≡ vertex 1 (times (pos (suc bound)) away.0))
    hit = j.onto (vertex 1 (times (pos (suc bound)) away.0)) (record { over = (omega arith, h.vertices); cell = λ e. absurd (omega (arith, e, dh)) })

-- a periodic bijection between nets has equal dimensions
pub same_dimension : (G H : Graph) (f : Vertex → Vertex) (m : ℕ) (b : Base) → IsGraph G → IsGraph H → IsPeriodic G H f m b → IsBijection G H f
    → G.dimension ≡ H.dimension
same_dimension G H f m b g h p j = by g.dimension h.dimension
  where
    by : (G.dimension ≡ 2) ⊎ (G.dimension ≡ 3) → (H.dimension ≡ 2) ⊎ (H.dimension ≡ 3) → G.dimension ≡ H.dimension
    by (inl dg) (inl dh) = dg ∙ sym dh
    by (inl dg) (inr dh) = absurd (not_from_plane G H f m b h p j dg dh)
    by (inr dg) (inl dh) = absurd (not_to_plane G H f m b g p j dg dh)
    by (inr dg) (inr dh) = dg ∙ sym dh

-- A map that is one to one, keeps degrees and takes arcs to joined vertices, joins images if and only if vertices are joined.

-- members of a list that go to members of another of the same length, no two to one, meet each
pub each_taken : {X Y : Type 0} (S : X → Y → Type 0) (xs : List X) (ys : List Y) → AreApart xs → TakesOnce S xs ys → length xs ≡ length ys
    → (y : Y) → IsIn ys y → (x : X) × IsIn xs x × S x y
each_taken S [] [] a t l y h = absurd h
each_taken S [] (z ∷ ys) a t l y h = absurd (omega arith)
each_taken {X} {Y} S (x ∷ xs) ys a t l y h = by (t.into x (inl refl)) (λ rest s e i. each_taken S xs rest a.1 s e y i)
  where
    by : (z : Y) × IsIn ys z × S x z → ((rest : List Y) → TakesOnce S xs rest → length xs ≡ length rest → IsIn rest y → (x : X) × IsIn xs x × S x y)
        → (v : X) × IsIn (x ∷ xs) v × S v y
    by r go =
        let o = take_out ys r.0 r.1 in let n = taken_length ys r.0 o in
        elim (o.others y h) [
          | inl e ↦ (x, inl refl, subst (S x) e r.2)
          | inr i ↦
              let q = go o.rest (record {
                into = λ z k.
                    let s = t.into z (inr k) in
                    elim (o.others s.0 s.1) [
                      | inl e ↦ let same = t.once x z s.0 (inl refl) (inr k) (subst (S x) e r.2) s.2 in absurd (a.0 (subst (IsIn xs) (sym same) k))
                      | inr j ↦ (s.0, j, s.2)
                    ];
                once = λ z z' v k k' p q. t.once z z' v (inr k) (inr k') p q;
              }) (omega arith) i in
              (q.0, inr q.1, q.2)
        ]

-- the arc a of w goes to the arc b
abbrev pub Goes : (Vertex → Vertex) → Vertex → Arc → Arc → Type 0
Goes f w a b = carried f w a ≡ b

module _ {G H : Graph} {M : PeriodicMap} {f : Vertex → Vertex} (h : IsMapOf G H M f) (b : IsBijection G H f) where
  -- arcs of w go to arcs of its image, no two to one
  pub arcs_go_once : (w : Vertex) → IsVertex G w → ((x : Vertex) → IsVertex G x → AreJoined G w x → AreJoined H (f w) (f x))
      → TakesOnce (Goes f w) (arcs_from G w.over) (arcs_from H (f w).over)
  arcs_go_once w i joins = record {
    into = λ a k.
        let r = from_is_arc G w.over a k in let j = end_joined G w a r.0 r.1 in
        (carried f w a, arc_is_from H (f w).over (carried f w a) (joins (end_of w a) (joined_inside G h.graph w (end_of w a) i j) j) refl, refl);
    once = λ a c e k l p q.
        let r = from_is_arc G w.over a k in let s = from_is_arc G w.over c l in
        let va = joined_inside G h.graph w (end_of w a) i (end_joined G w a r.0 r.1) in
        let vc = joined_inside G h.graph w (end_of w c) i (end_joined G w c s.0 s.1) in
        let ends : f (end_of w a) ≡ f (end_of w c) = sym (end_between (f w) (f (end_of w a))) ∙ ap (end_of (f w)) (p ∙ sym q)
        ∙ end_between (f w) (f (end_of w c)) in
        sym (between_end w a r.1) ∙ ap (arc_between w) (b.once (end_of w a) (end_of w c) va vc ends) ∙ between_end w c s.1;
  }

  -- joined vertices go to joined vertices
  joined_there : ArcsAreKept G H M f → (w x : Vertex) → IsVertex G w → IsVertex G x → AreJoined G w x → AreJoined H (f w) (f x)
  joined_there kept w x i j a =
      let p = periodic_of_drawn G H M f h.table h.drawn in
      let s = in_box G.dimension M.m h.table.positive w.cell i.cell in let d = minus x.cell w.cell in
      let near = vertex w.over s.r in let far = vertex x.over (plus s.r d) in
      let vn : IsVertex G near = record { over = i.over; cell = s.box.dimension } in
      let joined : AreJoined G near far = end_joined G near (arc w.over x.over d) a refl in
      let vf = joined_inside G h.graph near far vn joined in
      let fw = ap (λ (v : Vector). f (vertex w.over v)) s.sum ∙ p.repeats near s.k vn s.dimension in
      let cell : x.cell ≡ plus (plus s.r d) (times (pos M.m) s.k) =
      sym (plus_minus w.cell x.cell) ∙ ap (λ (v : Vector). plus v d) s.sum ∙ plus_exchange s.r (times (pos M.m) s.k) d in
      let fx = ap (λ (v : Vector). f (vertex x.over v)) cell ∙ p.repeats far s.k vf s.dimension in
      subst (λ (t : Type 0). t) (sym ((λ l. AreJoined H (fw l) (fx l)) ∙ joined_moved H (f near) (f far) (base_sum M.base s.k)))
      (kept w.over x.over s.r d i.over s.box a)

  -- the image of w has as many arcs as w
  as_many : DegreesAgree G H M → (w : Vertex) → IsVertex G w → length (arcs_from G w.over) ≡ length (arcs_from H (f w).over)
  as_many degrees w i =
      let s = in_box G.dimension M.m h.table.positive w.cell i.cell in
      let e = ap (λ (v : Vector). f (vertex w.over v)) s.sum ∙ h.drawn w.over s.r s.k i.over s.box s.dimension in
      degrees w.over s.r i.over s.box ∙ ap (λ (y : Vertex). length (arcs_from H y.over)) (sym e)

  -- joined images come from joined vertices
  joined_back : DegreesAgree G H M → ArcsAreKept G H M f → (w x : Vertex) → IsVertex G w → IsVertex G x → AreJoined H (f w) (f x) → AreJoined G w x
  joined_back degrees kept w x i j a =
      let r = each_taken (Goes f w) (arcs_from G w.over) (arcs_from H (f w).over) (arcs_apart G h.graph w.over)
      (arcs_go_once w i (λ y v. joined_there kept w y i v)) (as_many degrees w i) (arc_between (f w) (f x))
      (arc_is_from H (f w).over (arc_between (f w) (f x)) a refl) in
      let c = r.0 in let k = from_is_arc G w.over c r.1 in let joined = end_joined G w c k.0 k.1 in
      let ends : f (end_of w c) ≡ f x = sym (end_between (f w) (f (end_of w c))) ∙ ap (end_of (f w)) r.2 ∙ end_between (f w) (f x) in
      subst (AreJoined G w) (b.once (end_of w c) x (joined_inside G h.graph w (end_of w c) i joined) j ends) joined

  -- so the map joins images if and only if the vertices are joined
  pub joins_of_arcs : DegreesAgree G H M → ArcsAreKept G H M f → JoinsAlike G H f
  joins_of_arcs degrees kept w x i j = (joined_there kept w x i j, joined_back degrees kept w x i j)

-- A bijection that joins images if and only if vertices are joined keeps degrees and arcs.

module _ {G H : Graph} {M : PeriodicMap} {f : Vertex → Vertex} (h : IsMapOf G H M f) (b : IsBijection G H f) (alike : JoinsAlike G H f) where
  -- the ends of arcs go to joined vertices
  pub arcs_of_joins : ArcsAreKept G H M f
  arcs_of_joins u v r s i p a =
      let w = vertex u r in let vw : IsVertex G w = record { over = i; cell = p.dimension } in
      let j = end_joined G w (arc u v s) a refl in
      (alike w (vertex v (plus r s)) vw (joined_inside G h.graph w (vertex v (plus r s)) vw j)).0 j

  -- each arc of the image comes from an arc of w
  arcs_come : (w : Vertex) → IsVertex G w → TakesOnce (λ c a. Goes f w a c) (arcs_from H (f w).over) (arcs_from G w.over)
  arcs_come w i = record {
    into = λ c k.
        let r = from_is_arc H (f w).over c k in let y = end_of (f w) c in
        let joined = end_joined H (f w) c r.0 r.1 in
        let x = b.onto y (joined_inside H h.other (f w) y (b.into w i) joined) in
        let there = subst (AreJoined H (f w)) (sym x.2) joined in
        let back = (alike w x.0 i x.1).1 there in (
          arc_between w x.0,
          arc_is_from G w.over (arc_between w x.0) back refl,
          ap (λ (v : Vertex). arc_between (f w) (f v)) (end_between w x.0) ∙ ap (arc_between (f w)) x.2 ∙ between_end (f w) c r.1,
        );
    once = λ c c' a k l p q. sym p ∙ q;
  }

  -- the image has as many arcs
  pub degrees_of_joins : DegreesAgree G H M
  degrees_of_joins u r i p =
      let w = vertex u r in let vw : IsVertex G w = record { over = i; cell = p.dimension } in
      equal_numbers (length (arcs_from G u)) (length (arcs_from H (f w).over))
      (not_longer (Goes f w) (arcs_from G u) (arcs_from H (f w).over) (arcs_apart G h.graph u) (arcs_go_once h b w vw (λ x j. (alike w x vw j).0)))
      (not_longer (λ c a. Goes f w a c) (arcs_from H (f w).over) (arcs_from G u) (arcs_apart H h.other (f w).over) (arcs_come w vw))
      ∙ ap (λ (y : Vertex). length (arcs_from H y.over)) (at_place h w (record { over = i; box = p }))

-- bijections
pub tables_of_bijections : TablesOfBijections
tables_of_bijections G H M f h = (λ b. (count_of_bijection h b, no_double h b), λ t. bijection_of_count h t.0 t.1)

-- joined vertices
pub tables_that_join : TablesThatJoin
tables_that_join G H M f h b = (λ a. (degrees_of_joins h b a, arcs_of_joins h b a), λ t. joins_of_arcs h b t.0 t.1)

-- isomorphisms
pub tables_give_iso : TablesGiveIso
tables_give_iso = record {
  exactly = λ G H M f h. (
    λ p. let b = bijection_of_count h p.counts p.no_double in record {
      period = periodic_of_drawn G H M f h.table h.drawn;
      bijection = b;
      joins =
          joins_of_arcs h b p.degrees p.arcs;
    },
    λ p. record {
      counts = count_of_bijection h p.bijection;
      no_double = no_double h p.bijection;
      degrees = degrees_of_joins h p.bijection p.joins;
      arcs =
          arcs_of_joins h p.bijection p.joins;
    },
  );
  iso = λ G H M f h p. let b = bijection_of_count h p.counts p.no_double in let j = joins_of_arcs h b p.degrees p.arcs in
      (iso_of_bijection h b j, iso_there h b j);
}
