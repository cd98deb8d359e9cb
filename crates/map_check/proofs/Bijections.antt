-- The map that a table writes down, if it is a bijection, and if it is an isomorphism.
use Rattle.std.proofs.Common.{◌≡◌, ◌≢◌, ◌⊎◌, inl, inr, ℕ, ℤ, pos, ◌+ℤ◌, ◌*ℤ◌, refl, sym, ap, subst, ◌∙◌, arith, ◌-ℤ◌, ◌≤◌, ◌*◌, ◌^◌, ◌<ℤ◌, ◌≤ℤ◌}
use Rattle.std.{proofs.lemmas.Int.ints, specs.Prelude.unsigned_abs}
use Prim.{Dec, yes, no}
use Rattle.integers.specs.Vectors.{Vector, vector, zero_vector, up_vector, plus, times, HasDimension, minus}
use Rattle.integers.proofs.vectors.Laws.{plus_zero, times_zero, vector_equal, plus_cancel, minus_dimension, plus_minus, times_dimension, zero_plus}
use Rattle.integers.proofs.vectors.Laws.{times_cancel, minus_shifted, plus_commutative, base_sum_zero, base_sum_minus}
use Rattle.integers.proofs.counting.Numbering.{Numbering, Injects, meets_each, no_fewer, no_fewer_given}
use Rattle.integers.proofs.vectors.Independence.{coordinates_unique, relation_of_zero, product_is_determinant}
use Rattle.integers.{specs.Bases.Base, specs.Bases.base_sum, proofs.numbers.Ring.ring, proofs.numbers.Ring.linear}
use Rattle.periodic_net.specs.Graph.{Graph, Vertex, vertex, moved, IsVertex, AreJoined}
use Rattle.periodic_net.specs.Maps.{PeriodicMap, IsBijection, IsInBox, Iso, JoinsAlike}
use Rattle.periodic_net.proofs.CallerLemmas.{in_box, moved_vertex, periodic_of_drawn, origin_vertex, InBox, is_vertex_decided}
use Rattle.sublattice.specs.Sublattices.{determinant, AreFlat, index_of}
use Rattle.sublattice.proofs.CallerLemmas.{any_last, Undoing, undoing}
use Rattle.sublattice.proofs.{Numbers.natural_part, Residues.same_remainder}
use Rattle.map_check.specs.Tables.{IsBoxVertex, HasNoDouble, CountsAgree}
use Rattle.map_check.proofs.Layouts.{box_is_power, size_positive, AreSameVertex, AreMovedCopies, place_numbers, copy_numbers}
use Rattle.map_check.specs.Laws.{IsMapOf}

-- A table between two graphs of one dimension, and the map that it writes down.

-- r + m·0 is r
pub at_zero : (m : ℤ) (r : Vector) → plus r (times m zero_vector) ≡ r
at_zero m r = ap (plus r) (times_zero m) ∙ plus_zero r

-- a vertex moved by nothing
pub moved_none : (b : Base) (w : Vertex) → moved w (base_sum b zero_vector) ≡ w
moved_none b w = ap (moved w) (base_sum_zero b) ∙ ap (vertex w.over) (plus_zero w.cell)

-- a vertex in the box goes to its image
pub at_place : {G H : Graph} {M : PeriodicMap} {f : Vertex → Vertex} → IsMapOf G H M f → (w : Vertex) → IsBoxVertex G M.m w → f w ≡ M.image w.over w.cell
at_place {G} {H} {M} {f} h w p =
    ap (λ (v : Vector). f (vertex w.over v)) (sym (at_zero (pos M.m) w.cell)) ∙ h.drawn w.over w.cell zero_vector p.over p.box (λ _. refl)
    ∙ moved_none M.base (M.image w.over w.cell)

-- a vertex in the box is a vertex
pub place_vertex : {G : Graph} {m : ℕ} (w : Vertex) → IsBoxVertex G m w → IsVertex G w
place_vertex w p = record { over = p.over; cell = p.box.dimension }

-- 1·x and zeros
unit_first : (x y z : ℤ) → pos 1 *ℤ x +ℤ (pos 0 *ℤ y +ℤ pos 0 *ℤ z) ≡ x
unit_first x y z = simp ring (omega (arith, linear))

-- the second
unit_second : (x y z : ℤ) → pos 0 *ℤ x +ℤ (pos 1 *ℤ y +ℤ pos 0 *ℤ z) ≡ y
unit_second x y z = simp ring (omega (arith, linear))

-- in dimension 2 the shifts of a table are flat
pub flat_shifts : {G H : Graph} {M : PeriodicMap} {f : Vertex → Vertex} → IsMapOf G H M f → AreFlat H.dimension M.base
flat_shifts {G} {H} {M} {f} h e = (
  sym (unit_first M.base.first.z M.base.second.z M.base.third.z) ∙ h.table.dimension (vector (pos 1) (pos 0) (pos 0)) (λ _. refl) e,
  sym (unit_second M.base.first.z M.base.second.z M.base.third.z) ∙ h.table.dimension (vector (pos 0) (pos 1) (pos 0)) (λ _. refl) e,
)

-- numbers of equal sums are equal
abbrev SumsTell : Base → ℕ → Type 0
SumsTell b d = determinant d b ≢ pos 0 → (k l : Vector) → HasDimension d k → HasDimension d l → base_sum b k ≡ base_sum b l → k ≡ l

-- in dimension 2
flat_sums : (b : Base) → SumsTell b 2
flat_sums b n k l p q e =
    coordinates_unique b.first b.second up_vector n k l (any_last b.first b.second up_vector b.third k (p refl) ∙ e
    ∙ any_last b.first b.second b.third up_vector l (q refl))

-- if the product is not 0
pub sums_tell : (d : ℕ) (b : Base) → (d ≡ 2) ⊎ (d ≡ 3) → determinant d b ≢ pos 0 → (k l : Vector) → HasDimension d k → HasDimension d l
    → base_sum b k ≡ base_sum b l → k ≡ l
sums_tell d b (inl e) = subst (SumsTell b) (sym e) (flat_sums b)
sums_tell d b (inr e) = subst (SumsTell b) (sym e) (λ n k l _ _ h. coordinates_unique b.first b.second b.third n k l h)

-- If no image is another, moved by the shifts, the map is one to one.

-- p + a = q + b, brought to one side
brought : (p q a b : ℤ) → p +ℤ a ≡ q +ℤ b → p ≡ q +ℤ (b -ℤ a)
brought p q a b e = omega (arith, linear, e)

-- vertices that meet when they are moved
pub moved_back : (w x : Vertex) (a b : Vector) → moved w a ≡ moved x b → w ≡ moved x (minus b a)
moved_back w x a b e =
    let o : w.over ≡ x.over = ap (λ (y : Vertex). y.over) e in
    let c : w.cell ≡ plus x.cell (minus b a) = vector_equal (brought w.cell.x x.cell.x a.x b.x (ap (λ (y : Vertex). y.cell.x) e))
    (brought w.cell.y x.cell.y a.y b.y (ap (λ (y : Vertex). y.cell.y) e)) (brought w.cell.z x.cell.z a.z b.z (ap (λ (y : Vertex). y.cell.z) e)) in
    λ i. vertex (o i) (c i)

-- the map is one to one
pub one_to_one : {G H : Graph} {M : PeriodicMap} {f : Vertex → Vertex} → IsMapOf G H M f → determinant G.dimension M.base ≢ pos 0 → HasNoDouble G M
    → (w x : Vertex) → IsVertex G w → IsVertex G x → f w ≡ f x → w ≡ x
one_to_one {G} {H} {M} {f} h n a w x i j e =
    let s = in_box G.dimension M.m h.table.positive w.cell i.cell in
    let t = in_box G.dimension M.m h.table.positive x.cell j.cell in
    let there = sym (h.drawn w.over s.r s.k i.over s.box s.dimension) ∙ ap (λ (v : Vector). f (vertex w.over v)) (sym s.sum) ∙ e
    ∙ ap (λ (v : Vector). f (vertex x.over v)) t.sum
    ∙ h.drawn x.over t.r t.k j.over t.box t.dimension in
    let same = a w.over x.over s.r t.r i.over j.over s.box t.box (record {
      k = minus t.k s.k;
      dimension = minus_dimension G.dimension t.k s.k t.dimension s.dimension;
      is = moved_back (M.image w.over s.r) (M.image x.over t.r) (base_sum M.base s.k) (base_sum M.base t.k) there
          ∙ ap (moved (M.image x.over t.r)) (sym (base_sum_minus M.base t.k s.k));
    }) in
    let image : M.image w.over s.r ≡ M.image x.over t.r = (λ l. M.image (same.0 l) (same.1 l)) in
    let sums = plus_cancel (M.image x.over t.r).cell (base_sum M.base s.k) (base_sum M.base t.k)
    (ap (λ (y : Vertex). plus y.cell (base_sum M.base s.k)) (sym image) ∙ ap (λ (y : Vertex). y.cell) there) in
    let k = sums_tell G.dimension M.base h.graph.dimension n s.k t.k s.dimension t.dimension sums in
    let cell : w.cell ≡ x.cell = s.sum ∙ (λ l. plus (same.1 l) (times (pos M.m) (k l))) ∙ sym t.sum in
    λ l. vertex (same.0 l) (cell l)

-- If the images are as many as the vertices up to the shifts, and no image is another moved, each vertex is met.

-- the image of a place
abbrev pub image_of : PeriodicMap → Vertex → Vertex
image_of M w = M.image w.over w.cell

-- a vector is another and their difference
pub sum_of_difference : (a b s : Vector) → minus a b ≡ s → a ≡ plus b s
sum_of_difference a b s e = sym (plus_minus b a) ∙ ap (plus b) e

-- the images are apart, up to the shifts
pub images_apart : {G H : Graph} {M : PeriodicMap} {f : Vertex → Vertex} → IsMapOf G H M f → HasNoDouble G M
    → Injects (IsBoxVertex G M.m) AreSameVertex (IsVertex H) (AreMovedCopies H.dimension M.base) (image_of M)
images_apart {G} {H} {M} {f} h a = record {
  into = λ w p. h.table.into w.over w.cell p.over p.box;
  once = λ w x p q c.
      let o = c.over in
      let e = sum_of_difference (image_of M w).cell (image_of M x).cell (base_sum M.base c.cell.k) c.cell.sum in
      let s = a w.over x.over w.cell x.cell p.over q.over p.box q.box (record {
        k = c.cell.k;
        dimension = subst (λ (d : ℕ). HasDimension d c.cell.k) (sym h.same) c.cell.dimension;
        is = λ i. vertex (o i) (e i);
      }) in
      λ i. vertex (s.0 i) (s.1 i);
}

-- a power of a positive number is positive
power_positive : (d m : ℕ) → (d ≡ 2) ⊎ (d ≡ 3) → 1 ≤ m → 1 ≤ m ^ d
power_positive d m c h = subst (λ (n : ℕ). 1 ≤ n) (box_is_power d m c) (size_positive d m c h)

-- a product of positive numbers is not 0
not_nothing : (n p v q : ℕ) → 1 ≤ n → 1 ≤ p → n * p ≡ v * q → q ≡ 0 → ⊥
not_nothing n p v q h k e z = let s = e ∙ ap (λ (t : ℕ). v * t) z in grind (arith, s, h, k)

-- the determinant of the shifts is not 0
pub determinant_not_zero : {G H : Graph} {M : PeriodicMap} {f : Vertex → Vertex} → IsMapOf G H M f → CountsAgree G H M → determinant G.dimension M.base ≢ pos 0
determinant_not_zero {G} {H} {M} {f} h c e = grind (arith, not_nothing, power_positive)

-- the opposite shift
opposite_shift : (b : Base) (k : Vector) → base_sum b (minus zero_vector k) ≡ minus zero_vector (base_sum b k)
opposite_shift b k = base_sum_minus b zero_vector k ∙ ap (λ (v : Vector). minus v (base_sum b k)) (base_sum_zero b)

-- y = a + (0 - s) if a - y = s
back_part : (a y s : ℤ) → a -ℤ y ≡ s → a +ℤ (pos 0 -ℤ s) ≡ y
back_part a y s e = omega (arith, linear, e)

-- the same of vectors
back_vector : (a y s : Vector) → minus a y ≡ s → plus a (minus zero_vector s) ≡ y
back_vector a y s e = vector_equal (back_part a.x y.x s.x (ap (λ (v : Vector). v.x) e)) (back_part a.y y.y s.y (ap (λ (v : Vector). v.y) e))
    (back_part a.z y.z s.z (ap (λ (v : Vector). v.z) e))

-- each vertex is met
pub met : {G H : Graph} {M : PeriodicMap} {f : Vertex → Vertex} → IsMapOf G H M f → CountsAgree G H M → HasNoDouble G M
    → (y : Vertex) → IsVertex H y → (w : Vertex) × IsVertex G w × (f w ≡ y)
met {G} {H} {M} {f} h c a y j = by
    (meets_each (IsBoxVertex G M.m) AreSameVertex (IsVertex H) (AreMovedCopies H.dimension M.base) (G.vertices * M.m ^ G.dimension)
    (place_numbers G M.m h.graph.dimension h.table.positive)
    (subst (Numbering (IsVertex H) (AreMovedCopies H.dimension M.base)) (sym c')
    (copy_numbers H M.base h.other.dimension (flat_shifts h) (subst (λ (d : ℕ). determinant d M.base ≢ pos 0) h.same (determinant_not_zero h c))))
    (image_of M) (images_apart h a) y j)
  where
    c' : G.vertices * M.m ^ G.dimension ≡ H.vertices * index_of H.dimension M.base
    c' = c ∙ ap (λ (d : ℕ). H.vertices * index_of d M.base) h.same

    by : (w : Vertex) × IsBoxVertex G M.m w × AreMovedCopies H.dimension M.base (image_of M w) y → (w : Vertex) × IsVertex G w × (f w ≡ y)
    by r =
        let w = r.0 in let p = r.1 in let s = r.2 in let k = minus zero_vector s.cell.k in
        let dk = minus_dimension G.dimension zero_vector s.cell.k (λ _. refl) (subst (λ (d : ℕ). HasDimension d s.cell.k) (sym h.same) s.cell.dimension) in
        let o = s.over in
        let cell = ap (plus (image_of M w).cell) (opposite_shift M.base s.cell.k)
        ∙ back_vector (image_of M w).cell y.cell (base_sum M.base s.cell.k) s.cell.sum in (
          vertex w.over (plus w.cell (times (pos M.m) k)),
          moved_vertex G w (times (pos M.m) k) (place_vertex w p) (times_dimension G.dimension (pos M.m) k dk),
          h.drawn w.over w.cell k p.over p.box dk ∙ (λ i. vertex (o i) (cell i)),
        )

-- so the map is a bijection
pub bijection_of_count : {G H : Graph} {M : PeriodicMap} {f : Vertex → Vertex} → IsMapOf G H M f → CountsAgree G H M → HasNoDouble G M → IsBijection G H f
bijection_of_count {G} {H} {M} {f} h c a = record {
  into = (periodic_of_drawn G H M f h.table h.drawn).into;
  once = one_to_one h (determinant_not_zero h c) a;
  onto = met h c a;
}

-- parts of the box that differ by a multiple of m are equal
box_part : (m : ℕ) (x y k : ℤ) → pos 0 ≤ℤ x → x <ℤ pos m → pos 0 ≤ℤ y → y <ℤ pos m → x ≡ y +ℤ pos m *ℤ k → x ≡ y
box_part m x y k a b c d e =
    let p = natural_part x (pos m) a b in let q = natural_part y (pos m) c d in
    let s = same_remainder (pos m) (unsigned_abs x) (unsigned_abs y) k p.1 q.1 (sym p.0 ∙ e ∙ ap (λ (t : ℤ). t +ℤ pos m *ℤ k) q.0) in
    p.0 ∙ ap pos s.0 ∙ sym q.0

-- the same of vectors
pub same_in_box : (d m : ℕ) (r s k : Vector) → IsInBox d m r → IsInBox d m s → r ≡ plus s (times (pos m) k) → r ≡ s
same_in_box d m r s k a b e = search (arith, vector_equal, box_part)

-- no image is another, moved
pub no_double : {G H : Graph} {M : PeriodicMap} {f : Vertex → Vertex} → IsMapOf G H M f → IsBijection G H f → HasNoDouble G M
no_double {G} {H} {M} {f} h b u v r s i j p q c =
    let t = vertex v (plus s (times (pos M.m) c.k)) in
    let e = b.once (vertex u r) t (record { over = i; cell = p.dimension })
    (moved_vertex G (vertex v s) (times (pos M.m) c.k) (record { over = j; cell = q.dimension }) (times_dimension G.dimension (pos M.m) c.k c.dimension))
    (at_place h (vertex u r) (record { over = i; box = p }) ∙ c.is ∙ sym (h.drawn v s c.k j q c.dimension)) in
    (ap (λ (y : Vertex). y.over) e, same_in_box G.dimension M.m r s c.k p q (ap (λ (y : Vertex). y.cell) e))

-- a positive number is not 0
not_zero : (m : ℕ) → 1 ≤ m → pos m ≢ pos 0
not_zero m h e = omega (arith, ints)

-- only the combination with numbers 0 is 0
pub only_nothing : {G H : Graph} {M : PeriodicMap} {f : Vertex → Vertex} → IsMapOf G H M f → IsBijection G H f → (k : Vector) → HasDimension G.dimension k
    → base_sum M.base k ≡ zero_vector → k ≡ zero_vector
only_nothing {G} {H} {M} {f} h b k d e =
    let o = origin_vertex G 1 (omega arith, h.graph.vertices) in
    let p = periodic_of_drawn G H M f h.table h.drawn in let w = vertex 1 zero_vector in
    let same = b.once (moved w (times (pos M.m) k)) w
    (moved_vertex G w (times (pos M.m) k) o (times_dimension G.dimension (pos M.m) k d)) o
    (p.repeats w k o d ∙ ap (moved (f w)) e ∙ ap (vertex (f w).over) (plus_zero (f w).cell)) in
    times_cancel (pos M.m) k zero_vector (not_zero M.m h.table.positive)
    (sym (zero_plus (times (pos M.m) k)) ∙ ap (λ (y : Vertex). y.cell) same ∙ sym (times_zero (pos M.m)))

-- sums of three, grouped
pub grouped : (x y z : ℤ) → x +ℤ y +ℤ z ≡ pos 0 → x +ℤ (y +ℤ z) ≡ pos 0
grouped x y z e = omega (arith, linear, e)

-- the last number of a relation of flat vectors and (0, 0, 1)
last_zero : (x y z a b : ℤ) → a ≡ pos 0 → b ≡ pos 0 → x *ℤ a +ℤ y *ℤ b +ℤ z *ℤ pos 1 ≡ pos 0 → z ≡ pos 0
last_zero x y z a b e f g =
    let u = ap (λ (t : ℤ). x *ℤ t) e in let v = ap (λ (t : ℤ). y *ℤ t) f in
    omega (arith, linear, simp ring at u, simp ring at v, simp ring at g)

-- only numbers 0 make 0
abbrev OnlyNothing : Base → ℕ → Type 0
OnlyNothing b d = AreFlat d b → ((k : Vector) → HasDimension d k → base_sum b k ≡ zero_vector → k ≡ zero_vector) → determinant d b ≢ pos 0

-- in dimension 3
full_determinant : (b : Base) → OnlyNothing b 3
full_determinant b _ only e =
    let r = relation_of_zero b.first.x b.first.y b.first.z b.second.x b.second.y b.second.z b.third.x b.third.y b.third.z
    (sym (product_is_determinant b.first.x b.first.y b.first.z b.second.x b.second.y b.second.z b.third.x b.third.y b.third.z) ∙ e) in
    let z = only (vector r.x r.y r.z) (λ n. absurd (omega arith))
    (vector_equal (grouped (r.x *ℤ b.first.x) (r.y *ℤ b.second.x) (r.z *ℤ b.third.x) r.first)
    (grouped (r.x *ℤ b.first.y) (r.y *ℤ b.second.y) (r.z *ℤ b.third.y) r.second) (grouped (r.x *ℤ b.first.z) (r.y *ℤ b.second.z) (r.z *ℤ b.third.z) r.third)) in
    r.some (ap (λ (v : Vector). v.x) z, ap (λ (v : Vector). v.y) z, ap (λ (v : Vector). v.z) z)

-- in dimension 2
flat_determinant : (b : Base) → OnlyNothing b 2
flat_determinant b f only e =
    let r = relation_of_zero b.first.x b.first.y b.first.z b.second.x b.second.y b.second.z (pos 0) (pos 0) (pos 1)
    (sym (product_is_determinant b.first.x b.first.y b.first.z b.second.x b.second.y b.second.z (pos 0) (pos 0) (pos 1)) ∙ e) in
    let last = last_zero r.x r.y r.z b.first.z b.second.z (f refl).0 (f refl).1 r.third in
    let z = only (vector r.x r.y r.z) (λ _. last)
    (any_last b.first b.second b.third up_vector (vector r.x r.y r.z) last
    ∙ vector_equal (grouped (r.x *ℤ b.first.x) (r.y *ℤ b.second.x) (r.z *ℤ pos 0) r.first)
    (grouped (r.x *ℤ b.first.y) (r.y *ℤ b.second.y) (r.z *ℤ pos 0) r.second) (grouped (r.x *ℤ b.first.z) (r.y *ℤ b.second.z) (r.z *ℤ pos 1) r.third)) in
    r.some (ap (λ (v : Vector). v.x) z, ap (λ (v : Vector). v.y) z, ap (λ (v : Vector). v.z) z)

-- by the dimension
determinant_by : (d : ℕ) (b : Base) → (d ≡ 2) ⊎ (d ≡ 3) → OnlyNothing b d
determinant_by d b h = grind (arith, flat_determinant, full_determinant)

-- the determinant of the shifts is not 0
pub determinant_of_bijection : {G H : Graph} {M : PeriodicMap} {f : Vertex → Vertex} → IsMapOf G H M f → IsBijection G H f
    → determinant G.dimension M.base ≢ pos 0
determinant_of_bijection {G} {H} {M} {f} h b = determinant_by G.dimension M.base h.graph.dimension (λ e. flat_shifts h (sym h.same ∙ e)) (only_nothing h b)

-- If the map is a bijection, the images are as many as the vertices up to the shifts.

-- moves from one vector differ as the moves do
difference_vector : (p a b : Vector) → minus (plus p a) (plus p b) ≡ minus a b
difference_vector p a b = search (arith, plus_commutative, minus_shifted)

-- two numbers that are not less than each other
pub equal_numbers : (a b : ℕ) → a ≤ b → b ≤ a → a ≡ b
equal_numbers a b h k = omega arith

module _ {G H : Graph} {M : PeriodicMap} {f : Vertex → Vertex} (h : IsMapOf G H M f) (b : IsBijection G H f) where
  -- the vertices up to the shifts
  copies : Numbering (IsVertex H) (AreMovedCopies H.dimension M.base) (H.vertices * index_of H.dimension M.base)
  copies = copy_numbers H M.base h.other.dimension (flat_shifts h) (subst (λ (d : ℕ). determinant d M.base ≢ pos 0) h.same (determinant_of_bijection h b))

  -- the places
  places : Numbering (IsBoxVertex G M.m) AreSameVertex (G.vertices * M.m ^ G.dimension)
  places = place_numbers G M.m h.graph.dimension h.table.positive

  -- the vertex that goes to y, as a place and a move
  abbrev split : (y : Vertex) (j : IsVertex H y) → InBox G.dimension M.m (b.onto y j).0.cell
  split y j = in_box G.dimension M.m h.table.positive (b.onto y j).0.cell (b.onto y j).1.cell

  -- its place
  abbrev place : (y : Vertex) → IsVertex H y → Vertex
  place y j = vertex (b.onto y j).0.over (split y j).r

  -- y is the image of the place, moved
  image_moved : (y : Vertex) (j : IsVertex H y) → y ≡ moved (image_of M (place y j)) (base_sum M.base (split y j).k)
  image_moved y j =
      sym (b.onto y j).2 ∙ ap (λ (v : Vector). f (vertex (b.onto y j).0.over v)) (split y j).sum
      ∙ h.drawn (b.onto y j).0.over (split y j).r (split y j).k (b.onto y j).1.over (split y j).box (split y j).dimension

  -- vertices of one place are moved copies
  copies_of_place : (x y : Vertex) (i : IsVertex H x) (j : IsVertex H y) → place x i ≡ place y j → AreMovedCopies H.dimension M.base x y
  copies_of_place x y i j e =
      let p = image_moved x i in
      let q = image_moved y j ∙ ap (λ (w : Vertex). moved (image_of M w) (base_sum M.base (split y j).k)) (sym e) in
      record {
        over = ap (λ (w : Vertex). w.over)
            (p ∙ ap (λ (w : Vertex). vertex (image_of M w).over (plus (image_of M (place x i)).cell (base_sum M.base (split x i).k))) e)
            ∙ sym (ap (λ (w : Vertex). w.over) (image_moved y j));
        cell = record {
          k = minus (split x i).k (split y j).k;
          dimension = subst (λ (d : ℕ). HasDimension d (minus (split x i).k (split y j).k)) h.same
              (minus_dimension G.dimension (split x i).k (split y j).k (split x i).dimension (split y j).dimension);
          sum = (λ t. minus (p t).cell (q t).cell) ∙ difference_vector (image_of M (place x i)).cell (base_sum M.base (split x i).k)
              (base_sum M.base (split y j).k)
              ∙ sym (base_sum_minus M.base (split x i).k (split y j).k);
        };
      }

  -- the counts agree
  pub count_of_bijection : CountsAgree G H M
  count_of_bijection =
      let n = H.vertices * index_of H.dimension M.base in
      equal_numbers (G.vertices * M.m ^ G.dimension) n
      (no_fewer (IsBoxVertex G M.m) AreSameVertex (IsVertex H) (AreMovedCopies H.dimension M.base) (G.vertices * M.m ^ G.dimension) n places copies
      (image_of M) (images_apart h (no_double h b)))
      (no_fewer_given (IsVertex H) (AreMovedCopies H.dimension M.base) (IsBoxVertex G M.m) AreSameVertex n (G.vertices * M.m ^ G.dimension) copies places place
      (λ y j. record { over = (b.onto y j).1.over; box = (split y j).box }) copies_of_place)
      ∙ ap (λ (d : ℕ). H.vertices * index_of d M.base) (sym h.same)

-- the shifts, m times
abbrev scaled : ℤ → Base → Base
scaled m b = record { first = times m b.first; second = times m b.second; third = times m b.third }

-- a part of their sum
scaled_part : (m x y z a b c : ℤ) → x *ℤ (m *ℤ a) +ℤ (y *ℤ (m *ℤ b) +ℤ z *ℤ (m *ℤ c)) ≡ m *ℤ (x *ℤ a +ℤ (y *ℤ b +ℤ z *ℤ c))
scaled_part m x y z a b c = simp ring (omega (arith, linear))

-- their sum
scaled_sum : (m : ℤ) (b : Base) (k : Vector) → base_sum (scaled m b) k ≡ times m (base_sum b k)
scaled_sum m b k = simp (vector_equal, scaled_part)

-- what is not 0 has a size
pub nonzero_size : (z : ℤ) → z ≢ pos 0 → 1 ≤ unsigned_abs z
nonzero_size z h = search arith

module _ {G H : Graph} {M : PeriodicMap} {f : Vertex → Vertex} (h : IsMapOf G H M f) (b : IsBijection G H f) where
  -- the vertex that goes to y
  abbrev back_by : (y : Vertex) → Dec (IsVertex H y) → Vertex
  back_by y (yes j) = (b.onto y j).0
  back_by y (no n) = y

  -- the map back
  abbrev back : Vertex → Vertex
  back y = back_by y (is_vertex_decided H y)

  -- it is so
  back_is : (y : Vertex) → IsVertex H y → IsVertex G (back y) × (f (back y) ≡ y)
  back_is y j = search (arith, is_vertex_decided)

  -- the shifts that undo
  abbrev undo : Undoing G.dimension M.base
  undo = undoing G.dimension M.base h.graph.dimension (λ e. flat_shifts h (sym h.same ∙ e))

  -- the period of the map back
  abbrev size : ℕ
  size = index_of G.dimension M.base

  -- the map back repeats
  back_repeats : (y : Vertex) (k : Vector) → IsVertex H y → HasDimension H.dimension k
      → back (moved y (times (pos size) k)) ≡ moved (back y) (base_sum (scaled (pos M.m) undo.rows) k)
  back_repeats y k j d =
      let dk : HasDimension G.dimension k = subst (λ (n : ℕ). HasDimension n k) (sym h.same) d in
      let p = periodic_of_drawn G H M f h.table h.drawn in let x = back y in let i = back_is y j in
      let s = base_sum undo.rows k in let ds = undo.dimension k dk in let z = moved y (times (pos size) k) in
      let q = back_is z (moved_vertex H y (times (pos size) k) j (times_dimension H.dimension (pos size) k d)) in
      b.once (back z) (moved x (times (pos M.m) s)) q.0 (moved_vertex G x (times (pos M.m) s) i.0 (times_dimension G.dimension (pos M.m) s ds))
      (q.1 ∙ sym (p.repeats x s i.0 ds ∙ (λ t. moved (i.1 t) (undo.is k dk t))))
      ∙ ap (moved x) (sym (scaled_sum (pos M.m) undo.rows k))

  -- an isomorphism
  pub iso_of_bijection : JoinsAlike G H f → Iso G H
  iso_of_bijection alike = record {
    dimension = h.same;
    there = f;
    back = back;
    there_period = (M.m, M.base, periodic_of_drawn G H M f h.table h.drawn);
    back_period = (
      size,
      scaled (pos M.m) undo.rows,
      record {
        positive = nonzero_size (determinant G.dimension M.base) (determinant_of_bijection h b);
        into = λ y j. (back_is y j).0;
        repeats = back_repeats;
      },
    );
    back_there = λ w i. let q = back_is (f w) (b.into w i) in b.once (back (f w)) w q.0 i q.1;
    there_back = λ x j. (back_is x j).1;
    there_joins = λ w x i j. (alike w x i j).0;
    back_joins = λ w x i j a.
        let p = back_is w i in let q = back_is x j in
        (alike (back w) (back x) p.0 q.0).1 (subst (λ (t : Type 0). t) (sym (λ l. AreJoined H (p.1 l) (q.1 l))) a);
  }

  -- it is the map
  pub iso_there : (alike : JoinsAlike G H f) → (iso_of_bijection alike).there ≡ f
  unfolding iso_of_bijection
  iso_there alike = refl
