-- The vertices in the box and their places: each undoes the other. And the cells of the box, one after the other.
use Rattle.std.proofs.Common.{◌≡◌, ◌⊎◌, ℕ, suc, zero, ◌+◌, ◌-◌, ◌*◌, ◌/◌, ◌%◌, ◌^◌, ◌<◌, ◌≤◌, ◌<ℤ◌, ◌≤ℤ◌, pos, refl, sym, ap, ◌∙◌, arith, ◌∷◌, subst, ◌≢◌}
use Rattle.std.proofs.Common.{ℤ, ◌+ℤ◌, ◌-ℤ◌, ◌*ℤ◌, FitsSigned, unsigned_abs, true, false}
use Rattle.std.proofs.lemmas.Nat.{div_below, div-mul-add, mod-mul-add}
use Rattle.std.{proofs.lemmas.Int.ints, proofs.lemmas.Int.fits_signed_from_abs, proofs.Math.Decide.ℕ_discrete, proofs.Math.Decide.dec_lt, specs.Int.w64}
use Rattle.std.{specs.Int.Signed.lt_z}
use native.Mathlib.Numerals.{unary_clauses}
use Prim.{Dec, yes, no}
use Rattle.integers.specs.Vectors.{Vector, parts, minus, HasDimension, vector}
use Rattle.integers.proofs.counting.Numbering.{made_again, remainder_below, turned_below, pairs, Numbering, Pair, pair, Both, Each, along}
use Rattle.integers.{specs.Bases.Base, proofs.numbers.Ring.ring, proofs.numbers.Ring.linear, proofs.vectors.Laws.vector_equal}
use Rattle.integers.{proofs.vectors.Bounds.bounded_sum, proofs.vectors.Bounds.bounded_difference, proofs.lists.ListOrder.below_one_way}
use Rattle.integers.{proofs.lists.ListOrder.not_below_itself, proofs.vectors.Directions.below_head, proofs.vectors.Directions.below_rest}
use Rattle.sublattice.proofs.Numbers.{first_below, second_below, third_below, number_back, number_below, product_positive, vector_there, vectors_rise}
use Rattle.sublattice.proofs.Numbers.{natural_part}
use Rattle.sublattice.specs.Sublattices.{determinant, index_of, AreFlat, IsCombination}
use Rattle.sublattice.proofs.CallerLemmas.{class_numbers, DifferBy}
use Rattle.periodic_net.specs.Graph.{Graph, Vertex, IsQuotientVertex, vertex, IsVertex}
use Rattle.periodic_net.specs.Maps.{IsInBox}
use Rattle.map_check.specs.Layouts.{last_side, box_size, cell_place, place_of, cell_at, vertex_at, ComesBefore}
use Rattle.map_check.specs.Tables.{IsBoxVertex}

-- a power with one factor taken out
power_more : (m n : ℕ) → m ^ suc n ≡ m * m ^ n
power_more m n = simp unary_clauses (omega arith)

-- m^0
power_none : (m : ℕ) → m ^ zero ≡ 1
power_none m = simp unary_clauses refl

-- m^2
power_two : (m : ℕ) → m * (m * 1) ≡ m ^ 2
power_two m = sym (power_more m 1 ∙ ap (λ (n : ℕ). m * n) (power_more m 0) ∙ ap (λ (n : ℕ). m * (m * n)) (power_none m))

-- m^3
power_three : (m : ℕ) → m * (m * m) ≡ m ^ 3
power_three m = search (arith, power_more, power_two)

-- the number of cells is a power of the side
pub box_is_power : (d m : ℕ) → (d ≡ 2) ⊎ (d ≡ 3) → box_size d m ≡ m ^ d
box_is_power d m h = search (arith, power_two, power_three)

-- the last side is positive
pub side_positive : (d m : ℕ) → (d ≡ 2) ⊎ (d ≡ 3) → 1 ≤ m → 1 ≤ last_side d m
side_positive d m k l = search arith

-- a number below the last side is a third part
last_below : (d m n : ℕ) → (d ≡ 2) ⊎ (d ≡ 3) → 1 ≤ m → n < last_side d m → (n < m) × (d ≡ 2 → n ≡ 0)
last_below d m n p q r = search arith

-- and a third part is below it
third_part : (d m : ℕ) (r : Vector) → (d ≡ 2) ⊎ (d ≡ 3) → IsInBox d m r → unsigned_abs r.z < last_side d m
third_part d m r h k = search (arith, natural_part)

-- a box with a vector has a side
pub side_of_vector : {d m : ℕ} {r : Vector} → IsInBox d m r → 1 ≤ m
side_of_vector {d} {m} {r} b = let l = b.low.0 in let h = b.high.0 in omega (arith, ints, l, h)

-- a number is from 0 to below
from_zero : (n : ℕ) → pos 0 ≤ℤ pos n
from_zero n = omega (arith, ints)

-- the same of whole numbers
to_below : (n m : ℕ) → n < m → pos n <ℤ pos m
to_below n m l = omega (arith, ints)

module _ (d m : ℕ) (c : (d ≡ 2) ⊎ (d ≡ 3)) (h : 1 ≤ m) where
  s : 1 ≤ last_side d m
  s = side_positive d m c h

  -- the cell at a place is in the box
  pub cell_in_box : (i : ℕ) → i < box_size d m → IsInBox d m (cell_at d m i)
  cell_in_box i l = grind (arith, last_below, third_below, s, from_zero, to_below, first_below, second_below)

  -- its place is that one
  pub place_of_cell : (i : ℕ) → cell_place d m (cell_at d m i) ≡ i
  place_of_cell i = number_back m (last_side d m) h s i

  module _ (r : Vector) (b : IsInBox d m r) where
    x : (r.x ≡ pos (unsigned_abs r.x)) × (unsigned_abs r.x < m)
    x = natural_part r.x (pos m) b.low.0 b.high.0

    y : (r.y ≡ pos (unsigned_abs r.y)) × (unsigned_abs r.y < m)
    y = natural_part r.y (pos m) b.low.1 b.high.1

    z : r.z ≡ pos (unsigned_abs r.z)
    z = (natural_part r.z (pos m) b.low.2 b.high.2).0

    -- the place of a cell of the box is below its size
    pub cell_below : cell_place d m r < box_size d m
    cell_below =
        number_below m (last_side d m) h s m (unsigned_abs r.x) (unsigned_abs r.y) (unsigned_abs r.z) x.1 y.1
        (third_part d m r c b)

    -- the cell at its place is that cell
    pub cell_again : cell_at d m (cell_place d m r) ≡ r
    cell_again =
        vector_there m (last_side d m) h s (unsigned_abs r.x) (unsigned_abs r.y) (unsigned_abs r.z) y.1 (third_part d m r c b)
        ∙ vector_equal (sym x.0) (sym y.0) (sym z)

  -- the size of the box is positive
  pub size_positive : 1 ≤ box_size d m
  size_positive = product_positive m (m * last_side d m) h (product_positive m (last_side d m) h s)

module _ (G : Graph) (m : ℕ) (c : (G.dimension ≡ 2) ⊎ (G.dimension ≡ 3)) (h : 1 ≤ m) where
  positive : 1 ≤ box_size G.dimension m
  positive = size_positive G.dimension m c h

  -- the vertex at a place is in the box
  pub vertex_in_box : (i : ℕ) → i < G.vertices * box_size G.dimension m → IsBoxVertex G m (vertex_at G.dimension m i)
  vertex_in_box i l = grind (arith, div_below, positive, cell_in_box, remainder_below)

  -- its place is that one
  pub place_of_vertex : (i : ℕ) → place_of G.dimension m (vertex_at G.dimension m i) ≡ i
  place_of_vertex i =
      ap (λ (t : ℕ). t * box_size G.dimension m + cell_place G.dimension m (cell_at G.dimension m (i % box_size G.dimension m)))
      (one_less (i / box_size G.dimension m))
      ∙ ap (λ (t : ℕ). (i / box_size G.dimension m) * box_size G.dimension m + t) (place_of_cell G.dimension m c h (i % box_size G.dimension m))
      ∙ made_again i (box_size G.dimension m) positive
    where
      one_less : (n : ℕ) → n + 1 - 1 ≡ n
      one_less n = omega arith

  -- the place of a vertex in the box is below their number
  pub place_below : (w : Vertex) → IsBoxVertex G m w → place_of G.dimension m w < G.vertices * box_size G.dimension m
  place_below w b =
      turned_below (w.over - 1) (cell_place G.dimension m w.cell) G.vertices (box_size G.dimension m)
      (let o = b.over.0 in let k = b.over.1 in omega (arith, o, k)) (cell_below G.dimension m c h w.cell b.box)

  -- the vertex at its place is that vertex
  pub vertex_again : (w : Vertex) → IsBoxVertex G m w → vertex_at G.dimension m (place_of G.dimension m w) ≡ w
  vertex_again w b = search (arith, cell_below, div-mul-add, mod-mul-add, cell_again)

-- The places of the vertices in the box rise with the vertices.

-- numbers in a mixed base
mixed_order : (i j n : ℕ) → 1 ≤ n → i < j → (i / n < j / n → ⊥) → (i / n ≡ j / n) × (i % n < j % n)
mixed_order i j n h l no_less = grind (arith, made_again, remainder_below, dec_lt)

module _ (G : Graph) (m : ℕ) (c : (G.dimension ≡ 2) ⊎ (G.dimension ≡ 3)) (h : 1 ≤ m) where
  -- vertices rise with their places
  places_rise : (i j : ℕ) → i < j → ComesBefore (vertex_at G.dimension m i) (vertex_at G.dimension m j)
  places_rise i j l = by (dec_lt (i / n) (j / n))
    where
      n : ℕ
      n = box_size G.dimension m

      first : ℕ → ℕ
      first t = t / box_size G.dimension m + 1

      cell : ℕ → Vector
      cell t = cell_at G.dimension m (t % box_size G.dimension m)

      less : (u v : ℕ) → u < v → pos (u + 1) <ℤ pos (v + 1)
      less u v l = omega (arith, ints, l)

      by : Dec (i / n < j / n) → ComesBefore (vertex_at G.dimension m i) (vertex_at G.dimension m j)
      by (yes k) = below_head (pos (first i)) (pos (first j)) (parts 3 (cell i)) (parts 3 (cell j)) (less (i / n) (j / n) k)
      by (no k) =
          let o = mixed_order i j n (size_positive G.dimension m c h) l k in
          below_rest (pos (first i)) (pos (first j)) (parts 3 (cell i)) (parts 3 (cell j)) (ap (λ (t : ℕ). pos (t + 1)) o.0)
          (vectors_rise m (last_side G.dimension m) h (side_positive G.dimension m c h) (i % n) (j % n) o.1)

  -- a lesser place is that of an earlier vertex
  pub earlier_of_place : (w x : Vertex) → IsBoxVertex G m w → IsBoxVertex G m x → place_of G.dimension m w < place_of G.dimension m x → ComesBefore w x
  earlier_of_place w x b b' l =
      subst (λ (v : Vertex). ComesBefore v x) (vertex_again G m c h w b)
      (subst (ComesBefore (vertex_at G.dimension m (place_of G.dimension m w))) (vertex_again G m c h x b')
      (places_rise (place_of G.dimension m w) (place_of G.dimension m x) l))

  -- and the other way
  pub place_of_earlier : (w x : Vertex) → IsBoxVertex G m w → IsBoxVertex G m x → ComesBefore w x → place_of G.dimension m w < place_of G.dimension m x
  place_of_earlier w x b b' before = by (dec_lt (place_of G.dimension m w) (place_of G.dimension m x))
      (ℕ_discrete (place_of G.dimension m w) (place_of G.dimension m x))
    where
      by : Dec (place_of G.dimension m w < place_of G.dimension m x) → Dec (place_of G.dimension m w ≡ place_of G.dimension m x)
          → place_of G.dimension m w < place_of G.dimension m x
      by (yes less) e = less
      by (no n) (yes e) =
          let same : w ≡ x = sym (vertex_again G m c h w b) ∙ ap (vertex_at G.dimension m) e ∙ vertex_again G m c h x b' in
          absurd (not_below_itself (pos x.over ∷ parts 3 x.cell) (subst (λ (y : Vertex). ComesBefore y x) same before))
      by (no n) (no e) = absurd (below_one_way (pos w.over ∷ parts 3 w.cell) (pos x.over ∷ parts 3 x.cell) before
          (earlier_of_place x w b' b (omega (arith, n, e))))

-- The vertices in the box are numbered, and the vertices up to the shifts of a map.

-- equality of vertices
abbrev pub AreSameVertex : Vertex → Vertex → Type 0
AreSameVertex w x = w ≡ x

-- one is the other, moved by a whole combination of the shifts
pub record AreMovedCopies (d : ℕ) (b : Base) (w x : Vertex) : Type 0 where
  pub over : w.over ≡ x.over
  pub cell : IsCombination d b (minus w.cell x.cell)

-- the vertices in the box have their places as numbers
pub place_numbers : (G : Graph) (m : ℕ) → (G.dimension ≡ 2) ⊎ (G.dimension ≡ 3) → 1 ≤ m
    → Numbering (IsBoxVertex G m) AreSameVertex (G.vertices * m ^ G.dimension)
place_numbers G m c h =
    subst (λ (n : ℕ). Numbering (IsBoxVertex G m) AreSameVertex (G.vertices * n)) (box_is_power G.dimension m c)
    (record {
      code = place_of G.dimension m;
      below = place_below G m c h;
      same = λ w x b b' e. sym (vertex_again G m c h w b) ∙ ap (vertex_at G.dimension m) e ∙ vertex_again G m c h x b';
      alike = λ w x b b' e. ap (place_of G.dimension m) e;
      of = vertex_at G.dimension m;
      is = vertex_in_box G m c h;
      again = λ i l. place_of_vertex G m c h i;
    })

-- equality of numbers
abbrev AreEqualNumbers : ℕ → ℕ → Type 0
AreEqualNumbers u v = u ≡ v

-- the numbers from 1 to n
quotient_numbers : (n : ℕ) → Numbering (λ (u : ℕ). (1 ≤ u) × (u ≤ n)) AreEqualNumbers n
quotient_numbers n = record {
  code = λ u. u - 1;
  below = λ u h. let a = h.0 in let b = h.1 in omega arith;
  same = λ u v h k e. let a = h.0 in let b = k.0 in omega arith;
  alike = λ u v h k e. ap (λ (t : ℕ). t - 1) e;
  of = λ i. suc i;
  is = λ i l. (omega arith, omega arith);
  again = λ i l. omega arith;
}

-- a vertex as a pair
abbrev pair_of : Vertex → Pair ℕ Vector
pair_of w = pair w.over w.cell

-- and back
abbrev vertex_of : Pair ℕ Vector → Vertex
vertex_of t = vertex t.left t.right

-- the vertices up to the shifts
pub copy_numbers : (H : Graph) (b : Base) → (H.dimension ≡ 2) ⊎ (H.dimension ≡ 3) → AreFlat H.dimension b → determinant H.dimension b ≢ pos 0
    → Numbering (IsVertex H) (AreMovedCopies H.dimension b) (H.vertices * index_of H.dimension b)
copy_numbers H b d f n =
    along (IsVertex H) (AreMovedCopies H.dimension b) (Both (IsQuotientVertex H) (HasDimension H.dimension))
    (Each AreEqualNumbers (DifferBy (IsCombination H.dimension b)))
    (H.vertices * index_of H.dimension b)
    (pairs (IsQuotientVertex H) AreEqualNumbers (HasDimension H.dimension) (DifferBy (IsCombination H.dimension b)) H.vertices (index_of H.dimension b)
    (quotient_numbers H.vertices)
    (class_numbers H.dimension b d f n))
    pair_of
    (record { into = λ w p. record { left = p.over; right = p.cell }; once = λ w x p q e. record { over = e.left; cell = e.right } })
    (λ w x p q e. record { left = e.over; right = e.cell }) vertex_of
    (λ t b. record { over = b.left; cell = b.right })
    (λ t q. let c = class_numbers H.dimension b d f n in record { left = refl; right = c.same t.right t.right q.right q.right refl })

-- What holds at each place below a number, with one place more.

-- one more
pub each_more : (P : ℕ → Type 0) (n : ℕ) → ((i : ℕ) → i < n → P i) → P n → (i : ℕ) → i < n + 1 → P i
each_more P n h new i l = search arith

-- Parts of cells of the box fit in 64 bits.

-- a part is small
pub part_small : (z : ℤ) (m : ℕ) → m ≤ 512 → pos 0 ≤ℤ z → z <ℤ pos m → unsigned_abs z ≤ 512
part_small z m b l h = let p = (natural_part z (pos m) l h).1 in omega (arith, p, b)

-- small numbers fit
pub small_fits : (z : ℤ) → unsigned_abs z ≤ 2 ^ 22 → FitsSigned w64 z
small_fits z h = fits_signed_from_abs w64 z (omega arith)

-- a part fits
pub part_fits : (z : ℤ) (m : ℕ) → m ≤ 512 → pos 0 ≤ℤ z → z <ℤ pos m → FitsSigned w64 z
part_fits z m b l h = small_fits z (let p = part_small z m b l h in omega (arith, p))

-- sums and differences of small numbers fit
pub sum_fits : (a b : ℤ) → unsigned_abs a ≤ 2 ^ 20 → unsigned_abs b ≤ 2 ^ 20 → FitsSigned w64 (a +ℤ b)
sum_fits a b h k = small_fits (a +ℤ b) (let p = bounded_sum a b (2 ^ 20) (2 ^ 20) h k in omega (arith, p))

pub difference_fits : (a b c : ℤ) → unsigned_abs a ≤ 2 ^ 20 → unsigned_abs b ≤ 2 ^ 20 → unsigned_abs c ≤ 2 ^ 20 → FitsSigned w64 (a +ℤ b -ℤ c)
difference_fits a b c h k l = search (arith, small_fits, bounded_difference, bounded_sum)

-- a wider bound
pub wide : (z : ℤ) (n : ℕ) → n ≤ 2 ^ 20 → unsigned_abs z ≤ n → unsigned_abs z ≤ 2 ^ 20
wide z n l h = omega (arith, l, h)

-- once more m further
pub once_more : (part rest steps m : ℤ) → part +ℤ (rest +ℤ m *ℤ steps) ≡ (part +ℤ rest -ℤ m) +ℤ m *ℤ (steps +ℤ pos 1)
once_more part rest steps m = simp ring (omega (arith, linear))

-- steps fit
pub steps_fit : (z : ℤ) (n : ℕ) → n ≤ 2 ^ 20 → unsigned_abs z ≤ n → FitsSigned w64 z
steps_fit z n l h = small_fits z (let p = wide z n l h in omega (arith, p))

-- what a test says
pub below_of_test : (a b : ℤ) → lt_z a b ≡ true → a <ℤ b
below_of_test a b e = grind (arith, ints)

pub not_below_of_test : (a b : ℤ) → lt_z a b ≡ false → a <ℤ b → ⊥
not_below_of_test a b e h = grind (arith, ints)

-- The cell after a cell, and the last one.

-- the next number in a row, in a layer, and in the next layer
next_number : (x y z m n p : ℕ) → x * (m * n) + (y * n + z) ≡ p → p + 1 ≡ x * (m * n) + (y * n + (z + 1))
next_number x y z m n p e = omega (arith, e)

-- in the next row
next_row : (x y z m n p : ℕ) → z + 1 ≡ n → x * (m * n) + (y * n + z) ≡ p → p + 1 ≡ x * (m * n) + ((y + 1) * n + 0)
next_row x y z m n p d e = omega (arith, d, e)

-- in the next layer
next_layer : (x y z m n p : ℕ) → z + 1 ≡ n → y + 1 ≡ m → x * (m * n) + (y * n + z) ≡ p → p + 1 ≡ (x + 1) * (m * n) + (0 * n + 0)
next_layer x y z m n p d b e = let f = ap (λ (t : ℕ). t * n) b in omega (arith, d, e, f)

-- one more
one_more : (n : ℕ) → pos (n + 1) ≡ pos n +ℤ pos 1
one_more n = omega (arith, ints)

-- no more is the last
last_one : (z n : ℕ) → z < n → ((pos z +ℤ pos 1) <ℤ pos n → ⊥) → z + 1 ≡ n
last_one z n l h = search (arith, dec_lt)

-- one more is below
below_side : (z n : ℕ) → (pos z +ℤ pos 1) <ℤ pos n → z + 1 < n
below_side z n h = omega (arith, ints, h)

module _ (d m : ℕ) (c : (d ≡ 2) ⊎ (d ≡ 3)) (h : 1 ≤ m) (cell : Vector) (i : ℕ) (e : cell ≡ cell_at d m i) where
  -- the parts of the cell
  abbrev x_part : ℕ
  x_part = i / (m * last_side d m)

  abbrev y_part : ℕ
  y_part = i % (m * last_side d m) / last_side d m

  abbrev z_part : ℕ
  z_part = i % (m * last_side d m) % last_side d m

  number : x_part * (m * last_side d m) + (y_part * last_side d m + z_part) ≡ i
  number = number_back m (last_side d m) h (s d m c h) i

  y_below : y_part < m
  y_below = second_below m (last_side d m) h (s d m c h) i

  z_below : z_part < last_side d m
  z_below = third_below m (last_side d m) h (s d m c h) i

  -- a cell by its number
  at_number : (a b t : ℕ) → b < m → t < last_side d m → i + 1 ≡ a * (m * last_side d m) + (b * last_side d m + t)
      → vector (pos a) (pos b) (pos t) ≡ cell_at d m (i + 1)
  at_number a b t k l f = sym (ap (cell_at d m) f ∙ vector_there m (last_side d m) h (s d m c h) a b t k l)

  -- where the row goes on
  pub next_in_row : (cell.z +ℤ pos 1) <ℤ pos (last_side d m) → vector cell.x cell.y (cell.z +ℤ pos 1) ≡ cell_at d m (i + 1)
  next_in_row l =
      let k = below_side z_part (last_side d m) (subst (λ (v : Vector). (v.z +ℤ pos 1) <ℤ pos (last_side d m)) e l) in
      (λ t. vector (e t).x (e t).y ((e t).z +ℤ pos 1)) ∙ ap (vector (pos x_part) (pos y_part)) (sym (one_more z_part))
      ∙ at_number x_part y_part (z_part + 1) y_below k (next_number x_part y_part z_part m (last_side d m) i number)

  module _ (l : (cell.z +ℤ pos 1) <ℤ pos (last_side d m) → ⊥) where
    row_ends : z_part + 1 ≡ last_side d m
    row_ends = last_one z_part (last_side d m) z_below (subst (λ (v : Vector). (v.z +ℤ pos 1) <ℤ pos (last_side d m) → ⊥) e l)

    -- where it ends
    pub next_in_layer : (cell.y +ℤ pos 1) <ℤ pos m → vector cell.x (cell.y +ℤ pos 1) (pos 0) ≡ cell_at d m (i + 1)
    next_in_layer k =
        let b = below_side y_part m (subst (λ (v : Vector). (v.y +ℤ pos 1) <ℤ pos m) e k) in
        (λ t. vector (e t).x ((e t).y +ℤ pos 1) (pos 0)) ∙ ap (λ (w : ℤ). vector (pos x_part) w (pos 0)) (sym (one_more y_part))
        ∙ at_number x_part (y_part + 1) 0 b (s d m c h) (next_row x_part y_part z_part m (last_side d m) i row_ends number)

    -- where the layer ends
    pub next_in_box : ((cell.y +ℤ pos 1) <ℤ pos m → ⊥) → vector (cell.x +ℤ pos 1) (pos 0) (pos 0) ≡ cell_at d m (i + 1)
    next_in_box k =
        let b = last_one y_part m y_below (subst (λ (v : Vector). (v.y +ℤ pos 1) <ℤ pos m → ⊥) e k) in
        (λ t. vector ((e t).x +ℤ pos 1) (pos 0) (pos 0)) ∙ ap (λ (w : ℤ). vector w (pos 0) (pos 0)) (sym (one_more x_part))
        ∙ at_number (x_part + 1) 0 0 h (s d m c h) (next_layer x_part y_part z_part m (last_side d m) i row_ends b number)

-- the vertex at a place over u
pub vertex_over : (d m : ℕ) (u p : ℕ) → 1 ≤ u → p < box_size d m → vertex_at d m ((u - 1) * box_size d m + p) ≡ vertex u (cell_at d m p)
vertex_over d m u p h l = search (arith, div-mul-add, mod-mul-add)

-- what holds of the vertices over the first v, and of those over the next in the first p cells
pub each_until : (P : Vertex → Type 0) (d m v p : ℕ) → p ≤ box_size d m → ((i : ℕ) → i < v * box_size d m → P (vertex_at d m i))
    → ((q : ℕ) → q < p → P (vertex (v + 1) (cell_at d m q)))
    → (i : ℕ) → i < v * box_size d m + p → P (vertex_at d m i)
each_until P d m v p l h k i b = by (dec_lt i (v * box_size d m))
  where
    by : Dec (i < v * box_size d m) → P (vertex_at d m i)
    by (yes below) = h i below
    by (no above) =
        let q : i - v * box_size d m < p = omega (arith, above, b) in
        let e : (v + 1 - 1) * box_size d m + (i - v * box_size d m) ≡ i = before v (box_size d m) i above in
        subst (λ (j : ℕ). P (vertex_at d m j)) e
        (subst P (sym (vertex_over d m (v + 1) (i - v * box_size d m) (omega arith) (omega (arith, q, l)))) (k (i - v * box_size d m) q))
      where
        before : (v s i : ℕ) → (i < v * s → ⊥) → (v + 1 - 1) * s + (i - v * s) ≡ i
        before v s i a = let e : v + 1 - 1 ≡ v = omega arith in rw e (omega (arith, a))

-- the vertex at a place over the next
pub vertex_next : (d m v p : ℕ) → p < box_size d m → vertex_at d m (v * box_size d m + p) ≡ vertex (v + 1) (cell_at d m p)
vertex_next d m v p l =
    let e : v ≡ v + 1 - 1 = omega arith in
    ap (λ (u : ℕ). vertex_at d m (u * box_size d m + p)) e ∙ vertex_over d m (v + 1) p (omega arith) l

-- what holds of the vertices over one more
pub each_next : (P : Vertex → Type 0) (d m v : ℕ) → ((i : ℕ) → i < v * box_size d m → P (vertex_at d m i))
    → ((q : ℕ) → q < box_size d m → P (vertex (v + 1) (cell_at d m q)))
    → (i : ℕ) → i < (v + 1) * box_size d m → P (vertex_at d m i)
each_next P d m v h k i b = each_until P d m v (box_size d m) (omega arith) h k i (subst (λ (n : ℕ). i < n) (more v (box_size d m)) b)
  where
    more : (v s : ℕ) → (v + 1) * s ≡ v * s + s
    more v s = omega arith
