-- Numbers of vertices up to a lattice are equal if and only if the vertices differ by a member; and what holds while numbers are marked.
use Rattle.std.proofs.Common.{◌≡◌, ◌<◌, ℕ, ◌+◌, List, Bool, length, slice_index_or, sym, ap, subst, ◌∙◌, arith, ◌-◌, ◌*◌, ◌≤◌, [], ◌∷◌, ◌++◌}
use Rattle.std.proofs.lemmas.List.{get_or_append_left, get_or_default, length-append}
use Rattle.std.specs.Prelude.{Result, Ok, Err, Option, None, Some, IfOk, MatchOption}
use Rattle.std.{proofs.Math.Decide.ℕ_discrete, proofs.Math.Seq.get_or-append_seam, specs.List.All}
use Prim.{Dec, yes, no}
use Rattle.integers.specs.Vectors.{Vector, minus, zero_vector, plus}
use Rattle.integers.{specs.Bases.Base, specs.Bases.base_sum, proofs.counting.Numbering.parts_same, proofs.counting.Numbering.turned_below}
use Rattle.integers.{proofs.vectors.Laws.minus_dimension, proofs.vectors.Laws.minus_plus}
use Rattle.vecdim.specs.Stairs.{Stairs, HasStairShape, size_of}
use Rattle.vecdim.specs.Lattices.{Members}
use Rattle.sublattice.specs.Remainders.{HasNumber, number_of, remainder_with}
use Rattle.sublattice.{specs.Laws.AreNumbered, specs.Sublattices.HasMembersOf, specs.Sublattices.IsCombination, proofs.CallerLemmas.remainders_numbered}
use Rattle.sublattice.{proofs.CallerLemmas.tell_classes}
use Rattle.periodic_net.specs.Graph.{Vertex, vertex}
use Rattle.map_check.specs.Repeats.{AreApartBefore, AreMarked, IsFirstRepeat}
use Rattle.map_check.specs.Images.{image_at, AreNumbersOf, IsCopy, AreNoCopies, IsFirstCopy}
use Rattle.map_check.{specs.Numbers.IsImageNumber, specs.Conditions.IsImage, proofs.Bijections.sum_of_difference}

-- what holds between two turns of the loop
pub record IsScanned (xs : List ℕ) (n : ℕ) (marks : List Bool) : Type 0 where
  pub marked : AreMarked xs n marks
  pub apart : AreApartBefore xs n

module _ (d : ℕ) (S : Stairs) (shape : HasStairShape d S) where
  remainders : AreNumbered d S
  remainders = remainders_numbered d S shape

  -- the number of a cell is below the size of the lattice
  cell_below : (v : Vector) (n : ℕ) → HasNumber d S v n → n < size_of S
  cell_below v n h = subst (λ (t : ℕ). t < size_of S) (sym h.is) (remainders.below h.r h.remainder.remainder)

  -- cells of one number differ by a member
  same_cell : (v w : Vector) (n m : ℕ) → HasNumber d S v n → HasNumber d S w m → n ≡ m → Members d S (minus v w)
  same_cell v w n m h k e =
      (tell_classes.same d S v w h.r k.r h.remainder k.remainder).0
      (sym (remainders.there h.r h.remainder.remainder) ∙ ap (remainder_with S) (sym h.is ∙ e ∙ k.is) ∙ remainders.there k.r k.remainder.remainder)

  -- and the other way
  alike_cell : (v w : Vector) (n m : ℕ) → HasNumber d S v n → HasNumber d S w m → Members d S (minus v w) → n ≡ m
  alike_cell v w n m h k i = h.is ∙ ap (number_of S) ((tell_classes.same d S v w h.r k.r h.remainder k.remainder).1 i) ∙ sym k.is

  -- vertices of one number
  pub same_image : (x y : Vertex) (n m : ℕ) → 1 ≤ x.over → 1 ≤ y.over → IsImageNumber d S x n → IsImageNumber d S y m → n ≡ m
      → (x.over ≡ y.over) × Members d S (minus x.cell y.cell)
  same_image x y n m a b h k e =
      let s = parts_same (size_of S) (x.over - 1) h.number (y.over - 1) k.number (cell_below x.cell h.number h.of_cell) (cell_below y.cell k.number k.of_cell)
      (sym h.is ∙ e ∙ k.is) in
      (again x.over y.over a b s.0, same_cell x.cell y.cell h.number k.number h.of_cell k.of_cell s.1)
    where
      again : (u v : ℕ) → 1 ≤ u → 1 ≤ v → u - 1 ≡ v - 1 → u ≡ v
      again u v a b e = omega arith

  -- and the other way
  pub alike_image : (x y : Vertex) (n m : ℕ) → IsImageNumber d S x n → IsImageNumber d S y m → x.over ≡ y.over → Members d S (minus x.cell y.cell) → n ≡ m
  alike_image x y n m h k o i =
      let e = alike_cell x.cell y.cell h.number k.number h.of_cell k.of_cell i in
      h.is ∙ (λ j. (o j - 1) * size_of S + e j) ∙ sym k.is

  -- a number is below the count of all
  pub image_below : (x : Vertex) (n v : ℕ) → 1 ≤ x.over → x.over ≤ v → IsImageNumber d S x n → n < v * size_of S
  image_below x n v a b h =
      subst (λ (t : ℕ). t < v * size_of S) (sym h.is)
      (turned_below (x.over - 1) h.number v (size_of S) (omega arith) (cell_below x.cell h.number h.of_cell))

-- Images have one number if and only if one is the other, moved by the shifts.

-- the difference of a sum and its first vector
difference_of_sum : (a b s : Vector) → a ≡ plus b s → minus a b ≡ s
difference_of_sum a b s e = ap (λ (v : Vector). minus v b) e ∙ minus_plus b s

module _ (d v : ℕ) (S : Stairs) (b : Base) (shape : HasStairShape d S) (a : HasMembersOf d S b) where
  -- images of one number
  copy_of_number : (x y : Vertex) (n m : ℕ) → IsImage d v x → IsImage d v y → IsImageNumber d S x n → IsImageNumber d S y m → n ≡ m → IsCopy d b x y
  copy_of_number x y n m i j p q e =
      let s = same_image d S shape x y n m i.from j.from p q e in
      let w = (a (minus x.cell y.cell) s.1.1).0 s.1.0 in let over = s.0 in
      let cell = sum_of_difference x.cell y.cell (base_sum b w.k) w.sum in
      record { k = w.k; dimension = w.dimension; is = λ t. vertex (over t) (cell t) }

  -- and the other way
  number_of_copy : (x y : Vertex) (n m : ℕ) → IsImage d v x → IsImage d v y → IsImageNumber d S x n → IsImageNumber d S y m → IsCopy d b x y → n ≡ m
  number_of_copy x y n m i j p q c =
      let w : IsCombination d b (minus x.cell y.cell) =
      record { k = c.k; dimension = c.dimension; sum = difference_of_sum x.cell y.cell (base_sum b c.k) (ap (λ (z : Vertex). z.cell) c.is) } in
      let flat = minus_dimension d x.cell y.cell i.flat j.flat in
      alike_image d S shape x y n m p q (ap (λ (z : Vertex). z.over) c.is) ((a (minus x.cell y.cell) flat).1 w, flat)

  module _ (images : List Vertex) (numbers : List ℕ) (each : All (IsImage d v) images) (h : AreNumbersOf d S images numbers (length images)) where
    -- the image at a place
    is_image : (i : ℕ) → i < length images → IsImage d v (image_at images i)
    is_image i l = each i (vertex 0 zero_vector) l

    -- if no number repeats, no image is a copy
    pub no_copies : (n : ℕ) → n ≤ length images → AreApartBefore numbers n → AreNoCopies d b images n
    no_copies n m apart i j l k c = grind (arith, number_of_copy, is_image)

    -- and the first repeat is the first copy
    pub first_copy : (j : ℕ) → IsFirstRepeat numbers j → IsFirstCopy d b images j
    first_copy j r =
        let c = h.count in let inside : j < length images = (let i = r.inside in omega (arith, i, c)) in
        let s = r.earlier in let l = s.before in
        record {
          inside = inside;
          earlier = s.at;
          before = s.before;
          copy = copy_of_number (image_at images j) (image_at images s.at) (slice_index_or numbers j 0) (slice_index_or numbers s.at 0) (is_image j inside)
              (is_image s.at (omega (arith, l, inside)))
              (h.each j inside) (h.each s.at (omega (arith, l, inside))) (sym s.is);
          none = no_copies j (omega (arith, inside)) r.first;
        }

-- the numbers are below their count
pub numbers_below : (d v size : ℕ) (S : Stairs) → HasStairShape d S → (images : List Vertex) (numbers : List ℕ) → All (IsImage d v) images
    → AreNumbersOf d S images numbers (length images)
    → size_of S ≡ size → length images ≡ v * size → (i : ℕ) → i < length numbers → slice_index_or numbers i 0 < length numbers
numbers_below d v size S shape images numbers each h e f i l = grind (arith, image_below)

-- what the numbers say of the images, if they are looked through
pub copies_found : {E : Type 0} (d v : ℕ) (S : Stairs) (b : Base) → HasStairShape d S → HasMembersOf d S b → (images : List Vertex) (numbers : List ℕ)
    → All (IsImage d v) images
    → AreNumbersOf d S images numbers (length images) → (found : Result (Option ℕ) E)
    → IfOk found (λ f. MatchOption f (AreApartBefore numbers (length numbers)) (IsFirstRepeat numbers))
    → IfOk found (λ f. MatchOption f (AreNoCopies d b images (length images)) (IsFirstCopy d b images))
copies_found d v S b shape a images numbers each h (Ok None) t = no_copies d v S b shape a images numbers each h (length images) (omega arith)
    (subst (AreApartBefore numbers) h.count t)
copies_found d v S b shape a images numbers each h (Ok (Some j)) t = first_copy d v S b shape a images numbers each h j t
copies_found d v S b shape a images numbers each h (Err e) t = tt

-- one more number
pub numbers_more : (d : ℕ) (S : Stairs) (images : List Vertex) (numbers more : List ℕ) (n number : ℕ) (x : Vertex) → n < length images
    → x ≡ slice_index_or images n x
    → more ≡ numbers ++ number ∷ [] → AreNumbersOf d S images numbers n → IsImageNumber d S x number → AreNumbersOf d S images more (n + 1)
numbers_more d S images numbers more n number x l e p h i = record {
  count = ap length p ∙ length-append numbers (number ∷ []) ∙ ap (λ (k : ℕ). k + 1) h.count;
  each = λ j k. by j k (ℕ_discrete j n);
}
  where
    by : (j : ℕ) → j < n + 1 → Dec (j ≡ n) → IsImageNumber d S (image_at images j) (slice_index_or more j 0)
    by j k (yes same) =
        let image : x ≡ image_at images j = e ∙ get_or_default images n x (vertex 0 zero_vector) l ∙ ap (image_at images) (sym same) in
        let new : number ≡ slice_index_or more j 0 =
        sym (get_or-append_seam numbers number [] 0) ∙ (λ t. slice_index_or (sym p t) ((h.count ∙ sym same) t) 0) in
        subst (λ (y : Vertex). IsImageNumber d S y (slice_index_or more j 0)) image (subst (IsImageNumber d S x) new i)
    by j k (no other) =
        let old : slice_index_or numbers j 0 ≡ slice_index_or more j 0 =
        sym (get_or_append_left numbers (number ∷ []) 0 j (let c = h.count in omega (arith, k, other, c)))
        ∙ ap (λ (xs : List ℕ). slice_index_or xs j 0) (sym p) in
        subst (IsImageNumber d S (image_at images j)) old (h.each j (omega (arith, k, other)))
