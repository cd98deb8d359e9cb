-- The images of the first vertices of a box, one after the other, and where each stands.
use Rattle.std.proofs.Common.{◌≡◌, ℕ, ◌≤◌, ℤ, pos, ◌+ℤ◌, ◌*ℤ◌, sym, ap, subst, ◌∙◌, arith, zero, suc, ◌+◌, ◌*◌, ◌<◌, length, get_or, List, [], ◌∷◌, ◌++◌}
use Rattle.std.proofs.Common.{map, ◌⊎◌, ◌-◌, cond, ◌==◌}
use Rattle.std.proofs.lemmas.List.{length-append, length-map, map-append}
use Rattle.std.proofs.lemmas.List.FromFn.{fill_by_all, length-range_with_len, map-range_with_len_more}
use Rattle.std.specs.{List.flat_map, List.range_with_len, Prelude.unsigned_abs}
use Rattle.integers.specs.Vectors.{Vector, plus, minus, HasDimension, vector, IsWithin}
use Rattle.integers.proofs.numbers.Ring.{linear, other_factor_zero, positive_not_zero}
use Rattle.integers.proofs.lists.Members.{in_map, in_pieces, range_in, IsIn}
use Rattle.integers.{specs.Bases.Base, specs.Bases.base_sum, proofs.vectors.Laws.minus_dimension, proofs.vectors.Laws.vector_equal}
use Rattle.periodic_net.specs.Graph.{IsQuotientVertex, Vertex, vertex, IsVertex, Graph, IsGraph}
use Rattle.periodic_net.specs.Placement.{base, position, IsStablePlacement}
use Rattle.periodic_net.{specs.Maps.IsInBox, proofs.CallerLemmas.positions_tell, proofs.placements.Positions.place_dimension}
use Rattle.standard_map.specs.Sides.{NetSide, HaveOneKey, IsStandardBy}
use Rattle.standard_map.specs.MapNumbers.{below, box_cells, box_vertices, entries_of}
use Rattle.standard_map.{proofs.EdgeTurns.image_from, proofs.CallerLemmas.some_map, specs.Standing.StandsSomewhere, specs.Turns.AreImageCells}
use Rattle.standard_map.{specs.Ends.End, specs.Ends.IsEnd}
use Rattle.sublattice.proofs.Numbers.{natural_part}
use Rattle.map_check.specs.Layouts.{last_side, box_size, cell_place, place_of, vertex_at}
use Rattle.map_check.proofs.CallerLemmas.{box_is_power, place_of_vertex, vertex_in_box}
use Rattle.map_check.specs.Tables.{IsBoxVertex}
use Rattle.net_certificate.specs.Tables.{IsImageOf, AreFirstImages, AreImages}

module _ (S T : NetSide) (k : HaveOneKey S T) where
  -- the place of the image of w
  abbrev pub image_place : End → Base → Vertex → Vector
  image_place e C w = plus (plus (base T.net.placement T.origin) e.at) (base_sum C (minus w.cell e.shift))

  -- it stands there
  stands_there : (e : End) → IsEnd S T e → (C : Base) → AreImageCells S T C → (w : Vertex) → IsVertex S.net.graph w → e.over ≡ w.over
      → (carry : Vertex → Vertex) → IsStandardBy S T carry
      → position T.net.placement (carry w) ≡ image_place e C w
  stands_there e i C c w j o carry s =
      let G = S.net.graph in let q = T.net.placement in
      ap (λ u. position q (carry (vertex u w.cell))) (sym o)
      ∙ image_from G T.net.graph q carry C (c carry s).0 e.over e.shift w.cell i.is_vertex (minus_dimension G.dimension w.cell e.shift j.cell i.is_vertex.cell)
      ∙ ap (λ t. plus t (base_sum C (minus w.cell e.shift))) (i.at carry s)

  -- so some vertex does
  pub some_stands : (e : End) → IsEnd S T e → (C : Base) → AreImageCells S T C → (w : Vertex) → IsVertex S.net.graph w → e.over ≡ w.over → (place : Vector)
      → place ≡ image_place e C w
      → StandsSomewhere T.net place
  some_stands e i C c w j o place p =
      let f = some_map S T k in
      record { at = f.0 w; is_vertex = f.1.standard.into w j; stands = stands_there e i C c w j o f.0 f.1 ∙ sym p }

  -- the placement is stable
  stable : IsStablePlacement T.net.graph T.net.placement
  stable = subst (IsStablePlacement T.net.graph) k.same_there.placement k.there.shape.stable

  -- what stands at a flat place stands in a flat cell
  flat_cell : (v : ℕ) (t : Vector) → IsQuotientVertex T.net.graph v → (x : Vertex) → IsVertex T.net.graph x
      → position T.net.placement (vertex v t) ≡ position T.net.placement x → HasDimension T.net.graph.dimension t
  flat_cell v t i x j e d =
      let b = stable.placement.barycentric in
      let p = place_dimension T.net.graph T.net.placement b.dimension x j d in
      no_part (base T.net.placement v).z t.z T.net.placement.denominator b.positive (b.dimension v i d) (ap (λ (s : Vector). s.z) e ∙ p)
    where
      no_part : (a z : ℤ) (n : ℕ) → 1 ≤ n → a ≡ pos 0 → a +ℤ pos n *ℤ z ≡ pos 0 → z ≡ pos 0
      no_part a z n l e f = other_factor_zero (pos n) z (sym (none (pos n *ℤ z)) ∙ ap (λ s. s +ℤ pos n *ℤ z) (sym e) ∙ f) (positive_not_zero n l)
        where
          none : (z : ℤ) → pos 0 +ℤ z ≡ z
          none z = omega (arith, linear)

  -- what stands there is the image
  pub image_is : (e : End) → IsEnd S T e → (C : Base) → AreImageCells S T C → (w : Vertex) → IsVertex S.net.graph w → e.over ≡ w.over → (v : ℕ) (t : Vector)
      → IsQuotientVertex T.net.graph v
      → position T.net.placement (vertex v t) ≡ image_place e C w → IsImageOf S T w (vertex v t)
  image_is e i C c w j o v t q p carry s =
      let x = s.standard.into w j in let same = p ∙ sym (stands_there e i C c w j o carry s) in
      positions_tell T.net.graph T.net.placement stable.no_collision (vertex v t) (carry w)
      (record { over = q; cell = flat_cell v t q (carry w) x same }) x same

-- x stands at place i
abbrev pub At : {X : Type 0} → List X → ℕ → X → Type 0
At [] i x = ⊥
At (y ∷ ys) zero x = y ≡ x
At (y ∷ ys) (suc i) x = At ys i x

-- so it is read there
pub read_at : {X : Type 0} (xs : List X) (i : ℕ) (x d : X) → At xs i x → get_or xs i d ≡ x
read_at [] i x d h = absurd h
read_at (y ∷ ys) zero x d h = h
read_at (y ∷ ys) (suc i) x d h = read_at ys i x d h

-- an image stands at the place of what it is the image of
pub at_map : {X Y : Type 0} (f : X → Y) (xs : List X) (i : ℕ) (x : X) → At xs i x → At (map f xs) i (f x)
at_map f [] i x h = absurd h
at_map f (y ∷ ys) zero x h = ap f h
at_map f (y ∷ ys) (suc i) x h = at_map f ys i x h

-- the places of the first of two lists
pub at_left : {X : Type 0} (xs ys : List X) (i : ℕ) (x : X) → At xs i x → At (xs ++ ys) i x
at_left [] ys i x h = absurd h
at_left (z ∷ xs) ys zero x h = h
at_left (z ∷ xs) ys (suc i) x h = at_left xs ys i x h

-- and those of the second
pub at_right : {X : Type 0} (xs ys : List X) (i k : ℕ) (x : X) → k ≡ length xs + i → At ys i x → At (xs ++ ys) k x
at_right [] ys i k x e h = subst (λ (n : ℕ). At ys n x) (omega (arith, e)) h
at_right (z ∷ xs) ys i zero x e h = absurd (omega (arith, e))
at_right (z ∷ xs) ys i (suc k) x e h = at_right xs ys i k x (omega (arith, e)) h

-- the numbers of a range stand in order
pub at_range : (a n i : ℕ) → i < n → At (range_with_len a n) i (a + i)
at_range a zero i l = absurd (omega arith)
at_range a (suc n) zero l = omega arith
at_range a (suc n) (suc i) l = subst (At (range_with_len (a + 1) n) i) (moved a i) (at_range (a + 1) n i (omega arith))
  where
    moved : (a i : ℕ) → a + 1 + i ≡ a + suc i
    moved a i = omega arith

-- so do those from 0
pub at_below : (n i : ℕ) → i < n → At (range_with_len 0 n) i i
at_below n i l = subst (At (range_with_len 0 n) i) (none i) (at_range 0 n i l)
  where
    none : (i : ℕ) → 0 + i ≡ i
    none i = omega arith

module _ {X : Type 0} (g : ℕ → List X) (k : ℕ) (each : (u : ℕ) → length (g u) ≡ k) where
  -- pieces of one length, as often
  pub pieces_length : (a n : ℕ) → length (flat_map g (range_with_len a n)) ≡ n * k
  pieces_length a zero = omega arith
  pieces_length a (suc n) =
      let e = length-append (g a) (flat_map g (range_with_len (a + 1) n)) in let f = each a in
      let r = pieces_length (a + 1) n in
      e ∙ omega (arith, more n k, f, r)
    where
      more : (n k : ℕ) → suc n * k ≡ k + n * k
      more n k = grind arith

  -- place j of piece i
  pub at_piece : (a n i j : ℕ) (x : X) → i < n → At (g (a + i)) j x → At (flat_map g (range_with_len a n)) (i * k + j) x
  at_piece a zero i j x l h = absurd (omega arith)
  at_piece a (suc n) zero j x l h =
      subst (λ (t : ℕ). At (flat_map g (range_with_len a (suc n))) t x) (none k j)
      (at_left (g a) (flat_map g (range_with_len (a + 1) n)) j x (subst (λ (t : ℕ). At (g t) j x) (origin a) h))
    where
      none : (k j : ℕ) → j ≡ 0 * k + j
      none k j = omega arith

      origin : (a : ℕ) → a + 0 ≡ a
      origin a = omega arith
  at_piece a (suc n) (suc i) j x l h =
      at_right (g a) (flat_map g (range_with_len (a + 1) n)) (i * k + j) (suc i * k + j) x (more i k j (length (g a)) (each a))
      (at_piece (a + 1) n i j x (omega arith) (subst (λ (t : ℕ). At (g t) j x) (moved a i) h))
    where
      more : (i k j l : ℕ) → l ≡ k → suc i * k + j ≡ l + (i * k + j)
      more i k j l e = grind (arith, e)

      moved : (a i : ℕ) → a + suc i ≡ a + 1 + i
      moved a i = omega arith

  -- the same of pieces that are counted from 0
  pub at_piece_below : (n i j : ℕ) (x : X) → i < n → At (g i) j x → At (flat_map g (range_with_len 0 n)) (i * k + j) x
  at_piece_below n i j x l h = search (arith, at_piece)

-- The vertices of a box, and where they stand in their list.

-- the third parts of the cells
abbrev lasts : ℕ → ℕ → List ℕ
lasts d m = cond (d == 2) (0 ∷ []) (below m)

-- they are the numbers below the last side
lasts_are : (d m : ℕ) → (d ≡ 2) ⊎ (d ≡ 3) → lasts d m ≡ below (last_side d m)
lasts_are d m h = search arith

module _ (d m : ℕ) (c : (d ≡ 2) ⊎ (d ≡ 3)) where
  -- a row of cells
  abbrev row : ℕ → ℕ → List Vector
  row x y = map (λ z. vector (pos x) (pos y) (pos z)) (lasts d m)

  row_length : (x y : ℕ) → length (row x y) ≡ last_side d m
  row_length x y = length-map (lasts d m) (λ z. vector (pos x) (pos y) (pos z)) ∙ ap length (lasts_are d m c) ∙ length-range_with_len 0 (last_side d m)

  -- a layer of them
  abbrev layer : ℕ → List Vector
  layer x = flat_map (row x) (below m)

  layer_length : (x : ℕ) → length (layer x) ≡ m * last_side d m
  layer_length x = pieces_length (row x) (last_side d m) (row_length x) 0 m

  -- the box has its size
  pub cells_length : length (box_cells d m) ≡ box_size d m
  cells_length = pieces_length layer (m * last_side d m) layer_length 0 m

  -- a cell stands at its place
  pub cell_stands : (x y z : ℕ) → x < m → y < m → z < last_side d m
      → At (box_cells d m) (x * (m * last_side d m) + (y * last_side d m + z)) (vector (pos x) (pos y) (pos z))
  cell_stands x y z i j k =
      let last : At (lasts d m) z z = subst (λ (zs : List ℕ). At zs z z) (sym (lasts_are d m c)) (at_below (last_side d m) z k) in
      at_piece_below layer (m * last_side d m) layer_length m x (y * last_side d m + z) (vector (pos x) (pos y) (pos z)) i
      (at_piece_below (row x) (last_side d m) (row_length x) m y z (vector (pos x) (pos y) (pos z)) j
      (at_map (λ z. vector (pos x) (pos y) (pos z)) (lasts d m) z z last))

  -- the cells of the list are in the box
  pub cells_in_box : (r : Vector) → IsIn (box_cells d m) r → IsInBox d m r
  cells_in_box r h =
      let x = in_pieces _ (below m) r h in let y = in_pieces _ (below m) r x.2 in let z = in_map _ _ r y.2 in
      subst (IsInBox d m) z.2 (inside x.0 y.0 z.0 (range_in 0 m x.0 x.1) (range_in 0 m y.0 y.1)
      (range_in 0 (last_side d m) z.0 (subst (λ (zs : List ℕ). IsIn zs z.0) (lasts_are d m c) z.1)) c)
    where
      inside : (x y z : ℕ) → (0 ≤ x) × (x < 0 + m) → (0 ≤ y) × (y < 0 + m) → (0 ≤ z) × (z < 0 + last_side d m) → (d ≡ 2) ⊎ (d ≡ 3)
          → IsInBox d m (vector (pos x) (pos y) (pos z))
      inside x y z h k l u = grind arith

module _ (G : Graph) (m : ℕ) (c : (G.dimension ≡ 2) ⊎ (G.dimension ≡ 3)) where
  piece_length : (u : ℕ) → length (map (vertex u) (box_cells G.dimension m)) ≡ box_size G.dimension m
  piece_length u = length-map (box_cells G.dimension m) (vertex u) ∙ cells_length G.dimension m c

  -- the vertices of the box are so many
  pub box_length : length (box_vertices G m) ≡ entries_of G m
  box_length = grind (arith, pieces_length, piece_length, box_is_power)

  -- they are vertices in the box
  pub box_inside : (w : Vertex) → IsIn (box_vertices G m) w → IsBoxVertex G m w
  box_inside w h =
      let u = in_pieces _ (range_with_len 1 G.vertices) w h in let r = in_map _ _ w u.2 in
      let b = range_in 1 G.vertices u.0 u.1 in
      subst (IsBoxVertex G m) r.2 (record { over = (b.0, omega arith); box = cells_in_box G.dimension m c r.0 r.1 })

  -- a vertex in the box stands at its place
  pub vertex_stands : (w : Vertex) → IsBoxVertex G m w → At (box_vertices G m) (place_of G.dimension m w) w
  vertex_stands w b =
      let d = G.dimension in let r = w.cell in let x = natural_part r.x (pos m) b.box.low.0 b.box.high.0 in
      let y = natural_part r.y (pos m) b.box.low.1 b.box.high.1 in
      let z = natural_part r.z (pos m) b.box.low.2 b.box.high.2 in
      let cell = vector_equal (sym x.0) (sym y.0) (sym z.0) in let low = b.over.0 in let high = b.over.1 in
      let stands = subst (At (box_cells d m) (cell_place d m r)) cell (cell_stands d m c (unsigned_abs r.x) (unsigned_abs r.y) (unsigned_abs r.z) x.1 y.1
      (third_below d m r c b.box z.1)) in
      let at = at_map (vertex w.over) (box_cells d m) (cell_place d m r) r stands in
      at_piece (λ u. map (vertex u) (box_cells d m)) (box_size d m) piece_length 1 G.vertices (w.over - 1) (cell_place d m r) w (omega (arith, low, high))
      (subst (λ (u : ℕ). At (map (vertex u) (box_cells d m)) (cell_place d m r) w) (again w.over low) at)
    where
      again : (n : ℕ) → 1 ≤ n → n ≡ 1 + (n - 1)
      again n l = omega (arith, l)

      third_below : (d m : ℕ) (r : Vector) → (d ≡ 2) ⊎ (d ≡ 3) → IsInBox d m r → unsigned_abs r.z < m → unsigned_abs r.z < last_side d m
      third_below d m r h k p = search arith

-- the vertices of a box by their places
box_list : (G : Graph) (m : ℕ) → IsGraph G → 1 ≤ m → box_vertices G m ≡ map (vertex_at G.dimension m) (range_with_len 0 (G.vertices * box_size G.dimension m))
box_list G m g h =
    let d = G.dimension in
    let count = box_length G m g.dimension ∙ sym (ap (λ n. G.vertices * n) (box_is_power d m g.dimension)) in
    fill_by_all (vertex_at d m) (box_vertices G m) (G.vertices * box_size d m) (vertex_at d m 0) count (λ i l.
    read_at (box_vertices G m) i (vertex_at d m i) (vertex_at d m 0)
    (subst (λ t. At (box_vertices G m) t (vertex_at d m i)) (place_of_vertex G m g.dimension h i)
    (vertex_stands G m g.dimension (vertex_at d m i) (vertex_in_box G m g.dimension h i l))))

module _ (S T : NetSide) (m : ℕ) where
  -- one image more
  pub one_more : (n : ℕ) (xs ys : List Vertex) (x : Vertex) → AreFirstImages S T m n xs → IsImageOf S T (vertex_at S.net.graph.dimension m n) x
      → ys ≡ xs ++ x ∷ []
      → AreFirstImages S T m (n + 1) ys
  one_more n xs ys x h i e carry s =
      let v = vertex_at S.net.graph.dimension m in let old = h carry s in let new = i carry s in
      e ∙ (λ t. old t ++ new t ∷ []) ∙ sym (map-append carry (map v (range_with_len 0 n)) (v n ∷ []))
      ∙ ap (map carry) (sym (map-range_with_len_more v 0 n n (omega arith)))

  -- the images of all
  pub all_images : IsGraph S.net.graph → 1 ≤ m → (n : ℕ) (xs : List Vertex) → n ≡ S.net.graph.vertices * box_size S.net.graph.dimension m
      → AreFirstImages S T m n xs → AreImages S T m xs
  all_images g h n xs e f carry s =
      f carry s ∙ ap (λ k. map carry (map (vertex_at S.net.graph.dimension m) (range_with_len 0 k))) e ∙ ap (map carry) (sym (box_list S.net.graph m g h))

-- a vertex at a place of a box is near cell 0
pub place_inside : (G : Graph) (d m n i : ℕ) → IsGraph G → G.dimension ≡ d → 1 ≤ m → m ≤ n → i < G.vertices * box_size d m → (w : Vertex) → w ≡ vertex_at d m i
    → IsVertex G w × IsWithin n w.cell
place_inside G d m n i g e h l k w f =
    let b = subst (IsBoxVertex G m) (ap (λ t. vertex_at t m i) e ∙ sym f)
    (vertex_in_box G m g.dimension h i (subst (λ t. i < G.vertices * box_size t m) (sym e) k)) in
    let r = w.cell in let x = (natural_part r.x (pos m) b.box.low.0 b.box.high.0).1 in
    let y = (natural_part r.y (pos m) b.box.low.1 b.box.high.1).1 in
    let z = (natural_part r.z (pos m) b.box.low.2 b.box.high.2).1 in
    (record { over = b.over; cell = b.box.dimension }, (omega (arith, x, l), omega (arith, y, l), omega (arith, z, l)))
