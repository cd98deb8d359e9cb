-- The turns of all edges are full in a connected net. Independent ones are carried to their images, and give the images of the cells.
use Rattle.std.proofs.Common.{◌≡◌, inl, inr, ℕ, ℤ, pos, ◌+ℤ◌, ◌-ℤ◌, neg_ℤ, List, [], ◌∷◌, sym, ap, ◌∙◌, arith, ◌≢◌, zero, suc, ◌-◌, ◌<◌, ◌≤◌, ◌==◌, false}
use Rattle.std.proofs.Common.{cond, length, get_or, subst, eq-eqb, ◌⊎◌, ◌+◌, ◌++◌, refl, length-append, ◌*ℤ◌}
use Rattle.std.{proofs.lemmas.Int.ints, proofs.Math.Decide.ℕ_discrete, proofs.lemmas.List.Elements.All-contains, proofs.lemmas.List.get_or_append_left}
use Rattle.std.{proofs.lemmas.List.get_or_default, specs.List.Contains, specs.List.All}
use Prim.{Dec, yes, no}
use Rattle.integers.specs.Vectors.{Vector, zero_vector, plus, minus, opposite, HasDimension, vector, up_vector, dot, cross, triple_product, IsWithin, times}
use Rattle.integers.proofs.vectors.Laws.{coordinate_x, vector_equal, dot_plus, dot_times, dot_zero, plus_minus, minus_dimension, times_cancel}
use Rattle.integers.{specs.Coordinates.IsCoordinate, specs.Bases.Base, specs.Bases.base_sum, proofs.lists.Members.is_in}
use Rattle.integers.{proofs.lists.Members.contains_from_in, proofs.numbers.Order.before_or_at, proofs.numbers.Ring.ring, proofs.numbers.Ring.linear}
use Rattle.periodic_net.specs.Graph.{Graph, Arc, arc, reverse_of, Vertex, vertex, IsArc, AreJoined, IsWalk, IsConnected, IsQuotientVertex, IsGraph}
use Rattle.periodic_net.specs.Graph.{IsVertex}
use Rattle.periodic_net.specs.Placement.{Placement, position, base}
use Rattle.periodic_net.specs.Limits.{most_vertices, IsSmall, most_closed}
use Rattle.periodic_net.proofs.CallerLemmas.{either_way, arc_inside, edge_in}
use Rattle.periodic_net.specs.Split.{generator}
use Rattle.quotient_graph.specs.Stars.{IsArcFrom}
use Rattle.standard_map.specs.Ends.{End, IsEnd, IsNear}
use Rattle.standard_map.specs.Turns.{end_over, AreFull, shift_over, Turn, AreIndependentTurns, AreTurn, AreCarried, AreImageCells, IsTurn}
use Rattle.standard_map.specs.Sides.{NetSide, HaveOneKey, IsStandardBy}
use Rattle.standard_map.{specs.Search.AreEnds, specs.Search.HasEnd, specs.StandardMaps.AreCellImages, specs.StandardMaps.HasNoThird}
use Rattle.standard_map.{specs.CellBounds.most_turn, specs.CellBounds.Carries, proofs.OneMap.standard_map_carries_cells, proofs.OneMap.third_unit}
use Rattle.standard_map.{proofs.Searching.some_map}

-- What is 0 at the shift of each closed walk of a connected net is 0 at each vector.

module _ (G : Graph) (T : ℕ → Vector) (c : Vector → ℤ) (l : IsCoordinate c) (none : (e : Arc) → Contains G.edges e → c (generator T e) ≡ pos 0) where
  -- the reading of a vertex, from the walk that was found to the vertex below it
  abbrev height : Vertex → ℤ
  height w = c (minus w.cell (T w.over))

  -- the shift to the head is that to the tail and the arc's
  along_edge : (a : Arc) → c (generator T a) ≡ pos 0 → c (T a.from) +ℤ c a.shift ≡ c (T a.to)
  along_edge a e =
      let p = l.minus_is (plus (T a.from) a.shift) (T a.to) in let q = l.plus_is (T a.from) a.shift in
      omega (arith, ints)

  turned : (s : Vector) → c (opposite s) ≡ neg_ℤ (c s)
  turned s = ap c (same s) ∙ l.minus_is zero_vector s ∙ ap (λ t. t -ℤ c s) l.zero ∙ less (c s)
    where
      less : (z : ℤ) → pos 0 -ℤ z ≡ neg_ℤ z
      less z = omega (arith, ints)

      same : (s : Vector) → opposite s ≡ minus zero_vector s
      same s = λ i. record { x = sym (less s.x) i; y = sym (less s.y) i; z = sym (less s.z) i }

  along : (a : Arc) → IsArc G a → c (T a.from) +ℤ c a.shift ≡ c (T a.to)
  along a h = elim (either_way G.edges a (is_in _ a h)) [
    | inl i ↦ along_edge a (none a (contains_from_in G.edges a i))
    | inr i ↦
        let e = along_edge (reverse_of a) (none (reverse_of a) (contains_from_in G.edges (reverse_of a) i)) in
        let t = turned a.shift in
        omega (arith, ints)
  ]

  -- joined vertices have one height
  level : (w x : Vertex) → AreJoined G w x → height w ≡ height x
  level w x h =
      let a = arc w.over x.over (minus x.cell w.cell) in let e = along a h in
      let p = l.minus_is x.cell w.cell in let q = l.minus_is w.cell (T w.over) in
      let r = l.minus_is x.cell (T x.over) in
      omega (arith, ints)

  -- and so have the ends of a walk
  level_walk : (steps : List Vertex) (w x : Vertex) → IsWalk G w steps x → height w ≡ height x
  level_walk [] w x h = ap height h
  level_walk (y ∷ ys) w x h = level w y h.0 ∙ level_walk ys y x h.1

  -- so it is 0 at each vector
  pub vanishes : IsConnected G → (u : ℕ) → IsQuotientVertex G u → (k : Vector) → HasDimension G.dimension k → c k ≡ pos 0
  vanishes connected u i k d =
      let o = vertex u zero_vector in
      let w = connected o (vertex u k) (record { over = i; cell = λ e. λ j. pos 0 }) (record { over = i; cell = d }) in
      let e = level_walk w.0 o (vertex u k) w.1 in let p = l.minus_is zero_vector (T u) in
      let q = l.minus_is k (T u) in
      omega (arith, ints)

-- The first end over a vertex, in a list that has one.

-- an end over u at the head is the first one
pub over_head : (e : End) (es : List End) (u : ℕ) → e.over ≡ u → end_over (e ∷ es) u ≡ e
over_head e es u h = ap (λ b. cond b e (end_over es u)) (eq-eqb e.over u h)

-- another one is passed over
pub over_tail : (e : End) (es : List End) (u : ℕ) → (e.over == u) ≡ false → end_over (e ∷ es) u ≡ end_over es u
over_tail e es u h = ap (λ b. cond b e (end_over es u)) h

-- an end of the list is over u
abbrev IsOver : List End → ℕ → Type 0
IsOver es u = Contains es (end_over es u) × ((end_over es u).over ≡ u)

over_by : (y : End) (es : List End) (u : ℕ) → Dec (y.over ≡ u) → (y.over ≢ u → IsOver es u) → IsOver (y ∷ es) u
over_by y es u (yes h) rest = let f = over_head y es u h in ((0, omega arith, sym f), ap (λ (z : End). z.over) f ∙ h)
over_by y es u (no n) rest =
    let f = over_tail y es u (not_equal y.over u n) in let r = rest n in let l = (r.0).1 in
    (subst (Contains (y ∷ es)) (sym f) (suc (r.0).0, omega (arith, l), (r.0).2), ap (λ (z : End). z.over) f ∙ r.1)
  where
    not_equal : (a b : ℕ) → a ≢ b → (a == b) ≡ false
    not_equal a b d = grind arith

over_in : (es : List End) (u : ℕ) (e : End) (k : ℕ) → k < length es → get_or es k e ≡ e → e.over ≡ u → IsOver es u
over_in [] u e k l f o = absurd (omega (arith, l))
over_in (y ∷ es) u e zero l f o = over_by y es u (ℕ_discrete y.over u) (λ n. absurd (n (ap (λ (z : End). z.over) f ∙ o)))
over_in (y ∷ es) u e (suc k) l f o = over_by y es u (ℕ_discrete y.over u) (λ n. over_in es u e k (omega (arith, l)) f o)

-- if the list has one, it is one of the list and over u
pub is_over : (es : List End) (u : ℕ) → HasEnd es u → Contains es (end_over es u) × ((end_over es u).over ≡ u)
is_over es u h = let c = h.is_in in over_in es u h.end c.0 c.1 c.2 h.over

-- of ends over all vertices, the first one over u
pub found_end : (S T : NetSide) (es : List End) → AreEnds S T es → (u : ℕ) → IsQuotientVertex S.net.graph u → (e : End) → e ≡ end_over es u
    → IsEnd S T e × IsNear (most_vertices - 1) e × (e.over ≡ u)
found_end S T es h u i e f =
    let r = is_over es u (h.every u i) in let c = subst (Contains es) (sym f) r.0 in
    (All-contains (IsEnd S T) es e h.each c, All-contains (IsNear (most_vertices - 1)) es e h.near c, ap (λ (x : End). x.over) f ∙ r.1)

-- the first k ends of such a list are not all of it
pub none_left : (es : List End) (u k : ℕ) → HasEnd es u → ((j : ℕ) (d : End) → j < k → (get_or es j d).over ≢ u) → length es ≤ k → ⊥
none_left es u k h p l = search (arith, is_in)

-- there is a turn for each edge, with the shift of its closed walk
abbrev pub AreOfEdges : List Arc → List End → List Turn → Type 0
AreOfEdges edges es ts = (k : ℕ) (a : Arc) (t : Turn) → k < length edges
    → (k < length ts) × ((get_or ts k t).shift ≡ generator (shift_over es) (get_or edges k a))

pub edges_full : (G : Graph) → IsConnected G → (u : ℕ) → IsQuotientVertex G u → (es : List End) (ts : List Turn) → AreOfEdges G.edges es ts
    → AreFull G.dimension ts
edges_full G connected u i es ts h c l none k d =
    vanishes G (shift_over es) c l
    (λ e m.
    let t = none_turn in let r = h m.0 e t m.1 in
    ap c (ap (generator (shift_over es)) (sym m.2) ∙ sym r.1) ∙ none m.0 t r.0)
    connected u i k d
  where
    none_turn : Turn
    none_turn = record { shift = record { x = pos 0; y = pos 0; z = pos 0 }; image = record { x = pos 0; y = pos 0; z = pos 0 } }

-- a turn more
pub last_place : (ts : List Turn) (t d : Turn) (k : ℕ) → k < length (ts ++ t ∷ [])
    → ((k < length ts) × (get_or (ts ++ t ∷ []) k d ≡ get_or ts k d)) ⊎ ((k ≡ length ts) × (get_or (ts ++ t ∷ []) k d ≡ t))
last_place ts t d k l = by (before_or_at k (length ts) (omega (arith, l, length-append ts (t ∷ []))))
  where
    last : (xs : List Turn) → get_or (xs ++ t ∷ []) (length xs) d ≡ t
    last [] = refl
    last (x ∷ xs) = last xs

    by : (k < length ts) ⊎ (k ≡ length ts) → ((k < length ts) × (get_or (ts ++ t ∷ []) k d ≡ get_or ts k d))
        ⊎ ((k ≡ length ts) × (get_or (ts ++ t ∷ []) k d ≡ t))
    by (inl b) = inl (b, get_or_append_left ts (t ∷ []) d k b)
    by (inr b) = inr (b, ap (λ (j : ℕ). get_or (ts ++ t ∷ []) j d) b ∙ last ts)

pub all_more : (P : Turn → Type 0) (ts : List Turn) (t : Turn) → All P ts → P t → All P (ts ++ t ∷ [])
all_more P ts t h p k d l = elim (last_place ts t d k l) [ inl w ↦ subst P (sym w.1) (h k d w.0) | inr w ↦ subst P (sym w.1) p ]

-- the turns of the first edges
abbrev pub AreOfFirst : List Arc → List End → List Turn → ℕ → Type 0
AreOfFirst edges es ts n = (k : ℕ) (a : Arc) (t : Turn) → k < n → (get_or ts k t).shift ≡ generator (shift_over es) (get_or edges k a)

pub first_more : (edges : List Arc) (es : List End) (ts : List Turn) (n : ℕ) (e : Arc) (t : Turn) → length ts ≡ n → n < length edges → e ≡ get_or edges n e
    → t.shift ≡ generator (shift_over es) e → AreOfFirst edges es ts n → AreOfFirst edges es (ts ++ t ∷ []) (n + 1)
first_more edges es ts n e t count l is shift h k a d b = grind (arith, last_place, length-append, get_or_default)

-- an edge is an arc from its tail, within the limits
pub edge_from : (G : Graph) → IsGraph G → IsSmall G → (e : Arc) → Contains G.edges e → IsArcFrom G e.from e
edge_from G g s e c = grind (arith, contains_from_in, edge_in, is_in, arc_inside)

-- If the shifts are full, some is not 0, some is not on a line, and in dimension 3 some is not in a plane.

abbrev one : Vector
one = vector (pos 1) (pos 0) (pos 0)

abbrev two : Vector
two = vector (pos 0) (pos 1) (pos 0)

abbrev three : Vector
three = vector (pos 0) (pos 0) (pos 1)

-- a product with a vector is a linear reading
product_reading : (c : Vector) → IsCoordinate (dot c)
product_reading c = record { zero = dot_zero c; plus_is = dot_plus c; minus_is = λ v w. less c.x c.y c.z v.x v.y v.z w.x w.y w.z; times_is = dot_times c }
  where
    less : (a b d x y z x' y' z' : ℤ) → a *ℤ (x -ℤ x') +ℤ b *ℤ (y -ℤ y') +ℤ d *ℤ (z -ℤ z') ≡ (a *ℤ x +ℤ b *ℤ y +ℤ d *ℤ z) -ℤ (a *ℤ x' +ℤ b *ℤ y' +ℤ d *ℤ z')
    less a b d x y z x' y' z' = simp ring (omega (arith, linear))

module _ (d : ℕ) (ts : List Turn) (full : AreFull d ts) where
  -- not all are 0
  pub not_all_zero : All (λ t. t.shift ≡ zero_vector) ts → ⊥
  not_all_zero h = one_is_none (full (λ v. v.x) coordinate_x (λ k t l. ap (λ (v : Vector). v.x) (h k t l)) one (λ e. refl))
    where
      one_is_none : pos 1 ≡ pos 0 → ⊥
      one_is_none e = absurd (omega (arith, ints))

  -- not all are orthogonal to c in dimension 3
  pub not_in_plane : d ≢ 2 → (c : Vector) → c ≢ zero_vector → All (λ t. dot c t.shift ≡ pos 0) ts → ⊥
  not_in_plane n c some h =
      let r = λ (k : Vector). full (dot c) (product_reading c) h k (λ e. absurd (n e)) in
      some (vector_equal (sym (first c.x c.y c.z) ∙ r one) (sym (second c.x c.y c.z) ∙ r two) (sym (third c.x c.y c.z) ∙ r three))
    where
      first : (a b e : ℤ) → a *ℤ pos 1 +ℤ b *ℤ pos 0 +ℤ e *ℤ pos 0 ≡ a
      first a b e = omega (arith, ints)

      second : (a b e : ℤ) → a *ℤ pos 0 +ℤ b *ℤ pos 1 +ℤ e *ℤ pos 0 ≡ b
      second a b e = omega (arith, ints)

      third : (a b e : ℤ) → a *ℤ pos 0 +ℤ b *ℤ pos 0 +ℤ e *ℤ pos 1 ≡ e
      third a b e = omega (arith, ints)

  -- not all are on the line of a
  pub not_on_line : (a : Vector) → a ≢ zero_vector → All (λ t. cross a t.shift ≡ zero_vector) ts → ⊥
  not_on_line a some h =
      let flat = full (dot (vector (pos 0 -ℤ a.y) a.x (pos 0))) (product_reading (vector (pos 0 -ℤ a.y) a.x (pos 0)))
      (λ k t l. let s = (get_or ts k t).shift in as_z a.x a.y s.x s.y s.z ∙ ap (λ (v : Vector). v.z) (h k t l)) in
      let steep = full (dot (vector (pos 0) (pos 0 -ℤ a.z) a.y)) (product_reading (vector (pos 0) (pos 0 -ℤ a.z) a.y))
      (λ k t l. let s = (get_or ts k t).shift in as_x a.y a.z s.x s.y s.z ∙ ap (λ (v : Vector). v.x) (h k t l)) in
      some (vector_equal (at_two a.x a.y (flat two (λ e. refl))) (at_one a.x a.y (flat one (λ e. refl))) (at_two_less a.y a.z (steep two (λ e. refl))))
    where
      as_z : (p q x y z : ℤ) → (pos 0 -ℤ q) *ℤ x +ℤ p *ℤ y +ℤ pos 0 *ℤ z ≡ p *ℤ y -ℤ q *ℤ x
      as_z p q x y z = simp ring (omega (arith, linear))

      as_x : (q r x y z : ℤ) → pos 0 *ℤ x +ℤ (pos 0 -ℤ r) *ℤ y +ℤ q *ℤ z ≡ q *ℤ z -ℤ r *ℤ y
      as_x q r x y z = simp ring (omega (arith, linear))

      at_two : (p q : ℤ) → (pos 0 -ℤ q) *ℤ pos 0 +ℤ p *ℤ pos 1 +ℤ pos 0 *ℤ pos 0 ≡ pos 0 → p ≡ pos 0
      at_two p q e = let f = simp ring at e in omega (arith, ints, f)

      at_one : (p q : ℤ) → (pos 0 -ℤ q) *ℤ pos 1 +ℤ p *ℤ pos 0 +ℤ pos 0 *ℤ pos 0 ≡ pos 0 → q ≡ pos 0
      at_one p q e = let f = simp ring at e in omega (arith, ints, f)

      at_two_less : (q r : ℤ) → pos 0 *ℤ pos 0 +ℤ (pos 0 -ℤ r) *ℤ pos 1 +ℤ q *ℤ pos 0 ≡ pos 0 → r ≡ pos 0
      at_two_less q r e = let f = simp ring at e in omega (arith, ints, f)

-- the product of three vectors is that of the third with the cross product of the others
pub off_product : (a b t : Vector) → dot (cross a b) t ≢ pos 0 → triple_product a b t ≢ pos 0
off_product a b t n e = n (same a.x a.y a.z b.x b.y b.z t.x t.y t.z ∙ e)
  where
    same : (a b c d e f x y z : ℤ) → (b *ℤ f -ℤ c *ℤ e) *ℤ x +ℤ (c *ℤ d -ℤ a *ℤ f) *ℤ y +ℤ (a *ℤ e -ℤ b *ℤ d) *ℤ z
        ≡ a *ℤ (e *ℤ z -ℤ f *ℤ y) +ℤ b *ℤ (f *ℤ x -ℤ d *ℤ z) +ℤ c *ℤ (d *ℤ y -ℤ e *ℤ x)
    same a b c d e f x y z = simp ring (omega (arith, linear))

-- two flat vectors that are not on one line have a product with (0, 0, 1)
pub flat_product : (a b : Vector) → a.z ≡ pos 0 → b.z ≡ pos 0 → cross a b ≢ zero_vector → triple_product a b up_vector ≢ pos 0
flat_product a b h k n e =
    n (vector_equal (none a.y b.y a.z b.z h k) (none' a.x b.x a.z b.z h k) (height a.x a.y a.z b.x b.y b.z h ∙ e))
  where
    none : (p q c f : ℤ) → c ≡ pos 0 → f ≡ pos 0 → p *ℤ f -ℤ c *ℤ q ≡ pos 0
    none p q c f h k = rw (h, k) (omega (arith, ints))

    none' : (p q c f : ℤ) → c ≡ pos 0 → f ≡ pos 0 → c *ℤ q -ℤ p *ℤ f ≡ pos 0
    none' p q c f h k = rw (h, k) (omega (arith, ints))

    height : (a b c d e f : ℤ) → c ≡ pos 0 → a *ℤ e -ℤ b *ℤ d ≡ a *ℤ (e *ℤ pos 1 -ℤ f *ℤ pos 0) +ℤ b *ℤ (f *ℤ pos 0 -ℤ d *ℤ pos 1) +ℤ c *ℤ
        (d *ℤ pos 0 -ℤ e *ℤ pos 0)
    height a b c d e f h = simp ring (omega (arith, linear))

-- a turn, by its shift and its image
turn_by : (ts : List Turn) (a : Turn) (shift image : Vector) → Contains ts a → shift ≡ a.shift → image ≡ a.image → AreTurn ts shift image
turn_by ts a shift image c e f = subst (Contains ts) (λ i. record { shift = sym e i; image = sym f i }) c

-- three vectors have the product of three equal ones
same_product : (a b t a' b' t' : Vector) → a ≡ a' → b ≡ b' → t ≡ t' → triple_product a' b' t' ≢ pos 0 → triple_product a b t ≢ pos 0
same_product a b t a' b' t' e f h n k = n (sym (λ i. triple_product (e i) (f i) (h i)) ∙ k)

-- two turns in dimension 2, and (0, 0, 1)
pub flat_turns : (d : ℕ) (ts : List Turn) (a b : Turn) → Contains ts a → Contains ts b → cross a.shift b.shift ≢ zero_vector → HasDimension d a.shift
    → HasDimension d b.shift
    → d ≡ 2 → (shifts images : Base) → shifts.first ≡ a.shift → shifts.second ≡ b.shift → shifts.third ≡ up_vector → images.first ≡ a.image
    → images.second ≡ b.image → images.third ≡ zero_vector
    → AreIndependentTurns d ts shifts images
flat_turns d ts a b ca cb apart da db two shifts images e f g e' f' g' = record {
  some = same_product shifts.first shifts.second shifts.third a.shift b.shift up_vector e f g (flat_product a.shift b.shift (da two) (db two) apart);
  first = turn_by ts a shifts.first images.first ca e e';
  second = turn_by ts b shifts.second images.second cb f f';
  up = λ h. (g, g');
  third = λ n. absurd (n two);
}

-- three turns in dimension 3
pub space_turns : (d : ℕ) (ts : List Turn) (a b t : Turn) → Contains ts a → Contains ts b → Contains ts t → dot (cross a.shift b.shift) t.shift ≢ pos 0 → d ≢ 2
    → (shifts images : Base) → shifts.first ≡ a.shift → shifts.second ≡ b.shift → shifts.third ≡ t.shift → images.first ≡ a.image → images.second ≡ b.image
    → images.third ≡ t.image
    → AreIndependentTurns d ts shifts images
space_turns d ts a b t ca cb ct off n shifts images e f g e' f' g' = record {
  some = same_product shifts.first shifts.second shifts.third a.shift b.shift t.shift e f g (off_product a.shift b.shift t.shift off);
  first = turn_by ts a shifts.first images.first ca e e';
  second = turn_by ts b shifts.second images.second cb f f';
  up = λ h. absurd (n h);
  third = λ h. turn_by ts t shifts.third images.third ct g g';
}

module _ (S T : NetSide) where
  abbrev d : ℕ
  d = S.net.graph.dimension

  -- what is asked of the third shift
  record IsThird (shift image : Vector) : Type 0 where
    within : IsWithin most_closed shift
    within_image : IsWithin most_turn image
    carried : (map : Vertex → Vertex) → IsStandardBy S T map → (C : Base) → AreCellImages S.net.graph T.net.graph T.net.placement map C
        → HasNoThird S.net.graph.dimension C → base_sum C shift ≡ image

  third_is : (ts : List Turn) → All (IsTurn S T) ts → (shift image : Vector) → (d ≡ 2 → (shift ≡ up_vector) × (image ≡ zero_vector))
      → (d ≢ 2 → AreTurn ts shift image) → Dec (d ≡ 2)
      → IsThird shift image
  third_is ts h shift image up other (yes e) =
      let u = up e in
      record {
        within = subst (IsWithin most_closed) (sym u.0) (omega arith, omega arith, omega arith);
        within_image = subst (IsWithin most_turn) (sym u.1) (omega arith, omega arith, omega arith);
        carried = λ map m C c n. ap (base_sum C) u.0 ∙ third_unit C ∙ n e ∙ sym u.1;
      }
  third_is ts h shift image up other (no n) =
      let t = All-contains (IsTurn S T) ts (record { shift = shift; image = image }) h (other n) in
      record { within = t.shift; within_image = t.image; carried = λ map m C c _. t.carried map m C c }

  -- independent turns are carried
  pub turns_carried : (ts : List Turn) → All (IsTurn S T) ts → (shifts images : Base) → AreIndependentTurns d ts shifts images → AreCarried S T shifts images
  turns_carried ts h shifts images t =
      let a = All-contains (IsTurn S T) ts (record { shift = shifts.first; image = images.first }) h t.first in
      let b = All-contains (IsTurn S T) ts (record { shift = shifts.second; image = images.second }) h t.second in
      let e = third_is ts h shifts.third images.third t.up t.third (ℕ_discrete d 2) in
      record {
        some = t.some;
        first = a.shift;
        second = b.shift;
        third = e.within;
        first_image = a.image;
        second_image = b.image;
        third_image = e.within_image;
        carried = λ map m C c n. record { first = a.carried map m C c; second = b.carried map m C c; third = e.carried map m C c n };
      }

  -- a standard map carries the cells to some vectors
  cells_of_map : (map : Vertex → Vertex) → IsStandardBy S T map
      → (C : Base) × AreCellImages S.net.graph T.net.graph T.net.placement map C × HasNoThird S.net.graph.dimension C
  cells_of_map map m =
      let k = m.one_key in
      let r = standard_map_carries_cells S.net.graph T.net.graph k.here k.there map k.one_list m.standard in
      (r.0, subst (λ q. AreCellImages S.net.graph T.net.graph q map r.0) k.same_there.placement r.1, r.2)

  -- so there are some that carry the shifts to their images
  pub some_carry : HaveOneKey S T → (shifts images : Base) → AreCarried S T shifts images → (C : Base) × Carries C shifts images
  some_carry k shifts images h =
      let f = some_map S T k in let r = cells_of_map f.0 f.1 in
      (r.0, h.carried f.0 f.1 r.0 r.1 r.2)

  -- and the only ones that do are what the cells are carried to
  pub cells_are : (shifts images : Base) → AreCarried S T shifts images → (C : Base) → ((B : Base) → Carries B shifts images → C ≡ B) → AreImageCells S T C
  cells_are shifts images h C only map m =
      let r = cells_of_map map m in let e = sym (only r.0 (h.carried map m r.0 r.1 r.2)) in
      subst (λ B. AreCellImages S.net.graph T.net.graph T.net.placement map B × HasNoThird S.net.graph.dimension B) e (r.1, r.2)

-- the image of (u, r), from that of (u, s)
pub image_from : (G H : Graph) (q : Placement) (map : Vertex → Vertex) (C : Base) → AreCellImages G H q map C → (u : ℕ) (s r : Vector)
    → IsVertex G (vertex u s) → HasDimension G.dimension (minus r s)
    → position q (map (vertex u r)) ≡ plus (position q (map (vertex u s))) (base_sum C (minus r s))
image_from G H q map C c u s r i h =
    ap (λ (t : Vector). position q (map (vertex u t))) (sym (plus_minus s r)) ∙ c.carried (vertex u s) (minus r s) i h

-- one part of Cramer's rule: t_i = a·x_i + (b·y_i + c·z_i), with the minors for a
first_part : (a b c x1 y1 z1 x2 y2 z2 x3 y3 z3 : ℤ)
    → (x1 *ℤ (y2 *ℤ z3 -ℤ z2 *ℤ y3) +ℤ y1 *ℤ (z2 *ℤ x3 -ℤ x2 *ℤ z3) +ℤ z1 *ℤ (x2 *ℤ y3 -ℤ y2 *ℤ x3)) *ℤ a
    ≡ (y2 *ℤ z3 -ℤ z2 *ℤ y3) *ℤ (x1 *ℤ a +ℤ (y1 *ℤ b +ℤ z1 *ℤ c))
    +ℤ ((y3 *ℤ z1 -ℤ z3 *ℤ y1) *ℤ (x2 *ℤ a +ℤ (y2 *ℤ b +ℤ z2 *ℤ c)) +ℤ (y1 *ℤ z2 -ℤ z1 *ℤ y2) *ℤ (x3 *ℤ a +ℤ (y3 *ℤ b +ℤ z3 *ℤ c)))
first_part a b c x1 y1 z1 x2 y2 z2 x3 y3 z3 = simp ring (omega (arith, linear))

-- with those for b
second_part : (a b c x1 y1 z1 x2 y2 z2 x3 y3 z3 : ℤ)
    → (x1 *ℤ (y2 *ℤ z3 -ℤ z2 *ℤ y3) +ℤ y1 *ℤ (z2 *ℤ x3 -ℤ x2 *ℤ z3) +ℤ z1 *ℤ (x2 *ℤ y3 -ℤ y2 *ℤ x3)) *ℤ b
    ≡ (z2 *ℤ x3 -ℤ x2 *ℤ z3) *ℤ (x1 *ℤ a +ℤ (y1 *ℤ b +ℤ z1 *ℤ c))
    +ℤ ((z3 *ℤ x1 -ℤ x3 *ℤ z1) *ℤ (x2 *ℤ a +ℤ (y2 *ℤ b +ℤ z2 *ℤ c)) +ℤ (z1 *ℤ x2 -ℤ x1 *ℤ z2) *ℤ (x3 *ℤ a +ℤ (y3 *ℤ b +ℤ z3 *ℤ c)))
second_part a b c x1 y1 z1 x2 y2 z2 x3 y3 z3 = simp ring (omega (arith, linear))

-- and with those for c
third_part : (a b c x1 y1 z1 x2 y2 z2 x3 y3 z3 : ℤ)
    → (x1 *ℤ (y2 *ℤ z3 -ℤ z2 *ℤ y3) +ℤ y1 *ℤ (z2 *ℤ x3 -ℤ x2 *ℤ z3) +ℤ z1 *ℤ (x2 *ℤ y3 -ℤ y2 *ℤ x3)) *ℤ c
    ≡ (x2 *ℤ y3 -ℤ y2 *ℤ x3) *ℤ (x1 *ℤ a +ℤ (y1 *ℤ b +ℤ z1 *ℤ c))
    +ℤ ((x3 *ℤ y1 -ℤ y3 *ℤ x1) *ℤ (x2 *ℤ a +ℤ (y2 *ℤ b +ℤ z2 *ℤ c)) +ℤ (x1 *ℤ y2 -ℤ y1 *ℤ x2) *ℤ (x3 *ℤ a +ℤ (y3 *ℤ b +ℤ z3 *ℤ c)))
third_part a b c x1 y1 z1 x2 y2 z2 x3 y3 z3 = simp ring (omega (arith, linear))

module _ (C s : Base) where
  abbrev minors : Base
  minors = record { first = cross s.second s.third; second = cross s.third s.first; third = cross s.first s.second }

  abbrev carried : Base
  carried = record { first = base_sum C s.first; second = base_sum C s.second; third = base_sum C s.third }

  abbrev triple : ℤ
  triple = triple_product s.first s.second s.third

  -- the product of three shifts times the image of a cell is a sum of the images of the shifts, along their minors
  pub cramer_first : times triple C.first ≡ base_sum carried (vector minors.first.x minors.second.x minors.third.x)
  cramer_first = grind (arith, vector_equal, first_part)

  pub cramer_second : times triple C.second ≡ base_sum carried (vector minors.first.y minors.second.y minors.third.y)
  cramer_second = grind (arith, vector_equal, second_part)

  pub cramer_third : times triple C.third ≡ base_sum carried (vector minors.first.z minors.second.z minors.third.z)
  cramer_third = grind (arith, vector_equal, third_part)

-- Two ends over one vertex give a closed walk, and the image of its shift.

-- b + h = (b + e) + c gives c = h - e
rest_is : (b h e c : Vector) → plus b h ≡ plus (plus b e) c → c ≡ minus h e
rest_is b h e c k =
    let x = ap (λ (t : Vector). t.x) k in let y = ap (λ (t : Vector). t.y) k in
    let z = ap (λ (t : Vector). t.z) k in
    vector_equal (omega (arith, ints)) (omega (arith, ints)) (omega (arith, ints))

-- the shift from the one to the other goes to what is between their images
pub turn_carried : (S T : NetSide) (d e : End) → IsEnd S T d → IsEnd S T e → d.over ≡ e.over → (map : Vertex → Vertex) → IsStandardBy S T map → (C : Base)
    → AreCellImages S.net.graph T.net.graph T.net.placement map C → base_sum C (minus d.shift e.shift) ≡ minus d.at e.at
turn_carried S T d e i j o map m C c =
    let q = T.net.placement in
    let flat = minus_dimension S.net.graph.dimension d.shift e.shift i.is_vertex.cell j.is_vertex.cell in
    let at = image_from S.net.graph T.net.graph q map C c e.over e.shift d.shift j.is_vertex flat in
    rest_is (base q T.origin) d.at e.at (base_sum C (minus d.shift e.shift))
    (sym (i.at map m) ∙ ap (λ u. position q (map (vertex u d.shift))) o ∙ at ∙ ap (λ (t : Vector). plus t (base_sum C (minus d.shift e.shift))) (j.at map m))

-- The images of the cells are the columns that the sums along the minors give.

-- m has the minors of s, and p is their product
pub record AreMinors (s m : Base) (p : ℤ) : Type 0 where
  pub first : m.first ≡ cross s.second s.third
  pub second : m.second ≡ cross s.third s.first
  pub third : m.third ≡ cross s.first s.second
  pub product : p ≡ triple_product s.first s.second s.third

module _ (C s t m : Base) (p : ℤ) (c : Carries C s t) (a : AreMinors s m p) where
  pub column_first : base_sum t (vector m.first.x m.second.x m.third.x) ≡ times p C.first
  column_first = grind (arith, cramer_first)

  pub column_second : base_sum t (vector m.first.y m.second.y m.third.y) ≡ times p C.second
  column_second = grind (arith, cramer_second)

  pub column_third : base_sum t (vector m.first.z m.second.z m.third.z) ≡ times p C.third
  column_third = grind (arith, cramer_third)

  -- what these sums are the product times is C
  pub columns_tell : p ≢ pos 0 → (x y z : Vector) → base_sum t (vector m.first.x m.second.x m.third.x) ≡ times p x
      → base_sum t (vector m.first.y m.second.y m.third.y) ≡ times p y
      → base_sum t (vector m.first.z m.second.z m.third.z) ≡ times p z → record { first = x; second = y; third = z } ≡ C
  columns_tell n x y z ex ey ez = grind (arith, times_cancel, column_first, column_second, column_third)
