-- The fault of a cell is one, there is none if the graph has a cover within the limits, and the cover is one.
use Rattle.std.proofs.Common.{◌≡◌, ◌⊎◌, inl, inr, ℕ, ◌*◌, List, sym, ap, subst, ◌∙◌, ◌≢◌, ◌<◌, ◌≤◌, ℤ, refl, arith}
use Rattle.std.{proofs.lemmas.Bool.cases_order, specs.Prelude.slice_index_or, specs.Prelude.unsigned_abs, specs.List.Contains}
use Rattle.integers.specs.Vectors.{Vector, zero_vector, up_vector, IsWithin, IsBelow}
use Rattle.integers.{specs.Bases.Base, specs.Staircase.part, proofs.vectors.StairBasis.one_staircase, proofs.lists.Permutations.rising_from_pairs}
use Rattle.integers.{proofs.lists.Permutations.same_rising, proofs.lists.ListOrder.below_transitive, proofs.lists.ListOrder.not_below_itself}
use Rattle.integers.{proofs.lists.Members.contains_from_in, proofs.lists.Members.is_in}
use Rattle.periodic_net.specs.Graph.{Graph, Arc, IsGraph}
use Rattle.periodic_net.specs.Limits.{most_shift}
use Rattle.sublattice.specs.Sublattices.{IsCombination, IsSublattice}
use Rattle.vecdim.specs.Stairs.{Stairs, stairs, HasStairShape, rows_of, size_of}
use Rattle.net_cover.specs.Covers.{IsCover, IsGiven, edge_at}
use Rattle.net_cover.specs.Faults.{IsCoverFault, IsWidePart, IsWideLift, IsFirstWide, LiftsWithin}
use Rattle.net_cover.specs.declared.faults.CoverFault.TheVariants.{CellDimension, CellRank, CoverVertices, CoverEdges, CoverShift, NoMemory}
use Rattle.net_cover.specs.Laws.{OneCoverFault, CoverIsNotRefused, OneCover}
use Rattle.net_cover.{specs.declared.faults.CoverFault.CoverFault, specs.UnitCells.IsCell, specs.Cells.CellView, specs.Cells.IsWritten}
use Rattle.net_cover.{proofs.CoverNet.shift_once, proofs.CoverMade.cell_fits}
use Rattle.quotient_graph.specs.Order.{arc_numbers}

-- The lattice of rows has one staircase, so all covers of a graph on a cell have the same edges.

-- the last pivot, read from the rows; in dimension 2 they have no third, and it is 1
last_pivot : (d : ℕ) (S : Stairs) → (d ≡ 2) ⊎ (d ≡ 3) → HasStairShape d S → (slice_index_or (rows_of d S) 2 up_vector).z ≡ S.third_z
last_pivot d S k l = search arith

-- the staircase of the lattice of rows is one
pub one_lattice : (d : ℕ) (b : Base) (S R : Stairs) → (d ≡ 2) ⊎ (d ≡ 3) → IsSublattice d b S → IsSublattice d b R → S ≡ R
one_lattice d b S R dim s r =
    let rows : rows_of d S ≡ rows_of d R = one_staircase (IsCombination d b) (IsCombination d b) d (rows_of d S) (rows_of d R) s.basis r.basis
    (λ w. ((λ m. m), (λ m. m))) in
    let first = ap (λ (vs : List Vector). slice_index_or vs 0 zero_vector) rows in
    let second = ap (λ (vs : List Vector). slice_index_or vs 1 zero_vector) rows in
    let third = ap (λ (vs : List Vector). slice_index_or vs 2 up_vector) rows in
    let last : S.third_z ≡ R.third_z = sym (last_pivot d S dim s.stair) ∙ ap (λ (v : Vector). v.z) third ∙ last_pivot d R dim r.stair in
    λ t. stairs (first t).x (first t).y (first t).z (second t).y (second t).z (last t)

module _ (G H K : Graph) (b : Base) (h : IsCover G b H) (k : IsCover G b K) where
  -- two covers are made with one staircase
  cover_lattice : h.lattice ≡ k.lattice
  cover_lattice = one_lattice G.dimension b h.lattice k.lattice (subst (λ (d : ℕ). (d ≡ 2) ⊎ (d ≡ 3)) h.dimension h.is_graph.dimension) h.is_lattice
      k.is_lattice

  -- so they have as many vertices
  pub cover_vertices : H.vertices ≡ K.vertices
  cover_vertices = h.vertices ∙ ap (λ (S : Stairs). G.vertices * size_of S) cover_lattice ∙ sym k.vertices

  -- and an edge of one is an edge of the other
  pub cover_edge : (e : Arc) → Contains H.edges e → Contains K.edges e
  cover_edge e m = (k.edges e).1 (subst (λ (S : Stairs). IsGiven G b S e) cover_lattice ((h.edges e).0 m))

-- a part of a vector within a limit is within it
part_within : (n : ℕ) (k : Vector) (j : ℕ) → j < 3 → IsWithin n k → unsigned_abs (part j k) ≤ n
part_within n k j p q = search arith

-- a vector with a wide part is not within the limit of a shift
not_within : (k : Vector) (j : ℕ) (x : ℤ) → IsWidePart k j x → ¬ IsWithin most_shift k
not_within k j x p h = grind (arith, part_within)

-- a part before a wide one, which is the first, is not wide
no_earlier : (k : Vector) (i j : ℕ) (x y : ℤ) → IsWidePart k i x → IsWidePart k j y → ¬ (i < j)
no_earlier k i j x y p q l = search arith

-- the first wide part of a vector is one
one_part : (k : Vector) (i j : ℕ) (x y : ℤ) → IsWidePart k i x → IsWidePart k j y → x ≡ y
one_part k i j x y p q = grind (arith, cases_order, no_earlier)

module _ (d : ℕ) (b : Base) (es : List Arc) (dim : (d ≡ 2) ⊎ (d ≡ 3)) (c : IsCell d b) where
  -- the lifts before that of the edge at m at remainder i have narrow shifts
  abbrev AllBefore : Stairs → ℕ → ℕ → Type 0
  AllBefore S m i = (n j : ℕ) → (n < m) ⊎ ((n ≡ m) × (j < i)) → j < size_of S → LiftsWithin d b S (edge_at es n) j

  module _ (S : Stairs) (h : IsSublattice d b S) where
    -- a lift with a wide shift is not among them
    not_before : (m i n j : ℕ) (x : ℤ) → i < size_of S → IsWideLift d b S (edge_at es m) i x → AllBefore S n j → ¬ ((m < n) ⊎ ((m ≡ n) × (i < j)))
    not_before m i n j x l w before o = not_within w.k w.j x w.wide (before m i o l w.k w.shift)

    -- the first wide part of a lift is one
    one_wide_lift : (m n i j : ℕ) (x y : ℤ) → m ≡ n → i ≡ j → IsWideLift d b S (edge_at es m) i x → IsWideLift d b S (edge_at es n) j y → x ≡ y
    one_wide_lift m n i j x y e f v w =
        let u : IsWideLift d b S (edge_at es m) i y =
        subst (λ (k : ℕ). IsWideLift d b S (edge_at es k) i y) (sym e) (subst (λ (k : ℕ). IsWideLift d b S (edge_at es n) k y) (sym f) w) in
        let k : v.k ≡ u.k = shift_once d b S dim c h (edge_at es m) i v.k u.k v.shift u.shift in
        one_part u.k v.j u.j x y (subst (λ (t : Vector). IsWidePart t v.j x) k v.wide) u.wide

    -- and so is that of the first lift that has one
    first_wide_once : (m i n j : ℕ) (x y : ℤ) → i < size_of S → j < size_of S → IsWideLift d b S (edge_at es m) i x → IsWideLift d b S (edge_at es n) j y
        → AllBefore S m i → AllBefore S n j → x ≡ y
    first_wide_once m i n j x y k l v w p q = elim (cases_order m n) [
      | inl e ↦ elim (cases_order i j) [
        | inl f ↦ one_wide_lift m n i j x y e f v w
        | inr o ↦ elim o [ inl r ↦ absurd (not_before m i n j x k v q (inr (e, r))) | inr r ↦ absurd (not_before n j m i y l w p (inr (sym e, r))) ]
      ]
      | inr o ↦ elim o [ inl r ↦ absurd (not_before m i n j x k v q (inl r)) | inr r ↦ absurd (not_before n j m i y l w p (inl r)) ]
    ]

-- the first wide part of a cover is one
one_wide : (G : Graph) (b : Base) (x y : ℤ) → IsGraph G → IsCell G.dimension b → IsFirstWide G b x → IsFirstWide G b y → x ≡ y
one_wide G b x y g c s t =
    let d = G.dimension in
    let e : t.lattice ≡ s.lattice = one_lattice d b t.lattice s.lattice g.dimension t.is_lattice s.is_lattice in
    first_wide_once d b G.edges g.dimension c s.lattice s.is_lattice s.m s.i t.m t.i x y s.place (subst (λ (S : Stairs). t.i < size_of S) e t.place) s.wide
    (subst (λ (S : Stairs). IsWideLift d b S (edge_at G.edges t.m) t.i y) e t.wide) s.before
    (subst (λ (S : Stairs). AllBefore d b G.edges g.dimension c S t.m t.i) e t.before)

-- a count past a limit is not within it
past_limit : (count n most : ℕ) → count ≡ n → most < count → ¬ (n ≤ most)
past_limit count n most e l h = omega (arith, e, l, h)

-- if a graph has a cover within the limits, no fault applies but running out of memory
pub cover_is_not_refused : CoverIsNotRefused
cover_is_not_refused G R CellDimension g c f = absurd (f c.0.0.0.0)
cover_is_not_refused G R CellRank g c f = absurd (c.0.0.0.1 f.1)
cover_is_not_refused G R (CoverVertices count) g c f = absurd (past_limit count _ _ f.1 f.2 c.0.0.1)
cover_is_not_refused G R (CoverEdges count) g c f = absurd (past_limit count _ _ f.1 f.2 c.0.1)
cover_is_not_refused G R (CoverShift value) g c f =
    let s = f.1 in let t = c.1 in let d = G.dimension in
    let e : t.lattice ≡ s.lattice = one_lattice d R.rows t.lattice s.lattice g.dimension t.is_lattice s.is_lattice in
    let place = subst (λ (S : Stairs). s.i < size_of S) (sym e) s.place in
    let within = subst (λ (S : Stairs). LiftsWithin d R.rows S (edge_at G.edges s.m) s.i) e (t.within s.m s.i s.edge place) in
    absurd (not_within s.wide.k s.wide.j value s.wide.wide (within s.wide.k s.wide.shift))
cover_is_not_refused G R NoMemory g c f = refl

-- the place of a fault in the order of the causes
abbrev place_of : CoverFault → ℕ
place_of CellDimension = 0
place_of CellRank = 1
place_of (CoverVertices count) = 2
place_of (CoverEdges count) = 3
place_of (CoverShift value) = 4
place_of NoMemory = 5

module _ (G : Graph) (R : CellView) (g : IsGraph G) (w : IsWritten R) where
  -- a fault with an earlier cause excludes one with a later
  none_later : (f h : CoverFault) → h ≢ NoMemory → IsCoverFault G R f → IsCoverFault G R h → ¬ (place_of f < place_of h)
  none_later f NoMemory n p q l = n refl
  none_later CellDimension CellRank n p q l = p q.0
  none_later CellDimension (CoverVertices c) n p q l = p q.0.0
  none_later CellDimension (CoverEdges c) n p q l = p q.0.0.0
  none_later CellDimension (CoverShift x) n p q l = p q.0.0.0.0
  none_later CellRank (CoverVertices c) n p q l = q.0.1 p.1
  none_later CellRank (CoverEdges c) n p q l = q.0.0.1 p.1
  none_later CellRank (CoverShift x) n p q l = q.0.0.0.1 p.1
  none_later (CoverVertices c) (CoverEdges e) n p q l = past_limit c _ _ p.1 p.2 q.0.1
  none_later (CoverVertices c) (CoverShift x) n p q l = past_limit c _ _ p.1 p.2 q.0.0.1
  none_later (CoverEdges c) (CoverShift x) n p q l = past_limit c _ _ p.1 p.2 q.0.1
  none_later f h n p q l = omega (arith, l)

  -- faults with one cause have one value
  one_value : (f h : CoverFault) → IsCoverFault G R f → IsCoverFault G R h → place_of f ≡ place_of h → f ≡ h
  one_value CellDimension CellDimension p q e = refl
  one_value CellRank CellRank p q e = refl
  one_value (CoverVertices m) (CoverVertices n) p q e = ap CoverVertices (p.1 ∙ sym q.1)
  one_value (CoverEdges m) (CoverEdges n) p q e = ap CoverEdges (p.1 ∙ sym q.1)
  one_value (CoverShift x) (CoverShift y) p q e = ap CoverShift (one_wide G R.rows x y g (cell_fits G R p.0 w) p.1 q.1)
  one_value NoMemory NoMemory p q e = refl
  one_value f h p q e = absurd (omega (arith, e))

-- two faults that apply are one, running out of memory aside
pub one_cover_fault : OneCoverFault
one_cover_fault G R f h g w p q m n = elim (cases_order (place_of f) (place_of h)) [
  | inl e ↦ one_value G R g w f h p q e
  | inr o ↦ elim o [ inl l ↦ absurd (none_later G R g w f h n p q l) | inr l ↦ absurd (none_later G R g w h f m q p l) ]
]

-- The cover of a graph on a cell, with its edges in order, is one.

-- one arc comes before another
abbrev Precedes : Arc → Arc → Type 0
Precedes e f = IsBelow (arc_numbers e) (arc_numbers f)

-- both covers have the same edges, in the same order
pub one_cover : OneCover
one_cover G H K b h rise k rises =
    let dimension = h.dimension ∙ sym k.dimension in let vertices = cover_vertices G H K b h k in
    λ i. record { dimension = dimension i; vertices = vertices i; edges = edges i }
  where
    edges : H.edges ≡ K.edges
    edges = same_rising Precedes (λ e. not_below_itself (arc_numbers e))
        (λ e f g. below_transitive (arc_numbers e) (arc_numbers f) (arc_numbers g)) H.edges K.edges
        (rising_from_pairs Precedes H.edges rise) (rising_from_pairs Precedes K.edges rises)
        (λ e. (
          (λ m. is_in K.edges e (cover_edge G H K b h k e (contains_from_in H.edges e m))),
          (λ m. is_in H.edges e (cover_edge G K H b k h e (contains_from_in K.edges e m))),
        ))
