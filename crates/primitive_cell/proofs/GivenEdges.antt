-- The arcs of the class graph give exactly what the primitive graph has, class by class and in the same order.
use Rattle.std.proofs.Common.{◌≡◌, ◌⊎◌, inl, inr, ℕ, zero, suc, ℤ, pos, negsuc, ◌+ℤ◌, ◌*ℤ◌, List, sym, ap, subst, ◌∙◌, arith, [], ◌∷◌, refl, ◌↔◌, ◌++◌, ◌+◌}
use Rattle.std.proofs.Common.{◌<◌, ◌≤◌, length, get_or, take, eq-eqb, ◌==◌}
use Rattle.std.proofs.lemmas.List.{take_more, get_or-take, get_or_default, length-take}
use Rattle.std.proofs.lemmas.List.Elements.{Contains-append_cases, Contains-append_left, Contains-append_right}
use Rattle.std.{proofs.Math.IntN.*ℤ_comm, proofs.Math.Decide.dec_lt, proofs.lemmas.Int.ints, proofs.lemmas.Bool.eqb-true, specs.Prelude.◌<ℤ◌}
use Rattle.std.{specs.List.Contains}
use Rattle.integers.specs.Vectors.{Vector, parts, HasDimension, IsBelow, zero_vector, plus, minus}
use Rattle.integers.proofs.lists.ListOrder.{below_one_way, below_or_equal, not_below_itself}
use Rattle.integers.proofs.vectors.Directions.{Precedes, precedes, parts_below, below_head, below_rest, below_ways, moved_below}
use Rattle.integers.proofs.vectors.StairBasis.{row, row_sum, stair_basis, combination_is}
use Rattle.integers.proofs.lists.Members.{is_in, contains_from_in, in_filter, filter_in}
use Rattle.integers.{specs.Staircase.IsStaircase, proofs.numbers.Order.multiple_below, proofs.numbers.Ring.linear, proofs.vectors.Laws.vector_equal}
use Rattle.integers.{proofs.vectors.Laws.minus_back, proofs.lists.GrownLists.pairs_with}
use Rattle.periodic_net.specs.Classes.{IsTranslation, ClassGraph, ClassArc, IsClassGraph}
use Rattle.periodic_net.specs.Graph.{Graph, IsGraph, Arc, arc, IsArc, vertex, IsVertex, IsNormalSpelling}
use Rattle.periodic_net.specs.Placement.{Placement, base, position, arc_vector, IsStablePlacement}
use Rattle.periodic_net.proofs.CallerLemmas.{arc_inside, at_origin, class_arcs, class_in, origin_vertex, share_move}
use Rattle.periodic_net.specs.Correspondence.{IsClass}
use Rattle.key_theory.specs.Primitive.{Gives, IsLeastMember, edge_label}
use Rattle.key_theory.proofs.CallerLemmas.{one_least, translations_group}
use Rattle.quotient_graph.specs.{NetClasses.class_arc_numbers, NetClasses.ClassArcsRise, ClassNets.arcs_of}
use Rattle.primitive_cell.specs.Given.{move_of, IsGivenBy, AreGivenEdges}
use Rattle.primitive_cell.specs.PrimitiveCells.{IsArcBelow}
use Prim.{Dec, yes, no}

-- Sums of the rows of a staircase rise with their coordinates, and the other way.

-- a positive factor keeps the order
factor_below : (a x y : ℤ) → pos 0 <ℤ a → x <ℤ y → (x *ℤ a) <ℤ (y *ℤ a)
factor_below (pos zero) x y p h = absurd (omega (arith, ints))
factor_below (pos (suc n)) x y p h =
    rw (*ℤ_comm (pos (suc n)) x) at (subst (λ (t : ℤ). (pos (suc n) *ℤ x) <ℤ t) (*ℤ_comm (pos (suc n)) y) (multiple_below n x y h))
factor_below (negsuc n) x y p h = absurd (omega (arith, ints))

-- one more number on both sides keeps the order
sum_below : (s t x y : ℤ) → s ≡ t → x <ℤ y → (s +ℤ x) <ℤ (t +ℤ y)
sum_below s t x y e h = omega (arith, linear, e, h)

-- what has a factor 0 adds nothing
adds_nothing : (s z c : ℤ) → (z ≡ pos 0) ⊎ (c ≡ pos 0) → s +ℤ z *ℤ c ≡ s
adds_nothing s z c h = search arith

module _ (L : Vector → Type 0) (d : ℕ) (rows : List Vector) (s : IsStaircase L d rows) (dim : (d ≡ 2) ⊎ (d ≡ 3)) where
  -- the leading parts are positive
  leads_first : pos 0 <ℤ (row rows 0).x
  leads_first = elim dim [ inl e ↦ (s.each 0 (omega arith)).may.leads | inr e ↦ (s.each 0 (omega arith)).may.leads ]

  leads_second : pos 0 <ℤ (row rows 1).y
  leads_second = elim dim [ inl e ↦ (s.each 1 (omega arith)).may.leads | inr e ↦ (s.each 1 (omega arith)).may.leads ]

  -- the parts before them are 0, if there are such rows
  second_starts : (row rows 1).x ≡ pos 0
  second_starts = elim dim [ inl e ↦ (s.each 1 (omega arith)).may.before 0 (omega arith) | inr e ↦ (s.each 1 (omega arith)).may.before 0 (omega arith) ]

  third_x : (k : Vector) → HasDimension d k → (k.z ≡ pos 0) ⊎ ((row rows 2).x ≡ pos 0)
  third_x k h = elim dim [ inl e ↦ inl (h e) | inr e ↦ inr ((s.each 2 (omega arith)).may.before 0 (omega arith)) ]

  third_y : (k : Vector) → HasDimension d k → (k.z ≡ pos 0) ⊎ ((row rows 2).y ≡ pos 0)
  third_y k h = elim dim [ inl e ↦ inl (h e) | inr e ↦ inr ((s.each 2 (omega arith)).may.before 1 (omega arith)) ]

  -- the first part of a sum of rows
  first_part : (k : Vector) → HasDimension d k → (row_sum rows k).x ≡ k.x *ℤ (row rows 0).x
  first_part k h =
      ap (λ (t : ℤ). k.x *ℤ (row rows 0).x +ℤ t) (adds_nothing (k.y *ℤ (row rows 1).x) k.z (row rows 2).x (third_x k h))
      ∙ adds_nothing (k.x *ℤ (row rows 0).x) k.y (row rows 1).x (inr second_starts)

  -- the second part
  second_part : (k : Vector) → HasDimension d k → (row_sum rows k).y ≡ k.x *ℤ (row rows 0).y +ℤ k.y *ℤ (row rows 1).y
  second_part k h = ap (λ (t : ℤ). k.x *ℤ (row rows 0).y +ℤ t) (adds_nothing (k.y *ℤ (row rows 1).y) k.z (row rows 2).y (third_y k h))

  module _ (k l : Vector) (h : HasDimension d k) (g : HasDimension d l) where
    -- a lesser first coordinate makes a lesser first part
    first_less : k.x <ℤ l.x → (row_sum rows k).x <ℤ (row_sum rows l).x
    first_less x = search (arith, first_part, factor_below, leads_first)

    -- and an equal one an equal part
    first_same : k.x ≡ l.x → (row_sum rows k).x ≡ (row_sum rows l).x
    first_same x = first_part k h ∙ ap (λ (t : ℤ). t *ℤ (row rows 0).x) x ∙ sym (first_part l g)

    -- the same of the second
    second_less : k.x ≡ l.x → k.y <ℤ l.y → (row_sum rows k).y <ℤ (row_sum rows l).y
    second_less x y = rw (second_part k h) (subst (λ (t : ℤ). (k.x *ℤ (row rows 0).y +ℤ k.y *ℤ (row rows 1).y) <ℤ t) (sym (second_part l g))
        (sum_below (k.x *ℤ (row rows 0).y) (l.x *ℤ (row rows 0).y) (k.y *ℤ (row rows 1).y) (l.y *ℤ (row rows 1).y) (ap (λ (t : ℤ). t *ℤ (row rows 0).y) x)
        (factor_below (row rows 1).y k.y l.y leads_second y)))

    second_same : k.x ≡ l.x → k.y ≡ l.y → (row_sum rows k).y ≡ (row_sum rows l).y
    second_same x y = second_part k h ∙ (λ i. x i *ℤ (row rows 0).y +ℤ y i *ℤ (row rows 1).y) ∙ sym (second_part l g)

    -- and of the third
    third_less : k.x ≡ l.x → k.y ≡ l.y → k.z <ℤ l.z → (row_sum rows k).z <ℤ (row_sum rows l).z
    third_less x y z = elim dim [
      | inl e ↦ absurd (let a = h e in let b = g e in omega (arith, ints, a, b, z))
      | inr e ↦
          sum_below (k.x *ℤ (row rows 0).z) (l.x *ℤ (row rows 0).z) (k.y *ℤ (row rows 1).z +ℤ k.z *ℤ (row rows 2).z)
          (l.y *ℤ (row rows 1).z +ℤ l.z *ℤ (row rows 2).z)
          (ap (λ (t : ℤ). t *ℤ (row rows 0).z) x)
          (sum_below (k.y *ℤ (row rows 1).z) (l.y *ℤ (row rows 1).z) (k.z *ℤ (row rows 2).z) (l.z *ℤ (row rows 2).z) (ap (λ (t : ℤ). t *ℤ (row rows 1).z) y)
          (factor_below (row rows 2).z k.z l.z ((s.each 2 (omega arith)).may.leads) z))
    ]

    -- sums of the rows rise with their coordinates
    sums_rise : IsBelow (parts 3 k) (parts 3 l) → IsBelow (parts 3 (row_sum rows k)) (parts 3 (row_sum rows l))
    sums_rise b = parts_below (row_sum rows k) (row_sum rows l) (by (precedes k l b))
      where
        by : Precedes k l → Precedes (row_sum rows k) (row_sum rows l)
        by h = search (arith, first_less, first_same, second_less, second_same, third_less)

  -- so coordinates rise with the sums
  pub coordinates_rise : (k l : Vector) → HasDimension d k → HasDimension d l → IsBelow (parts 3 (row_sum rows k)) (parts 3 (row_sum rows l))
      → IsBelow (parts 3 k) (parts 3 l)
  coordinates_rise k l h g b = by (below_or_equal (parts 3 k) (parts 3 l))
    where
      by : IsBelow (parts 3 k) (parts 3 l) ⊎ ((parts 3 k ≡ parts 3 l) ⊎ IsBelow (parts 3 l) (parts 3 k)) → IsBelow (parts 3 k) (parts 3 l)
      by (inl a) = a
      by (inr (inl e)) =
          let same : k ≡ l = vector_equal (cc) (cc) (cc) in
          absurd (not_below_itself (parts 3 (row_sum rows l)) (subst (λ (t : Vector). IsBelow (parts 3 (row_sum rows t)) (parts 3 (row_sum rows l))) same b))
      by (inr (inr a)) = absurd (below_one_way (parts 3 (row_sum rows k)) (parts 3 (row_sum rows l)) b (sums_rise l k g h a))

-- The arcs of the class graph give exactly what the primitive graph has, and in the same order.

-- a net, with its classes, their representatives, and the staircase basis of its translations
pub record IsCell (G : Graph) (p : Placement) (class_of : ℕ → ℕ) (K : ClassGraph) (first : ℕ → ℕ) (rows : List Vector) : Type 0 where
  pub graph : IsGraph G
  pub stable : IsStablePlacement G p
  pub classes : IsClassGraph G p class_of K
  pub representatives : (c : ℕ) → IsClass K c → IsLeastMember G class_of c (first c)
  pub basis : IsStaircase (IsTranslation G p) G.dimension rows

-- the end of an arc stands where its vector leads to
end_stands : (p : Placement) (a : Arc) → plus (arc_vector p a) (base p a.from) ≡ position p (vertex a.to a.shift)
end_stands p a = minus_back (position p (vertex a.to a.shift)) (base p a.from)

module _ (G : Graph) (p : Placement) (class_of : ℕ → ℕ) (K : ClassGraph) (first : ℕ → ℕ) (rows : List Vector) (c : IsCell G p class_of K first rows) where
  -- an arc of the net that b shows, from the representative
  record IsShown (b : ClassArc) : Type 0 where
    along : Arc
    is_arc : IsArc G along
    from : along.from ≡ first b.from
    to : class_of along.to ≡ b.to
    vector : arc_vector p along ≡ b.vector
    tail : IsLeastMember G class_of b.from (first b.from)
    head : IsLeastMember G class_of b.to (first b.to)

  -- there is one
  shown : (b : ClassArc) → Contains K.arcs b → IsShown b
  shown b h =
      let s = (c.classes.arcs b).0 h in let a = s.0 in let i = arc_inside G c.graph a s.1 in
      let tail = c.representatives b.from (subst (IsClass K) s.2.from (class_in G p class_of K c.classes a.from i.from)) in
      let head = c.representatives b.to (subst (IsClass K) s.2.to (class_in G p class_of K c.classes a.to i.to)) in
      let share = (c.classes.numbering.classes a.from (first b.from) i.from tail.is_vertex).0 (s.2.from ∙ sym tail.member) in
      let m = class_arcs G p c.graph c.stable.no_collision a.from (first b.from) share a s.1 refl in
      let j = arc_inside G c.graph m.along m.is_arc in
      record {
        along = m.along;
        is_arc = m.is_arc;
        from = m.from;
        to = sym ((c.classes.numbering.classes a.to m.along.to i.to j.to).1 m.to) ∙ s.2.to;
        vector = m.vector ∙ s.2.vector;
        tail = tail;
        head = head;
      }

  -- the move of b is that of this arc
  move_is : (b : ClassArc) (s : IsShown b) → move_of p first b ≡ minus (plus (arc_vector p s.along) (base p s.along.from)) (base p (first b.to))
  move_is b s = λ j. minus (plus (sym s.vector j) (base p (sym s.from j))) (base p (first b.to))

  -- it is a translation
  pub move_translates : (b : ClassArc) → Contains K.arcs b → IsTranslation G p (move_of p first b)
  move_translates b h =
      let s = shown b h in let a = s.along in let i = arc_inside G c.graph a s.is_arc in
      let o = vertex (first b.to) zero_vector in let w = vertex a.to a.shift in
      let iw : IsVertex G w = record { over = i.to; cell = i.shift } in
      let share = (c.classes.numbering.classes (first b.to) a.to s.head.is_vertex i.to).0 (s.head.member ∙ sym s.to) in
      let t = share_move G p c.stable.no_collision o w (origin_vertex G (first b.to) s.head.is_vertex) iw share in
      subst (IsTranslation G p) ((λ j. minus (sym (end_stands p a) j) (at_origin p (first b.to) j)) ∙ sym (move_is b s)) t

  -- what an arc of the class graph gives, the primitive graph gives
  pub gives_of : (b : ClassArc) (e : Arc) → Contains K.arcs b → IsGivenBy G.dimension p first rows b e → Gives G p class_of rows e
  gives_of b e h g =
      let s = shown b h in
      record {
        u = s.along.from;
        v = first b.to;
        from = rw (s.from, g.from) s.tail;
        to = subst (λ (n : ℕ). IsLeastMember G class_of n (first b.to)) (sym g.to) s.head;
        via = s.along;
        is_arc = s.is_arc;
        dimension = g.dimension;
        tail = refl;
        head = s.to ∙ sym g.to;
        shift = g.shift ∙ move_is b s;
      }

  -- what the primitive graph gives, an arc of the class graph gives
  pub given_of : (e : Arc) → Gives G p class_of rows e → (b : ClassArc) × Contains K.arcs b × IsGivenBy G.dimension p first rows b e
  given_of e g =
      let b : ClassArc = record { from = e.from; to = e.to; vector = arc_vector p g.via } in
      let h = (c.classes.arcs b).1 (g.via, g.is_arc, record { from = ap class_of g.tail ∙ g.from.member; to = g.head; vector = refl }) in
      let s = shown b h in
      let u : g.u ≡ first e.from = one_least G class_of e.from g.u (first e.from) g.from s.tail in
      let v : g.v ≡ first e.to = one_least G class_of e.to g.v (first e.to) g.to s.head in (
        b,
        h,
        record {
          from = refl;
          to = refl;
          dimension = g.dimension;
          shift = g.shift
              ∙ (λ j. minus (plus (arc_vector p g.via) (base p (u j))) (base p (v j)));
        },
      )

  -- the shift, as a sum of the rows
  sum_is : (b : ClassArc) (e : Arc) → IsGivenBy G.dimension p first rows b e → row_sum rows e.shift ≡ move_of p first b
  sum_is b e g = sym (combination_is G.dimension c.graph.dimension rows c.basis.count e.shift g.dimension) ∙ g.shift

  -- an arc gives one edge
  pub given_once : (b : ClassArc) (e f : Arc) → IsGivenBy G.dimension p first rows b e → IsGivenBy G.dimension p first rows b f → e ≡ f
  given_once b e f g h =
      let basis = stair_basis (IsTranslation G p) (translations_group G p c.stable) G.dimension rows c.basis c.graph.dimension (λ v t. t.dimension) in
      let from : e.from ≡ f.from = g.from ∙ sym h.from in let to : e.to ≡ f.to = g.to ∙ sym h.to in
      let shift : e.shift ≡ f.shift = basis.once e.shift f.shift g.dimension h.dimension (sum_is b e g ∙ sym (sum_is b f h)) in
      λ j. arc (from j) (to j) (shift j)

  -- edges rise as the arcs that give them
  pub edges_rise : (b b' : ClassArc) (e f : Arc) → IsBelow (class_arc_numbers b) (class_arc_numbers b') → IsGivenBy G.dimension p first rows b e
      → IsGivenBy G.dimension p first rows b' f → IsBelow (edge_label e) (edge_label f)
  edges_rise b b' e f h g g' = by (below_ways (pos b.from) (pos b'.from) (pos b.to ∷ parts 3 b.vector) (pos b'.to ∷ parts 3 b'.vector) h)
    where
      from : pos b.from ≡ pos b'.from → pos e.from ≡ pos f.from
      from x = ap pos g.from ∙ x ∙ sym (ap pos g'.from)

      to : pos b.to ≡ pos b'.to → pos e.to ≡ pos f.to
      to y = ap pos g.to ∙ y ∙ sym (ap pos g'.to)

      shifts : pos b.from ≡ pos b'.from → pos b.to ≡ pos b'.to → IsBelow (parts 3 b.vector) (parts 3 b'.vector) → IsBelow (parts 3 e.shift) (parts 3 f.shift)
      shifts x y z =
          let tail : b.from ≡ b'.from = cc in let head : b.to ≡ b'.to = cc in
          let m = moved_below b.vector b'.vector (base p (first b.from)) (base p (first b.to)) z in
          let n : minus (plus b'.vector (base p (first b.from))) (base p (first b.to)) ≡ move_of p first b' =
          λ j. minus (plus b'.vector (base p (first (tail j)))) (base p (first (head j))) in
          coordinates_rise (IsTranslation G p) G.dimension rows c.basis c.graph.dimension e.shift f.shift g.dimension g'.dimension
          (subst (λ (v : Vector). IsBelow (parts 3 v) (parts 3 (row_sum rows f.shift))) (sym (sum_is b e g))
          (subst (λ (v : Vector). IsBelow (parts 3 (move_of p first b)) (parts 3 v)) (n ∙ sym (sum_is b' f g')) m))

      by : (pos b.from <ℤ pos b'.from) ⊎ ((pos b.from ≡ pos b'.from) × IsBelow (pos b.to ∷ parts 3 b.vector) (pos b'.to ∷ parts 3 b'.vector))
          → IsBelow (edge_label e) (edge_label f)
      by (inl x) = below_head (pos e.from) (pos f.from) (pos e.to ∷ parts 3 e.shift) (pos f.to ∷ parts 3 f.shift)
          (let a = g.from in let d = g'.from in omega (arith, ints, x, a, d))
      by (inr (x, r)) = below_rest (pos e.from) (pos f.from) (pos e.to ∷ parts 3 e.shift) (pos f.to ∷ parts 3 f.shift) (from x)
          (elim (below_ways (pos b.to) (pos b'.to) (parts 3 b.vector) (parts 3 b'.vector) r) [
            | inl y ↦ below_head (pos e.to) (pos f.to) (parts 3 e.shift) (parts 3 f.shift) (let a = g.to in let d = g'.to in omega (arith, ints, y, a, d))
            | inr y ↦ below_rest (pos e.to) (pos f.to) (parts 3 e.shift) (parts 3 f.shift) (to y.0) (shifts x y.0 y.1)
          ])

-- Edges collected one after the other, from arcs of the class graph in rising order.

-- a list of one has that one
pub only_one : {X : Type 0} (x y : X) → Contains (x ∷ []) y → x ≡ y
only_one x y h = elim (is_in (x ∷ []) y h) [ inl e ↦ e | inr z ↦ absurd z ]

-- the arcs in Q, and b
abbrev pub With : (ClassArc → Type 0) → ClassArc → ClassArc → Type 0
With Q b b' = Q b' ⊎ (b ≡ b')

-- from no arcs come no edges
pub none_given : (d : ℕ) (p : Placement) (first : ℕ → ℕ) (rows : List Vector) (Q : ClassArc → Type 0) → ((b : ClassArc) → ¬ Q b)
    → AreGivenEdges d p first rows Q []
none_given d p first rows Q q = search arith

-- the same arcs give the same edges
pub same_given : (d : ℕ) (p : Placement) (first : ℕ → ℕ) (rows : List Vector) (Q R : ClassArc → Type 0) (es : List Arc) → ((b : ClassArc) → Q b ↔ R b)
    → AreGivenEdges d p first rows Q es → AreGivenEdges d p first rows R es
same_given d p first rows Q R es same g = record {
  exact = λ e. (
    (λ h. let k = (g.exact e).0 h in (k.0, (k.1.0, (same k.1.0).0 k.1.1, k.1.2))),
    (λ k. (g.exact e).1 (k.0, (k.1.0, (same k.1.0).1 k.1.1, k.1.2))),
  );
  rising = g.rising;
}

module _ (G : Graph) (p : Placement) (class_of : ℕ → ℕ) (K : ClassGraph) (first : ℕ → ℕ) (rows : List Vector) (c : IsCell G p class_of K first rows)
    (Q : ClassArc → Type 0) (es : List Arc) (g : AreGivenEdges G.dimension p first rows Q es) (b : ClassArc) (e : Arc)
    (given : IsGivenBy G.dimension p first rows b e) where
  -- an edge that b gives is e
  same_edge : (f : Arc) (b' : ClassArc) → b ≡ b' → IsGivenBy G.dimension p first rows b' f → f ≡ e
  same_edge f b' s h = given_once G p class_of K first rows c b f e (subst (λ (x : ClassArc). IsGivenBy G.dimension p first rows x f) (sym s) h) given

  -- an edge in another spelling is passed over
  pub edge_passed : ¬ IsNormalSpelling e → AreGivenEdges G.dimension p first rows (With Q b) es
  edge_passed other = record {
    exact = λ f. (
      (λ h. let k = (g.exact f).0 h in (k.0, (k.1.0, inl k.1.1, k.1.2))),
      (λ k. back f k.0 k.1.0 k.1.2 k.1.1),
    );
    rising = g.rising;
  }
    where
      back : (f : Arc) → IsNormalSpelling f → (b' : ClassArc) → IsGivenBy G.dimension p first rows b' f → With Q b b' → Contains es f
      back f n b' h (inl q) = (g.exact f).1 (n, (b', q, h))
      back f n b' h (inr s) = absurd (other (subst IsNormalSpelling (same_edge f b' s h) n))

  -- an edge in normal spelling is put last
  pub edge_added : IsNormalSpelling e → ((b' : ClassArc) → Q b' → IsBelow (class_arc_numbers b') (class_arc_numbers b))
      → AreGivenEdges G.dimension p first rows (With Q b) (es ++ e ∷ [])
  edge_added normal later = record {
    exact = λ f. ((λ h. there f (Contains-append_cases es (e ∷ []) f h)), (λ k. back f k.0 k.1.0 k.1.2 k.1.1));
    rising = pairs_with (λ x y. IsBelow (edge_label x) (edge_label y)) es e g.rising
        (λ f h. let k = (g.exact f).0 h in edges_rise G p class_of K first rows c k.1.0 b f e (later k.1.0 k.1.1) k.1.2 given);
  }
    where
      there : (f : Arc) → Contains es f ⊎ Contains (e ∷ []) f → IsNormalSpelling f × ((b' : ClassArc) × With Q b b' × IsGivenBy G.dimension p first rows b' f)
      there f (inl h) = let k = (g.exact f).0 h in (k.0, (k.1.0, inl k.1.1, k.1.2))
      there f (inr h) =
          let s = only_one e f h in
          (subst IsNormalSpelling s normal, (b, inr refl, subst (IsGivenBy G.dimension p first rows b) s given))

      back : (f : Arc) → IsNormalSpelling f → (b' : ClassArc) → IsGivenBy G.dimension p first rows b' f → With Q b b' → Contains (es ++ e ∷ []) f
      back f n b' h (inl q) = Contains-append_left es (e ∷ []) f ((g.exact f).1 (n, (b', q, h)))
      back f n b' h (inr s) = Contains-append_right es (e ∷ []) f (0, omega arith, sym (same_edge f b' s h))

-- The edges of one class after the other, and of one class arc by arc.

-- b is an arc from a class below n, or one of the first i arcs of the class n
abbrev pub IsArcUpTo : ClassGraph → ℕ → List ClassArc → ℕ → ClassArc → Type 0
IsArcUpTo K n star i b = IsArcBelow K n b ⊎ Contains (take i star) b

-- the list of a class has the arcs from it
pub star_arc : (K : ClassGraph) (n : ℕ) (b : ClassArc) → Contains (arcs_of K n) b → Contains K.arcs b × (b.from ≡ n)
star_arc K n b h = let r = in_filter (λ a. a.from == n) K.arcs b (is_in (arcs_of K n) b h) in (contains_from_in K.arcs b r.0, eqb-true b.from n r.1)

-- and all of them
arc_in_star : (K : ClassGraph) (n : ℕ) (b : ClassArc) → Contains K.arcs b → b.from ≡ n → Contains (arcs_of K n) b
arc_in_star K n b h e = contains_from_in (arcs_of K n) b (filter_in (λ a. a.from == n) K.arcs b (is_in K.arcs b h) (eq-eqb b.from n e))

-- what the first elements of a list have stands in the list before them
taken : {X : Type 0} (xs : List X) (i : ℕ) (x : X) → Contains (take i xs) x → (j : ℕ) × (j < i) × (j < length xs) × (get_or xs j x ≡ x)
taken xs i x h = search (arith, length-take, get_or-take)

-- and the other way
take_has : {X : Type 0} (xs : List X) (i : ℕ) (x : X) → length xs ≤ i → Contains xs x → Contains (take i xs) x
take_has xs i x l h = search (arith, length-take, get_or-take)

-- before the first arc of a class there are those of the classes below
pub star_starts : (K : ClassGraph) (n : ℕ) (star : List ClassArc) (b : ClassArc) → IsArcBelow K n b ↔ IsArcUpTo K n star 0 b
star_starts K n star b = ((λ h. inl h), (λ h. elim h [ inl a ↦ a | inr k ↦ absurd (let j = (taken star 0 b k).1 in omega arith) ]))

-- one arc more
pub star_goes_on : (K : ClassGraph) (n : ℕ) (star : List ClassArc) (i : ℕ) (b : ClassArc) → i < length star → b ≡ get_or star i b
    → (b' : ClassArc) → With (IsArcUpTo K n star i) b b' ↔ IsArcUpTo K n star (i + 1) b'
star_goes_on K n star i b l e b' = (there, back)
  where
    more : take (i + 1) star ≡ take i star ++ get_or star i b ∷ []
    more = take_more star i b l

    there : With (IsArcUpTo K n star i) b b' → IsArcUpTo K n star (i + 1) b'
    there (inl (inl a)) = inl a
    there (inl (inr h)) = inr (subst (λ (xs : List ClassArc). Contains xs b') (sym more) (Contains-append_left (take i star) (get_or star i b ∷ []) b' h))
    there (inr f) = inr (rw more (Contains-append_right (take i star) (get_or star i b ∷ []) b' (0, omega arith, sym e ∙ f)))

    back : IsArcUpTo K n star (i + 1) b' → With (IsArcUpTo K n star i) b b'
    back (inl a) = inl (inl a)
    back (inr h) = elim (Contains-append_cases (take i star) (get_or star i b ∷ []) b' (subst (λ (xs : List ClassArc). Contains xs b') more h)) [
      | inl k ↦ inl (inr k)
      | inr k ↦ inr (e ∙ only_one (get_or star i b) b' k)
    ]

-- the next arc comes after them
pub star_rises : (K : ClassGraph) (n i : ℕ) (b : ClassArc) → ClassArcsRise (arcs_of K n) → i < length (arcs_of K n) → b ≡ get_or (arcs_of K n) i b
    → (b' : ClassArc) → IsArcUpTo K n (arcs_of K n) i b' → IsBelow (class_arc_numbers b') (class_arc_numbers b)
star_rises K n i b rising l e b' = by
  where
    star : List ClassArc
    star = arcs_of K n

    from : b.from ≡ n
    from = (star_arc K n b (i, l, sym e)).1

    by : IsArcUpTo K n (arcs_of K n) i b' → IsBelow (class_arc_numbers b') (class_arc_numbers b)
    by (inl a) = below_head (pos b'.from) (pos b.from) (pos b'.to ∷ parts 3 b'.vector) (pos b.to ∷ parts 3 b.vector)
        (let k = a.1 in omega (arith, ints, k, from))
    by (inr h) =
        let t = taken (arcs_of K n) i b' h in let r = rising t.0 i b' t.1 l in
        let f : get_or (arcs_of K n) i b' ≡ b = get_or_default (arcs_of K n) i b' b l ∙ sym e in
        rw t.3 at (subst (λ (x : ClassArc). IsBelow (class_arc_numbers (get_or (arcs_of K n) t.0 b')) (class_arc_numbers x)) f r)

-- after the last arc of a class there are those of the classes up to it
pub star_ends : (K : ClassGraph) (n i : ℕ) → length (arcs_of K n) ≤ i → (b : ClassArc) → IsArcUpTo K n (arcs_of K n) i b ↔ IsArcBelow K (n + 1) b
star_ends K n i l b = (there, back)
  where
    there : IsArcUpTo K n (arcs_of K n) i b → IsArcBelow K (n + 1) b
    there (inl a) = (a.0, let k = a.1 in omega (arith, k))
    there (inr h) = let t = taken (arcs_of K n) i b h in let s = star_arc K n b (t.0, t.2, t.3) in (s.0, let k = s.1 in omega (arith, k))

    back : IsArcBelow K (n + 1) b → IsArcUpTo K n (arcs_of K n) i b
    back h = by (dec_lt b.from n)
      where
        by : Dec (b.from < n) → IsArcUpTo K n (arcs_of K n) i b
        by (yes a) = inl (h.0, a)
        by (no a) = inr (take_has (arcs_of K n) i b l (arc_in_star K n b h.0 (let k = h.1 in omega (arith, a, k))))
