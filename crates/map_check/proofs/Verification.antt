-- The verdict is Yes if and only if the map is an isomorphism; what is found at places is said of vertices in the box.
use Rattle.std.proofs.Common.{◌≡◌, ◌≢◌, ◌⊎◌, ℕ, ◌*◌, ◌<◌, List, length, ℤ, pos, ◌+ℤ◌, ◌-ℤ◌, refl, sym, ap, subst, ◌∙◌, arith, ◌≤◌, ◌<ℤ◌, ◌≤ℤ◌, zero, suc}
use Rattle.std.proofs.Common.{[], ◌∷◌, slice_index_or, ◌*ℤ◌}
use Rattle.std.specs.Prelude.{◌↔◌, Result, Ok, Err, IfOk}
use Rattle.std.{proofs.Math.Decide.ℕ_discrete, proofs.Math.Decide.dec_lt, proofs.lemmas.Int.ints, specs.List.All}
use Prim.{Dec, yes, no}
use Rattle.integers.specs.Vectors.{Vector, zero_vector, plus, minus, parts, HasDimension}
use Rattle.integers.proofs.vectors.Laws.{base_sum_minus, base_sum_zero, vector_equal, minus_dimension}
use Rattle.integers.{specs.Bases.Base, specs.Bases.base_sum, proofs.numbers.Ring.linear, proofs.numbers.Ring.ring, proofs.lists.ListOrder.not_below_itself}
use Rattle.periodic_net.specs.Graph.{Graph, Vertex, vertex, moved, arcs_from, arc, IsGraph, Arc}
use Rattle.periodic_net.specs.Maps.{PeriodicMap, IsDrawnBy, IsMapTable, Iso}
use Rattle.periodic_net.proofs.CallerLemmas.{bare_of_iso, drawn, drawn_by_table}
use Rattle.sublattice.specs.Sublattices.{base_of, index_of}
use Rattle.map_check.specs.Layouts.{box_size, place_of, table_for, vertex_at, ComesBefore}
use Rattle.map_check.specs.Tables.{HasNoDouble, DegreesAgree, ArcsAreKept, IsMovedImage, IsBoxVertex, CountsAgree}
use Rattle.map_check.specs.Faults.{IsFirstInBox, IsDoubled, HasOtherDegree, IsFirstLost, LosesArc, KeepsArcs, PassesBefore, double_at, degree_at, lost_at}
use Rattle.map_check.specs.Faults.{IsVerdict, HasFault}
use Rattle.map_check.specs.Images.{image_at, IsCopy, AreNoCopies, IsFirstCopy}
use Rattle.map_check.specs.Places.{HoldsNowhere, IsFirstPlace, HasOtherDegreeAt, KeepsArcsBefore, IsFirstLostAt}
use Rattle.map_check.specs.Laws.{Passes, IsMapOf, IsIsomorphic}
use Rattle.map_check.specs.declared.verdict.MapFault.TheVariants.{Dimension, Count, Doubled, Degree, Arc as LostArc}
use Rattle.map_check.proofs.Layouts.{box_is_power, place_below, place_of_vertex, vertex_again, vertex_in_box, earlier_of_place, place_of_earlier}
use Rattle.map_check.{specs.Conditions.SuitsGraphs, specs.Conditions.IsShift, specs.Verified.IsTold, specs.Verified.IsVerified}
use Rattle.map_check.{specs.declared.verdict.MapFault.MapFault, specs.declared.verdict.Verdict.Verdict, specs.declared.verdict.Verdict.TheVariants.Yes}
use Rattle.map_check.{specs.declared.verdict.Verdict.TheVariants.No, proofs.Theorems.tables_give_iso, proofs.Theorems.same_dimension}

-- a part moved back
part_back : (a b s : ℤ) → a ≡ b +ℤ s → b ≡ a +ℤ (pos 0 -ℤ s)
part_back a b s e = omega (arith, linear, e)

-- a copy is a copy the other way
copy_turned : (d : ℕ) (b : Base) (x y : Vertex) → IsCopy d b x y → IsCopy d b y x
copy_turned d b x y c =
    let cell = ap (λ (w : Vertex). w.cell) c.is in let s = base_sum b c.k in
    let back : y.cell ≡ plus x.cell (minus zero_vector s) =
    vector_equal (part_back x.cell.x y.cell.x s.x (ap (λ (v : Vector). v.x) cell)) (part_back x.cell.y y.cell.y s.y (ap (λ (v : Vector). v.y) cell))
    (part_back x.cell.z y.cell.z s.z (ap (λ (v : Vector). v.z) cell)) in
    let sum : base_sum b (minus zero_vector c.k) ≡ minus zero_vector s = base_sum_minus b zero_vector c.k ∙ ap (λ (v : Vector). minus v s) (base_sum_zero b) in
    let over = ap (λ (w : Vertex). w.over) (sym c.is) in let cells = back ∙ ap (plus x.cell) (sym sum) in
    record { k = minus zero_vector c.k; dimension = minus_dimension d zero_vector c.k (λ _. refl) c.dimension; is = λ i. vertex (over i) (cells i) }

module _ (G H : Graph) (m : ℕ) (images : List Vertex) (rows : List Vector) (c : (G.dimension ≡ 2) ⊎ (G.dimension ≡ 3)) (h : SuitsGraphs G H m images rows) where
  -- the table
  abbrev M : PeriodicMap
  M = table_for G m images rows

  -- the dimension
  abbrev d : ℕ
  d = G.dimension

  -- the number of images
  count : length images ≡ G.vertices * box_size d m
  count = h.count ∙ ap (λ (n : ℕ). G.vertices * n) (sym (box_is_power d m c))

  -- the place of a vertex in the box is in the list
  pub inside_list : (w : Vertex) → IsBoxVertex G m w → place_of d m w < length images
  inside_list w b = subst (λ (n : ℕ). place_of d m w < n) (sym count) (place_below G m c h.period_from w b)

  -- the vertex at a place of the list is in the box
  inside_box : (i : ℕ) → i < length images → IsBoxVertex G m (vertex_at d m i)
  inside_box i l = vertex_in_box G m c h.period_from i (subst (λ (n : ℕ). i < n) count l)

  -- its place
  its_place : (i : ℕ) → place_of d m (vertex_at d m i) ≡ i
  its_place = place_of_vertex G m c h.period_from

  -- a vertex in the box is the one at its place
  its_vertex : (w : Vertex) → IsBoxVertex G m w → vertex_at d m (place_of d m w) ≡ w
  its_vertex = vertex_again G m c h.period_from

  -- the image of the vertex at a place
  its_image : (i : ℕ) → M.image (vertex_at d m i).over (vertex_at d m i).cell ≡ image_at images i
  its_image i = ap (image_at images) (its_place i)

  -- moved images are copies
  copy_of_moved : (u v : ℕ) (r s : Vector) → IsMovedImage G M u r v s → IsCopy d (base_of rows) (image_at images (place_of d m (vertex u r)))
      (image_at images (place_of d m (vertex v s)))
  copy_of_moved u v r s t = record { k = t.k; dimension = t.dimension; is = t.is }

  -- without copies no image is doubled
  pub no_double : AreNoCopies d (base_of rows) images (length images) → HasNoDouble G M
  no_double none u v r s uq vq rb sb t = by (dec_lt p q) (dec_lt q p)
    where
      w : Vertex
      w = vertex u r

      x : Vertex
      x = vertex v s

      wb : IsBoxVertex G m w
      wb = record { over = uq; box = rb }

      xb : IsBoxVertex G m x
      xb = record { over = vq; box = sb }

      p : ℕ
      p = place_of d m w

      q : ℕ
      q = place_of d m x

      same : p ≡ q → (u ≡ v) × (r ≡ s)
      same e =
          let y : w ≡ x = sym (its_vertex w wb) ∙ ap (vertex_at d m) e ∙ its_vertex x xb in
          (ap (λ (z : Vertex). z.over) y, ap (λ (z : Vertex). z.cell) y)

      by : Dec (p < q) → Dec (q < p) → (u ≡ v) × (r ≡ s)
      by (yes l) e = absurd (none p q l (inside_list x xb) (copy_turned d (base_of rows) (image_at images p) (image_at images q) (copy_of_moved u v r s t)))
      by (no a) (yes l) = absurd (none q p l (inside_list w wb) (copy_of_moved u v r s t))
      by (no a) (no b) = same (omega (arith, a, b))

  -- the first copy is the first doubled image
  pub first_doubled : (j : ℕ) → IsFirstCopy d (base_of rows) images j → IsFirstInBox G m (IsDoubled G M) (vertex_at d m j)
  first_doubled j t =
      let k = t.before in let l = t.inside in
      record {
        inside = inside_box j t.inside;
        is = record {
          earlier = vertex_at d m t.earlier;
          inside = inside_box t.earlier (omega (arith, k, l));
          before = earlier_of_place G m c h.period_from (vertex_at d m t.earlier) (vertex_at d m j) (inside_box t.earlier (omega (arith, k, l)))
              (inside_box j t.inside)
              (let a = its_place t.earlier in let b = its_place j in omega (arith, k, a, b));
          moved = record {
            k = t.copy.k;
            dimension = t.copy.dimension;
            is = its_image j ∙ t.copy.is
                ∙ ap (λ (y : Vertex). moved y (base_sum (base_of rows) t.copy.k)) (sym (its_image t.earlier));
          };
        };
        none = λ x b n s.
            let a = its_place j in
            let p = place_of_earlier G m c h.period_from x (vertex_at d m j) b (inside_box j t.inside) n in
            t.none (place_of d m s.earlier) (place_of d m x) (place_of_earlier G m c h.period_from s.earlier x s.inside b s.before) (omega (arith, p, a))
            (copy_of_moved x.over s.earlier.over x.cell s.earlier.cell s.moved);
      }

  -- what holds at the first place holds of the first vertex
  first_of_place : (P : Vertex → Type 0) (i : ℕ) → i < length images → P (vertex_at d m i) → ((j : ℕ) → j < i → P (vertex_at d m j) → ⊥)
      → IsFirstInBox G m P (vertex_at d m i)
  first_of_place P i l p none = record {
    inside = inside_box i l;
    is = p;
    none = λ x b n q.
        let a = its_place i in
        let t = place_of_earlier G m c h.period_from x (vertex_at d m i) b (inside_box i l) n in
        none (place_of d m x) (omega (arith, t, a)) (subst P (sym (its_vertex x b)) q);
  }

  -- degrees, at a place
  degree_here : (i : ℕ) → HasOtherDegreeAt G H d m images i → HasOtherDegree G H M (vertex_at d m i)
  degree_here i t e = t (e ∙ ap (λ (x : Vertex). length (arcs_from H x.over)) (its_image i))

  -- and of a vertex
  degree_of : (i : ℕ) → HasOtherDegree G H M (vertex_at d m i) → HasOtherDegreeAt G H d m images i
  degree_of i t e = t (e ∙ ap (λ (x : Vertex). length (arcs_from H x.over)) (sym (its_image i)))

  -- if no degree differs, they agree
  pub degrees_agree : HoldsNowhere (HasOtherDegreeAt G H d m images) (length images) → DegreesAgree G H M
  degrees_agree none u r uq rb = by (ℕ_discrete (length (arcs_from G u)) (length (arcs_from H (M.image u r).over)))
    where
      w : Vertex
      w = vertex u r

      wb : IsBoxVertex G m w
      wb = record { over = uq; box = rb }

      by : Dec (length (arcs_from G u) ≡ length (arcs_from H (M.image u r).over)) → length (arcs_from G u) ≡ length (arcs_from H (M.image u r).over)
      by (yes e) = e
      by (no n) = absurd (none (place_of d m w) (inside_list w wb)
          (subst (λ (x : Vertex). length (arcs_from G x.over) ≢ length (arcs_from H (image_at images (place_of d m w)).over)) (sym (its_vertex w wb)) n))

  -- the first that differs
  pub first_degree : (i : ℕ) → IsFirstPlace (HasOtherDegreeAt G H d m images) (length images) i → IsFirstInBox G m (HasOtherDegree G H M) (vertex_at d m i)
  first_degree i t = first_of_place (HasOtherDegree G H M) i t.inside (degree_here i t.is) (λ j l p. t.none j l (degree_of j p))

  module _ (f : Vertex → Vertex) where
    -- if all vertices keep their arcs
    pub arcs_kept : KeepsArcsBefore G H d m f (length images) → ArcsAreKept G H M f
    arcs_kept keep u v r s uq rb a =
        let w = vertex u r in let wb : IsBoxVertex G m w = record { over = uq; box = rb } in
        subst (KeepsArcs G H f) (its_vertex w wb) (keep (place_of d m w) (inside_list w wb)) (arc u v s) a refl

    -- the first vertex that loses an arc
    pub first_lost : (w : Vertex) (a : _) → IsFirstLostAt G H d m f (length images) w a → IsFirstLost G H m f w a
    first_lost w a t = record {
      vertex = subst (IsFirstInBox G m (LosesArc G H f)) (sym t.vertex)
          (first_of_place (LosesArc G H f) t.at t.inside (subst (LosesArc G H f) t.vertex (a, t.arc.lost))
          (λ j l s. s.1.lost (t.none j l s.0 s.1.is_arc s.1.from)));
      arc = t.arc;
    }

-- What the code finds of the images, whose dimension it knows by another name, as verdicts.

-- a dimension that is known by another name
dimension_known : (G : Graph) (d : ℕ) → G.dimension ≡ d → (d ≡ 2) ⊎ (d ≡ 3) → (G.dimension ≡ 2) ⊎ (G.dimension ≡ 3)
dimension_known G d e c = subst (λ (n : ℕ). (n ≡ 2) ⊎ (n ≡ 3)) (sym e) c

module _ (G H : Graph) (d m : ℕ) (images : List Vertex) (rows : List Vector) (e : G.dimension ≡ d) (e' : H.dimension ≡ d) (c : (d ≡ 2) ⊎ (d ≡ 3))
    (h : SuitsGraphs G H m images rows)
    (counts : CountsAgree G H (table_for G m images rows)) where
  -- the first copy
  pub verdict_of_copy : (j : ℕ) (w : Vertex) → w ≡ vertex_at d m j → IsFirstCopy d (base_of rows) images j
      → PassesBefore G H (table_for G m images rows) (double_at w) × IsFirstInBox G m (IsDoubled G (table_for G m images rows)) w
  verdict_of_copy j w s t = (
    (e ∙ sym e', counts),
    subst (IsFirstInBox G m (IsDoubled G (table_for G m images rows))) (sym (s ∙ ap (λ (n : ℕ). vertex_at n m j) (sym e)))
        (first_doubled G H m images rows (dimension_known G d e c) h j (subst (λ (n : ℕ). IsFirstCopy n (base_of rows) images j) (sym e) t)),
  )

  -- no copy
  pub verdict_of_no_copy : AreNoCopies d (base_of rows) images (length images) → HasNoDouble G (table_for G m images rows)
  verdict_of_no_copy t = no_double G H m images rows (dimension_known G d e c) h
      (subst (λ (n : ℕ). AreNoCopies n (base_of rows) images (length images)) (sym e) t)

  module _ (single : HasNoDouble G (table_for G m images rows)) where
    -- the first other degree
    pub verdict_of_degree : (i : ℕ) (w : Vertex) → w ≡ vertex_at d m i → IsFirstPlace (HasOtherDegreeAt G H d m images) (length images) i
        → PassesBefore G H (table_for G m images rows) (degree_at w) × IsFirstInBox G m (HasOtherDegree G H (table_for G m images rows)) w
    verdict_of_degree i w s t = (
      (e ∙ sym e', counts, single),
      subst (IsFirstInBox G m (HasOtherDegree G H (table_for G m images rows))) (sym (s ∙ ap (λ (n : ℕ). vertex_at n m i) (sym e)))
          (first_degree G H m images rows (dimension_known G d e c) h i
          (subst (λ (n : ℕ). IsFirstPlace (HasOtherDegreeAt G H n m images) (length images) i) (sym e) t)),
    )

    -- no other degree
    pub verdict_of_degrees : HoldsNowhere (HasOtherDegreeAt G H d m images) (length images) → DegreesAgree G H (table_for G m images rows)
    verdict_of_degrees t = degrees_agree G H m images rows (dimension_known G d e c) h
        (subst (λ (n : ℕ). HoldsNowhere (HasOtherDegreeAt G H n m images) (length images)) (sym e) t)

    module _ (degrees : DegreesAgree G H (table_for G m images rows)) (f : Vertex → Vertex) where
      -- the first lost arc
      pub verdict_of_arc : (w : Vertex) (a : Arc) → IsFirstLostAt G H d m f (length images) w a
          → PassesBefore G H (table_for G m images rows) (lost_at w a) × IsFirstLost G H m f w (arc w.over a.to a.shift)
      verdict_of_arc w a t = (
        (e ∙ sym e', counts, single, degrees),
        subst (IsFirstLost G H m f w) (λ i. arc (t.arc.lost.from i) a.to a.shift)
            (first_lost G H m images rows (dimension_known G d e c) h f w a (subst (λ (n : ℕ). IsFirstLostAt G H n m f (length images) w a) (sym e) t)),
      )

      -- no lost arc
      pub verdict_of_arcs : KeepsArcsBefore G H d m f (length images) → (G.dimension ≡ H.dimension) × Passes G H (table_for G m images rows) f
      verdict_of_arcs t = (
        e ∙ sym e',
        record {
          counts = counts;
          no_double = single;
          degrees = degrees;
          arcs = arcs_kept G H m images rows (dimension_known G d e c) h f (subst (λ (n : ℕ). KeepsArcsBefore G H n m f (length images)) (sym e) t);
        },
      )

-- a table has an image
pub some_image : (G H : Graph) (m : ℕ) (images : List Vertex) (rows : List Vector) → IsGraph G → SuitsGraphs G H m images rows → 1 ≤ length images
some_image G H m images rows g h =
    let l = inside_list G H m images rows g.dimension h (vertex 1 zero_vector) (record {
      over = (omega arith, g.vertices);
      box = record { dimension = λ e. refl; low = (none, none, none); high = (below m h.period_from, below m h.period_from, below m h.period_from) };
    }) in
    omega (arith, l)
  where
    none : pos 0 ≤ℤ pos 0
    none = omega (arith, ints)

    below : (m : ℕ) → 1 ≤ m → pos 0 <ℤ pos m
    below m l = omega (arith, ints, l)

-- a product that is not 0 has no factor 0
pub factor_positive : (l n size : ℕ) → 1 ≤ l → l ≡ n * size → 1 ≤ size
factor_positive l n size k p = search arith

-- the images are as many as the vertices of H, taken as often as the index
pub count_of : (G H : Graph) (d m : ℕ) (images : List Vertex) (rows : List Vector) (index : ℕ) → G.dimension ≡ d → SuitsGraphs G H m images rows
    → CountsAgree G H (table_for G m images rows) → index ≡ index_of d (base_of rows) → length images ≡ H.vertices * index
count_of G H d m images rows index e h c s = cc

-- a row of the list, or 0 past its end, is flat
row_flat : (d : ℕ) (rows : List Vector) (i : ℕ) → All (IsShift d) rows → HasDimension d (slice_index_or rows i zero_vector)
row_flat d rows i h e = by (dec_lt i (length rows))
  where
    past : (rows : List Vector) (i : ℕ) → length rows ≤ i → slice_index_or rows i zero_vector ≡ zero_vector
    past [] i l = refl
    past (v ∷ rows) zero l = absurd (omega (arith, l))
    past (v ∷ rows) (suc i) l = past rows i (omega (arith, l))

    by : Dec (i < length rows) → (slice_index_or rows i zero_vector).z ≡ pos 0
    by k = search (arith, past)

-- a sum of multiples of 0
flat_sum : (x y z a b c : ℤ) → a ≡ pos 0 → b ≡ pos 0 → c ≡ pos 0 → x *ℤ a +ℤ (y *ℤ b +ℤ z *ℤ c) ≡ pos 0
flat_sum x y z a b c e f g =
    let p = ap (λ (t : ℤ). x *ℤ t) e in let q = ap (λ (t : ℤ). y *ℤ t) f in
    let r = ap (λ (t : ℤ). z *ℤ t) g in
    omega (arith, linear, simp ring at p, simp ring at q, simp ring at r)

-- what suits two graphs is a table of a map between them
pub suits_table : (G H : Graph) (m : ℕ) (images : List Vertex) (rows : List Vector) → IsGraph G → SuitsGraphs G H m images rows
    → IsMapTable G H (table_for G m images rows)
suits_table G H m images rows g h = record {
  positive = h.period_from;
  into = λ u r q b.
      let p = h.each_image (place_of G.dimension m (vertex u r)) (vertex 0 zero_vector)
      (inside_list G H m images rows g.dimension h (vertex u r) (record { over = q; box = b })) in
      record { over = (p.from, p.to); cell = p.flat };
  dimension = λ k d e.
      flat_sum k.x k.y k.z (base_of rows).first.z (base_of rows).second.z (base_of rows).third.z (row_flat H.dimension rows 0 h.each_row e)
      (row_flat H.dimension rows 1 h.each_row e)
      (row_flat H.dimension rows 2 h.each_row e);
}

-- a number for each verdict
abbrev number_of : Verdict → ℕ
number_of Yes = 1
number_of (No fault) = 0

module _ (G H : Graph) (M : PeriodicMap) (f : Vertex → Vertex) where
  -- a map that passes has no fault
  no_fault : (fault : MapFault) → (G.dimension ≡ H.dimension) → Passes G H M f → HasFault G H M f fault → ⊥
  no_fault Dimension e p t = t e
  no_fault (Count entries product) e p t = t.2 (t.0 ∙ p.counts ∙ sym t.1)
  no_fault (Doubled u r) e p t =
      let s = t.is in
      let q = p.no_double u s.earlier.over r s.earlier.cell t.inside.over s.inside.over t.inside.box s.inside.box s.moved in
      let same : vertex u r ≡ s.earlier = (λ i. vertex (q.0 i) (q.1 i)) in
      not_below_itself (pos u ∷ parts 3 r) (subst (λ (w : Vertex). ComesBefore w (vertex u r)) (sym same) s.before)
  no_fault (Degree u r) e p t = t.is (p.degrees u r t.inside.over t.inside.box)
  no_fault (LostArc u r v s) e p t = t.arc.lost.lost (p.arcs u v r s t.vertex.inside.over t.vertex.inside.box t.arc.lost.is_arc)

module _ (G H : Graph) (m : ℕ) (images : List Vertex) (rows : List Vector) (g : IsGraph G) (k : IsGraph H) (h : SuitsGraphs G H m images rows) where
  -- the map of the table
  map_of : (f : Vertex → Vertex) → (G.dimension ≡ H.dimension) → IsDrawnBy G (table_for G m images rows) f → IsMapOf G H (table_for G m images rows) f
  map_of f e t = record { graph = g; other = k; same = e; table = suits_table G H m images rows g h; drawn = t }

  -- Yes if and only if the map is an isomorphism
  yes_exactly : (v : Verdict) (f : Vertex → Vertex) → IsDrawnBy G (table_for G m images rows) f → IsVerdict G H (table_for G m images rows) f v
      → (v ≡ Yes) ↔ IsIsomorphic G H (table_for G m images rows) f
  yes_exactly Yes f t s = (λ e. (tables_give_iso.exactly G H (table_for G m images rows) f (map_of f s.0 t)).0 s.1, λ p. refl)
  yes_exactly (No fault) f t s = (
    λ e. absurd (let n = ap number_of e in omega (arith, n)),
    λ p.
        let same = same_dimension G H f m (base_of rows) g k p.period p.bijection in
        absurd (no_fault G H (table_for G m images rows) f fault same ((tables_give_iso.exactly G H (table_for G m images rows) f (map_of f same t)).1 p) s.1),
  )

  -- then the nets are isomorphic
  yes_iso : (v : Verdict) (f : Vertex → Vertex) → IsDrawnBy G (table_for G m images rows) f → IsVerdict G H (table_for G m images rows) f v → v ≡ Yes → Iso G H
  yes_iso Yes f t s e = (tables_give_iso.iso G H (table_for G m images rows) f (map_of f s.0 t) s.1).0
  yes_iso (No fault) f t s e = absurd (let n = ap number_of e in omega (arith, n))

  -- a true verdict
  pub verified : (v : Verdict) → ((f : Vertex → Vertex) → IsDrawnBy G (table_for G m images rows) f → IsVerdict G H (table_for G m images rows) f v)
      → IsVerified G H m images rows v
  verified v s =
      let f = drawn (table_for G m images rows) h.period_from in
      let t = drawn_by_table G (table_for G m images rows) h.period_from in
      record {
        told = s;
        exactly = λ f t. yes_exactly v f t (s f t);
        iso = yes_iso v f t (s f t);
        bare = λ e. bare_of_iso G H (yes_iso v f t (s f t) e);
      }

  -- a true verdict, if there is one
  pub verified_result : {E : Type 0} (r : Result Verdict E) → IfOk r (IsTold G H m images rows) → IfOk r (IsVerified G H m images rows)
  verified_result (Ok v) s = verified v s
  verified_result (Err e) s = tt
