-- Two nets have one answer by a room at most, and a map has one true verdict at most.
use Rattle.std.proofs.Common.{◌≡◌, inl, inr, ◌⊎◌, ℕ, ◌≤◌, pos, List, ◌∷◌, refl, sym, ap, subst, ◌∙◌, arith, map}
use Rattle.integers.specs.Vectors.{IsBelow, Vector, parts, vector, times}
use Rattle.integers.proofs.vectors.Laws.{parts_tell, plus_cancel, times_dimension}
use Rattle.integers.{specs.Bases.base_sum, proofs.lists.ListOrder.below_or_equal, proofs.lists.ListOrder.not_below_itself, proofs.lists.Members.IsIn}
use Rattle.integers.{proofs.lists.Members.map_same}
use Rattle.periodic_net.specs.Graph.{Graph, Arc, arc, Vertex, vertex, IsGraph, moved}
use Rattle.periodic_net.proofs.CallerLemmas.{drawn, drawn_by_table, moved_vertex, origin_vertex}
use Rattle.periodic_net.specs.Maps.{PeriodicMap as MapTable, IsPeriodic}
use Rattle.quotient_graph.{specs.Order.arc_numbers, proofs.Edges.arc_from_numbers}
use Rattle.map_check.specs.Faults.{HasFault, HasOtherDegree, IsDoubled, IsFirstInBox, IsFirstLost, IsFirstLostArc, IsVerdict, LosesArc, PassesBefore}
use Rattle.map_check.specs.declared.verdict.MapFault.TheVariants.{Dimension, Count, Doubled, Degree, Arc as LostArc}
use Rattle.map_check.specs.{Layouts.ComesBefore, Layouts.table_for, Laws.Passes, Verified.IsTold, Tables.HasNoDouble, Tables.DegreesAgree}
use Rattle.map_check.specs.{declared.verdict.MapFault.MapFault, declared.verdict.Verdict.Verdict, declared.map.PeriodicMap.PeriodicMap}
use Rattle.map_check.specs.{declared.verdict.Verdict.TheVariants.Yes, declared.verdict.Verdict.TheVariants.No}
use Rattle.key_theory.specs.Key.{Shape}
use Rattle.least_key.specs.KeyedNets.{KeyedNet}
use Rattle.standard_map.specs.MapNumbers.{StandardTable, box_vertices, entries_of, images_of, base_rows, IsLong, IsFound}
use Rattle.standard_map.proofs.OneMap.{one_count, one_period, one_standard_map, causes_exclude, rows_same}
use Rattle.net_certificate.specs.declared.maps.MapAnswer.TheVariants.{Different, Found, LongMap, WideMap}
use Rattle.net_certificate.specs.Answers.{shape_of, IsAnswerBy, IsMapAnswer}
use Rattle.net_certificate.{specs.Laws.OneMapAnswer, specs.declared.maps.MapAnswer.MapAnswer, proofs.BoxLists.box_inside, proofs.Shapes.answer_alike}

-- the number and the cell of a vertex determine it
vertex_told : (u v : ℕ) (r s : Vector) → (pos u ∷ parts 3 r) ≡ (pos v ∷ parts 3 s) → (u ≡ v) × (r ≡ s)
vertex_told u v r s e = (cc, parts_tell r s (let p : parts 3 r ≡ parts 3 s = cc in p))

-- the first vertex of the box that P holds of is one
one_in_box : (G : Graph) (m : ℕ) (P : Vertex → Type 0) (u v : ℕ) (r s : Vector) → IsFirstInBox G m P (vertex u r) → IsFirstInBox G m P (vertex v s)
    → (u ≡ v) × (r ≡ s)
one_in_box G m P u v r s h k = by (below_or_equal (pos u ∷ parts 3 r) (pos v ∷ parts 3 s))
  where
    by : ComesBefore (vertex u r) (vertex v s) ⊎ (((pos u ∷ parts 3 r) ≡ (pos v ∷ parts 3 s)) ⊎ ComesBefore (vertex v s) (vertex u r)) → (u ≡ v) × (r ≡ s)
    by l = grind (arith, vertex_told)

-- the first lost arc of a vertex is one
one_lost_arc : (G H : Graph) (f : Vertex → Vertex) (w : Vertex) (a c : Arc) → IsFirstLostArc G H f w a → IsFirstLostArc G H f w c → a ≡ c
one_lost_arc G H f w a c h k = by (below_or_equal (arc_numbers a) (arc_numbers c))
  where
    by : IsBelow (arc_numbers a) (arc_numbers c) ⊎ ((arc_numbers a ≡ arc_numbers c) ⊎ IsBelow (arc_numbers c) (arc_numbers a)) → a ≡ c
    by (inl below) = absurd (k.none a h.lost below)
    by (inr (inl e)) = arc_from_numbers a c e
    by (inr (inr below)) = absurd (h.none c k.lost below)

module _ (G H : Graph) (M : MapTable) (f : Vertex → Vertex) where
  -- if no image is double there is no first one
  none_double : HasNoDouble G M → (u : ℕ) (r : Vector) → ¬ IsFirstInBox G M.m (IsDoubled G M) (vertex u r)
  none_double once u r t =
      let s = t.is in
      let q = once u s.earlier.over r s.earlier.cell t.inside.over s.inside.over t.inside.box s.inside.box s.moved in
      let same : vertex u r ≡ s.earlier = (λ i. vertex (q.0 i) (q.1 i)) in
      not_below_itself (pos u ∷ parts 3 r) (subst (λ (w : Vertex). ComesBefore w (vertex u r)) (sym same) s.before)

  -- if the degrees agree none is another
  none_other : DegreesAgree G H M → (u : ℕ) (r : Vector) → ¬ IsFirstInBox G M.m (HasOtherDegree G H M) (vertex u r)
  none_other agree u r t = t.is (agree u r t.inside.over t.inside.box)

  -- if a table passes there is no fault
  none_where_passed : (fault : MapFault) → (G.dimension ≡ H.dimension) → Passes G H M f → ¬ HasFault G H M f fault
  none_where_passed Dimension e p t = t e
  none_where_passed (Count entries product) e p t = t.2 (t.0 ∙ p.counts ∙ sym t.1)
  none_where_passed (Doubled u r) e p t = none_double p.no_double u r t
  none_where_passed (Degree u r) e p t = none_other p.degrees u r t
  none_where_passed (LostArc u r v s) e p t = t.arc.lost.lost (p.arcs u v r s t.vertex.inside.over t.vertex.inside.box t.arc.lost.is_arc)

  -- the first lost arc, and its vertex, are one
  one_lost : (u v u' v' : ℕ) (r s r' s' : Vector) → IsFirstLost G H M.m f (vertex u r) (arc u v s) → IsFirstLost G H M.m f (vertex u' r') (arc u' v' s')
      → LostArc u r v s ≡ LostArc u' r' v' s'
  one_lost u v u' v' r s r' s' h k =
      let p = one_in_box G M.m (LosesArc G H f) u u' r r' h.vertex k.vertex in
      let there : IsFirstLostArc G H f (vertex u r) (arc u' v' s') = subst (λ (w : Vertex). IsFirstLostArc G H f w (arc u' v' s'))
      (sym (λ i. vertex (p.0 i) (p.1 i))) k.arc in
      let a = one_lost_arc G H f (vertex u r) (arc u v s) (arc u' v' s') h.arc there in
      λ i. LostArc (p.0 i) (p.1 i) ((a i).to) ((a i).shift)

  -- the first fault is one
  one_fault : (a b : MapFault) → PassesBefore G H M a → PassesBefore G H M b → HasFault G H M f a → HasFault G H M f b → a ≡ b
  one_fault Dimension Dimension p q h k = refl
  one_fault Dimension (Count e n) p q h k = absurd (h q)
  one_fault (Count e n) Dimension p q h k = absurd (k p)
  one_fault (Count e n) (Count e' n') p q h k = λ i. Count ((h.0 ∙ sym k.0) i) ((h.1 ∙ sym k.1) i)
  one_fault (Count e n) (Doubled u r) p q h k = absurd (h.2 (h.0 ∙ q.1 ∙ sym h.1))
  one_fault (Count e n) (Degree u r) p q h k = absurd (h.2 (h.0 ∙ q.1 ∙ sym h.1))
  one_fault (Count e n) (LostArc u r v s) p q h k = absurd (h.2 (h.0 ∙ q.1 ∙ sym h.1))
  one_fault (Doubled u r) Dimension p q h k = absurd (k p.0)
  one_fault (Doubled u r) (Count e n) p q h k = absurd (k.2 (k.0 ∙ p.1 ∙ sym k.1))
  one_fault (Doubled u r) (Doubled u' r') p q h k = let e = one_in_box G M.m (IsDoubled G M) u u' r r' h k in λ i. Doubled (e.0 i) (e.1 i)
  one_fault (Doubled u r) (Degree u' r') p q h k = absurd (none_double q.2 u r h)
  one_fault (Doubled u r) (LostArc u' r' v s) p q h k = absurd (none_double q.2 u r h)
  one_fault (Degree u r) Dimension p q h k = absurd (k p.0)
  one_fault (Degree u r) (Count e n) p q h k = absurd (k.2 (k.0 ∙ p.1 ∙ sym k.1))
  one_fault (Degree u r) (Doubled u' r') p q h k = absurd (none_double p.2 u' r' k)
  one_fault (Degree u r) (Degree u' r') p q h k = let e = one_in_box G M.m (HasOtherDegree G H M) u u' r r' h k in λ i. Degree (e.0 i) (e.1 i)
  one_fault (Degree u r) (LostArc u' r' v s) p q h k = absurd (none_other q.3 u r h)
  one_fault (LostArc u r v s) Dimension p q h k = absurd (k p.0)
  one_fault (LostArc u r v s) (Count e n) p q h k = absurd (k.2 (k.0 ∙ p.1 ∙ sym k.1))
  one_fault (LostArc u r v s) (Doubled u' r') p q h k = absurd (none_double p.2 u' r' k)
  one_fault (LostArc u r v s) (Degree u' r') p q h k = absurd (none_other p.3 u' r' k)
  one_fault (LostArc u r v s) (LostArc u' r' v' s') p q h k = one_lost u v u' v' r s r' s' h k
  one_fault a b p q h k = absurd (h q.0)

  -- and so is the verdict
  verdict_of : (v w : Verdict) → IsVerdict G H M f v → IsVerdict G H M f w → v ≡ w
  verdict_of Yes Yes h k = refl
  verdict_of Yes (No b) h k = absurd (none_where_passed b h.0 h.1 k.1)
  verdict_of (No a) Yes h k = absurd (none_where_passed a k.0 k.1 h.1)
  verdict_of (No a) (No b) h k = ap (λ (fault : MapFault). No fault) (one_fault a b h.0 k.0 h.1 k.1)

-- two true verdicts on a map with a period are equal
pub one_verdict : (G H : Graph) (m : ℕ) (images : List Vertex) (rows : List Vector) (v w : Verdict) → 1 ≤ m → IsTold G H m images rows v
    → IsTold G H m images rows w → v ≡ w
one_verdict G H m images rows v w from h k =
    let f = drawn (table_for G m images rows) from in
    let t = drawn_by_table G (table_for G m images rows) from in
    verdict_of G H (table_for G m images rows) f v w (h f t) (k f t)

module _ (G H : Graph) (g : Shape G) (h : Shape H) (ig : IsGraph G) (ih : IsGraph H) where
  -- two tables have the same images
  one_images : (s t : StandardTable G H g h) → images_of G H g h s ≡ images_of G H g h t
  one_images s t =
      let same = one_standard_map G H g h s.carry t.carry ig ih s.standard t.standard in
      let inside = λ (w : Vertex) (i : IsIn (box_vertices G s.m) w). let b = box_inside G s.m ig.dimension w i in
      same w (record { over = b.over; cell = b.box.dimension }) in
      map_same s.carry t.carry (box_vertices G s.m) inside ∙ ap (λ (n : ℕ). map t.carry (box_vertices G n)) (one_period G H g h s t ig ih)

  -- and the same rows
  one_rows : (s t : StandardTable G H g h) → base_rows G.dimension s.shifts ≡ base_rows G.dimension t.shifts
  one_rows s t =
      let same = one_standard_map G H g h s.carry t.carry ig ih s.standard t.standard in
      let m = one_period G H g h s t ig ih in let o = vertex 1 (vector (pos 0) (pos 0) (pos 0)) in
      let io = origin_vertex G 1 (omega arith, ig.vertices) in let p = s.period.periodic in
      let q : IsPeriodic G H t.carry s.m t.shifts = subst (λ (n : ℕ). IsPeriodic G H t.carry n t.shifts) (sym m) t.period.periodic in
      rows_same G.dimension ig.dimension s.shifts t.shifts (λ k d.
      plus_cancel (s.carry o).cell (base_sum s.shifts k) (base_sum t.shifts k)
      (ap (λ (w : Vertex). w.cell) (sym (p.repeats o k io d) ∙ same (moved o (times (pos s.m) k))
      (moved_vertex G o (times (pos s.m) k) io (times_dimension G.dimension (pos s.m) k d)) ∙ q.repeats o k io d
      ∙ ap (λ (w : Vertex). moved w (base_sum t.shifts k)) (sym (same o io)))))

  -- two maps that are found are one
  one_found : (room : ℕ) (s t : PeriodicMap) → IsFound G H g h room s.m s.images s.base → IsFound G H g h room t.m t.images t.base → s ≡ t
  one_found room s t p q =
      let m = p.period ∙ one_period G H g h p.table q.table ig ih ∙ sym q.period in
      let images = p.images_are ∙ one_images p.table q.table ∙ sym q.images_are in
      let rows = p.rows_are ∙ one_rows p.table q.table ∙ sym q.rows_are in
      λ i. record { m = m i; images = images i; base = rows i }

  -- a table has no more images than there is room for, and more
  no_room : (room entries : ℕ) (l : IsLong G H g h room entries) (t : StandardTable G H g h) → entries_of G t.m ≤ room → ⊥
  no_room room entries l t r = let p = causes_exclude.long G H g h room entries t ig ih l in absurd (omega (arith, p, r))

  -- two answers are one
  one_answer : (room : ℕ) (s t : MapAnswer) → IsAnswerBy G H g h room s → IsAnswerBy G H g h room t → s ≡ t
  one_answer room Different Different p q = refl
  one_answer room (LongMap n) Different p q = absurd (causes_exclude.different G H g h q p.table)
  one_answer room (WideMap v) Different p q = absurd (causes_exclude.different G H g h q p.table)
  one_answer room (Found f) Different p q = absurd (causes_exclude.different G H g h q p.table)
  one_answer room (LongMap n) (LongMap k) p q = ap LongMap (p.count ∙ one_count G H g h p.table q.table ig ih ∙ sym q.count)
  one_answer room (LongMap n) (WideMap v) p q = absurd (no_room room n p q.table q.room_for)
  one_answer room (LongMap n) (Found f) p q = absurd (no_room room n p q.table q.room_for)
  one_answer room (WideMap v) (LongMap n) p q = absurd (no_room room n q p.table p.room_for)
  one_answer room (Found f) (LongMap n) p q = absurd (no_room room n q p.table p.room_for)
  one_answer room (WideMap v) (WideMap w) p q = ap WideMap (causes_exclude.one_wide G H g h room room v w ig ih p q)
  one_answer room (WideMap v) (Found f) p q = absurd (causes_exclude.wide G H g h room v room f.m f.images f.base ig ih p q)
  one_answer room (Found f) (WideMap v) p q = absurd (causes_exclude.wide G H g h room v room f.m f.images f.base ig ih q p)
  one_answer room (Found f) (Found k) p q = ap Found (one_found room f k p q)
  one_answer room s t p q = absurd (causes_exclude.different G H g h p q.table)

-- the answer to two nets is one, whatever nets stand for their graphs
pub one_answer_alike : (m m' n n' : KeyedNet) (room : ℕ) (s t : MapAnswer) → m.placed.graph ≡ m'.placed.graph → n.placed.graph ≡ n'.placed.graph
    → IsMapAnswer m n room s → IsMapAnswer m' n' room t → s ≡ t
one_answer_alike m m' n n' room s t e f p q =
    let G = m.placed.graph in let H = n.placed.graph in let g = shape_of m p.here in let h = shape_of n p.there in
    one_answer G H g h p.here.is_graph p.there.is_graph room s t p.by
    (answer_alike m'.placed.graph G n'.placed.graph H (shape_of m' q.here) g (shape_of n' q.there) h room t q.here.is_graph q.there.is_graph
    (sym e) (sym f) q.by)

-- two nets have one answer at most
pub one_map_answer : OneMapAnswer
one_map_answer a b room s t = one_answer_alike a a b b room s t refl refl
