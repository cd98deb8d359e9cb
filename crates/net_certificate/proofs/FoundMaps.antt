-- A map that is found passes the check, if it has no more images than are checked; and its table, from the sides of two nets with one key.
use Rattle.std.proofs.Common.{◌≡◌, ℕ, ◌≤◌, List, length, ap, subst, ◌∙◌, arith, get_or, ◌⊎◌, inl, inr, ℤ, pos, [], ◌∷◌, refl, sym, ◌<◌, ◌*◌, map}
use Rattle.std.specs.Prelude.{unsigned_abs, All, Result, IfOk}
use Rattle.std.{proofs.lemmas.Nat.Gcd.le_of_dvd, proofs.lemmas.List.length-map, specs.List.flat_map}
use Rattle.integers.specs.Vectors.{Vector, vector, zero_vector, parts, times, HasDimension, IsWithin}
use Rattle.integers.proofs.lists.Members.{IsIn, contains_from_in, all_from_in, append_left, append_right, in_map, pieces_in}
use Rattle.integers.specs.Bases.{Base, base_sum}
use Rattle.periodic_net.specs.Graph.{Graph, IsGraph, Vertex, vertex, moved, IsVertex}
use Rattle.periodic_net.specs.{Limits.most_vertices, Limits.IsSmall, Maps.IsInBox, Placement.Placement, Classes.ClassArc, Classes.ClassGraph}
use Rattle.key_theory.specs.Traversal.{axes_of, IsLeastScale, IsListOf}
use Rattle.key_theory.specs.Key.{Shape, IsLeastList}
use Rattle.least_key.specs.KeyedNets.{KeyedNet, IsKeyed}
use Rattle.map_check.specs.Conditions.{most_images, IsImage, IsShift, most_part, most_period}
use Rattle.map_check.specs.Layouts.{place_of, table_for, box_size}
use Rattle.map_check.{specs.declared.map.PeriodicMap.PeriodicMap, specs.Tables.IsBoxVertex, proofs.CallerLemmas.box_is_power}
use Rattle.standard_map.specs.MapNumbers.{IsFound, box_vertices, entries_of, StandardTable, base_rows, images_of, map_numbers, IsFirstPast}
use Rattle.standard_map.specs.StandardMaps.{framed_net, IsWrittenBy, AreCellImages, IsPeriodOf}
use Rattle.standard_map.specs.Sides.{NetSide, net_side, HaveOneKey, HaveParts, IsStandardBy}
use Rattle.standard_map.proofs.OneMap.{first_unit, second_unit, third_unit, one_list_of, standard_map_has_period, cell_images_give_period}
use Rattle.standard_map.proofs.Sides.{same_dimension, written_maps_pass, standard_map_exists}
use Rattle.standard_map.{specs.Laws.HaveOneList, specs.Laws.IsTableOfIsomorphism, specs.Turns.AreImageCells, specs.LeastPairs.IsLeastPair}
use Rattle.standard_map.{specs.LeastPairs.IsPairOf, proofs.CallerLemmas.arc_part}
use Rattle.sublattice.{specs.Sublattices.base_of, proofs.CallerLemmas.any_last}
use Rattle.quotient_graph.specs.PlacedNets.{PlacedNet}
use Rattle.net_certificate.specs.Answers.{IsMapAnswer, PassesIfFound, shape_of, IsPassing}
use Rattle.net_certificate.specs.declared.maps.MapAnswer.TheVariants.{Found, LongMap, WideMap}
use Rattle.net_certificate.proofs.BoxLists.{box_length, box_inside, vertex_stands, at_map, read_at}
use Rattle.net_certificate.specs.{Items.With, Items.IsWritable, Written.IsSideOf, Written.IsWritten, declared.maps.MapAnswer.MapAnswer}
use Rattle.net_certificate.specs.{Laws.FoundMapsPass, Tables.AreImages}

-- A map that is found, with the room that there was for it.

-- it has no more images than there is room for
pub found_few : (G H : Graph) (g : Shape G) (h : Shape H) (room m : ℕ) (images : List Vertex) (rows : List Vector) → IsGraph G
    → IsFound G H g h room m images rows → length images ≤ room
found_few G H g h room m images rows ig f =
    let t = f.table in
    let count : length images ≡ entries_of G t.m = ap length f.images_are ∙ length-map (box_vertices G t.m) t.carry ∙ box_length G t.m ig.dimension in
    let r = f.room_for in
    omega (arith, count, r)

-- so it is with an answer
pub answer_few : (a b : KeyedNet) (room : ℕ) (answer : MapAnswer) (M : PeriodicMap) → answer ≡ Found M → IsMapAnswer a b room answer → length M.images ≤ room
answer_few a b room answer M e is =
    let q = subst (IsMapAnswer a b room) e is in
    found_few a.placed.graph b.placed.graph (shape_of a q.here) (shape_of b q.there) room M.m M.images M.base q.here.is_graph q.by

-- and it can be written
pub answer_writable : (G H : Graph) (answer : MapAnswer) (M : PeriodicMap) → answer ≡ Found M → PassesIfFound G H answer → length M.images ≤ most_images
    → IsWritable (With H M)
answer_writable G H answer M e is few = search arith

-- what holds of all holds of a member
of_member : {X : Type 0} (P : X → Type 0) (xs : List X) (x : X) → All P xs → IsIn xs x → P x
of_member P xs x h i = let c = contains_from_in xs x i in subst P c.2 (h c.0 x c.1)

-- a vector whose parts are small, as many as the dimension has
parts_small : (d n : ℕ) (v : Vector) → (d ≡ 2) ⊎ (d ≡ 3) → HasDimension d v → ((x : ℤ) → IsIn (parts d v) x → unsigned_abs x ≤ n) → IsWithin n v
parts_small d n v c f h = search arith

-- the base of the rows of some shifts
rows_base : (d : ℕ) (b : Base) (k : Vector) → (d ≡ 2) ⊎ (d ≡ 3) → HasDimension d k → base_sum (base_of (base_rows d b)) k ≡ base_sum b k
rows_base d b k h l = grind (arith, any_last)

-- the number of rows
rows_count : (d : ℕ) (b : Base) → (d ≡ 2) ⊎ (d ≡ 3) → length (base_rows d b) ≡ d
rows_count d b h = search arith

-- each row is a sum along a unit vector
rows_flat : (d e : ℕ) (b : Base) → (d ≡ 2) ⊎ (d ≡ 3) → ((k : Vector) → HasDimension d k → HasDimension e (base_sum b k)) → (v : Vector)
    → IsIn (base_rows d b) v → HasDimension e v
rows_flat d e b c h v i = by c
  where
    first : HasDimension e b.first
    first = subst (HasDimension e) (first_unit b) (h (vector (pos 1) (pos 0) (pos 0)) (λ _. refl))

    second : HasDimension e b.second
    second = subst (HasDimension e) (second_unit b) (h (vector (pos 0) (pos 1) (pos 0)) (λ _. refl))

    third : d ≡ 3 → HasDimension e b.third
    third f = subst (HasDimension e) (third_unit b) (h (vector (pos 0) (pos 0) (pos 1)) (λ g. absurd (omega (arith, f, g))))

    two : IsIn (b.first ∷ b.second ∷ []) v → HasDimension e v
    two (inl q) = subst (HasDimension e) q first
    two (inr (inl q)) = subst (HasDimension e) q second
    two (inr (inr q)) = absurd q

    three : d ≡ 3 → IsIn (b.first ∷ b.second ∷ b.third ∷ []) v → HasDimension e v
    three f (inl q) = subst (HasDimension e) q first
    three f (inr (inl q)) = subst (HasDimension e) q second
    three f (inr (inr (inl q))) = subst (HasDimension e) q (third f)
    three f (inr (inr (inr q))) = absurd q

    by : (d ≡ 2) ⊎ (d ≡ 3) → HasDimension e v
    by (inl f) = two (subst (λ (n : ℕ). IsIn (base_rows n b) v) f i)
    by (inr f) = three f (subst (λ (n : ℕ). IsIn (base_rows n b) v) f i)

module _ (G H : Graph) (g : Shape G) (h : Shape H) (ig : IsGraph G) (ih : IsGraph H) (t : StandardTable G H g h) where
  l : HaveOneList G H (framed_net G g t.standard.start t.standard.frame) (framed_net H h t.standard.start' t.standard.frame')
  l = one_list_of G H g h ig ih t.carry t.standard

  -- the period is at most the number of vertices of the second graph
  period_within : t.m ≤ H.vertices
  period_within =
      let p = standard_map_has_period G H (framed_net G g t.standard.start t.standard.frame)
      (framed_net H h t.standard.start' t.standard.frame') t.carry l t.standard.carries in
      let a = t.period.least p.0 p.1 p.2.periodic in let b = p.3 in
      omega (arith, a, b)

  -- the nets have one dimension
  dimensions : G.dimension ≡ H.dimension
  dimensions = same_dimension G H (framed_net G g t.standard.start t.standard.frame) (framed_net H h t.standard.start' t.standard.frame') l

  -- an image is a vertex of the second net
  images_in : (x : Vertex) → IsIn (images_of G H g h t) x → IsVertex H x
  images_in x i =
      let w = in_map t.carry (box_vertices G t.m) x i in let b = box_inside G t.m ig.dimension w.0 w.1 in
      subst (IsVertex H) w.2 (t.standard.carries.into w.0 (record { over = b.over; cell = b.box.dimension }))

  module _ (room m : ℕ) (images : List Vertex) (rows : List Vector) (n : H.vertices ≤ most_vertices) (period : m ≡ t.m)
      (images_are : images ≡ images_of G H g h t)
      (rows_are : rows ≡ base_rows G.dimension t.shifts) (within : All (λ x. unsigned_abs x ≤ most_part) (map_numbers G.dimension images rows))
      (few : length images ≤ most_images) where
    -- a part of an image is small
    image_part : (x : Vertex) → IsIn images x → (v : ℤ) → IsIn (parts G.dimension x.cell) v → unsigned_abs v ≤ most_part
    image_part x i v j =
        of_member (λ z. unsigned_abs z ≤ most_part) (map_numbers G.dimension images rows) v within
        (append_left (flat_map (λ w. parts G.dimension w.cell) images) (flat_map (parts G.dimension) rows) v
        (pieces_in (λ w. parts G.dimension w.cell) images x v i j))

    -- so is one of a row
    row_part : (r : Vector) → IsIn rows r → (v : ℤ) → IsIn (parts G.dimension r) v → unsigned_abs v ≤ most_part
    row_part r i v j =
        of_member (λ z. unsigned_abs z ≤ most_part) (map_numbers G.dimension images rows) v within
        (append_right (flat_map (λ w. parts G.dimension w.cell) images) (flat_map (parts G.dimension) rows) v (pieces_in (parts G.dimension) rows r v i j))

    -- an image is one that can be checked
    image_suits : (x : Vertex) → IsIn images x → IsImage H.dimension H.vertices x
    image_suits x i =
        let v = images_in x (subst (λ (xs : List Vertex). IsIn xs x) images_are i) in
        record {
          from = v.over.0;
          to = v.over.1;
          flat = v.cell;
          small = parts_small G.dimension most_part x.cell ig.dimension (subst (λ (d : ℕ). HasDimension d x.cell) (sym dimensions) v.cell) (image_part x i);
        }

    -- the table of what is found
    table_written : IsWrittenBy G H t.carry (table_for G m images rows)
    table_written =
        let base = λ (k : Vector) (d : HasDimension G.dimension k). ap (λ (rs : List Vector). base_sum (base_of rs) k) rows_are
        ∙ rows_base G.dimension t.shifts k ig.dimension d in
        let p = t.period.periodic in
        record {
          period = record {
            periodic = record {
              positive = subst (λ (n : ℕ). 1 ≤ n) (sym period) p.positive;
              into = p.into;
              repeats = λ w k i d.
                  ap (λ (n : ℕ). t.carry (moved w (times (pos n) k))) period ∙ p.repeats w k i d ∙ ap (moved (t.carry w)) (sym (base k d));
            };
            least = λ k c q. subst (λ (n : ℕ). n ≤ k) (sym period) (t.period.least k c q);
          };
          images = λ u r q b.
              let inside : IsBoxVertex G t.m (vertex u r) = record { over = q; box = subst (λ (n : ℕ). IsInBox G.dimension n r) period b } in
              let stands = at_map t.carry (box_vertices G t.m) (place_of G.dimension t.m (vertex u r)) (vertex u r)
              (vertex_stands G t.m ig.dimension (vertex u r) inside) in
              ap (λ (n : ℕ). get_or images (place_of G.dimension n (vertex u r)) (vertex 0 zero_vector)) period
              ∙ ap (λ (xs : List Vertex). get_or xs (place_of G.dimension t.m (vertex u r)) (vertex 0 zero_vector)) images_are
              ∙ read_at (images_of G H g h t) (place_of G.dimension t.m (vertex u r)) (t.carry (vertex u r)) (vertex 0 zero_vector) stands;
        }

    -- it is a table of an isomorphism
    isomorphism : IsTableOfIsomorphism G H t.carry (table_for G m images rows)
    isomorphism =
        written_maps_pass G H (framed_net G g t.standard.start t.standard.frame) (framed_net H h t.standard.start' t.standard.frame') t.carry
        (table_for G m images rows) l t.standard.carries table_written

    -- a row is one that can be checked
    row_suits : (r : Vector) → IsIn rows r → IsShift H.dimension r
    row_suits r i =
        let flat = λ (k : Vector) (d : HasDimension G.dimension k).
        subst (HasDimension H.dimension) (ap (λ (rs : List Vector). base_sum (base_of rs) k) rows_are ∙ rows_base G.dimension t.shifts k ig.dimension d)
        (isomorphism.table.dimension k d) in
        let v = rows_flat G.dimension H.dimension t.shifts ig.dimension flat r (subst (λ (rs : List Vector). IsIn rs r) rows_are i) in
        record {
          dimension = v;
          small = parts_small G.dimension most_part r ig.dimension (subst (λ (d : ℕ). HasDimension d r) (sym dimensions) v) (row_part r i);
        }

    -- it passes
    passes : IsPassing G H m images rows
    passes = record {
      suits = record {
        period_from = subst (λ (n : ℕ). 1 ≤ n) (sym period) t.period.periodic.positive;
        period_to = let s = period_within in omega (arith, s, n, period);
        count = ap length images_are ∙ length-map (box_vertices G t.m) t.carry ∙ box_length G t.m ig.dimension ∙ ap (entries_of G) (sym period);
        few = few;
        each_image = all_from_in (IsImage H.dimension H.vertices) images image_suits;
        rows_count = ap length rows_are ∙ rows_count G.dimension t.shifts ig.dimension;
        each_row = all_from_in (IsShift H.dimension) rows row_suits;
      };
      yes = λ verdict v.
          let w = isomorphism in
          (v.exactly t.carry w.drawn).1 (record { period = w.periodic; bijection = w.bijection; joins = w.joins });
    }

-- a map that is found passes
pub found_maps_pass : FoundMapsPass
found_maps_pass G H g h room m images rows ig ih n f few =
    passes G H g h ig ih f.table room m images rows n f.period f.images_are f.rows_are f.within few

-- the third number of a list is the least scale
pub scale_told : (K : ClassGraph) (c : ℕ) (frame : List ClassArc) (xs : List _) (q : ℕ) → IsListOf K c frame xs → q ≡ unsigned_abs (get_or xs 2 (pos 0))
    → IsLeastScale K (axes_of frame) q
scale_told K c frame xs q l h = subst (IsLeastScale K (axes_of frame)) (sym (h ∙ ap (λ ys. unsigned_abs (get_or ys 2 (pos 0))) l.list)) l.scale

-- a side of a net, written out
abbrev written : KeyedNet → NetSide → NetSide
written n S = net_side n.placed S.origin S.frame S.scale

written_is : (n : KeyedNet) (S : NetSide) → S.net ≡ n.placed → written n S ≡ S
written_is n S e = λ i. net_side (sym e i) S.origin S.frame S.scale

-- each arc has a part
pub side_parts : (n : KeyedNet) (k : IsKeyed n) (S : NetSide) → IsSideOf n S → HaveParts S
side_parts n k S s =
    subst HaveParts (written_is n S s.net)
    (arc_part (written n S) (framed_net n.placed.graph (shape_of n k) s.start S.frame)
    (record { placement = refl; frame = refl; origin = s.origin; scale = s.scale }))

module _ (a b : KeyedNet) (ka : IsKeyed a) (kb : IsKeyed b) (S T : NetSide) (s : IsSideOf a S) (t : IsSideOf b T) (e : a.key ≡ b.key) where
  abbrev G : Graph
  G = a.placed.graph

  abbrev H : Graph
  H = b.placed.graph

  -- the sides, written out, have one key
  abbrev written_key : HaveOneKey (written a S) (written b T)
  written_key = record {
    here = framed_net a.placed.graph (shape_of a ka) s.start S.frame;
    there = framed_net b.placed.graph (shape_of b kb) t.start T.frame;
    same_here = record { placement = refl; frame = refl; origin = s.origin; scale = s.scale };
    same_there = record { placement = refl; frame = refl; origin = t.origin; scale = t.scale };
    one_list = record {
      here = ka.is_graph;
      there = kb.is_graph;
      list = a.key;
      pair_here = s.pair.pair;
      pair_there = subst (λ xs. IsPairOf b.classes.classes xs t.start T.frame) (sym e) t.pair.pair;
    };
    scale = s.scale_is ∙ ap (λ xs. unsigned_abs (get_or xs 2 (pos 0))) e ∙ sym t.scale_is;
  }

  -- so the sides have
  pub one_key : HaveOneKey S T
  one_key = subst (λ N. HaveOneKey S N) (written_is b T t.net) (subst (λ M. HaveOneKey M (written b T)) (written_is a S s.net) written_key)

  -- a table of their standard map
  record TableBy (m : ℕ) (shifts : Base) : Type 0 where
    table : StandardTable a.placed.graph b.placed.graph (shape_of a ka) (shape_of b kb)
    by : IsStandardBy S T table.carry
    period : table.m ≡ m
    rows : table.shifts ≡ shifts

  side_table : (C : Base) → AreImageCells S T C → (m : ℕ) (shifts : Base) → IsPeriodOf T.net.placement.denominator C m shifts → TableBy m shifts
  side_table C c m shifts p =
      let k = written_key in
      let f = standard_map_exists a.placed.graph b.placed.graph k.here k.there k.one_list in
      let by : IsStandardBy (written a S) (written b T) f.0 = record { one_key = k; standard = f.1 } in
      let by' : IsStandardBy S T f.0 = subst (λ N. IsStandardBy S N f.0) (written_is b T t.net)
      (subst (λ M. IsStandardBy M (written b T) f.0) (written_is a S s.net) by) in
      let cells = subst (λ N. AreImageCells (written a S) N C) (sym (written_is b T t.net))
      (subst (λ M. AreImageCells M T C) (sym (written_is a S s.net)) c) f.0 by in
      let p' = subst (λ (n : PlacedNet). IsPeriodOf n.placement.denominator C m shifts) t.net p in
      let r = cell_images_give_period a.placed.graph b.placed.graph k.here k.there f.0 C m shifts k.one_list f.1 cells.0 cells.1 p' in
      record {
        table = record {
          carry = f.0;
          standard = record {
            key = a.key;
            start = s.start;
            frame = S.frame;
            start' = t.start;
            frame' = T.frame;
            here = record { least_list = ka.key; pair = s.pair };
            there = record {
              least_list = subst (IsLeastList b.classes.classes) (sym e) kb.key;
              pair = subst (λ xs. IsLeastPair b.classes.classes xs t.start T.frame) (sym e) t.pair;
            };
            carries = f.1;
          };
          m = m;
          shifts = shifts;
          period = r.0;
        };
        by = by';
        period = refl;
        rows = refl;
      }

  module _ (C : Base) (c : AreImageCells S T C) (m : ℕ) (shifts : Base) (p : IsPeriodOf T.net.placement.denominator C m shifts) (room n : ℕ)
      (count : n ≡ S.net.graph.vertices * box_size S.net.graph.dimension m) where
    -- the number of the images
    count_is : (d : TableBy m shifts) → n ≡ entries_of a.placed.graph d.table.m
    count_is d =
        count ∙ ap (λ (q : PlacedNet). q.graph.vertices * box_size q.graph.dimension m) s.net
        ∙ ap (λ k. a.placed.graph.vertices * k) (box_is_power a.placed.graph.dimension m ka.is_graph.dimension) ∙ ap (entries_of a.placed.graph) (sym d.period)

    -- the images
    images_is : (d : TableBy m shifts) (images : List Vertex) → AreImages S T m images
        → images ≡ images_of a.placed.graph b.placed.graph (shape_of a ka) (shape_of b kb) d.table
    images_is d images i =
        i d.table.carry d.by ∙ ap (λ (q : PlacedNet). map d.table.carry (box_vertices q.graph m)) s.net
        ∙ ap (λ k. map d.table.carry (box_vertices a.placed.graph k)) (sym d.period)

    -- the rows
    rows_is : (d : TableBy m shifts) (rows : List Vector) → rows ≡ base_rows S.net.graph.dimension shifts
        → rows ≡ base_rows a.placed.graph.dimension d.table.shifts
    rows_is d rows r = r ∙ ap (λ (q : PlacedNet). base_rows q.graph.dimension shifts) s.net ∙ ap (base_rows a.placed.graph.dimension) (sym d.rows)

    -- a long map
    pub long_due : room < n → IsMapAnswer a b room (LongMap n)
    long_due l = let d = side_table C c m shifts p in record { here = ka; there = kb; by = record { table = d.table; count = count_is d; past = l } }

    -- a map that there is room for
    pub written_due : n ≤ room → (images : List Vertex) (rows : List Vector) → AreImages S T m images → rows ≡ base_rows S.net.graph.dimension shifts
        → (answer : MapAnswer) → IsWritten S.net.graph.dimension m images rows answer → IsMapAnswer a b room answer
    written_due l images rows i r (WideMap v) w =
        let d = side_table C c m shifts p in let is = images_is d images i in let rs = rows_is d rows r in
        record {
          here = ka;
          there = kb;
          by = record {
            table = d.table;
            room_for = subst (λ k. k ≤ room) (count_is d) l;
            first = subst (λ (xs : List ℤ). IsFirstPast most_part xs v) (λ j. map_numbers (s.net j).graph.dimension (is j) (rs j)) w;
          };
        }
    written_due l images rows i r (Found f) w =
        let d = side_table C c m shifts p in let is = images_is d images i in let rs = rows_is d rows r in
        record {
          here = ka;
          there = kb;
          by = record {
            table = d.table;
            room_for = subst (λ k. k ≤ room) (count_is d) l;
            period = w.0 ∙ sym d.period;
            images_are = w.1 ∙ is;
            rows_are = w.2 ∙ rs;
            within = subst (All (λ x. unsigned_abs x ≤ most_part)) (λ j. map_numbers (s.net j).graph.dimension (sym w.1 j) (sym w.2 j)) w.3;
          };
        }
    written_due l images rows i r answer w = absurd w

-- an answer passes
pub passes_due : (a b : KeyedNet) (room : ℕ) (answer : MapAnswer) → IsMapAnswer a b room answer → b.placed.graph.vertices ≤ most_vertices
    → PassesIfFound a.placed.graph b.placed.graph answer
passes_due a b room (Found f) m n = λ few.
    found_maps_pass a.placed.graph b.placed.graph (shape_of a m.here) (shape_of b m.there) room f.m f.images f.base m.here.is_graph m.there.is_graph n m.by few
passes_due a b room answer m n = tt

-- the least period is within the limit
pub period_small : (S T : NetSide) → HaveOneKey S T → (C : Base) → AreImageCells S T C → (m : ℕ) (shifts : Base)
    → IsPeriodOf T.net.placement.denominator C m shifts
    → (1 ≤ m) × (m ≤ T.net.graph.vertices)
period_small S T k C c m shifts p =
    let f = standard_map_exists S.net.graph T.net.graph k.here k.there k.one_list in
    let cells = c f.0 (record { one_key = k; standard = f.1 }) in let q = sym k.same_there.placement in
    let r = cell_images_give_period S.net.graph T.net.graph k.here k.there f.0 C m shifts k.one_list f.1
    (subst (λ (t : Placement). AreCellImages S.net.graph T.net.graph t f.0 C) q cells.0) cells.1
    (subst (λ (t : Placement). IsPeriodOf t.denominator C m shifts) q p) in
    (r.0.periodic.positive, le_of_dvd k.one_list.there.vertices r.1)

pub period_limit : (S T : NetSide) → HaveOneKey S T → (C : Base) → AreImageCells S T C → (m : ℕ) (shifts : Base)
    → IsPeriodOf T.net.placement.denominator C m shifts
    → (H : Graph) → H ≡ T.net.graph → IsSmall H → m ≤ most_period
period_limit S T k C c m shifts p H e h =
    let a = (period_small S T k C c m shifts p).1 in let b = h.vertices in
    let f = ap (λ (G : Graph). G.vertices) e in
    omega (arith, a, b, f)

-- what an answer gives, if there is one
pub if_ok : {X E : Type 0} (P Q : X → Type 0) → ((x : X) → P x → Q x) → (r : Result X E) → IfOk r P → IfOk r Q
if_ok P Q k r l = search arith
