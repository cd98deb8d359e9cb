-- A search of a shell in a box: the marks of what is found, with one vertex more and taken back, and its turns.
use Rattle.std.proofs.Common.{◌≡◌, ◌≢◌, ◌⊎◌, inl, inr, ℕ, suc, ◌+◌, ◌<◌, ◌≤◌, List, [], ◌∷◌, ◌++◌, length, get_or, set, drop, Bool, true, false, refl, sym}
use Rattle.std.proofs.Common.{ap, subst, ◌∙◌, arith, get_or-set_other, get_or-set_same, length-set, drop-cons, map, cond, ℤ, pos, ◌+ℤ◌, ◌≤ℤ◌, ◌<ℤ◌, ◌-◌}
use Rattle.std.proofs.Common.{Some, append-nil, length-append, length-drop}
use Rattle.std.proofs.lemmas.List.{drop_all, map-append, get_or-drop, get_or-map, get_or_append_left, length-map}
use Rattle.std.specs.List.{Contains, All, between}
use Rattle.std.{proofs.Math.Decide.ℕ_discrete, proofs.lemmas.Int.ints, proofs.lemmas.Option.get_or_from_slice_get, proofs.lemmas.List.Edits.between_none}
use Rattle.std.{proofs.lemmas.List.Edits.between_more, specs.Prelude.unsigned_abs, specs.Prelude.slice_get}
use Prim.{Dec, yes, no}
use Rattle.integers.proofs.lists.Members.{IsIn, is_in, contains_from_in, in_append, append_left, append_right, in_at, in_map, map_in, all_from_in}
use Rattle.integers.proofs.lists.GrownLists.{Grows, grows_none, grows_old, grows_new}
use Rattle.integers.specs.Vectors.{zero_vector}
use Rattle.coordination.specs.Marks.{is_marked, AreMarked, IsUnmarked, all_marks, all_spots, IsLandingWithin, place_along, spot_along, spots_along}
use Rattle.coordination.specs.Boxes.{IsBoxOf, IsInside, place_in, spot_in, growth_of, size_of, step_of, steps_from}
use Rattle.coordination.specs.BoxSearches.{AreFoundAndMarked, IsOpen, IsFoundNext, IsSearchable}
use Rattle.coordination.proofs.Boxes.{place_below, place_once, place_grows}
use Rattle.coordination.proofs.Layers.{AreSearched, search_starts, search_more, search_ends, search_stops, ends, vertices_around}
use Rattle.coordination.specs.declared.{spot.Spot.Spot, spot.Step.Step, net_box.NetBox.NetBox}
use Rattle.periodic_net.specs.Graph.{Graph, Vertex, Arc, arcs_from, vertex, AreJoined}
use Rattle.periodic_net.proofs.CallerLemmas.{arc_inside, between_end, end_joined, end_of, from_is_arc}

module _ (marks : List Bool) (at : ℕ) (l : at < length marks) (v : Bool) where
  -- a mark that was written
  written : (i : ℕ) → i ≡ at → is_marked (set marks at v) i ≡ v
  written i e = ap (λ j. is_marked (set marks at v) j) e ∙ get_or-set_same marks at v false l

  -- and the others
  unwritten : (i : ℕ) → i ≢ at → is_marked (set marks at v) i ≡ is_marked marks i
  unwritten i n = get_or-set_other marks at i v false n

-- with the mark of s, and s last
pub marked_more : (marks : List Bool) (found : List Spot) (s : Spot) → AreMarked marks found → s.at < length marks
    → AreMarked (set marks s.at true) (found ++ s ∷ [])
marked_more marks found s h l = record {
  within = λ t c. subst (λ n. t.at < n) (sym (length-set marks s.at true)) (within t (in_append found (s ∷ []) t (is_in (found ++ s ∷ []) t c)));
  marked = λ t c. marked t (ℕ_discrete t.at s.at) (in_append found (s ∷ []) t (is_in (found ++ s ∷ []) t c));
  found_at = λ i b m. found_at i (subst (λ n. i < n) (length-set marks s.at true) b) m (ℕ_discrete i s.at);
}
  where
    within : (t : Spot) → IsIn found t ⊎ IsIn (s ∷ []) t → t.at < length marks
    within t (inl i) = h.within t (contains_from_in found t i)
    within t (inr (inl e)) = subst (λ (u : Spot). u.at < length marks) e l
    within t (inr (inr i)) = absurd i

    marked : (t : Spot) → Dec (t.at ≡ s.at) → IsIn found t ⊎ IsIn (s ∷ []) t → is_marked (set marks s.at true) t.at ≡ true
    marked t (yes e) c = written marks s.at l true t.at e
    marked t (no n) (inl i) = unwritten marks s.at l true t.at n ∙ h.marked t (contains_from_in found t i)
    marked t (no n) (inr (inl e)) = absurd (n (sym (ap (λ (u : Spot). u.at) e)))
    marked t (no n) (inr (inr i)) = absurd i

    found_at : (i : ℕ) → i < length marks → is_marked (set marks s.at true) i ≡ true → Dec (i ≡ s.at) → (t : Spot) × Contains (found ++ s ∷ []) t × (t.at ≡ i)
    found_at i b m (yes e) = (s, contains_from_in (found ++ s ∷ []) s (append_right found (s ∷ []) s (inl refl)), sym e)
    found_at i b m (no n) =
        let r = h.found_at i b (sym (unwritten marks s.at l true i n) ∙ m) in
        (r.0, contains_from_in (found ++ s ∷ []) r.0 (append_left found (s ∷ []) r.0 (is_in found r.0 r.1)), r.2)

-- the marks of what is found from place k on are not taken back yet, and no others stand
pub record AreLeft (marks : List Bool) (found : List Spot) (k n : ℕ) : Type 0 where
  pub count : length marks ≡ n
  pub within : (s : Spot) → IsIn found s → s.at < n
  pub left : (i : ℕ) → i < n → is_marked marks i ≡ true → (s : Spot) × IsIn (drop k found) s × (s.at ≡ i)

-- at first none is taken back
pub left_all : (marks : List Bool) (found : List Spot) → AreMarked marks found → AreLeft marks found 0 (length marks)
left_all marks found h = record {
  count = refl;
  within = λ s i. h.within s (contains_from_in found s i);
  left = λ i l m. let r = h.found_at i l m in (r.0, is_in found r.0 r.1, r.2);
}

-- the next that is taken back is one of the marks
pub left_within : (marks : List Bool) (found : List Spot) (k n : ℕ) (d : Spot) → AreLeft marks found k n → k < length found
    → (get_or found k d).at < length marks
left_within marks found k n d h l = subst (λ t. (get_or found k d).at < t) (sym h.count) (h.within (get_or found k d) (in_at found k d l))

-- one mark is taken back
pub left_fewer : (marks : List Bool) (found : List Spot) (k n : ℕ) (d : Spot) → AreLeft marks found k n → k < length found
    → AreLeft (set marks (get_or found k d).at false) found (k + 1) n
left_fewer marks found k n d h l = record {
  count = length-set marks s.at false ∙ h.count;
  within = h.within;
  left = λ i c m. left i c m (ℕ_discrete i s.at);
}
  where
    s : Spot
    s = get_or found k d

    inside : s.at < length marks
    inside = left_within marks found k n d h l

    split : drop k found ≡ s ∷ drop (k + 1) found
    split =
        let one : suc k ≡ k + 1 = omega arith in drop-cons found k d l ∙ ap (λ (j : ℕ). s ∷ drop j found) one

    rest : (t : Spot) → IsIn (drop k found) t → (s ≡ t) ⊎ IsIn (drop (k + 1) found) t
    rest t i = by (subst (λ (ts : List Spot). IsIn ts t) split i)
      where
        by : IsIn (s ∷ drop (k + 1) found) t → (s ≡ t) ⊎ IsIn (drop (k + 1) found) t
        by j = j

    left : (i : ℕ) → i < n → is_marked (set marks s.at false) i ≡ true → Dec (i ≡ s.at) → (t : Spot) × IsIn (drop (k + 1) found) t × (t.at ≡ i)
    left i c m (yes q) = absurd (let f = sym (written marks s.at inside false i q) ∙ m in cc)
    left i c m (no q) = by (h.left i c (sym (unwritten marks s.at inside false i q) ∙ m))
      where
        by : (t : Spot) × IsIn (drop k found) t × (t.at ≡ i) → (t : Spot) × IsIn (drop (k + 1) found) t × (t.at ≡ i)
        by r = pick (rest r.0 r.1)
          where
            pick : (s ≡ r.0) ⊎ IsIn (drop (k + 1) found) r.0 → (t : Spot) × IsIn (drop (k + 1) found) t × (t.at ≡ i)
            pick h = search arith

-- at the end nothing is marked
pub left_none : (marks : List Bool) (found : List Spot) (k n : ℕ) → AreLeft marks found k n → length found ≤ k → IsUnmarked marks
left_none marks found k n h l i c = search (arith, drop_all)

-- what is not marked is nothing that was found
pub unmarked_marked : (marks : List Bool) → IsUnmarked marks → AreMarked marks []
unmarked_marked marks h = record {
  within = λ s c. absurd (is_in [] s c);
  marked = λ s c. absurd (is_in [] s c);
  found_at = λ i l m. absurd (let f = sym (h i l) ∙ m in cc);
}

-- The vertices that a search in a box finds along steps.

module _ (P : Graph) (b : NetBox) (q : IsBoxOf P b) where
  -- the spot of a vertex
  abbrev pub spot : Vertex → Spot
  spot = spot_in P.vertices b.extent

  -- a vertex of the box has a mark of its own
  pub spot_inside : (x : Vertex) (marks : List Bool) → length marks ≡ b.size → IsInside P.vertices b.extent x → (spot x).at < length marks
  spot_inside x marks e i = subst (λ n. place_in P.vertices b.extent x < n) (sym (e ∙ q.size)) (place_below P.vertices b.extent x i)

  -- one vertex more
  pub found_more : (vertices : List Vertex) (marks : List Bool) (found : List Spot) (x : Vertex) → AreFoundAndMarked P b vertices marks found
      → IsInside P.vertices b.extent x
      → AreFoundAndMarked P b (vertices ++ x ∷ []) (set marks (spot x).at true) (found ++ spot x ∷ [])
  found_more vertices marks found x h i = record {
    size = length-set marks (spot x).at true ∙ h.size;
    inside = λ y c. inside y (in_append vertices (x ∷ []) y (is_in (vertices ++ x ∷ []) y c));
    spots = map-append spot vertices (x ∷ []) ∙ ap (λ (ss : List Spot). ss ++ spot x ∷ []) h.spots;
    marked = marked_more marks found (spot x) h.marked (spot_inside x marks h.size i);
  }
    where
      inside : (y : Vertex) → IsIn vertices y ⊎ IsIn (x ∷ []) y → IsInside P.vertices b.extent y
      inside y (inl j) = h.inside y (contains_from_in vertices y j)
      inside y (inr (inl e)) = subst (IsInside P.vertices b.extent) e i
      inside y (inr (inr j)) = absurd j

  module _ (vertices : List Vertex) (marks : List Bool) (found : List Spot) (h : AreFoundAndMarked P b vertices marks found) (x : Vertex)
      (i : IsInside P.vertices b.extent x) where
    -- a vertex that is marked was found
    was_found : is_marked marks (spot x).at ≡ true → IsIn vertices x
    was_found m =
        let r = h.marked.found_at (spot x).at (spot_inside x marks h.size i) m in
        let y = in_map spot vertices r.0 (subst (λ (ss : List Spot). IsIn ss r.0) (sym h.spots) (is_in found r.0 r.1)) in
        let same = place_once P.vertices b.extent y.0 x (h.inside y.0 (contains_from_in vertices y.0 y.1)) i (ap (λ (s : Spot). s.at) y.2 ∙ r.2) in
        subst (IsIn vertices) same y.1

    -- and one that is not was not
    was_not_found : is_marked marks (spot x).at ≡ false → ¬ IsIn vertices x
    was_not_found m j =
        let c = contains_from_in found (spot x) (subst (λ (ss : List Spot). IsIn ss (spot x)) h.spots (map_in spot vertices x j)) in
        let t : true ≡ false = sym (h.marked.marked (spot x) c) ∙ m in cc

  -- the vertices that are found, and those that are new, with these
  pub record Marked (xs vertices next : List Vertex) (marks : List Bool) (found : List Spot) : Type 0 where
    pub vertices' : List Vertex
    pub next' : List Vertex
    pub grows : Grows xs vertices next vertices' next'
    pub is_found : AreFoundAndMarked P b vertices' marks found

  -- all of some vertices are marked
  pub mark_all : (xs vertices next : List Vertex) (marks : List Bool) (found : List Spot) → AreFoundAndMarked P b vertices marks found
      → ((x : Vertex) → IsIn xs x → IsInside P.vertices b.extent x)
      → Marked xs vertices next (all_marks marks (map spot xs)) (all_spots marks found (map spot xs))
  mark_all [] vertices next marks found h i = record { vertices' = vertices; next' = next; grows = grows_none vertices next; is_found = h }
  mark_all (x ∷ xs) vertices next marks found h i =
      by (is_marked marks (spot x).at) refl
      (mark_all xs vertices next marks found h (λ y j. i y (inr j)))
      (mark_all xs (vertices ++ x ∷ []) (next ++ x ∷ []) (set marks (spot x).at true) (found ++ spot x ∷ [])
      (found_more vertices marks found x h (i x (inl refl))) (λ y j. i y (inr j)))
    where
      by : (m : Bool) → is_marked marks (spot x).at ≡ m → Marked xs vertices next (all_marks marks (map spot xs)) (all_spots marks found (map spot xs))
          → Marked xs (vertices ++ x ∷ []) (next ++ x ∷ []) (all_marks (set marks (spot x).at true) (map spot xs))
          (all_spots (set marks (spot x).at true) (found ++ spot x ∷ []) (map spot xs))
          → Marked (x ∷ xs) vertices next (all_marks (cond m marks (set marks (spot x).at true)) (map spot xs))
          (all_spots (cond m marks (set marks (spot x).at true)) (cond m found (found ++ spot x ∷ [])) (map spot xs))
      by true e old new = record {
        vertices' = old.vertices';
        next' = old.next';
        grows = grows_old x xs vertices next old.vertices' old.next' (was_found vertices marks found h x (i x (inl refl)) e) old.grows;
        is_found = old.is_found;
      }
      by false e old new = record {
        vertices' = new.vertices';
        next' = new.next';
        grows = grows_new x xs vertices next new.vertices' new.next' (was_not_found vertices marks found h x (i x (inl refl)) e) new.grows;
        is_found = new.is_found;
      }

-- The steps from a vertex of a box lead to the vertices that it is joined to.

module _ (P : Graph) (b : NetBox) (q : IsBoxOf P b) (x : Vertex) (i : IsInside P.vertices b.extent x) (o : IsOpen P b x) where
  -- the end of an arc from x is in the box
  pub end_inside : (a : Arc) → IsIn (arcs_from P x.over) a → IsInside P.vertices b.extent (end_of x a)
  end_inside a j =
      let r = from_is_arc P x.over a j in let t = (arc_inside P q.is_graph a r.0).to in
      record { low = t.0; high = t.1; cell = o (end_of x a) (end_joined P x a r.0 r.1) }

  -- the number to which the step along it leads
  lands_at : (a : Arc) → IsIn (arcs_from P x.over) a → place_along (spot_in P.vertices b.extent x) (step_of P.vertices b.extent a) ≡ pos
      (place_in P.vertices b.extent (end_of x a))
  lands_at a j =
      let r = from_is_arc P x.over a j in
      subst (λ (t : Arc). pos (place_in P.vertices b.extent x) +ℤ growth_of P.vertices b.extent t ≡ pos (place_in P.vertices b.extent (end_of x a)))
      (between_end x a r.1)
      (place_grows P.vertices b.extent x (end_of x a) i (end_inside a j))

  -- so it leads to the spot of the end
  leads_to : (a : Arc) → IsIn (arcs_from P x.over) a → spot_along (spot_in P.vertices b.extent x) (step_of P.vertices b.extent a) ≡ spot_in P.vertices b.extent
      (end_of x a)
  leads_to a j = λ k. record { over = a.to; at = unsigned_abs (lands_at a j k) }

  -- and to one of the marks
  lands : (n : ℕ) → n ≡ b.size → (a : Arc) → IsIn (arcs_from P x.over) a → IsLandingWithin n (spot_in P.vertices b.extent x) (step_of P.vertices b.extent a)
  lands n e a j =
      let at = lands_at a j in let below = place_below P.vertices b.extent (end_of x a) (end_inside a j) in
      let t = place_along (spot_in P.vertices b.extent x) (step_of P.vertices b.extent a) in
      let m = place_in P.vertices b.extent (end_of x a) in
      record { low = low t m at; high = high t m (size_of P.vertices b.extent) at below (e ∙ q.size) }
    where
      low : (t : ℤ) (m : ℕ) → t ≡ pos m → pos 0 ≤ℤ t
      low t m at = omega (arith, ints, at)

      high : (t : ℤ) (m s : ℕ) → t ≡ pos m → m < s → n ≡ s → t <ℤ pos n
      high t m s at below same = omega (arith, ints, at, below, same)

  -- the same of several arcs
  lead_to : (as' : List Arc) → ((a : Arc) → IsIn as' a → IsIn (arcs_from P x.over) a)
      → map (spot_along (spot_in P.vertices b.extent x)) (map (step_of P.vertices b.extent) as') ≡ map (spot_in P.vertices b.extent) (map (end_of x) as')
  lead_to [] h = refl
  lead_to (a ∷ as') h = let e = leads_to a (h a (inl refl)) in let f = lead_to as' (λ c j. h c (inr j)) in λ k. e k ∷ f k

  module _ (star : List Step) (s : star ≡ steps_from P.vertices b.extent x.over P.edges) where
    -- the steps from x lead to the spots of the ends
    pub spots_of_ends : spots_along (spot_in P.vertices b.extent x) star ≡ map (spot_in P.vertices b.extent) (ends P x)
    spots_of_ends = ap (map (spot_along (spot_in P.vertices b.extent x))) s ∙ lead_to (arcs_from P x.over) (λ a j. j)

    -- and to the marks
    pub star_lands : (n : ℕ) → n ≡ b.size → All (IsLandingWithin n (spot_in P.vertices b.extent x)) star
    star_lands n e = subst (All (IsLandingWithin n (spot_in P.vertices b.extent x))) (sym s)
        (all_from_in (IsLandingWithin n (spot_in P.vertices b.extent x)) (map (step_of P.vertices b.extent) (arcs_from P x.over))
        (λ t j. by t (in_map (step_of P.vertices b.extent) (arcs_from P x.over) t j)))
      where
        by : (t : Step) → (a : Arc) × IsIn (arcs_from P x.over) a × (step_of P.vertices b.extent a ≡ t) → IsLandingWithin n (spot_in P.vertices b.extent x) t
        by t r = subst (IsLandingWithin n (spot_in P.vertices b.extent x)) r.2 (lands n e r.0 r.1)

-- the steps from some vertices were made, and found these
pub record IsSearching (P : Graph) (b : NetBox) (vertices done : List Vertex) (marks : List Bool) (found : List Spot) : Type 0 where
  pub next : List Vertex
  pub is_found : AreFoundAndMarked P b (vertices ++ next) marks found
  pub searched : AreSearched (AreJoined P) done vertices (vertices ++ next) next

-- each vertex of the box has a list of steps
pub star_within : (P : Graph) (b : NetBox) → IsBoxOf P b → (x : Vertex) → IsInside P.vertices b.extent x → x.over - 1 < length b.stars
star_within P b q x i = let n = q.stars.count in let low = i.low in let high = i.high in omega (arith, n)

module _ {P : Graph} {b : NetBox} {vertices : List Vertex} {first_marks : List Bool} {first_found : List Spot} {begin : ℕ}
    (h : IsSearchable P b vertices first_marks first_found begin) where
  -- no step was made yet
  pub searching_starts : IsSearching P b vertices (between begin begin vertices) first_marks first_found
  searching_starts = record {
    next = [];
    is_found = subst (λ (xs : List Vertex). AreFoundAndMarked P b xs first_marks first_found) (sym (append-nil vertices)) h.is_found;
    searched = rw (between_none vertices begin) (rw (append-nil vertices) (search_starts (AreJoined P) vertices [] h.once refl));
  }

  -- as many vertices were found
  pub as_many : length first_found ≡ length vertices
  as_many = sym (ap length h.is_found.spots) ∙ length-map vertices (spot_in P.vertices b.extent)

  module _ (i : ℕ) {marks : List Bool} {found : List Spot} (s : IsSearching P b vertices (between begin i vertices) marks found) where
    -- more vertices were found since
    many_more : length found ≡ length vertices + length s.next
    many_more = sym (ap length s.is_found.spots) ∙ length-map (vertices ++ s.next) (spot_in P.vertices b.extent) ∙ length-append vertices s.next

    -- the vertex from which steps are made next
    pub record IsNext (from : Spot) : Type 0 where
      pub at : Vertex
      pub inside : IsInside P.vertices b.extent at
      pub is_open : IsOpen P b at
      pub spot : spot_in P.vertices b.extent at ≡ from
      pub place : between begin (i + 1) vertices ≡ between begin i vertices ++ at ∷ []

    -- it stands at place i
    pub next_at : {from : Spot} → from ≡ get_or found i from → begin ≤ i → (n : ℕ) → n ≡ length first_found → i < n → IsNext from
    next_at {from} e low n many l' = record {
      at = x;
      inside = h.is_found.inside x (contains_from_in vertices x (in_at vertices i o l));
      is_open = h.open_from x (contains_from_in (drop begin vertices) x (in_drop vertices begin i low l));
      spot = sym (get_or-map (spot_in P.vertices b.extent) vertices i o from l)
          ∙ sym (get_or_append_left (map (spot_in P.vertices b.extent) vertices) (map (spot_in P.vertices b.extent) s.next) from i
          (subst (λ m. i < m) (sym (length-map vertices (spot_in P.vertices b.extent))) l))
          ∙ ap (λ (ss : List Spot). get_or ss i from) (sym (map-append (spot_in P.vertices b.extent) vertices s.next) ∙ s.is_found.spots) ∙ sym e;
      place = between_more vertices begin i o low l;
    }
      where
        l : i < length vertices
        l = omega (arith, as_many, many, l')

        o : Vertex
        o = vertex 0 zero_vector

        x : Vertex
        x = get_or vertices i o

        in_drop : (xs : List Vertex) (j k : ℕ) → j ≤ k → k < length xs → IsIn (drop j xs) (get_or xs k o)
        in_drop xs j k m l = subst (λ (y : Vertex). IsIn (drop j xs) y)
            (get_or-drop j xs (k - j) o ∙ ap (λ n. get_or xs n o) (let e : j + (k - j) ≡ k = omega arith in e))
            (in_at (drop j xs) (k - j) o (let e = length-drop j xs in omega (arith, e)))

    module _ {from : Spot} (n : IsNext from) {star : List Step} (t : slice_get b.stars (from.over - 1) ≡ Some star) where
      -- the steps from it
      star_is : star ≡ steps_from P.vertices b.extent n.at.over P.edges
      star_is =
          let over : from.over ≡ n.at.over = sym (ap (λ (r : Spot). r.over) n.spot) in
          sym (get_or_from_slice_get b.stars (from.over - 1) star [] t) ∙ ap (λ c. get_or b.stars (c - 1) []) over
          ∙ h.is_box.stars.each n.at.over (n.inside.low, n.inside.high)

      -- they lead to marks
      pub next_lands : (m : ℕ) → m ≡ b.size → All (IsLandingWithin m from) star
      next_lands m e = subst (λ (r : Spot). All (IsLandingWithin m r) star) n.spot (star_lands P b h.is_box n.at n.inside n.is_open star star_is m e)

      -- the steps are made
      pub searching_on : (marks' : List Bool) (found' : List Spot) → marks' ≡ all_marks marks (spots_along from star)
          → found' ≡ all_spots marks found (spots_along from star)
          → IsSearching P b vertices (between begin (i + 1) vertices) marks' found'
      searching_on marks' found' e f =
          let targets : spots_along from star ≡ map (spot_in P.vertices b.extent) (ends P n.at) =
          ap (λ (r : Spot). spots_along r star) (sym n.spot) ∙ spots_of_ends P b h.is_box n.at n.inside n.is_open star star_is in
          by (mark_all P b h.is_box (ends P n.at) (vertices ++ s.next) s.next marks found s.is_found
          (λ y j. ends_inside y (in_map (end_of n.at) (arcs_from P n.at.over) y j)))
          (e ∙ ap (all_marks marks) targets) (f ∙ ap (all_spots marks found) targets)
        where
          ends_inside : (y : Vertex) → (a : Arc) × IsIn (arcs_from P n.at.over) a × (end_of n.at a ≡ y) → IsInside P.vertices b.extent y
          ends_inside y r = subst (IsInside P.vertices b.extent) r.2 (end_inside P b h.is_box n.at n.inside n.is_open r.0 r.1)

          by : Marked P b h.is_box (ends P n.at) (vertices ++ s.next) s.next (all_marks marks (map (spot_in P.vertices b.extent) (ends P n.at)))
              (all_spots marks found (map (spot_in P.vertices b.extent) (ends P n.at)))
              → marks' ≡ all_marks marks (map (spot_in P.vertices b.extent) (ends P n.at))
              → found' ≡ all_spots marks found (map (spot_in P.vertices b.extent) (ends P n.at))
              → IsSearching P b vertices (between begin (i + 1) vertices) marks' found'
          by r e' f' =
              let more = search_more (AreJoined P) (ends P) (vertices_around P) (between begin i vertices) vertices
              (vertices ++ s.next) s.next r.vertices' r.next' n.at s.searched r.grows in
              let whole : r.vertices' ≡ vertices ++ r.next' = more.found_is in
              record { next = r.next'; is_found = rw (← whole, e', f') r.is_found; searched = rw (n.place, ← whole) more }

    -- what was found since
    pub found_since : length found ≡ length first_found + length s.next
    found_since = omega (arith, as_many, many_more)

    -- at the end of the shell
    pub searching_ends : (room : ℕ) → length vertices ≤ i → IsFoundNext P b vertices begin room marks found
    searching_ends room l = record {
      next = s.next;
      is_found = s.is_found;
      expands = search_ends (AreJoined P) room (i - begin) (drop begin vertices) vertices (vertices ++ s.next) s.next
          (let e = length-drop begin vertices in omega (arith, e)) s.searched;
    }

    -- or if too many were found
    pub searching_stops : (room : ℕ) → room < length s.next → IsFoundNext P b vertices begin room marks found
    searching_stops room l = search (arith, s, search_stops)
