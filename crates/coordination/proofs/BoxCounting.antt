-- The shells of a vertex are counted in a box.
use Rattle.std.proofs.Common.{◌≡◌, ◌⊎◌, inl, inr, ℕ, ◌+◌, ◌-◌, ◌<◌, ◌≤◌, List, [], ◌∷◌, ◌++◌, length, get_or, sym, subst, ap, ◌∙◌, arith, suc}
use Rattle.std.proofs.Common.{set, drop, Bool, true, false, cond, refl, length-append}
use Rattle.std.proofs.lemmas.List.{get_or_append_left, length_push, length-map}
use Rattle.std.{proofs.Math.Seq.get_or-append_seam, proofs.Math.Seq.drop-append_seam}
use Rattle.integers.proofs.lists.Members.{AreApart, IsIn, is_in, pairs_from_apart}
use Rattle.integers.{specs.Vectors.zero_vector, proofs.numbers.Order.at_most_next}
use Rattle.periodic_net.specs.Graph.{Graph, IsQuotientVertex, vertex, Vertex, AreJoined}
use Rattle.coordination.specs.BoxSearches.{AreFirstLists, AreFoundAndMarked, IsFoundNext, IsNextShell, IsOpen, IsSearchable}
use Rattle.coordination.specs.Sequences.{AreShellsOf, most_shells, most_in_shells}
use Rattle.coordination.specs.Boxes.{IsBoxOf, IsInside, origin_of, place_in, spot_in}
use Rattle.coordination.specs.Marks.{IsUnmarked, is_marked, marks_with, spots_with}
use Rattle.coordination.proofs.Layers.{AreCounted, counted_past, counted_ten, counted_turn, and_on, start_layers, some_vertex_shell, vertex_sizes, walk_of}
use Rattle.coordination.proofs.BoxSearch.{found_more, spot_inside, unmarked_marked}
use Rattle.coordination.specs.{Expanding.Expands, declared.extent.Extent.Extent, declared.spot.Spot.Spot, declared.net_box.NetBox.NetBox}

-- The lists of the first vertices in cell 0.

-- one list more
pub lists_more : (P : Graph) (m : ℕ) (lists more : List (List ℕ)) (sizes : List ℕ) → AreFirstLists P m lists
    → (IsQuotientVertex P (m + 1) → AreShellsOf P (vertex (m + 1) zero_vector) sizes) → more ≡ lists ++ sizes ∷ []
    → AreFirstLists P (m + 1) more
lists_more P m lists more sizes h s e = record {
  count = ap length e ∙ length_push lists sizes ∙ ap (λ k. k + 1) h.count;
  each = λ c i l. by c i (at_most_next c m l);
}
  where
    by : (c : ℕ) → IsQuotientVertex P c → (c ≤ m) ⊎ (c ≡ m + 1) → AreShellsOf P (vertex c zero_vector) (get_or more (c - 1) [])
    by c i (inl l) =
        let low = i.0 in let count = h.count in let before : c - 1 < length lists = omega (arith, l, count) in
        let at = ap (λ ss. get_or ss (c - 1) []) e ∙ get_or_append_left lists (sizes ∷ []) [] (c - 1) before in
        subst (AreShellsOf P (vertex c zero_vector)) (sym at) (h.each c i l)
    by c i (inr q) =
        let count = h.count in let place : c - 1 ≡ length lists = omega (arith, q, count) in
        let at = ap (λ ss. get_or ss (c - 1) []) e ∙ ap (λ j. get_or (lists ++ sizes ∷ []) j []) place ∙ get_or-append_seam lists sizes [] [] in
        rw at (subst (λ d. AreShellsOf P (vertex d zero_vector) sizes) (sym q) (s (subst (IsQuotientVertex P) q i)))

-- the vertex over c in cell 0
abbrev pub start : ℕ → Vertex
start c = vertex c zero_vector

-- shells with these sizes were counted, and what was found is in the box; the last shell begins at this place
pub record IsCountedIn (P : Graph) (b : NetBox) (c : ℕ) (sizes : List ℕ) (room begin : ℕ) (marks : List Bool) (found : List Spot) : Type 0 where
  pub vertices : List Vertex
  pub shell : List Vertex
  pub counted : AreCounted (AreJoined P) (start c) sizes room vertices shell
  pub is_found : AreFoundAndMarked P b vertices marks found
  pub begin_is : begin + length shell ≡ length vertices

-- the number of the vertex over c in cell 0
start_place : (n c : ℕ) (r : Extent) → origin_of n r + (c - 1) ≡ place_in n r (start c)
start_place n c r = omega arith

module _ {P : Graph} {b : NetBox} (q : IsBoxOf P b) (c : ℕ) (i : IsQuotientVertex P c) where
  -- it is in the box
  start_inside : IsInside P.vertices b.extent (start c)
  start_inside = record { low = i.0; high = i.1; cell = record { x = omega arith; y = omega arith; z = omega arith } }

  -- its spot
  pub start_spot : (at : ℕ) → at ≡ b.origin + (c - 1) → spot_in P.vertices b.extent (start c) ≡ record { over = c; at = at }
  start_spot at e = grind (arith, start_place)

  -- at first it alone is found
  pub counting_starts : (marks marks' : List Bool) (found found' : List Spot) (at : ℕ) → length marks ≡ b.size → IsUnmarked marks → found ≡ []
      → at ≡ b.origin + (c - 1)
      → marks' ≡ marks_with marks (record { over = c; at = at }) → found' ≡ spots_with marks found (record { over = c; at = at })
      → IsCountedIn P b c [] most_in_shells 0 marks' found'
  counting_starts marks marks' found found' at size none empty e m f = record {
    vertices = start c ∷ [];
    shell = start c ∷ [];
    counted = record {
      before = [];
      found_is = refl;
      layers = start_layers (AreJoined P) (start c);
      each = λ k l. absurd (omega arith);
      total = omega arith;
      few = omega arith;
    };
    is_found = rw (marks_are, found_are) alone;
    begin_is = refl;
  }
    where
      s : Spot
      s = spot_in P.vertices b.extent (start c)

      same : record { over = c; at = at } ≡ s
      same = sym (start_spot at e)

      fresh : is_marked marks s.at ≡ false
      fresh = none s.at (spot_inside P b q (start c) marks size start_inside)

      marks_are : marks' ≡ set marks s.at true
      marks_are = m ∙ ap (λ (t : Spot). marks_with marks t) same ∙ ap (λ v. cond v marks (set marks s.at true)) fresh

      found_are : found' ≡ s ∷ []
      found_are = grind (arith, s, fresh)

      alone : AreFoundAndMarked P b (start c ∷ []) (set marks s.at true) (s ∷ [])
      alone = found_more P b q [] marks [] (start c)
          (record { size = size; inside = λ x k. absurd (is_in [] x k); spots = refl; marked = unmarked_marked marks none }) start_inside

  module _ {sizes : List ℕ} {room begin : ℕ} {marks : List Bool} {found : List Spot} (h : IsCountedIn P b c sizes room begin marks found) where
    -- where the last shell begins
    begins : begin ≡ length h.counted.before
    begins = let e = ap length h.counted.found_is in let f = length-append h.counted.before h.shell in let g = h.begin_is in omega (arith, e, f, g)

    -- it is the end of what was found
    shell_is : drop begin h.vertices ≡ h.shell
    shell_is = (λ k. drop (begins k) (h.counted.found_is k)) ∙ drop-append_seam h.counted.before h.shell

    -- so the next may be searched for
    pub searchable : length sizes < most_shells → IsSearchable P b h.vertices marks found begin
    searchable few = record {
      is_box = q;
      is_found = h.is_found;
      once = pairs_from_apart h.vertices (subst AreApart (sym h.counted.found_is) h.counted.layers.once);
      low = let e = h.begin_is in omega (arith, e);
      open_from = λ x k. is_open x (subst (λ (xs : List Vertex). IsIn xs x) shell_is (is_in (drop begin h.vertices) x k));
    }
      where
        is_open : (x : Vertex) → IsIn h.shell x → IsOpen P b x
        is_open x k y j =
            let leads = and_on (AreJoined P) (length sizes) (start c) x y (h.counted.layers.outer x k) j in
            q.extent c (suc (length sizes)) y i (omega (arith, few)) (walk_of P (suc (length sizes)) (start c) y leads)

    module _ {marks' : List Bool} {found' : List Spot} (n : IsFoundNext P b h.vertices begin room marks' found') where
      -- as many more were found
      counted_size : length found' ≡ length found + length n.next
      counted_size = grind (arith, length-map, length-append)

      -- with the next shell the total passes the limit
      pub counting_past : room < length n.next → AreShellsOf P (start c) sizes
      counting_past more =
          vertex_sizes P (start c) sizes (counted_past (AreJoined P) (start c) h.counted
          (subst (λ (xs : List Vertex). Expands (AreJoined P) room xs h.vertices n.next) shell_is n.expands) more
          (some_vertex_shell P (start c) (length sizes + 1)))

      -- a turn of the loop
      pub counting_turn : (sizes' : List ℕ) (size size' begin' : ℕ) → length sizes < most_shells → size ≡ length n.next → size ≤ room → size' ≡ size
          → sizes' ≡ sizes ++ size' ∷ [] → begin' ≡ length found
          → IsCountedIn P b c sizes' (room - size) begin' marks' found'
      counting_turn sizes' size size' begin' few e fits same p l = record {
        vertices = h.vertices ++ n.next;
        shell = n.next;
        counted = counted_turn (AreJoined P) (start c) h.counted shell_is n.expands refl few e fits same p;
        is_found = n.is_found;
        begin_is =
            let f = ap length h.is_found.spots in
            let g = length-map h.vertices (spot_in P.vertices b.extent) in
            let m = length-append h.vertices n.next in omega (arith, l, f, g, m);
      }

    -- the next shell, as the search found it
    pub record IsNextCounted (marks' : List Bool) (found' : List Spot) : Type 0 where
      pub few : length sizes < most_shells
      pub shell : IsFoundNext P b h.vertices begin room marks' found'
      pub size : length found' ≡ length found + length shell.next

    -- at a turn of the loop it is so
    pub next_counted : (k : ℕ) → length sizes ≡ k → k < most_shells → (marks' : List Bool) (found' : List Spot)
        → IsNextShell b begin room marks found marks' found' → IsNextCounted marks' found'
    next_counted k count below marks' found' next =
        let few : length sizes < most_shells = omega (arith, count, below) in
        let n = next P h.vertices (searchable few) in record { few = few; shell = n; size = counted_size n }

    -- ten shells were counted
    pub counting_ten : most_shells ≤ length sizes → AreShellsOf P (start c) sizes
    counting_ten l = vertex_sizes P (start c) sizes (counted_ten (AreJoined P) (start c) h.counted l)
