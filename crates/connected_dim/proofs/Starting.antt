-- The search in breadth begins at a vertex, finds one vertex more, and ends.
use Rattle.std.proofs.Common.{◌≡◌, ℕ, List, Option, Some, IsSome, refl, sym, subst, arith, rules, ◌≢◌, ◌⊎◌, inl, inr, ◌+◌, ◌-◌, ◌*◌, ◌<◌, ◌≤◌, [], ◌∷◌}
use Rattle.std.proofs.Common.{◌++◌, length, get_or, set, None, ap, ◌∙◌, get_or-set_same, get_or-set_other, length-set, length-append, zero, suc}
use Rattle.std.proofs.lemmas.List.{get_or_append_left, get_or_default, length-replicate}
use Rattle.std.{proofs.lemmas.Int.ints, proofs.lemmas.Bool.cases_eq, proofs.lemmas.Grind.common_steps, proofs.Math.Seq.get_or-append_seam}
use Rattle.std.{proofs.lemmas.List.Elements.Contains-append_left, proofs.lemmas.List.Elements.Contains-append_right, specs.List.Contains}
use Rattle.integers.specs.Vectors.{Vector, zero_vector, plus, minus, IsWithin}
use Rattle.integers.proofs.{vectors.Laws.vector_equal, vectors.Bounds.wider, vectors.Bounds.bounded_plus, numbers.Order.before_or_at}
use Rattle.periodic_net.specs.Graph.{Graph, arc, IsArc, vertex, IsQuotientVertex, Arc}
use Rattle.periodic_net.specs.Limits.{most_shift, most_vertices, most_walk}
use Rattle.periodic_net.proofs.CallerLemmas.{reached_transitive, reached_by_arc, reached_itself}
use Rattle.periodic_net.specs.Split.{WalkShift}
use Rattle.connected_dim.specs.Search.{IsSearch, Grows, walk_to, found_with, order_with, missing_count, LeadsToFound, IsSearchedTo, Expands, shift_of}
use Rattle.connected_dim.specs.Search.{none_found, AreWalks}

-- The search goes on along the arcs from one vertex.

-- a walk to u and an arc from u make a walk to its head
pub walk_further : (G : Graph) (start : ℕ) (u v : ℕ) (T s : Vector) → WalkShift G start u T → IsArc G (arc u v s) → WalkShift G start v (plus T s)
walk_further G start u v T s h a =
    let back : minus (plus T s) T ≡ s = vector_equal (omega (arith, ints)) (omega (arith, ints)) (omega (arith, ints)) in
    reached_transitive G (vertex start zero_vector) (vertex u T) (vertex v (plus T s)) h
    (reached_by_arc G (vertex u T) (vertex v (plus T s)) (subst (λ t. IsArc G (arc u v t)) (sym back) a))

-- a search has grown by nothing
pub grows_none : (G : Graph) (start : ℕ) (found : List (Option Vector)) (order : List ℕ) → IsSearch G start found order → Grows G start found order found order
grows_none G start found order h = record { search = h; kept = λ k T e. e; same = λ k l. refl; longer = omega arith; together = refl }

pub some_there : (o : Option Vector) (T : Vector) → o ≡ Some T → IsSome o
some_there o T e = subst IsSome (sym e) (search rules)

-- what stands at a vertex after u was found anew
pub set_there : (found : List (Option Vector)) (u : ℕ) (T : Vector) → 1 ≤ u → u ≤ length found → walk_to (set found (u - 1) (Some T)) u ≡ Some T
set_there found u T low high = get_or-set_same found (u - 1) (Some T) None (omega arith)

pub set_elsewhere : (found : List (Option Vector)) (u v : ℕ) (T : Vector) → 1 ≤ u → 1 ≤ v → v ≢ u → walk_to (set found (u - 1) (Some T)) v ≡ walk_to found v
set_elsewhere found u v T low low' n = get_or-set_other found (u - 1) (v - 1) (Some T) None (omega arith)

-- an answer is one of two
pub record Found (found : List (Option Vector)) (order : List ℕ) (u : ℕ) (T : Vector) (found' : List (Option Vector)) (order' : List ℕ) : Type 0 where
  pub which : (IsSome (walk_to found u) × (found' ≡ found) × (order' ≡ order))
      ⊎ ((walk_to found u ≡ None) × (found' ≡ set found (u - 1) (Some T)) × (order' ≡ order ++ u ∷ []))

pub found_is : (found : List (Option Vector)) (order : List ℕ) (u : ℕ) (T : Vector) → Found found order u T (found_with found u T) (order_with found order u)
found_is found order u T = search arith

pub none_is_not_some : (o : Option Vector) (T : Vector) → o ≡ None → o ≡ Some T → ⊥
none_is_not_some o T e f = let g : None ≡ Some T = sym e ∙ f in cc

pub one_value : (o : Option Vector) (S T : Vector) → o ≡ Some S → o ≡ Some T → S ≡ T
one_value o S T e f = let g : Some S ≡ Some T = sym e ∙ f in cc

last_length : (order : List ℕ) (u : ℕ) → length (order ++ u ∷ []) ≡ length order + 1
last_length order u = length-append order (u ∷ [])

at_last : (order : List ℕ) (u : ℕ) → get_or (order ++ u ∷ []) (length order) 0 ≡ u
at_last order u = get_or-append_seam order u [] 0

-- a vertex that was not found before, to which a walk leads
module _ (G : Graph) (start : ℕ) (found : List (Option Vector)) (order : List ℕ) (u : ℕ) (T : Vector) (h : IsSearch G start found order)
    (v : IsQuotientVertex G u) (new : walk_to found u ≡ None) (walk : WalkShift G start u T)
    (near : IsWithin (most_shift * length order) T) where
  inside : u ≤ length found
  inside = let c = h.count in let a = v.1 in omega arith

  walks : (w : ℕ) (S : Vector) → 1 ≤ w → walk_to (set found (u - 1) (Some T)) w ≡ Some S → WalkShift G start w S
  walks w S low e = elim (cases_eq w u) [
    | inl s ↦ subst (λ x. WalkShift G start x S) (sym s) (subst (WalkShift G start u)
        (one_value _ T S (set_there found u T v.0 inside) (subst (λ x. walk_to (set found (u - 1) (Some T)) x ≡ Some S) s e)) walk)
    | inr n ↦ h.walks w S low (sym (set_elsewhere found u w T v.0 low n) ∙ e)
  ]

  listed : (w : ℕ) (S : Vector) → 1 ≤ w → walk_to (set found (u - 1) (Some T)) w ≡ Some S → Contains (order ++ u ∷ []) w
  listed w S low e = elim (cases_eq w u) [
    | inl s ↦ Contains-append_right order (u ∷ []) w (0, omega arith, sym s)
    | inr n ↦ Contains-append_left order (u ∷ []) w (h.listed w S low (sym (set_elsewhere found u w T v.0 low n) ∙ e))
  ]

  vertices : (k : ℕ) → k < length (order ++ u ∷ []) → IsQuotientVertex G (get_or (order ++ u ∷ []) k 0)
  vertices k b = elim (before_or_at k (length order) (subst (λ n. k < n) (last_length order u) b)) [
    | inl l ↦ subst (IsQuotientVertex G) (sym (get_or_append_left order (u ∷ []) 0 k l)) (h.vertices k l)
    | inr e ↦ subst (λ j. IsQuotientVertex G (get_or (order ++ u ∷ []) j 0)) (sym e) (subst (IsQuotientVertex G) (sym (at_last order u)) v)
  ]

  abbrev IsNear : ℕ → Type 0
  IsNear k = (S : Vector) × (walk_to (set found (u - 1) (Some T)) (get_or (order ++ u ∷ []) k 0) ≡ Some S) × IsWithin (most_shift * k) S

  near_old : (k : ℕ) → k < length order → IsNear k
  near_old k l =
      let n = h.near k l in let w = h.vertices k l in
      let same : get_or (order ++ u ∷ []) k 0 ≡ get_or order k 0 = get_or_append_left order (u ∷ []) 0 k l in
      let other : get_or order k 0 ≢ u = λ e. none_is_not_some (walk_to found u) n.0 new (subst (λ x. walk_to found x ≡ Some n.0) e n.1) in
      (n.0, ap (walk_to (set found (u - 1) (Some T))) same ∙ set_elsewhere found u (get_or order k 0) T v.0 w.0 other ∙ n.1, n.2)

  near_last : IsNear (length order)
  near_last = (T, ap (walk_to (set found (u - 1) (Some T))) (at_last order u) ∙ set_there found u T v.0 inside, near)

  nears : (k : ℕ) → k < length (order ++ u ∷ []) → IsNear k
  nears k b = elim (before_or_at k (length order) (subst (λ n. k < n) (last_length order u) b)) [
    | inl l ↦ near_old k l
    | inr e ↦ subst IsNear (sym e) near_last
  ]

  pub search_grows : IsSearch G start (set found (u - 1) (Some T)) (order ++ u ∷ [])
  search_grows = record { count = length-set found (u - 1) (Some T) ∙ h.count; walks = walks; listed = listed; vertices = vertices; near = nears }

-- A search grows by the head of one arc.

-- what the turn of the loop makes
pub record Turn (G : Graph) (start : ℕ) (begun : List (Option Vector)) (first : List ℕ) (before found : List (Option Vector)) (order : List ℕ)
    (v : ℕ) : Type 0 where
  pub grows : Grows G start begun first found order
  pub still : (k : ℕ) → IsSome (get_or before k None) → IsSome (get_or found k None)
  pub leads : IsSome (walk_to found v)

module _ (G : Graph) (start : ℕ) (begun : List (Option Vector)) (first : List ℕ) (u v : ℕ) (T s : Vector) (nonempty : 1 ≤ length first)
    (vertex : IsQuotientVertex G u)
    (known : walk_to begun u ≡ Some T) (near : IsWithin (most_shift * (length first - 1)) T) (is_arc : IsArc G (arc u v s)) (head : IsQuotientVertex G v)
    (short : IsWithin most_shift s) where
  known_turn : (found : List (Option Vector)) (order : List ℕ) (found' : List (Option Vector)) (order' : List ℕ) → Grows G start begun first found order
      → IsSome (walk_to found v) → found' ≡ found → order' ≡ order → Turn G start begun first found found' order' v
  known_turn found order found' order' h some e f = rw (e, f) (record { grows = h; still = λ k i. i; leads = some })

  -- the walk to the head is within its bound
  head_near : (n : ℕ) → length first ≤ n → IsWithin (most_shift * n) (plus T s)
  head_near n l = wider (most_shift * (length first - 1) + most_shift) (most_shift * n) (omega arith) (plus T s)
      (bounded_plus T s (most_shift * (length first - 1)) most_shift near short)

  new_turn : (found : List (Option Vector)) (order : List ℕ) → Grows G start begun first found order → walk_to found v ≡ None
      → missing_count (set found (v - 1) (Some (plus T s))) + length (order ++ v ∷ []) ≡ missing_count found + length order
      → Turn G start begun first found (set found (v - 1) (Some (plus T s))) (order ++ v ∷ []) v
  new_turn found order h new together =
      let walk = walk_further G start u v T s (h.search.walks u T vertex.0 (h.kept (u - 1) T known)) is_arc in
      let inside : v ≤ length found = let c = h.search.count in let b = head.1 in omega arith in
      record {
        grows = record {
          search = search_grows G start found order v (plus T s) h.search head new walk (head_near (length order) h.longer);
          kept = λ k S e.
              let other : k ≢ v - 1 = λ f. none_is_not_some (walk_to found v) S new (subst (λ j. get_or found j None ≡ Some S) f (h.kept k S e)) in
              get_or-set_other found (v - 1) k (Some (plus T s)) None other ∙ h.kept k S e;
          same = λ k l. let longer = h.longer in get_or_append_left order (v ∷ []) 0 k (omega arith) ∙ h.same k l;
          longer = let longer = h.longer in omega (arith, length-append order (v ∷ []));
          together = together ∙ h.together;
        };
        still = λ k i. elim (cases_eq k (v - 1)) [
          | inl e ↦ rw e (some_there (walk_to (set found (v - 1) (Some (plus T s))) v) (plus T s) (set_there found v (plus T s) head.0 inside))
          | inr n ↦ subst IsSome (sym (get_or-set_other found (v - 1) k (Some (plus T s)) None n)) i
        ];
        leads = some_there (walk_to (set found (v - 1) (Some (plus T s))) v) (plus T s) (set_there found v (plus T s) head.0 inside);
      }

  pub turn : (found : List (Option Vector)) (order : List ℕ) (found' : List (Option Vector)) (order' : List ℕ) → Grows G start begun first found order
      → found' ≡ found_with found v (plus T s) → order' ≡ order_with found order v → missing_count found' + length order' ≡ missing_count found + length order
      → Turn G start begun first found found' order' v
  turn found order found' order' h e f together =
      let is = found_is found order v (plus T s) in
      elim is.which [
        | inl w ↦ known_turn found order found' order' h w.0 (e ∙ w.1) (f ∙ w.2)
        | inr w ↦ rw (e ∙ w.1, f ∙ w.2) (new_turn found order h w.0 (rw (e ∙ w.1, f ∙ w.2) at together))
      ]

-- the arcs up to place i lead to found vertices, and so does the one at i
pub leads_more : (row : List Arc) (before found : List (Option Vector)) (i : ℕ) (x : Arc) (v : ℕ) → get_or row i x ≡ x → v ≡ x.to → i < length row
    → ((k : ℕ) → IsSome (get_or before k None) → IsSome (get_or found k None))
    → ((k : ℕ) (a : Arc) → k < i → IsSome (walk_to before (get_or row k a).to)) → IsSome (walk_to found v) → (k : ℕ) (a : Arc) → k < i + 1
    → IsSome (walk_to found (get_or row k a).to)
leads_more row before found i x v is to l still h some k a b = grind (arith, before_or_at, get_or_default)

-- all the arcs from u are in the row
pub leads_all : (G : Graph) (start : ℕ) (row : List Arc) (found : List (Option Vector)) (u n : ℕ) → length row ≤ n
    → ((a : Arc) → IsArc G a → a.from ≡ u → Contains row a)
    → ((k : ℕ) (a : Arc) → k < n → IsSome (walk_to found (get_or row k a).to)) → LeadsToFound G found u
leads_all G start row found u n l every h a i e =
    let c = every a i e in let b = c.1 in
    subst (λ (x : Arc). IsSome (walk_to found x.to)) c.2 (h c.0 a (omega arith))

-- The search goes on from the next vertex of its order.

pub few_found : {G : Graph} {start : ℕ} {found : List (Option Vector)} {order : List ℕ} {i : ℕ} → IsSearchedTo G start found order i
    → G.vertices ≤ most_vertices → length order ≤ most_vertices
few_found h s = let t = h.together in omega arith

-- the next vertex, and the walk to it
pub record IsNext (G : Graph) (start : ℕ) (found : List (Option Vector)) (order : List ℕ) (i : ℕ) : Type 0 where
  pub low : 1 ≤ get_or order i 0
  pub high : get_or order i 0 ≤ length found
  pub is_found : IsSome (walk_to found (get_or order i 0))
  pub vertex : IsQuotientVertex G (get_or order i 0)
  pub near : (T : Vector) → walk_to found (get_or order i 0) ≡ Some T → IsWithin (most_shift * (length order - 1)) T

pub next_of : {G : Graph} {start : ℕ} {found : List (Option Vector)} {order : List ℕ} {i : ℕ} → IsSearchedTo G start found order i → i < length order
    → IsNext G start found order i
next_of {G} {start} {found} {order} {i} h l =
    let v = h.search.vertices i l in let n = h.search.near i l in
    record {
      low = v.0;
      high = subst (λ k. get_or order i 0 ≤ k) (sym h.search.count) v.1;
      is_found = some_there (walk_to found (get_or order i 0)) n.0 n.1;
      vertex = v;
      near = λ T e. wider (most_shift * i) (most_shift * (length order - 1)) (omega arith) T
          (subst (IsWithin (most_shift * i)) (one_value (walk_to found (get_or order i 0)) n.0 T n.1 e) n.2);
    }

still_some : (o p : Option Vector) → ((T : Vector) → o ≡ Some T → p ≡ Some T) → IsSome o → IsSome p
still_some o p k l = search (arith, some_there)

leads_still : (G : Graph) (start : ℕ) (found found' : List (Option Vector))
    → ((k : ℕ) (T : Vector) → get_or found k None ≡ Some T → get_or found' k None ≡ Some T) → (u : ℕ) → LeadsToFound G found u → LeadsToFound G found' u
leads_still G start found found' keep u h a i e = still_some (walk_to found a.to) (walk_to found' a.to) (keep (a.to - 1)) (h a i e)

-- one vertex more whose arcs are followed
pub searched_more : {G : Graph} {start : ℕ} {found : List (Option Vector)} {order : List ℕ} {found' : List (Option Vector)} {order' : List ℕ} {i : ℕ}
    → IsSearchedTo G start found order i → i < length order → Expands G start found order (get_or order i 0) found' order'
    → IsSearchedTo G start found' order' (i + 1)
searched_more {G} {start} {found} {order} {found'} {order'} {i} h l e = record {
  search = e.grows.search;
  first = e.grows.kept (start - 1) zero_vector h.first;
  together = e.grows.together ∙ h.together;
  done = λ k b. elim (before_or_at k i b) [
    | inl c ↦ subst (LeadsToFound G found') (sym (e.grows.same k (omega arith))) (leads_still G start found found' e.grows.kept (get_or order k 0) (h.done k c))
    | inr s ↦ subst (λ j. LeadsToFound G found' (get_or order' j 0)) (sym s) (subst (LeadsToFound G found') (sym (e.grows.same i l)) e.leads)
  ];
}

-- if none is found, none is at any place
pub none_at : (n k : ℕ) → get_or (none_found n) k None ≡ None
none_at zero k = refl
none_at (suc n) zero = refl
none_at (suc n) (suc k) = none_at n k

pub missing_none : (n : ℕ) → missing_count (none_found n) ≡ n
missing_none zero = refl
missing_none (suc n) = grind (arith, common_steps, missing_none n)

search_none : (G : Graph) (start : ℕ) → IsSearch G start (none_found G.vertices) []
search_none G start = grind (arith, length-replicate, vertices, walks, none_is_not_some, none_at)

-- what is none is not some
pub no_some : (o : Option Vector) → o ≡ None → IsSome o → ⊥
no_some o k l = cc

-- the start alone is found, by the walk that goes nowhere
pub search_start : (G : Graph) (start : ℕ) (found : List (Option Vector)) (order : List ℕ) → IsQuotientVertex G start
    → found ≡ found_with (none_found G.vertices) start zero_vector → order ≡ order_with (none_found G.vertices) [] start
    → missing_count found + length order ≡ missing_count (none_found G.vertices) + 0 → IsSearchedTo G start found order 0
search_start G start found order q e f together =
    let none = none_found G.vertices in
    let unknown : walk_to none start ≡ None = none_at G.vertices (start - 1) in
    let is = found_is none [] start zero_vector in
    let inside : start ≤ length none = omega (arith, length-replicate {A = Option Vector} G.vertices None, q.1) in
    let there = set_there none start zero_vector q.0 inside in
    let grown = search_grows G start none [] start zero_vector (search_none G start) q unknown (reached_itself G (vertex start zero_vector))
    (omega arith, omega arith, omega arith) in
    elim is.which [
      | inl w ↦ absurd (no_some (walk_to none start) unknown w.0)
      | inr w ↦ record {
        search = rw (e ∙ w.1, f ∙ w.2) grown;
        first = ap (λ fs. walk_to fs start) (e ∙ w.1) ∙ there;
        together = let m = missing_none G.vertices in omega arith;
        done = λ k l. absurd (omega arith);
      }
    ]

-- what is some has a value
pub some_value : (o : Option Vector) → IsSome o → (T : Vector) × (o ≡ Some T)
some_value o k = search arith

-- if all are followed, the walks are all there are
pub walks_found : {G : Graph} {start : ℕ} {found : List (Option Vector)} {order : List ℕ} → IsSearchedTo G start found order (length order)
    → G.vertices ≤ most_vertices → AreWalks G start found
walks_found {G} {start} {found} {order} h small = record {
  count = h.search.count;
  first = h.first;
  walks = h.search.walks;
  within = λ k walk l. subst (λ o. IsWithin most_walk (shift_of o)) (get_or_default found k None walk l) (at_place k (get_or found k None) refl);
  closed = λ u low i.
      let v = some_value (walk_to found u) i in let c = h.search.listed u v.0 low v.1 in
      subst (LeadsToFound G found) (get_or_default order c.0 0 u c.1 ∙ c.2) (h.done c.0 c.1);
}
  where
    near : (u : ℕ) (T : Vector) → 1 ≤ u → walk_to found u ≡ Some T → IsWithin most_walk T
    near u T low e =
        let c = h.search.listed u T low e in let k = c.0 in let l = c.1 in let n = h.search.near k l in
        let few = few_found h small in let at : get_or order k 0 ≡ u = get_or_default order k 0 u l ∙ c.2 in
        wider (most_shift * k) most_walk (omega arith) T (rw (one_value (walk_to found u) n.0 T (subst (λ x. walk_to found x ≡ Some n.0) at n.1) e) at n.2)

    less : (k : ℕ) → k + 1 - 1 ≡ k
    less k = omega arith

    at_place : (k : ℕ) (o : Option Vector) → get_or found k None ≡ o → IsWithin most_walk (shift_of o)
    at_place k None e = (omega arith, omega arith, omega arith)
    at_place k (Some T) e = near (k + 1) T (omega arith) (ap (λ (j : ℕ). get_or found j None) (less k) ∙ e)
