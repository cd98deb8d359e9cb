-- The edges of a graph, read off its stars: they are the arcs of the stars that are spellings, and rise as they stand.
use Rattle.std.proofs.Common.{◌≡◌, ◌⊎◌, inl, inr, List, [], ◌∷◌, ◌++◌, ℕ, suc, ◌+◌, ◌-◌, ◌<◌, ◌≤◌, ◌==◌, ◌||◌, ◌&&◌, length, get_or, refl, sym, ap, subst}
use Rattle.std.proofs.Common.{true, false, Bool, cond, pos, arith, take, append-nil, ◌∙◌}
use Rattle.std.proofs.lemmas.List.Elements.{filter_more}
use Rattle.std.proofs.lemmas.{Int.ints, Bool.Decides.nat_tests, Grind.common_steps}
use Rattle.std.proofs.lemmas.List.Kept.{AllPairs-cons, AllPairs-filter}
use Rattle.std.proofs.lemmas.List.Sorted.{Contains-permutation, IsPermutation-sym}
use Rattle.std.specs.{Prelude.nat_lt, List.filter, List.Sorted.IsPermutation, Ordering.int_cmp, Ordering.ordering_then, Ordering.is_lt}
use Rattle.std.specs.{Cmp.int_cmp_is, Cmp.Lexicographic.slice_cmp, declared.cmp.Ordering.Ordering, declared.cmp.Ordering.TheVariants.Less}
use Rattle.integers.specs.Vectors.{parts, IsBelow}
use Rattle.integers.proofs.lists.ListOrder.{apart_of_rising}
use Rattle.integers.proofs.lists.Members.{IsIn, in_append, in_filter, filter_in, in_at, pieces_in, all_from_in, all_at, is_in}
use Rattle.integers.proofs.lists.Members.{contains_from_in, apart_from_pairs, no_longer}
use Rattle.integers.proofs.lists.Permutations.{IsRising, rising_from_pairs, permutation_of_members}
use Rattle.periodic_net.specs.Graph.{Arc, Graph, IsArc, IsEdge, IsGraph, IsNormalSpelling, IsQuotientVertex, arcs, arcs_from, reverse_of}
use Rattle.periodic_net.specs.Limits.{IsSmall}
use Rattle.periodic_net.proofs.CallerLemmas.{arcs_apart, arc_is_from, edge_in, either_way, from_is_arc, one_spelling}
use Rattle.quotient_graph.specs.{Order.arc_numbers, Order.AreRising, Building.AreStars, Building.is_spelled, Building.spelled_in}
use Rattle.quotient_graph.specs.Stars.{graph_with, star_at, IsGraphInMemory, IsInOrder, IsStar}
use Rattle.quotient_graph.proofs.Edges.{is_star, reordered, reordered_small, same_arc}

-- The test of a spelling.

test_holds : (m n : ℕ) (o : Ordering) → (nat_lt m n || (m == n && is_lt o)) ≡ true → (m < n) ⊎ ((m ≡ n) × (o ≡ Less))
test_holds m n o h = grind (arith, nat_tests, common_steps)

test_is_true : (m n : ℕ) (o : Ordering) → (m < n) ⊎ ((m ≡ n) × (o ≡ Less)) → (nat_lt m n || (m == n && is_lt o)) ≡ true
test_is_true m n o h = grind (arith, nat_tests, common_steps)

pub is_spelling : (a : Arc) → is_spelled a ≡ true → IsNormalSpelling a
is_spelling a h = test_holds a.from a.to _ h

pub passes : (a : Arc) → IsNormalSpelling a → is_spelled a ≡ true
passes a h = test_is_true a.from a.to _ h

-- a spelling more is chosen
pub chosen_more : (s : List Arc) (i : ℕ) (a : Arc) → i < length s → a ≡ get_or s i a → IsNormalSpelling a
    → filter is_spelled (take (i + 1) s) ≡ filter is_spelled (take i s) ++ a ∷ []
chosen_more s i a l e n = filter_more is_spelled s i a l ∙ ap (λ b. filter is_spelled (take i s) ++ cond (is_spelled b) (b ∷ []) []) (sym e)
    ∙ ap (λ t. filter is_spelled (take i s) ++ cond t (a ∷ []) []) (passes a n)

-- another arc is passed over
pub passed_over : (s : List Arc) (i : ℕ) (a : Arc) → i < length s → a ≡ get_or s i a → (IsNormalSpelling a → ⊥)
    → filter is_spelled (take (i + 1) s) ≡ filter is_spelled (take i s)
passed_over s i a l e n = filter_more is_spelled s i a l ∙ ap (λ b. filter is_spelled (take i s) ++ cond (is_spelled b) (b ∷ []) []) (sym e)
    ∙ ap (λ t. filter is_spelled (take i s) ++ cond t (a ∷ []) []) (not_spelled (is_spelled a) refl) ∙ append-nil (filter is_spelled (take i s))
  where
    not_spelled : (b : Bool) → is_spelled a ≡ b → is_spelled a ≡ false
    not_spelled false h = h
    not_spelled true h = absurd (n (is_spelling a h))

-- The spellings among the arcs of the stars.

-- the lists are the stars of the vertices from the first on
abbrev StarsFrom : Graph → ℕ → List (List Arc) → Type 0
StarsFrom G first [] = Unit {0}
StarsFrom G first (s ∷ rest) = IsStar G first s × StarsFrom G (suc first) rest

stars_from : (G : Graph) (first : ℕ) (stars : List (List Arc)) → ((k : ℕ) → k < length stars → IsStar G (first + k) (get_or stars k []))
    → StarsFrom G first stars
stars_from G first [] h = tt
stars_from G first (s ∷ rest) h = (
  (let e : first + 0 ≡ first = omega arith in subst (λ u. IsStar G u s) e (h 0 (omega arith))),
  stars_from G (suc first) rest
      (λ k l. let e : first + suc k ≡ suc first + k = omega arith in subst (λ u. IsStar G u (get_or rest k [])) e (h (suc k) (omega (arith, l)))),
)

star_member : (G : Graph) (u : ℕ) (s : List Arc) → IsStar G u s → (a : Arc) → IsIn s a → IsArc G a × (a.from ≡ u)
star_member G u s h a i =
    from_is_arc G u a (is_in (arcs_from G u) a (Contains-permutation s (arcs_from G u) a (IsPermutation-sym (arcs_from G u) s h.all) (contains_from_in s a i)))

-- a spelling among them is an arc that starts no earlier than the first
spelling_from : (G : Graph) (first : ℕ) (stars : List (List Arc)) → StarsFrom G first stars → (a : Arc) → IsIn (spelled_in stars) a
    → IsArc G a × (first ≤ a.from) × (is_spelled a ≡ true)
spelling_from G first [] h a i = absurd i
spelling_from G first (s ∷ rest) h a i = by (in_append (filter is_spelled s) (spelled_in rest) a i) (λ j. spelling_from G (suc first) rest h.1 a j)
  where
    by : IsIn (filter is_spelled s) a ⊎ IsIn (spelled_in rest) a → (IsIn (spelled_in rest) a → IsArc G a × (suc first ≤ a.from) × (is_spelled a ≡ true))
        → IsArc G a × (first ≤ a.from) × (is_spelled a ≡ true)
    by (inl j) go = let f = in_filter is_spelled s a j in let m = star_member G first s h.0 a f.0 in let e = m.1 in (m.0, omega (arith, e), f.1)
    by (inr j) go = let r = go j in let l = r.1 in (r.0, omega (arith, l), r.2)

-- They rise.

earlier : (first : ℕ) (a b : Arc) → a.from ≡ first → suc first ≤ b.from → IsBelow (arc_numbers a) (arc_numbers b)
earlier first a b e l =
    let less : Less ≡ int_cmp (pos a.from) (pos b.from) = int_cmp_is (pos a.from) (pos b.from) Less (omega (arith, ints, e, l)) in
    ap (λ o. ordering_then o (slice_cmp int_cmp (pos a.to ∷ parts 3 a.shift) (pos b.to ∷ parts 3 b.shift))) (sym less)

append_rising : {X : Type 0} (before : X → X → Type 0) (xs ys : List X) → IsRising before xs → IsRising before ys
    → ((x y : X) → IsIn xs x → IsIn ys y → before x y) → IsRising before (xs ++ ys)
append_rising before [] ys h k c = k
append_rising {X} before (x ∷ xs) ys h k c = ((λ y i. by y (in_append xs ys y i)), append_rising before xs ys h.1 k (λ w y i j. c w y (inr i) j))
  where
    by : (y : X) → IsIn xs y ⊎ IsIn ys y → before x y
    by y (inl i) = h.0 y i
    by y (inr j) = c x y (inl refl) j

pairs_from_rising : (before : Arc → Arc → Type 0) (xs : List Arc) → IsRising before xs → (i j : ℕ) (d : Arc) → i < j → j < length xs
    → before (get_or xs i d) (get_or xs j d)
pairs_from_rising before [] h = λ i j d l m. absurd (omega (arith, l, m))
pairs_from_rising before (x ∷ xs) h = AllPairs-cons before x xs (all_from_in (before x) xs h.0) (pairs_from_rising before xs h.1)

abbrev Before : Arc → Arc → Type 0
Before a b = IsBelow (arc_numbers a) (arc_numbers b)

stars_rise : (G : Graph) (first : ℕ) (stars : List (List Arc)) → StarsFrom G first stars → IsRising Before (spelled_in stars)
stars_rise G first [] h = tt
stars_rise G first (s ∷ rest) h =
    append_rising Before (filter is_spelled s) (spelled_in rest)
    (rising_from_pairs Before (filter is_spelled s) (AllPairs-filter Before is_spelled s h.0.rising)) (stars_rise G (suc first) rest h.1)
    (λ a b i j. earlier first a b (star_member G first s h.0 a (in_filter is_spelled s a i).0).1 (spelling_from G (suc first) rest h.1 b j).1)

-- They are the edges.

record AreStarsOf (G : Graph) (stars : List (List Arc)) : Type 0 where
  is_graph : IsGraph G
  count : length stars ≡ G.vertices
  each : (u : ℕ) → IsQuotientVertex G u → IsStar G u (star_at stars u)

all_stars : (G : Graph) (stars : List (List Arc)) → AreStarsOf G stars → StarsFrom G 1 stars
all_stars G stars h = stars_from G 1 stars (λ k l.
    let c = h.count in let e : (1 + k) - 1 ≡ k = omega arith in
    subst (λ j. IsStar G (1 + k) (get_or stars j [])) e (h.each (1 + k) (omega (arith, l, c), omega (arith, l, c))))

rises : (G : Graph) (stars : List (List Arc)) → AreStarsOf G stars → AreRising (spelled_in stars)
rises G stars h = pairs_from_rising Before (spelled_in stars) (stars_rise G 1 stars (all_stars G stars h))

edge_there : (G : Graph) (stars : List (List Arc)) → AreStarsOf G stars → (e : Arc) → IsIn G.edges e → IsIn (spelled_in stars) e
edge_there G stars h e i =
    let edge = all_at (IsEdge G) G.edges e h.is_graph.edges (contains_from_in G.edges e i) in
    let star = h.each e.from edge.from in
    let arc = arc_is_from G e.from e (contains_from_in (arcs G) e (edge_in G.edges e i)) refl in
    let inside = is_in (star_at stars e.from) e (Contains-permutation (arcs_from G e.from) (star_at stars e.from) e star.all
    (contains_from_in (arcs_from G e.from) e arc)) in
    let low = edge.from.0 in let high = edge.from.1 in let c = h.count in
    pieces_in (filter is_spelled) stars (star_at stars e.from) e (in_at stars (e.from - 1) [] (omega (arith, low, high, c)))
    (filter_in is_spelled (star_at stars e.from) e inside (passes e edge.spelling))

spelling_is_edge : (G : Graph) (stars : List (List Arc)) → AreStarsOf G stars → (a : Arc) → IsIn (spelled_in stars) a → IsIn G.edges a
spelling_is_edge G stars h a i =
    let r = spelling_from G 1 stars (all_stars G stars h) a i in
    by r.2 (either_way G.edges a (is_in (arcs G) a r.0))
  where
    by : is_spelled a ≡ true → IsIn G.edges a ⊎ IsIn G.edges (reverse_of a) → IsIn G.edges a
    by s (inl j) = j
    by s (inr j) = absurd (one_spelling a (is_spelling a s)
        (all_at (IsEdge G) G.edges (reverse_of a) h.is_graph.edges (contains_from_in G.edges (reverse_of a) j)).spelling)

same_edges : (G : Graph) (stars : List (List Arc)) → AreStarsOf G stars → IsPermutation G.edges (spelled_in stars)
same_edges G stars h =
    permutation_of_members G.edges (spelled_in stars) (apart_from_pairs G.edges h.is_graph.different) (edge_there G stars h)
    (no_longer (spelled_in stars) G.edges (apart_of_rising arc_numbers (spelled_in stars) (rises G stars h)) (spelling_is_edge G stars h))

-- The stars are those of the graph with its edges in that order.

same_star : (G H : Graph) (u : ℕ) (star : List Arc) → IsGraph H → IsPermutation G.edges H.edges → IsStar G u star → IsStar H u star
same_star G H u star g p s = record {
  all = permutation_of_members (arcs_from H u) star (arcs_apart H g u) into
      (no_longer star (arcs_from H u) (apart_of_rising arc_numbers star s.rising) back);
  rising = s.rising;
}
  where
    into : (a : Arc) → IsIn (arcs_from H u) a → IsIn star a
    into a i =
        let f = from_is_arc H u a i in
        is_in star a (Contains-permutation (arcs_from G u) star a s.all (contains_from_in (arcs_from G u) a
        (arc_is_from G u a (same_arc H G (IsPermutation-sym G.edges H.edges p) a f.0) f.1)))

    back : (a : Arc) → IsIn star a → IsIn (arcs_from H u) a
    back a i = let m = star_member G u star s a i in arc_is_from H u a (same_arc G H p a m.0) m.1

-- what is known of a graph whose edges were read off its stars
pub record ReadOff (d n : ℕ) (given : List Arc) (stars : List (List Arc)) : Type 0 where
  pub memory : IsGraphInMemory (graph_with d n (spelled_in stars)) stars
  pub order : IsInOrder (graph_with d n given) (graph_with d n (spelled_in stars))

pub read_off : (d n : ℕ) (given : List Arc) (stars : List (List Arc)) → IsGraph (graph_with d n given) → IsSmall (graph_with d n given) → AreStars n given stars
    → ReadOff d n given stars
read_off d n given stars g small h =
    let G = graph_with d n given in let H = graph_with d n (spelled_in stars) in
    let of : AreStarsOf G stars = record { is_graph = g; count = h.count; each = is_star G stars g h } in
    let p = same_edges G stars of in let k = reordered d n given (spelled_in stars) p g in
    record {
      memory = record {
        is_graph = k;
        small = reordered_small d n given (spelled_in stars) p small;
        rising = rises G stars of;
        count = h.count;
        each = λ u v. same_star G H u (star_at stars u) k p (is_star G stars g h u v);
      };
      order = record { dimension = refl; vertices = refl; edges = p; rising = rises G stars of };
    }
