-- Lists of arcs from each vertex or class: their number, how they are made and sorted, and what arcs they have.
use Rattle.std.proofs.Common.{◌≡◌, ◌∙◌, ap, List, length, map, sum_by, ◌≢◌, inl, inr, ℕ, ◌-◌, ◌+◌, ◌<◌, ◌≤◌, ◌==◌, true, false, [], ◌∷◌, ◌++◌, take, All}
use Rattle.std.proofs.Common.{cond, get_or, set, refl, sym, subst, arith, get_or-set_same, get_or-set_other, length-set, add-one, zero, suc, Bool}
use Rattle.std.proofs.Common.{length-append}
use Rattle.std.proofs.lemmas.List.{get_or_append_left, get_or_push}
use Rattle.std.proofs.lemmas.List.{map-set, map_more, get_or-map, length-map, append_assoc, append-nil, get_or_default}
use Rattle.std.proofs.lemmas.List.Elements.{filter-append, recursion_from_All, All-from_recursion}
use Rattle.std.specs.List.{filter, AllByRecursion, Contains}
use Rattle.std.{proofs.lemmas.List.Concat.length-flat_map, proofs.lemmas.List.Folds.flat_map-map}
use Rattle.std.{proofs.lemmas.List.Sorted.IsPermutation-sym, specs.List.Sorted.IsPermutation}
use Rattle.std.proofs.lemmas.List.Sorted.{IsPermutation-cons, IsPermutation-middle, IsPermutation-refl, IsPermutation-trans}
use Rattle.std.{proofs.lemmas.List.Sorted.Contains-permutation, proofs.lemmas.Bool.cases_eq, proofs.lemmas.Bool.Decides.Decides-eqb}
use Rattle.std.{proofs.lemmas.Grind.common_steps, proofs.Math.Seq.take-suc, specs.Prelude.flat_map, specs.Prelude.slice_index_or}
use Rattle.periodic_net.specs.Graph.{Arc, both_ways, reverse_of, Graph, arcs, arcs_from, IsArc, IsGraph}
use Rattle.periodic_net.proofs.CallerLemmas.{arc_inside, from_is_arc, arc_is_from}
use Rattle.periodic_net.specs.{Classes.ClassArc, Limits.most_shift, Limits.IsSmall}
use Rattle.quotient_graph.specs.Stars.{IsStar, IsArcFrom}
use Rattle.quotient_graph.specs.Building.{back_and_forth, with_arc, AreStars, HaveArcs, EdgeFits, IsSortedFrom, AreSortedFrom}
use Rattle.quotient_graph.specs.ClassNets.{class_star}
use Rattle.integers.proofs.lists.Members.{all_at, IsIn, in_from_contains, contains_from_in}
use Rattle.integers.specs.Vectors.{Vector, opposite, IsWithin}
use Rattle.integers.proofs.numbers.Order.{before_or_at}

-- one after another, the lists have as many members as all of them
pub joined_length : {S A : Type 0} (items : S → List A) (lists : List S) → length (flat_map (λ s. s) (map items lists)) ≡ sum_by (λ s. length (items s)) lists
joined_length items lists = ap length (flat_map-map (λ s. s) items lists) ∙ length-flat_map items lists

-- Lists of arcs by their tails, while arcs are put into them.

-- an arc put last in one list, seen in the list of what the lists hold
pub map_pushed : {S : Type 0} (items : S → List Arc) (xs : List S) (k : ℕ) (d new : S) (a : Arc) → k ≡ a.from - 1 → k < length xs
    → items new ≡ items (get_or xs k d) ++ a ∷ [] → map items (set xs k new) ≡ with_arc (map items xs) a
map_pushed items xs k d new a e h f = grind (arith, map-set, get_or-map)

same_test : (u : ℕ) → (u == u) ≡ true
same_test u = grind (arith, common_steps)

other_test : (u v : ℕ) → u ≢ v → (v == u) ≡ false
other_test u v n = grind (arith, common_steps)

filtered_same : (u : ℕ) (a : Arc) (as' : List Arc) → u ≡ a.from → filter (λ b. b.from == u) (as' ++ a ∷ []) ≡ filter (λ b. b.from == u) as' ++ a ∷ []
filtered_same u a as' e = search (arith, filter-append, same_test)

filtered_other : (u : ℕ) (a : Arc) (as' : List Arc) → u ≢ a.from → filter (λ b. b.from == u) (as' ++ a ∷ []) ≡ filter (λ b. b.from == u) as'
filtered_other u a as' n = filter-append (λ (b : Arc). b.from == u) as' (a ∷ []) ∙ (rw (other_test u a.from n) (grind (arith, common_steps)))

-- one more arc, in the list of its tail
pub have_more : (n : ℕ) (stars : List (List Arc)) (as' : List Arc) (a : Arc) → 1 ≤ a.from → a.from ≤ n → HaveArcs n stars as'
    → HaveArcs n (with_arc stars a) (as' ++ a ∷ [])
have_more n stars as' a low high h = grind (arith, length-set, cases_eq, get_or-set_same, filtered_same, get_or-set_other, filtered_other)

-- one more list, without arcs
pub have_none_more : (n : ℕ) (stars : List (List Arc)) → HaveArcs n stars [] → HaveArcs (n + 1) (stars ++ [] ∷ []) []
have_none_more n stars h = record {
  count = length-append stars ([] ∷ []) ∙ ap (λ k. k + 1) h.count;
  each = λ u low high. elim (before_or_at (u - 1) n (omega (arith, low, high))) [
    | inl l ↦ let c = h.count in get_or_append_left stars ([] ∷ []) [] (u - 1) (omega (arith, l, c)) ∙ h.each u low (omega (arith, low, l))
    | inr e ↦ get_or_push stars [] [] (u - 1) (h.count ∙ sym e)
  ];
}

-- the reverse of the edge at place i
pub have_back_at : (n : ℕ) (stars : List (List Arc)) (es : List Arc) (i : ℕ) (e : Arc) → i < length es → e ≡ get_or es i e → All (EdgeFits n) es
    → HaveArcs n stars (map reverse_of (take i es)) → HaveArcs n (with_arc stars (reverse_of e)) (map reverse_of (take (i + 1) es))
have_back_at n stars es i e l is fit h =
    let fits = subst (EdgeFits n) (sym is) (fit i e l) in
    subst (HaveArcs n (with_arc stars (reverse_of e)))
    (sym (map_more reverse_of es i e l ∙ ap (λ (a : Arc). map reverse_of (take i es) ++ reverse_of a ∷ []) (sym is)))
    (have_more n stars (map reverse_of (take i es)) (reverse_of e) fits.to.0 fits.to.1 h)

-- the edge at place i, after other arcs
pub have_edge_at : (n : ℕ) (stars : List (List Arc)) (earlier es : List Arc) (i : ℕ) (e : Arc) → i < length es → e ≡ get_or es i e → All (EdgeFits n) es
    → HaveArcs n stars (earlier ++ take i es) → HaveArcs n (with_arc stars e) (earlier ++ take (i + 1) es)
have_edge_at n stars earlier es i e l is fit h =
    let fits = subst (EdgeFits n) (sym is) (fit i e l) in
    subst (HaveArcs n (with_arc stars e))
    (append_assoc earlier (take i es) (e ∷ []) ∙ ap (λ (t : List Arc). earlier ++ t) (sym (
    ap (λ (k : ℕ). take k es) (add-one i) ∙ take-suc es i e l ∙ ap (λ (a : Arc). take i es ++ a ∷ []) (sym is))))
    (have_more n stars (earlier ++ take i es) e fits.from.0 fits.from.1 h)

-- The arcs of both ways, whatever their order.

one_edge_more : (b c : Bool) (e r : Arc) (both back forth : List Arc) → IsPermutation both (back ++ forth)
    → IsPermutation (cond b (e ∷ cond c (r ∷ both) both) (cond c (r ∷ both) both)) (cond c (r ∷ back) back ++ cond b (e ∷ forth) forth)
one_edge_more false false e r both back forth h = h
one_edge_more false true e r both back forth h = IsPermutation-cons r both (back ++ forth) h
one_edge_more true false e r both back forth h =
    IsPermutation-trans (e ∷ both) (e ∷ (back ++ forth)) (back ++ e ∷ forth) (IsPermutation-cons e both (back ++ forth) h)
    (IsPermutation-sym (back ++ e ∷ forth) (e ∷ (back ++ forth)) (IsPermutation-middle back e forth))
one_edge_more true true e r both back forth h =
    IsPermutation-trans (e ∷ r ∷ both) (e ∷ r ∷ (back ++ forth)) (r ∷ (back ++ e ∷ forth))
    (IsPermutation-cons e (r ∷ both) (r ∷ (back ++ forth)) (IsPermutation-cons r both (back ++ forth) h))
    (IsPermutation-sym ((r ∷ back) ++ e ∷ forth) (e ∷ ((r ∷ back) ++ forth)) (IsPermutation-middle (r ∷ back) e forth))

chosen_both : (p : Arc → Bool) (es : List Arc) → IsPermutation (filter p (both_ways es)) (filter p (map reverse_of es) ++ filter p es)
chosen_both p [] = IsPermutation-refl []
chosen_both p (e ∷ es) =
    one_edge_more (p e) (p (reverse_of e)) e (reverse_of e) (filter p (both_ways es)) (filter p (map reverse_of es)) (filter p es) (chosen_both p es)

-- lists that have the reverses and the edges, sorted, are the stars
pub sorted_stars : (n : ℕ) (es : List Arc) (old new : List (List Arc)) → HaveArcs n old (back_and_forth es) → AreSortedFrom old new → AreStars n es new
sorted_stars n es old new h s = record {
  count = s.count ∙ h.count;
  each = λ u low high.
      let c = h.count in
      let one = s.each (u - 1) (omega (arith, low, high, c)) in
      let leaves_u = λ (a : Arc). a.from == u in
      let put = h.each u low high ∙ filter-append leaves_u (map reverse_of es) es in
      record {
        same = IsPermutation-trans (filter leaves_u (both_ways es)) (filter leaves_u (map reverse_of es) ++ filter leaves_u es) (get_or new (u - 1) [])
            (chosen_both leaves_u es) (subst (λ (xs : List Arc). IsPermutation xs (get_or new (u - 1) [])) put one.same);
        sorted = one.sorted;
      };
}

-- Lists that are sorted one after the other.

-- the first i lists are sorted, and the others are as they were
pub record AreSortedUpTo (i : ℕ) (old new : List (List Arc)) : Type 0 where
  pub count : length new ≡ length old
  pub done : (k : ℕ) → k < i → IsSortedFrom (get_or old k []) (get_or new k [])
  pub left : (k : ℕ) → i ≤ k → get_or new k [] ≡ get_or old k []

pub sorted_none : (old : List (List Arc)) → AreSortedUpTo 0 old old
sorted_none old = record { count = refl; done = λ k h. absurd (omega arith); left = λ k h. refl }

pub sorted_all : (i : ℕ) (old new : List (List Arc)) → length old ≤ i → AreSortedUpTo i old new → AreSortedFrom old new
sorted_all i old new l h = record { count = h.count; each = λ k b. h.done k (omega arith) }

pub sorted_more : {S : Type 0} (items : S → List Arc) (old : List (List Arc)) (xs : List S) (i : ℕ) (d new : S) → i < length xs
    → IsSortedFrom (items (get_or xs i d)) (items new) → AreSortedUpTo i old (map items xs) → AreSortedUpTo (i + 1) old (map items (set xs i new))
sorted_more items old xs i d new l sorted h = subst (AreSortedUpTo (i + 1) old) (sym (map-set items xs i new)) (record {
  count = length-set (map items xs) i (items new) ∙ h.count;
  done = λ k b. elim (before_or_at k i b) [
    | inl b ↦ subst (IsSortedFrom (get_or old k [])) (sym (get_or-set_other (map items xs) i k (items new) [] (omega arith))) (h.done k b)
    | inr e ↦ subst (λ j. IsSortedFrom (get_or old j []) (get_or (set (map items xs) i (items new)) j [])) (sym e) here
  ];
  left = λ k b. get_or-set_other (map items xs) i k (items new) [] (omega arith) ∙ h.left k (omega arith);
})
  where
    here : IsSortedFrom (get_or old i []) (get_or (set (map items xs) i (items new)) i [])
    here = grind (arith, length-map, get_or-set_same, get_or-map)

-- Lists of class arcs, one for each class, and the arcs from a class.

-- the arcs of the list at place k, counted from 0, leave the class first + k
abbrev pub LeaveFrom : ℕ → List (List ClassArc) → Type 0
LeaveFrom first [] = Unit {0}
LeaveFrom first (s ∷ rest) = ((a : ClassArc) → IsIn s a → a.from ≡ first) × LeaveFrom (suc first) rest

-- whether an arc leaves class c
abbrev leaves : ℕ → ClassArc → Bool
leaves c a = a.from == c

-- if all arcs leave c, all are chosen
all_leave : (c : ℕ) (s : List ClassArc) → ((a : ClassArc) → IsIn s a → a.from ≡ c) → filter (leaves c) s ≡ s
all_leave c [] h = refl
all_leave c (a ∷ s) h = rw ((Decides-eqb a.from c).1 (h a (inl refl))) (ap (λ (t : List ClassArc). a ∷ t) (all_leave c s (λ b i. h b (inr i))))

-- if none does, none is
none_leaves : (c : ℕ) (s : List ClassArc) → ((a : ClassArc) → IsIn s a → a.from ≢ c) → filter (leaves c) s ≡ []
none_leaves c [] h = refl
none_leaves c (a ∷ s) h = rw (other (a.from == c) refl) (none_leaves c s (λ b i. h b (inr i)))
  where
    other : (b : Bool) → (a.from == c) ≡ b → (a.from == c) ≡ false
    other true e = absurd (h a (inl refl) ((Decides-eqb a.from c).0 e))
    other false e = e

-- no arc of the later lists leaves an earlier class
later_leave : (first c : ℕ) → c < first → (stars : List (List ClassArc)) → LeaveFrom first stars → filter (leaves c) (flat_map (λ s. s) stars) ≡ []
later_leave first c l [] h = refl
later_leave first c l (s ∷ rest) h =
    filter-append (leaves c) s (flat_map (λ t. t) rest)
    ∙ ap (λ (t : List ClassArc). t ++ filter (leaves c) (flat_map (λ u. u) rest)) (none_leaves c s (λ a i e. let f = h.0 a i in omega (arith, l, e, f)))
    ∙ later_leave (suc first) c (omega (arith, l)) rest h.1

-- the list at place k has the arcs that leave its class
at_place : (first k : ℕ) (stars : List (List ClassArc)) → k < length stars → LeaveFrom first stars
    → slice_index_or stars k [] ≡ filter (leaves (first + k)) (flat_map (λ s. s) stars)
at_place first k [] l h = absurd (omega (arith, l))
at_place first zero (s ∷ rest) l h =
    let e : first + 0 ≡ first = omega arith in
    rw e (sym (
    filter-append (leaves first) s (flat_map (λ t. t) rest)
    ∙ ap (λ (t : List ClassArc). t ++ filter (leaves first) (flat_map (λ u. u) rest)) (all_leave first s h.0)
    ∙ ap (λ (t : List ClassArc). s ++ t) (later_leave (suc first) first (omega arith) rest h.1)
    ∙ append-nil s))
at_place first (suc k) (s ∷ rest) l h =
    let e : first + suc k ≡ suc first + k = omega arith in
    let r = at_place (suc first) k rest (omega (arith, l)) h.1 in
    rw e (r ∙ sym (
    filter-append (leaves (suc first + k)) s (flat_map (λ t. t) rest)
    ∙ ap (λ (t : List ClassArc). t ++ filter (leaves (suc first + k)) (flat_map (λ u. u) rest))
    (none_leaves (suc first + k) s (λ a i d. let f = h.0 a i in omega (arith, d, f)))))

-- lists whose arcs leave their classes are the arcs from the classes
pub stars_are_arcs : (stars : List (List ClassArc)) → LeaveFrom 1 stars → (c : ℕ) → 1 ≤ c → c ≤ length stars
    → class_star stars c ≡ filter (λ a. a.from == c) (flat_map (λ s. s) stars)
stars_are_arcs stars h zero low high = absurd (omega (arith, low))
stars_are_arcs stars h (suc k) low high = let e : suc k - 1 ≡ k = omega arith in let f : 1 + k ≡ suc k = omega arith in
    rw e (at_place 1 k stars (omega (arith, high)) h ∙ ap (λ (c : ℕ). filter (leaves c) (flat_map (λ s. s) stars)) f)

-- The arcs from a vertex are among the vertices and within the limits, and they are all the arcs from it.

opposite_within : (n : ℕ) (s : Vector) → IsWithin n s → IsWithin n (opposite s)
opposite_within n s h = search arith

both_within : (es : List Arc) → AllByRecursion (λ e. IsWithin most_shift e.shift) es → AllByRecursion (λ a. IsWithin most_shift a.shift) (both_ways es)
both_within [] h = tt
both_within (e ∷ es) h = (h.0, (opposite_within most_shift e.shift h.0, both_within es h.1))

-- the shifts of all arcs are within the limits
pub arc_within : (G : Graph) → IsSmall G → (a : Arc) → IsArc G a → IsWithin most_shift a.shift
arc_within G s a h =
    all_at (λ b. IsWithin most_shift b.shift) (arcs G) a
    (All-from_recursion (λ b. IsWithin most_shift b.shift) (arcs G) (both_within G.edges
    (recursion_from_All (λ e. IsWithin most_shift e.shift) G.edges s.shifts))) h

member : (star : List Arc) (k : ℕ) (d : Arc) → k < length star → Contains star (get_or star k d)
member star k d h = search (arith, get_or_default)

pub each_arc_from : (G : Graph) (u : ℕ) (star : List Arc) → IsGraph G → IsSmall G → IsStar G u star → All (IsArcFrom G u) star
each_arc_from G u star g s h k d l =
    let c = Contains-permutation star (arcs_from G u) (get_or star k d) (IsPermutation-sym (arcs_from G u) star h.all) (member star k d l) in
    let is = from_is_arc G u (get_or star k d) (in_from_contains (arcs_from G u) (get_or star k d) c.0 c.1 c.2) in
    record {
      is_arc = is.0;
      from = is.1;
      to = (arc_inside G g (get_or star k d) is.0).to;
      shift = arc_within G s (get_or star k d) is.0;
    }

pub every_arc_from : (G : Graph) (u : ℕ) (star : List Arc) → IsStar G u star → (a : Arc) → IsArc G a → a.from ≡ u → Contains star a
every_arc_from G u star h a i e = Contains-permutation (arcs_from G u) star a h.all (contains_from_in (arcs_from G u) a (arc_is_from G u a i e))
