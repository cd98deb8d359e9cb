-- The search in breadth goes on by one arc.
use Rattle.std.proofs.Common.{◌≡◌, ℕ, zero, suc, ◌<◌, inl, inr, List, [], ◌∷◌, ◌++◌, length, map, get_or, refl, sym, ap, ◌∙◌, arith, pos, ◌<ℤ◌, subst}
use Rattle.std.proofs.Common.{◌+◌, ◌-◌, ◌≤◌, Option, Some, All, Contains, ◌≢◌, ◌⊎◌, set, None, IsSome, get_or-set_other, ◌*◌, ◌^◌}
use Rattle.std.proofs.{lemmas.Int.ints, lemmas.List.Elements.All-contains, lemmas.List.get_or_append_left}
use Rattle.std.specs.Prelude.{drop}
use Rattle.integers.proofs.lists.Members.{IsIn, contains_from_in, is_in, in_at}
use Rattle.integers.proofs.lists.GrownLists.{drop_at, drop_all, in_more, drop_with}
use Rattle.integers.proofs.{numbers.Order.next_number, vectors.Laws.plus_associative, vectors.Laws.plus_commutative, vectors.Directions.below_ways}
use Rattle.integers.specs.Vectors.{plus, IsBelow, Vector, zero_vector}
use Rattle.periodic_net.specs.Graph.{Arc, Graph, IsArc}
use Rattle.periodic_net.specs.Chosen.{path_shift, step_key, IsChosen}
use Rattle.periodic_net.specs.Settling.{Entry, entry, IsSettling, IsComplete}
use Rattle.periodic_net.specs.{Breadth.AreSortedArcs, Limits.most_walk}
use Rattle.quotient_graph.specs.{Order.AreRising, Stars.IsStar, Stars.IsArcFrom}
use Rattle.periodic_net.proofs.CallerLemmas.{complete_chosen, settle_start, settle_next, settle_end, settle_known, settle_new}
use Rattle.connected_dim.specs.Search.{walk_to, none_found, order_with, IsSearch, found_with}
use Rattle.connected_dim.specs.Paths.{IsPathSearch, IsBegun, IsSettledTo, AreChosenWalks}
use Rattle.connected_dim.specs.Bounds.{most_normal}
use Rattle.connected_dim.proofs.Starting.{none_at, some_value, one_value, found_is, set_there, none_is_not_some}

-- Lists of the vertices that were found, with their paths.

abbrev pub vertex_of : Entry → ℕ
vertex_of y = y.vertex

-- as many vertices as entries
pub as_many : (ys : List Entry) → length (map vertex_of ys) ≡ length ys
as_many [] = refl
as_many (y ∷ ys) = ap suc (as_many ys)

-- the vertex at a place
pub vertex_at : (ys : List Entry) (i : ℕ) (d : Entry) → i < length ys → get_or (map vertex_of ys) i 0 ≡ (get_or ys i d).vertex
vertex_at [] i d l = absurd (omega arith)
vertex_at (y ∷ ys) zero d l = refl
vertex_at (y ∷ ys) (suc i) d l = vertex_at ys i d (omega arith)

-- one more at the end
pub vertices_more : (ys : List Entry) (y : Entry) → map vertex_of (ys ++ y ∷ []) ≡ map vertex_of ys ++ y.vertex ∷ []
vertices_more [] y = refl
vertices_more (z ∷ ys) y = ap (λ us. z.vertex ∷ us) (vertices_more ys y)

-- the entry of a vertex
pub entry_of : (ys : List Entry) (u : ℕ) → IsIn (map vertex_of ys) u → (y : Entry) × IsIn ys y × (y.vertex ≡ u)
entry_of [] u h = elim h [ ]
entry_of (y ∷ ys) u (inl e) = (y, inl refl, e)
entry_of (y ∷ ys) u (inr h) = let k = entry_of ys u h in (k.0, inr k.1, k.2)

-- the shift of a path that goes on by one arc
pub shift_more : (fs : List Arc) (f : Arc) → path_shift (fs ++ f ∷ []) ≡ plus (path_shift fs) f.shift
shift_more [] f = plus_commutative f.shift (path_shift [])
shift_more (g ∷ fs) f = ap (plus g.shift) (shift_more fs f) ∙ sym (plus_associative g.shift (path_shift fs) f.shift)

-- The arcs from a vertex, as the graph keeps them, are sorted as the search in breadth wants them.

less_not_same : (x y : ℕ) → pos x <ℤ pos y → x ≡ y → ⊥
less_not_same x y l e = omega (arith, ints)

-- rising arcs with one tail rise by head and shift
pub rising_sorted : (fs : List Arc) (u : ℕ) → ((f : Arc) → IsIn fs f → f.from ≡ u) → AreRising fs → AreSortedArcs fs
rising_sorted [] u from h = tt
rising_sorted (f ∷ fs) u from h = (
  (λ g i.
      let c = contains_from_in fs g i in let b = h 0 (suc c.0) g (omega arith) (omega arith) in
      let b' : IsBelow (pos f.from ∷ step_key f) (pos g.from ∷ step_key g) =
      subst (λ (x : Arc). IsBelow (pos f.from ∷ step_key f) (pos x.from ∷ step_key x)) c.2 b in
      elim (below_ways (pos f.from) (pos g.from) (step_key f) (step_key g) b') [
        | inl l ↦ absurd (less_not_same f.from g.from l (from f (inl refl) ∙ sym (from g (inr i))))
        | inr r ↦ r.1
      ]),
  rising_sorted fs u (λ g i. from g (inr i)) (λ i j d a b. h (suc i) (suc j) d (omega arith) (omega arith)),
)

-- the arcs from a vertex, in rising order
pub record AreArcsOf (G : Graph) (u : ℕ) (row : List Arc) : Type 0 where
  pub sorted : AreSortedArcs row
  pub from : (f : Arc) → IsIn row f → IsArc G f × (f.from ≡ u)
  pub all : (f : Arc) → IsArc G f → f.from ≡ u → IsIn row f

module _ (G : Graph) (a : ℕ) (found : List (Option Vector)) (order : List ℕ) where
  -- the first vertex
  path_first : (u : ℕ) → IsBegun a found order → get_or order 0 0 ≡ u → (row : List Arc) → AreArcsOf G u row → IsPathSearch G a found order 0 row
  path_first u b at row r =
      let same : a ≡ u = sym (ap (λ (os : List ℕ). get_or os 0 0) b.alone) ∙ at in
      record {
        known = entry a [] ∷ [];
        vertices = sym b.alone;
        shifts = λ y. elim [ inl e ↦ subst (λ (z : Entry). walk_to found z.vertex ≡ Some (path_shift z.path)) e b.nowhere | inr h ↦ elim h [ ] ];
        settling = settle_start G a row r.sorted (λ f i. let k = r.from f i in (k.0, k.1 ∙ sym same)) (λ f h e. r.all f h (e ∙ same));
      }

  back_again : (i : ℕ) → 1 ≤ i → i - 1 + 1 ≡ i
  back_again i l = omega arith

  -- a later one
  path_later : (i u : ℕ) → 1 ≤ i → i < length order → IsPathSearch G a found order (i - 1) [] → get_or order i 0 ≡ u → (row : List Arc) → AreArcsOf G u row
      → IsPathSearch G a found order i row
  path_later i u one l s at row r =
      let inside : i < length s.known = let e = as_many s.known in let d = ap length s.vertices in omega arith in
      let next = get_or s.known i (entry a []) in
      let same : next.vertex ≡ u = sym (vertex_at s.known i (entry a []) inside) ∙ ap (λ us. get_or us i 0) s.vertices ∙ at in
      let rest : drop (i - 1 + 1) s.known ≡ next ∷ drop (i + 1) s.known =
      ap (λ k. drop k s.known) (back_again i one) ∙ drop_at s.known i (entry a []) inside ∙ ap (λ k. next ∷ drop k s.known) (next_number i) in
      record {
        known = s.known;
        vertices = s.vertices;
        shifts = s.shifts;
        settling = settle_next G a s.known (drop (i + 1) s.known) (get_or s.known (i - 1) (entry a [])) next row
            (subst (λ ys. IsSettling G a s.known ys (get_or s.known (i - 1) (entry a [])) []) rest s.settling) r.sorted
            (λ f j. let k = r.from f j in (k.0, k.1 ∙ sym same)) (λ f h e. r.all f h (e ∙ same));
      }

  -- the next vertex is gone on from
  pub path_begin : (i u : ℕ) → i < length order → get_or order i 0 ≡ u → IsSettledTo G a found order i → (row : List Arc) → AreArcsOf G u row
      → IsPathSearch G a found order i row
  path_begin i u l at s row r = elim s.which [
    | inl k ↦ subst (λ j. IsPathSearch G a found order j row) (sym k.0) (path_first u k.1 (subst (λ j. get_or order j 0 ≡ u) k.0 at) row r)
    | inr k ↦ path_later i u k.0 l k.1 at row r
  ]

  -- and was by all of its arcs
  pub path_end : (i : ℕ) → IsPathSearch G a found order i [] → IsSettledTo G a found order (i + 1)
  path_end i s = grind arith

  -- the paths that were found at the end
  path_complete : (i : ℕ) → length order ≤ i + 1 → (s : IsPathSearch G a found order i []) → IsComplete G a s.known
  path_complete i l s =
      let none : drop (i + 1) s.known ≡ [] = drop_all s.known (i + 1) (let e = as_many s.known in let d = ap length s.vertices in omega arith) in
      settle_end G a s.known (get_or s.known i (entry a [])) (subst (λ ys. IsSettling G a s.known ys (get_or s.known i (entry a [])) []) none s.settling)

  -- so all are chosen
  pub paths_chosen : (i : ℕ) → length order ≤ i → IsSearch G a found order → IsSettledTo G a found order i → AreChosenWalks G a found
  paths_chosen i l h s = elim s.which [ inl k ↦ absurd (let e = k.0 in let o = ap length k.1.alone in omega arith) | inr k ↦ chosen k.0 k.1 ]
    where
      chosen : 1 ≤ i → IsPathSearch G a found order (i - 1) [] → AreChosenWalks G a found
      chosen one p = record {
        each = λ u T low e.
            let c = is_in order u (h.listed u T low e) in
            let y = entry_of p.known u (subst (λ us. IsIn us u) (sym p.vertices) c) in
            let whole = path_complete (i - 1) (omega (arith, one, l)) p in
            let is_chosen = complete_chosen G a p.known whole y.0 y.1 in
            let shift = one_value (walk_to found u) (path_shift y.0.path) T
            (subst (λ v. walk_to found v ≡ Some (path_shift y.0.path)) y.2 (p.shifts y.0 y.1)) e in
            (y.0.path, subst (λ v. IsChosen G a v y.0.path) y.2 is_chosen, shift);
      }

  -- at its start the search has gone on from nothing
  pub settled_start : (n : ℕ) → order ≡ order_with (none_found n) [] a → walk_to found a ≡ Some zero_vector → IsSettledTo G a found order 0
  settled_start n e w = search (arith, none_at)

-- The arcs from a vertex, as the search goes over them.

-- a star has all arcs from its vertex, in rising order
pub arcs_of_star : (G : Graph) (u : ℕ) (row : List Arc) → IsStar G u row → All (IsArcFrom G u) row → ((a : Arc) → IsArc G a → a.from ≡ u → Contains row a)
    → AreArcsOf G u row
arcs_of_star G u row star each every = record {
  sorted = rising_sorted row u (λ f i. (here f i).from) star.rising;
  from = λ f i. ((here f i).is_arc, (here f i).from);
  all = λ f h e. is_in row f (every f h e);
}
  where
    here : (f : Arc) → IsIn row f → IsArcFrom G u f
    here f i = All-contains (IsArcFrom G u) row f each (contains_from_in row f i)

-- the arcs that are left begin with the one at the place
pub left_at : (row : List Arc) (k : ℕ) (f : Arc) → k < length row → get_or row k f ≡ f → drop k row ≡ f ∷ drop (k + 1) row
left_at row k f l e = drop_at row k f l ∙ (λ i. e i ∷ drop (next_number k i) row)

module _ {G : Graph} {a : ℕ} {found : List (Option Vector)} {order : List ℕ} {i : ℕ} {f : Arc} {left : List Arc}
    (s : IsPathSearch G a found order i (f ∷ left)) where
  abbrev current : Entry
  current = get_or s.known i (entry a [])

  -- the arc leads to a vertex that was found
  path_known : IsSearch G a found order → 1 ≤ f.to → IsSome (walk_to found f.to) → IsPathSearch G a found order i left
  path_known h low some =
      let v = some_value (walk_to found f.to) some in let c = is_in order f.to (h.listed f.to v.0 low v.1) in
      let z = entry_of s.known f.to (subst (λ us. IsIn us f.to) (sym s.vertices) c) in
      record {
        known = s.known;
        vertices = s.vertices;
        shifts = s.shifts;
        settling = settle_known G a s.known (drop (i + 1) s.known) current f left s.settling z.0 z.1 z.2;
      }

  -- it leads to another
  path_new : (u : ℕ) (T : Vector) → i < length order → get_or order i 0 ≡ u → walk_to found u ≡ Some T → 1 ≤ f.to → f.to ≤ length found
      → walk_to found f.to ≡ None
      → IsPathSearch G a (set found (f.to - 1) (Some (plus T f.shift))) (order ++ f.to ∷ []) i left
  path_new u T l at w low high none = record {
    known = s.known ++ new ∷ [];
    vertices = vertices_more s.known new ∙ ap (λ us. us ++ f.to ∷ []) s.vertices;
    shifts = λ y j. shift y (in_more s.known new y j);
    settling = subst (λ r. IsSettling G a (s.known ++ new ∷ []) r (get_or (s.known ++ new ∷ []) i (entry a [])) left)
        (sym (drop_with s.known (i + 1) new (omega (arith, inside))))
        (rw (get_or_append_left s.known (new ∷ []) (entry a []) i inside) (settle_new G a s.known (drop (i + 1) s.known) current f left s.settling missing));
  }
    where
      new : Entry
      new = entry f.to (current.path ++ f ∷ [])

      inside : i < length s.known
      inside = let e = as_many s.known in let d = ap length s.vertices in omega arith

      missing : (z : Entry) → IsIn s.known z → z.vertex ≡ f.to → ⊥
      missing z j e = none_is_not_some (walk_to found f.to) (path_shift z.path) none (subst (λ v. walk_to found v ≡ Some (path_shift z.path)) e (s.shifts z j))

      here : path_shift current.path ≡ T
      here =
          let same : current.vertex ≡ u = sym (vertex_at s.known i (entry a []) inside) ∙ ap (λ us. get_or us i 0) s.vertices ∙ at in
          one_value (walk_to found u) (path_shift current.path) T (rw same at (s.shifts current (in_at s.known i (entry a []) inside))) w

      shift : (y : Entry) → IsIn s.known y ⊎ (new ≡ y) → walk_to (set found (f.to - 1) (Some (plus T f.shift))) y.vertex ≡ Some (path_shift y.path)
      shift y (inl j) =
          let other : y.vertex - 1 ≢ f.to - 1 = λ e. none_is_not_some (walk_to found f.to) (path_shift y.path) none
          (subst (λ k. get_or found k None ≡ Some (path_shift y.path)) e (s.shifts y j)) in
          get_or-set_other found (f.to - 1) (y.vertex - 1) (Some (plus T f.shift)) None other ∙ s.shifts y j
      shift y (inr e) =
          subst (λ (z : Entry). walk_to (set found (f.to - 1) (Some (plus T f.shift))) z.vertex ≡ Some (path_shift z.path)) e
          (set_there found f.to (plus T f.shift) low high ∙ ap Some (ap (λ t. plus t f.shift) (sym here) ∙ sym (shift_more current.path f)))

  -- so by each arc
  pub path_step : IsSearch G a found order → (u : ℕ) (T : Vector) → i < length order → get_or order i 0 ≡ u → walk_to found u ≡ Some T → 1 ≤ f.to
      → f.to ≤ length found
      → {found' : List (Option Vector)} {order' : List ℕ} → found' ≡ found_with found f.to (plus T f.shift) → order' ≡ order_with found order f.to
      → IsPathSearch G a found' order' i left
  path_step h u T l at w low high e d =
      elim (found_is found order f.to (plus T f.shift)).which [
        | inl k ↦ rw (e ∙ k.1, d ∙ k.2) (path_known h low k.0)
        | inr k ↦ rw (e ∙ k.1, d ∙ k.2) (path_new u T l at w low high k.0)
      ]

-- Bounds of the products of a vector and a walk.

-- of a normal
pub flat_within : (n : ℕ) → n ≤ 3 * (most_normal * most_walk) → n ≤ 2 ^ 62
flat_within n h = omega arith

-- of a vector with parts below a pivot
pub sparse_within : (n : ℕ) → n ≤ 3 * (2 ^ 60 * most_walk) → n ≤ 2 ^ 82
sparse_within n h = omega arith
