-- The shells of a vertex, one from the next: each can be listed, a search of one goes on and ends, and they are counted.
use Rattle.std.proofs.Common.{◌≡◌, ◌↔◌, ℕ, zero, suc, ◌<◌, ◌≤◌, List, ◌++◌, ◌⊎◌, inl, inr, ◌+◌, [], ◌∷◌, length, refl, sym, subst, arith, take, ap, ◌∙◌}
use Rattle.std.proofs.Common.{append_assoc, append-nil, ◌-◌, get_or, sum, length-append, map}
use Rattle.std.{proofs.lemmas.Bool.Decides.Decides-eqb, proofs.lemmas.List.take_all, proofs.lemmas.List.get_or_append_left}
use Rattle.std.{proofs.lemmas.List.Sums.sum_by_push, specs.List.flat_map, specs.Prelude.◌==◌, specs.Prelude.slice_index_or}
use Rattle.integers.proofs.lists.Members.{IsIn, AreApart, is_in, contains_from_in, apart_from_pairs, pairs_from_apart, in_append, append_left, apart_right}
use Rattle.integers.proofs.lists.Members.{in_pieces, pieces_in, in_map, map_in, append_right, in_take, not_in_both, no_longer, in_filter, filter_in}
use Rattle.integers.proofs.{numbers.Order.next_number, lists.GrownLists.some_grown, lists.GrownLists.Grows}
use Rattle.coordination.specs.Points.{along, ends_of, IsStep}
use Rattle.coordination.specs.Sequences.{most_shells, most_in_shells, AreShellsOf, IsShellPast}
use Rattle.coordination.specs.{Expanding.Expands, Expanding.StandOnce, declared.point.Point.Point}
use Prim.{Dec}
use Rattle.periodic_net.specs.Shells.{StepsLead, IsInShell, IsShellSize}
use Rattle.periodic_net.specs.Graph.{Graph, Vertex, AreJoined, arcs_from, IsWalk}
use Rattle.periodic_net.proofs.CallerLemmas.{arc_between, arc_is_from, end_between, end_joined, end_of, from_is_arc, vertex_decided}
use Rattle.periodic_net.specs.Classes.{ClassGraph, ClassArc}
use Rattle.quotient_graph.specs.ClassNets.{arcs_of}

-- Walks along a relation of steps, and the shells of a start.

module _ {X : Type 0} (Step : X → X → Type 0) where
  -- k steps lead from x to y
  abbrev pub Leads : ℕ → X → X → Type 0
  Leads zero x y = x ≡ y
  Leads (suc k) x y = (z : X) × Step x z × Leads k z y

  -- x is reached from s by k steps and by no fewer
  pub record IsShell (s : X) (k : ℕ) (x : X) : Type 0 where
    pub reached : Leads k s x
    pub no_fewer : (j : ℕ) → Leads j s x → k ≤ j

  -- exactly the members of shell k, each once
  pub record AreShell (s : X) (k : ℕ) (xs : List X) : Type 0 where
    pub exact : (x : X) → IsIn xs x ↔ IsShell s k x
    pub once : AreApart xs

  -- members of shell k, each once
  pub record AreSomeOf (s : X) (k : ℕ) (xs : List X) : Type 0 where
    pub inside : (x : X) → IsIn xs x → IsShell s k x
    pub once : AreApart xs

  -- what fewer than k steps reach, and shell k
  pub record AreLayers (s : X) (k : ℕ) (before shell : List X) : Type 0 where
    pub inner : (x : X) → IsIn before x → (j : ℕ) × (j < k) × Leads j s x
    pub outer : (x : X) → IsIn shell x → Leads k s x
    pub all_inner : (j : ℕ) (x : X) → j < k → Leads j s x → IsIn before x
    pub all_outer : (x : X) → Leads k s x → IsIn (before ++ shell) x
    pub once : AreApart (before ++ shell)

module _ {X : Type 0} (Step : X → X → Type 0) where
  -- one step more
  pub and_on : (k : ℕ) (s q p : X) → Leads Step k s q → Step q p → Leads Step (suc k) s p
  and_on zero s q p l t = (p, subst (λ (r : X). Step r p) (sym l) t, refl)
  and_on (suc k) s q p l t = (l.0, l.1, and_on k l.0 q p l.2 t)

  -- the last step
  last_step : (k : ℕ) (s p : X) → Leads Step (suc k) s p → (q : X) × Leads Step k s q × Step q p
  last_step zero s p l = (s, refl, subst (Step s) l.2 l.1)
  last_step (suc k) s p l = let r = last_step k l.0 p l.2 in (r.0, (l.0, l.1, r.1), r.2)

  module _ (s : X) (k : ℕ) (before shell : List X) (h : AreLayers Step s k before shell) where
    -- what is below k + 1 is below k or is k
    below_or_at : (j : ℕ) → j < k + 1 → (j < k) ⊎ (j ≡ k)
    below_or_at j b = grind arith

    -- what at most k steps reach are in the two layers
    within : (j : ℕ) (p : X) → (j < k) ⊎ (j ≡ k) → Leads Step j s p → IsIn (before ++ shell) p
    within j p q r = search (arith, append_left)

    -- the outer layer is shell k
    pub layer_is_shell : AreShell Step s k shell
    layer_is_shell = grind (arith, in_append, apart_right, not_in_both)

    module _ (room : ℕ) (next : List X) (x : Expands Step room shell (before ++ shell) next) where
      -- nothing stands twice in the layers and what comes after them
      apart : AreApart ((before ++ shell) ++ next)
      apart = apart_from_pairs ((before ++ shell) ++ next) x.once

      -- k + 1 steps reach what was found
      new_leads : (p : X) → IsIn next p → Leads Step (suc k) s p
      new_leads p i = let r = x.each p (contains_from_in next p i) in and_on k s r.0 p (h.outer r.0 (is_in shell r.0 r.1)) r.2

      -- what was found is of shell k + 1
      pub next_inside : AreSomeOf Step s (k + 1) next
      next_inside = record {
        inside = λ p i. record { reached = subst (λ n. Leads Step n s p) (next_number k) (new_leads p i); no_fewer = λ j l. by p i j l (below j) };
        once = apart_right (before ++ shell) next apart;
      }
        where
          below : (j : ℕ) → ((j < k) ⊎ (j ≡ k)) ⊎ (k + 1 ≤ j)
          below j = grind arith

          by : (p : X) → IsIn next p → (j : ℕ) → Leads Step j s p → ((j < k) ⊎ (j ≡ k)) ⊎ (k + 1 ≤ j) → k + 1 ≤ j
          by p i j l (inl b) = absurd (not_in_both (before ++ shell) next apart p (within j p b l) i)
          by p i j l (inr b) = b

      -- where all is found, the layers go on
      pub next_layers : length next ≤ room → AreLayers Step s (k + 1) (before ++ shell) next
      next_layers f = record {
        inner = λ p i. inner p (in_append before shell p i);
        outer = λ p i. (next_inside.inside p i).reached;
        all_inner = λ j p b l. within j p (below_or_at j b) l;
        all_outer = λ p l. let r = last_step k s p (subst (λ n. Leads Step n s p) (sym (next_number k)) l) in
            outer p r.0 r.1 r.2 (in_append before shell r.0 (h.all_outer r.0 r.1));
        once = apart;
      }
        where
          inner : (p : X) → IsIn before p ⊎ IsIn shell p → (j : ℕ) × (j < k + 1) × Leads Step j s p
          inner p l = grind arith

          outer : (p q : X) → Leads Step k s q → Step q p → IsIn before q ⊎ IsIn shell q → IsIn ((before ++ shell) ++ next) p
          outer p q l t (inl i) =
              let r = h.inner q i in let b = r.1 in
              append_left (before ++ shell) next p (within (suc r.0) p (below_or_at (suc r.0) (omega arith)) (and_on r.0 s q p r.2 t))
          outer p q l t (inr i) = is_in ((before ++ shell) ++ next) p (x.every f q p (contains_from_in shell q i) t)

-- the start is the first layer
pub start_layers : {X : Type 0} (Step : X → X → Type 0) (s : X) → AreLayers Step s 0 [] (s ∷ [])
start_layers {X} Step s = record {
  inner = λ p i. absurd i;
  outer = λ p i. by p i;
  all_inner = λ j p b l. absurd (none j b);
  all_outer = λ p l. inl l;
  once = ((λ i. i), tt);
}
  where
    none : (j : ℕ) → j < 0 → ⊥
    none j b = omega arith

    by : (p : X) → IsIn (s ∷ []) p → s ≡ p
    by p h = search arith

-- Each shell can be listed, if equality is decided and what steps lead to can be listed.

-- exactly what steps lead to from each x
pub record AreNeighbours {X : Type 0} (Step : X → X → Type 0) (neighbours : X → List X) : Type 0 where
  pub each : (x y : X) → IsIn (neighbours x) y → Step x y
  pub every : (x y : X) → Step x y → IsIn (neighbours x) y

module _ {X : Type 0} (Step : X → X → Type 0) (same : (x y : X) → Dec (x ≡ y)) (neighbours : X → List X) (h : AreNeighbours Step neighbours) where
  -- all that comes after a shell
  record After (found shell : List X) : Type 0 where
    next : List X
    expands : Expands Step (length next) shell found next

  -- it can be listed
  after : (found shell : List X) → AreApart found → After found shell
  after found shell a =
      let g = some_grown same (flat_map neighbours shell) found in let r = g.grows in
      record {
        next = r.more;
        expands = record {
          each = λ x i. let m = in_pieces neighbours shell x (r.each x (is_in r.more x i)) in (m.0, contains_from_in shell m.0 m.1, h.each m.0 x m.2);
          once = pairs_from_apart (found ++ r.more) (subst AreApart r.found_is (r.once a));
          every = λ f y x i t. contains_from_in (found ++ r.more) x (subst (λ (xs : List X). IsIn xs x) r.found_is
              (r.every x (pieces_in neighbours shell y x (is_in shell y i) (h.every y x t))));
        };
      }

  -- two layers of a start
  record Layers (s : X) (k : ℕ) : Type 0 where
    before : List X
    shell : List X
    layers : AreLayers Step s k before shell

  -- there are such for each number of steps
  layers_of : (s : X) (k : ℕ) → Layers s k
  layers_of s zero = record { before = []; shell = s ∷ []; layers = start_layers Step s }
  layers_of s (suc k) = by (layers_of s k)
    where
      by : Layers s k → Layers s (suc k)
      by l =
          let x = after (l.before ++ l.shell) l.shell l.layers.once in
          let more : k + 1 ≡ suc k = omega arith in
          record {
            before = l.before ++ l.shell;
            shell = x.next;
            layers = rw more at (next_layers Step s k l.before l.shell l.layers (length x.next) x.next x.expands (omega arith));
          }

  -- each shell can be listed
  pub some_shell : (s : X) (k : ℕ) → (xs : List X) × AreShell Step s k xs
  some_shell s k = let l = layers_of s k in (l.shell, layer_is_shell Step s k l.before l.shell l.layers)

-- The points to which steps lead from a point.

-- the points to which the arcs from the class of p lead from p
abbrev pub neighbours : ClassGraph → Point → List Point
neighbours K p = ends_of p (arcs_of K p.class)

-- a step leads to each of these
pub neighbour_step : (K : ClassGraph) (p q : Point) → IsIn (neighbours K p) q → IsStep K p q
neighbour_step K p q i =
    let m = in_map (along p) (arcs_of K p.class) q i in
    let r = in_filter (λ (a : ClassArc). a.from == p.class) K.arcs m.0 m.1 in
    record { arc = m.0; is_arc = contains_from_in K.arcs m.0 r.0; from = (Decides-eqb m.0.from p.class).0 r.1; onto = m.2 }

-- each step leads to one of these
pub step_neighbour : (K : ClassGraph) (p q : Point) → IsStep K p q → IsIn (neighbours K p) q
step_neighbour K p q t =
    rw t.onto at (map_in (along p) (arcs_of K p.class) t.arc (filter_in (λ (a : ClassArc). a.from == p.class) K.arcs t.arc (is_in K.arcs t.arc t.is_arc)
    ((Decides-eqb t.arc.from p.class).1 t.from)))

-- these are all
pub points_around : (K : ClassGraph) → AreNeighbours (IsStep K) (neighbours K)
points_around K = record { each = neighbour_step K; every = step_neighbour K }

-- all steps were made from what is done; next has what they lead to and was not found before
pub record AreSearched {X : Type 0} (Step : X → X → Type 0) (done before found next : List X) : Type 0 where
  pub found_is : found ≡ before ++ next
  pub each : (x : X) → IsIn next x → (y : X) × IsIn done y × Step y x
  pub every : (y x : X) → IsIn done y → Step y x → IsIn found x
  pub once : AreApart found

module _ {X : Type 0} (Step : X → X → Type 0) where
  -- no step was made yet
  pub search_starts : (before next : List X) → StandOnce before → next ≡ [] → AreSearched Step [] before before next
  search_starts before next h e = grind (arith, append-nil, apart_from_pairs)

  module _ (neighbours : X → List X) (n : AreNeighbours Step neighbours) where
    -- the steps from one member more
    pub search_more : (done before found next found' next' : List X) (from : X) → AreSearched Step done before found next
        → Grows (neighbours from) found next found' next' → AreSearched Step (done ++ from ∷ []) before found' next'
    search_more done before found next found' next' from h r = record {
      found_is = r.found_is ∙ ap (λ xs. xs ++ r.more) h.found_is ∙ append_assoc before next r.more ∙ sym (ap (λ xs. before ++ xs) r.next_is);
      each = λ x i. each x (in_append next r.more x (subst (λ xs. IsIn xs x) r.next_is i));
      every = λ y x i t. every y x t (in_append done (from ∷ []) y i);
      once = r.once h.once;
    }
      where
        each : (x : X) → IsIn next x ⊎ IsIn r.more x → (y : X) × IsIn (done ++ from ∷ []) y × Step y x
        each x (inl i) = let t = h.each x i in (t.0, append_left done (from ∷ []) t.0 t.1, t.2)
        each x (inr i) = (from, append_right done (from ∷ []) from (inl refl), n.each from x (r.each x i))

        every : (y x : X) → Step y x → IsIn done y ⊎ IsIn (from ∷ []) y → IsIn found' x
        every y x k l = search (arith, append_left, from)

  -- the search has come to the end of the shell
  pub search_ends : (room i : ℕ) (shell before found next : List X) → length shell ≤ i → AreSearched Step (take i shell) before found next
      → Expands Step room shell before next
  search_ends room i shell before found next l h =
      let s = subst (λ xs. AreSearched Step xs before found next) (take_all i shell l) h in
      record {
        each = λ x j. let r = s.each x (is_in next x j) in (r.0, contains_from_in shell r.0 r.1, r.2);
        once = pairs_from_apart (before ++ next) (subst AreApart s.found_is s.once);
        every = λ f y x j t. contains_from_in (before ++ next) x (subst (λ xs. IsIn xs x) s.found_is (s.every y x (is_in shell y j) t));
      }

  -- or has found too many
  pub search_stops : (room i : ℕ) (shell before found next : List X) → room < length next → AreSearched Step (take i shell) before found next
      → Expands Step room shell before next
  search_stops room i shell before found next l h = record {
    each = λ x j. let r = h.each x (is_in next x j) in (r.0, contains_from_in shell r.0 (in_take i shell r.0 r.1), r.2);
    once = pairs_from_apart (before ++ next) (subst AreApart h.found_is h.once);
    every = λ f y x j t. absurd (omega arith);
  }

-- The shells are counted one after the other.

module _ {X : Type 0} (Step : X → X → Type 0) (s : X) where
  -- shell k has this size
  pub record HasSize (k size : ℕ) : Type 0 where
    pub members : List X
    pub shell : AreShell Step s k members
    pub count : length members ≡ size

  -- with shell k the total passes the limit
  pub record IsPast (k total : ℕ) : Type 0 where
    pub members : List X
    pub shell : AreShell Step s k members
    pub past : most_in_shells < total + length members

  -- the sizes of the shells, as far as they are listed
  pub record AreSizes (sizes : List ℕ) : Type 0 where
    pub each : (k : ℕ) → k < length sizes → HasSize (k + 1) (slice_index_or sizes k 0)
    pub within : sum sizes ≤ most_in_shells
    pub few : length sizes ≤ most_shells
    pub ends : (length sizes ≡ most_shells) ⊎ IsPast (length sizes + 1) (sum sizes)

  -- shells with these sizes were counted, the last was found, and so many more members may be
  pub record AreCounted (sizes : List ℕ) (room : ℕ) (found shell : List X) : Type 0 where
    pub before : List X
    pub found_is : found ≡ before ++ shell
    pub layers : AreLayers Step s (length sizes) before shell
    pub each : (k : ℕ) → k < length sizes → HasSize (k + 1) (slice_index_or sizes k 0)
    pub total : room + sum sizes ≡ most_in_shells
    pub few : length sizes ≤ most_shells

-- the sum with one number more
sum_last : (xs : List ℕ) (x : ℕ) → sum (xs ++ x ∷ []) ≡ sum xs + x
sum_last xs x = sum_by_push (λ n. n) xs x

-- the length with one number more
length_last : (xs : List ℕ) (x : ℕ) → length (xs ++ x ∷ []) ≡ length xs + 1
length_last xs x = length-append xs (x ∷ [])

-- the last number
last_is : (xs : List ℕ) (x : ℕ) → get_or (xs ++ x ∷ []) (length xs) 0 ≡ x
last_is [] x = refl
last_is (y ∷ ys) x = last_is ys x

module _ {X : Type 0} (Step : X → X → Type 0) (s : X) where
  module _ {sizes : List ℕ} {room : ℕ} {found shell next : List X} (h : AreCounted Step s sizes room found shell) (x : Expands Step room shell found next) where
    -- the same, of the layers
    expands : Expands Step room shell (h.before ++ shell) next
    expands = subst (λ xs. Expands Step room shell xs next) h.found_is x

    -- one shell more
    pub counted_more : length sizes < most_shells → length next ≤ room → (found' : List X) → found' ≡ found ++ next
        → AreCounted Step s (sizes ++ length next ∷ []) (room - length next) found' next
    counted_more few fits found' e =
        let grown = length_last sizes (length next) in
        let layers = next_layers Step s (length sizes) h.before shell h.layers room next expands fits in
        let sum_is = sum_last sizes (length next) in let total = h.total in
        record {
          before = found;
          found_is = e;
          layers = subst (λ n. AreLayers Step s n found next) (sym grown) (subst (λ xs. AreLayers Step s (length sizes + 1) xs next) (sym h.found_is) layers);
          each = λ k l. each k (below_or_last k (length sizes) (omega arith)) (record {
            members = next;
            shell = layer_is_shell Step s (length sizes + 1) (h.before ++ shell) next layers;
            count = refl;
          });
          total = omega arith;
          few = omega arith;
        }
      where
        below_or_last : (k n : ℕ) → k < n + 1 → (k < n) ⊎ (n ≡ k)
        below_or_last k n b = grind arith

        each : (k : ℕ) → (k < length sizes) ⊎ (length sizes ≡ k) → HasSize Step s (length sizes + 1) (length next)
            → HasSize Step s (k + 1) (get_or (sizes ++ length next ∷ []) k 0)
        each k (inl b) n = subst (HasSize Step s (k + 1)) (sym (get_or_append_left sizes (length next ∷ []) 0 k b)) (h.each k b)
        each k (inr q) n = rw q at (subst (HasSize Step s (length sizes + 1)) (sym (last_is sizes (length next))) n)

    -- with the next shell the total passes the limit
    pub counted_past : room < length next → (whole : List X) × AreShell Step s (length sizes + 1) whole → AreSizes Step s sizes
    counted_past more whole =
        let total = h.total in
        let some = next_inside Step s (length sizes) h.before shell h.layers room next expands in
        let few = no_longer next whole.0 some.once (λ p i. (whole.1.exact p).1 (some.inside p i)) in
        record { each = h.each; within = omega arith; few = h.few; ends = inr (record { members = whole.0; shell = whole.1; past = omega arith }) }

  -- ten shells were counted
  pub counted_ten : {sizes : List ℕ} {room : ℕ} {found shell : List X} → AreCounted Step s sizes room found shell → most_shells ≤ length sizes
      → AreSizes Step s sizes
  counted_ten h l = let total = h.total in let few = h.few in record {
    each = h.each;
    within = omega arith;
    few = h.few;
    ends = inl (omega arith);
  }

-- a turn of the loop
pub counted_turn : {X : Type 0} (Step : X → X → Type 0) (s : X) {sizes : List ℕ} {room : ℕ} {found shell lent next found' : List X} {sizes' : List ℕ}
    {size size' : ℕ} → AreCounted Step s sizes room found shell
    → lent ≡ shell → Expands Step room lent found next → found' ≡ found ++ next → length sizes < most_shells → size ≡ length next → size ≤ room → size' ≡ size
    → sizes' ≡ sizes ++ size' ∷ []
    → AreCounted Step s sizes' (room - size) found' next
counted_turn Step s {sizes} {room} {found} {shell} {lent} {next} {found'} h e x f few n fits m p = grind (arith, counted_more)

-- a list with one number more
pub grown : (sizes sizes' : List ℕ) (size k : ℕ) → sizes' ≡ sizes ++ size ∷ [] → length sizes ≡ k → length sizes' ≡ k + 1
grown sizes sizes' size k e n = ap length e ∙ length_last sizes size ∙ ap (λ m. m + 1) n

-- The vertices to which the arcs from a vertex lead.

-- the ends of the arcs from x
abbrev pub ends : Graph → Vertex → List Vertex
ends P x = map (end_of x) (arcs_from P x.over)

-- these are all that x is joined to
pub vertices_around : (P : Graph) → AreNeighbours (AreJoined P) (ends P)
vertices_around P = record {
  each = λ x y i.
      let m = in_map (end_of x) (arcs_from P x.over) y i in let r = from_is_arc P x.over m.0 m.1 in
      subst (AreJoined P x) m.2 (end_joined P x m.0 r.0 r.1);
  every = λ x y j. rw (end_between x y) at (map_in (end_of x) (arcs_from P x.over) (arc_between x y) (arc_is_from P x.over (arc_between x y) j refl));
}

module _ (P : Graph) where
  -- each shell of a vertex can be listed
  pub some_vertex_shell : (w : Vertex) (k : ℕ) → (xs : List Vertex) × AreShell (AreJoined P) w k xs
  some_vertex_shell = some_shell (AreJoined P) vertex_decided (ends P) (vertices_around P)

  -- steps are a walk of the net
  pub walk_of : (k : ℕ) (w x : Vertex) → Leads (AreJoined P) k w x → StepsLead P k w x
  walk_of zero w x l = ([], refl, l)
  walk_of (suc k) w x l = let r = walk_of k l.0 x l.2 in (l.0 ∷ r.0, ap suc r.1, (l.1, r.2))

  -- and the other way
  steps_of : (vs : List Vertex) (w x : Vertex) → IsWalk P w vs x → Leads (AreJoined P) (length vs) w x
  steps_of [] w x h = h
  steps_of (v ∷ vs) w x h = (v, h.0, steps_of vs v x h.1)

  -- of so many steps
  pub leads_of : (k : ℕ) (w x : Vertex) → StepsLead P k w x → Leads (AreJoined P) k w x
  leads_of k w x l = subst (λ n. Leads (AreJoined P) n w x) l.1 (steps_of l.0 w x l.2)

  module _ (w : Vertex) where
    -- a member of a shell, along steps or in the net
    in_shell : (k : ℕ) (x : Vertex) → IsShell (AreJoined P) w k x → IsInShell P w k x
    in_shell k x h = record { reached = walk_of k w x h.reached; no_fewer = λ j l. h.no_fewer j (leads_of j w x l) }

    shell_in : (k : ℕ) (x : Vertex) → IsInShell P w k x → IsShell (AreJoined P) w k x
    shell_in k x h = record { reached = leads_of k w x h.reached; no_fewer = λ j l. h.no_fewer j (walk_of j w x l) }

    -- so a shell has this size
    vertex_size : (k : ℕ) (xs : List Vertex) → AreShell (AreJoined P) w k xs → IsShellSize P w k (length xs)
    vertex_size k xs h = record {
      members = xs;
      exact = λ x. ((λ c. in_shell k x ((h.exact x).0 (is_in xs x c))), (λ m. contains_from_in xs x ((h.exact x).1 (shell_in k x m))));
      once = pairs_from_apart xs h.once;
      count = refl;
    }

    -- the sizes along steps are those in the net
    pub vertex_sizes : (sizes : List ℕ) → AreSizes (AreJoined P) w sizes → AreShellsOf P w sizes
    vertex_sizes sizes h = record {
      each = λ k l. let s = h.each k l in subst (IsShellSize P w (k + 1)) s.count (vertex_size (k + 1) s.members s.shell);
      within = h.within;
      few = h.few;
      ends = by h.ends;
    }
      where
        by : (length sizes ≡ most_shells) ⊎ IsPast (AreJoined P) w (length sizes + 1) (sum sizes)
            → (length sizes ≡ most_shells) ⊎ IsShellPast P w (length sizes + 1) (sum sizes)
        by (inl e) = inl e
        by (inr s) = inr (record { size = length s.members; is_size = vertex_size (length sizes + 1) s.members s.shell; past = s.past })
