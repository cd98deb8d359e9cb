-- The steps of a search in breadth: what is found is never later than what would be found next.
use Rattle.std.proofs.Common.{◌≡◌, ◌⊎◌, inl, inr, ◌+◌, suc, List, [], ◌∷◌, ◌++◌, length, refl, sym, ap, subst, ◌∙◌, arith, ℕ, map}
use Rattle.std.proofs.lemmas.List.{append-nil}
use Rattle.integers.specs.Vectors.{IsBelow, IsAtMost, zero_vector, minus}
use Rattle.integers.proofs.lists.ListOrder.{below_after, below_front, below_of_at_most, at_most_of_below, at_most_itself, below_transitive}
use Rattle.integers.proofs.lists.{Members.IsIn, GrownLists.in_more, GrownLists.more_in}
use Rattle.periodic_net.specs.Graph.{Arc, Graph, IsArc, IsGraph, arc, Vertex, vertex, IsWalk, IsQuotientVertex}
use Rattle.periodic_net.specs.Chosen.{step_key, path_key, IsBefore, IsNoLater, IsPath, path_shift, IsChosen}
use Rattle.periodic_net.specs.Settling.{Entry, entry, Leads, IsSettling, IsComplete}
use Rattle.periodic_net.proofs.nets.Walks.{origin_vertex, reached_inside, path_walk}
use Rattle.periodic_net.specs.{Breadth.AreRising, Breadth.AreSortedArcs, Breadth.IsBreadth, Components.InComponent}

-- The order of paths, and paths that go on by one arc.

-- keys of as many arcs are as long
key_length : (P Q : List Arc) → length P ≡ length Q → length (path_key P) ≡ length (path_key Q)
key_length [] [] e = refl
key_length [] (g ∷ Q) e = absurd (omega arith)
key_length (f ∷ P) [] e = absurd (omega arith)
key_length (f ∷ P) (g ∷ Q) e = ap (λ n. suc (suc (suc (suc n)))) (key_length P Q (omega arith))

key_more : (P : List Arc) (f : Arc) → path_key (P ++ f ∷ []) ≡ path_key P ++ step_key f
key_more [] f = refl
key_more (g ∷ P) f = ap (λ k. step_key g ++ k) (key_more P f)

pub one_more : (P : List Arc) (f : Arc) → length (P ++ f ∷ []) ≡ length P + 1
one_more [] f = refl
one_more (g ∷ P) f = ap suc (one_more P f) ∙ (omega arith)

-- what goes on from an earlier path is earlier
pub before_more : (P Q : List Arc) (f g : Arc) → IsBefore P Q → IsBefore (P ++ f ∷ []) (Q ++ g ∷ [])
before_more P Q f g (inl l) = inl (let p = one_more P f in let q = one_more Q g in omega arith)
before_more P Q f g (inr h) = inr (
  one_more P f ∙ ap (λ n. n + 1) h.0 ∙ sym (one_more Q g),
  subst (λ k. IsBelow k (path_key (Q ++ g ∷ []))) (sym (key_more P f)) (subst (IsBelow (path_key P ++ step_key f)) (sym (key_more Q g))
      (below_front (path_key P) (path_key Q) (step_key f) (step_key g) (key_length P Q h.0) h.1)),
)

-- and on from one path the earlier arc
pub before_arc : (P : List Arc) (f g : Arc) → IsBelow (step_key f) (step_key g) → IsBefore (P ++ f ∷ []) (P ++ g ∷ [])
before_arc P f g h = inr (
  one_more P f ∙ sym (one_more P g),
  subst (λ k. IsBelow k (path_key (P ++ g ∷ []))) (sym (key_more P f)) (subst (IsBelow (path_key P ++ step_key f)) (sym (key_more P g))
      (below_after (path_key P) (step_key f) (step_key g) h)),
)

pub no_later_of_before : (P Q : List Arc) → IsBefore P Q → IsNoLater P Q
no_later_of_before P Q k = search (arith, at_most_of_below)

pub no_later_itself : (P : List Arc) → IsNoLater P P
no_later_itself P = inr (refl, at_most_itself (path_key P))

-- no later, and no later again
pub no_later_transitive : (P Q R : List Arc) → IsNoLater P Q → IsNoLater Q R → IsNoLater P R
no_later_transitive P Q R h p = search (arith, below_of_at_most, at_most_of_below, below_transitive)

-- what goes on from a path no later by the same arc is no later
pub no_later_more : (P Q : List Arc) (f : Arc) → IsNoLater P Q → IsNoLater (P ++ f ∷ []) (Q ++ f ∷ [])
no_later_more P Q f (inl l) = inl (let p = one_more P f in let q = one_more Q f in omega arith)
no_later_more P Q f (inr h) = by (below_of_at_most (path_key P) (path_key Q) h.1)
  where
    by : IsBelow (path_key P) (path_key Q) ⊎ (path_key P ≡ path_key Q) → IsNoLater (P ++ f ∷ []) (Q ++ f ∷ [])
    by (inl x) = no_later_of_before (P ++ f ∷ []) (Q ++ f ∷ []) (before_more P Q f f (inr (h.0, x)))
    by (inr x) = inr (
      one_more P f ∙ ap (λ n. n + 1) h.0 ∙ sym (one_more Q f),
      subst (IsAtMost (path_key (P ++ f ∷ []))) (key_more P f ∙ ap (λ k. k ++ step_key f) x ∙ sym (key_more Q f)) (at_most_itself (path_key (P ++ f ∷ []))),
    )

-- before, and before again
before_transitive : (P Q R : List Arc) → IsBefore P Q → IsBefore Q R → IsBefore P R
before_transitive P Q R h k = search (arith, below_transitive)

-- a path is before the one that goes on from it
before_longer : (P : List Arc) (f : Arc) → IsBefore P (P ++ f ∷ [])
before_longer P f = inl (let e = one_more P f in omega arith)

rising_more : (Ps : List (List Arc)) (N : List Arc) → AreRising Ps → ((Q : List Arc) → IsIn Ps Q → IsBefore Q N) → AreRising (Ps ++ N ∷ [])
rising_more [] N r h = ((λ Q i. elim i [ ]), tt)
rising_more (P ∷ Ps) N r h = (
  (λ Q i. elim (in_more Ps N Q i) [
    | inl k ↦ r.0 Q k
    | inr e ↦ subst (IsBefore P) e (h P (inl refl))
  ]),
  rising_more Ps N r.1 (λ Q i. h Q (inr i)),
)

-- the arc leads to a vertex that was found: nothing is added
pub step_known : (found waiting : List (List Arc)) (P : List Arc) (f : Arc) (left : List Arc) → IsBreadth found waiting P (f ∷ left)
    → IsBreadth found waiting P left
step_known found waiting P f left b = search arith

-- it leads to another: the path by it is added at the end
pub step_new : (found waiting : List (List Arc)) (P : List Arc) (f : Arc) (left : List Arc) → IsBreadth found waiting P (f ∷ left)
    → IsBreadth (found ++ (P ++ f ∷ []) ∷ []) (waiting ++ (P ++ f ∷ []) ∷ []) P left
step_new found waiting P f left b = record {
  inside = λ W i. more_in found N W (elim (in_more waiting N W i) [
    | inl k ↦ inl (b.inside W k)
    | inr e ↦ inr e
  ]);
  rising = rising_more waiting N b.rising (λ Q i. b.here Q f (b.inside Q i) (inl refl));
  after = λ W i. elim (in_more waiting N W i) [
    | inl k ↦ b.after W k
    | inr e ↦ subst (IsBefore P) e (before_longer P f)
  ];
  sorted = b.sorted.1;
  here = λ Q g i j. elim (in_more found N Q i) [
    | inl k ↦ b.here Q g k (inr j)
    | inr e ↦ subst (λ x. IsBefore x (P ++ g ∷ [])) e (before_arc P f g (b.sorted.0 g j))
  ];
  later = λ Q W g i j. by Q W g (in_more found N Q i) (in_more waiting N W j);
}
  where
    N : List Arc
    N = P ++ f ∷ []

    by : (Q W : List Arc) (g : Arc) → IsIn found Q ⊎ (N ≡ Q) → IsIn waiting W ⊎ (N ≡ W) → IsBefore Q (W ++ g ∷ [])
    by Q W g (inl i) (inl j) = b.later Q W g i j
    by Q W g (inl i) (inr e) = subst (λ x. IsBefore Q (x ++ g ∷ [])) e (before_transitive Q N (N ++ g ∷ []) (b.here Q f i (inl refl)) (before_longer N g))
    by Q W g (inr d) (inl j) = subst (λ x. IsBefore x (W ++ g ∷ [])) d (before_more P W f g (b.after W j))
    by Q W g (inr d) (inr e) = subst (λ x. IsBefore x (W ++ g ∷ [])) d (subst (λ x. IsBefore N (x ++ g ∷ [])) e (before_longer N g))

-- the next path that waits is gone on from
pub step_next : (found waiting : List (List Arc)) (P W : List Arc) (left : List Arc) → IsBreadth found (W ∷ waiting) P [] → AreSortedArcs left
    → IsBreadth found waiting W left
step_next found waiting P W left b s = search arith

-- the start: the empty path alone was found
pub breadth_start : (left : List Arc) → AreSortedArcs left → IsBreadth ([] ∷ []) [] [] left
breadth_start left s = search (arith, before_longer)

abbrev path_of : Entry → List Arc
path_of y = y.path

in_paths : (ys : List Entry) (y : Entry) → IsIn ys y → IsIn (map path_of ys) y.path
in_paths [] y h = elim h [ ]
in_paths (z ∷ ys) y (inl e) = inl (ap path_of e)
in_paths (z ∷ ys) y (inr h) = inr (in_paths ys y h)

paths_more : (ys : List Entry) (y : Entry) → map path_of (ys ++ y ∷ []) ≡ map path_of ys ++ y.path ∷ []
paths_more [] y = refl
paths_more (z ∷ ys) y = ap (λ zs. z.path ∷ zs) (paths_more ys y)

-- a path, gone on from
pub path_more : (G : Graph) (a : ℕ) (fs : List Arc) (f : Arc) (u : ℕ) → IsPath G a fs u → IsArc G f → f.from ≡ u → IsPath G a (fs ++ f ∷ []) f.to
path_more G a [] f u p h e = (h, e ∙ sym p, refl)
path_more G a (g ∷ fs) f u p h e = (p.0, p.1, path_more G g.to fs f u p.2 h e)

leads_more : (known : List Entry) (n y : Entry) (f : Arc) → Leads known y f → Leads (known ++ n ∷ []) y f
leads_more known n y f l = record { to = l.to; is_known = more_in known n l.to (inl l.is_known); head = l.head; no_later = l.no_later }

module _ (G : Graph) (a : ℕ) (known rest : List Entry) (x : Entry) (f : Arc) (left : List Arc) (s : IsSettling G a known rest x (f ∷ left)) where
  -- the arc leads to a known vertex
  pub settle_known : (z : Entry) → IsIn known z → z.vertex ≡ f.to → IsSettling G a known rest x left
  settle_known z i e = record {
    breadth = step_known (map path_of known) (map path_of rest) x.path f left s.breadth;
    start = s.start;
    current = s.current;
    inside = s.inside;
    paths = s.paths;
    once = s.once;
    arcs = λ g j. s.arcs g (inr j);
    here = λ g h k. by g (s.here g h k);
    each = s.each;
  }
    where
      leads : Leads known x f
      leads = search (arith, no_later_of_before, in_paths)

      by : (g : Arc) → IsIn (f ∷ left) g ⊎ Leads known x g → IsIn left g ⊎ Leads known x g
      by g (inl (inl d)) = inr (subst (Leads known x) d leads)
      by g (inl (inr j)) = inl j
      by g (inr l) = inr l

  abbrev new : Entry
  new = entry f.to (x.path ++ f ∷ [])

  -- it leads to another
  pub settle_new : ((z : Entry) → IsIn known z → z.vertex ≡ f.to → ⊥) → IsSettling G a (known ++ new ∷ []) (rest ++ new ∷ []) x left
  settle_new none = record {
    breadth = subst (λ k. IsBreadth k (map path_of (rest ++ new ∷ [])) x.path left) (sym (paths_more known new))
        (subst (λ r. IsBreadth (map path_of known ++ new.path ∷ []) r x.path left) (sym (paths_more rest new))
        (step_new (map path_of known) (map path_of rest) x.path f left s.breadth));
    start = more_in known new (entry a []) (inl s.start);
    current = more_in known new x (inl s.current);
    inside = λ y i. more_in known new y (inside y (in_more rest new y i));
    paths = λ y i. path y (in_more known new y i);
    once = λ y z i j e. one y z (in_more known new y i) (in_more known new z j) e;
    arcs = λ g j. s.arcs g (inr j);
    here = λ g h k. by g (s.here g h k);
    each = λ y i. all y (in_more known new y i);
  }
    where
      arc : IsArc G f × (f.from ≡ x.vertex)
      arc = s.arcs f (inl refl)

      inside : (y : Entry) → IsIn rest y ⊎ (new ≡ y) → IsIn known y ⊎ (new ≡ y)
      inside y (inl i) = inl (s.inside y i)
      inside y (inr e) = inr e

      path : (y : Entry) → IsIn known y ⊎ (new ≡ y) → IsPath G a y.path y.vertex
      path y (inl i) = s.paths y i
      path y (inr e) = subst (λ (z : Entry). IsPath G a z.path z.vertex) e (path_more G a x.path f x.vertex (s.paths x s.current) arc.0 arc.1)

      one : (y z : Entry) → IsIn known y ⊎ (new ≡ y) → IsIn known z ⊎ (new ≡ z) → y.vertex ≡ z.vertex → y ≡ z
      one y z h k l = search arith

      leads : Leads (known ++ new ∷ []) x f
      leads = record { to = new; is_known = more_in known new new (inr refl); head = refl; no_later = no_later_itself (x.path ++ f ∷ []) }

      by : (g : Arc) → IsIn (f ∷ left) g ⊎ Leads known x g → IsIn left g ⊎ Leads (known ++ new ∷ []) x g
      by g (inl (inl d)) = inr (subst (Leads (known ++ new ∷ []) x) d leads)
      by g (inl (inr j)) = inl j
      by g (inr l) = inr (leads_more known new x g l)

      all : (y : Entry) → IsIn known y ⊎ (new ≡ y) → IsIn (rest ++ new ∷ []) y ⊎ (y ≡ x)
          ⊎ ((g : Arc) → IsArc G g → g.from ≡ y.vertex → Leads (known ++ new ∷ []) y g)
      all y (inr e) = inl (more_in rest new y (inr e))
      all y (inl i) = elim (s.each y i) [
        | inl j ↦ inl (more_in rest new y (inl j))
        | inr (inl e) ↦ inr (inl e)
        | inr (inr h) ↦ inr (inr (λ g b c. leads_more known new y g (h g b c)))
      ]

-- the vertex whose arcs were all followed leads to known ones
finished : (G : Graph) (a : ℕ) (known rest : List Entry) (x : Entry) → IsSettling G a known rest x [] → (f : Arc) → IsArc G f → f.from ≡ x.vertex
    → Leads known x f
finished G a known rest x s f h e = search arith

-- the next that waits
pub settle_next : (G : Graph) (a : ℕ) (known rest : List Entry) (x y : Entry) (left : List Arc) → IsSettling G a known (y ∷ rest) x [] → AreSortedArcs left
    → ((f : Arc) → IsIn left f → IsArc G f × (f.from ≡ y.vertex)) → ((f : Arc) → IsArc G f → f.from ≡ y.vertex → IsIn left f) → IsSettling G a known rest y left
settle_next G a known rest x y left s sorted from all = record {
  breadth = step_next (map path_of known) (map path_of rest) x.path y.path left s.breadth sorted;
  start = s.start;
  current = s.inside y (inl refl);
  inside = λ z i. s.inside z (inr i);
  paths = s.paths;
  once = s.once;
  arcs = from;
  here = λ f h e. inl (all f h e);
  each = λ z i. by z (s.each z i);
}
  where
    by : (z : Entry) → IsIn (y ∷ rest) z ⊎ (z ≡ x) ⊎ ((f : Arc) → IsArc G f → f.from ≡ z.vertex → Leads known z f)
        → IsIn rest z ⊎ (z ≡ y) ⊎ ((f : Arc) → IsArc G f → f.from ≡ z.vertex → Leads known z f)
    by z (inl (inl e)) = inr (inl (sym e))
    by z (inl (inr i)) = inl i
    by z (inr (inl e)) = inr (inr (subst (λ (w : Entry). (f : Arc) → IsArc G f → f.from ≡ w.vertex → Leads known w f) (sym e)
        (finished G a known (y ∷ rest) x s)))
    by z (inr (inr h)) = inr (inr h)

-- the end
pub settle_end : (G : Graph) (a : ℕ) (known : List Entry) (x : Entry) → IsSettling G a known [] x [] → IsComplete G a known
settle_end G a known x s = record {
  start = s.start;
  paths = s.paths;
  once = s.once;
  leads = λ y i. by y (s.each y i);
}
  where
    by : (y : Entry) → IsIn [] y ⊎ (y ≡ x) ⊎ ((f : Arc) → IsArc G f → f.from ≡ y.vertex → Leads known y f) → (f : Arc) → IsArc G f → f.from ≡ y.vertex
        → Leads known y f
    by y k f l p = search (arith, finished)

-- the start
pub settle_start : (G : Graph) (a : ℕ) (left : List Arc) → AreSortedArcs left → ((f : Arc) → IsIn left f → IsArc G f × (f.from ≡ a))
    → ((f : Arc) → IsArc G f → f.from ≡ a → IsIn left f)
    → IsSettling G a (entry a [] ∷ []) [] (entry a []) left
settle_start G a left sorted from all = record {
  breadth = breadth_start left sorted;
  start = inl refl;
  current = inl refl;
  inside = λ y i. elim i [ ];
  paths = λ y i. elim i [
    | inl e ↦ subst (λ (z : Entry). IsPath G a z.path z.vertex) e refl
    | inr h ↦ elim h [ ]
  ];
  once = λ y z i j e. same y i ∙ sym (same z j);
  arcs = from;
  here = λ f h e. inl (all f h e);
  each = λ y i. inr (inl (same y i));
}
  where
    same : (y : Entry) → IsIn (entry a [] ∷ []) y → y ≡ entry a []
    same y k = search arith

-- A complete search has found exactly the component, each vertex by its chosen path.

-- one more, and then others
one_and_more : {X : Type 0} (xs ys : List X) (x : X) → (xs ++ x ∷ []) ++ ys ≡ xs ++ x ∷ ys
one_and_more [] ys x = refl
one_and_more (z ∷ xs) ys x = ap (λ zs. z ∷ zs) (one_and_more xs ys x)

-- a known path to u that is no later than Q
pub record Beats (known : List Entry) (u : ℕ) (Q : List Arc) : Type 0 where
  pub to : Entry
  pub is_known : IsIn known to
  pub head : to.vertex ≡ u
  pub no_later : IsNoLater to.path Q

-- the arcs of a walk of the net
walk_path : (G : Graph) (steps : List Vertex) (w x : Vertex) → IsWalk G w steps x → (fs : List Arc) × IsPath G w.over fs x.over
walk_path G [] w x h = ([], ap (λ (v : Vertex). v.over) h)
walk_path G (y ∷ ys) w x h = let p = walk_path G ys y x h.1 in (arc w.over y.over (minus y.cell w.cell) ∷ p.0, (h.0, refl, p.1))

module _ (G : Graph) (a : ℕ) (known : List Entry) (s : IsComplete G a known) where
  -- along a path
  beats_along : (fs : List Arc) (y : Entry) (u : ℕ) (Q : List Arc) → IsIn known y → IsNoLater y.path Q → IsPath G y.vertex fs u → Beats known u (Q ++ fs)
  beats_along [] y u Q i h p = record { to = y; is_known = i; head = p; no_later = subst (IsNoLater y.path) (sym (append-nil Q)) h }
  beats_along (f ∷ fs) y u Q i h p =
      let l = s.leads y i f p.0 p.1 in
      let n = no_later_transitive l.to.path (y.path ++ f ∷ []) (Q ++ f ∷ []) l.no_later (no_later_more y.path Q f h) in
      subst (Beats known u) (one_and_more Q fs f) (beats_along fs l.to u (Q ++ f ∷ []) l.is_known n (subst (λ v. IsPath G v fs u) (sym l.head) p.2))

  beats : (u : ℕ) (Q : List Arc) → IsPath G a Q u → Beats known u Q
  beats u Q p = beats_along Q (entry a []) u [] s.start (no_later_itself []) p

  -- each known path is the chosen one
  pub complete_chosen : (y : Entry) → IsIn known y → IsChosen G a y.vertex y.path
  complete_chosen y i = record {
    path = s.paths y i;
    least = λ Q p. let b = beats y.vertex Q p in subst (λ (z : Entry). IsNoLater z.path Q) (s.once b.to y b.is_known i b.head) b.no_later;
  }

  -- each vertex of the component is known
  pub complete_finds : (u : ℕ) → InComponent G a u → (y : Entry) × IsIn known y × (y.vertex ≡ u)
  complete_finds u h = search (arith, walk_path, beats)

  -- and no other
  pub complete_with : IsGraph G → IsQuotientVertex G a → (y : Entry) → IsIn known y → InComponent G a y.vertex
  complete_with g q y i =
      let w = path_walk G a y.vertex y.path (s.paths y i) in
      let v = reached_inside G g (vertex a zero_vector) (vertex y.vertex (path_shift y.path)) (origin_vertex G a q) w in
      record { vertex = v.over; shift = path_shift y.path; walk = w }
