-- An arc is looked for in a list of arcs that rise; and the first arc of a vertex that is lost.
use Rattle.std.proofs.Common.{◌≡◌, ℕ, ◌+◌, ◌<◌, List, length, get_or, refl, sym, subst, ◌∙◌, arith, ◌≤◌, ap}
use Rattle.std.{proofs.Math.Decide.dec_lt, proofs.Math.Decide.ℕ_discrete, proofs.lemmas.List.get_or_default, specs.List.All, specs.List.Contains}
use Prim.{Dec, yes, no}
use Rattle.integers.specs.Vectors.{minus, IsBelow, IsWithin, plus}
use Rattle.integers.proofs.lists.ListOrder.{below_transitive, not_below_itself, below_one_way}
use Rattle.periodic_net.specs.Graph.{Graph, Arc, arc, IsArc, Vertex, AreJoined, vertex}
use Rattle.periodic_net.specs.Limits.{most_shift}
use Rattle.quotient_graph.specs.{Stars.IsArcFrom, Order.arc_numbers, Order.AreRising}
use Rattle.map_check.specs.Arcs.{ComeBefore, DoNotComeBefore, SplitsAt, StandsAt}
use Rattle.map_check.specs.Faults.{IsLost, KeepsArcs, IsFirstLostArc}
use Rattle.map_check.specs.{Layouts.cell_at, Places.KeepsArc, Places.IsFirstLosingCell}

-- what comes before an arc that comes before a does so
pub all_before : (arcs : List Arc) (a x : Arc) (m : ℕ) → AreRising arcs → m < length arcs → x ≡ get_or arcs m x → IsBelow (arc_numbers x) (arc_numbers a)
    → ComeBefore arcs a (m + 1)
all_before arcs a x m rising l e h k d b = by (ℕ_discrete k m)
  where
    here : (t : Arc) → IsBelow (arc_numbers (get_or arcs m t)) (arc_numbers a)
    here t = subst (λ (y : Arc). IsBelow (arc_numbers y) (arc_numbers a)) (e ∙ get_or_default arcs m x t l) h

    by : Dec (k ≡ m) → IsBelow (arc_numbers (get_or arcs k d)) (arc_numbers a)
    by (yes s) = subst (λ (j : ℕ). IsBelow (arc_numbers (get_or arcs j d)) (arc_numbers a)) (sym s) (here d)
    by (no n) = below_transitive (arc_numbers (get_or arcs k d)) (arc_numbers (get_or arcs m d)) (arc_numbers a) (rising k m d (omega (arith, b, n)) l) (here d)

-- and what comes after one that does not, does not
pub none_after : (arcs : List Arc) (a x : Arc) (m : ℕ) → AreRising arcs → m < length arcs → x ≡ get_or arcs m x → (IsBelow (arc_numbers x) (arc_numbers a) → ⊥)
    → DoNotComeBefore arcs a m
none_after arcs a x m rising l e h k d b i t = by (ℕ_discrete k m)
  where
    here : (t : Arc) → IsBelow (arc_numbers (get_or arcs m t)) (arc_numbers a) → ⊥
    here t s = h (subst (λ (y : Arc). IsBelow (arc_numbers y) (arc_numbers a)) (sym (e ∙ get_or_default arcs m x t l)) s)

    by : Dec (k ≡ m) → ⊥
    by (yes s) = here d (subst (λ (j : ℕ). IsBelow (arc_numbers (get_or arcs j d)) (arc_numbers a)) s t)
    by (no n) = here d (below_transitive (arc_numbers (get_or arcs m d)) (arc_numbers (get_or arcs k d)) (arc_numbers a)
        (rising m k d (omega (arith, b, n)) i) t)

-- what is in the list stands at the place
pub stands_there : (arcs : List Arc) (a : Arc) (n : ℕ) → AreRising arcs → SplitsAt arcs a n → Contains arcs a → StandsAt arcs a n
stands_there arcs a n rising s c = by (dec_lt c.0 n) (ℕ_discrete c.0 n)
  where
    by : Dec (c.0 < n) → Dec (c.0 ≡ n) → StandsAt arcs a n
    by (yes l) e = absurd (not_below_itself (arc_numbers a) (subst (λ (y : Arc). IsBelow (arc_numbers y) (arc_numbers a)) c.2 (s.before c.0 a l)))
    by (no m) (yes e) = subst (StandsAt arcs a) e (c.1, c.2)
    by (no m) (no e) =
        let r = rising n c.0 a (omega (arith, m, e)) c.1 in
        absurd (s.after n a (omega arith) (let l = c.1 in omega (arith, m, e, l))
        (subst (λ (y : Arc). IsBelow (arc_numbers (get_or arcs n a)) (arc_numbers y)) c.2 r))

-- joined vertices have a short arc between them, which stands in the list
pub joined_short : (H : Graph) (x y : Vertex) (star : List Arc) → All (IsArcFrom H x.over) star → ((a : Arc) → IsArc H a → a.from ≡ x.over → Contains star a)
    → AreJoined H x y
    → IsWithin most_shift (minus y.cell x.cell)
joined_short H x y star each every j =
    let a = arc x.over y.over (minus y.cell x.cell) in let c = every a j refl in
    subst (λ (b : Arc). IsWithin most_shift b.shift) c.2 (each c.0 a c.1).shift

-- the ends of the first n arcs of w go to joined vertices
abbrev pub KeepsFirst : Graph → (Vertex → Vertex) → Vertex → List Arc → ℕ → Type 0
KeepsFirst H f w star n = (k : ℕ) (d : Arc) → k < n → AreJoined H (f w) (f (vertex (get_or star k d).to (plus w.cell (get_or star k d).shift)))

module _ (G H : Graph) (f : Vertex → Vertex) (w : Vertex) (star : List Arc) where
  -- one more
  pub keeps_more : (n : ℕ) (a : Arc) → n < length star → a ≡ get_or star n a → AreJoined H (f w) (f (vertex a.to (plus w.cell a.shift)))
      → KeepsFirst H f w star n
      → KeepsFirst H f w star (n + 1)
  keeps_more n a l e j h k d m = by (ℕ_discrete k n)
    where
      by : Dec (k ≡ n) → AreJoined H (f w) (f (vertex (get_or star k d).to (plus w.cell (get_or star k d).shift)))
      by (yes same) = subst (λ (b : Arc). AreJoined H (f w) (f (vertex b.to (plus w.cell b.shift))))
          (sym (ap (λ (i : ℕ). get_or star i d) same ∙ get_or_default star n d a l ∙ sym e)) j
      by (no other) = h k d (omega (arith, m, other))

  -- a lost arc does not stand among those that are kept
  not_kept : (n : ℕ) → KeepsFirst H f w star n → (c : Arc) → IsLost G H f w c → (i : Contains star c) → i.0 < n → ⊥
  not_kept n h c l i b = l.lost (subst (λ (a : Arc). AreJoined H (f w) (f (vertex a.to (plus w.cell a.shift)))) i.2 (h i.0 c b))

  -- if all in the list are kept, all are
  pub all_kept : ((a : Arc) → IsArc G a → a.from ≡ w.over → Contains star a) → (n : ℕ) → length star ≤ n → KeepsFirst H f w star n → KeepsArcs G H f w
  all_kept every n l h a i e =
      let c = every a i e in let b = c.1 in
      subst (λ (x : Arc). AreJoined H (f w) (f (vertex x.to (plus w.cell x.shift)))) c.2 (h c.0 a (omega (arith, l, b)))

  -- the first that is not kept is the first lost one
  pub first_lost_arc : All (IsArcFrom G w.over) star → ((a : Arc) → IsArc G a → a.from ≡ w.over → Contains star a) → AreRising star
      → (n : ℕ) (a : Arc) → n < length star → a ≡ get_or star n a → (AreJoined H (f w) (f (vertex a.to (plus w.cell a.shift))) → ⊥) → KeepsFirst H f w star n
      → IsFirstLostArc G H f w a
  first_lost_arc each every rising n a l e no_join h =
      let i = subst (IsArcFrom G w.over) (sym e) (each n a l) in
      record { lost = record { is_arc = i.is_arc; from = i.from; lost = no_join }; none = none }
    where
      none : (c : Arc) → IsLost G H f w c → IsBelow (arc_numbers c) (arc_numbers a) → ⊥
      none c t b = by (dec_lt j.0 n) (ℕ_discrete j.0 n)
        where
          j : Contains star c
          j = every c t.is_arc t.from

          by : Dec (j.0 < n) → Dec (j.0 ≡ n) → ⊥
          by (yes before) d = not_kept n h c t j before
          by (no after) (yes same) =
              let s : c ≡ a = sym j.2 ∙ ap (λ (k : ℕ). get_or star k c) same ∙ get_or_default star n c a l ∙ sym e in
              not_below_itself (arc_numbers a) (subst (λ (x : Arc). IsBelow (arc_numbers x) (arc_numbers a)) s b)
          by (no after) (no other) =
              let r = rising n j.0 c (omega (arith, after, other)) j.1 in
              below_one_way (arc_numbers c) (arc_numbers a) b
              (subst (λ (x : Arc). IsBelow (arc_numbers a) (arc_numbers x)) j.2
              (subst (λ (x : Arc). IsBelow (arc_numbers x) (arc_numbers (get_or star j.0 c))) (get_or_default star n c a l ∙ sym e) r))

-- The first cell of the box from which an arc of a vertex is lost.

-- from the first e cells of the box the first n arcs are kept
abbrev pub KeepCells : Graph → (Vertex → Vertex) → ℕ → ℕ → ℕ → List Arc → ℕ → ℕ → Type 0
KeepCells H f d m u star n e = (p : ℕ) → p < e → KeepsFirst H f (vertex u (cell_at d m p)) star n

-- the arc at place n is the first that w loses
pub record IsLoss (H : Graph) (f : Vertex → Vertex) (w : Vertex) (star : List Arc) (n : ℕ) : Type 0 where
  pub kept : KeepsFirst H f w star n
  pub lost : (a : Arc) → a ≡ get_or star n a → ¬ KeepsArc H f w a

module _ (H : Graph) (f : Vertex → Vertex) (d m u : ℕ) (star : List Arc) (k e p : ℕ) (a : Arc) (l : k < length star) (s : a ≡ get_or star k a)
    (from : a.from ≡ u)
    (first : IsFirstLosingCell H d m f a e p) (kept : KeepCells H f d m u star k e) where
  -- one arc more, from the cells before it is lost
  pub cells_more : p ≤ e → KeepCells H f d m u star (k + 1) p
  cells_more b q c =
      keeps_more H H f (vertex u (cell_at d m q)) star k a l s (subst (λ (v : ℕ). KeepsArc H f (vertex v (cell_at d m q)) a) from (first.before q c))
      (kept q (omega (arith, b, c)))

  -- if it is lost
  pub loss_here : p < e → IsLoss H f (vertex u (cell_at d m p)) star k
  loss_here b = record {
    kept = kept p b;
    lost = λ x t j. first.lost b (subst (λ (v : ℕ). KeepsArc H f (vertex v (cell_at d m p)) a) (sym from)
        (subst (KeepsArc H f (vertex u (cell_at d m p))) (t ∙ get_or_default star k x a l ∙ sym s) j));
  }

  -- the first loss so far: r is k if it is this one, and otherwise the one before
  pub loss_after : (lost r s : ℕ) → p ≤ e → (e < s → IsLoss H f (vertex u (cell_at d m e)) star lost) → (p < e → r ≡ k) → (e ≤ p → r ≡ lost) → p < s
      → IsLoss H f (vertex u (cell_at d m p)) star r
  loss_after lost r s b h less same l = by (dec_lt p e)
    where
      by : Dec (p < e) → IsLoss H f (vertex u (cell_at d m p)) star r
      by (yes t) = subst (IsLoss H f (vertex u (cell_at d m p)) star) (sym (less t)) (loss_here t)
      by (no t) =
          let q : p ≡ e = omega (arith, b, t) in let c : e ≤ p = omega (arith, t) in
          subst (λ (n : ℕ). IsLoss H f (vertex u (cell_at d m n)) star r) (sym q)
          (subst (IsLoss H f (vertex u (cell_at d m e)) star) (sym (same c)) (h (subst (λ (n : ℕ). n < s) q l)))

-- its arc stands in the list
pub loss_inside : (p e s k n lost r : ℕ) → k < n → (e < s → lost < n) → (p < e → r ≡ k) → (e ≤ p → r ≡ lost) → p ≤ e → p < s → r < n
loss_inside p e s k n lost r l h less same b c = search (arith, dec_lt)
