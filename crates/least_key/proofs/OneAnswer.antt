-- What is reported of a graph is one: its first collision, another refusal, or its key.
use Rattle.std.proofs.Common.{◌≡◌, ℕ, pos, sym, ap, ◌∙◌, arith, subst, ◌≤◌, List, ◌≢◌, ◌⊎◌, inl, inr, zero, suc, ◌+◌, ◌*◌, ◌<◌, [], ◌∷◌, ◌++◌, length, refl}
use Rattle.std.proofs.Common.{⊎_elim}
use Rattle.std.{proofs.Math.Nat.le_antisymm, proofs.Math.Nat.mul-le-mul, specs.List.Contains, specs.List.AllPairs}
use Rattle.integers.specs.Vectors.{Vector, zero_vector, plus, times, IsBelow}
use Rattle.integers.proofs.lists.Members.{no_longer, contains_from_in, is_in, IsIn, apart_from_pairs}
use Rattle.integers.proofs.{numbers.Ring.positive_not_zero, lists.Permutations.rising_from_pairs, lists.Permutations.same_rising, vectors.Laws.plus_cancel}
use Rattle.integers.proofs.{vectors.Laws.times_cancel, vectors.StairBasis.one_staircase, lists.ListOrder.below_transitive, lists.ListOrder.not_below_itself}
use Rattle.integers.proofs.{numbers.Order.three_ways}
use Rattle.periodic_net.specs.Graph.{Graph, IsGraph, Arc, IsQuotientVertex, IsConnected}
use Rattle.periodic_net.specs.Placement.{Placement, base, IsNormalPlacement, IsWithinLimits}
use Rattle.periodic_net.specs.Classes.{ClassGraph, ClassArc, IsClassGraph, IsClassNumbering, IsTranslation, LeadsIn}
use Rattle.periodic_net.proofs.CallerLemmas.{arc_inside, iso_reflexive, one_placement, split_shows_not_connected}
use Rattle.periodic_net.specs.{ClassNets.MayFollow, Split.IsPartSplit, Split.IsSparseSplit}
use Rattle.net_translations.specs.Places.{IsFirstCollision}
use Rattle.key_theory.specs.Key.{Shape, IsKeyable, IsKeyOf}
use Rattle.key_theory.specs.Primitive.{Gives, IsLeastMember, IsPrimitive, edge_label}
use Rattle.key_theory.specs.Frames.{IsNext, IsFrameAfter, IsFrame, IsWorkPast, IsKeyWork, most_work}
use Rattle.key_theory.proofs.CallerLemmas.{work_not_past, one_key}
use Rattle.quotient_graph.specs.NetClasses.{NetClasses, AreClasses, class_at}
use Rattle.quotient_graph.specs.{PlacedNets.PlacedNet, Splits.split_view, declared.split.Split.Split}
use Rattle.connected_dim.specs.Refusals.{IsDegenerateBy, IsDisconnectedBy}
use Rattle.barycentre.{proofs.CallerLemmas.not_reachable, specs.declared.faults.WideSite.TheVariants.Beyond, specs.declared.faults.WideSite.WideSite}
use Rattle.barycentre.{specs.PlaceFaults.IsWideOf, specs.Reached.LacksModulus, specs.WidePlacements.IsWidePlacement}
use Rattle.least_key.specs.declared.refusal.Refusal.TheVariants.{Disconnected, Degenerate, NoModulus, WidePlacement, Collision, TooMuch, NoMemory}
use Rattle.least_key.specs.Laws.{OneRefusal, PlacedIsNotRefused, OneNet}
use Rattle.least_key.proofs.Splits.{full_not_flat, not_flat, not_sparse, one_flat_split, one_part_split, one_sparse_split}
use Rattle.least_key.proofs.Placements.{not_wide, same_collision, same_limits, not_narrow, one_pivot, one_wide_of}
use Rattle.least_key.{specs.Placings.IsPlacedAs, specs.KeyedNets.IsCellOf, specs.Truths.HasTooMuchWork, specs.Truths.IsCollidingAt}
use Rattle.least_key.{specs.Certain.CertainIsNotRefused, specs.Certain.KeyedIsCertain, proofs.Truth.shape_of, proofs.Truth.key_of_graph}
use Rattle.barycentre.specs.declared.faults.WidePlacement.{WidePlacement as Wide}
pub use Rattle.coordination.proofs.CallerLemmas.{one_numbering}

module _ (G : Graph) (p : Placement) (n : IsNormalPlacement G p) (u v x y : ℕ) (s t : Vector) (a : IsFirstCollision G p u v s)
    (b : IsFirstCollision G p x y t) where
  both : (u ≡ x) × (v ≡ y)
  both = grind arith

  -- and so is the cell
  same_cell : s ≡ t
  same_cell =
      let from : plus (base p u) (times (pos p.denominator) zero_vector) ≡ plus (base p x) (times (pos p.denominator) zero_vector) =
      ap (λ w. plus (base p w) (times (pos p.denominator) zero_vector)) both.0 in
      let to : plus (base p y) (times (pos p.denominator) t) ≡ plus (base p v) (times (pos p.denominator) t) =
      ap (λ w. plus (base p w) (times (pos p.denominator) t)) (sym both.1) in
      let same : plus (base p v) (times (pos p.denominator) s) ≡ plus (base p v) (times (pos p.denominator) t) = sym a.collision.same_place ∙ from
      ∙ b.collision.same_place ∙ to in
      times_cancel (pos p.denominator) s t (positive_not_zero p.denominator n.barycentric.positive)
      (plus_cancel (base p v) (times (pos p.denominator) s) (times (pos p.denominator) t) same)

  pub one_collision : (u ≡ x) × (v ≡ y) × (s ≡ t)
  one_collision = (both.0, both.1, same_cell)

-- The class graph of a net is one: two of them have the same classes and the same arcs.

-- each arc of the one is an arc of the other
pub record HaveSameArcs (K L : ClassGraph) : Type 0 where
  pub dimension : K.dimension ≡ L.dimension
  pub there : (b : ClassArc) → Contains K.arcs b → Contains L.arcs b
  pub back : (b : ClassArc) → Contains L.arcs b → Contains K.arcs b

pub same_turned : (K L : ClassGraph) → HaveSameArcs K L → HaveSameArcs L K
same_turned K L h = record { dimension = sym h.dimension; there = h.back; back = h.there }

-- an arc that is seen by one numbering is seen by the other
arcs_there : (G : Graph) → IsGraph G → (p : Placement) (f g : ℕ → ℕ) (K L : ClassGraph) → IsClassGraph G p f K → IsClassGraph G p g L → (b : ClassArc)
    → Contains K.arcs b → Contains L.arcs b
arcs_there G is p f g K L k l b h =
    let r = (k.arcs b).0 h in let i = arc_inside G is r.0 r.1 in
    (l.arcs b).1 (
      r.0,
      r.1,
      record {
        from = sym (one_numbering G p f g k.numbering l.numbering (r.0).from i.from) ∙ r.2.from;
        to = sym (one_numbering G p f g k.numbering l.numbering (r.0).to i.to) ∙ r.2.to;
        vector = r.2.vector;
      },
    )

-- two shapes of a graph have the same arcs
pub same_arcs : (G : Graph) → IsGraph G → (s t : Shape G) → HaveSameArcs s.classes t.classes
same_arcs G g s t =
    let e = one_placement G g s.stable.connected t.placement s.placement t.stable.placement s.stable.placement in
    let k = subst (λ q. IsClassGraph G q t.class_of t.classes) e t.is_classes in
    record {
      dimension = s.is_classes.dimension ∙ sym t.is_classes.dimension;
      there = arcs_there G g s.placement s.class_of t.class_of s.classes t.classes s.is_classes k;
      back = arcs_there G g s.placement t.class_of s.class_of t.classes s.classes k s.is_classes;
    }

-- The primitive graph of a placed net is one, and so is the basis of its translations.

module _ (G : Graph) (g : IsGraph G) (p : Placement) (f h : ℕ → ℕ) (n : IsClassNumbering G p f) (m : IsClassNumbering G p h) where
  same_class : (u : ℕ) → IsQuotientVertex G u → f u ≡ h u
  same_class = one_numbering G p f h n m

  -- the representatives are the same
  least_there : (c u : ℕ) → IsLeastMember G f c u → IsLeastMember G h c u
  least_there c u l = record {
    is_vertex = l.is_vertex;
    member = sym (same_class u l.is_vertex) ∙ l.member;
    least = λ v i e. l.least v i (same_class v i ∙ e);
  }

  -- and the edges
  gives_there : (basis : List Vector) (e : Arc) → Gives G p f basis e → Gives G p h basis e
  gives_there basis e a = record {
    u = a.u;
    v = a.v;
    from = least_there e.from a.u a.from;
    to = least_there e.to a.v a.to;
    via = a.via;
    is_arc = a.is_arc;
    dimension = a.dimension;
    tail = a.tail;
    head = sym (same_class (a.via).to (arc_inside G g a.via a.is_arc).to) ∙ a.head;
    shift = a.shift;
  }

  edges_there : (basis others : List Vector) (P Q : Graph) → basis ≡ others → IsPrimitive G p f basis P → IsPrimitive G p h others Q → (e : Arc)
      → Contains P.edges e → Contains Q.edges e
  edges_there basis others P Q same a b e i =
      let r = (a.edges e).0 i in
      (b.edges e).1 (r.0, subst (λ rows. Gives G p h rows e) same (gives_there basis e r.1))

  no_more : (basis others : List Vector) (P Q : Graph) → IsPrimitive G p f basis P → IsPrimitive G p h others Q → P.vertices ≤ Q.vertices
  no_more basis others P Q a b = omega (arith, same_class)

module _ (G : Graph) (g : IsGraph G) (p : Placement) (f h : ℕ → ℕ) (n : IsClassNumbering G p f) (m : IsClassNumbering G p h) (basis others : List Vector)
    (P Q : Graph) (a : IsPrimitive G p f basis P) (b : IsPrimitive G p h others Q) where
  pub one_basis : basis ≡ others
  one_basis = one_staircase (IsTranslation G p) (IsTranslation G p) G.dimension basis others a.basis_is b.basis_is (λ w. ((λ t. t), (λ t. t)))

  same_edges : P.edges ≡ Q.edges
  same_edges =
      same_rising (λ (e d : Arc). IsBelow (edge_label e) (edge_label d)) (λ e. not_below_itself (edge_label e))
      (λ x y z. below_transitive (edge_label x) (edge_label y) (edge_label z)) P.edges Q.edges
      (rising_from_pairs (λ (e d : Arc). IsBelow (edge_label e) (edge_label d)) P.edges a.sorted)
      (rising_from_pairs (λ (e d : Arc). IsBelow (edge_label e) (edge_label d)) Q.edges b.sorted)
      (λ e. (
        (λ i. is_in Q.edges e (edges_there G g p f h n m basis others P Q one_basis a b e (contains_from_in P.edges e i))),
        (λ i. is_in P.edges e (edges_there G g p h f m n others basis Q P (sym one_basis) b a e (contains_from_in Q.edges e i))),
      ))

  pub one_primitive : P ≡ Q
  one_primitive =
      let low = no_more G g p f h n m basis others P Q a b in
      let high = no_more G g p h f m n others basis Q P b a in
      let vertices : P.vertices ≡ Q.vertices = omega (arith, low, high) in
      let dimension = a.dimension ∙ sym b.dimension in
      λ i. record { dimension = dimension i; vertices = vertices i; edges = same_edges i }

-- The key work passes its limit after one number of starts, with one count.

-- walks of the one are walks of the other
leads_there : (K L : ClassGraph) → HaveSameArcs K L → (k c d : ℕ) → LeadsIn K k c d → LeadsIn L k c d
leads_there K L h zero c d l = l
leads_there K L h (suc k) c d l = (l.0, h.there l.0 l.1, l.2, leads_there K L h k (l.0).to d l.3)

-- what may follow may follow
may_there : (K L : ClassGraph) → HaveSameArcs K L → (earlier : List ClassArc) (a : ClassArc) → MayFollow K earlier a → MayFollow L earlier a
may_there K L h earlier a m = record { is_arc = h.there a m.is_arc; independent = m.independent }

-- and what is nearest is nearest
next_there : (K L : ClassGraph) → HaveSameArcs K L → (c : ℕ) (earlier : List ClassArc) (a : ClassArc) → IsNext K c earlier a → IsNext L c earlier a
next_there K L h c earlier a n = record {
  may = may_there K L h earlier a n.may;
  nearest = λ b m k l.
      let r = n.nearest b (may_there L K (same_turned K L h) earlier b m) k (leads_there L K (same_turned K L h) k c b.from l) in
      (r.0, r.1, leads_there K L h r.0 c a.from r.2);
}

frame_after : (K L : ClassGraph) → HaveSameArcs K L → (c : ℕ) (earlier f : List ClassArc) → IsFrameAfter K c earlier f → IsFrameAfter L c earlier f
frame_after K L h c earlier [] f = tt
frame_after K L h c earlier (a ∷ rest) f = (next_there K L h c earlier a f.0, frame_after K L h c (earlier ++ a ∷ []) rest f.1)

-- so frames are frames
same_frame : (K L : ClassGraph) → HaveSameArcs K L → (c : ℕ) (f : List ClassArc) → IsFrame K c f → IsFrame L c f
same_frame K L h c f i = record { count = i.count ∙ h.dimension; each = frame_after K L h c [] f i.each }

module _ (K L : ClassGraph) (h : HaveSameArcs K L) where
  no_more_arcs : AllPairs (λ a b. a ≢ b) K.arcs → length K.arcs ≤ length L.arcs
  no_more_arcs d = no_longer K.arcs L.arcs (apart_from_pairs K.arcs d) (λ a i. is_in L.arcs a (h.there a (contains_from_in K.arcs a i)))

  module _ (d c e b : ℕ) (k : IsWorkPast K d c) (l : IsWorkPast L e b) where
    -- the frames of fewer starts are fewer
    fewer_frames : d < e → length k.pairs < length l.pairs
    fewer_frames less = no_longer (last ∷ k.pairs) l.pairs (other, apart_from_pairs k.pairs k.once) inside
      where
        last : ℕ × List ClassArc
        last = (e + 1, l.begun.0)

        other : ¬ IsIn k.pairs last
        other i = let r = k.frames (e + 1) l.begun.0 (contains_from_in k.pairs last i) in let high = r.1 in omega (arith, high, less)

        inside : (s : ℕ × List ClassArc) → IsIn (last ∷ k.pairs) s → IsIn l.pairs s
        inside s (inl same) = subst (IsIn l.pairs) same (is_in l.pairs last l.begun.1)
        inside s (inr i) =
            let r = k.frames s.0 s.1 (contains_from_in k.pairs s i) in let high = r.1 in
            is_in l.pairs s (l.whole s.0 s.1 r.0 (omega (arith, high, less)) (same_frame K L h s.0 s.1 r.2))

    -- and more frames make a count that passed the limit before
    not_fewer_frames : length K.arcs ≡ length L.arcs → length k.pairs < length l.pairs → ⊥
    not_fewer_frames same less = grind (arith, mul-le-mul)

-- the number of starts and the count are one
one_work : (K L : ClassGraph) → HaveSameArcs K L → AllPairs (λ a b. a ≢ b) K.arcs → AllPairs (λ a b. a ≢ b) L.arcs → (d c e b : ℕ) → IsWorkPast K d c
    → IsWorkPast L e b → (d ≡ e) × (c ≡ b)
one_work K L h a a' d c e b k l = (by (three_ways d e), k.product ∙ (λ i. pairs i * arcs i) ∙ sym l.product)
  where
    h' : HaveSameArcs L K
    h' = same_turned K L h

    arcs : length K.arcs ≡ length L.arcs
    arcs = le_antisymm (no_more_arcs K L h a) (no_more_arcs L K h' a')

    equal : (length k.pairs < length l.pairs) ⊎ ((length l.pairs < length k.pairs) ⊎ (length k.pairs ≡ length l.pairs)) → length k.pairs ≡ length l.pairs
    equal (inl less) = absurd (not_fewer_frames K L h d c e b k l arcs less)
    equal (inr (inl less)) = absurd (not_fewer_frames L K h' e b d c l k (sym arcs) less)
    equal (inr (inr same)) = same

    pairs : length k.pairs ≡ length l.pairs
    pairs = equal (three_ways (length k.pairs) (length l.pairs))

    by : (d < e) ⊎ ((e < d) ⊎ (d ≡ e)) → d ≡ e
    by (inl less) = let f = fewer_frames K L h d c e b k l less in absurd (omega (arith, f, pairs))
    by (inr (inl less)) = let f = fewer_frames L K h' e b d c l k less in absurd (omega (arith, f, pairs))
    by (inr (inr same)) = same

-- in two shapes of one graph
pub one_work_past : (G : Graph) → IsGraph G → (s t : Shape G) (d c e b : ℕ) → IsWorkPast s.classes d c → IsWorkPast t.classes e b → (d ≡ e) × (c ≡ b)
one_work_past G g s t d c e b k l = one_work s.classes t.classes (same_arcs G g s t) s.is_classes.different t.is_classes.different d c e b k l

-- No refusal of placing is true of a graph that is placed, and two refusals that are true of a graph are one.

-- colourings with the same values are one
same_colouring : (s t : Split) → s.dim ≡ t.dim → split_view s ≡ split_view t → s ≡ t
same_colouring s t d e = λ i. record { dim = d i; q = (e i).q; c = (e i).c; h = (e i).h }

module _ (G : Graph) (g : IsGraph G) where
  -- if the net is in several parts
  one_disconnected : (s t : Split) → IsDisconnectedBy G s → IsDisconnectedBy G t → s ≡ t
  one_disconnected s t a b = same_colouring s t (a.0 ∙ sym b.0) (by a.2 b.2)
    where
      by : IsPartSplit G (split_view s) ⊎ ((k : ℕ) × IsSparseSplit G (split_view s) k)
          → IsPartSplit G (split_view t) ⊎ ((k : ℕ) × IsSparseSplit G (split_view t) k) → split_view s ≡ split_view t
      by (inl h) (inl k) = one_part_split G (split_view s) (split_view t) h k
      by (inl h) (inr k) = absurd (not_sparse G (split_view s) (split_view t) k.0 h k.1)
      by (inr h) (inl k) = absurd (not_sparse G (split_view t) (split_view s) h.0 k h.1)
      by (inr h) (inr k) = one_sparse_split G g (split_view s) (split_view t) h.0 k.0 h.1 k.1

  -- if the closed walks span fewer dimensions
  one_degenerate : (s t : Split) → IsDegenerateBy G s → IsDegenerateBy G t → s ≡ t
  one_degenerate s t a b = same_colouring s t (a.0 ∙ sym b.0) (one_flat_split G (split_view s) (split_view t) a.2 b.2)

  -- the two exclude each other
  not_degenerate : (s t : Split) → IsDisconnectedBy G s → ¬ IsDegenerateBy G t
  not_degenerate s t a b = ⊎_elim (λ h. not_flat G (split_view s) (split_view t) h b.2) (λ h. full_not_flat G g (split_view t) (split_view s) h.0 b.2 h.1) a.2

  -- a connected net is neither
  connected_not_disconnected : (s : Split) → IsConnected G → ¬ IsDisconnectedBy G s
  connected_not_disconnected s c a = split_shows_not_connected G (split_view s) g a.1 c

  connected_not_degenerate : (s : Split) → IsConnected G → ¬ IsDegenerateBy G s
  connected_not_degenerate s c a = split_shows_not_connected G (split_view s) g a.1 c

  -- if no modulus serves
  one_modulus : (a b c d e f : ℕ) → LacksModulus G a b c → LacksModulus G d e f → NoModulus a b c ≡ NoModulus d e f
  one_modulus a b c d e f h k =
      let first = one_pivot _ G a d h.no_first k.no_first in
      let second = one_pivot _ G b e h.no_second k.no_second in
      let third = one_pivot _ G c f h.no_third k.no_third in λ i. NoModulus (first i) (second i) (third i)

  -- and a placement past a limit exclude each other
  not_wide_of : (a b c : ℕ) (w : Wide) → LacksModulus G a b c → ¬ IsWideOf G w w.site
  not_wide_of a b c w h = by w.site
    where
      by : (s : WideSite) → ¬ IsWideOf G w s
      by (Beyond at) k = not_reachable G a b c h (inr k.1.modulus)
      by s k = not_narrow G h.at h.wide k.0

  -- a placement within the limits is past none
  module _ (connected : IsConnected G) (p : Placement) (normal : IsNormalPlacement G p) (limits : IsWithinLimits G p) where
    within_not_wide : (w : Wide) → ¬ IsWidePlacement G w
    within_not_wide w h = not_wide G h.placement h.normal (same_limits G g connected p h.placement normal h.normal limits) w.site w.value h.wide

    placed_not_wide : (w : Wide) (s : WideSite) → ¬ IsWideOf G w s
    placed_not_wide w (Beyond at) h = h.1.past (same_limits G g connected p h.1.placement normal h.1.normal limits)
    placed_not_wide w s h = within_not_wide w h.1

  net_not_wide : (p : PlacedNet) → IsPlacedAs G p → (w : Wide) → ¬ IsWideOf G w w.site
  net_not_wide p h w = placed_not_wide h.connected p.placement h.normal h.limits w w.site

  -- the first collision
  one_colliding : (d e u v x y : ℕ) (s t : Vector) → IsCollidingAt G d u v s → IsCollidingAt G e x y t → Collision d u v s ≡ Collision e x y t
  one_colliding d e u v x y s t a b =
      let same = one_placement G g a.placed.connected b.net.placement a.net.placement b.placed.normal a.placed.normal in
      let r = one_collision G a.net.placement a.placed.normal u v x y s t a.first (subst (λ q. IsFirstCollision G q x y t) same b.first) in
      let dim = a.dimension ∙ sym b.dimension in λ i. Collision (dim i) (r.0 i) (r.1 i) (r.2 i)

  -- a net without collisions has none
  settled_not_colliding : (d u v : ℕ) (t : Vector) (done counted : ℕ) → IsCollidingAt G d u v t → ¬ HasTooMuchWork G done counted
  settled_not_colliding d u v t done counted a b =
      b.settled.no_collision u v t (same_collision G g a.placed.connected a.net.placement b.net.placement a.placed.normal b.settled.placed.normal u v t
      a.first.collision)

  one_too_much : (d c e b : ℕ) → HasTooMuchWork G d c → HasTooMuchWork G e b → TooMuch d c ≡ TooMuch e b
  one_too_much d c e b h k =
      let r = one_work_past G g h.shape k.shape d c e b h.past k.past in λ i. TooMuch (r.0 i) (r.1 i)

-- no refusal of placing is true of a graph that is placed
pub placed_is_not_refused : PlacedIsNotRefused
placed_is_not_refused G p (Disconnected s) g h early k = absurd (connected_not_disconnected G g s h.connected k)
placed_is_not_refused G p (Degenerate s) g h early k = absurd (connected_not_degenerate G g s h.connected k)
placed_is_not_refused G p (NoModulus a b c) g h early k = absurd (not_reachable G a b c k.1 h.reached)
placed_is_not_refused G p (WidePlacement w) g h early k = absurd (net_not_wide G g p h w k.1)
placed_is_not_refused G p NoMemory g h early k = refl
placed_is_not_refused G p r g h early k = absurd early

-- two refusals that are true of a graph are one
pub one_refusal : OneRefusal
one_refusal G NoMemory b g h k n m = absurd (n refl)
one_refusal G a NoMemory g h k n m = absurd (m refl)
one_refusal G (Disconnected s) (Disconnected t) g h k n m = ap Disconnected (one_disconnected G g s t h k)
one_refusal G (Disconnected s) (Degenerate t) g h k n m = absurd (not_degenerate G g s t h k)
one_refusal G (Disconnected s) (Collision d u v t) g h k n m = absurd (connected_not_disconnected G g s k.placed.connected h)
one_refusal G (Disconnected s) (TooMuch d c) g h k n m = absurd (connected_not_disconnected G g s k.settled.placed.connected h)
one_refusal G (Disconnected s) b g h k n m = absurd (connected_not_disconnected G g s k.0 h)
one_refusal G (Degenerate s) (Disconnected t) g h k n m = absurd (not_degenerate G g t s k h)
one_refusal G (Degenerate s) (Degenerate t) g h k n m = ap Degenerate (one_degenerate G g s t h k)
one_refusal G (Degenerate s) (Collision d u v t) g h k n m = absurd (connected_not_degenerate G g s k.placed.connected h)
one_refusal G (Degenerate s) (TooMuch d c) g h k n m = absurd (connected_not_degenerate G g s k.settled.placed.connected h)
one_refusal G (Degenerate s) b g h k n m = absurd (connected_not_degenerate G g s k.0 h)
one_refusal G (NoModulus a b c) (NoModulus d e f) g h k n m = one_modulus G g a b c d e f h.1 k.1
one_refusal G (NoModulus a b c) (WidePlacement w) g h k n m = absurd (not_wide_of G g a b c w h.1 k.1)
one_refusal G (NoModulus a b c) (Collision d u v t) g h k n m = absurd (not_reachable G a b c h.1 k.placed.reached)
one_refusal G (NoModulus a b c) (TooMuch d e) g h k n m = absurd (not_reachable G a b c h.1 k.settled.placed.reached)
one_refusal G (WidePlacement w) (NoModulus a b c) g h k n m = absurd (not_wide_of G g a b c w k.1 h.1)
one_refusal G (WidePlacement w) (WidePlacement z) g h k n m = ap WidePlacement (one_wide_of G g h.0 w z h.1 k.1)
one_refusal G (WidePlacement w) (Collision d u v t) g h k n m = absurd (net_not_wide G g k.net k.placed w h.1)
one_refusal G (WidePlacement w) (TooMuch d c) g h k n m = absurd (net_not_wide G g k.net k.settled.placed w h.1)
one_refusal G (Collision d u v t) (Disconnected s) g h k n m = absurd (connected_not_disconnected G g s h.placed.connected k)
one_refusal G (Collision d u v t) (Degenerate s) g h k n m = absurd (connected_not_degenerate G g s h.placed.connected k)
one_refusal G (Collision d u v t) (NoModulus a b c) g h k n m = absurd (not_reachable G a b c k.1 h.placed.reached)
one_refusal G (Collision d u v t) (WidePlacement w) g h k n m = absurd (net_not_wide G g h.net h.placed w k.1)
one_refusal G (Collision d u v s) (Collision e x y t) g h k n m = one_colliding G g d e u v x y s t h k
one_refusal G (Collision d u v t) (TooMuch e c) g h k n m = absurd (settled_not_colliding G g d u v t e c h k)
one_refusal G (TooMuch d c) (Disconnected s) g h k n m = absurd (connected_not_disconnected G g s h.settled.placed.connected k)
one_refusal G (TooMuch d c) (Degenerate s) g h k n m = absurd (connected_not_degenerate G g s h.settled.placed.connected k)
one_refusal G (TooMuch d e) (NoModulus a b c) g h k n m = absurd (not_reachable G a b c k.1 h.settled.placed.reached)
one_refusal G (TooMuch d c) (WidePlacement w) g h k n m = absurd (net_not_wide G g h.net h.settled.placed w k.1)
one_refusal G (TooMuch e c) (Collision d u v t) g h k n m = absurd (settled_not_colliding G g d u v t e c k h)
one_refusal G (TooMuch d c) (TooMuch e b) g h k n m = one_too_much G g d c e b h k
one_refusal G a (Disconnected t) g h k n m = absurd (connected_not_disconnected G g t h.0 k)
one_refusal G a (Degenerate t) g h k n m = absurd (connected_not_degenerate G g t h.0 k)

-- No refusal is true of a certain graph, and a graph that has got its key is certain.

-- of a certain graph
pub certain_is_not_refused : CertainIsNotRefused
certain_is_not_refused G (Disconnected split) g c h = absurd (split_shows_not_connected G (split_view split) g h.1 c.keyable.shape.stable.connected)
certain_is_not_refused G (Degenerate split) g c h = absurd (split_shows_not_connected G (split_view split) g h.1 c.keyable.shape.stable.connected)
certain_is_not_refused G (NoModulus first second third) g c h = absurd (not_reachable G first second third h.1 c.reached)
certain_is_not_refused G (WidePlacement w) g c h =
    let s = c.keyable.shape in
    absurd (placed_not_wide G g s.stable.connected s.placement s.stable.placement c.keyable.limits w w.site h.1)
certain_is_not_refused G (Collision dim u v t) g c h =
    let s = c.keyable.shape in
    absurd (s.stable.no_collision u v t
    (same_collision G g s.stable.connected h.net.placement s.placement h.placed.normal s.stable.placement u v t h.first.collision))
certain_is_not_refused G (TooMuch done counted) g c h =
    absurd (work_not_past G G g g (iso_reflexive G) c.keyable.shape h.shape c.keyable.work done counted c.keyable.is_work c.keyable.work_limit h.past)
certain_is_not_refused G NoMemory g c h = refl

-- the classes in memory of a net show that it may have a key
keyable : (n : NetClasses) (G : Graph) → n.graph ≡ G → AreClasses n → (w : ℕ) → IsKeyWork n.classes w → w ≤ most_work → IsKeyable G
keyable n G e h w k l =
    subst IsKeyable e (record { shape = shape_of n h; limits = h.at.limits; work = w; is_work = k; work_limit = l })

-- of a net with its key
pub keyed_is_certain : KeyedIsCertain
keyed_is_certain n h = record {
  keyable = keyable n.classes n.placed.graph h.same_graph (record { placement = n.placed.placement; at = h.classes }) h.work h.is_work h.work_limit;
  reached = h.settled.placed.reached;
}

-- What is reported of a graph with its key is one.

-- the placement of a graph is one
pub one_placed : (G : Graph) → IsGraph G → (p q : PlacedNet) → IsPlacedAs G p → IsPlacedAs G q → p ≡ q
one_placed G g p q a b =
    let graph = a.graph ∙ sym b.graph in
    let same = one_placement G g a.connected p.placement q.placement a.normal b.normal in
    λ i. record { graph = graph i; placement = same i }

pub one_net : OneNet
one_net m n k l e = record {
  placed = placed;
  cell = one_primitive G k.is_graph m.placed.placement (class_at m.cell.class_of)
      (class_at n.cell.class_of) k.cell.numbering there.numbering m.cell.basis n.cell.basis m.cell.graph n.cell.graph k.cell.primitive there.primitive;
  basis =
      one_basis G k.is_graph m.placed.placement (class_at m.cell.class_of)
      (class_at n.cell.class_of) k.cell.numbering there.numbering m.cell.basis n.cell.basis m.cell.graph n.cell.graph k.cell.primitive there.primitive;
  key =
      one_key G k.is_graph m.key n.key (key_of_graph m k) (subst (λ H. IsKeyOf H n.key) (sym e) (key_of_graph n l));
}
  where
    G : Graph
    G = m.placed.graph

    placed : m.placed ≡ n.placed
    placed = one_placed G k.is_graph m.placed n.placed k.settled.placed (subst (λ H. IsPlacedAs H n.placed) (sym e) l.settled.placed)

    there : IsCellOf m.placed n.cell
    there = subst (λ p. IsCellOf p n.cell) (sym placed) l.cell
