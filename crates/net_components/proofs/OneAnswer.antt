-- A component has one part, and a graph has one answer: the parts that are made of all components, or one fault.
use Rattle.std.proofs.Common.{◌≡◌, inl, inr, ℕ, zero, suc, ◌+◌, ◌<◌, List, [], ◌∷◌, ◌++◌, length, take, get_or, sym, ap, ◌∙◌, arith, ◌⊎◌, ◌-◌, ◌≤◌}
use Rattle.std.proofs.Common.{AllPairs, subst, pos, Contains, Result, Ok, Err, IfOk, Vec, Global, map, IsSome, ◌≢◌, ℤ, unsigned_abs, refl}
use Rattle.std.{proofs.Math.Seq.take-suc, proofs.Math.Decide.dec_lt, proofs.lemmas.List.get_or_default, proofs.lemmas.List.map-append}
use Rattle.std.{proofs.lemmas.List.Elements.Contains-append_cases, proofs.lemmas.List.Elements.All-contains, specs.Prelude.drop}
use Rattle.integers.proofs.lists.Permutations.{IsRising, rising_from_pairs, same_rising}
use Rattle.integers.proofs.lists.Members.{IsIn, contains_from_in, is_in, in_at, append_right, in_map, map_in}
use Rattle.integers.proofs.lists.Matched.{matched_at, matched_left, matched_length}
use Rattle.integers.specs.Vectors.{plus, minus, Vector, IsWithin}
use Rattle.integers.{proofs.numbers.Order.next_number, proofs.numbers.Order.three_ways, specs.Bases.base_sum, specs.Staircase.part, specs.Lists.AreMatched}
use Rattle.vecdim.specs.Stairs.{Stairs, stairs}
use Rattle.periodic_net.specs.Graph.{Graph, IsGraph, Arc, arc, IsQuotientVertex}
use Rattle.periodic_net.{specs.Chosen.path_shift, specs.Components.InComponent, specs.Limits.IsSmall, specs.Limits.most_shift}
use Rattle.periodic_net.{proofs.CallerLemmas.one_chosen}
use Rattle.quotient_graph.specs.AnyGraphs.{graph_view}
use Rattle.net_components.specs.PartGraphs.{stair_base, IsNumber, IsWritten}
use Rattle.net_components.specs.Parts.{vertex_at, IsPartOf, view_of, root_of, AreParts, PartView}
use Rattle.net_components.specs.Components.{Component, IsComponent, AreComponentsTo}
use Rattle.net_components.specs.Shifts.{IsShiftIn, AreNarrow, IsWideAt, IsFirstWide, IsWideShift}
use Rattle.net_components.specs.Written.{IsWideEdge, IsWideFault, IsMadeOf, IsEdgeOf, AreEdgesOf}
use Rattle.net_components.specs.declared.fault.PartFault.TheVariants.{LowRank, WideShift, NoMemory}
use Rattle.net_components.proofs.PartArcs.{one_stair, sum_once, written_once, passed_over, put_last, one_normal, edge_written}
use Rattle.net_components.proofs.MadeParts.{part_at_root, root_is, made_narrow, edge, shift_is}
use Rattle.net_components.proofs.Covered.{one_least, found_in, in_found}
use Rattle.net_components.{specs.declared.parts.Part.Part, specs.Ranks.IsFullAt, specs.Ranks.IsLowRank, specs.declared.fault.PartFault.PartFault}
use Rattle.net_components.{specs.ComponentSets.IsLeast, specs.Laws.AnswerIsOne, specs.Faults.IsPartFault, specs.Faults.no_memory}
use Rattle.net_components.{proofs.PartNet.flat_not_full}
use Prim.{Dec, yes, no}
use Rattle.cgd_read.specs.{Spelling.edge_of, declared.edge.RawEdge.RawEdge}
use Rattle.connected_dim.specs.Search.{walk_to}

-- Lists up to a place, and what stands there.

-- the list up to a place, and the one there
pub take_more : {X : Type 0} (xs : List X) (i : ℕ) (x : X) → i < length xs → get_or xs i x ≡ x → take (i + 1) xs ≡ take i xs ++ x ∷ []
take_more xs i x l at = ap (λ k. take k xs) (sym (next_number i)) ∙ take-suc xs i x l ∙ ap (λ y. take i xs ++ y ∷ []) at

-- what stands before a place
pub in_take : {X : Type 0} (xs : List X) (i j : ℕ) (x : X) → j < i → j < length xs → get_or xs j x ≡ x → IsIn (take i xs) x
in_take (y ∷ xs) (suc i) zero x a b e = inl e
in_take (y ∷ xs) (suc i) (suc j) x a b e = inr (in_take xs i j x (omega arith) (omega arith) e)
in_take xs i j x a b e = absurd (omega arith)

-- the list before a place, what stands there, and the list after it
pub split_at : {X : Type 0} (xs : List X) (i : ℕ) (x : X) → i < length xs → get_or xs i x ≡ x → xs ≡ take i xs ++ x ∷ drop (suc i) xs
split_at [] i x l at = absurd (omega arith)
split_at (y ∷ xs) zero x l at = ap (λ z. z ∷ xs) at
split_at (y ∷ xs) (suc i) x l at = ap (λ zs. y ∷ zs) (split_at xs i x (omega arith) at)

-- a list is split in one way at the first member of a kind: if neither of two members stands before the other
pub split_once : {X : Type 0} (before before' after after' : List X) (x x' : X) → before ++ x ∷ after ≡ before' ++ x' ∷ after' → ¬ IsIn before x'
    → ¬ IsIn before' x → x ≡ x'
split_once [] [] after after' x x' e m n = cc
split_once [] (y ∷ before') after after' x x' e m n = absurd (n (inl (let h : x ≡ y = cc in sym h)))
split_once (y ∷ before) [] after after' x x' e m n = absurd (m (inl (let h : y ≡ x' = cc in h)))
split_once (y ∷ before) (y' ∷ before') after after' x x' e m n =
    split_once before before' after after' x x' (let h : before ++ x ∷ after ≡ before' ++ x' ∷ after' = cc in h) (λ i. m (inr i)) (λ i. n (inr i))

-- the place of a number
less : (k : ℕ) → k + 1 - 1 ≡ k
less k = omega arith

module _ (G : Graph) (a : ℕ) (p : Part) (h : IsPartOf G a p) where
  -- a number is below the number of vertices
  number : (i : ℕ) → IsNumber (length p.vertices) i → IsQuotientVertex (graph_view p.graph) i
  number i n = let e = h.count in (n.0, let m = n.1 in omega (arith, m, e))

  -- the vertices of the part are those of the component
  vertex_in : (u : ℕ) → IsIn p.vertices u → InComponent G a u
  vertex_in u i =
      let c = contains_from_in p.vertices u i in let l = c.1 in
      let at = get_or_default p.vertices c.0 0 u c.1 ∙ c.2 in
      rw (ap (λ k. get_or p.vertices k 0) (less c.0) ∙ at) at (h.part.vertices (c.0 + 1) (number (c.0 + 1) (omega arith, omega (arith, l))))

  in_vertices : (u : ℕ) → InComponent G a u → IsIn p.vertices u
  in_vertices u i =
      let n = h.part.each u i in let low = n.1.0 in let high = n.1.1 in let e = h.count in
      subst (IsIn p.vertices) n.2 (in_at p.vertices (n.0 - 1) 0 (omega (arith, low, high, e)))

  -- they rise
  vertices_rise : IsRising (λ (u v : ℕ). u < v) p.vertices
  vertices_rise = rising_from_pairs (λ (u v : ℕ). u < v) p.vertices pairs
    where
      pairs : AllPairs (λ (u v : ℕ). u < v) p.vertices
      pairs i j d l m =
          let n = h.part.rising (i + 1) (j + 1) (number (i + 1) (omega arith, omega (arith, l, m))) (number (j + 1) (omega arith, omega (arith, m)))
          (omega (arith, l)) in
          let x = ap (λ k. get_or p.vertices k 0) (less i) ∙ get_or_default p.vertices i 0 d (omega (arith, l, m)) in
          let y = ap (λ k. get_or p.vertices k 0) (less j) ∙ get_or_default p.vertices j 0 d m in
          omega (arith, n, x, y)

  -- different numbers are of different vertices
  at_once : (i j : ℕ) → IsQuotientVertex (graph_view p.graph) i → IsQuotientVertex (graph_view p.graph) j → vertex_at p.vertices i ≡ vertex_at p.vertices j
      → i ≡ j
  at_once i j m n e = by (three_ways i j)
    where
      by : (i < j) ⊎ ((j < i) ⊎ (i ≡ j)) → i ≡ j
      by (inl l) = absurd (let r = h.part.rising i j m n l in omega (arith, r, e))
      by (inr (inl l)) = absurd (let r = h.part.rising j i n m l in omega (arith, r, e))
      by (inr (inr s)) = s

module _ (G : Graph) (g : IsGraph G) (a : ℕ) (p q : Part) (h : IsPartOf G a p) (k : IsPartOf G a q) where
  same_stairs : h.stairs ≡ k.stairs
  same_stairs = one_stair G g a h.stairs k.stairs h.part.full k.part.full

  same_vertices : p.vertices ≡ q.vertices
  same_vertices = same_rising (λ (u v : ℕ). u < v) (λ u l. omega (arith, l)) (λ u v w l m. omega (arith, l, m)) p.vertices q.vertices (vertices_rise G a p h)
      (vertices_rise G a q k)
      (λ u. ((λ i. in_vertices G a q k u (vertex_in G a p h u i)), λ i. in_vertices G a p h u (vertex_in G a q k u i)))

  same_count : (graph_view p.graph).vertices ≡ (graph_view q.graph).vertices
  same_count = sym h.count ∙ ap length same_vertices ∙ k.count

  -- the walks are the chosen ones
  same_walk : (u : ℕ) → InComponent G a u → h.T u ≡ k.T u
  same_walk u i =
      let P = h.chosen u i in let Q = k.chosen u i in
      sym P.2 ∙ ap path_shift (one_chosen G a u P.0 Q.0 P.1 Q.1) ∙ Q.2

  -- an edge is written in one way
  one_edge : (e f f' : Arc) → InComponent G a e.from → IsWritten G.dimension (graph_view p.graph).vertices h.T (stair_base h.stairs) (vertex_at p.vertices) e f
      → IsWritten G.dimension (graph_view q.graph).vertices k.T (stair_base k.stairs) (vertex_at q.vertices) e f' → f ≡ f'
  one_edge e f f' tail w v =
      let at = ap vertex_at same_vertices in
      let here : (i : ℕ) → IsQuotientVertex (graph_view q.graph) i → IsQuotientVertex (graph_view p.graph) i =
      λ i n. (n.0, subst (λ m. i ≤ m) (sym same_count) n.1) in
      let from = at_once G a p h f.from f'.from w.from_number (here f'.from v.from_number) (w.from ∙ sym v.from ∙ sym (ap (λ (t : ℕ → ℕ). t f'.from) at)) in
      let to = at_once G a p h f.to f'.to w.to_number (here f'.to v.to_number) (w.to ∙ sym v.to ∙ sym (ap (λ (t : ℕ → ℕ). t f'.to) at)) in
      let head = subst (InComponent G a) w.to (h.part.vertices f.to w.to_number) in
      let sum : base_sum (stair_base h.stairs) f.shift ≡ base_sum (stair_base h.stairs) f'.shift =
      w.shift ∙ (λ i. minus (plus (same_walk e.from tail i) e.shift) (same_walk e.to head i)) ∙ sym v.shift
      ∙ ap (λ S. base_sum (stair_base S) f'.shift) (sym same_stairs) in
      let shift = sum_once G.dimension h.stairs h.part.full.shape f.shift f'.shift sum in
      λ i. arc (from i) (to i) (shift i)

  same_edges : (graph_view p.graph).edges ≡ (graph_view q.graph).edges
  same_edges =
      written_once (InComponent G a) (IsWritten G.dimension (graph_view p.graph).vertices h.T (stair_base h.stairs) (vertex_at p.vertices))
      (IsWritten G.dimension (graph_view q.graph).vertices k.T (stair_base k.stairs) (vertex_at q.vertices)) one_edge
      G.edges (graph_view p.graph).edges (graph_view q.graph).edges h.part.edges k.part.edges

  same_graph : graph_view p.graph ≡ graph_view q.graph
  same_graph = λ i. record { dimension = (h.part.dimension ∙ sym k.part.dimension) i; vertices = same_count i; edges = same_edges i }

  -- the parts of a component are one
  pub one_part : view_of p ≡ view_of q
  one_part = grind (arith, same_stairs, same_vertices, same_graph)

-- Edges within the limit, one more, and the first that is not.

-- one edge more
pub narrow_more : (G : Graph) (a : ℕ) (es : List Arc) (e : Arc) → AreNarrow G a es
    → (InComponent G a e.from → (k : Vector) × IsShiftIn G a e k × IsWithin 500 k) → AreNarrow G a (es ++ e ∷ [])
narrow_more G a es e h k f i t = elim (Contains-append_cases es (e ∷ []) f i) [ inl j ↦ h f j t | inr j ↦ by f (is_in (e ∷ []) f j) t ]
  where
    by : (f : Arc) → IsIn (e ∷ []) f → InComponent G a f.from → (k : Vector) × IsShiftIn G a f k × IsWithin 500 k
    by f (inl d) t = subst (λ (x : Arc). (k : Vector) × IsShiftIn G a x k × IsWithin 500 k) d (k (subst (λ (x : Arc). InComponent G a x.from) (sym d) t))
    by f (inr n) t = elim n [ ]

-- why the edges are not written
pub wide_fault : (G : Graph) (c : Component) (es : List Arc) → es ≡ G.edges → (i : ℕ) (e : Arc) → i < length es → get_or es i e ≡ e
    → AreNarrow G c.root (take i es)
    → (f : PartFault) → IsWideEdge G c e f → IsWideFault G c f
wide_fault G c es same i e l at h (LowRank u v) k = k
wide_fault G c es same i e l at h (WideShift u v s p value) k = record {
  before = take i es;
  after = drop (suc i) es;
  edges = sym same ∙ split_at es i e l at ∙ ap (λ d. take i es ++ d ∷ drop (suc i) es) (sym k.0);
  narrow = h;
  wide = subst (λ d. IsWideAt G c.root d p value) (sym k.0) k.1;
}
wide_fault G c es same i e l at h NoMemory k = k

-- no component
none : Component
none = record { root = 0; found = []; stairs = stairs (pos 1) (pos 0) (pos 0) (pos 1) (pos 0) (pos 1) }

module _ (G : Graph) (g : IsGraph G) (s : IsSmall G) (cs : List Component) (h : AreComponentsTo G cs (G.vertices + 1)) where
  is_component : (c : Component) → Contains cs c → IsComponent G c
  is_component c i = All-contains (IsComponent G) cs c h.each i

  -- each least vertex is a root
  root_in : (b : ℕ) → IsLeast G b → (c : Component) × Contains cs c × (c.root ≡ b)
  root_in b k =
      let f = h.covers b k.vertex (let l = k.vertex.1 in omega arith) in let c = is_component f.0 f.1 in
      (f.0, f.1, one_least G f.0.root b c.least k (found_in G f.0 c b k.vertex f.2 g))

  all_full : (b : ℕ) → IsLeast G b → (S : Stairs) × IsFullAt G b S
  all_full b k = let r = root_in b k in (r.0.stairs, subst (λ a. IsFullAt G a r.0.stairs) r.2 (is_component r.0 r.1).full)

  module _ (ps : List Part) (m : AreMatched (IsMadeOf G) cs ps) where
    same_length : length cs ≡ length ps
    same_length = matched_length (IsMadeOf G) cs ps m

    -- what is reported of the part at a place
    part_there : (i : ℕ) (d : Part) → i < length ps → IsPartOf G (root_of (get_or ps i d)) (get_or ps i d) × (root_of (get_or ps i d) ≡ (get_or cs i none).root)
    part_there i d l =
        let k : i < length cs = omega (arith, l, same_length) in let c = h.each i none k in
        let made = matched_at (IsMadeOf G) cs ps m i none d k in
        (part_at_root G g s (get_or cs i none) c (get_or ps i d) made, root_is G g s (get_or cs i none) c (get_or ps i d) made)

    -- the parts of the net
    pub are_parts : AreParts G ps
    are_parts = record {
      each = λ i d l. (part_there i d l).0;
      rising = λ i j d a b.
          let p = (part_there i d (omega (arith, a, b))).1 in let q = (part_there j d b).1 in
          let r = h.rising i j none a (omega (arith, b, same_length)) in omega (arith, p, q, r);
      covers = λ u q.
          let f = h.covers u q (let l = q.1 in omega arith) in let c = is_component f.0 f.1 in
          let p = matched_left (IsMadeOf G) cs ps m f.0 (is_in cs f.0 f.1) in
          (p.0, contains_from_in ps p.0 p.1, subst (λ a. InComponent G a u) (sym (root_is G g s f.0 c p.0 p.2)) (found_in G f.0 c u q f.2 g));
    }

  module _ (i : ℕ) (c : Component) (l : i < length cs) (at : c ≡ get_or cs i c) (ps : List Part) (m : AreMatched (IsMadeOf G) (take i cs) ps) where
    -- the components of lesser least vertices stand before
    earlier : (b : ℕ) → IsLeast G b → b < c.root → AreNarrow G b G.edges
    earlier b k less =
        let r = root_in b k in let d = is_component r.0 r.1 in
        let before : r.1.0 < i = by r.0 r.1 r.2 (dec_lt r.1.0 i) in
        let p = matched_left (IsMadeOf G) (take i cs) ps m r.0 (in_take cs i r.1.0 r.0 before r.1.1 r.1.2) in
        subst (λ a. AreNarrow G a G.edges) r.2 (made_narrow G g s r.0 d p.0 p.2)
      where
        order : (j i : ℕ) → ¬ (j < i) → (i < j) ⊎ (j ≡ i)
        order j i n = grind (arith, n)

        by : (e : Component) (p : Contains cs e) → e.root ≡ b → Dec (p.0 < i) → p.0 < i
        by e p s (yes a) = a
        by e p s (no n) = elim (order p.0 i n) [
          | inl a ↦
              let r = h.rising i p.0 c a p.1 in let x = ap (λ (d : Component). d.root) at in
              let y = ap (λ (d : Component). d.root) (get_or_default cs p.0 c e p.1 ∙ p.2) in
              absurd (omega (arith, r, x, y, s, less))
          | inr a ↦
              let y = ap (λ (d : Component). d.root) (sym p.2 ∙ ap (λ j. get_or cs j e) a ∙ get_or_default cs i e c l ∙ sym at) in
              absurd (omega (arith, y, s, less))
        ]

    -- so the fault of the first component that has one is the first
    pub part_fault : (f : PartFault) → IsWideFault G c f → IsPartFault G f
    part_fault (LowRank u v) k = absurd k
    part_fault (WideShift u v t p value) k =
        record { full = all_full; root = c.root; least = (is_component c (i, l, sym at)).least; earlier = earlier; wide = k }
    part_fault NoMemory k = k

-- the same of an answer
pub parts_answer : (G : Graph) → IsGraph G → IsSmall G → (cs : List Component) → AreComponentsTo G cs (G.vertices + 1)
    → (r : Result (Vec Part Global) PartFault)
    → IfOk r (λ v. AreMatched (IsMadeOf G) cs v.items) → IfOk r (λ v. AreParts G v.items)
parts_answer G g s cs h (Ok v) m = are_parts G g s cs h v.items m
parts_answer G g s cs h (Err f) m = m

-- The edges of a component among the first ones, and the one at the next place.

-- what is at a place of the edges is an edge
pub edge_at : (G : Graph) (row : List Arc) → row ≡ G.edges → (i : ℕ) (e : Arc) → i < length row → e ≡ get_or row i e → Contains G.edges e
edge_at G row same i e l at = subst (λ (es : List Arc). Contains es e) same (i, l, sym at)

module _ (G : Graph) (g : IsGraph G) (s : IsSmall G) (c : Component) (h : IsComponent G c) (row : List Arc) (same : row ≡ G.edges) (i : ℕ) (e : Arc)
    (l : i < length row) (at : e ≡ get_or row i e) where
  next : take (i + 1) row ≡ take i row ++ e ∷ []
  next = take_more row i e l (sym at)

  inside : Contains G.edges e
  inside = edge_at G row same i e l at

  module _ (some : IsSome (walk_to c.found e.from)) (f : RawEdge) (w : IsEdgeOf G c e (edge_of f)) where
    -- an edge of the component
    pub more_written : (fs next_fs : List RawEdge) → next_fs ≡ fs ++ f ∷ [] → AreEdgesOf G c (take i row) (map edge_of fs)
        → AreEdgesOf G c (take (i + 1) row) (map edge_of next_fs)
    more_written fs gs is k =
        rw next (subst (λ (hs : List Arc). AreEdgesOf G c (take i row ++ e ∷ []) hs) (sym (map-append edge_of fs (f ∷ [])) ∙ ap (map edge_of) (sym is))
        (put_last (InComponent G c.root) (IsEdgeOf G c) (take i row) (map edge_of fs) e (edge_of f) k
        (found_in G c h e.from (edge G g s c h e inside some).from some g) w))

    pub more_narrow : AreNarrow G c.root (take i row) → AreNarrow G c.root (take (i + 1) row)
    more_narrow k =
        rw next (narrow_more G c.root (take i row) e k
        (λ t. ((edge_of f).shift, shift_is G g s c h e inside some (edge_of f).shift w.written.dimension w.written.shift, w.small)))

  module _ (none : ¬ IsSome (walk_to c.found e.from)) where
    -- an edge of another one
    pub same_written : (fs next_fs : List RawEdge) → next_fs ≡ fs → AreEdgesOf G c (take i row) (map edge_of fs)
        → AreEdgesOf G c (take (i + 1) row) (map edge_of next_fs)
    same_written fs gs is k =
        rw next (rw is (passed_over (InComponent G c.root) (IsEdgeOf G c) (take i row) (map edge_of fs) e k (λ t. none (in_found G c h e.from t g))))

    pub same_narrow : AreNarrow G c.root (take i row) → AreNarrow G c.root (take (i + 1) row)
    same_narrow k = subst (AreNarrow G c.root) (sym next) (narrow_more G c.root (take i row) e k (λ t. absurd (none (in_found G c h e.from t g))))

-- A graph has one fault.

-- no part of a small vector is wide
pub not_wide : (k : Vector) (c : ℕ) (value : ℤ) → IsWithin most_shift k → ¬ IsFirstWide k c value
not_wide k zero value w h = let l = h.place.0 in omega (arith, l)
not_wide k (suc zero) value w h = let p = h.past in let e = ap unsigned_abs h.is in let b = w.0 in omega (arith, p, e, b)
not_wide k (suc (suc zero)) value w h = let p = h.past in let e = ap unsigned_abs h.is in let b = w.1 in omega (arith, p, e, b)
not_wide k (suc (suc (suc zero))) value w h = let p = h.past in let e = ap unsigned_abs h.is in let b = w.2 in omega (arith, p, e, b)
not_wide k (suc (suc (suc (suc c)))) value w h = let l = h.place.1 in omega (arith, l)

-- the first wide part stands in one place
one_place : (k : Vector) (c c' : ℕ) (value value' : ℤ) → IsFirstWide k c value → IsFirstWide k c' value' → c ≡ c'
one_place k c c' value value' h h' = grind (arith, three_ways, earlier)

module _ (G : Graph) (g : IsGraph G) where
  -- an edge has one shift in the graph of its component
  pub one_shift : (a : ℕ) (e : Arc) (k l : Vector) → IsShiftIn G a e k → IsShiftIn G a e l → k ≡ l
  one_shift a e k l h j =
      let same = one_stair G g a h.stairs j.stairs h.full j.full in
      let there = ap path_shift (one_chosen G a e.from h.there j.there h.is_there j.is_there) in
      let back = ap path_shift (one_chosen G a e.to h.back j.back h.is_back j.is_back) in
      sum_once G.dimension h.stairs h.full.shape k l
      (h.coordinates ∙ (λ i. minus (plus (there i) e.shift) (back i)) ∙ sym j.coordinates ∙ ap (λ S. base_sum (stair_base S) l) (sym same))

  -- so it is not both wide and within the limit
  wide_or_narrow : (a : ℕ) (e : Arc) (c : ℕ) (value : ℤ) → IsWideAt G a e c value → (k : Vector) → IsShiftIn G a e k → ¬ IsWithin most_shift k
  wide_or_narrow a e c value w k h small = not_wide w.k c value (subst (IsWithin most_shift) (one_shift a e k w.k h w.shift) small) w.first

  module _ (u v u' v' : ℕ) (s s' : Vector) (c c' : ℕ) (value value' : ℤ) (w : IsWideShift G u v s c value) (x : IsWideShift G u' v' s' c' value') where
    -- the component of the one is not before that of the other
    not_earlier : ¬ (w.root < x.root)
    not_earlier l =
        let e = arc u v s in
        let n = x.earlier w.root w.least l e (contains_from_in G.edges e
        (subst (λ es. IsIn es e) (sym w.wide.edges) (append_right w.wide.before (e ∷ w.wide.after) e (inl refl)))) w.wide.wide.shift.tail in
        wide_or_narrow w.root e c value w.wide.wide n.0 n.1 n.2

  -- two wide shifts are one
  pub one_wide : (u v u' v' : ℕ) (s s' : Vector) (c c' : ℕ) (value value' : ℤ) → IsWideShift G u v s c value → IsWideShift G u' v' s' c' value'
      → WideShift u v s c value ≡ WideShift u' v' s' c' value'
  one_wide u v u' v' s s' c c' value value' w x = by (three_ways w.root x.root)
    where
      same : w.root ≡ x.root → WideShift u v s c value ≡ WideShift u' v' s' c' value'
      same r =
          let e = arc u v s in let e' = arc u' v' s' in
          let wide' : IsWideAt G w.root e' c' value' = subst (λ a. IsWideAt G a e' c' value') (sym r) x.wide.wide in
          let missed = λ (i : IsIn w.wide.before e'). let n = w.wide.narrow e' (contains_from_in w.wide.before e' i) wide'.shift.tail in
          wide_or_narrow w.root e' c' value' wide' n.0 n.1 n.2 in
          let missed' = λ (i : IsIn x.wide.before e). let n = x.wide.narrow e (contains_from_in x.wide.before e i)
          (subst (λ a. IsWideAt G a e c value) r w.wide.wide).shift.tail in
          wide_or_narrow x.root e c value (subst (λ a. IsWideAt G a e c value) r w.wide.wide) n.0 n.1 n.2 in
          let one : e ≡ e' = split_once w.wide.before x.wide.before w.wide.after x.wide.after e e' (sym w.wide.edges ∙ x.wide.edges) missed missed' in
          let k = one_shift w.root e w.wide.wide.k wide'.k w.wide.wide.shift (subst (λ f. IsShiftIn G w.root f wide'.k) (sym one) wide'.shift) in
          let first = subst (λ k. IsFirstWide k c' value') (sym k) wide'.first in
          let place = one_place w.wide.wide.k c c' value value' w.wide.wide.first first in
          let number = w.wide.wide.first.is ∙ ap (λ n. part (n - 1) w.wide.wide.k) place ∙ sym first.is in
          λ i. WideShift (one i).from (one i).to (one i).shift (place i) (number i)

      by : (w.root < x.root) ⊎ ((x.root < w.root) ⊎ (w.root ≡ x.root)) → WideShift u v s c value ≡ WideShift u' v' s' c' value'
      by (inl l) = absurd (not_earlier u v u' v' s s' c c' value value' w x l)
      by (inr (inl l)) = absurd (not_earlier u' v' u v s' s c' c value' value x w l)
      by (inr (inr r)) = same r

  -- two components of low rank are not both the first
  not_first : (a b : ℕ) (c e : Vector) → IsLowRank G a c → IsLowRank G b e → ¬ (a < b)
  not_first a b c e h k l = let f = k.first a h.least l in flat_not_full G g a c f.0 h.flat f.1

  one_low : (a b : ℕ) (c e : Vector) → IsLowRank G a c → IsLowRank G b e → LowRank a c ≡ LowRank b e
  one_low a b c e h k = by (three_ways a b)
    where
      by : (a < b) ⊎ ((b < a) ⊎ (a ≡ b)) → LowRank a c ≡ LowRank b e
      by (inl l) = absurd (not_first a b c e h k l)
      by (inr (inl l)) = absurd (not_first b a e c k h l)
      by (inr (inr s)) =
          let n = one_normal G a c e h.flat (subst (λ x. IsLowRank G x e) (sym s) k).flat in
          λ i. LowRank (s i) (n i)

  -- no graph has both
  not_both : (a : ℕ) (n : Vector) (u v : ℕ) (s : Vector) (c : ℕ) (value : ℤ) → IsLowRank G a n → ¬ IsWideShift G u v s c value
  not_both a n u v s c value h w = let f = w.full a h.least in flat_not_full G g a n f.0 h.flat f.1

  -- two faults are one
  pub one_fault : (f f' : PartFault) → IsPartFault G f → IsPartFault G f' → f ≢ no_memory → f' ≢ no_memory → f ≡ f'
  one_fault NoMemory f' h h' some some' = absurd (some refl)
  one_fault f NoMemory h h' some some' = absurd (some' refl)
  one_fault (LowRank a c) (LowRank b e) h h' some some' = one_low a b c e h h'
  one_fault (LowRank a n) (WideShift u v s c value) h h' some some' = absurd (not_both a n u v s c value h h')
  one_fault (WideShift u v s c value) (LowRank a n) h h' some some' = absurd (not_both a n u v s c value h' h)
  one_fault (WideShift u v s c value) (WideShift u' v' s' c' value') h h' some some' = one_wide u v u' v' s s' c c' value value' h h'

-- the part of a component
part_at : (G : Graph) (ps : List Part) → AreParts G ps → (a : ℕ) → IsLeast G a → (p : Part) × IsIn ps p × IsPartOf G a p
part_at G ps h a least =
    let c = h.covers a least.vertex in
    let part = All-contains (λ p. IsPartOf G (root_of p) p) ps c.0 h.each c.1 in
    (c.0, is_in ps c.0 c.1, subst (λ b. IsPartOf G b c.0) (one_least G (root_of c.0) a part.part.least least c.2) part)

-- views rise where their parts do
views_rise : (ps : List Part) → IsRising (λ p q. root_of p < root_of q) ps → IsRising (λ v w. vertex_at v.vertices 1 < vertex_at w.vertices 1) (map view_of ps)
views_rise [] h = tt
views_rise (p ∷ ps) h = (
  (λ v i. let q = in_map view_of ps v i in subst (λ (w : PartView). root_of p < vertex_at w.vertices 1) q.2 (h.0 q.0 q.1)),
  views_rise ps h.1,
)

module _ (G : Graph) (g : IsGraph G) where
  -- each part of the one list is in the other
  in_other : (ps qs : List Part) → AreParts G ps → AreParts G qs → (v : PartView) → IsIn (map view_of ps) v → IsIn (map view_of qs) v
  in_other ps qs h k v i =
      let p = in_map view_of ps v i in
      let part = All-contains (λ p. IsPartOf G (root_of p) p) ps p.0 h.each (contains_from_in ps p.0 p.1) in
      let q = part_at G qs k (root_of p.0) part.part.least in
      subst (IsIn (map view_of qs)) (sym (one_part G g (root_of p.0) p.0 q.0 part q.2) ∙ p.2) (map_in view_of qs q.0 q.1)

  -- so the lists are one
  one_list : (ps qs : List Part) → AreParts G ps → AreParts G qs → map view_of ps ≡ map view_of qs
  one_list ps qs h k =
      same_rising (λ (v w : PartView). vertex_at v.vertices 1 < vertex_at w.vertices 1) (λ v l. omega (arith, l)) (λ u v w l m. omega (arith, l, m))
      (map view_of ps) (map view_of qs)
      (views_rise ps (rising_from_pairs (λ p q. root_of p < root_of q) ps h.rising))
      (views_rise qs (rising_from_pairs (λ p q. root_of p < root_of q) qs k.rising))
      (λ v. (in_other ps qs h k v, in_other qs ps k h v))

  -- an edge of a part has its shift in the graph of the part, which is within the limit
  part_shift : (a : ℕ) (p : Part) → IsPartOf G a p → (e : Arc) → IsIn G.edges e → InComponent G a e.from
      → (k : Vector) × IsShiftIn G a e k × IsWithin most_shift k
  part_shift a p h e i tail =
      let f = edge_written (InComponent G a) (IsWritten G.dimension (graph_view p.graph).vertices h.T (stair_base h.stairs) (vertex_at p.vertices)) G.edges
      (graph_view p.graph).edges h.part.edges e i tail in
      let head = subst (InComponent G a) f.2.to (h.part.vertices f.0.to f.2.to_number) in
      let there = h.chosen e.from tail in
      let back = h.chosen e.to head in (
        f.0.shift,
        record {
          tail = tail;
          there = there.0;
          is_there = there.1;
          back = back.0;
          is_back = back.1;
          stairs = h.stairs;
          full = h.part.full;
          dimension = f.2.dimension;
          coordinates = f.2.shift ∙ (λ t. minus (plus (sym there.2 t) e.shift) (sym back.2 t));
        },
        All-contains (λ (x : Arc). IsWithin most_shift x.shift) (graph_view p.graph).edges f.0 h.small.shifts
            (contains_from_in (graph_view p.graph).edges f.0 f.1),
      )

  -- a graph with parts has no fault
  no_fault : (ps : List Part) (f : PartFault) → AreParts G ps → IsPartFault G f → f ≡ no_memory
  no_fault ps NoMemory h k = refl
  no_fault ps (LowRank u c) h k = let p = part_at G ps h u k.least in absurd (flat_not_full G g u c p.2.stairs k.flat p.2.part.full)
  no_fault ps (WideShift u v s c value) h k =
      let e = arc u v s in let p = part_at G ps h k.root k.least in let w = k.wide.wide in
      let n = part_shift k.root p.0 p.2 e (subst (λ es. IsIn es e) (sym k.wide.edges) (append_right k.wide.before (e ∷ k.wide.after) e (inl refl)))
      w.shift.tail in
      absurd (not_wide w.k c value (subst (IsWithin most_shift) (one_shift G g k.root e n.0 w.k n.1 w.shift) n.2) w.first)

pub answer_is_one : AnswerIsOne
answer_is_one = record { parts = one_list; exclude = no_fault; fault = one_fault }
