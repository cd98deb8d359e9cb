-- The box of a search: bounds of its numbers, which vertex has which, the steps between them, and how far walks lead.
use Rattle.std.proofs.Common.{ℕ, ◌+◌, ◌*◌, ◌^◌, ◌<◌, ◌≤◌, arith, ◌≡◌, ◌⊎◌, inl, inr, ◌-◌, ℤ, pos, ◌+ℤ◌, ◌-ℤ◌, ◌*ℤ◌, refl, sym, ap, ◌∙◌, suc}
use Rattle.std.proofs.Common.{neg_ℤ, List, [], ◌∷◌, ◌++◌, length, get_or, set, map, replicate, drop, Vec, Global, Bool, true, false, cond, subst}
use Rattle.std.proofs.Common.{append_assoc, append-nil, drop-cons, zero, ◌≤ℤ◌}
use Rattle.std.proofs.lemmas.List.{get_or_default, drop_all, get_or-map, get_or-replicate, get_or-set_other, get_or-set_same, length-replicate, length-set}
use Rattle.std.proofs.lemmas.List.{map-set}
use Rattle.std.{proofs.Math.Nat.mul-le-mul, proofs.Math.Nat.mul-le-mul_left, proofs.lemmas.Int.ints}
use Rattle.std.{proofs.lemmas.Bool.cases_eq, specs.Prelude.unsigned_abs, specs.Prelude.◌==◌}
use Rattle.integers.specs.Vectors.{minus, Vector, zero_vector}
use Rattle.integers.proofs.lists.Members.{IsIn, contains_from_in, is_in, all_at, all_from_in}
use Rattle.integers.proofs.{numbers.Ring.ring, numbers.Ring.linear, numbers.Order.three_ways, numbers.Order.before_or_at, vectors.Laws.vector_equal}
use Rattle.integers.proofs.{vectors.Laws.zero_plus}
use Rattle.periodic_net.specs.Graph.{arc, Vertex, vertex, Graph, IsEdge, IsQuotientVertex, Arc, reverse_of, IsGraph, arcs, IsArc, AreJoined}
use Rattle.periodic_net.specs.Graph.{IsWalk}
use Rattle.periodic_net.proofs.CallerLemmas.{edge_in, end_joined, end_of, arc_inside, either_way, joined_turned}
use Rattle.coordination.specs.Boxes.{side, above, IsInside, size_of, place_in, growth_of, AreStepsFromVertices, step_of, steps_from, with_edge, with_step}
use Rattle.coordination.specs.Extents.{AreShiftsWithin, IsCellWithin, IsExtent}
use Rattle.coordination.specs.Far.{part_of, far_of, AreAtMost, IsRaised, AreFarther, AreFarAfter, IsFarthest}
use Rattle.coordination.specs.declared.far.Axis.TheVariants.{X, Y, Z}
use Rattle.coordination.proofs.Layers.{and_on, Leads, leads_of, walk_of}
use Rattle.coordination.specs.declared.{extent.Extent.Extent, extent.TheConstants.LONGEST, spot.Step.Step, far.Axis.Axis}

-- the size is far below 2^64
pub size_small : (n x y z : ℕ) → n ≤ 512 → x ≤ 20001 → y ≤ 20001 → z ≤ 20001 → n * (x * (y * z)) < 2 ^ 60
size_small n x y z h a b c =
    let p : n * (x * (y * z)) ≤ 512 * (20001 * (20001 * 20001)) = mul-le-mul h (mul-le-mul a (mul-le-mul b c)) in
    omega (arith, p)

-- and so is the number of the origin
pub origin_small : (n x y a b c : ℕ) → n ≤ 512 → x ≤ 20001 → y ≤ 20001 → a ≤ 10000 → b ≤ 10000 → c ≤ 10000 → n * (a + x * (b + y * c)) < 2 ^ 60
origin_small n x y a b c h k l p q r =
    let rows : y * c ≤ 20001 * 10000 = mul-le-mul l r in
    let sum : b + y * c ≤ 10000 + 20001 * 10000 = omega (arith, rows, q) in
    let cells : x * (b + y * c) ≤ 20001 * (10000 + 20001 * 10000) = mul-le-mul k sum in
    let more : a + x * (b + y * c) ≤ 10000 + 20001 * (10000 + 20001 * 10000) = omega (arith, cells, p) in
    let all : n * (a + x * (b + y * c)) ≤ 512 * (10000 + 20001 * (10000 + 20001 * 10000)) = mul-le-mul h more in
    omega (arith, all)

-- a sum of a part and a product
pub weighed_small : (t p w v a m b : ℕ) → t ≤ p + w * v → p ≤ a → w ≤ m → v ≤ b → t ≤ a + m * b
weighed_small t p w v a m b h i j k = let q : w * v ≤ m * b = mul-le-mul j k in omega (arith, h, q, i)

-- The numbers of the vertices of a box: each is below the size, no two are one, and along an arc the number grows as the step says.

-- a + n·b is below n·m
below : (n a b m : ℕ) → a < n → b < m → a + n * b < n * m
below n a b m h k = let l = mul-le-mul_left n (let s : b + 1 ≤ m = omega arith in s) in omega (arith, l)

-- the greater of two quotients makes the greater number
no_less : (n a b a' b' : ℕ) → a < n → b < b' → a + n * b ≡ a' + n * b' → ⊥
no_less n a b a' b' h k e = let l = mul-le-mul_left n (let s : b + 1 ≤ b' = omega arith in s) in omega (arith, l, e)

-- the number determines remainder and quotient
digits_once : (n a b a' b' : ℕ) → a < n → a' < n → a + n * b ≡ a' + n * b' → (a ≡ a') × (b ≡ b')
digits_once n a b a' b' h h' e = by (three_ways b b')
  where
    by : (b < b') ⊎ ((b' < b) ⊎ (b ≡ b')) → (a ≡ a') × (b ≡ b')
    by (inl l) = absurd (no_less n a b a' b' h l e)
    by (inr (inl l)) = absurd (no_less n a' b' a b h' l (sym e))
    by (inr (inr q)) = let m = ap (λ t. n * t) q in (omega (arith, m, e), q)

-- how far a part lies above -n, as a sum
pub above_is : (n : ℕ) (s : ℤ) → unsigned_abs s ≤ n → pos (above n s) ≡ s +ℤ pos n
above_is n s h = search arith

-- it is below the number of cells
above_below : (n : ℕ) (s : ℤ) → unsigned_abs s ≤ n → above n s < side n
above_below n s h = let e = above_is n s h in omega (arith, ints, e, h)

-- and determines the part
above_once : (n : ℕ) (s t : ℤ) → unsigned_abs s ≤ n → unsigned_abs t ≤ n → above n s ≡ above n t → s ≡ t
above_once n s t h k e = grind (arith, above_is)

module _ (n : ℕ) (r : Extent) where
  -- the number is below the size
  pub place_below : (x : Vertex) → IsInside n r x → place_in n r x < size_of n r
  place_below x h =
      let low = h.low in let high = h.high in
      below n (x.over - 1) _ (side r.x * (side r.y * side r.z)) (omega arith)
      (below (side r.x) (above r.x x.cell.x) _ (side r.y * side r.z) (above_below r.x x.cell.x h.cell.x)
      (below (side r.y) (above r.y x.cell.y) (above r.z x.cell.z) (side r.z) (above_below r.y x.cell.y h.cell.y) (above_below r.z x.cell.z h.cell.z)))

  -- and determines the vertex
  pub place_once : (x y : Vertex) → IsInside n r x → IsInside n r y → place_in n r x ≡ place_in n r y → x ≡ y
  place_once x y h k e =
      let low = h.low in let high = h.high in let low' = k.low in let high' = k.high in
      let first = digits_once n (x.over - 1) _ (y.over - 1) _ (omega arith) (omega arith) e in
      let second = digits_once (side r.x) (above r.x x.cell.x) _ (above r.x y.cell.x) _ (above_below r.x x.cell.x h.cell.x)
      (above_below r.x y.cell.x k.cell.x) first.1 in
      let third = digits_once (side r.y) (above r.y x.cell.y) (above r.z x.cell.z) (above r.y y.cell.y) (above r.z y.cell.z)
      (above_below r.y x.cell.y h.cell.y) (above_below r.y y.cell.y k.cell.y) second.1 in
      let over : x.over ≡ y.over = let f = first.0 in omega (arith, f) in
      let cell = vector_equal {v = x.cell} {w = y.cell} (above_once r.x x.cell.x y.cell.x h.cell.x k.cell.x second.0)
      (above_once r.y x.cell.y y.cell.y h.cell.y k.cell.y third.0)
      (above_once r.z x.cell.z y.cell.z h.cell.z k.cell.z third.1) in
      λ i. vertex (over i) (cell i)

-- a + n·b as a whole number
pos_digits : (a n b : ℕ) → pos (a + n * b) ≡ pos a +ℤ pos n *ℤ pos b
pos_digits a n b = cc

-- the number of a vertex whose class is o, at x, y and z, if n, sides and greatest parts are given
abbrev number : (n A B a b c o x y z : ℤ) → ℤ
number n A B a b c o x y z = (o -ℤ pos 1) +ℤ n *ℤ ((x +ℤ a) +ℤ A *ℤ ((y +ℤ b) +ℤ B *ℤ (z +ℤ c)))

-- it grows by as much as the step says
number_grows : (n A B a b c o x y z o' x' y' z' : ℤ)
    → number n A B a b c o x y z +ℤ ((o' -ℤ o) +ℤ n *ℤ ((x' -ℤ x) +ℤ A *ℤ ((y' -ℤ y) +ℤ B *ℤ (z' -ℤ z)))) ≡ number n A B a b c o' x' y' z'
number_grows n A B a b c o x y z o' x' y' z' = simp ring (omega (arith, linear))

module _ (n : ℕ) (r : Extent) where
  -- the number, as a whole number
  place_is : (x : Vertex) → IsInside n r x → pos (place_in n r x)
      ≡ number (pos n) (pos (side r.x)) (pos (side r.y)) (pos r.x) (pos r.y) (pos r.z) (pos x.over) x.cell.x x.cell.y x.cell.z
  place_is x h = grind (arith, pos_digits, above_is)

  -- along an arc the number grows as the step says
  pub place_grows : (x y : Vertex) → IsInside n r x → IsInside n r y
      → pos (place_in n r x) +ℤ growth_of n r (arc x.over y.over (minus y.cell x.cell)) ≡ pos (place_in n r y)
  place_grows x y h k = simp (place_is, number_grows)

-- The steps from a vertex, edge by edge.

-- a list with one step more, if it starts here
abbrev pub star_with : List Step → Bool → Step → List Step
star_with star here t = cond here (star ++ t ∷ []) star

-- a list with the steps along e, both ways, that start at u
abbrev pub star_along : List Step → ℕ → Extent → Arc → ℕ → List Step
star_along star n r e u = star_with (star_with star (e.from == u) (step_of n r e)) (e.to == u) (step_of n r (reverse_of e))

-- a list that was added to, and what follows
added : {A : Type 0} (b : Bool) (xs zs : List A) (x : A) → cond b (xs ++ x ∷ []) xs ++ zs ≡ xs ++ cond b (x ∷ zs) zs
added true xs zs x = append_assoc xs (x ∷ []) zs
added false xs zs x = refl

-- a map of what was kept
kept : {A B : Type 0} (f : A → B) (b : Bool) (xs : List A) (x : A) → map f (cond b (x ∷ xs) xs) ≡ cond b (f x ∷ map f xs) (map f xs)
kept f b xs x = search arith

-- along the reverse of an arc the number falls by as much
growth_back : (n : ℕ) (r : Extent) (e : Arc) → growth_of n r (reverse_of e) ≡ neg_ℤ (growth_of n r e)
growth_back n r e = simp ring (omega (arith, linear))

module _ (n : ℕ) (r : Extent) (u : ℕ) where
  -- the steps along an edge, both ways, and those along others
  edge_steps : (e : Arc) (es : List Arc) (star : List Step) → star_along star n r e u ++ steps_from n r u es ≡ star ++ steps_from n r u (e ∷ es)
  edge_steps e es star = grind (arith, added)

  -- a turn of the loop
  pub star_more : (es items : List Arc) (i : ℕ) (star more all : List Step) (e : Arc) → items ≡ es → i < length items → e ≡ get_or items i e
      → more ≡ star_along star n r e u
      → star ++ steps_from n r u (drop i es) ≡ all → more ++ steps_from n r u (drop (i + 1) es) ≡ all
  star_more es items i star more all e same l s q h =
      ap (λ (ts : List Step). ts ++ steps_from n r u (drop (i + 1) es)) q ∙ edge_steps e (drop (i + 1) es) star
      ∙ ap (λ (fs : List Arc). star ++ steps_from n r u fs) (sym split) ∙ h
    where
      split : drop i es ≡ e ∷ drop (i + 1) es
      split =
          let one : suc i ≡ i + 1 = omega arith in
          let here : e ≡ get_or es i e = subst (λ (fs : List Arc). e ≡ get_or fs i e) same s in
          drop-cons es i e (subst (λ (fs : List Arc). i < length fs) same l) ∙ ap (λ (j : ℕ). get_or es i e ∷ drop j es) one
          ∙ ap (λ (f : Arc). f ∷ drop (i + 1) es) (sym here)

-- the list of vertex c once a step was put last in that of u
step_at : (stars : List (List Step)) (u c : ℕ) (t : Step) → 1 ≤ u → u ≤ length stars → 1 ≤ c
    → get_or (with_step stars u t) (c - 1) [] ≡ star_with (get_or stars (c - 1) []) (u == c) t
step_at stars u c t l h k = grind (arith, cases_eq, get_or-set_same, get_or-set_other)

-- a list for each vertex, to which the steps along these edges are still to be put
pub record AreStepsBut (P : Graph) (r : Extent) (rest : List Arc) (stars : List (List Step)) : Type 0 where
  pub count : length stars ≡ P.vertices
  pub each : (c : ℕ) → IsQuotientVertex P c → get_or stars (c - 1) [] ++ steps_from P.vertices r c rest ≡ steps_from P.vertices r c P.edges

module _ (P : Graph) (r : Extent) where
  -- lists without steps
  pub stars_start : (stars : List (List Step)) → stars ≡ replicate P.vertices [] → AreStepsBut P r P.edges stars
  stars_start stars e = record {
    count = ap length e ∙ length-replicate P.vertices [];
    each = λ c i.
        let inside : c - 1 < P.vertices = omega (arith, i.0, i.1) in
        ap (λ (ss : List (List Step)). get_or ss (c - 1) [] ++ steps_from P.vertices r c P.edges) e
        ∙ ap (λ (ts : List Step). ts ++ steps_from P.vertices r c P.edges) (get_or-replicate P.vertices (c - 1) [] [] inside);
  }

  module _ (items : List Arc) (same : items ≡ P.edges) (i : ℕ) (stars : List (List Step)) (h : AreStepsBut P r (drop i P.edges) stars) where
    -- a turn of the loop
    pub stars_turn : (e : Arc) → i < length items → e ≡ get_or items i e → IsEdge P e → AreStepsBut P r (drop (i + 1) P.edges) (with_edge stars P.vertices r e)
    stars_turn e l is edge = record {
      count = length-set once (e.to - 1) (get_or once (e.to - 1) [] ++ step_of P.vertices r (reverse_of e) ∷ []) ∙ length_once ∙ h.count;
      each = λ c q. star_more P.vertices r c P.edges items i (get_or stars (c - 1) []) (get_or (with_edge stars P.vertices r e) (c - 1) [])
          (steps_from P.vertices r c P.edges) e same l is (twice c q) (h.each c q);
    }
      where
        once : List (List Step)
        once = with_step stars e.from (step_of P.vertices r e)

        length_once : length once ≡ length stars
        length_once = length-set stars (e.from - 1) (get_or stars (e.from - 1) [] ++ step_of P.vertices r e ∷ [])

        twice : (c : ℕ) → IsQuotientVertex P c → get_or (with_edge stars P.vertices r e) (c - 1) [] ≡ star_along (get_or stars (c - 1) []) P.vertices r e c
        twice c q = grind (arith, step_at, once, length_once)

    -- all edges were passed
    pub stars_end : length items ≤ i → AreStepsFromVertices P r stars
    stars_end l = search (arith, append-nil, drop_all)

-- a step put last in one list, seen in what the lists hold
pub step_put : (stars : List (Vec Step Global)) (u : ℕ) (d new : Vec Step Global) (t : Step) → u - 1 < length stars
    → new.items ≡ (get_or stars (u - 1) d).items ++ t ∷ []
    → map (λ (star : Vec Step Global). star.items) (set stars (u - 1) new) ≡ with_step (map (λ (star : Vec Step Global). star.items) stars) u t
step_put stars u d new t l e = grind (arith, map-set, get_or-map)

-- an edge, as the calls put it
pub edge_put : (n : ℕ) (r : Extent) (stars once : List (List Step)) (e : Arc) (from to : ℕ) (s : Vector) (by back : ℤ) → arc from to s ≡ e
    → by ≡ growth_of n r e → back ≡ neg_ℤ by
    → once ≡ with_step stars from (record { to = to; by = by }) → with_step once to (record { to = from; by = back }) ≡ with_edge stars n r e
edge_put n r stars once e from to s by back view b k o = grind (arith, once, growth_back)

-- An extent of the shells of all vertices has the shifts of the edges within.

-- one step leads along each edge
pub shifts_within : (P : Graph) (r : Extent) → IsGraph P → IsExtent P r → AreShiftsWithin P.edges r
shifts_within P r g h = all_from_in (λ (e : Arc). IsCellWithin r e.shift) P.edges each
  where
    each : (e : Arc) → IsIn P.edges e → IsCellWithin r e.shift
    each e i =
        let edge = all_at (IsEdge P) P.edges e g.edges (contains_from_in P.edges e i) in
        let w = vertex e.from zero_vector in
        let joined = end_joined P w e (contains_from_in (arcs P) e (edge_in P.edges e i)) refl in
        subst (λ (s : Vector). IsCellWithin r s) (zero_plus e.shift) (h e.from 1 (end_of w e) edge.from (omega arith) (end_of w e ∷ [], refl, (joined, refl)))

-- what is at most a number is at most any that is no less
at_most_more : (a : ℤ) (m n : ℕ) → a ≤ℤ pos m → m ≤ n → a ≤ℤ pos n
at_most_more a m n h l = omega (arith, ints)

-- both ways along one edge more
pub farther_more : (axis : Axis) (i : ℕ) (edges : List Arc) (far next0 next1 next2 next3 : List ℕ) (e : Arc) (a b : ℤ)
    → AreFarther axis i edges far next0 next1 → i < length edges → e ≡ get_or edges i e
    → IsRaised next1 e.from a next2 → a ≡ pos (far_of far e.to) +ℤ part_of axis e.shift → IsRaised next2 e.to b next3
    → b ≡ pos (far_of far e.from) -ℤ part_of axis e.shift
    → unsigned_abs (part_of axis e.shift) ≤ LONGEST → AreFarther axis (i + 1) edges far next0 next3
farther_more axis i edges far next0 next1 next2 next3 e a b h l s r p q t w = record {
  count = q.count ∙ r.count ∙ h.count;
  no_less = λ k. let x = h.no_less k in let y = r.no_less k in let z = q.no_less k in omega (arith, x, y, z);
  forth = λ k d c n. forth k d n (before_or_at k i c);
  back = λ k d c n. back k d n (before_or_at k i c);
  bound = λ m f n.
      let o = f (e.to - 1) in let o' = f (e.from - 1) in
      q.bound (m + LONGEST) (r.bound (m + LONGEST) (h.bound m f n) (part (far_of far e.to) m a p o)) (part' (far_of far e.from) m b t o');
}
  where
    here : (k : ℕ) (d : Arc) → k < length edges → k ≡ i → get_or edges k d ≡ e
    here k d n o = ap (λ j. get_or edges j d) o ∙ get_or_default edges i d e l ∙ sym s

    forth : (k : ℕ) (d : Arc) → k < length edges → (k < i) ⊎ (k ≡ i) → (pos (far_of far (get_or edges k d).to) +ℤ part_of axis (get_or edges k d).shift) ≤ℤ pos
        (far_of next3 (get_or edges k d).from)
    forth k d n (inl c) =
        let u = (get_or edges k d).from - 1 in let x = r.no_less u in let y = q.no_less u in
        at_most_more _ (get_or next1 u 0) (get_or next3 u 0) (h.forth k d c n) (omega (arith, x, y))
    forth k d n (inr o) = subst (λ (f : Arc). (pos (far_of far f.to) +ℤ part_of axis f.shift) ≤ℤ pos (far_of next3 f.from)) (sym (here k d n o))
        (at_most_more _ (far_of next2 e.from) (far_of next3 e.from) (subst (λ (z : ℤ). z ≤ℤ pos (far_of next2 e.from)) p r.raised) (q.no_less (e.from - 1)))

    back : (k : ℕ) (d : Arc) → k < length edges → (k < i) ⊎ (k ≡ i)
        → (pos (far_of far (get_or edges k d).from) -ℤ part_of axis (get_or edges k d).shift) ≤ℤ pos (far_of next3 (get_or edges k d).to)
    back k d n (inl c) =
        let u = (get_or edges k d).to - 1 in let x = r.no_less u in let y = q.no_less u in
        at_most_more _ (get_or next1 u 0) (get_or next3 u 0) (h.back k d c n) (omega (arith, x, y))
    back k d n (inr o) = rw (here k d n o) (subst (λ (z : ℤ). z ≤ℤ pos (far_of next3 e.to)) t q.raised)

    part : (n m : ℕ) (z : ℤ) → z ≡ pos n +ℤ part_of axis e.shift → n ≤ m → z ≤ℤ pos (m + LONGEST)
    part n m z f g = omega (arith, ints, f, w)

    part' : (n m : ℕ) (z : ℤ) → z ≡ pos n -ℤ part_of axis e.shift → n ≤ m → z ≤ℤ pos (m + LONGEST)
    part' n m z f g = omega (arith, ints, f, w)

-- a turn of the loop, as the calls made it
pub farther_turn : (axis : Axis) (i : ℕ) (edges : List Arc) (far next0 next1 next2 next3 : List ℕ) (e : Arc) (u v : ℕ) (s t : Vector) (part a b : ℤ)
    → AreFarther axis i edges far next0 next1 → i < length edges
    → e ≡ get_or edges i e → arc u v s ≡ e → t ≡ s → part ≡ part_of axis t → unsigned_abs part ≤ LONGEST → IsRaised next1 u a next2
    → a ≡ pos (far_of far v) +ℤ part → IsRaised next2 v b next3
    → b ≡ pos (far_of far u) -ℤ part → AreFarther axis (i + 1) edges far next0 next3
farther_turn axis i edges far next0 next1 next2 next3 e u v s t part a b h l is view k p w r f q n =
    farther_more axis i edges far next0 next1 next2 next3 e a b h l is
    (subst (λ (g : Arc). IsRaised next1 g.from a next2) view r) (f ∙ (λ j. pos (far_of far (view j).to) +ℤ same j))
    (subst (λ (g : Arc). IsRaised next2 g.to b next3) view q) (n ∙ (λ j. pos (far_of far (view j).from) -ℤ same j))
    (subst (λ (z : ℤ). unsigned_abs z ≤ LONGEST) same w)
  where
    same : part ≡ part_of axis e.shift
    same = p ∙ ap (part_of axis) (k ∙ (λ j. (view j).shift))

-- a part of a difference of cells
part_minus : (axis : Axis) (v w : Vector) → part_of axis (minus v w) ≡ part_of axis v -ℤ part_of axis w
part_minus axis v w = search arith

-- and of a shift that is taken back
part_back : (axis : Axis) (e : Arc) → part_of axis (reverse_of e).shift ≡ neg_ℤ (part_of axis e.shift)
part_back axis e = search arith

module _ (P : Graph) (g : IsGraph P) (axis : Axis) where
  -- along each arc as along the edges
  along_arcs : (far next next' : List ℕ) → AreFarther axis (length P.edges) P.edges far next next' → (a : Arc) → IsArc P a
      → (pos (far_of far a.to) +ℤ part_of axis a.shift) ≤ℤ pos (far_of next' a.from)
  along_arcs far next next' h a i = by (either_way P.edges a (is_in (arcs P) a i))
    where
      by : IsIn P.edges a ⊎ IsIn P.edges (reverse_of a) → (pos (far_of far a.to) +ℤ part_of axis a.shift) ≤ℤ pos (far_of next' a.from)
      by (inl j) = let c = contains_from_in P.edges a j in subst (λ (e : Arc). (pos (far_of far e.to) +ℤ part_of axis e.shift) ≤ℤ pos (far_of next' e.from))
          c.2 (h.forth c.0 a c.1 c.1)
      by (inr j) =
          let e = reverse_of a in let c = contains_from_in P.edges e j in
          let t = subst (λ (f : Arc). (pos (far_of far f.from) -ℤ part_of axis f.shift) ≤ℤ pos (far_of next' f.to)) c.2 (h.back c.0 e c.1 c.1) in
          sign (pos (far_of far a.to)) (part_of axis e.shift) (part_of axis a.shift) (pos (far_of next' a.from)) (part_back axis a) t
        where
          sign : (n s t m : ℤ) → s ≡ neg_ℤ t → (n -ℤ s) ≤ℤ m → (n +ℤ t) ≤ℤ m
          sign n s t m e h = omega (arith, ints, e, h)

  -- one round more
  pub far_after_more : (n : ℕ) (far next : List ℕ) → AreFarAfter P axis n far → AreFarther axis (length P.edges) P.edges far far next
      → AreFarAfter P axis (n + 1) next
  far_after_more n far next h f = record {
    count = f.count ∙ h.count;
    walks = λ k w x l i s. walks w x i s.0 (omega (arith, s.1, l)) s.2;
    bound = λ i. let b = f.bound (n * LONGEST) h.bound (λ j. let c = h.bound j in omega (arith, c)) i in omega (arith, b);
  }
    where
      join : (x v w : ℤ) (m k : ℕ) → (x -ℤ v) ≤ℤ pos m → (pos m +ℤ (v -ℤ w)) ≤ℤ pos k → (x -ℤ w) ≤ℤ pos k
      join x v w m k a b = omega (arith, ints, a, b)

      walks : (w x : Vertex) → IsQuotientVertex P w.over → (vs : List Vertex) → length vs ≤ n + 1 → IsWalk P w vs x
          → (part_of axis x.cell -ℤ part_of axis w.cell) ≤ℤ pos (far_of next w.over)
      walks w x i [] l k = at_most_more _ (far_of far w.over) (far_of next w.over) (h.walks 0 w x (omega arith) i ([], refl, k)) (f.no_less (w.over - 1))
      walks w x i (v ∷ vs) l k =
          let a = arc w.over v.over (minus v.cell w.cell) in let to = (arc_inside P g a k.0).to in
          let rest = h.walks (length vs) v x (omega (arith, l)) to (vs, refl, k.1) in
          let first = rw (part_minus axis v.cell w.cell) at (along_arcs far far next f a k.0) in
          join (part_of axis x.cell) (part_of axis v.cell) (part_of axis w.cell) (far_of far v.over) (far_of next w.over) rest first

-- a walk can be gone back
leads_back : (P : Graph) (k : ℕ) (w x : Vertex) → Leads (AreJoined P) k w x → Leads (AreJoined P) k x w
leads_back P zero w x l = sym l
leads_back P (suc k) w x l = and_on (AreJoined P) k x l.0 w (leads_back P k l.0 x l.2) (joined_turned P w l.0 l.1)

-- a walk of steps leads to a vertex of the graph
leads_inside : (P : Graph) → IsGraph P → (k : ℕ) (w x : Vertex) → IsQuotientVertex P w.over → Leads (AreJoined P) k w x → IsQuotientVertex P x.over
leads_inside P g zero w x i l = subst (λ (v : Vertex). IsQuotientVertex P v.over) l i
leads_inside P g (suc k) w x i l = leads_inside P g k l.0 x (arc_inside P g (arc w.over l.0.over (minus l.0.cell w.cell)) l.1).to l.2

-- the greatest number bounds all walks, one way and the other
pub farthest_of : (P : Graph) → IsGraph P → (axis : Axis) (far : List ℕ) (m : ℕ) → AreFarAfter P axis 10 far → AreAtMost m far → IsFarthest P axis m
farthest_of P g axis far m h a k w x l i s =
    let there = at_most_more _ (far_of far w.over) m (h.walks k w x l i s) (a (w.over - 1)) in
    let leads = leads_of P k w x s in let j = leads_inside P g k w x i leads in
    let back = at_most_more _ (far_of far x.over) m (h.walks k x w l j (walk_of P k x w (leads_back P k w x leads))) (a (x.over - 1)) in
    both (part_of axis x.cell) (part_of axis w.cell) there back
  where
    both : (s t : ℤ) → (s -ℤ t) ≤ℤ pos m → (t -ℤ s) ≤ℤ pos m → unsigned_abs (s -ℤ t) ≤ m
    both s t p q = omega (arith, ints, p, q)

-- the bounds along the axes make an extent
pub farthest_extent : (P : Graph) (r : Extent) → IsFarthest P X r.x → IsFarthest P Y r.y → IsFarthest P Z r.z → IsExtent P r
farthest_extent P r x y z c k v i l s =
    let w = vertex c zero_vector in
    record { x = part v.cell.x r.x (x k w v l i s); y = part v.cell.y r.y (y k w v l i s); z = part v.cell.z r.z (z k w v l i s) }
  where
    part : (s : ℤ) (m : ℕ) → unsigned_abs (s -ℤ pos 0) ≤ m → unsigned_abs s ≤ m
    part s m h = omega (arith, ints, h)
