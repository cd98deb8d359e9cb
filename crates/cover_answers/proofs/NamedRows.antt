-- The vertices and the edges that rows give, the nearest first, of which no row repeats one. A graph with its vertices renumbered is isomorphic to it.
use Rattle.std.proofs.Common.{◌≡◌, inl, inr, ℕ, ◌+◌, ◌-◌, ◌<◌, ◌≤◌, ◌^◌, ◌==◌, ◌||◌, not, Bool, true, cond, List, [], ◌∷◌, length, map, get_or, refl}
use Rattle.std.proofs.Common.{sym, ap, subst, ◌∙◌, arith, ◌⊎◌, ℤ, pos, ◌-ℤ◌, neg_ℤ, false}
use Rattle.std.proofs.lemmas.Bool.{and_parts, and_from, cases_Bool}
use Rattle.std.proofs.{lemmas.List.map-append, lemmas.Fmt.decimal_injective, lemmas.Slice.Eq.bytes_eq-Decides, lemmas.Int.ints}
use Rattle.std.proofs.{lemmas.Bool.Decides.Decides-eqb, lemmas.Bool.Decides.Decides-int_eq}
use Rattle.std.specs.{Bool.Decides, Ordering.int_eq, Str.bytes_eq, Fmt.decimal, List.list_any, List.position_or_len}
use Rattle.integers.proofs.lists.Members.{IsIn, AreApart, contains_from_in, is_in, in_at}
use Rattle.integers.proofs.{counting.Numbering.no_more, vectors.Laws.unit_base, vectors.Laws.unit_sum}
use Rattle.periodic_net.specs.Graph.{Arc, Graph, arc, reverse_of, IsArc, IsQuotientVertex, Vertex, vertex, IsVertex, IsNormalSpelling}
use Rattle.periodic_net.specs.Maps.{Iso, IsPeriodic}
use Rattle.cgd_read.specs.Edges.{with_new, vertices_of, vertex_number, row_edge, same_edge, edges_of, is_repeat, repeats_of}
use Rattle.cgd_read.specs.Spelling.{normal, is_forward, spelled, edge_of}
use Rattle.cgd_read.specs.{Lines.FieldsView, declared.edge.RawEdge.RawEdge}
use Rattle.integers.specs.Vectors.{Vector, minus, HasDimension}
use Rattle.periodic_net.proofs.CallerLemmas.{arc_turned, reverse_twice, one_spelling}
use Rattle.key_theory.proofs.CallerLemmas.{arc_by_edge, edge_is_arc, reverse_is_arc}
use Rattle.cover_answers.specs.ReadBack.{order_after, new_number}
use Rattle.cover_answers.proofs.NewLists.{place, at_place, has_new, keeps, tells_new, apart_new, few_new, place_new, place_grown, place_of_get}
use Rattle.cover_answers.proofs.NewLists.{place_below, any_in}
use Rattle.cover_answers.proofs.LineTokens.{row_fields, IsRowEdge, AreRowEdges}

-- the test of two numbers
abbrev pub same_number : ℕ → ℕ → Bool
same_number u v = u == v

-- the vertices of these edges
abbrev pub order_back : List Arc → List ℕ
order_back [] = []
order_back (e ∷ es) = order_after (order_back es) e

-- all numbers have short names
abbrev AreNumbers : List ℕ → Type 0
AreNumbers xs = (u : ℕ) → IsIn xs u → u < 2 ^ 64

-- equal truth of both tests
same_test : (s t : Bool) → (s ≡ true → t ≡ true) → (t ≡ true → s ≡ true) → s ≡ t
same_test s t h k = search arith

-- numbers are the same if their names are
test_name : (u v : ℕ) → u < 2 ^ 64 → v < 2 ^ 64 → bytes_eq (decimal u) (decimal v) ≡ (u == v)
test_name u v h k = grind (arith, same_test, decimal_injective, bytes_eq-Decides)

any_name : (u : ℕ) (xs : List ℕ) → u < 2 ^ 64 → AreNumbers xs → list_any (bytes_eq (decimal u)) (map decimal xs) ≡ list_any (same_number u) xs
any_name u [] h k = refl
any_name u (x ∷ xs) h k =
    let e = test_name u x h (k x (inl refl)) in let f = any_name u xs h (λ v i. k v (inr i)) in
    λ i. e i || f i

place_name : (u : ℕ) (xs : List ℕ) → u < 2 ^ 64 → AreNumbers xs → position_or_len (bytes_eq (decimal u)) (map decimal xs) ≡ position_or_len (same_number u) xs
place_name u [] h k = refl
place_name u (x ∷ xs) h k =
    let e = test_name u x h (k x (inl refl)) in let f = place_name u xs h (λ v i. k v (inr i)) in
    λ i. cond (not (e i)) (1 + f i) 0

-- a new name is that of a new number
new_name : (xs : List ℕ) (u : ℕ) → u < 2 ^ 64 → AreNumbers xs → with_new bytes_eq (map decimal xs) (decimal u) ≡ map decimal (with_new same_number xs u)
new_name xs u h k = search (arith, any_name, map-append)

-- both ends of an edge have numbers after it
first_end : (xs : List ℕ) (e : Arc) → IsIn (order_after xs e) e.from
first_end xs e = keeps same_number Decides-eqb (with_new same_number xs e.from) e.to e.from (has_new same_number Decides-eqb xs e.from)

second_end : (xs : List ℕ) (e : Arc) → IsIn (order_after xs e) e.to
second_end xs e = has_new same_number Decides-eqb (with_new same_number xs e.from) e.to

kept : (xs : List ℕ) (e : Arc) (u : ℕ) → IsIn xs u → IsIn (order_after xs e) u
kept xs e u h = keeps same_number Decides-eqb (with_new same_number xs e.from) e.to u (keeps same_number Decides-eqb xs e.from u h)

-- the ends of each of the edges have numbers
pub ends_in : (es : List Arc) (e : Arc) → IsIn es e → IsIn (order_back es) e.from × IsIn (order_back es) e.to
ends_in [] e h = absurd h
ends_in (f ∷ es) e (inl q) = (
  subst (λ (x : Arc). IsIn (order_back (f ∷ es)) x.from) q (first_end (order_back es) f),
  subst
      (λ (x : Arc). IsIn (order_back (f ∷ es)) x.to) q (second_end (order_back es) f),
)
ends_in (f ∷ es) e (inr i) = let h = ends_in es e i in (kept (order_back es) f e.from h.0, kept (order_back es) f e.to h.1)

-- and each number is that of a vertex
pub numbers_within : (d n : ℕ) (es : List Arc) → AreRowEdges d n es → (u : ℕ) → IsIn (order_back es) u → (1 ≤ u) × (u ≤ n)
numbers_within d n [] h u i = absurd i
numbers_within d n (e ∷ es) h u i = elim (tells_new same_number Decides-eqb (with_new same_number (order_back es) e.from) e.to u i) [
  | inl j ↦ elim (tells_new same_number Decides-eqb (order_back es) e.from u j) [
    | inl k ↦ numbers_within d n es h.1 u k
    | inr q ↦ subst (λ (x : ℕ). (1 ≤ x) × (x ≤ n)) q h.0.from
  ]
  | inr q ↦ subst (λ (x : ℕ). (1 ≤ x) × (x ≤ n)) q h.0.to
]

-- no number stands twice
pub order_apart : (es : List Arc) → AreApart (order_back es)
order_apart [] = tt
order_apart (e ∷ es) = apart_new same_number Decides-eqb (with_new same_number (order_back es) e.from) e.to
    (apart_new same_number Decides-eqb (order_back es) e.from (order_apart es))

few_numbers : (d n : ℕ) (e : Arc) → IsRowEdge d n e → n < 2 ^ 64
few_numbers d n e h = let l = h.few in omega (arith, l)

are_numbers : (d n : ℕ) (es : List Arc) → AreRowEdges d n es → AreNumbers (order_back es)
are_numbers d n [] h u i = absurd i
are_numbers d n (e ∷ es) h u i = let w = numbers_within d n (e ∷ es) h u i in let l = few_numbers d n e h.0 in omega (arith, w, l)

numbers_after : (xs : List ℕ) (u : ℕ) → u < 2 ^ 64 → AreNumbers xs → AreNumbers (with_new same_number xs u)
numbers_after xs u h k v i = elim (tells_new same_number Decides-eqb xs u v i) [ inl j ↦ k v j | inr q ↦ subst (λ (x : ℕ). x < 2 ^ 64) q h ]

small_from : (d n : ℕ) (e : Arc) → IsRowEdge d n e → e.from < 2 ^ 64
small_from d n e h = let l = h.few in let m = h.from.1 in omega (arith, l, m)

small_to : (d n : ℕ) (e : Arc) → IsRowEdge d n e → e.to < 2 ^ 64
small_to d n e h = let l = h.few in let m = h.to.1 in omega (arith, l, m)

-- the rows of edges
abbrev pub rows_of : ℕ → List Arc → List FieldsView
rows_of d es = map (row_fields d) es

-- their vertices are named by their numbers
pub names_are : (d n : ℕ) (es : List Arc) → AreRowEdges d n es → vertices_of (rows_of d es) ≡ map decimal (order_back es)
names_are d n [] h = refl
names_are d n (e ∷ es) h =
    let k = are_numbers d n es h.1 in let f = small_from d n e h.0 in
    ap (λ (names : List (List ℕ)). with_new bytes_eq (with_new bytes_eq names (decimal e.from)) (decimal e.to)) (names_are d n es h.1)
    ∙ ap (λ (names : List (List ℕ)). with_new bytes_eq names (decimal e.to)) (new_name (order_back es) e.from f k)
    ∙ new_name (with_new same_number (order_back es) e.from) e.to (small_to d n e h.0) (numbers_after (order_back es) e.from f k)

-- what stands at the place of a new number
pub old_number : (order : List ℕ) (u : ℕ) → IsIn order u → get_or order (new_number order u - 1) 0 ≡ u
old_number order u i =
    let one_less : new_number order u - 1 ≡ place same_number Decides-eqb u order = omega arith in
    ap (λ (k : ℕ). get_or order k 0) one_less ∙ at_place same_number Decides-eqb order u 0 i

-- the edge with the new numbers of its ends
abbrev pub renumbered : List ℕ → Arc → RawEdge
renumbered order e = normal (new_number order e.from) (new_number order e.to) e.shift.x e.shift.y e.shift.z

-- the numbers are those at the end of the rows
number_kept : (xs : List ℕ) (e : Arc) (u : ℕ) → IsIn xs u → new_number xs u ≡ new_number (order_after xs e) u
number_kept xs e u h =
    ap (λ (k : ℕ). k + 1) (place_grown same_number Decides-eqb xs e.from u h
    ∙ place_grown same_number Decides-eqb (with_new same_number xs e.from) e.to u (keeps same_number Decides-eqb xs e.from u h))

number_first : (xs : List ℕ) (e : Arc) → new_number xs e.from ≡ new_number (order_after xs e) e.from
number_first xs e =
    ap (λ (k : ℕ). k + 1)
    (place_new same_number Decides-eqb xs e.from ∙ place_grown same_number Decides-eqb (with_new same_number xs e.from) e.to e.from
    (has_new same_number Decides-eqb xs e.from))

number_second : (xs : List ℕ) (e : Arc) → new_number (with_new same_number xs e.from) e.to ≡ new_number (order_after xs e) e.to
number_second xs e = ap (λ (k : ℕ). k + 1) (place_new same_number Decides-eqb (with_new same_number xs e.from) e.to)

pub renumbered_kept : (es : List Arc) (f e : Arc) → IsIn es e → renumbered (order_back es) e ≡ renumbered (order_back (f ∷ es)) e
renumbered_kept es f e h = search (arith, ends_in, number_kept)

-- the edge that a row gives
pub edge_is : (d n : ℕ) (es : List Arc) (e : Arc) → AreRowEdges d n (e ∷ es)
    → row_edge (vertices_of (rows_of d es)) (row_fields d e) ≡ renumbered (order_back (e ∷ es)) e
edge_is d n es e h =
    let k = are_numbers d n es h.1 in let f = small_from d n e h.0 in let names = names_are d n es h.1 in
    let grown = ap (λ (names : List (List ℕ)). with_new bytes_eq names (decimal e.from)) names ∙ new_name (order_back es) e.from f k in
    let first : vertex_number (vertices_of (rows_of d es)) (decimal e.from) ≡ new_number (order_back (e ∷ es)) e.from =
    ap (λ (names : List (List ℕ)). vertex_number names (decimal e.from)) names ∙ ap (λ (m : ℕ). m + 1) (place_name e.from (order_back es) f k)
    ∙ number_first (order_back es) e in
    let second : vertex_number (with_new bytes_eq (vertices_of (rows_of d es)) (decimal e.from)) (decimal e.to) ≡ new_number (order_back (e ∷ es)) e.to =
    ap (λ (names : List (List ℕ)). vertex_number names (decimal e.to)) grown
    ∙ ap (λ (m : ℕ). m + 1) (place_name e.to (with_new same_number (order_back es) e.from) (small_to d n e h.0) (numbers_after (order_back es) e.from f k))
    ∙ number_second (order_back es) e in
    λ t. normal (first t) (second t) e.shift.x e.shift.y e.shift.z

-- the test of two edges
pub edge_decides : (e f : RawEdge) → Decides (same_edge e f) (e ≡ f)
edge_decides e f = (to, from)
  where
    to : same_edge e f ≡ true → e ≡ f
    to h =
        let a = and_parts (e.u == f.u) _ h in let b = and_parts (e.v == f.v) _ a.1 in
        let c = and_parts (int_eq e.x f.x) _ b.1 in let g = and_parts (int_eq e.y f.y) _ c.1 in
        let u = (Decides-eqb e.u f.u).0 a.0 in let v = (Decides-eqb e.v f.v).0 b.0 in
        let x = (Decides-int_eq e.x f.x).0 c.0 in let y = (Decides-int_eq e.y f.y).0 g.0 in
        let z = (Decides-int_eq e.z f.z).0 g.1 in
        λ t. record { u = u t; v = v t; x = x t; y = y t; z = z t }

    from : e ≡ f → same_edge e f ≡ true
    from q =
        subst (λ (g : RawEdge). same_edge e g ≡ true) q
        (and_from _ _ ((Decides-eqb e.u e.u).1 refl) (and_from _ _ ((Decides-eqb e.v e.v).1 refl)
        (and_from _ _ ((Decides-int_eq e.x e.x).1 refl) (and_from _ _ ((Decides-int_eq e.y e.y).1 refl) ((Decides-int_eq e.z e.z).1 refl)))))

-- each edge that is read is that of a row
pub read_edges : (d n : ℕ) (es : List Arc) → AreRowEdges d n es → (y : RawEdge) → IsIn (edges_of (rows_of d es)) y
    → (e : Arc) × IsIn es e × (renumbered (order_back es) e ≡ y)
read_edges d n [] h y i = absurd i
read_edges d n (f ∷ es) h y i = elim (tells_new same_edge edge_decides (edges_of (rows_of d es)) (row_edge (vertices_of (rows_of d es)) (row_fields d f)) y i) [
  | inl j ↦ let r = read_edges d n es h.1 y j in (r.0, inr r.1, sym (renumbered_kept es f r.0 r.1) ∙ r.2)
  | inr q ↦ (f, inl refl, sym (edge_is d n es f h) ∙ q)
]

-- and each row gives its edge
pub edges_in : (d n : ℕ) (es : List Arc) → AreRowEdges d n es → (e : Arc) → IsIn es e → IsIn (edges_of (rows_of d es)) (renumbered (order_back es) e)
edges_in d n [] h e i = absurd i
edges_in d n (f ∷ es) h e (inl q) =
    subst (λ (x : Arc). IsIn (edges_of (rows_of d (f ∷ es))) (renumbered (order_back (f ∷ es)) x)) q
    (subst (λ (y : RawEdge). IsIn (edges_of (rows_of d (f ∷ es))) y) (edge_is d n es f h)
    (has_new same_edge edge_decides (edges_of (rows_of d es)) (row_edge (vertices_of (rows_of d es)) (row_fields d f))))
edges_in d n (f ∷ es) h e (inr i) =
    subst (λ (y : RawEdge). IsIn (edges_of (rows_of d (f ∷ es))) y) (renumbered_kept es f e i)
    (keeps same_edge edge_decides (edges_of (rows_of d es)) (row_edge (vertices_of (rows_of d es)) (row_fields d f)) (renumbered (order_back es) e)
    (edges_in d n es h.1 e i))

-- no more edges than rows
pub few_edges : (d : ℕ) (es : List Arc) → length (edges_of (rows_of d es)) ≤ length es
few_edges d [] = omega arith
few_edges d (e ∷ es) =
    let l = few_new same_edge edge_decides (edges_of (rows_of d es)) (row_edge (vertices_of (rows_of d es)) (row_fields d e)) in
    let m = few_edges d es in
    omega (arith, l, m)

module _ (d n : ℕ) (es : List Arc) (h : AreRowEdges d n es) where
  -- the number at a place, counted from 1
  abbrev pub number_at : ℕ → ℕ
  number_at i = get_or (order_back es) (i - 1) 0

  pub number_within : (i : ℕ) → 1 ≤ i → i ≤ length (order_back es) → (1 ≤ number_at i) × (number_at i ≤ n)
  number_within i a b = numbers_within d n es h (number_at i) (in_at (order_back es) (i - 1) 0 (omega (arith, a, b)))

  -- it has this place as its new number
  pub number_there : (i : ℕ) → 1 ≤ i → i ≤ length (order_back es) → new_number (order_back es) (number_at i) ≡ i
  number_there i a b =
      let p = place_of_get same_number Decides-eqb (order_back es) (i - 1) 0 (order_apart es) (omega (arith, a, b)) in
      omega (arith, p, a)

  -- no more numbers than vertices
  pub few_vertices : length (order_back es) ≤ n
  few_vertices = no_more n (length (order_back es)) number_at (record {
    low = λ i a b. (number_within i a b).0;
    high = λ i a b. (number_within i a b).1;
    once = λ i j a b c k e. sym (number_there i a b) ∙ ap (new_number (order_back es)) e ∙ number_there j c k;
  })

negative : (x : ℤ) → pos 0 -ℤ x ≡ neg_ℤ x
negative x = omega (arith, ints)

-- the spelling of an arc is the arc or its reverse
pub spelling_is : (t : Bool) (u v : ℕ) (s : Vector) → (edge_of (spelled t u v s.x s.y s.z) ≡ arc u v s)
    ⊎ (edge_of (spelled t u v s.x s.y s.z) ≡ reverse_of (arc u v s))
spelling_is t u v s = search (arith, negative)

module _ (G H : Graph) (done : List Arc) (rows : AreRowEdges G.dimension G.vertices done) (dimension : G.dimension ≡ H.dimension)
    (count : H.vertices ≡ length (order_back done))
    (listed : (e : Arc) → IsIn G.edges e → IsIn done e) (mentioned : (u : ℕ) → IsQuotientVertex G u → IsIn (order_back done) u)
    (there_edge : (e : Arc) → IsIn G.edges e → IsIn H.edges (edge_of (renumbered (order_back done) e)))
    (back_edge : (y : Arc) → IsIn H.edges y → (e : Arc) × IsIn G.edges e × (edge_of (renumbered (order_back done) e) ≡ y)) where
  abbrev order : List ℕ
  order = order_back done

  -- the new number of a vertex
  abbrev to_new : ℕ → ℕ
  to_new u = new_number order u

  -- and the old one
  abbrev to_old : ℕ → ℕ
  to_old k = number_at G.dimension G.vertices done rows k

  new_within : (u : ℕ) → IsIn order u → (1 ≤ to_new u) × (to_new u ≤ length order)
  new_within u i = let l = place_below same_number Decides-eqb order u i in (omega arith, omega (arith, l))

  old_of_new : (u : ℕ) → IsIn order u → to_old (to_new u) ≡ u
  old_of_new u i = old_number order u i

  new_vertex : (u : ℕ) → IsQuotientVertex G u → IsQuotientVertex H (to_new u)
  new_vertex u v = let w = new_within u (mentioned u v) in (w.0, subst (λ (k : ℕ). to_new u ≤ k) (sym count) w.1)

  old_below : (k : ℕ) → IsQuotientVertex H k → k ≤ length order
  old_below k v = subst (λ (m : ℕ). k ≤ m) count v.1

  old_vertex : (k : ℕ) → IsQuotientVertex H k → IsQuotientVertex G (to_old k)
  old_vertex k v = number_within G.dimension G.vertices done rows k v.0 (old_below k v)

  new_of_old : (k : ℕ) → IsQuotientVertex H k → to_new (to_old k) ≡ k
  new_of_old k v = number_there G.dimension G.vertices done rows k v.0 (old_below k v)

  -- an edge with new numbers is an arc
  edge_there : (e : Arc) → IsIn G.edges e → IsArc H (arc (to_new e.from) (to_new e.to) e.shift)
  edge_there e i = elim (spelling_is (is_forward (to_new e.from) (to_new e.to) e.shift.x e.shift.y e.shift.z) (to_new e.from) (to_new e.to) e.shift) [
    | inl q ↦ edge_is_arc H (arc (to_new e.from) (to_new e.to) e.shift)
        (contains_from_in H.edges (arc (to_new e.from) (to_new e.to) e.shift) (subst (λ (a : Arc). IsIn H.edges a) q (there_edge e i)))
    | inr q ↦
        reverse_is_arc H (arc (to_new e.from) (to_new e.to) e.shift)
        (contains_from_in H.edges (reverse_of (arc (to_new e.from) (to_new e.to) e.shift)) (subst (λ (a : Arc). IsIn H.edges a) q (there_edge e i)))
  ]

  arc_there : (a : Arc) → IsArc G a → IsArc H (arc (to_new a.from) (to_new a.to) a.shift)
  arc_there a m = elim (arc_by_edge G a m) [
    | inl c ↦ edge_there a (is_in G.edges a c)
    | inr c ↦
        subst (IsArc H) (reverse_twice (arc (to_new a.from) (to_new a.to) a.shift))
        (arc_turned H (reverse_of (arc (to_new a.from) (to_new a.to) a.shift)) (edge_there (reverse_of a) (is_in G.edges (reverse_of a) c)))
  ]

  -- the arc with the old numbers
  abbrev old_arc : Arc → Arc
  old_arc y = arc (to_old y.from) (to_old y.to) y.shift

  -- of an edge with new numbers it is the edge
  old_edge : (e : Arc) → IsIn G.edges e → old_arc (arc (to_new e.from) (to_new e.to) e.shift) ≡ e
  old_edge e i = search (arith, ends_in, old_of_new)

  edge_back : (e y : Arc) → IsIn G.edges e → edge_of (renumbered order e) ≡ y → IsArc G (old_arc y)
  edge_back e y i q = elim (spelling_is (is_forward (to_new e.from) (to_new e.to) e.shift.x e.shift.y e.shift.z) (to_new e.from) (to_new e.to) e.shift) [
    | inl r ↦ subst (λ (a : Arc). IsArc G (old_arc a)) (sym r ∙ q) (subst (IsArc G) (sym (old_edge e i)) own)
    | inr r ↦ subst (λ (a : Arc). IsArc G (old_arc a)) (sym r ∙ q) (subst (λ (a : Arc). IsArc G (reverse_of a)) (sym (old_edge e i)) (arc_turned G e own))
  ]
    where
      own : IsArc G e
      own = edge_is_arc G e (contains_from_in G.edges e i)

  arc_back : (y : Arc) → IsArc H y → IsArc G (old_arc y)
  arc_back y m = elim (arc_by_edge H y m) [
    | inl c ↦ let f = back_edge y (is_in H.edges y c) in edge_back f.0 y f.1 f.2
    | inr c ↦
        let f = back_edge (reverse_of y) (is_in H.edges (reverse_of y) c) in
        subst (IsArc G) (reverse_twice (old_arc y)) (arc_turned G (reverse_of (old_arc y)) (edge_back f.0 (reverse_of y) f.1 f.2))
  ]

  abbrev there : Vertex → Vertex
  there w = vertex (to_new w.over) w.cell

  abbrev back : Vertex → Vertex
  back x = vertex (to_old x.over) x.cell

  vertex_there : (w : Vertex) → IsVertex G w → IsVertex H (there w)
  vertex_there w v = record { over = new_vertex w.over v.over; cell = subst (λ (d : ℕ). HasDimension d w.cell) dimension v.cell }

  vertex_back : (x : Vertex) → IsVertex H x → IsVertex G (back x)
  vertex_back x v = record { over = old_vertex x.over v.over; cell = subst (λ (d : ℕ). HasDimension d x.cell) (sym dimension) v.cell }

  there_period : IsPeriodic G H there 1 unit_base
  there_period = search (arith, vertex_there, unit_sum)

  back_period : IsPeriodic H G back 1 unit_base
  back_period = search (arith, vertex_back, unit_sum)

  -- so the two are isomorphic
  pub renumbered_iso : Iso G H
  renumbered_iso = record {
    dimension = dimension;
    there = there;
    back = back;
    there_period = (1, unit_base, there_period);
    back_period = (1, unit_base, back_period);
    back_there = λ w v. ap (λ (u : ℕ). vertex u w.cell) (old_of_new w.over (mentioned w.over v.over));
    there_back = λ x v. ap (λ (u : ℕ). vertex u x.cell) (new_of_old x.over v.over);
    there_joins = λ w x v u a. arc_there (arc w.over x.over (minus x.cell w.cell)) a;
    back_joins = λ w x v u a. arc_back (arc w.over x.over (minus x.cell w.cell)) a;
  }

  -- by the map that gives each vertex its new number
  pub renumbered_there : (w : Vertex) → renumbered_iso.there w ≡ vertex (new_number (order_back done) w.over) w.cell
  unfolding renumbered_iso
  renumbered_there w = refl

-- the arc with the old numbers
abbrev with_old : List ℕ → Arc → Arc
with_old order y = arc (get_or order (y.from - 1) 0) (get_or order (y.to - 1) 0) y.shift

-- an edge with new numbers determines the edge, up to its direction
edge_or_turned : (order : List ℕ) (e : Arc) → IsIn order e.from → IsIn order e.to
    → (with_old order (edge_of (renumbered order e)) ≡ e) ⊎ (with_old order (edge_of (renumbered order e)) ≡ reverse_of e)
edge_or_turned order e i j = grind (arith, old_number, spelling_is)

-- edges in normal spelling with the same new numbers are one
same_edges : (order : List ℕ) (e f : Arc) → IsNormalSpelling e → IsNormalSpelling f → IsIn order e.from × IsIn order e.to → IsIn order f.from × IsIn order f.to
    → renumbered order e ≡ renumbered order f → e ≡ f
same_edges order e f n m i j q = by (edge_or_turned order e i.0 i.1) (edge_or_turned order f j.0 j.1)
  where
    same : with_old order (edge_of (renumbered order e)) ≡ with_old order (edge_of (renumbered order f))
    same = ap (λ (y : RawEdge). with_old order (edge_of y)) q

    by : (with_old order (edge_of (renumbered order e)) ≡ e) ⊎ (with_old order (edge_of (renumbered order e)) ≡ reverse_of e)
        → (with_old order (edge_of (renumbered order f)) ≡ f) ⊎ (with_old order (edge_of (renumbered order f)) ≡ reverse_of f) → e ≡ f
    by (inl a) (inl b) = sym a ∙ same ∙ b
    by (inl a) (inr b) = absurd (one_spelling f m (subst IsNormalSpelling (sym a ∙ same ∙ b) n))
    by (inr a) (inl b) = absurd (one_spelling e n (subst IsNormalSpelling (sym (sym a ∙ same ∙ b)) m))
    by (inr a) (inr b) = sym (reverse_twice e) ∙ ap reverse_of (sym a ∙ same ∙ b) ∙ reverse_twice f

spelled_in : (d n : ℕ) (es : List Arc) → AreRowEdges d n es → (e : Arc) → IsIn es e → IsNormalSpelling e
spelled_in d n [] h e i = absurd i
spelled_in d n (f ∷ es) h e (inl q) = subst IsNormalSpelling q h.0.spelling
spelled_in d n (f ∷ es) h e (inr i) = spelled_in d n es h.1 e i

-- a row of a new edge repeats none
new_row : (d n : ℕ) (e : Arc) (es : List Arc) → AreRowEdges d n (e ∷ es) → ¬ IsIn es e → is_repeat (rows_of d es) (row_fields d e) ≡ false
new_row d n e es h new = elim (cases_Bool (is_repeat (rows_of d es) (row_fields d e))) [
  | inl yes_ ↦
      let row = row_edge (vertices_of (rows_of d es)) (row_fields d e) in let order = order_back (e ∷ es) in
      let f = read_edges d n es h.1 row (any_in same_edge edge_decides (edges_of (rows_of d es)) row yes_) in
      let q : renumbered order e ≡ renumbered order f.0 = sym (edge_is d n es e h) ∙ sym f.2 ∙ renumbered_kept es e f.0 f.1 in
      let s = same_edges order e f.0 h.0.spelling (spelled_in d n es h.1 f.0 f.1) (ends_in (e ∷ es) e (inl refl)) (ends_in (e ∷ es) f.0 (inr f.1)) q in
      absurd (new (subst (IsIn es) (sym s) f.1))
  | inr no_ ↦ no_
]

pub no_repeats : (d n : ℕ) (es : List Arc) → AreRowEdges d n es → AreApart es → repeats_of (rows_of d es) ≡ 0
no_repeats d n [] h a = refl
no_repeats d n (e ∷ es) h a =
    ap (λ (t : Bool). cond t (repeats_of (rows_of d es) + 1) (repeats_of (rows_of d es))) (new_row d n e es h a.0) ∙ no_repeats d n es h.1 a.1
