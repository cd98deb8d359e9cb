-- The edges of rows and their graph: each is between the vertices, none stands twice, and they are flat if the rows are.
use Rattle.std.proofs.Common.{◌≡◌, ◌⊎◌, inl, inr, ℕ, length, refl, sym, ap, subst, ◌∙◌, arith, ◌≤◌, ◌==◌, ℤ, pos, Bool, true, List, [], ◌∷◌, map, ◌&&◌, not}
use Rattle.std.proofs.Common.{false, cond, Option, None, Some}
use Rattle.std.{proofs.lemmas.List.Elements.All-contains, proofs.lemmas.Slice.Eq.bytes_eq-Decides, proofs.lemmas.Bool.cases_Bool}
use Rattle.std.{proofs.lemmas.Bool.false≢true, proofs.lemmas.Bool.Decides.Decides-eqb, proofs.lemmas.Bool.Decides.nat_tests, specs.Str.bytes_eq}
use Rattle.std.{specs.List.AllByRecursion, specs.List.flat_map}
use Rattle.integers.specs.Vectors.{Vector, zero_vector, minus}
use Rattle.integers.proofs.lists.Members.{IsIn, AreApart, apart_from_pairs, contains_from_in, is_in, not_longer, in_map, map_apart}
use Rattle.integers.proofs.{counting.Numbering.no_more, vectors.Laws.minus_zero, vectors.Laws.vector_equal}
use Rattle.periodic_net.specs.Graph.{Graph, Arc, arc, reverse_of, IsArc, IsEdge, IsGraph, IsNormalSpelling, IsQuotientVertex, IsVertex, Vertex, vertex}
use Rattle.periodic_net.proofs.CallerLemmas.{IsInside, arc_inside, arc_between, arc_turned, one_spelling, origin_vertex, reverse_twice}
use Rattle.periodic_net.specs.Maps.{Iso}
use Rattle.key_theory.proofs.CallerLemmas.{arc_no_point, arc_by_edge, edge_is_arc}
use Rattle.cgd_read.specs.Spelling.{spelled, is_forward, normal, edge_of}
use Rattle.cgd_read.specs.Edges.{with_new, vertices_of, vertex_number, row_edge, same_edge, edges_of, first_size, has_rows}
use Rattle.cgd_read.specs.Lines.{FieldsView, LineView, fields_from, kind_of, line_of, token_lines}
use Rattle.cgd_read.specs.Units.{or_fault}
use Rattle.cgd_read.specs.Blocks.{with_body, malformed, graph_block, block_by, block_of, blocks_from, blocks_of}
use Rattle.cgd_read.specs.Faults.{is_end, has_row, rows_in, table, fault_of}
use Rattle.cgd_read.specs.Views.{RawView, BodyView, Net, BlockView}
use Rattle.cgd_read.proofs.CallerLemmas.{IsZero, normal_spelled, size_now, flat_tokens, all_false}
use Rattle.cgd_read.specs.{Reading.IsFlat, Graphs.graph_of, Graphs.net_of, declared.edge.RawEdge.RawEdge, declared.block.BlockFaultKind.BlockFaultKind}
use Rattle.cgd_read.specs.{declared.line.LineKind.LineKind}
use Rattle.cgd_lex.specs.{Lines.filled_lines, Tokens.TokenView, Tokens.tokens_of}
use Rattle.cover_answers.proofs.NewLists.{tells_new, apart_new, has_place}
use Rattle.cover_answers.proofs.NamedRows.{edge_decides}

-- an edge between vertices, in normal spelling or a loop without a shift
pub record IsReadEdge (H : Graph) (y : Arc) : Type 0 where
  pub inside : IsInside H y
  pub spelling : IsNormalSpelling y ⊎ ((y.from ≡ y.to) × (y.shift ≡ zero_vector))

module _ (C H : Graph) (new : ℕ → ℕ) (iso : Iso C H) (there : (w : Vertex) → iso.there w ≡ vertex (new w.over) w.cell) where
  -- the vertex in cell 0
  abbrev at : ℕ → Vertex
  at u = vertex u zero_vector

  -- new numbers are those of vertices, no two alike
  new_within : (u : ℕ) → IsQuotientVertex C u → IsQuotientVertex H (new u)
  new_within u i = subst (λ (w : Vertex). IsQuotientVertex H w.over) (there (at u)) (iso.there_period.2.into (at u) (origin_vertex C u i)).over

  new_once : (u v : ℕ) → IsQuotientVertex C u → IsQuotientVertex C v → new u ≡ new v → u ≡ v
  new_once u v i j e =
      let same : iso.there (at u) ≡ iso.there (at v) = there (at u) ∙ ap at e ∙ sym (there (at v)) in
      ap (λ (w : Vertex). w.over) (sym (iso.back_there (at u) (origin_vertex C u i)) ∙ ap iso.back same ∙ iso.back_there (at v) (origin_vertex C v j))

  -- the number before
  abbrev old : ℕ → ℕ
  old u = (iso.back (at u)).over

  new_old : (u : ℕ) → IsQuotientVertex H u → new (old u) ≡ u
  new_old u i = ap (λ (w : Vertex). w.over) (sym (there (iso.back (at u))) ∙ iso.there_back (at u) (origin_vertex H u i))

  old_within : (u : ℕ) → IsQuotientVertex H u → IsQuotientVertex C (old u)
  old_within u i = (iso.back_period.2.into (at u) (origin_vertex H u i)).over

  -- as many vertices
  pub same_vertices : C.vertices ≡ H.vertices
  same_vertices =
      let more = no_more H.vertices C.vertices new (record {
        low = λ i a b. (new_within i (a, b)).0;
        high = λ i a b. (new_within i (a, b)).1;
        once = λ i j a b c d e. new_once i j (a, b) (c, d) e;
      }) in
      let less = no_more C.vertices H.vertices old (record {
        low = λ i a b. (old_within i (a, b)).0;
        high = λ i a b. (old_within i (a, b)).1;
        once = λ i j a b c d e. sym (new_old i (a, b)) ∙ ap new e ∙ new_old j (c, d);
      }) in
      omega (arith, more, less)

  -- the arc with the new numbers
  abbrev image : Arc → Arc
  image a = arc (new a.from) (new a.to) a.shift

  -- an arc of C has an arc of H as its image
  image_arc : (a : Arc) → IsInside C a → IsArc C a → IsArc H (image a)
  image_arc a i h =
      let w = at a.from in let x = vertex a.to a.shift in let p = there w in let q = there x in
      let joined = subst (λ (s : Vector). IsArc C (arc a.from a.to s)) (sym (minus_zero a.shift)) h in
      let k = iso.there_joins w x (origin_vertex C a.from i.from) (record { over = i.to; cell = i.shift }) joined in
      subst (IsArc H) ((λ t. arc (p t).over (q t).over (minus (q t).cell (p t).cell)) ∙ ap (arc (new a.from) (new a.to)) (minus_zero a.shift)) k

  -- the arc of which y is the image
  record HasSource (y : Arc) : Type 0 where
    source : Arc
    is_arc : IsArc C source
    image_is : image source ≡ y

  -- each arc of H between vertices has one
  source_of : (y : Arc) → IsInside H y → IsArc H y → HasSource y
  source_of y i h =
      let w = at y.from in let x = vertex y.to y.shift in let iw = origin_vertex H y.from i.from in
      let ix : IsVertex H x = record { over = i.to; cell = i.shift } in
      let p : vertex (new (iso.back w).over) (iso.back w).cell ≡ w = sym (there (iso.back w)) ∙ iso.there_back w iw in
      let q : vertex (new (iso.back x).over) (iso.back x).cell ≡ x = sym (there (iso.back x)) ∙ iso.there_back x ix in
      let joined = subst (λ (s : Vector). IsArc H (arc y.from y.to s)) (sym (minus_zero y.shift)) h in
      record {
        source = arc_between (iso.back w) (iso.back x);
        is_arc = iso.back_joins w x iw ix joined;
        image_is = (λ t. arc (p t).over (q t).over (minus (q t).cell (p t).cell)) ∙ ap (arc y.from y.to) (minus_zero y.shift);
      }

  -- an image determines its arc
  image_once : (a e : Arc) → IsInside C a → IsInside C e → image a ≡ image e → a ≡ e
  image_once a e i j same = search (arith, new_once)

  -- e gives y, which is its image or the reverse
  abbrev Gives : Arc → Arc → Type 0
  Gives e y = (y ≡ image e) ⊎ (y ≡ reverse_of (image e))

  turned : (y z : Arc) → y ≡ reverse_of z → reverse_of y ≡ z
  turned y z e = ap reverse_of e ∙ reverse_twice z

  module _ (g : IsGraph C) (apart : AreApart H.edges) (each : (y : Arc) → IsIn H.edges y → IsReadEdge H y) where
    -- an edge of C is between vertices, and in normal spelling
    inside : (e : Arc) → IsIn C.edges e → IsInside C e
    inside e i = arc_inside C g e (edge_is_arc C e (contains_from_in C.edges e i))

    normally_spelled : (e : Arc) → IsIn C.edges e → IsNormalSpelling e
    normally_spelled e i = (All-contains (IsEdge C) C.edges e g.edges (contains_from_in C.edges e i)).spelling

    -- the image of an edge is an edge, or its reverse is
    image_edge : (e : Arc) → IsIn C.edges e → (y : Arc) × IsIn H.edges y × Gives e y
    image_edge e i = elim (arc_by_edge H (image e) (image_arc e (inside e i) (edge_is_arc C e (contains_from_in C.edges e i)))) [
      | inl k ↦ (image e, is_in H.edges (image e) k, inl refl)
      | inr k ↦ (reverse_of (image e), is_in H.edges (reverse_of (image e)) k, inr refl)
    ]

    -- two edges do not give one arc and its reverse
    other : (e f : Arc) → IsIn C.edges e → IsIn C.edges f → image e ≡ reverse_of (image f) → ⊥
    other e f i j p =
        let turn : IsInside C (reverse_of f) = arc_inside C g (reverse_of f) (arc_turned C f (edge_is_arc C f (contains_from_in C.edges f j))) in
        one_spelling f (normally_spelled f j) (subst IsNormalSpelling (image_once e (reverse_of f) (inside e i) turn p) (normally_spelled e i))

    -- what is given determines the edge
    edge_once : (e f : Arc) (y : Arc) → IsIn C.edges e → IsIn C.edges f → Gives e y → Gives f y → e ≡ f
    edge_once e f y i j (inl p) (inl q) = image_once e f (inside e i) (inside f j) (sym p ∙ q)
    edge_once e f y i j (inr p) (inr q) = image_once e f (inside e i) (inside f j) (sym (turned y (image e) p) ∙ turned y (image f) q)
    edge_once e f y i j (inl p) (inr q) = absurd (other e f i j (sym p ∙ q))
    edge_once e f y i j (inr p) (inl q) = absurd (other f e j i (sym q ∙ p))

    -- no edge of H is a loop without a shift, since it would be the image of one in C
    image_spelled : (y : Arc) → IsIn H.edges y → IsNormalSpelling y
    image_spelled y i = by (each y i).spelling
      where
        by : IsNormalSpelling y ⊎ ((y.from ≡ y.to) × (y.shift ≡ zero_vector)) → IsNormalSpelling y
        by (inl n) = n
        by (inr z) =
            let s = source_of y (each y i).inside (edge_is_arc H y (contains_from_in H.edges y i)) in
            let a = arc_inside C g s.source s.is_arc in
            let same = ap (λ (x : Arc). x.from) s.image_is ∙ z.0 ∙ sym (ap (λ (x : Arc). x.to) s.image_is) in
            absurd (arc_no_point C g s.source s.is_arc (new_once s.source.from s.source.to a.from a.to same) (ap (λ (x : Arc). x.shift) s.image_is ∙ z.1))

    -- each edge of H is the image of an edge, or its reverse
    source_edge : (y : Arc) → IsIn H.edges y → (e : Arc) × IsIn C.edges e × Gives e y
    source_edge y i =
        let s = source_of y (each y i).inside (edge_is_arc H y (contains_from_in H.edges y i)) in
        elim (arc_by_edge C s.source s.is_arc) [
          | inl k ↦ (s.source, is_in C.edges s.source k, inl (sym s.image_is))
          | inr k ↦ (reverse_of s.source, is_in C.edges (reverse_of s.source) k, inr (sym s.image_is ∙ sym (reverse_twice (image s.source))))
        ]

    -- and the edge determines it
    image_told : (y z : Arc) (e : Arc) → IsIn H.edges y → IsIn H.edges z → Gives e y → Gives e z → y ≡ z
    image_told y z e i j (inl p) (inl q) = p ∙ sym q
    image_told y z e i j (inr p) (inr q) = p ∙ sym q
    image_told y z e i j (inl p) (inr q) = absurd (one_spelling y (image_spelled y i) (subst IsNormalSpelling (q ∙ ap reverse_of (sym p)) (image_spelled z j)))
    image_told y z e i j (inr p) (inl q) = absurd (one_spelling z (image_spelled z j) (subst IsNormalSpelling (p ∙ ap reverse_of (sym q)) (image_spelled y i)))

    -- as many edges
    pub same_edges : length C.edges ≡ length H.edges
    same_edges =
        let more = not_longer Gives C.edges H.edges (apart_from_pairs C.edges g.different) (record { into = image_edge; once = edge_once }) in
        let less = not_longer (λ (y e : Arc). Gives e y) H.edges C.edges apart (record { into = source_edge; once = image_told }) in
        omega (arith, more, less)

-- no edge stands twice
pub edges_apart : (rows : List FieldsView) → AreApart (edges_of rows)
edges_apart [] = tt
edges_apart (row ∷ rows) = apart_new same_edge edge_decides (edges_of rows) (row_edge (vertices_of rows) row) (edges_apart rows)

-- an edge is in normal spelling, or a loop without a shift
abbrev pub IsSpelled : RawEdge → Type 0
IsSpelled e = IsNormalSpelling (edge_of e) ⊎ ((e.u ≡ e.v) × IsZero e.x e.y e.z)

zero_or_not : (x y z : ℤ) → IsZero x y z ⊎ ¬ IsZero x y z
zero_or_not x y z = search (arith, cases_Bool, false≢true)

-- a loop without a shift, either way
point_spelled : (t : Bool) (u v : ℕ) (x y z : ℤ) → u ≡ v → IsZero x y z → IsSpelled (spelled t u v x y z)
point_spelled t u v x y z k l = search arith

edge_spelled : (u v : ℕ) (x y z : ℤ) → IsSpelled (normal u v x y z)
edge_spelled u v x y z = elim (zero_or_not x y z) [
  | inr n ↦ inl (normal_spelled u v x y z (λ e. n))
  | inl h ↦ elim (cases_Bool (u == v)) [
    | inr n ↦ inl (normal_spelled u v x y z (λ e k. false≢true (sym n ∙ (Decides-eqb u v).1 e)))
    | inl e ↦ point_spelled (is_forward u v x y z) u v x y z ((Decides-eqb u v).0 e) h
  ]
]

-- u is one of n vertices
abbrev pub IsOneOf : ℕ → ℕ → Type 0
IsOneOf n u = (1 ≤ u) × (u ≤ n)

-- the edge is between vertices from 1 to n, and in normal spelling or a loop without a shift
pub record IsBetween (n : ℕ) (e : RawEdge) : Type 0 where
  pub first : IsOneOf n e.u
  pub second : IsOneOf n e.v
  pub spelling : IsSpelled e

spelled_between : (n : ℕ) (t : Bool) (u v : ℕ) (x y z : ℤ) → IsOneOf n u → IsOneOf n v → IsOneOf n (spelled t u v x y z).u × IsOneOf n (spelled t u v x y z).v
spelled_between n t u v x y z h k = search arith

-- with more vertices too
wider : (m n : ℕ) (e : RawEdge) → m ≤ n → IsBetween m e → IsBetween n e
wider m n e l h = search arith

-- each edge of rows is such a one
pub each_between : (rows : List FieldsView) (e : RawEdge) → IsIn (edges_of rows) e → IsBetween (length (vertices_of rows)) e
each_between [] e i = absurd i
each_between (row ∷ rows) e i = by (each_between rows e)
  where
    by : (IsIn (edges_of rows) e → IsBetween (length (vertices_of rows)) e) → IsBetween (length (vertices_of (row ∷ rows))) e
    by old =
        let first = has_place bytes_eq bytes_eq-Decides (vertices_of rows) row.u in
        let second = has_place bytes_eq bytes_eq-Decides (with_new bytes_eq (vertices_of rows) row.u) row.v in
        let l = first.longer in let m = second.longer in let a = first.within in let b = second.within in
        elim (tells_new same_edge edge_decides (edges_of rows) (row_edge (vertices_of rows) row) e i) [
          | inl j ↦ wider (length (vertices_of rows)) (length (vertices_of (row ∷ rows))) e (omega (arith, l, m)) (old j)
          | inr q ↦
              let u = vertex_number (vertices_of rows) row.u in
              let v = vertex_number (with_new bytes_eq (vertices_of rows) row.u) row.v in
              let s = spelled_between (length (vertices_of (row ∷ rows))) (is_forward u v row.x row.y row.z) u v row.x row.y row.z
              (omega arith, omega (arith, a, m)) (omega arith, b) in
              subst (IsBetween (length (vertices_of (row ∷ rows)))) q (record { first = s.0; second = s.1; spelling = edge_spelled u v row.x row.y row.z })
        ]

-- if the first row has four fields, no edge has a third part
abbrev pub AreFlatRows : List FieldsView → Type 0
AreFlatRows rows = (e : RawEdge) → IsIn (edges_of rows) e → first_size rows ≡ 4 → e.z ≡ pos 0

-- if there is an edge, there is a row
some_row : (rows : List FieldsView) (e : RawEdge) → IsIn (edges_of rows) e → has_rows rows ≡ true
some_row rows e h = search arith

spelled_flat : (t : Bool) (u v : ℕ) (x y z : ℤ) → z ≡ pos 0 → (spelled t u v x y z).z ≡ pos 0
spelled_flat t u v x y z k = search arith

-- the same with one more row, which has as many fields
pub flat_with : (rows : List FieldsView) (row : FieldsView) → IsFlat row → (has_rows rows ≡ true → row.size ≡ first_size rows) → AreFlatRows rows
    → AreFlatRows (row ∷ rows)
flat_with rows row flat same old e i four =
    let size : row.size ≡ 4 = sym (size_now rows row same) ∙ four in
    elim (tells_new same_edge edge_decides (edges_of rows) (row_edge (vertices_of rows) row) e i) [
      | inl j ↦ old e j (sym (same (some_row rows e j)) ∙ size)
      | inr q ↦
          let u = vertex_number (vertices_of rows) row.u in
          let v = vertex_number (with_new bytes_eq (vertices_of rows) row.u) row.v in
          subst (λ (f : RawEdge). f.z ≡ pos 0) q (spelled_flat (is_forward u v row.x row.y row.z) u v row.x row.y row.z (flat (omega (arith, size))))
    ]

-- an arc as it was read
abbrev raw_of : Arc → RawEdge
raw_of a = record { u = a.from; v = a.to; x = a.shift.x; y = a.shift.y; z = a.shift.z }

one_edge : (e f : RawEdge) → edge_of e ≡ edge_of f → e ≡ f
one_edge e f same = ap raw_of same

pub graph_apart : (rows : List FieldsView) → AreApart (map edge_of (edges_of rows))
graph_apart rows = map_apart edge_of (edges_of rows) one_edge (edges_apart rows)

spelling_of : (e : RawEdge) → IsSpelled e → IsNormalSpelling (edge_of e) ⊎ (((edge_of e).from ≡ (edge_of e).to) × ((edge_of e).shift ≡ zero_vector))
spelling_of e h = search (arith, vector_equal)

pub graph_edge : (rows : List FieldsView) → AreFlatRows rows → (y : Arc) → IsIn (map edge_of (edges_of rows)) y → IsReadEdge (graph_of (net_of rows)) y
graph_edge rows flat y i =
    let r = in_map edge_of (edges_of rows) y i in let e = r.0 in let h = each_between rows e r.1 in
    subst (IsReadEdge (graph_of (net_of rows))) r.2
    (record { inside = record { from = h.first; to = h.second; shift = λ two. flat e r.1 (omega (arith, two)) }; spelling = spelling_of e h.spelling })

-- a short row on the line has no third part of a shift
abbrev IsFlatLine : LineView → Type 0
IsFlatLine line = IsFlat line.fields

-- so it is with the lines that tokens make
lines_flat : (parts : List (List TokenView)) → AllByRecursion IsFlatLine (flat_map line_of parts)
lines_flat [] = tt
lines_flat ([] ∷ parts) = lines_flat parts
lines_flat ((first ∷ others) ∷ parts) = (flat_tokens (fields_from (kind_of first.kind first.text) first others), lines_flat parts)

-- what a line without a fault passes

same_size : (some : Bool) (m n : ℕ) → (some && not (m == n)) ≡ false → some ≡ true → m ≡ n
same_size some m n l p = search (arith, nat_tests)

-- the rows so far are flat, with one more line that has no fault
one_more : (earlier : List LineView) (line : LineView) → fault_of earlier line ≡ None → IsFlatLine line → AreFlatRows (rows_in earlier)
    → AreFlatRows (rows_in (line ∷ earlier))
one_more earlier line none flat old = by (has_row line) (all_false (table earlier line) none).1.1.1.1.1.0
  where
    by : (t : Bool) → (t && (has_rows (rows_in earlier) && not (line.fields.size == first_size (rows_in earlier)))) ≡ false
        → AreFlatRows (cond t (line.fields ∷ rows_in earlier) (rows_in earlier))
    by true e = flat_with (rows_in earlier) line.fields flat (same_size (has_rows (rows_in earlier)) line.fields.size (first_size (rows_in earlier)) e) old
    by false e = old

-- a net of flat rows
pub record IsFlatNet (raw : RawView) : Type 0 where
  pub rows : List FieldsView
  pub is : raw ≡ net_of rows
  pub flat : AreFlatRows rows

-- if the body is a net, it is such a one
abbrev pub IsFlatBody : BodyView → Type 0
IsFlatBody (Net raw) = IsFlatNet raw
IsFlatBody x = Unit {0}

abbrev pub IsFlatBlock : BlockView → Type 0
IsFlatBlock block = IsFlatBody block.body

-- what a graph block holds, from these lines on
graph_flat : (opening : ℕ) (earlier lines : List LineView) → AllByRecursion IsFlatLine lines → AreFlatRows (rows_in earlier)
    → IsFlatBlock (graph_block opening earlier lines)
graph_flat opening earlier [] h old = tt
graph_flat opening earlier (line ∷ lines) h old = by (fault_of earlier line) (is_end line.kind) refl (graph_flat opening (line ∷ earlier) lines h.1)
  where
    by : (fault : Option BlockFaultKind) (t : Bool) → fault_of earlier line ≡ fault
        → (AreFlatRows (rows_in (line ∷ earlier)) → IsFlatBlock (graph_block opening (line ∷ earlier) lines))
        → IsFlatBlock (or_fault fault (λ kind. with_body opening earlier (malformed line.number kind))
        (cond t (with_body opening earlier (Net (net_of (rows_in earlier)))) (graph_block opening (line ∷ earlier) lines)))
    by (Some kind) t e on = tt
    by None true e on = record { rows = rows_in earlier; is = refl; flat = old }
    by None false e on = on (one_more earlier line e h.0 old)

-- what a line opens
block_flat : (kind : LineKind) (line : LineView) (lines : List LineView) → AllByRecursion IsFlatLine lines → IsFlatBlock (block_by kind line lines)
block_flat kind line lines k = search (arith, graph_flat)

-- the blocks from these lines on
blocks_flat_from : (inside : Bool) (lines : List LineView) → AllByRecursion IsFlatLine lines → AllByRecursion IsFlatBlock (blocks_from inside lines)
blocks_flat_from inside [] h = tt
blocks_flat_from true (line ∷ lines) h = by (is_end line.kind) (blocks_flat_from false lines h.1) (blocks_flat_from true lines h.1)
  where
    by : (t : Bool) → AllByRecursion IsFlatBlock (blocks_from false lines) → AllByRecursion IsFlatBlock (blocks_from true lines)
        → AllByRecursion IsFlatBlock (cond t (blocks_from false lines) (blocks_from true lines))
    by t h k = search arith
blocks_flat_from false (line ∷ lines) h = by (is_end line.kind) (blocks_flat_from false lines h.1) (blocks_flat_from true lines h.1)
  where
    by : (t : Bool) → AllByRecursion IsFlatBlock (blocks_from false lines) → AllByRecursion IsFlatBlock (blocks_from true lines)
        → AllByRecursion IsFlatBlock (cond t (blocks_from false lines) (block_of line lines ∷ blocks_from true lines))
    by true a b = a
    by false a b = (block_flat line.kind line lines h.1, b)

-- so it is with each block of a text
pub blocks_flat : (text : List ℕ) → AllByRecursion IsFlatBlock (blocks_of text)
blocks_flat text = blocks_flat_from false (token_lines (tokens_of text)) (lines_flat (filled_lines (tokens_of text)))
