-- The blocks of printed graphs are read back: no line of them has a fault, and each block is the net of its rows.
use Rattle.std.proofs.Common.{◌≡◌, ◌≢◌, ◌⊎◌, ℕ, ◌+◌, ◌==◌, false, List, [], ◌∷◌, ◌++◌, Option, None, Some, refl, sym, ap, subst, ◌∙◌, append_assoc}
use Rattle.std.proofs.Common.{arith, ◌≤◌, ◌||◌, ◌&&◌, not, nat_lt, Bool, true, cond, length, inl, inr, map, fold}
use Rattle.std.proofs.lemmas.Bool.{ne_eqb, cases_Bool, and_parts, false≢true, Decides.nat_tests}
use Rattle.std.proofs.lemmas.List.Elements.{All-nil, All-cons, All-append, All-weaker, All-head, All-tail}
use Rattle.std.specs.{Prelude.All, Prelude.codes, Fmt.decimal}
use Rattle.std.proofs.lemmas.{Fmt.decimal_injective, Fmt.length-decimal-le, List.length-map, Slice.Eq.bytes_eq-Decides}
use Rattle.periodic_net.specs.Graph.{Arc, Graph, Vertex, vertex, IsEdge, IsNormalSpelling, IsQuotientVertex}
use Rattle.cgd_read.specs.declared.line.LineKind.TheVariants.{Opening, Edges, End}
use Rattle.cgd_read.specs.Units.{in_order, AllFalse, AllPass, or_fault}
use Rattle.cgd_read.specs.Blocks.{graph_units, graph_block, blocks_from, with_body, malformed}
use Rattle.cgd_read.specs.{Lines.LineView, Lines.FieldsView, Spelling.edge_of, Graphs.net_of, Graphs.graph_of}
use Rattle.integers.proofs.{vectors.Laws.vector_equal, lists.ListOrder.not_below_itself}
use Rattle.periodic_net.specs.{Limits.most_vertices, Limits.most_edges, Limits.most_shift, Maps.Iso}
use Rattle.cgd_read.specs.Edges.{vertices_of, edges_of, is_self_edge, first_size, has_rows}
use Rattle.cgd_read.specs.Faults.{name_of, rows_in, under_edges, is_long, table}
use Rattle.cgd_read.specs.Views.{Net, RawView, BlockView}
use Rattle.cgd_read.proofs.CallerLemmas.{none_true, from_start}
use Rattle.integers.proofs.lists.Members.{IsIn, AreApart, apart_from_pairs, is_in}
use Rattle.integers.specs.Vectors.{zero_vector, IsWithin}
use Rattle.cover_answers.specs.Blocks.{graph_text, name_line, edge_lines}
use Rattle.cover_answers.specs.Printed.{MayBeName, NamedGraph, MayBePrinted, blocks_text}
use Rattle.cover_answers.proofs.LineTokens.{word_line, named_line, name_row, opening_read, edges_read, end_read, name_read}
use Rattle.cover_answers.proofs.LineTokens.{AreRowEdges, row_line, row_lines, after_rows, rows_read, IsRowEdge, row_fields, HasNoFeed, no_feed}
use Rattle.cover_answers.proofs.LineTokens.{HasLines, lines_at, one_line, more_lines, within}
use Rattle.cover_answers.proofs.NamedRows.{rows_of, names_are, few_vertices, few_edges, order_back, renumbered, ends_in, read_edges, edges_in}
use Rattle.cover_answers.specs.ReadBack.{order_after, order_of, new_number, IsReadBack, AreReadBack}
use Rattle.cover_answers.{specs.TextLaws.BlocksAreReadBack, proofs.ReadBlocks.in_map}
use Rattle.cover_answers.proofs.NamedRows.{renumbered_iso, renumbered_there, no_repeats}

-- the number of the line after that of the name
abbrev pub after_name : Option (List ℕ) → ℕ → ℕ
after_name None n = n
after_name (Some name) n = n + 1

-- the lines before the rows, the nearest first
abbrev pub head_lines : Option (List ℕ) → ℕ → List LineView
head_lines None n = word_line Edges (codes "EDGES") n ∷ []
head_lines (Some name) n = word_line Edges (codes "EDGES") (n + 1) ∷ named_line name n ∷ []

-- these lines and those of rows before them, the nearest first
abbrev pub rows_back : ℕ → ℕ → List LineView → List Arc → List LineView
rows_back d m head [] = head
rows_back d m head (e ∷ es) = rows_back d (m + 1) (row_line d e m ∷ head) es

in_order_rows : (d m : ℕ) (head : List LineView) (es : List Arc) (later : List LineView)
    → in_order head (row_lines d m es ++ later) ≡ in_order (rows_back d m head es) later
in_order_rows d m head [] later = refl
in_order_rows d m head (e ∷ es) later = in_order_rows d (m + 1) (row_line d e m ∷ head) es later

name_bytes : (name : List ℕ) → All (λ b. (b ≢ 34) × (b ≢ 10)) name → HasNoFeed (name_row name)
name_bytes name h =
    All-append (λ b. (b == 10) ≡ false) (codes "NAME \"") (name ++ 34 ∷ []) first
    (All-append (λ b. (b == 10) ≡ false) name (34 ∷ []) (All-weaker (λ b. (b ≢ 34) × (b ≢ 10)) (λ b. (b == 10) ≡ false) (λ b p. ne_eqb b 10 p.1) name h)
    (All-cons (λ b. (b == 10) ≡ false) 34 [] refl (All-nil (λ b. (b == 10) ≡ false))))
  where
    first : HasNoFeed (codes "NAME \"")
    first = no_feed (codes "NAME \"") refl

-- the same lines, in the order of the text
abbrev head_forward : Option (List ℕ) → ℕ → List LineView
head_forward None n = word_line Edges (codes "EDGES") n ∷ []
head_forward (Some name) n = named_line name n ∷ word_line Edges (codes "EDGES") (n + 1) ∷ []

in_order_head : (name : Option (List ℕ)) (n : ℕ) (later : List LineView) → head_forward name n ++ later ≡ in_order (head_lines name n) later
in_order_head name n later = search arith

edges_line : (n : ℕ) (rest : List ℕ) → HasLines n (codes "EDGES\n" ++ rest) (word_line Edges (codes "EDGES") n ∷ []) (n + 1) rest
edges_line n rest = one_line n (codes "EDGES") rest (word_line Edges (codes "EDGES") n) (no_feed (codes "EDGES") refl) (λ at. edges_read at n)

name_text : (name rest : List ℕ) → name_line (Some name) ++ rest ≡ name_row name ++ 10 ∷ rest
name_text name rest =
    let start = codes "NAME \"" in
    append_assoc (start ++ name) (34 ∷ 10 ∷ []) rest
    ∙ append_assoc start name (34 ∷ 10 ∷ rest)
    ∙ ap (λ (t : List ℕ). start ++ t) (sym (append_assoc name (34 ∷ []) (10 ∷ rest)))
    ∙ sym (append_assoc start (name ++ 34 ∷ []) (10 ∷ rest))

head_read : (name : Option (List ℕ)) (n : ℕ) (rest : List ℕ) → MayBeName name
    → HasLines n (name_line name ++ (codes "EDGES\n" ++ rest)) (head_forward name n) (after_name name n + 1) rest
head_read None n rest h = edges_line n rest
head_read (Some name) n rest h =
    let own : HasLines n (name_row name ++ 10 ∷ (codes "EDGES\n" ++ rest)) (named_line name n ∷ []) (n + 1) (codes "EDGES\n" ++ rest) =
    one_line n (name_row name) (codes "EDGES\n" ++ rest) (named_line name n) (name_bytes name h.1)
    (λ at. name_read name at n (All-weaker (λ b. (b ≢ 34) × (b ≢ 10)) (λ b. b ≢ 34) (λ b p. p.0) name h.1)) in
    more_lines n (n + 1) (n + 1 + 1) (name_line (Some name) ++ (codes "EDGES\n" ++ rest)) (codes "EDGES\n" ++ rest) rest (named_line name n ∷ [])
    (word_line Edges (codes "EDGES") (n + 1) ∷ [])
    (subst (λ (text : List ℕ). HasLines n text (named_line name n ∷ []) (n + 1) (codes "EDGES\n" ++ rest))
    (sym (name_text name (codes "EDGES\n" ++ rest))) own) (edges_line (n + 1) rest)

five : (a b c d e rest : List ℕ) → (a ++ b ++ c ++ d ++ e) ++ rest ≡ a ++ (b ++ (c ++ (d ++ (e ++ rest))))
five a b c d e rest =
    append_assoc (a ++ b ++ c ++ d) e rest ∙ append_assoc (a ++ b ++ c) d (e ++ rest) ∙ append_assoc (a ++ b) c (d ++ (e ++ rest))
    ∙ append_assoc a b (c ++ (d ++ (e ++ rest)))

module _ (name : Option (List ℕ)) (G : Graph) (v n : ℕ) (rest : List ℕ) (dim : (G.dimension ≡ 2) ⊎ (G.dimension ≡ 3))
    (rows : AreRowEdges G.dimension v G.edges) (named : MayBeName name) where
  -- the number of the first row
  abbrev pub first_row : ℕ
  first_row = after_name name (n + 1) + 1

  -- and of the line that ends the block
  abbrev pub last_line : ℕ
  last_line = after_rows first_row G.edges

  -- the lines between the first and the last, the nearest first
  abbrev pub inner_lines : List LineView
  inner_lines = rows_back G.dimension first_row (head_lines name (n + 1)) G.edges

  abbrev last : LineView
  last = word_line End (codes "END") last_line

  abbrev forward : List LineView
  forward = row_lines G.dimension first_row G.edges

  end_line : HasLines last_line (codes "END\n" ++ rest) (last ∷ []) (last_line + 1) rest
  end_line = one_line last_line (codes "END") rest last (no_feed (codes "END") refl) (λ at. end_read at last_line)

  after_head : HasLines first_row (edge_lines G.dimension G.edges ++ (codes "END\n" ++ rest)) (forward ++ last ∷ []) (last_line + 1) rest
  after_head = more_lines first_row last_line (last_line + 1) (edge_lines G.dimension G.edges ++ (codes "END\n" ++ rest)) (codes "END\n" ++ rest) rest forward
      (last ∷ [])
      (rows_read G.dimension v G.edges first_row (codes "END\n" ++ rest) dim rows) end_line

  after_first : HasLines (n + 1) (name_line name ++ (codes "EDGES\n" ++ (edge_lines G.dimension G.edges ++ (codes "END\n" ++ rest))))
      (head_forward name (n + 1) ++ (forward ++ last ∷ [])) (last_line + 1) rest
  after_first = search (arith, more_lines, head_read, after_head)

  whole : HasLines n (graph_text name G ++ rest) (word_line Opening (codes "PERIODIC_GRAPH") n ∷ [] ++ (head_forward name (n + 1) ++ (forward ++ last ∷ [])))
      (last_line + 1) rest
  whole =
      let tail = name_line name ++ (codes "EDGES\n" ++ (edge_lines G.dimension G.edges ++ (codes "END\n" ++ rest))) in
      let opening = word_line Opening (codes "PERIODIC_GRAPH") n in
      subst (λ (text : List ℕ). HasLines n text (opening ∷ [] ++ (head_forward name (n + 1) ++ (forward ++ last ∷ []))) (last_line + 1) rest)
      (sym (five (codes "PERIODIC_GRAPH\n") (name_line name) (codes "EDGES\n") (edge_lines G.dimension G.edges) (codes "END\n") rest))
      (more_lines n (n + 1) (last_line + 1) (codes "PERIODIC_GRAPH" ++ 10 ∷ tail) tail rest (opening ∷ []) (head_forward name (n + 1) ++ (forward ++ last ∷ []))
      (one_line n (codes "PERIODIC_GRAPH") tail opening (no_feed (codes "PERIODIC_GRAPH") refl) (λ at. opening_read at n)) after_first)

  -- wherever the text begins, its lines are the first, those between, the last, and the lines of the rest
  pub place_after : ℕ → ℕ
  place_after at = whole.place at

  pub graph_lines : (at : ℕ) → lines_at at n (graph_text name G ++ rest)
      ≡ word_line Opening (codes "PERIODIC_GRAPH") n ∷ in_order inner_lines
      (word_line End (codes "END") last_line ∷ lines_at (place_after at) (last_line + 1) rest)
  unfolding place_after
  graph_lines at =
      let left = lines_at (whole.place at) (last_line + 1) rest in
      let tail : (head_forward name (n + 1) ++ (forward ++ last ∷ [])) ++ left ≡ in_order inner_lines (last ∷ left) =
      append_assoc (head_forward name (n + 1)) (forward ++ last ∷ []) left
      ∙ ap (λ (ls : List LineView). head_forward name (n + 1) ++ ls) (append_assoc forward (last ∷ []) left)
      ∙ in_order_head name (n + 1) (forward ++ last ∷ left)
      ∙ in_order_rows G.dimension first_row (head_lines name (n + 1)) G.edges (last ∷ left) in
      whole.is at ∙ ap (λ (ls : List LineView). word_line Opening (codes "PERIODIC_GRAPH") n ∷ ls) tail

-- no block begins among lines that pass
pub passed_over : (earlier later : List LineView) → AllPass graph_units earlier → blocks_from true (in_order earlier later) ≡ blocks_from true later
passed_over [] later h = refl
passed_over (line ∷ earlier) later h = passed_over earlier (line ∷ later) h.2 ∙ ap (λ (t : Bool). cond t (blocks_from false later) (blocks_from true later)) h.1

-- these lines have passed: those before the rows and the rows of these edges, the nearest first
pub record HavePassed (d : ℕ) (name : Option (List ℕ)) (lines : List LineView) (done : List Arc) : Type 0 where
  pub pass : AllPass graph_units lines
  pub under : under_edges lines ≡ true
  pub rows : rows_in lines ≡ rows_of d done
  pub name_is : name_of lines ≡ name

-- the lines before the rows pass
pub head_passes : (d : ℕ) (name : Option (List ℕ)) (n : ℕ) → MayBeName name → HavePassed d name (head_lines name n) []
head_passes d name n k = grind (arith, within)

-- the name of a vertex is short
short_name : (u n : ℕ) → u ≤ n → n ≤ most_vertices → is_long (decimal u) ≡ false
short_name u n l m = within 200 (length (decimal u)) (let k = length-decimal-le 3 u (omega arith) (omega (arith, l, m)) (omega (arith, l, m)) in
    omega (arith, k))

-- the sizes of rows
first_size_is : (d : ℕ) (e : Arc) (es : List Arc) → first_size (rows_of d (e ∷ es)) ≡ d + 2
first_size_is d e [] = refl
first_size_is d e (f ∷ es) = by (first_size (rows_of d (f ∷ es)) == 0) (first_size_is d f es)
  where
    by : (t : Bool) → first_size (rows_of d (f ∷ es)) ≡ d + 2 → cond t (d + 2) (first_size (rows_of d (f ∷ es))) ≡ d + 2
    by t h = grind arith

pub size_of_rows : (d : ℕ) (es : List Arc) → has_rows (rows_of d es) ≡ true → first_size (rows_of d es) ≡ d + 2
size_of_rows d [] h = absurd (false≢true h)
size_of_rows d (e ∷ es) h = first_size_is d e es

-- what the tests say, by parts

bad_token : (under row : Bool) → under ≡ true → (not under || (row && false)) ≡ false
bad_token under row h = search (arith, false≢true)

long_name : (row u v : Bool) → u ≡ false → v ≡ false → (row && (u || v)) ≡ false
long_name row u v h k = search arith

never : (row t : Bool) → t ≡ false → (row && t) ≡ false
never row t h = search arith

wrong_length : (d : ℕ) → (d ≡ 2) ⊎ (d ≡ 3) → not (d + 2 == 4 || d + 2 == 5) ≡ false
wrong_length d h = search arith

other_length : (some : Bool) (m n : ℕ) → (some ≡ true → n ≡ m) → (some && not (m == n)) ≡ false
other_length some m n k = search arith

self_edge : (d n : ℕ) (e : Arc) → IsRowEdge d n e → is_self_edge (row_fields d e) ≡ false
self_edge d n e h = grind (arith, cases_Bool, and_parts, decimal_injective, bytes_eq-Decides, vector_equal)

some_size : (d : ℕ) → nat_lt 0 (d + 2) ≡ true
some_size d = grind (arith, nat_tests)

-- a row brings not too many vertices, and not too many edges
vertices_fit : (d n : ℕ) (es : List Arc) → AreRowEdges d n es → n ≤ most_vertices → nat_lt most_vertices (length (vertices_of (rows_of d es))) ≡ false
vertices_fit d n es h l = search (arith, names_are, length-map, few_vertices, within)

edges_fit : (d : ℕ) (es : List Arc) → length es ≤ most_edges → nat_lt most_edges (length (edges_of (rows_of d es))) ≡ false
edges_fit d es l = let few = few_edges d es in within most_edges (length (edges_of (rows_of d es))) (omega (arith, few, l))

-- these edges and others after them, the nearest first
abbrev pub done_after : List Arc → List Arc → List Arc
done_after done [] = done
done_after done (e ∷ es) = done_after (e ∷ done) es

module _ (d n : ℕ) (dim : (d ≡ 2) ⊎ (d ≡ 3)) (name : Option (List ℕ)) where
  rows_now : (e : Arc) (done : List Arc) (lines : List LineView) (m : ℕ) → HavePassed d name lines done
      → rows_in (row_line d e m ∷ lines) ≡ rows_of d (e ∷ done)
  rows_now e done lines m h = search (arith, some_size)

  -- one row more
  row_passes : (e : Arc) (done : List Arc) (lines : List LineView) (m : ℕ) → AreRowEdges d n (e ∷ done) → length (e ∷ done) ≤ most_edges
      → HavePassed d name lines done
      → HavePassed d name (row_line d e m ∷ lines) (e ∷ done)
  row_passes e done lines m edges few h =
      let row = nat_lt 0 (d + 2) in let now = rows_now e done lines m h in let own = edges.0 in
      let short = long_name row (is_long (decimal e.from)) (is_long (decimal e.to)) (short_name e.from n own.from.1 own.few)
      (short_name e.to n own.to.1 own.few) in
      let length_is = never row (not (d + 2 == 4 || d + 2 == 5)) (wrong_length d dim) in
      let same_length = never row (has_rows (rows_in lines) && not (d + 2 == first_size (rows_in lines)))
      (other_length (has_rows (rows_in lines)) (d + 2) (first_size (rows_in lines))
      (subst (λ (rows : List FieldsView). has_rows rows ≡ true → first_size rows ≡ d + 2) (sym h.rows) (size_of_rows d done))) in
      let no_self = never row (is_self_edge (row_fields d e)) (self_edge d n e own) in
      let vertices = ap (λ (rows : List FieldsView). nat_lt most_vertices (length (vertices_of rows))) now ∙ vertices_fit d n (e ∷ done) edges own.few in
      let count = ap (λ (rows : List FieldsView). nat_lt most_edges (length (edges_of rows))) now ∙ edges_fit d (e ∷ done) few in
      let token = bad_token (under_edges lines) row h.under in let bound = never row false refl in
      record {
        pass = ((refl, (refl, (token, (short, (length_is, (same_length, (bound, (no_self, (vertices, (count, (refl, tt))))))))))), refl, h.pass);
        under = h.under;
        rows = now;
        name_is = h.name_is;
      }

  -- all rows
  pub rows_pass : (es done : List Arc) (lines : List LineView) (m : ℕ) → AreRowEdges d n done → AreRowEdges d n es → length done + length es ≤ most_edges
      → HavePassed d name lines done
      → HavePassed d name (rows_back d m lines es) (done_after done es)
  rows_pass [] done lines m old new few h = h
  rows_pass (e ∷ es) done lines m old new few h =
      rows_pass es (e ∷ done) (row_line d e m ∷ lines) (m + 1) (new.0, old) new.1 (omega (arith, few))
      (row_passes e done lines m (new.0, old) (omega (arith, few)) h)

  -- the line that ends the block
  abbrev closing_line : ℕ → LineView
  closing_line m = word_line End (codes "END") m

  end_passes : (e : Arc) (done : List Arc) (lines : List LineView) (m : ℕ) → AreRowEdges d n (e ∷ done) → length (e ∷ done) ≤ most_edges
      → HavePassed d name lines (e ∷ done)
      → AllFalse (table lines (closing_line m))
  end_passes e done lines m edges few h =
      let vertices = ap (λ (rows : List FieldsView). nat_lt most_vertices (length (vertices_of rows))) h.rows ∙ vertices_fit d n (e ∷ done) edges edges.0.few in
      let count = ap (λ (rows : List FieldsView). nat_lt most_edges (length (edges_of rows))) h.rows ∙ edges_fit d (e ∷ done) few in
      let some = ap (λ (rows : List FieldsView). not (has_rows rows)) h.rows in
      (refl, (refl, (refl, (refl, (refl, (refl, (refl, (refl, (vertices, (count, (some, tt)))))))))))

  -- the block of lines that have passed, and the blocks after it
  pub block_is : (opening : LineView) (e : Arc) (done : List Arc) (lines left : List LineView) (m : ℕ) → AreRowEdges d n (e ∷ done)
      → length (e ∷ done) ≤ most_edges
      → HavePassed d name lines (e ∷ done)
      → graph_block opening.number [] (in_order lines (closing_line m ∷ left)) ≡ with_body opening.number lines (Net (net_of (rows_in lines)))
  block_is opening e done lines left m edges few h =
      from_start graph_units opening.number lines (closing_line m ∷ left) h.pass
      ∙ ap (λ fault. or_fault fault (λ kind. with_body opening.number lines (malformed m kind))
      (with_body opening.number lines (Net (net_of (rows_in lines)))))
      (none_true (table lines (closing_line m)) (end_passes e done lines m edges few h))

-- an edge in normal spelling is no loop with shift 0
no_point : (e : Arc) → IsNormalSpelling e → e.from ≡ e.to → e.shift ≢ zero_vector
no_point e h k p = search (arith, not_below_itself)

-- the edges of a graph within the limits are printed as rows
row_edges : (G : Graph) (es : List Arc) → G.vertices ≤ most_vertices → All (IsEdge G) es → All (λ e. IsWithin most_shift e.shift) es
    → AreRowEdges G.dimension G.vertices es
row_edges G [] l a b = tt
row_edges G (e ∷ es) l a b =
    let i = All-head (IsEdge G) e es a in (
      record {
        from = i.from;
        to = i.to;
        few = l;
        flat = i.shift;
        small = All-head (λ (e : Arc). IsWithin most_shift e.shift) e es b;
        no_point =
            no_point e i.spelling;
        spelling = i.spelling;
      },
      row_edges G es l (All-tail (IsEdge G) e es a) (All-tail (λ (e : Arc). IsWithin most_shift e.shift) e es b),
    )

-- the same edges, the nearest first

rows_done : (d n : ℕ) (done es : List Arc) → AreRowEdges d n done → AreRowEdges d n es → AreRowEdges d n (done_after done es)
rows_done d n done [] a b = a
rows_done d n done (e ∷ es) a b = rows_done d n (e ∷ done) es (b.0, a) b.1

in_done : (done es : List Arc) (e : Arc) → IsIn done e ⊎ IsIn es e → IsIn (done_after done es) e
in_done done [] e (inl h) = h
in_done done [] e (inr h) = absurd h
in_done done (f ∷ es) e (inl h) = in_done (f ∷ done) es e (inl (inr h))
in_done done (f ∷ es) e (inr (inl q)) = in_done (f ∷ done) es e (inl (inl q))
in_done done (f ∷ es) e (inr (inr h)) = in_done (f ∷ done) es e (inr h)

done_in : (done es : List Arc) (e : Arc) → IsIn (done_after done es) e → IsIn done e ⊎ IsIn es e
done_in done [] e h = inl h
done_in done (f ∷ es) e h = elim (done_in (f ∷ done) es e h) [
  | inl i ↦ elim i [ inl q ↦ inr (inl q) | inr j ↦ inl j ]
  | inr i ↦ inr (inr i)
]

length_done : (done es : List Arc) → length (done_after done es) ≡ length done + length es
length_done done [] = omega arith
length_done done (e ∷ es) = let k = length_done (e ∷ done) es in omega (arith, k)

order_done : (done es : List Arc) → order_back (done_after done es) ≡ fold order_after (order_back done) es
order_done done [] = refl
order_done done (e ∷ es) = order_done (e ∷ done) es

-- no edge among them, and none twice
abbrev AreNew : List Arc → List Arc → Type 0
AreNew done es = (e : Arc) → IsIn es e → ¬ IsIn done e

apart_done : (done es : List Arc) → AreApart done → AreApart es → AreNew done es → AreApart (done_after done es)
apart_done done [] a b n = a
apart_done done (e ∷ es) a b n = apart_done (e ∷ done) es (n e (inl refl), a) b.1
    (λ f i j. elim j [ inl q ↦ b.0 (subst (IsIn es) (sym q) i) | inr k ↦ n f (inr i) k ])

-- what a list that is mapped has
map_in : {X Y : Type 0} (f : X → Y) (xs : List X) (y : Y) → IsIn (map f xs) y → (x : X) × IsIn xs x × (f x ≡ y)
map_in f [] y h = absurd h
map_in f (x ∷ xs) y (inl q) = (x, inl refl, q)
map_in f (x ∷ xs) y (inr h) = let r = map_in f xs y h in (r.0, inr r.1, r.2)

some_rows : (d : ℕ) (es : List Arc) (e : Arc) → IsIn es e → has_rows (rows_of d es) ≡ true
some_rows d [] e h = absurd h
some_rows d (f ∷ es) e h = refl

module _ (p : NamedGraph) (h : MayBePrinted p) where
  abbrev G : Graph
  G = p.graph

  abbrev done : List Arc
  done = done_after [] G.edges

  edges : AreRowEdges G.dimension G.vertices G.edges
  edges = row_edges G G.edges h.small.vertices h.is_graph.edges h.small.shifts

  done_edges : AreRowEdges G.dimension G.vertices done
  done_edges = rows_done G.dimension G.vertices [] G.edges tt edges

  listed : (e : Arc) → IsIn G.edges e → IsIn done e
  listed e i = in_done [] G.edges e (inr i)

  listed_back : (e : Arc) → IsIn done e → IsIn G.edges e
  listed_back e i = elim (done_in [] G.edges e i) [ inl f ↦ absurd f | inr j ↦ j ]

  mentioned : (u : ℕ) → IsQuotientVertex G u → IsIn (order_back done) u
  mentioned u v =
      let s = h.ends u v in let i = ends_in done s.edge (listed s.edge (is_in G.edges s.edge s.is_edge)) in
      elim s.meets [
        | inl q ↦ subst (λ (k : ℕ). IsIn (order_back done) k) q i.0
        | inr q ↦ subst (λ (k : ℕ). IsIn (order_back done) k) q i.1
      ]

  done_apart : AreApart done
  done_apart = apart_done [] G.edges tt (apart_from_pairs G.edges h.is_graph.different) (λ e i f. f)

  -- there is an edge
  some_edge : (e : Arc) × IsIn done e
  some_edge = let s = h.ends 1 (omega arith, h.is_graph.vertices) in (s.edge, listed s.edge (is_in G.edges s.edge s.is_edge))

  few : length done ≤ most_edges
  few = let k = length_done [] G.edges in let l = h.small.edges in omega (arith, k, l)

  -- what is read
  abbrev raw : RawView
  raw = net_of (rows_of G.dimension done)

  names : raw.names ≡ map decimal (order_of G.edges)
  names = names_are G.dimension G.vertices done done_edges ∙ ap (map decimal) (order_done [] G.edges)

  dimension : G.dimension ≡ raw.dim
  dimension = let s = size_of_rows G.dimension done (some_rows G.dimension done some_edge.0 some_edge.1) in omega (arith, s)

  count : length raw.names ≡ length (order_back done)
  count = ap length (names_are G.dimension G.vertices done done_edges) ∙ length-map (order_back done) decimal

  there_edge : (e : Arc) → IsIn G.edges e → IsIn (map edge_of raw.edges) (edge_of (renumbered (order_back done) e))
  there_edge e i = in_map edge_of raw.edges (renumbered (order_back done) e) (edges_in G.dimension G.vertices done done_edges e (listed e i))

  back_edge : (y : Arc) → IsIn (map edge_of raw.edges) y → (e : Arc) × IsIn G.edges e × (edge_of (renumbered (order_back done) e) ≡ y)
  back_edge y i = grind (arith, map_in, edges, read_edges, done_edges, listed_back)

  read_iso : Iso G (graph_of raw)
  read_iso = renumbered_iso G (graph_of raw) done done_edges dimension count listed mentioned there_edge back_edge

  read_there : (w : Vertex) → read_iso.there w ≡ vertex (new_number (order_of G.edges) w.over) w.cell
  unfolding read_iso
  read_there w = grind (arith, renumbered_there, done_edges, mentioned, there_edge, back_edge, order_done, edges)

  module _ (at n : ℕ) (rest : List ℕ) where
    abbrev lines : List LineView
    lines = inner_lines p.name G G.vertices n rest h.is_graph.dimension edges h.name

    passed : HavePassed G.dimension p.name lines done
    passed = rows_pass G.dimension G.vertices h.is_graph.dimension p.name G.edges [] (head_lines p.name (n + 1))
        (first_row p.name G G.vertices n rest h.is_graph.dimension edges h.name) tt edges
        (let l = h.small.edges in omega (arith, l)) (head_passes G.dimension p.name (n + 1) h.name)

    -- the block
    abbrev block : BlockView
    block = with_body n lines (Net (net_of (rows_in lines)))

    block_is_back : IsReadBack p block
    block_is_back = record {
      raw = raw;
      name = passed.name_is;
      body = ap (λ (rows : List FieldsView). Net (net_of rows)) passed.rows;
      names = names;
      repeats = no_repeats G.dimension G.vertices done done_edges done_apart;
      iso = read_iso;
      there = read_there;
    }

    abbrev opening : LineView
    opening = word_line Opening (codes "PERIODIC_GRAPH") n

    abbrev last_number : ℕ
    last_number = last_line p.name G G.vertices n rest h.is_graph.dimension edges h.name

    abbrev left : List LineView
    left = lines_at (place_after p.name G G.vertices n rest h.is_graph.dimension edges h.name at) (last_number + 1) rest

    -- the first block, and those of the rest
    one_block : blocks_from false (lines_at at n (graph_text p.name G ++ rest)) ≡ block ∷ blocks_from false left
    one_block =
        ap (blocks_from false) (graph_lines p.name G G.vertices n rest h.is_graph.dimension edges h.name at)
        ∙ (λ i. own done some_edge.1 done_edges few passed i ∷ passed_over lines (word_line End (codes "END") last_number ∷ left) passed.pass i)
      where
        own : (es : List Arc) → IsIn es some_edge.0 → AreRowEdges G.dimension G.vertices es → length es ≤ most_edges → HavePassed G.dimension p.name lines es
            → graph_block n [] (in_order lines (word_line End (codes "END") last_number ∷ left)) ≡ block
        own [] i a l b = absurd i
        own (e ∷ es) i a l b = block_is G.dimension G.vertices h.is_graph.dimension p.name opening e es lines left last_number a l b

-- all blocks
blocks_back : (ps : List NamedGraph) (at n : ℕ) → All MayBePrinted ps → AreReadBack ps (blocks_from false (lines_at at n (blocks_text ps)))
blocks_back [] at n h = tt
blocks_back (p ∷ ps) at n h =
    let own = All-head MayBePrinted p ps h in let others = All-tail MayBePrinted p ps h in
    subst (AreReadBack (p ∷ ps)) (sym (one_block p own at n (blocks_text ps))) (
      block_is_back p own at n (blocks_text ps),
      blocks_back ps (place_after p.name p.graph p.graph.vertices n (blocks_text ps) own.is_graph.dimension
          (edges p own) own.name at) (last_number p own at n (blocks_text ps) + 1) others,
    )

pub blocks_are_read_back : BlocksAreReadBack
blocks_are_read_back ps h = blocks_back ps 0 1 h
