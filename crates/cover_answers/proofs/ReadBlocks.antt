-- The nets that are read, and their covers, may be printed: each vertex is an end of an edge, and names may stand between quotes.
use Rattle.std.proofs.Common.{◌≡◌, ◌⊎◌, inl, inr, ℕ, ◌<◌, ◌≤◌, Bool, List, [], ◌∷◌, ◌++◌, length, length-append, map, refl, sym, ap, subst, arith, ◌≢◌, ◌+◌}
use Rattle.std.proofs.Common.{◌==◌, true, false, cond, Some, ◌∙◌, ◌||◌, ◌&&◌, nat_lt, Option, None}
use Rattle.std.proofs.lemmas.Bool.{cases_lt, false≢true, true≢false}
use Rattle.std.proofs.lemmas.List.Elements.{All-nil, All-cons, All-head, All-tail, All-append, All-weaker}
use Rattle.std.specs.List.{slice_split, onto_first, flat_map}
use Rattle.std.{proofs.lemmas.Bool.Decides.nat_tests, proofs.lemmas.Slice.Eq.bytes_eq-Decides, proofs.lemmas.List.Sorted.Contains-permutation}
use Rattle.std.{proofs.lemmas.Option.none-some, specs.Str.bytes_eq, specs.Prelude.All}
use Rattle.integers.{proofs.lists.Members.IsIn, proofs.lists.Members.contains_from_in, proofs.vectors.Laws.minus_plus, proofs.vectors.Laws.plus_dimension}
use Rattle.integers.{specs.Vectors.zero_vector, specs.Vectors.plus}
use Rattle.integers.proofs.lists.Members.{all_before, all_after}
use Rattle.periodic_net.specs.Graph.{Graph, Arc, arc, reverse_of, IsArc, IsGraph, IsQuotientVertex, Vertex, vertex, IsVertex, AreJoined}
use Rattle.periodic_net.{specs.Maps.Iso, proofs.CallerLemmas.arc_inside, proofs.CallerLemmas.arc_turned}
use Rattle.key_theory.proofs.CallerLemmas.{arc_by_edge, edge_is_arc}
use Rattle.quotient_graph.specs.Stars.{IsInOrder}
use Rattle.cgd_read.specs.Spelling.{is_forward, spelled, edge_of}
use Rattle.cgd_read.specs.Edges.{with_new, vertices_of, vertex_number, row_edge, edges_of, same_edge}
use Rattle.cgd_read.specs.Lines.{FieldsView, LineView, line_of, line_with, name_of_fields, is_bare, kind_of, token_lines}
use Rattle.cgd_read.specs.Units.{or_fault}
use Rattle.cgd_read.specs.Blocks.{blocks_from, block_by, block_of, graph_block, malformed, with_body}
use Rattle.cgd_read.specs.Faults.{is_end, is_name, is_long_name, name_after, name_of, rows_in, fault_of, table}
use Rattle.cgd_read.specs.Views.{BlockView, BodyView, Net, Other, RawView}
use Rattle.cgd_read.{specs.Graphs.graph_of, specs.Graphs.net_of, specs.declared.edge.RawEdge.RawEdge, specs.declared.line.LineKind.LineKind}
use Rattle.cgd_read.{specs.declared.line.LineKind.TheVariants.Opening, specs.declared.block.BlockFaultKind.BlockFaultKind}
use Rattle.cgd_read.{specs.declared.block.BlockFaultKind.TheVariants.BadToken, specs.declared.block.BlockFaultKind.TheVariants.NoEnd}
use Rattle.cgd_read.{proofs.CallerLemmas.all_false}
use Rattle.cgd_lex.specs.Pieces.{Piece, Closed, Unclosed, Control, Run, bytes_of, cut_of, is_run_byte, IsCut, MayStand}
use Rattle.cgd_lex.specs.Tokens.{TokenView, tokens_of, tokens_of_line, tokens_of_pieces, token_at, kind_of_piece, is_whole, newline, later_lines, lines_of}
use Rattle.cgd_lex.specs.Tokens.{first_line, others_of}
use Rattle.cgd_lex.specs.declared.token.TokenKind.TheVariants.{Word, Whole, Quoted, Bad}
use Rattle.cgd_lex.{specs.Lines.is_newline, specs.Lines.filled_line, specs.Words.name_in, specs.declared.token.TokenKind.TokenKind, proofs.Cuts.is_cut}
use Rattle.cgd_lex.{proofs.Steps.split_some}
use Rattle.cover_answers.proofs.NewLists.{has_new, keeps, grown_is, place_none}
use Rattle.cover_answers.{specs.Printed.EndsAt, specs.Printed.MayBeName, specs.TextLaws.CoversMayBePrinted, proofs.NamedRows.edge_decides}
use Rattle.cover_answers.{proofs.LineTokens.inner_is, proofs.LineTokens.HasNoFeed}

-- an edge of the list ends at this number
pub record MeetsNumber (es : List RawEdge) (k : ℕ) : Type 0 where
  pub edge : RawEdge
  pub is_edge : IsIn es edge
  pub meets : (edge.u ≡ k) ⊎ (edge.v ≡ k)

meets_kept : (es : List RawEdge) (e : RawEdge) (k : ℕ) → MeetsNumber es k → MeetsNumber (with_new same_edge es e) k
meets_kept es e k h = record { edge = h.edge; is_edge = keeps same_edge edge_decides es e h.edge h.is_edge; meets = h.meets }

-- a spelled edge has both ends
spelled_ends : (t : Bool) (u v : ℕ) (row : FieldsView)
    → (((spelled t u v row.x row.y row.z).u ≡ u) ⊎ ((spelled t u v row.x row.y row.z).v ≡ u))
    × (((spelled t u v row.x row.y row.z).u ≡ v) ⊎ ((spelled t u v row.x row.y row.z).v ≡ v))
spelled_ends t u v row = search arith

-- a list that has grown has the old places, and if it has a new one it is that of the new name
grown_places : (names : List (List ℕ)) (name : List ℕ) (k : ℕ) → 1 ≤ k → k ≤ length (with_new bytes_eq names name)
    → (k ≤ length names) ⊎ (vertex_number names name ≡ k)
grown_places names name = grown_is bytes_eq bytes_eq-Decides (λ (l : List (List ℕ)). (k : ℕ) → 1 ≤ k → k ≤ length l
    → (k ≤ length names) ⊎ (vertex_number names name ≡ k)) names name
    (λ h k a b. inl b)
    (λ n k a b. by n k a b (cases_lt (length names) k))
  where
    by : ¬ IsIn names name → (k : ℕ) → 1 ≤ k → k ≤ length (names ++ name ∷ []) → (length names < k) ⊎ (k ≤ length names)
        → (k ≤ length names) ⊎ (vertex_number names name ≡ k)
    by n k a b (inr l) = inl l
    by n k a b (inl l) = inr (let p = place_none bytes_eq bytes_eq-Decides names name n in let q = length-append names (name ∷ []) in omega (arith, p, q, b, l))

pub rows_meet : (rows : List FieldsView) (k : ℕ) → 1 ≤ k → k ≤ length (vertices_of rows) → MeetsNumber (edges_of rows) k
rows_meet [] k a b = absurd (omega (arith, a, b))
rows_meet (row ∷ rows) k a b =
    let names = vertices_of rows in let u = vertex_number names row.u in
    let v = vertex_number (with_new bytes_eq names row.u) row.v in let e = row_edge names row in
    let ends = spelled_ends (is_forward u v row.x row.y row.z) u v row in
    let own : IsIn (edges_of (row ∷ rows)) e = has_new same_edge edge_decides (edges_of rows) e in
    elim (grown_places (with_new bytes_eq names row.u) row.v k a b) [
      | inl l ↦ elim (grown_places names row.u k a l) [
        | inl m ↦ meets_kept (edges_of rows) e k (rows_meet rows k a m)
        | inr q ↦ record { edge = e; is_edge = own; meets = subst (λ (n : ℕ). (e.u ≡ n) ⊎ (e.v ≡ n)) q ends.0 }
      ]
      | inr q ↦ record { edge = e; is_edge = own; meets = subst (λ (n : ℕ). (e.u ≡ n) ⊎ (e.v ≡ n)) q ends.1 }
    ]

-- so each vertex of the graph of rows is an end
pub in_map : {X Y : Type 0} (f : X → Y) (xs : List X) (x : X) → IsIn xs x → IsIn (map f xs) (f x)
in_map f [] x h = absurd h
in_map f (y ∷ ys) x (inl q) = inl (ap f q)
in_map f (y ∷ ys) x (inr h) = inr (in_map f ys x h)

pub read_ends : (rows : List FieldsView) (k : ℕ) → IsQuotientVertex (graph_of (net_of rows)) k → EndsAt (graph_of (net_of rows)) k
read_ends rows k v =
    let m = rows_meet rows k v.0 v.1 in
    record {
      edge = edge_of m.edge;
      is_edge = contains_from_in (map edge_of (edges_of rows)) (edge_of m.edge)
          (in_map edge_of (edges_of rows) m.edge m.is_edge);
      meets = m.meets;
    }

-- the same edges in another order have the same ends
pub order_ends : (G H : Graph) → IsInOrder G H → ((u : ℕ) → IsQuotientVertex G u → EndsAt G u) → (u : ℕ) → IsQuotientVertex H u → EndsAt H u
order_ends G H o ends u v =
    let h = ends u (v.0, subst (λ (n : ℕ). u ≤ n) o.vertices v.1) in
    record { edge = h.edge; is_edge = Contains-permutation G.edges H.edges h.edge o.edges h.is_edge; meets = h.meets }

-- an arc from a vertex
record ArcFrom (G : Graph) (u : ℕ) : Type 0 where
  a : Arc
  is_arc : IsArc G a
  from : a.from ≡ u

end_arc : (G : Graph) (u : ℕ) → EndsAt G u → ArcFrom G u
end_arc G u h = elim h.meets [
  | inl q ↦ record { a = h.edge; is_arc = edge_is_arc G h.edge h.is_edge; from = q }
  | inr q ↦ record { a = reverse_of h.edge; is_arc = turned; from = q }
]
  where
    turned : IsArc G (reverse_of h.edge)
    turned = arc_turned G h.edge (edge_is_arc G h.edge h.is_edge)

arc_end : (G : Graph) (a : Arc) → IsArc G a → EndsAt G a.from
arc_end G a m = elim (arc_by_edge G a m) [
  | inl c ↦ record { edge = a; is_edge = c; meets = inl refl }
  | inr c ↦ record { edge = reverse_of a; is_edge = c; meets = inr refl }
]

-- isomorphisms keep that each vertex is an end
pub iso_ends : (G H : Graph) → IsGraph G → Iso G H → ((u : ℕ) → IsQuotientVertex G u → EndsAt G u) → (u : ℕ) → IsQuotientVertex H u → EndsAt H u
iso_ends G H g iso ends u v =
    let x = vertex u zero_vector in let vx : IsVertex H x = record { over = v; cell = λ two. refl } in
    let w = iso.back x in let vw = iso.back_period.2.into x vx in
    let s = end_arc G w.over (ends w.over vw.over) in let inside = arc_inside G g s.a s.is_arc in
    let y = vertex s.a.to (plus w.cell s.a.shift) in
    let vy : IsVertex G y = record { over = inside.to; cell = plus_dimension G.dimension w.cell s.a.shift vw.cell inside.shift } in
    let joined : AreJoined G w y = subst (IsArc G) (λ t. arc (s.from t) s.a.to (sym (minus_plus w.cell s.a.shift) t)) s.is_arc in
    let there = arc_end H _ (iso.there_joins w y vw vy joined) in
    subst (EndsAt H) (ap (λ (z : Vertex). z.over) (iso.there_back x vx)) there

-- a byte of a name
abbrev pub IsNameByte : ℕ → Type 0
IsNameByte b = (b ≢ 34) × (b ≢ 10)

-- what stands in no piece at which a list is split
module _ {X : Type 0} (p : X → Bool) (P : X → Type 0) where
  abbrev pub IsInPiece : X → Type 0
  IsInPiece x = P x × (p x ≡ false)

  abbrev pub ArePieces : List (List X) → Type 0
  ArePieces ls = All (λ (l : List X). All IsInPiece l) ls

  onto_piece : (x : X) (ls : List (List X)) → IsInPiece x → ArePieces ls → ArePieces (onto_first x ls)
  onto_piece x [] h k = All-cons (λ (l : List X). All IsInPiece l) (x ∷ []) [] (All-cons IsInPiece x [] h (All-nil IsInPiece))
      (All-nil (λ (l : List X). All IsInPiece l))
  onto_piece x (l ∷ ls) h k =
      All-cons (λ (l : List X). All IsInPiece l) (x ∷ l) ls (All-cons IsInPiece x l h (All-head (λ (l : List X). All IsInPiece l) l ls k))
      (All-tail (λ (l : List X). All IsInPiece l) l ls k)

  pub split_pieces : (xs : List X) → All P xs → ArePieces (slice_split p xs)
  split_pieces [] h = All-cons (λ (l : List X). All IsInPiece l) [] [] (All-nil IsInPiece) (All-nil (λ (l : List X). All IsInPiece l))
  split_pieces (x ∷ xs) h = by (p x) refl (split_pieces xs (All-tail P x xs h))
    where
      by : (t : Bool) → p x ≡ t → ArePieces (slice_split p xs) → ArePieces (cond t ([] ∷ slice_split p xs) (onto_first x (slice_split p xs)))
      by true e k = All-cons (λ (l : List X). All IsInPiece l) [] (slice_split p xs) (All-nil IsInPiece) k
      by false e k = onto_piece x (slice_split p xs) (All-head P x xs h, e) k

-- where a token is no Newline, the name that it gives may stand between quotes
abbrev pub GivesName : TokenView → Type 0
GivesName t = is_newline t.kind ≡ false → (name : List ℕ) → name_in t ≡ Some name → All IsNameByte name

not_feed : (b : ℕ) → (b == 10) ≡ false → b ≢ 10
not_feed b h e = true≢false (sym (ap (λ (c : ℕ). c == 10) e) ∙ h)

run_byte : (b : ℕ) → is_run_byte b ≡ true → IsNameByte b
run_byte b h = ((λ e. false≢true (sym (ap is_run_byte e) ∙ h)), (λ e. false≢true (sym (ap is_run_byte e) ∙ h)))

some_inside : (xs ys : List ℕ) → Some xs ≡ Some ys → xs ≡ ys
some_inside xs ys e = cc

both_facts : (bs : List ℕ) → All (λ b. b ≢ 34) bs → HasNoFeed bs → All IsNameByte bs
both_facts bs l p = search (arith, not_feed)

one_token : (at n : ℕ) (bytes : List ℕ) (kind : TokenKind) → ((name : List ℕ)
    → name_in (record { kind = kind; text = bytes; start = at; line = n }) ≡ Some name → All IsNameByte name)
    → All GivesName (token_at at n bytes (Some kind))
one_token at n bytes kind h = All-cons GivesName (record { kind = kind; text = bytes; start = at; line = n }) [] (λ e. h) (All-nil GivesName)

piece_token : (at n : ℕ) (p : Piece) (rest : List ℕ) → MayStand p rest → HasNoFeed (bytes_of p) → All GivesName (token_at at n (bytes_of p) (kind_of_piece p))
piece_token at n (Unclosed bs) rest may none = one_token at n (bytes_of (Unclosed bs)) Bad (λ name e. absurd (none-some name e))
piece_token at n (Control b) rest may none = one_token at n (bytes_of (Control b)) Bad (λ name e. absurd (none-some name e))
piece_token at n (Closed bs) rest may none = one_token at n (bytes_of (Closed bs)) Quoted
    (λ name e. subst (λ (l : List ℕ). All IsNameByte l) (sym (inner_is bs) ∙ some_inside _ name e)
    (both_facts bs may (all_before (λ b. (b == 10) ≡ false) bs (34 ∷ []) (All-tail (λ b. (b == 10) ≡ false) 34 (bs ++ 34 ∷ []) none))))
piece_token at n (Run b bs) rest may none = by (is_whole (b ∷ bs))
  where
    own : (name : List ℕ) → Some (b ∷ bs) ≡ Some name → All IsNameByte name
    own name e = grind (arith, some_inside, run_byte)

    by : (t : Bool) → All GivesName (token_at at n (b ∷ bs) (Some (cond t Whole Word)))
    by true = one_token at n (b ∷ bs) Whole own
    by false = one_token at n (b ∷ bs) Word own
piece_token at n p rest may none = All-nil GivesName

pieces_tokens : (ps : List Piece) (at n : ℕ) (line : List ℕ) → IsCut ps line → HasNoFeed line → All GivesName (tokens_of_pieces at n ps)
pieces_tokens [] at n line cut none = All-nil GivesName
pieces_tokens (p ∷ ps) at n line cut none =
    let whole = subst HasNoFeed cut.1 none in
    All-append GivesName (token_at at n (bytes_of p) (kind_of_piece p)) (tokens_of_pieces (at + length (bytes_of p)) n ps)
    (piece_token at n p cut.0 cut.2 (all_before (λ b. (b == 10) ≡ false) (bytes_of p) cut.0 whole))
    (pieces_tokens ps (at + length (bytes_of p)) n cut.0 cut.3 (all_after (λ b. (b == 10) ≡ false) (bytes_of p) cut.0 whole))

line_gives : (at n : ℕ) (line : List ℕ) → HasNoFeed line → All GivesName (tokens_of_line at n line)
line_gives at n line none = pieces_tokens (cut_of line) at n line (is_cut (length line) line (omega arith)) none

later_give : (at n : ℕ) (ls : List (List ℕ)) → All HasNoFeed ls → All GivesName (later_lines at n ls)
later_give at n [] h = All-nil GivesName
later_give at n (l ∷ ls) h =
    All-cons GivesName (newline at n) (tokens_of_line (at + 1) (n + 1) l ++ later_lines (at + 1 + length l) (n + 1) ls) (λ e. absurd (true≢false e))
    (All-append GivesName (tokens_of_line (at + 1) (n + 1) l) (later_lines (at + 1 + length l) (n + 1) ls)
    (line_gives (at + 1) (n + 1) l (All-head HasNoFeed l ls h))
    (later_give (at + 1 + length l) (n + 1) ls (All-tail HasNoFeed l ls h)))

all_units : (bs : List ℕ) → All (λ (b : ℕ). Unit {0}) bs
all_units bs k d l = tt

text_lines : (text : List ℕ) → All HasNoFeed (lines_of text)
text_lines text =
    All-weaker (λ (l : List ℕ). All (IsInPiece (λ (x : ℕ). x == 10) (λ (b : ℕ). Unit {0})) l) HasNoFeed
    (λ l h. All-weaker (IsInPiece (λ (x : ℕ). x == 10) (λ (b : ℕ). Unit {0})) (λ b. (b == 10) ≡ false) (λ b q. q.1) l h) (lines_of text)
    (split_pieces (λ (x : ℕ). x == 10) (λ (b : ℕ). Unit {0}) text (all_units text))

text_gives : (text : List ℕ) → All GivesName (tokens_of text)
text_gives text =
    let h = subst (λ (ls : List (List ℕ)). All HasNoFeed ls) (split_some text) (text_lines text) in
    All-append GivesName (tokens_of_line 0 1 (first_line text)) (later_lines (0 + length (first_line text)) 1 (others_of (lines_of text)))
    (line_gives 0 1 (first_line text) (All-head HasNoFeed (first_line text) (others_of (lines_of text)) h))
    (later_give (0 + length (first_line text)) 1 (others_of (lines_of text)) (All-tail HasNoFeed (first_line text) (others_of (lines_of text)) h))

-- the name that a line gives may stand between quotes
abbrev pub LineGivesName : LineView → Type 0
LineGivesName line = (name : List ℕ) → line.fields.name ≡ Some name → All IsNameByte name

abbrev IsGood : TokenView → Type 0
IsGood = IsInPiece (λ (t : TokenView). is_newline t.kind) GivesName

fields_name : (ts : List TokenView) → All IsGood ts → (name : List ℕ) → name_of_fields ts ≡ Some name → All IsNameByte name
fields_name (t ∷ []) h name e = let g = All-head IsGood t [] h in g.0 g.1 name e
fields_name ts h name e = absurd (none-some name e)

line_name : (ts : List TokenView) → All IsGood ts → All LineGivesName (line_of ts)
line_name [] h = All-nil LineGivesName
line_name (t ∷ ts) h = All-cons LineGivesName (line_with t ts) [] (by (is_bare (kind_of t.kind t.text))) (All-nil LineGivesName)
  where
    by : (b : Bool) → (name : List ℕ) → name_of_fields (cond b (t ∷ ts) ts) ≡ Some name → All IsNameByte name
    by true = fields_name (t ∷ ts) h
    by false = fields_name ts (All-tail IsGood t ts h)

lines_name : (ls : List (List TokenView)) → ArePieces (λ (t : TokenView). is_newline t.kind) GivesName ls
    → All LineGivesName (flat_map line_of (flat_map filled_line ls))
lines_name [] h = All-nil LineGivesName
lines_name ([] ∷ ls) h = lines_name ls (All-tail (λ (l : List TokenView). All IsGood l) [] ls h)
lines_name ((t ∷ ts) ∷ ls) h =
    All-append LineGivesName (line_of (t ∷ ts)) (flat_map line_of (flat_map filled_line ls))
    (line_name (t ∷ ts) (All-head (λ (l : List TokenView). All IsGood l) (t ∷ ts) ls h))
    (lines_name ls (All-tail (λ (l : List TokenView). All IsGood l) (t ∷ ts) ls h))

-- so it is of each line of a text
pub text_names : (text : List ℕ) → All LineGivesName (token_lines (tokens_of text))
text_names text = lines_name (slice_split (λ (t : TokenView). is_newline t.kind) (tokens_of text))
    (split_pieces (λ (t : TokenView). is_newline t.kind) GivesName (tokens_of text) (text_gives text))

-- the block has a name that may stand between quotes, and its net is that of some rows
record IsOfRows (block : BlockView) (raw : RawView) : Type 0 where
  name : MayBeName block.name
  rows : List FieldsView
  is : raw ≡ net_of rows

-- if a block is a net, it is so
abbrev IsFit : BlockView → Type 0
IsFit block = (raw : RawView) → block.body ≡ Net raw → IsOfRows block raw

-- what is no net
abbrev IsNet : BodyView → Type 0
IsNet (Net raw) = Unit {0}
IsNet x = ⊥

no_net : (body : BodyView) (raw : RawView) → body ≡ Net raw → ¬ IsNet body → ⊥
no_net body raw e n = n (subst IsNet (sym e) tt)

net_inside : (r s : RawView) → Net r ≡ Net s → r ≡ s
net_inside r s e = cc

not_long : (n : ℕ) → nat_lt 200 n ≡ false → n ≤ 200
not_long n e = grind (arith, nat_tests, e)

-- the first of two tests
first_test : (s t : Bool) → (s || t) ≡ false → s ≡ false
first_test s t h = search arith

-- a line without a fault leaves a name that may stand between quotes
name_now : (earlier : List LineView) (line : LineView) → LineGivesName line → fault_of earlier line ≡ None → MayBeName (name_of earlier)
    → MayBeName (name_of (line ∷ earlier))
name_now earlier line gives none before = by line.kind line.fields.name
    (first_test (is_name line.kind && is_long_name line.fields.name) _ (all_false (table earlier line) none).1.1.1.0) gives
  where
    named : (name : Option (List ℕ)) → is_long_name name ≡ false → ((text : List ℕ) → name ≡ Some text → All IsNameByte text) → MayBeName name
    named None e g = tt
    named (Some text) e g = (not_long (length text) e, g text refl)

    by : (kind : LineKind) (name : Option (List ℕ)) → (is_name kind && is_long_name name) ≡ false → ((text : List ℕ) → name ≡ Some text → All IsNameByte text)
        → MayBeName (name_after kind name (name_of earlier))
    by kind name h k = grind (arith, named)

-- a graph block
graph_fit : (opening : ℕ) (lines earlier : List LineView) → All LineGivesName lines → MayBeName (name_of earlier) → IsFit (graph_block opening earlier lines)
graph_fit opening [] earlier h named = λ raw e. absurd (no_net (malformed opening NoEnd) raw e (λ n. n))
graph_fit opening (line ∷ lines) earlier h named = by (fault_of earlier line) (is_end line.kind) refl
    (λ none. graph_fit opening lines (line ∷ earlier) (All-tail LineGivesName line lines h)
    (name_now earlier line (All-head LineGivesName line lines h) none named))
  where
    by : (fault : Option BlockFaultKind) (ends : Bool) → fault_of earlier line ≡ fault
        → (fault_of earlier line ≡ None → IsFit (graph_block opening (line ∷ earlier) lines))
        → IsFit (or_fault fault (λ kind. with_body opening earlier (malformed line.number kind))
        (cond ends (with_body opening earlier (Net (net_of (rows_in earlier)))) (graph_block opening (line ∷ earlier) lines)))
    by (Some kind) ends is on = λ raw e. absurd (no_net (malformed line.number kind) raw e (λ n. n))
    by None true is on = λ raw e. record { name = named; rows = rows_in earlier; is = sym (net_inside (net_of (rows_in earlier)) raw e) }
    by None false is on = on is

-- any block
block_fit : (line : LineView) (lines : List LineView) → All LineGivesName lines → IsFit (block_of line lines)
block_fit line lines h = by line.kind
  where
    opened : (t : Bool) → IsFit (cond t (graph_block line.number [] lines) (with_body line.number [] (malformed line.number BadToken)))
    opened true = graph_fit line.number lines [] h tt
    opened false = λ raw e. absurd (no_net (malformed line.number BadToken) raw e (λ n. n))

    other : IsFit (with_body line.number [] (Other line.first))
    other raw e = absurd (no_net (Other line.first) raw e (λ n. n))

    by : (kind : LineKind) → IsFit (block_by kind line lines)
    by Opening = opened (line.fields.size == 0)
    by kind = other

all_fit : (lines : List LineView) (inside : Bool) → All LineGivesName lines → All IsFit (blocks_from inside lines)
all_fit (line ∷ lines) true h = by (is_end line.kind) (all_fit lines false others) (all_fit lines true others)
  where
    others : All LineGivesName lines
    others = All-tail LineGivesName line lines h

    by : (t : Bool) → All IsFit (blocks_from false lines) → All IsFit (blocks_from true lines)
        → All IsFit (cond t (blocks_from false lines) (blocks_from true lines))
    by true a b = a
    by false a b = b
all_fit (line ∷ lines) false h = by (is_end line.kind) (all_fit lines false others) (all_fit lines true others)
  where
    others : All LineGivesName lines
    others = All-tail LineGivesName line lines h

    by : (t : Bool) → All IsFit (blocks_from false lines) → All IsFit (blocks_from true lines)
        → All IsFit (cond t (blocks_from false lines) (block_of line lines ∷ blocks_from true lines))
    by true a b = a
    by false a b = All-cons IsFit (block_of line lines) (blocks_from true lines) (block_fit line lines others) b
all_fit lines inside h = All-nil IsFit

-- so the covers of what is read may be printed
pub covers_may_be_printed : CoversMayBePrinted
covers_may_be_printed text block raw G C c body order g iso graph small =
    let fit : IsFit block = subst IsFit c.2 (all_fit (token_lines (tokens_of text)) false (text_names text) c.0 block c.1) in
    let own = fit raw body in
    let ends : (u : ℕ) → IsQuotientVertex (graph_of raw) u → EndsAt (graph_of raw) u =
    subst (λ (r : RawView). (u : ℕ) → IsQuotientVertex (graph_of r) u → EndsAt (graph_of r) u) (sym own.is) (read_ends own.rows) in
    record { is_graph = graph; small = small; ends = iso_ends G C g iso (order_ends (graph_of raw) G order ends); name = own.name }
