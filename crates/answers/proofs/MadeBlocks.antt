-- The blocks of a workload, one for each net, and what is due to a task of blocks.
use Rattle.std.proofs.Common.{◌≡◌, ℕ, zero, suc, ◌+◌, ◌<◌, ◌≤◌, ◌==◌, Bool, true, false, cond, ℤ, pos, List, [], ◌∷◌, ◌++◌, length, flat_map, refl, sym, ap}
use Rattle.std.proofs.Common.{subst, ◌∙◌, arith, append_assoc, Option}
use Rattle.std.{proofs.lemmas.Bool.and_parts, proofs.lemmas.List.append-nil, proofs.lemmas.List.Elements.All-cons, proofs.lemmas.List.Elements.All-append}
use Rattle.std.{specs.Prelude.All, specs.Prelude.codes, specs.Fmt.decimal, specs.Fmt.signed_decimal, specs.List.list_all, specs.List.range_with_len}
use Rattle.line_text.specs.Numbers.{list_text}
use Rattle.cgd_lex.specs.Pieces.{Piece, Blank, Run, is_run_byte, IsCut}
use Rattle.cgd_lex.specs.Tokens.{TokenView, tokens_of_line, tokens_of_pieces}
use Rattle.cgd_lex.{specs.declared.token.TokenKind.TheVariants.Word, proofs.Cuts.one_cut}
use Rattle.cgd_read.specs.Blocks.{block_of, blocks_from, blocks_of, most_blocks}
use Rattle.cgd_read.specs.Lines.{LineView, line_of, line_with}
use Rattle.cgd_read.specs.declared.line.LineKind.TheVariants.{Opening, Edges, End}
use Rattle.cgd_read.specs.{Faults.is_end, Views.BlockView}
use Rattle.workload.specs.BaseNets.{base_edges, dimension, is_base_edge}
use Rattle.workload.specs.Workload.{all_lines, base_of, block_text, cells_of, edge_at, edge_line, edges_text, ends_text, most_nets, part_text, place_lines}
use Rattle.workload.specs.Workload.{shear_of, third_text, workload}
use Rattle.workload.{specs.declared.edge.Edge.Edge, proofs.SmallText.all_base, proofs.SmallText.edge_small}
use Rattle.cover_answers.proofs.CallerLemmas.{AreShort, HasLines, HasNoFeed, IsShort, edges_read, end_read, lines_at, list_no_feed, list_tokens}
use Rattle.cover_answers.proofs.CallerLemmas.{marked_tokens, more_lines, no_feed, no_line, number_bytes, number_no_feed, number_token, one_line}
use Rattle.cover_answers.proofs.CallerLemmas.{opening_read, word_line}
use Rattle.command_words.specs.{Tasks.Task, Tasks.MakesFew, Views.blocks_view, declared.tasks.BlocksTask.BlocksTask}
use Rattle.net_archive.specs.Archives.{ArchiveView}
use Rattle.archive_answers.specs.ArchiveBytes.{IsArchiveIn}
use Rattle.answers.specs.Due.{HasTooMany, IsDueFor, IsDueToBlocks, IsDueWith, IsOfBlocks, bytes_of}
use Rattle.net_report.specs.declared.status.{Status.Status, Status.TheVariants.BadArchive}

-- none of these lines ends a block
abbrev AreInner : List LineView → Type 0
AreInner [] = Unit {0}
AreInner (line ∷ lines) = (is_end line.kind ≡ false) × AreInner lines

inner_append : (xs ys : List LineView) → AreInner xs → AreInner ys → AreInner (xs ++ ys)
inner_append [] ys h k = k
inner_append (x ∷ xs) ys h k = (h.0, inner_append xs ys h.1 k)

-- inside a block they are passed over
inner_passed : (lines left : List LineView) → AreInner lines → blocks_from true (lines ++ left) ≡ blocks_from true left
inner_passed [] left h = refl
inner_passed (line ∷ lines) left h = ap (λ (t : Bool). cond t (blocks_from false (lines ++ left)) (blocks_from true (lines ++ left))) h.0
    ∙ inner_passed lines left h.1

-- from line n on a text has lines that end no block, and then those of the rest
record HasInner (n : ℕ) (text rest : List ℕ) : Type 0 where
  next : ℕ
  lines : List LineView
  inner : AreInner lines
  has : HasLines n text lines next rest

-- so begins whatever begins with this text
abbrev IsInner : List ℕ → Type 0
IsInner text = (n : ℕ) (rest : List ℕ) → HasInner n (text ++ rest) rest

inner_none : IsInner []
inner_none n rest = record { next = n; lines = []; inner = tt; has = no_line n rest }

inner_both : (a b : List ℕ) → IsInner a → IsInner b → IsInner (a ++ b)
inner_both a b p q n rest =
    let x = p n (b ++ rest) in let y = q x.next rest in
    record {
      next = y.next;
      lines = x.lines ++ y.lines;
      inner = inner_append x.lines y.lines x.inner y.inner;
      has = subst (λ (text : List ℕ). HasLines n text (x.lines ++ y.lines) y.next rest) (sym (append_assoc a b rest))
          (more_lines n x.next y.next (a ++ (b ++ rest)) (b ++ rest) rest x.lines y.lines x.has y.has);
    }

-- a line
inner_line : (bytes : List ℕ) (line : ℕ → LineView) → HasNoFeed bytes → ((at n : ℕ) → line_of (tokens_of_line at n bytes) ≡ line n ∷ [])
    → ((n : ℕ) → is_end (line n).kind ≡ false)
    → IsInner (bytes ++ 10 ∷ [])
inner_line bytes line h e k n rest = record {
  next = n + 1;
  lines = line n ∷ [];
  inner = (k n, tt);
  has = subst (λ (text : List ℕ). HasLines n text (line n ∷ []) (n + 1) rest) (sym (append_assoc bytes (10 ∷ []) rest))
      (one_line n bytes rest (line n) h (λ at. e at n));
}

-- pieces for the numbers from a on
inner_pieces : (f : ℕ → List ℕ) (a n m : ℕ) → a + n ≤ m → ((r : ℕ) → r < m → IsInner (f r)) → IsInner (flat_map f (range_with_len a n))
inner_pieces f a zero m l h = inner_none
inner_pieces f a (suc n) m l h = inner_both (f a) (flat_map f (range_with_len (a + 1) n)) (h a (omega (arith, l)))
    (inner_pieces f (a + 1) n m (omega (arith, l)) h)

-- a row of four numbers
flat_row : (u v x y : ℤ) → AreShort (u ∷ v ∷ x ∷ y ∷ []) → IsInner (list_text (u ∷ v ∷ x ∷ y ∷ []) ++ 10 ∷ [])
flat_row u v x y h =
    inner_line (list_text (u ∷ v ∷ x ∷ y ∷ [])) (λ n. line_with (number_token 0 n u) (marked_tokens 0 n (v ∷ x ∷ y ∷ []))) (list_no_feed u (v ∷ x ∷ y ∷ []) h)
    (λ at n. ap line_of (list_tokens u (v ∷ x ∷ y ∷ []) at n h)) (λ n. refl)

-- and of five
space_row : (u v x y z : ℤ) → AreShort (u ∷ v ∷ x ∷ y ∷ z ∷ []) → IsInner (list_text (u ∷ v ∷ x ∷ y ∷ z ∷ []) ++ 10 ∷ [])
space_row u v x y z h =
    inner_line (list_text (u ∷ v ∷ x ∷ y ∷ z ∷ [])) (λ n. line_with (number_token 0 n u) (marked_tokens 0 n (v ∷ x ∷ y ∷ z ∷ [])))
    (list_no_feed u (v ∷ x ∷ y ∷ z ∷ []) h)
    (λ at n. ap line_of (list_tokens u (v ∷ x ∷ y ∷ z ∷ []) at n h)) (λ n. refl)

-- the same bytes, grouped
flat_bytes : (u v x y : List ℕ) → (u ++ 32 ∷ v) ++ ((32 ∷ x ++ 32 ∷ y) ++ []) ≡ u ++ 32 ∷ (v ++ 32 ∷ (x ++ 32 ∷ (y ++ [])))
flat_bytes u v x y = append_assoc u (32 ∷ v) ((32 ∷ x ++ 32 ∷ y) ++ []) ∙ ap (λ (t : List ℕ). u ++ 32 ∷ (v ++ 32 ∷ t)) (append_assoc x (32 ∷ y) [])

space_bytes : (u v x y z : List ℕ) → (u ++ 32 ∷ v) ++ ((32 ∷ x ++ 32 ∷ y) ++ 32 ∷ z) ≡ u ++ 32 ∷ (v ++ 32 ∷ (x ++ 32 ∷ (y ++ 32 ∷ (z ++ []))))
space_bytes u v x y z =
    append_assoc u (32 ∷ v) ((32 ∷ x ++ 32 ∷ y) ++ 32 ∷ z) ∙ ap (λ (t : List ℕ). u ++ 32 ∷ (v ++ 32 ∷ t)) (append_assoc x (32 ∷ y) (32 ∷ z))
    ∙ ap (λ (t : List ℕ). u ++ 32 ∷ (v ++ 32 ∷ (x ++ 32 ∷ (y ++ 32 ∷ t)))) (sym (append-nil z))

-- the line of an edge
inner_edge : (d m k : ℕ) (e : Edge) (r : ℕ) → m ≤ 4 → k < 5 → r < m → is_base_edge e ≡ true → IsInner (edge_line d (edge_at m k e r))
unfolding edge_line part_text third_text
inner_edge d m k e r a b l h = by (d == 2)
  where
    f : Edge
    f = edge_at m k e r

    u : IsShort (pos f.u)
    u = let s = (edge_small m k e r a b l h).u in omega (arith, s)

    v : IsShort (pos f.v)
    v = let s = (edge_small m k e r a b l h).v in omega (arith, s)

    x : IsShort f.x
    x = let s = (edge_small m k e r a b l h).x in omega (arith, s)

    y : IsShort f.y
    y = let s = (edge_small m k e r a b l h).y in omega (arith, s)

    z : IsShort f.z
    z = let s = (edge_small m k e r a b l h).z in omega (arith, s)

    by : (t : Bool) → IsInner ((ends_text f ++ ((part_text f.x ++ part_text f.y) ++ cond t [] (part_text f.z))) ++ 10 ∷ [])
    by true = subst (λ (bytes : List ℕ). IsInner (bytes ++ 10 ∷ [])) (sym (flat_bytes (decimal f.u) (decimal f.v) (signed_decimal f.x) (signed_decimal f.y)))
        (flat_row (pos f.u) (pos f.v) f.x f.y (u, (v, (x, (y, tt)))))
    by false = subst (λ (bytes : List ℕ). IsInner (bytes ++ 10 ∷ [])) (sym
        (space_bytes (decimal f.u) (decimal f.v) (signed_decimal f.x) (signed_decimal f.y) (signed_decimal f.z)))
        (space_row (pos f.u) (pos f.v) f.x f.y f.z (u, (v, (x, (y, (z, tt))))))

-- the lines of base edges
inner_edges : (d m k : ℕ) (es : List Edge) → m ≤ 4 → k < 5 → list_all is_base_edge es ≡ true → IsInner (all_lines d m k es)
inner_edges d m k [] a b h = inner_none
inner_edges d m k (e ∷ es) a b h =
    let s = and_parts (is_base_edge e) (list_all is_base_edge es) h in
    inner_both (place_lines d m k e) (all_lines d m k es) (inner_pieces (λ r. edge_line d (edge_at m k e r)) 0 m m (omega arith)
    (λ r l. inner_edge d m k e r a b l s.0)) (inner_edges d m k es a b s.1)

-- the line that names a net
abbrev name_bytes : ℕ → List ℕ
name_bytes i = codes "NAME w" ++ decimal i

abbrev name_pieces : ℕ → List Piece
name_pieces i = Run 78 (65 ∷ 77 ∷ 69 ∷ []) ∷ Blank 32 ∷ Run 119 (decimal i) ∷ []

abbrev name_token : ℕ → ℕ → TokenView
name_token n i = record { kind = Word; text = 119 ∷ decimal i; start = 0; line = n }

abbrev first_token : ℕ → TokenView
first_token n = record { kind = Word; text = codes "NAME"; start = 0; line = n }

inner_name : (i : ℕ) → i < most_nets → IsInner (name_bytes i ++ 10 ∷ [])
inner_name i l = inner_line (name_bytes i) (λ n. line_with (first_token n) (name_token n i ∷ [])) feed
    (λ at n. ap (λ (ps : List Piece). line_of (tokens_of_pieces at n ps)) (sym (one_cut (name_pieces i) (name_bytes i) cut))) (λ n. refl)
  where
    short : IsShort (pos i)
    short = omega (arith, l)

    feed : HasNoFeed (name_bytes i)
    feed = All-append (λ b. (b == 10) ≡ false) (codes "NAME w") (decimal i) (no_feed (codes "NAME w") refl) (number_no_feed (pos i) short)

    digits : All (λ b. is_run_byte b ≡ true) (decimal i)
    digits = let n = number_bytes (pos i) short in subst (All (λ b. is_run_byte b ≡ true)) (sym n.is)
        (All-cons (λ b. is_run_byte b ≡ true) n.first n.others n.run n.runs)

    cut : IsCut (name_pieces i) (name_bytes i)
    cut = grind (arith, append-nil, digits)

-- the lines of a block between the first and the last
abbrev inner_text : ℕ → List ℕ
inner_text i = (name_bytes i ++ 10 ∷ []) ++ ((codes "EDGES" ++ 10 ∷ []) ++ edges_text i)

inner_of_block : (i : ℕ) → i < most_nets → IsInner (inner_text i)
inner_of_block i l =
    inner_both (name_bytes i ++ 10 ∷ []) ((codes "EDGES" ++ 10 ∷ []) ++ edges_text i) (inner_name i l)
    (inner_both (codes "EDGES" ++ 10 ∷ []) (edges_text i) (inner_line (codes "EDGES") (word_line Edges (codes "EDGES"))
    (no_feed (codes "EDGES") refl) edges_read (λ n. refl))
    (inner_edges (dimension (base_of i)) (cells_of i) (shear_of i) (base_edges (base_of i)) (omega arith) (omega arith) (all_base (base_of i) (omega arith))))

-- the bytes of a block and of the rest, grouped by lines
block_bytes : (i : ℕ) (rest : List ℕ) → block_text i ++ rest ≡ codes "PERIODIC_GRAPH" ++ 10 ∷ (inner_text i ++ (codes "END" ++ 10 ∷ rest))
unfolding block_text
block_bytes i rest =
    append_assoc (((codes "PERIODIC_GRAPH\nNAME w" ++ decimal i) ++ codes "\nEDGES\n") ++ edges_text i) (codes "END\n") rest
    ∙ append_assoc ((codes "PERIODIC_GRAPH\nNAME w" ++ decimal i) ++ codes "\nEDGES\n") (edges_text i) (codes "END\n" ++ rest)
    ∙ append_assoc (codes "PERIODIC_GRAPH\nNAME w" ++ decimal i) (codes "\nEDGES\n") (edges_text i ++ (codes "END\n" ++ rest))
    ∙ ap (λ (t : List ℕ). codes "PERIODIC_GRAPH" ++ 10 ∷ t) (sym grouped)
  where
    grouped : inner_text i ++ (codes "END" ++ 10 ∷ rest) ≡ (name_bytes i) ++ (10 ∷ codes "EDGES" ++ 10 ∷ (edges_text i ++ (codes "END" ++ 10 ∷ rest)))
    grouped =
        append_assoc (name_bytes i ++ 10 ∷ []) ((codes "EDGES" ++ 10 ∷ []) ++ edges_text i) (codes "END" ++ 10 ∷ rest)
        ∙ append_assoc (name_bytes i) (10 ∷ []) (((codes "EDGES" ++ 10 ∷ []) ++ edges_text i) ++ (codes "END" ++ 10 ∷ rest))

-- a block, and the blocks of the rest
record OneMore (at n : ℕ) (text rest : List ℕ) : Type 0 where
  place : ℕ
  line : ℕ
  count : length (blocks_from false (lines_at at n text)) ≡ suc (length (blocks_from false (lines_at place line rest)))

-- a block opens, and its last line alone ends it
counted : (first last : LineView) (lines left : List LineView) → is_end first.kind ≡ false → AreInner lines → is_end last.kind ≡ true
    → length (blocks_from false ((first ∷ (lines ++ last ∷ [])) ++ left)) ≡ suc (length (blocks_from false left))
counted first last lines left a h b =
    let inside = (lines ++ last ∷ []) ++ left in
    let ended = ap (blocks_from true) (append_assoc lines (last ∷ []) left) ∙ inner_passed lines (last ∷ left) h
    ∙ ap (λ (t : Bool). cond t (blocks_from false left) (blocks_from true left)) b in
    let opened = ap (λ (t : Bool). length (cond t (blocks_from false inside) (block_of first inside ∷ blocks_from true inside))) a in
    let size = ap length ended in
    opened ∙ omega (arith, size)

one_more : (i at n : ℕ) (rest : List ℕ) → i < most_nets → OneMore at n (block_text i ++ rest) rest
one_more i at n rest l =
    let x = inner_of_block i l (n + 1) (codes "END" ++ 10 ∷ rest) in
    let first = word_line Opening (codes "PERIODIC_GRAPH") n in
    let last = word_line End (codes "END") x.next in
    let has = more_lines n (n + 1) (x.next + 1) (codes "PERIODIC_GRAPH" ++ 10 ∷ (inner_text i ++ (codes "END" ++ 10 ∷ rest)))
    (inner_text i ++ (codes "END" ++ 10 ∷ rest)) rest (first ∷ []) (x.lines ++ last ∷ [])
    (one_line n (codes "PERIODIC_GRAPH") (inner_text i ++ (codes "END" ++ 10 ∷ rest)) first (no_feed (codes "PERIODIC_GRAPH") refl) (λ at. opening_read at n))
    (more_lines (n + 1) x.next (x.next + 1) (inner_text i ++ (codes "END" ++ 10 ∷ rest)) (codes "END" ++ 10 ∷ rest) rest x.lines (last ∷ []) x.has
    (one_line x.next (codes "END") rest last (no_feed (codes "END") refl) (λ at. end_read at x.next))) in
    record {
      place = has.place at;
      line = x.next + 1;
      count = ap (λ (text : List ℕ). length (blocks_from false (lines_at at n text))) (block_bytes i rest)
          ∙ ap (λ (ls : List LineView). length (blocks_from false ls)) (has.is at)
          ∙ counted first last x.lines (lines_at (has.place at) (x.next + 1) rest) refl x.inner refl;
    }

-- the blocks of the nets from a on
count_from : (a n at k : ℕ) → a + n ≤ most_nets → length (blocks_from false (lines_at at k (flat_map block_text (range_with_len a n)))) ≡ n
count_from a zero at k l = refl
count_from a (suc n) at k l =
    let own = one_more a at k (flat_map block_text (range_with_len (a + 1) n)) (omega (arith, l)) in
    own.count ∙ ap suc (count_from (a + 1) n own.place own.line (omega (arith, l)))

-- a workload has a block for each net
pub made_blocks : (n : ℕ) → n ≤ most_nets → length (blocks_of (workload n)) ≡ n
made_blocks n l = count_from 0 n 0 1 (omega (arith, l))

-- What is due to a task of blocks.

-- a task on blocks is one
pub of_blocks : (on : BlocksTask) → IsOfBlocks (blocks_view on)
of_blocks on = search arith

-- if the archive is read, it is not reported as bad
not_bad : (task : Task) (blocks : List BlockView) (a : ArchiveView) (text : List ℕ) → ¬ IsDueFor task blocks a BadArchive text
not_bad task blocks a text h = search arith

-- what is due for the blocks of the bytes and the archive is due to them
pub due_for : (task : Task) (bytes : List ℕ) (archive : Option (List ℕ)) (a : ArchiveView) (s : Status) (text : List ℕ)
    → length (blocks_of bytes) ≤ most_blocks → IsArchiveIn archive a → IsDueFor task (blocks_of bytes) a s text
    → IsDueToBlocks task bytes archive s text
due_for task bytes archive a s text h k l = grind (arith, not_bad)

-- what is due to the blocks is due
pub due_to_blocks : (task : Task) (bytes : List ℕ) (archive : Option (List ℕ)) (s : Status) (text : List ℕ) → IsOfBlocks task
    → IsDueToBlocks task bytes archive s text → IsDueWith task bytes archive s text
due_to_blocks task bytes archive s text k l = search arith

-- a workload has few blocks
pub few_made : (count : ℕ) → count ≤ most_nets → ¬ (most_blocks < length (blocks_of (workload count)))
few_made count few many = let made = made_blocks count few in absurd (omega (arith, made, few, many))

-- if there are too many blocks, there is too much
pub many_blocks : (task : Task) (file : List ℕ) → IsOfBlocks task → MakesFew task → most_blocks < length (blocks_of (bytes_of task file))
    → HasTooMany task (bytes_of task file)
many_blocks task file k l p = grind (arith, few_made)
