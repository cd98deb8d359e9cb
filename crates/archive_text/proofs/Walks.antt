-- The rows of an entry have no line feed, and their numbers are within 128 bits, and few. Rows each of which may follow those before it. The first entry
-- of a list of rows.
use Rattle.std.proofs.Common.{◌≡◌, ◌≤◌, ℕ, pos, List, [], ◌∷◌, ◌++◌, length, All, map, true, refl, sym, ap, ◌∙◌, arith, ℤ, drop, ◌<◌, ◌+◌, subst}
use Rattle.std.proofs.lemmas.Bool.{ne_eqb, true≢false, and_parts}
use Rattle.std.proofs.lemmas.List.{length-map, append_cancel_left, append_cancel_right, length-append, append-nil}
use Rattle.std.proofs.lemmas.List.Elements.{All-nil, All-cons, All-head, All-tail, All-push}
use Rattle.std.specs.{Prelude.codes, List.list_all, List.flat_map}
use Rattle.line_text.specs.{Lines.HasNo, Lines.rows_text, Numbers.IsWide, Names.is_name, Names.is_name_byte}
use Rattle.line_text.proofs.CallerLemmas.{sum_has_no, row_has_no, same_row_numbers, same_row}
use Rattle.graph_rows.proofs.CallerLemmas.{short_wide, number_at, same_pos, none_rises, size_none, edge_none, same_size, same_edge, rising_front}
use Rattle.graph_rows.specs.{Rows.edge_row, Rows.size_of_graph, Forms.IsEdgeOfSize, declared.size.GraphSize.GraphSize}
use mathlib.Core.List.{append_assoc}
use Rattle.periodic_net.specs.Graph.{Arc}
use Rattle.quotient_graph.specs.{Order.AreRising, Stars.graph_with}
use Rattle.archive_text.specs.Rows.{shells_numbers, name_row, key_row, count_row, shells_row, end_row, Row, OfName, OfSize, OfEdge, OfKey, OfCount}
use Rattle.archive_text.specs.Rows.{OfShells, OfEnd, row_line, row_lines}
use Rattle.archive_text.specs.Forms.{IsCount, AreSizes, IsShort, IsKeyList}
use Rattle.archive_text.specs.Parts.{Part, Start, Named, Drawn, Keyed, Counted, MayStandAfter, IsFormed, part_rows, shells_rows, drawn_rows, end_part}
use Rattle.archive_text.specs.Parts.{IsDrawn, HasEdgesAndKey}
use Rattle.archive_text.specs.declared.version.Version.{Version, TheVariants.One, TheVariants.Two}
use Rattle.archive_text.specs.{Entries.EntryView, Texts.whole_part, Texts.entry_rows}

-- the number of classes
pub count_wide : (n : ℕ) → IsCount n → All IsWide (pos n ∷ [])
count_wide n is = All-cons IsWide (pos n) [] (short_wide n (omega (arith, is.1))) (All-nil IsWide)

all_wide : (sizes : List ℕ) → All IsShort sizes → All IsWide (map pos sizes)
all_wide [] all = All-nil IsWide
all_wide (n ∷ ns) all = All-cons IsWide (pos n) (map pos ns) (short_wide n (All-head IsShort n ns all)) (all_wide ns (All-tail IsShort n ns all))

-- the numbers of a `shells` row
pub shells_wide : (c : ℕ) (sizes : List ℕ) → IsCount c → AreSizes sizes → All IsWide (shells_numbers c sizes)
shells_wide c sizes is are = All-cons IsWide (pos c) (map pos sizes) (short_wide c (omega (arith, is.1))) (all_wide sizes are.short)

pub count_few : (n : ℕ) → length (pos n ∷ []) ≤ 1
count_few n = omega arith

pub shells_few : (c : ℕ) (sizes : List ℕ) → AreSizes sizes → length (shells_numbers c sizes) ≤ 11
shells_few c sizes are = let same = length-map sizes pos in let few = are.few in omega (arith, same, few)

plain_has_no : (name : List ℕ) → list_all is_name_byte name ≡ true → HasNo 10 name
plain_has_no [] is = tt
plain_has_no (b ∷ bs) is = (
  ne_eqb b 10 (λ e. true≢false (sym (and_parts (is_name_byte b) (list_all is_name_byte bs) is).0 ∙ ap is_name_byte e)),
  plain_has_no bs (and_parts (is_name_byte b) (list_all is_name_byte bs) is).1,
)

-- a name between quotes has no line feed
pub entry_has_no : (name : List ℕ) → is_name name ≡ true → HasNo 10 (codes "entry \"" ++ (name ++ codes "\""))
entry_has_no name is = sum_has_no 10 (codes "entry \"") (name ++ codes "\"") (refl, (refl, (refl, (refl, (refl, (refl, (refl, tt)))))))
    (sum_has_no 10 name (codes "\"") (plain_has_no name (and_parts _ _ (and_parts _ _ is).1).1) (refl, tt))

-- No row has a line feed, and a row is that of one value alone.

pub name_none : (name : List ℕ) → is_name name ≡ true → HasNo 10 (name_row name)
unfolding name_row
name_none name is = entry_has_no name is

pub key_none : (key : List ℤ) → IsKeyList key → HasNo 10 (key_row key)
unfolding key_row
key_none key is = row_has_no (codes "key") key (refl, (refl, (refl, tt))) is.wide

pub count_none : (n : ℕ) → IsCount n → HasNo 10 (count_row n)
unfolding count_row
count_none n is = row_has_no (codes "primitive") (pos n ∷ []) (refl, (refl, (refl, (refl, (refl, (refl, (refl, (refl, (refl, tt))))))))) (count_wide n is)

pub shells_none : (c : ℕ) (sizes : List ℕ) → IsCount c → AreSizes sizes → HasNo 10 (shells_row c sizes)
unfolding shells_row
shells_none c sizes is are = row_has_no (codes "shells") (shells_numbers c sizes) (refl, (refl, (refl, (refl, (refl, (refl, tt))))))
    (shells_wide c sizes is are)

pub end_none : HasNo 10 end_row
unfolding end_row
end_none = (refl, (refl, (refl, tt)))

pub same_name : (a b : List ℕ) → name_row a ≡ name_row b → a ≡ b
unfolding name_row
same_name a b e = append_cancel_right a b (codes "\"") (append_cancel_left (codes "entry \"") (a ++ codes "\"") (b ++ codes "\"") e)

pub same_key : (k l : List ℤ) → IsKeyList k → IsKeyList l → key_row k ≡ key_row l → k ≡ l
unfolding key_row
same_key k l hk hl e = same_row_numbers (codes "key") k l hk.wide hl.wide e

pub same_count : (m n : ℕ) → IsCount m → IsCount n → count_row m ≡ count_row n → m ≡ n
unfolding count_row
same_count m n hm hn e = same_pos m n (ap (number_at 0) (same_row_numbers (codes "primitive") (pos m ∷ []) (pos n ∷ []) (count_wide m hm) (count_wide n hn) e))

same_list : (xs ys : List ℕ) → map pos xs ≡ map pos ys → xs ≡ ys
same_list [] [] e = refl
same_list [] (y ∷ ys) e = let long = ap length e in absurd (omega (arith, long))
same_list (x ∷ xs) [] e = let long = ap length e in absurd (omega (arith, long))
same_list (x ∷ xs) (y ∷ ys) e = ap (λ n. n ∷ xs) (same_pos x y (ap (number_at 0) e)) ∙ ap (λ l. y ∷ l) (same_list xs ys (ap (drop 1) e))

pub same_sizes : (c : ℕ) (xs ys : List ℕ) → IsCount c → AreSizes xs → AreSizes ys → shells_row c xs ≡ shells_row c ys → xs ≡ ys
unfolding shells_row
same_sizes c xs ys is hx hy e =
    same_list xs ys (ap (drop 1) (same_row_numbers (codes "shells") (shells_numbers c xs) (shells_numbers c ys) (shells_wide c xs is hx)
    (shells_wide c ys is hy) e))

-- the part with one more row; after the end another entry begins
abbrev pub part_with : Part → Row → Part
part_with Start (OfName name) = Named name
part_with Start row = Start
part_with (Named name) (OfSize s) = Drawn name s []
part_with (Named name) row = Start
part_with (Drawn name s edges) (OfEdge dim e) = Drawn name s (edges ++ e ∷ [])
part_with (Drawn name s edges) (OfKey key) = Keyed name s edges key
part_with (Drawn name s edges) row = Start
part_with (Keyed name s edges key) (OfCount n) = Counted name s edges key n []
part_with (Keyed name s edges key) row = Start
part_with (Counted name s edges key n lists) (OfShells c sizes) = Counted name s edges key n (lists ++ sizes ∷ [])
part_with (Counted name s edges key n lists) row = Start

-- from the one part these rows lead to the other
abbrev pub Walk : Version → Part → List Row → Part → Type 0
Walk v p [] q = p ≡ q
Walk v p (r ∷ rs) q = MayStandAfter v p r × Walk v (part_with p r) rs q

-- a row that may follow makes a part of its form
pub formed_with : (v : Version) (p : Part) (r : Row) → IsFormed v p → MayStandAfter v p r → IsFormed v (part_with p r)
formed_with v Start (OfName name) formed may = may
formed_with v Start row formed may = tt
formed_with v (Named name) (OfSize s) formed may = record {
  is_name = formed;
  is_size = may;
  each = All-nil (IsEdgeOfSize s);
  rising = none_rises;
  few = omega arith;
}
formed_with v (Named name) row formed may = tt
formed_with v (Drawn name s edges) (OfEdge dim e) formed may = record {
  is_name = formed.is_name;
  is_size = formed.is_size;
  each = All-push (IsEdgeOfSize s) edges e formed.each may.2.is_edge;
  rising = may.2.rising;
  few = let long = length-append edges (e ∷ []) in omega (arith, long, may.1);
}
formed_with v (Drawn name s edges) (OfKey key) formed may = record { drawn = formed; whole = may.0; is_key = may.1 }
formed_with v (Drawn name s edges) row formed may = tt
formed_with Two (Keyed name s edges key) (OfCount n) formed may = (refl, formed, record { is_count = may; each = All-nil AreSizes; few = omega arith })
formed_with One (Keyed name s edges key) (OfCount n) formed may = absurd may
formed_with v (Keyed name s edges key) row formed may = tt
formed_with v (Counted name s edges key n lists) (OfShells c sizes) formed may = (
  formed.0,
  formed.1,
  record {
    is_count = formed.2.is_count;
    each = All-push AreSizes lists sizes formed.2.each may.2;
    few = let long = length-append lists (sizes ∷ []) in omega (arith, long, may.1);
  },
)
formed_with v (Counted name s edges key n lists) row formed may = tt

-- the number of a class whose coordination sequence may follow
class_counts : (c n k : ℕ) → c ≡ k + 1 → k < n → IsCount n → IsCount c
class_counts c n k is few count = (omega (arith, is), omega (arith, is, few, count.1))

-- a row that may follow has no line feed
pub row_none : (v : Version) (p : Part) (r : Row) → IsFormed v p → MayStandAfter v p r → HasNo 10 (row_line r)
row_none v Start (OfName name) formed may = name_none name may
row_none v Start row formed may = absurd may
row_none v (Named name) (OfSize s) formed may = size_none s may
row_none v (Named name) row formed may = absurd may
row_none v (Drawn name s edges) (OfEdge dim e) formed may = subst (λ d. HasNo 10 (edge_row d e)) (sym may.0) (edge_none s e formed.is_size may.2.is_edge)
row_none v (Drawn name s edges) (OfKey key) formed may = key_none key may.1
row_none v (Drawn name s edges) row formed may = absurd may
row_none One (Keyed name s edges key) OfEnd formed may = end_none
row_none Two (Keyed name s edges key) (OfCount n) formed may = count_none n may
row_none v (Keyed name s edges key) row formed may = absurd may
row_none v (Counted name s edges key n lists) (OfShells c sizes) formed may =
    shells_none c sizes (class_counts c n (length lists) may.0 may.1 formed.2.is_count) may.2
row_none v (Counted name s edges key n lists) OfEnd formed may = end_none
row_none v (Counted name s edges key n lists) row formed may = absurd may

-- two rows that may follow and have the same bytes are one
pub same_row_of : (v : Version) (p : Part) (r t : Row) → IsFormed v p → MayStandAfter v p r → MayStandAfter v p t → row_line r ≡ row_line t → r ≡ t
same_row_of v Start (OfName a) (OfName b) formed ha hb e = ap OfName (same_name a b e)
same_row_of v Start (OfName a) t formed ha hb e = absurd hb
same_row_of v Start r t formed ha hb e = absurd ha
same_row_of v (Named name) (OfSize a) (OfSize b) formed ha hb e = ap OfSize (same_size a b ha hb e)
same_row_of v (Named name) (OfSize a) t formed ha hb e = absurd hb
same_row_of v (Named name) r t formed ha hb e = absurd ha
same_row_of v (Drawn name s edges) (OfEdge d a) (OfEdge d' b) formed ha hb e =
    let first = ap (λ k. edge_row k a) ha.0 in let second = ap (λ k. edge_row k b) hb.0 in
    ap (λ k. OfEdge k a) (ha.0 ∙ sym hb.0) ∙ ap (OfEdge d') (same_edge s a b formed.is_size ha.2.is_edge hb.2.is_edge (sym first ∙ e ∙ second))
same_row_of v (Drawn name s edges) (OfKey a) (OfKey b) formed ha hb e = ap OfKey (same_key a b ha.1 hb.1 e)
same_row_of v (Drawn name s edges) (OfEdge d a) (OfKey b) formed ha hb e = absurd (omega (arith, ha.1, hb.0))
same_row_of v (Drawn name s edges) (OfKey a) (OfEdge d b) formed ha hb e = absurd (omega (arith, hb.1, ha.0))
same_row_of v (Drawn name s edges) (OfEdge d a) t formed ha hb e = absurd hb
same_row_of v (Drawn name s edges) (OfKey a) t formed ha hb e = absurd hb
same_row_of v (Drawn name s edges) r t formed ha hb e = absurd ha
same_row_of One (Keyed name s edges key) OfEnd OfEnd formed ha hb e = refl
same_row_of Two (Keyed name s edges key) (OfCount a) (OfCount b) formed ha hb e = ap OfCount (same_count a b ha hb e)
same_row_of One (Keyed name s edges key) OfEnd t formed ha hb e = absurd hb
same_row_of Two (Keyed name s edges key) (OfCount a) t formed ha hb e = absurd hb
same_row_of v (Keyed name s edges key) r t formed ha hb e = absurd ha
same_row_of v (Counted name s edges key n lists) (OfShells c a) (OfShells c' b) formed ha hb e =
    let same : c ≡ c' = ha.0 ∙ sym hb.0 in
    ap (λ k. OfShells k a) same ∙ ap (OfShells c') (same_sizes c' a b (class_counts c' n (length lists) hb.0 hb.1 formed.2.is_count) ha.2 hb.2
    (ap (λ k. shells_row k a) (sym same) ∙ e))
same_row_of v (Counted name s edges key n lists) OfEnd OfEnd formed ha hb e = refl
same_row_of v (Counted name s edges key n lists) (OfShells c a) OfEnd formed ha hb e = absurd (omega (arith, ha.1, hb))
same_row_of v (Counted name s edges key n lists) OfEnd (OfShells c b) formed ha hb e = absurd (omega (arith, hb.1, ha))
same_row_of v (Counted name s edges key n lists) (OfShells c a) t formed ha hb e = absurd hb
same_row_of v (Counted name s edges key n lists) OfEnd t formed ha hb e = absurd hb
same_row_of v (Counted name s edges key n lists) r t formed ha hb e = absurd ha

-- The rows of each entry follow one another.

-- one walk after another
pub walk_on : (v : Version) (p q r : Part) (xs ys : List Row) → Walk v p xs q → Walk v q ys r → Walk v p (xs ++ ys) r
walk_on v p q r [] ys one two = subst (λ o. Walk v o ys r) (sym one) two
walk_on v p q r (x ∷ xs) ys one two = (one.0, walk_on v (part_with p x) q r xs ys one.1 two)

edges_walk : (v : Version) (name : List ℕ) (s : GraphSize) (done more : List Arc) → All (IsEdgeOfSize s) more → AreRising (done ++ more)
    → length (done ++ more) ≤ s.edges → Walk v (Drawn name s done) (map (OfEdge s.dim) more) (Drawn name s (done ++ more))
edges_walk v name s done [] all rising few = ap (Drawn name s) (sym (append-nil done))
edges_walk v name s done (e ∷ es) all rising few =
    let same : (done ++ e ∷ []) ++ es ≡ done ++ e ∷ es = append_assoc done (e ∷ []) es in
    let long = length-append done (e ∷ es) in
    let rises : AreRising (done ++ e ∷ []) = rising_front (done ++ e ∷ []) es (subst AreRising (sym same) rising) in (
      (refl, omega (arith, long, few), record { is_edge = All-head (IsEdgeOfSize s) e es all; rising = rises }),
      subst (λ l. Walk v (Drawn name s (done ++ e ∷ [])) (map (OfEdge s.dim) es) (Drawn name s l)) same
          (edges_walk v name s (done ++ e ∷ []) es (All-tail (IsEdgeOfSize s) e es all) (subst AreRising (sym same) rising)
          (subst (λ l. length l ≤ s.edges) (sym same) few)),
    )

shells_walk : (v : Version) (name : List ℕ) (s : GraphSize) (edges : List Arc) (key : List ℤ) (n c : ℕ) (done more : List (List ℕ)) → c ≡ length done + 1
    → All AreSizes more → length (done ++ more) ≤ n
    → Walk v (Counted name s edges key n done) (shells_rows c more) (Counted name s edges key n (done ++ more))
shells_walk v name s edges key n c done [] at all few = ap (Counted name s edges key n) (sym (append-nil done))
shells_walk v name s edges key n c done (x ∷ xs) at all few =
    let same : (done ++ x ∷ []) ++ xs ≡ done ++ x ∷ xs = append_assoc done (x ∷ []) xs in
    let long = length-append done (x ∷ xs) in
    let one = length-append done (x ∷ []) in (
      (at, omega (arith, long, few), All-head AreSizes x xs all),
      subst (λ l. Walk v (Counted name s edges key n (done ++ x ∷ [])) (shells_rows (c + 1) xs) (Counted name s edges key n l)) same
          (shells_walk v name s edges key n (c + 1) (done ++ x ∷ []) xs (omega (arith, at, one)) (All-tail AreSizes x xs all)
          (subst (λ l. length l ≤ n) (sym same) few)),
    )

drawn_walk : (v : Version) (name : List ℕ) (s : GraphSize) (edges : List Arc) → IsDrawn name s edges
    → Walk v Start (drawn_rows name s edges) (Drawn name s edges)
drawn_walk v name s edges is = (is.is_name, (is.is_size, edges_walk v name s [] edges is.each is.rising is.few))

keyed_walk : (v : Version) (name : List ℕ) (s : GraphSize) (edges : List Arc) (key : List ℤ) (rest : List Row) (q : Part) → HasEdgesAndKey name s edges key
    → Walk v (Keyed name s edges key) rest q → Walk v Start (drawn_rows name s edges ++ OfKey key ∷ rest) q
keyed_walk v name s edges key rest q is more = walk_on v Start (Drawn name s edges) q (drawn_rows name s edges) (OfKey key ∷ rest)
    (drawn_walk v name s edges is.drawn) ((is.whole, is.is_key), more)

-- the rows of a part lead to it
pub part_walk : (v : Version) (p : Part) → IsFormed v p → Walk v Start (part_rows p) p
part_walk v Start formed = refl
part_walk v (Named name) formed = (formed, refl)
part_walk v (Drawn name s edges) formed = drawn_walk v name s edges formed
part_walk v (Keyed name s edges key) formed = keyed_walk v name s edges key [] (Keyed name s edges key) formed refl
part_walk Two (Counted name s edges key n lists) formed = keyed_walk Two name s edges key (OfCount n ∷ shells_rows 1 lists)
    (Counted name s edges key n lists) formed.1
    (formed.2.is_count, shells_walk Two name s edges key n 1 [] lists (omega arith) formed.2.each formed.2.few)
part_walk One (Counted name s edges key n lists) formed = absurd (other formed.0)
  where
    other : One ≡ Two → ⊥
    other e = cc

-- the end may follow a whole part
pub end_follows : (v : Version) (name : List ℕ) (s : GraphSize) (edges : List Arc) (key : List ℤ) (lists : List (List ℕ))
    → MayStandAfter v (end_part v name s edges key lists) OfEnd
end_follows v name s edges key lists = search arith

end_leads : (v : Version) (name : List ℕ) (s : GraphSize) (edges : List Arc) (key : List ℤ) (lists : List (List ℕ))
    → part_with (end_part v name s edges key lists) OfEnd ≡ Start
end_leads v name s edges key lists = search arith

-- an entry has the form of its version
abbrev pub IsFormedEntry : Version → EntryView → Type 0
IsFormedEntry v e = IsFormed v (whole_part v e)

pub entry_walk : (v : Version) (e : EntryView) → IsFormedEntry v e → Walk v Start (entry_rows v e) Start
entry_walk v e formed = walk_on v Start (whole_part v e) Start (part_rows (whole_part v e)) (OfEnd ∷ []) (part_walk v (whole_part v e) formed)
    (end_follows v e.name (size_of_graph e.graph) e.graph.edges e.key e.shells, end_leads v e.name (size_of_graph e.graph) e.graph.edges e.key e.shells)

-- the rows of entries lead from one beginning to another
pub entries_walk : (v : Version) (es : List EntryView) → All (IsFormedEntry v) es → Walk v Start (flat_map (entry_rows v) es) Start
entries_walk v [] all = refl
entries_walk v (e ∷ es) all = walk_on v Start Start Start (entry_rows v e) (flat_map (entry_rows v) es) (entry_walk v e (All-head (IsFormedEntry v) e es all))
    (entries_walk v es (All-tail (IsFormedEntry v) e es all))

-- Two walks of one text meet: the shorter is the beginning of the longer.

-- these rows begin with those, and what follows is the rest
pub record GoOn (v : Version) (here there : Part) (rows first : List Row) (rest : List ℕ) : Type 0 where
  pub others : List Row
  pub is : rows ≡ first ++ others
  pub walk : Walk v here others there
  pub left : rest ≡ rows_text (row_lines others)

pub go_on : (v : Version) (p q q' : Part) (rows first : List Row) (rest : List ℕ) → IsFormed v p → Walk v p rows q → Walk v p first q'
    → rows_text (row_lines rows) ≡ rows_text (row_lines first) ++ rest → GoOn v q' q rows first rest
go_on v p q q' rows [] rest formed one two e = record { others = rows; is = refl; walk = subst (λ o. Walk v o rows q) two one; left = sym e }
go_on v p q q' [] (t ∷ ts) rest formed one two e =
    let long = ap length e in
    let first = length-append (row_line t) (10 ∷ (rows_text (row_lines ts) ++ rest)) in
    let all = ap length (append_assoc (row_line t) (10 ∷ rows_text (row_lines ts)) rest) in
    absurd (omega (arith, long, first, all))
go_on v p q q' (r ∷ rs) (t ∷ ts) rest formed one two e =
    let lines = same_row (row_line r) (row_line t) (rows_text (row_lines rs)) (rows_text (row_lines ts) ++ rest) (row_none v p r formed one.0)
    (row_none v p t formed two.0)
    (e ∙ append_assoc (row_line t) (10 ∷ rows_text (row_lines ts)) rest) in
    let same = same_row_of v p r t formed one.0 two.0 lines.0 in
    let more = go_on v (part_with p r) q q' rs ts rest (formed_with v p r formed one.0) one.1
    (subst (λ x. Walk v (part_with p x) ts q') (sym same) two.1) lines.1 in
    record { others = more.others; is = ap (λ x. x ∷ rs) same ∙ ap (λ l. t ∷ l) more.is; walk = more.walk; left = more.left }

abbrev entry : List ℕ → GraphSize → List Arc → List ℤ → List (List ℕ) → EntryView
entry name s edges key lists = record { name = name; graph = graph_with s.dim s.vertices edges; key = key; shells = lists }

-- what a part says of its entry
abbrev pub said : Part → EntryView
said Start = entry [] (record { dim = 0; vertices = 0; edges = 0 }) [] [] []
said (Named name) = entry name (record { dim = 0; vertices = 0; edges = 0 }) [] [] []
said (Drawn name s edges) = entry name s edges [] []
said (Keyed name s edges key) = entry name s edges key []
said (Counted name s edges key n lists) = entry name s edges key lists

-- an entry, and the rows after it
pub record Cut : Type 0 where
  pub first : EntryView
  pub rest : List Row

-- what is said up to the first end
abbrev pub cut_from : Part → List Row → Cut
cut_from p [] = record { first = said p; rest = [] }
cut_from p (OfEnd ∷ rs) = record { first = said p; rest = rs }
cut_from p (OfName name ∷ rs) = cut_from (part_with p (OfName name)) rs
cut_from p (OfSize s ∷ rs) = cut_from (part_with p (OfSize s)) rs
cut_from p (OfEdge dim e ∷ rs) = cut_from (part_with p (OfEdge dim e)) rs
cut_from p (OfKey key ∷ rs) = cut_from (part_with p (OfKey key)) rs
cut_from p (OfCount n ∷ rs) = cut_from (part_with p (OfCount n)) rs
cut_from p (OfShells c sizes ∷ rs) = cut_from (part_with p (OfShells c sizes)) rs

edges_cut : (name : List ℕ) (s : GraphSize) (done more : List Arc) (rs : List Row)
    → cut_from (Drawn name s done) (map (OfEdge s.dim) more ++ rs) ≡ cut_from (Drawn name s (done ++ more)) rs
edges_cut name s done [] rs = ap (λ l. cut_from (Drawn name s l) rs) (sym (append-nil done))
edges_cut name s done (e ∷ es) rs = edges_cut name s (done ++ e ∷ []) es rs ∙ ap (λ l. cut_from (Drawn name s l) rs) (append_assoc done (e ∷ []) es)

shells_cut : (name : List ℕ) (s : GraphSize) (edges : List Arc) (key : List ℤ) (n c : ℕ) (done more : List (List ℕ)) (rs : List Row)
    → cut_from (Counted name s edges key n done) (shells_rows c more ++ rs) ≡ cut_from (Counted name s edges key n (done ++ more)) rs
shells_cut name s edges key n c done [] rs = ap (λ l. cut_from (Counted name s edges key n l) rs) (sym (append-nil done))
shells_cut name s edges key n c done (x ∷ xs) rs = shells_cut name s edges key n (c + 1) (done ++ x ∷ []) xs rs
    ∙ ap (λ l. cut_from (Counted name s edges key n l) rs) (append_assoc done (x ∷ []) xs)

-- the rows of a part say that part
pub part_cut : (p : Part) (rs : List Row) → cut_from Start (part_rows p ++ rs) ≡ cut_from p rs
part_cut Start rs = refl
part_cut (Named name) rs = refl
part_cut (Drawn name s edges) rs = edges_cut name s [] edges rs
part_cut (Keyed name s edges key) rs = ap (cut_from (Drawn name s [])) (append_assoc (map (OfEdge s.dim) edges) (OfKey key ∷ []) rs)
    ∙ edges_cut name s [] edges (OfKey key ∷ rs)
part_cut (Counted name s edges key n lists) rs =
    ap (cut_from (Drawn name s [])) (append_assoc (map (OfEdge s.dim) edges) (OfKey key ∷ OfCount n ∷ shells_rows 1 lists) rs)
    ∙ edges_cut name s [] edges (OfKey key ∷ OfCount n ∷ (shells_rows 1 lists ++ rs)) ∙ shells_cut name s edges key n 1 [] lists rs

-- what a text of this version says of an entry: in version 1 nothing of its coordination sequences
abbrev pub shown : Version → EntryView → EntryView
shown v e = said (whole_part v e)

-- the first entry of these rows, and the rows after it
pub entry_cut : (v : Version) (e : EntryView) (rs : List Row) → cut_from Start (entry_rows v e ++ rs) ≡ record { first = shown v e; rest = rs }
entry_cut v e rs = ap (cut_from Start) (append_assoc (part_rows (whole_part v e)) (OfEnd ∷ []) rs) ∙ part_cut (whole_part v e) (OfEnd ∷ rs)

-- these entries begin with some that show the same, and what follows has these rows
pub record EntriesGoOn (v : Version) (all es : List EntryView) (rows : List Row) : Type 0 where
  pub front : List EntryView
  pub more : List EntryView
  pub is : all ≡ front ++ more
  pub same : map (shown v) front ≡ map (shown v) es
  pub left : rows ≡ flat_map (entry_rows v) more
