-- An archive with one more entry: one that is read, and the entry of a net.
use Rattle.std.proofs.Common.{◌≡◌, ◌≢◌, ◌<◌, List, ◌∷◌, ◌++◌, length, get_or, sym, ap, ◌∙◌, arith, ℕ, ◌+◌, [], take, add-one, ◌↔◌, Bool, true, false}
use Rattle.std.proofs.Common.{IsTrue, ◌≤◌, subst, inl, inr, zero, suc, ◌-◌, map, refl, ℤ, ⊎_elim, Result, true≢false}
use Rattle.std.proofs.lemmas.List.{get_or_append_left, get_or-map, length-append, length-map, length_push, append-nil}
use Rattle.std.proofs.lemmas.List.Elements.{All-push, All-from_get_or, All-contains, Contains-append_left, Contains-append_right, Contains-push}
use Rattle.std.specs.List.{AllPairs, Contains, All}
use Rattle.std.{proofs.Math.Seq.get_or-append_seam, proofs.Math.Seq.take-suc, proofs.lemmas.List.Quantifiers.all_pairs_push}
use Rattle.std.{proofs.lemmas.List.Sums.get_or-le-sum_by, specs.Prelude.IfErr, proofs.lemmas.Bool.cases_lt, proofs.lemmas.Grind.flat_map-append}
use mathlib.Core.List.{append_assoc}
use Rattle.archive_text.specs.Entries.{EntryView, entry_view, entry_views}
use Rattle.archive_text.specs.Texts.{entry_rows, entry_lines, text_of, most_bytes, whole_part, rows_before}
use Rattle.archive_text.specs.Rows.{first_row, row_lines, OfEnd, end_row}
use Rattle.archive_text.specs.Parts.{IsCounted, part_rows, IsFormed, HasEdgesAndKey}
use Rattle.archive_text.{specs.Lookups.names_of, specs.Forms.AreSizes, specs.Reading.HasForm, specs.Reading.form_part, specs.declared.entry.Entry.Entry}
use Rattle.archive_text.{specs.declared.rest.Form.Form, specs.declared.version.Version.Version, specs.declared.version.Version.TheVariants.Two}
use Rattle.archive_text.{proofs.CallerLemmas.lines_of_sum}
use Rattle.line_text.specs.Lines.{rows_text, Place, IsAt}
use Rattle.line_text.{proofs.CallerLemmas.rows_text_of_sum, specs.Numbers.IsWide, specs.Names.is_name}
use Rattle.integers.specs.Vectors.{zero_vector}
use Rattle.periodic_net.specs.Graph.{Graph, IsQuotientVertex, vertex, Arc, IsGraph}
use Rattle.periodic_net.{specs.Classes.IsClassNumbering, specs.Placement.Placement, specs.Limits.most_vertices, specs.Limits.IsSmall}
use Rattle.periodic_net.{proofs.CallerLemmas.origin_vertex}
use Rattle.coordination.{specs.Sequences.AreShellsOf, specs.Sequences.AreSequencesOf, proofs.CallerLemmas.class_met}
use Rattle.coordination.{proofs.CallerLemmas.one_list_of_sequences}
use Rattle.cgd_read.specs.Spelling.{edge_of}
use Rattle.graph_rows.{specs.Rows.size_of_graph, specs.Forms.IsSize, proofs.CallerLemmas.edges_among}
use Rattle.quotient_graph.specs.{EdgeLists.AreEdgesOfGraph, Order.AreRising}
use Rattle.key_theory.{specs.Key.IsKeyOf, proofs.CallerLemmas.has_edge, proofs.CallerLemmas.key_is_short}
use Rattle.least_key.{specs.Certain.IsCertain, specs.Laws.TellAlike, specs.KeyedNets.KeyedNet, specs.KeyedNets.IsKeyed, proofs.CallerLemmas.key_of_graph}
use Rattle.least_key.{proofs.CallerLemmas.keyed_is_certain}
use Rattle.net_archive.specs.Adding.{IsFull, IsEntryOf, IsAddFault, IsEntryFault, IsTaken}
use Rattle.net_archive.specs.Archives.{ArchiveView, IsArchive, IsBody, IsEntry, archive_text, with_entry, most_entries}
use Rattle.net_archive.specs.declared.faults.AddFault.TheVariants.{NameTaken, BadName, Full, NoMemory}
use Rattle.net_archive.specs.{Faults.AreEntries, Faults.MayBegin, Steps.AreMore, declared.faults.AddFault.AddFault, Judging.IsEntryOfForm}
use Rattle.net_archive.specs.{Judging.graph_of_form}

-- Of entries with different names none has the name of an earlier one.

pub names_apart : (all front : List EntryView) (e : EntryView) (later : List EntryView) → all ≡ front ++ e ∷ later
    → AllPairs (λ (x y : EntryView). x.name ≢ y.name) all → ¬ Contains (names_of front) e.name
names_apart all front e later whole apart among =
    let k = among.0 in
    let within : k < length front = let count = length-map front (λ (x : EntryView). x.name) in omega (arith, among.1, count) in
    let long = ap length whole in let two = length-append front (e ∷ later) in
    let lower : get_or all k e ≡ get_or front k e = ap (λ l. get_or l k e) whole ∙ get_or_append_left front (e ∷ later) e k within in
    let upper : get_or all (length front) e ≡ e = ap (λ l. get_or l (length front) e) whole ∙ get_or-append_seam front e later e in
    apart k (length front) e within (omega (arith, long, two))
    (ap (λ (x : EntryView). x.name) lower ∙ sym (get_or-map (λ (x : EntryView). x.name) front k e e.name within) ∙ among.2
    ∙ ap (λ (x : EntryView). x.name) (sym upper))

-- The text of an archive, entry by entry.

-- the rows of entries and of more entries
pub lines_with : (v : Version) (es more : List EntryView) → entry_lines v (es ++ more) ≡ entry_lines v es ++ entry_lines v more
lines_with v [] more = λ i. entry_lines v more
lines_with v (e ∷ es) more =
    ap (λ (rows : List (List ℕ)). row_lines (entry_rows v e) ++ rows) (lines_with v es more)
    ∙ sym (append_assoc (row_lines (entry_rows v e)) (entry_lines v es) (entry_lines v more))

-- the text with more entries
pub text_with : (v : Version) (es more : List EntryView) → text_of v es ++ rows_text (entry_lines v more) ≡ text_of v (es ++ more)
text_with v es more = search (arith, rows_text_of_sum, lines_with)

-- the text is the first line, and the rows of the entries
pub first_and_body : (v : Version) (es : List EntryView) → rows_text (first_row v ∷ []) ++ rows_text (entry_lines v es) ≡ text_of v es
first_and_body v es = text_with v [] es

-- what one more entry in memory has
views_pushed : (items : List Entry) (e : Entry) → entry_views (items ++ e ∷ []) ≡ entry_views items ++ entry_view e ∷ []
views_pushed [] e = λ i. entry_view e ∷ []
views_pushed (x ∷ items) e = ap (λ (es : List EntryView). entry_view x ∷ es) (views_pushed items e)

-- the text of the next entry, after those of the first i
pub next_entry : (v : Version) (items : List Entry) (i : ℕ) (e : Entry) (before after : List ℕ) → i < length items → e ≡ get_or items i e
    → before ≡ text_of v (entry_views (take i items)) → after ≡ before ++ rows_text (entry_lines v (entry_view e ∷ []))
    → after ≡ text_of v (entry_views (take (i + 1) items))
next_entry v items i e before after l is b a =
    let longer : take (i + 1) items ≡ take i items ++ e ∷ [] = ap (λ (n : ℕ). take n items) (add-one i) ∙ take-suc items i e l
    ∙ ap (λ (x : Entry). take i items ++ x ∷ []) (sym is) in
    a ∙ ap (λ (t : List ℕ). t ++ rows_text (entry_lines v (entry_view e ∷ []))) b ∙ text_with v (entry_views (take i items)) (entry_view e ∷ [])
    ∙ ap (text_of v) (sym (views_pushed (take i items) e)) ∙ ap (λ (xs : List Entry). text_of v (entry_views xs)) (sym longer)

-- what holds of all entries as they are seen holds of them in memory
pub all_in_memory : (items : List Entry) → All IsEntry (entry_views items) → All (λ e. IsEntry (entry_view e)) items
all_in_memory items all k d l =
    subst IsEntry (get_or-map entry_view items k d (entry_view d) l) (all k (entry_view d) (let n = length-map items entry_view in omega (arith, n, l)))

first_length : (v : Version) → length (rows_text (first_row v ∷ [])) ≡ 14
first_length v = search arith

-- the first line has 14 bytes
pub text_length : (v : Version) (es : List EntryView) → length (text_of v es) ≡ 14 + length (rows_text (entry_lines v es))
text_length v es = search (arith, first_and_body, length-append, first_length)

-- the rows of one more entry stand last
pub body_with : (v : Version) (es : List EntryView) (e : EntryView) → rows_text (entry_lines v es)
    ++ rows_text (entry_lines v (e ∷ [])) ≡ rows_text (entry_lines v (es ++ e ∷ []))
body_with v es e = sym (rows_text_of_sum (entry_lines v es) (entry_lines v (e ∷ []))) ∙ ap rows_text (sym (lines_with v es (e ∷ [])))

pub longer_text : (v : Version) (es : List EntryView) (e : EntryView)
    → length (text_of v (es ++ e ∷ [])) ≡ 14 + length (rows_text (entry_lines v es)) + length (rows_text (entry_lines v (e ∷ [])))
longer_text v es e =
    let whole = text_length v (es ++ e ∷ []) in let body = ap length (sym (body_with v es e)) in
    let sum = length-append (rows_text (entry_lines v es)) (rows_text (entry_lines v (e ∷ []))) in
    omega (arith, whole, body, sum)

-- no entry has the name
pub other_names : (es : List EntryView) (name : List ℕ) → ¬ Contains (names_of es) name → (k : ℕ) (d : EntryView) → k < length es → (get_or es k d).name ≢ name
other_names es name free k d l e =
    let view : EntryView → List ℕ = λ (f : EntryView). f.name in
    let there : get_or (names_of es) k name ≡ name = get_or-map view es k d name l ∙ e in
    free (k, (let n = length-map es view in omega (arith, n, l)), there)

pub grown : (a : ArchiveView) (e : EntryView) → IsArchive a → IsEntry e → ¬ Contains (names_of a.entries) e.name → length a.entries < most_entries
    → length (archive_text (with_entry a e)) ≤ most_bytes → IsArchive (with_entry a e)
grown a e is entry free few fits = record {
  each = All-push IsEntry a.entries e is.each entry;
  names = all_pairs_push (λ (f g : EntryView). f.name ≢ g.name) a.entries e is.names (other_names a.entries e.name free);
  few = let n = length_push a.entries e in omega (arith, n, few);
  fits = fits;
}

-- if the test of a name says no, no entry has it
pub is_free : (names : List (List ℕ)) (name : List ℕ) (taken : Bool) → (IsTrue taken ↔ Contains names name) → taken ≡ false → ¬ Contains names name
is_free names name taken says fails there = let holds : taken ≡ true = says.1 there in cc

module _ (a : ArchiveView) (e : EntryView) where
  pub many_full : (items : List Entry) (many : Bool) → entry_views items ≡ a.entries → (IsTrue many ↔ (most_entries ≤ length items)) → many ≡ true → IsFull a e
  many_full items many are says holds = search (arith, length-map)

  pub not_many : (items : List Entry) (many : Bool) → entry_views items ≡ a.entries → (IsTrue many ↔ (most_entries ≤ length items)) → many ≡ false
      → length a.entries < most_entries
  not_many items many are says fails = search (arith, length-map)

  -- the length of the text with the entry, whose rows stand after the others
  with_length : (body rows : List ℕ) → IsBody a body → rows ≡ rows_text (entry_lines a.version (e ∷ []))
      → length (archive_text (with_entry a e)) ≡ 14 + length body + length rows
  with_length body rows b r = search (arith, longer_text)

  pub long_full : (body rows : List ℕ) (long : Bool) → IsBody a body → rows ≡ rows_text (entry_lines a.version (e ∷ []))
      → (IsTrue long ↔ (most_bytes < 14 + length body + length rows)) → long ≡ true → IsFull a e
  long_full body rows long b r says holds = grind (arith, with_length)

  pub not_long : (body rows : List ℕ) (long : Bool) → IsBody a body → rows ≡ rows_text (entry_lines a.version (e ∷ []))
      → (IsTrue long ↔ (most_bytes < 14 + length body + length rows)) → long ≡ false
      → length (archive_text (with_entry a e)) ≤ most_bytes
  not_long body rows long b r says fails = grind (arith, with_length)

  -- the rows after the others
  pub longer_body : (body rows new : List ℕ) → IsBody a body → rows ≡ rows_text (entry_lines a.version (e ∷ [])) → new ≡ body ++ rows
      → IsBody (with_entry a e) new
  longer_body body rows new b r is =
      is ∙ ap (λ (t : List ℕ). t ++ rows) b ∙ ap (λ (t : List ℕ). rows_text (entry_lines a.version a.entries) ++ t) r ∙ body_with a.version a.entries e

-- The shells of a graph within the limits have the form of the format.

-- the class of a vertex has no greater number
low_class : (G : Graph) (p : Placement) (f : ℕ → ℕ) → IsClassNumbering G p f → (k u : ℕ) → u < k → IsQuotientVertex G u → f u ≤ u
low_class G p f n zero u below is = absurd (omega (arith, below))
low_class G p f n (suc k) u below is = elim (cases_lt 1 (f u)) [
  | inl more ↦ let s = n.in_order u (f u - 1) is (omega (arith, more)) (omega (arith, more)) in
      let low = low_class G p f n k s.0 (omega (arith, below, s.1)) s.2 in omega (arith, low, s.1, s.3, more)
  | inr few ↦ omega (arith, few, is.0)
]

short_sizes : (G : Graph) (sizes : List ℕ) (u : ℕ) → AreShellsOf G (vertex u zero_vector) sizes → AreSizes sizes
short_sizes G sizes u are = search (arith, get_or-le-sum_by)

-- there is a class at least, no more than there may be, and ten sizes at most for each
pub are_counted : (G : Graph) (lists : List (List ℕ)) → G.vertices ≤ most_vertices → AreSequencesOf G lists → IsCounted (length lists) lists
are_counted G lists small are = record {
  is_count = (omega (arith, are.count, positive, last.2), omega (arith, are.count, low, last.2, last.1.1, small));
  each = All-from_get_or AreSizes lists [] each;
  few = omega arith;
}
  where
    last : (u : ℕ) × IsQuotientVertex G u × (are.shape.class_of u ≡ are.shape.classes.count)
    last = are.shape.is_classes.last

    positive : 1 ≤ are.shape.class_of last.0
    positive = are.shape.is_classes.numbering.positive last.0 last.1

    low : are.shape.class_of last.0 ≤ last.0
    low = low_class G are.shape.placement are.shape.class_of are.shape.is_classes.numbering (last.0 + 1) last.0 (omega arith) last.1

    each : (k : ℕ) → k < length lists → AreSizes (get_or lists k [])
    each k within =
        let u = class_met G are.shape.placement are.shape.class_of are.shape.classes are.shape.is_classes (k + 1) (omega arith)
        (omega (arith, within, are.count)) in
        let place : k + 1 - 1 ≡ k = omega arith in
        short_sizes G (get_or lists k []) u.0 (subst (λ c. AreShellsOf G (vertex u.0 zero_vector) (get_or lists c [])) (ap (λ c. c - 1) u.2 ∙ place)
        (are.each (vertex u.0 zero_vector) (origin_vertex G u.0 u.1)))

-- the entry that is judged
abbrev entry_in : List ℕ → Form → List (List ℕ) → EntryView
entry_in name f lists = record { name = name; graph = graph_of_form f; key = f.keyed.key; shells = lists }

entry_same : (v : Version) (name : List ℕ) (f : Form) (e : EntryView) → IsEntryOfForm v name f e → e ≡ entry_in name f e.shells
entry_same v name f e of = λ i. record { name = of.name_is i; graph = of.graph i; key = of.key i; shells = e.shells }

abbrev edges_in : Form → List Arc
edges_in f = map edge_of f.keyed.edges.items

size_same : (f : Form) → length (edges_in f) ≡ f.keyed.size.edges → size_of_graph (graph_of_form f) ≡ f.keyed.size
size_same f whole = ap (λ n. record { dim = f.keyed.size.dim; vertices = f.keyed.size.vertices; edges = n }) whole

pub keyed_in : (v : Version) (name : List ℕ) (f : Form) → IsFormed v (form_part v name f) → HasEdgesAndKey name f.keyed.size (edges_in f) f.keyed.key
keyed_in v name f h = grind arith

-- the whole part of the entry is what was read
part_same : (v : Version) (name : List ℕ) (f : Form) (lists : List (List ℕ)) → length (edges_in f) ≡ f.keyed.size.edges → (v ≡ Two → lists ≡ f.shells)
    → whole_part v (entry_in name f lists) ≡ form_part v name f
part_same v name f lists h k = grind (arith, size_same)

is_entry : (v : Version) (name : List ℕ) (f : Form) (e : EntryView) → IsFormed v (form_part v name f) → IsEntryOfForm v name f e
    → IsEntry (entry_in name f e.shells)
is_entry v name f e formed of =
    let keyed = keyed_in v name f formed in
    let shells = subst (λ G. AreSequencesOf G e.shells) of.graph of.shells in
    record {
      formed = (
        refl,
        subst (λ s. HasEdgesAndKey name s (edges_in f) f.keyed.key) (sym (size_same f keyed.whole)) keyed,
        are_counted
            (graph_of_form f) e.shells keyed.drawn.is_size.vertices.1 shells,
      );
      is_graph = of.has_key.is_graph;
      certain = of.has_key.certain;
      key = of.has_key.key;
      shells = shells;
    }

-- the rows before another entry
pub rows_with : (v : Version) (es : List EntryView) (e : EntryView) → rows_before v (es ++ e ∷ []) ≡ rows_before v es ++ row_lines (entry_rows v e)
rows_with v es e = simp (flat_map-append, append-nil)

pub entries_pushed : (es : List EntryView) (e : EntryView) → AreEntries es → MayBegin es e.name → IsEntry e → AreEntries (es ++ e ∷ [])
entries_pushed es e good may is = record {
  each = All-push IsEntry es e good.each is;
  names = all_pairs_push (λ (a b : EntryView). a.name ≢ b.name) es e good.names (other_names es e.name may.fresh);
  few = let long = length-append es (e ∷ []) in let few = may.few in omega (arith, long, few);
}

-- an entry that was read and judged stands after the others
pub one_more_entry : (v : Version) (text : List ℕ) (es : List EntryView) (name : List ℕ) (f : Form) (after : Place) (e : EntryView) → AreEntries es
    → MayBegin es name → HasForm v text (rows_before v es) name after f → IsEntryOfForm v name f e
    → AreMore v text es e after
one_more_entry v text es name f after e good may has of =
    let keyed = keyed_in v name f has.whole.formed in
    let part = part_same v name f e.shells keyed.whole (λ two. of.kept two) in
    let rows : (rows_before v es ++ row_lines (part_rows (form_part v name f))) ++ end_row ∷ [] ≡ rows_before v (es ++ entry_in name f e.shells ∷ []) =
    append_assoc (rows_before v es) (row_lines (part_rows (form_part v name f))) (end_row ∷ [])
    ∙ ap (λ l. rows_before v es ++ l) (ap (λ p. row_lines (part_rows p) ++ end_row ∷ []) (sym part)
    ∙ sym (lines_of_sum (part_rows (whole_part v (entry_in name f e.shells))) (OfEnd ∷ [])))
    ∙ sym (rows_with v es (entry_in name f e.shells)) in
    subst (λ x. AreMore v text es x after) (sym (entry_same v name f e of)) (record {
      good = entries_pushed es (entry_in name f e.shells) good may (is_entry v name f e has.whole.formed of);
      at = subst (λ l. IsAt text l after) rows has.at_end;
    })

-- The edges of a form are those of a graph.

-- these are the edges of a graph
pub are_edges : (v : Version) (name : List ℕ) (f : Form) → IsFormed v (form_part v name f)
    → AreEdgesOfGraph f.keyed.size.dim f.keyed.size.vertices f.keyed.edges.items
are_edges v name f formed =
    let k = keyed_in v name f formed in let count = length-map f.keyed.edges.items edge_of in
    record {
      dimension = k.drawn.is_size.dim;
      vertices = k.drawn.is_size.vertices;
      count = omega (arith, count, k.whole, k.drawn.is_size.edges.1);
      each = edges_among f.keyed.size f.keyed.edges.items k.drawn.each;
      rising = k.drawn.rising;
    }

has_number : (G : Graph) (xs : List ℤ) → IsKeyOf G xs → 1 ≤ length xs
has_number G xs k = search arith

is_keyed_part : (name : List ℕ) (G : Graph) (xs : List ℤ) → is_name name ≡ true → IsGraph G → IsSmall G → AreRising G.edges → IsKeyOf G xs → All IsWide xs
    → HasEdgesAndKey name (size_of_graph G) G.edges xs
is_keyed_part name G xs is g small rising k wide =
    let short = key_is_short G xs k in let edges = small.edges in
    let size : IsSize (size_of_graph G) = record { dim = g.dimension; vertices = (g.vertices, small.vertices); edges = (has_edge G xs g k, small.edges) } in
    record {
      drawn = record {
        is_name = is;
        is_size = size;
        each = λ i d l. let h = g.edges i d l in record {
          is_edge = record { from = h.from; to = h.to; shift = h.shift; spelling = h.spelling };
          small =
              small.shifts i d l;
        };
        rising = rising;
        few = omega arith;
      };
      whole = refl;
      is_key = record { some = has_number G xs k; few = omega (arith, short, edges); wide = wide };
    }

-- in the limits, with rising edges and with numbers of 128 bits in the key
pub entry_of_net : (name : List ℕ) (n : KeyedNet) (e : EntryView) → is_name name ≡ true → IsKeyed n → IsEntryOf name n e
    → IsSmall e.graph → AreRising e.graph.edges → All IsWide e.key → IsEntry e
entry_of_net name n e is keyed of small rising wide =
    let g : IsGraph e.graph = subst IsGraph (sym of.graph) keyed.is_graph in
    let k : IsKeyOf e.graph e.key =
    subst (λ (G : Graph). IsKeyOf G e.key) (sym of.graph) (subst (λ (xs : List ℤ). IsKeyOf n.placed.graph xs) (sym of.key) (key_of_graph n keyed)) in
    let named : is_name e.name ≡ true = ap is_name of.name_is ∙ is in
    record {
      formed = (refl, is_keyed_part e.name e.graph e.key named g small rising k wide, are_counted e.graph e.shells small.vertices of.shells);
      is_graph = g;
      certain = subst IsCertain (sym of.graph) (keyed_is_certain n keyed);
      key = k;
      shells = of.shells;
    }

-- The faults of adding an entry.

-- a fault of adding the entry of a net is a fault of adding the net
module _ (a : ArchiveView) (name : List ℕ) (n : KeyedNet) (e : EntryView) (named : is_name name ≡ true) (of : IsEntryOf name n e) where
  fault_of_net : (fault : AddFault) → IsEntryFault a e fault → IsAddFault a name n fault
  fault_of_net NameTaken h = subst (IsTaken a) of.name_is h
  fault_of_net BadName h = absurd h
  fault_of_net Full h = (subst (λ (m : List ℕ). ¬ IsTaken a m) of.name_is h.0, named, e, of, h.1)
  fault_of_net NoMemory h = tt

  -- if a fault is reported
  pub fault_told : {T : Type 0} (r : Result T AddFault) → IfErr r (IsEntryFault a e) → IfErr r (IsAddFault a name n)
  fault_told r k = search (arith, fault_of_net)

-- a text with more entries is no shorter
no_shorter : (v : Version) (es more : List EntryView) → length (text_of v es) ≤ length (text_of v (es ++ more))
no_shorter v es more = search (arith, text_with, length-append)

-- an entry of an archive after others
module _ (a b : ArchiveView) (e : EntryView) (later : List EntryView) (whole : b ≡ record { version = a.version; entries = a.entries ++ e ∷ later })
    (is : IsArchive b) where
  pub entries_are : b.entries ≡ a.entries ++ e ∷ later
  entries_are = ap (λ (c : ArchiveView). c.entries) whole

  pub not_taken : ¬ IsTaken a e.name
  not_taken = names_apart b.entries a.entries e later entries_are is.names

  pub not_full : ¬ IsFull a e
  not_full = ⊎_elim many long
    where
      many : ¬ (most_entries ≤ length a.entries)
      many m = search (arith, entries_are, length-append)

      long : ¬ (most_bytes < length (archive_text (with_entry a e)))
      long m =
          let more = no_shorter a.version (a.entries ++ e ∷ []) later in
          let all : length (archive_text b) ≡ length (text_of a.version ((a.entries ++ e ∷ []) ++ later)) =
          ap (λ (c : ArchiveView). length (archive_text c)) whole ∙ ap (λ (es : List EntryView). length (text_of a.version es))
          (sym (append_assoc a.entries (e ∷ []) later)) in
          let fits = is.fits in
          omega (arith, m, more, all, fits)

  -- it is not refused
  pub entry_no_fault : (fault : AddFault) → IsEntryFault a e fault → fault ≡ NoMemory
  entry_no_fault fault k = search (arith, not_taken, not_full)

-- two faults of adding an entry are one
pub one_entry_fault : (a : ArchiveView) (e : EntryView) (f g : AddFault) → IsEntryFault a e f → IsEntryFault a e g → f ≢ NoMemory → g ≢ NoMemory → f ≡ g
one_entry_fault a e f g l r s t = search arith

-- If a net was added no fault of adding is true but running out of memory, and two such faults are one.

entry_there : (P : EntryView → Type 0) (xs : List EntryView) (y : EntryView) (ys : List EntryView) → All P (xs ++ y ∷ ys) → P y
entry_there P xs y ys all = All-contains P (xs ++ y ∷ ys) y all (Contains-append_right xs (y ∷ ys) y (Contains-append_left (y ∷ []) ys y (Contains-push [] y)))

module _ (a b : ArchiveView) (name : List ℕ) (n : KeyedNet) (e : EntryView) (later : List EntryView)
    (whole : b ≡ record { version = a.version; entries = a.entries ++ e ∷ later }) (is : IsArchive b)
    (named : e.name ≡ name) (only : (x : EntryView) → IsEntryOf name n x → x ≡ e) where
  free : ¬ IsTaken a name
  free = subst (λ m. ¬ IsTaken a m) named (not_taken a b e later whole is)

  is_named : is_name name ≡ true
  is_named =
      let entry = entry_there IsEntry a.entries e later (subst (All IsEntry) (entries_are a b e later whole is) is.each) in
      ap is_name (sym named) ∙ entry.formed.1.drawn.is_name

  roomy : (x : EntryView) → IsEntryOf name n x → ¬ IsFull a x
  roomy x of = subst (λ y. ¬ IsFull a y) (sym (only x of)) (not_full a b e later whole is)

  -- so it is not refused
  pub added_no_fault : (fault : AddFault) → IsAddFault a name n fault → fault ≡ NoMemory
  added_no_fault NameTaken h = absurd (free h)
  added_no_fault BadName h = absurd (true≢false (sym is_named ∙ h.1))
  added_no_fault Full h = absurd (roomy h.2 h.3 h.4)
  added_no_fault NoMemory h = refl

-- two faults of adding under one name are one
pub one_add_fault : (a : ArchiveView) (name : List ℕ) (m n : KeyedNet) (f g : AddFault) → IsAddFault a name m f → IsAddFault a name n g → f ≢ NoMemory
    → g ≢ NoMemory → f ≡ g
one_add_fault a name m n NameTaken BadName h k p q = absurd (k.0 h)
one_add_fault a name m n NameTaken Full h k p q = absurd (k.0 h)
one_add_fault a name m n BadName NameTaken h k p q = absurd (h.0 k)
one_add_fault a name m n BadName Full h k p q = absurd (true≢false (sym k.1 ∙ h.1))
one_add_fault a name m n Full NameTaken h k p q = absurd (h.0 k)
one_add_fault a name m n Full BadName h k p q = absurd (true≢false (sym h.1 ∙ k.1))
one_add_fault a name m n NoMemory g h k p q = absurd (p refl)
one_add_fault a name m n f NoMemory h k p q = absurd (q refl)
one_add_fault a name m n f g h k p q = refl

-- the entry of a net under a name is one
pub one_entry : (name : List ℕ) (m n : KeyedNet) (e f : EntryView) → IsGraph m.placed.graph → TellAlike m n → IsEntryOf name m e → IsEntryOf name n f → e ≡ f
one_entry name m n e f g t a b =
    let graph : e.graph ≡ f.graph = a.graph ∙ ap (λ p. p.graph) t.placed ∙ sym b.graph in
    let is_graph : IsGraph e.graph = subst IsGraph (sym a.graph) g in
    let shells = one_list_of_sequences e.graph is_graph e.shells f.shells a.shells (subst (λ G. AreSequencesOf G f.shells) (sym graph) b.shells) in
    let named = a.name_is ∙ sym b.name_is in let key = a.key ∙ t.key ∙ sym b.key in
    λ i. record { name = named i; graph = graph i; key = key i; shells = shells i }
