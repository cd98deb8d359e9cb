-- The first fault of a text is one, and the text of an archive has none. What was read from a text is its archive.
use Rattle.std.proofs.Common.{◌≡◌, ◌≢◌, ◌⊎◌, inl, inr, ℕ, ◌+◌, List, [], ◌∷◌, ◌++◌, All, length, map, drop, get_or, true, refl, sym, ap, ◌∙◌, subst, arith}
use Rattle.std.proofs.Common.{◌≤◌, Result}
use Rattle.std.proofs.lemmas.List.{append-nil, length-append, length-map}
use Rattle.std.{proofs.lemmas.List.Elements.All-head, proofs.lemmas.List.Elements.All-tail, specs.Prelude.IsErrAnd, specs.Prelude.MatchResult}
use Rattle.line_text.specs.{Lines.Place, Lines.rows_text, Names.is_name}
use Rattle.cgd_read.specs.Spelling.{edge_of}
use Rattle.periodic_net.specs.Graph.{Graph, IsGraph}
use Rattle.quotient_graph.proofs.Edges.{listed_graph}
use Rattle.coordination.{specs.Sequences.AreSequencesOf, proofs.CallerLemmas.one_list_of_sequences}
use Rattle.archive_text.specs.Rows.{OfName, OfEnd, row_line, row_lines, first_row, name_row}
use Rattle.archive_text.specs.Parts.{Part, Start, part_rows, IsFormed, MayStandAfter}
use Rattle.archive_text.specs.Texts.{entry_lines, rows_before, text_of, most_bytes}
use Rattle.archive_text.proofs.CallerLemmas.{end_follows, said, shown}
use Rattle.archive_text.specs.{Entries.EntryView, declared.rest.Form.Form, Reading.form_part, declared.version.Version.Version}
use Rattle.archive_text.specs.{declared.version.Version.TheVariants.One, declared.version.Version.TheVariants.Two}
use Rattle.net_archive.specs.Archives.{ArchiveView, IsArchive, IsEntry, archive_text}
use Rattle.net_archive.specs.Faults.{AreEntries, FaultAt, HasFault, IsBadLine, IsFaultAtEnd, IsFaultOf, IsFirstLineFault, IsRepeated, IsTooMany, MayEnd}
use Rattle.net_archive.specs.Faults.{Stands}
use Rattle.net_archive.specs.declared.faults.ArchiveFault.TheVariants.{NoMemory, BadLine, RepeatedName, TooManyEntries, Version as OtherVersion}
use Rattle.net_archive.proofs.Ahead.{HasRead, IsAhead, IsThere, rest_of, states_meet, no_feed, feed_there, same_version, no_earlier_fault}
use Rattle.net_archive.proofs.FirstFaults.{graph_said, key_said, AreAlike, one_judged}
use Rattle.net_archive.{specs.Judging.graph_of_form, specs.declared.faults.ArchiveFault.ArchiveFault, specs.Steps.IsFaultTold, proofs.NewEntry.are_edges}

-- a text that goes on after its first line has no fault in it
no_first_line : (v : Version) (text rest : List ℕ) (fault : ArchiveFault) → text ≡ first_row v ++ 10 ∷ rest → IsFirstLineFault text fault → ⊥
no_first_line v text rest fault h k = search (arith, feed_there, no_feed)

-- the fault in a first line is one
one_first_line : (text : List ℕ) (a b : ArchiveFault) → IsFirstLineFault text a → IsFirstLineFault text b → a ≡ b
one_first_line text a b l p = search arith

module _ (v : Version) (es : List EntryView) (part : Part) (place : Place) where
  -- the kinds of the next fault
  abbrev Cause : ArchiveFault → Type 0
  Cause fault =
      ((n : ℕ) × (fault ≡ BadLine n) × IsBadLine v part place n)
      ⊎ (((n : ℕ) × (fault ≡ RepeatedName n) × (part ≡ Start) × IsRepeated es place n)
      ⊎ (((fault ≡ TooManyEntries) × (part ≡ Start) × IsTooMany es place) ⊎ ((fault ≢ NoMemory) × IsFaultAtEnd v es part place fault)))

  cause_of : (fault : ArchiveFault) → FaultAt v es part place fault → Cause fault
  cause_of (BadLine n) c = inl (n, refl, c)
  cause_of (RepeatedName n) c = inr (inl (n, refl, c.0, c.1))
  cause_of TooManyEntries c = inr (inr (inl (refl, c.0, c.1)))
  cause_of (OtherVersion n) c = absurd c
  cause_of NoMemory c = absurd c
  cause_of fault c = inr (inr (inr ((λ e. cc), c)))

  -- where a name stands, the line is not bad
  not_bad_name : (n : ℕ) (name : List ℕ) → part ≡ Start → is_name name ≡ true → Stands (name_row name) place → ¬ IsBadLine v part place n
  not_bad_name n name start is stands bad = bad.none (OfName name) stands.0 (subst (λ q. MayStandAfter v q (OfName name)) (sym start) is) stands.1

  -- nor where the end stands
  not_bad_end : (n : ℕ) (fault : ArchiveFault) → IsFaultAtEnd v es part place fault → ¬ IsBadLine v part place n
  not_bad_end n fault c bad =
      bad.none OfEnd c.ends.0 (subst (λ q. MayStandAfter v q OfEnd) (sym c.is)
      (end_follows v c.name c.form.keyed.size (map edge_of c.form.keyed.edges.items) c.form.keyed.key c.form.shells)) c.ends.1

  not_start : (fault : ArchiveFault) → IsFaultAtEnd v es part place fault → part ≢ Start
  not_start fault c start = search arith

  module _ (formed : IsFormed v part) where
    alike : (a b : ArchiveFault) (c : IsFaultAtEnd v es part place a) (d : IsFaultAtEnd v es part place b) → AreAlike v c.form d.form
    alike a b c d = record {
      graph = graph;
      key = sym (key_said v c.name c.form) ∙ ap (λ p. (said p).key) same ∙ key_said v d.name d.form;
      key_line = c.key_line ∙ ap (λ n. length (rows_before v es) + (n + 3)) count ∙ sym d.key_line;
      shells = λ two. shells v two c.name d.name c.form d.form same;
    }
      where
        same : form_part v c.name c.form ≡ form_part v d.name d.form
        same = sym c.is ∙ d.is

        graph : graph_of_form c.form ≡ graph_of_form d.form
        graph = sym (graph_said v c.name c.form) ∙ ap (λ p. (said p).graph) same ∙ graph_said v d.name d.form

        count : length c.form.keyed.edges.items ≡ length d.form.keyed.edges.items
        count = sym (length-map c.form.keyed.edges.items edge_of) ∙ ap (λ (G : Graph). length G.edges) graph ∙ length-map d.form.keyed.edges.items edge_of

        shells : (w : Version) → w ≡ Two → (m n : List ℕ) (f g : Form) → form_part w m f ≡ form_part w n g → f.shells ≡ g.shells
        shells w h m n f g k = cc

    is_graph : (a : ArchiveFault) (c : IsFaultAtEnd v es part place a) → IsGraph (graph_of_form c.form)
    is_graph a c = listed_graph c.form.keyed.size.dim c.form.keyed.size.vertices c.form.keyed.edges.items
        (are_edges v c.name c.form (subst (IsFormed v) c.is formed))

    -- after some entries and a part of one more the next fault is one
    one_cause : (a b : ArchiveFault) → Cause a → Cause b → a ≡ b
    one_cause a b (inl x) (inl y) = x.1 ∙ ap BadLine (x.2.number ∙ sym y.2.number) ∙ sym y.1
    one_cause a b (inl x) (inr (inl y)) = absurd (not_bad_name x.0 y.3.name y.2 y.3.is_name y.3.begins x.2)
    one_cause a b (inl x) (inr (inr (inl y))) = absurd (not_bad_name x.0 y.2.name y.1 y.2.is_name y.2.begins x.2)
    one_cause a b (inl x) (inr (inr (inr y))) = absurd (not_bad_end x.0 b y.1 x.2)
    one_cause a b (inr (inl x)) (inl y) = absurd (not_bad_name y.0 x.3.name x.2 x.3.is_name x.3.begins y.2)
    one_cause a b (inr (inl x)) (inr (inl y)) = x.1 ∙ ap RepeatedName (x.3.number ∙ sym y.3.number) ∙ sym y.1
    one_cause a b (inr (inl x)) (inr (inr (inl y))) = absurd (omega (arith, x.3.few, y.2.all_entries))
    one_cause a b (inr (inl x)) (inr (inr (inr y))) = absurd (not_start b y.1 x.2)
    one_cause a b (inr (inr (inl x))) (inl y) = absurd (not_bad_name y.0 x.2.name x.1 x.2.is_name x.2.begins y.2)
    one_cause a b (inr (inr (inl x))) (inr (inl y)) = absurd (omega (arith, y.3.few, x.2.all_entries))
    one_cause a b (inr (inr (inl x))) (inr (inr (inl y))) = x.0 ∙ sym y.0
    one_cause a b (inr (inr (inl x))) (inr (inr (inr y))) = absurd (not_start b y.1 x.1)
    one_cause a b (inr (inr (inr x))) (inl y) = absurd (not_bad_end y.0 a x.1 y.2)
    one_cause a b (inr (inr (inr x))) (inr (inl y)) = absurd (not_start a x.1 y.2)
    one_cause a b (inr (inr (inr x))) (inr (inr (inl y))) = absurd (not_start a x.1 y.1)
    one_cause a b (inr (inr (inr x))) (inr (inr (inr y))) = one_judged v (length (rows_before v es) + 1) x.1.form y.1.form (is_graph a x.1)
        (alike a b x.1 y.1) a b x.0 y.0 x.1.judged y.1.judged

-- what entries show of themselves determines them
same_entry : (v : Version) (x y : EntryView) → IsEntry x → IsEntry y → shown v x ≡ shown v y → x ≡ y
same_entry Two x y hx hy e = e
same_entry One x y hx hy e =
    let graph : x.graph ≡ y.graph = ap (λ (z : EntryView). z.graph) e in
    let lists : x.shells ≡ y.shells = one_list_of_sequences y.graph hy.is_graph x.shells y.shells
    (subst (λ G. AreSequencesOf G x.shells) graph hx.shells) hy.shells in
    λ i. record { name = (e i).name; graph = graph i; key = (e i).key; shells = lists i }

same_entries : (v : Version) (xs ys : List EntryView) → All IsEntry xs → All IsEntry ys → map (shown v) xs ≡ map (shown v) ys → xs ≡ ys
same_entries v [] [] hx hy e = refl
same_entries v (x ∷ xs) (y ∷ ys) hx hy e =
    ap (λ z. z ∷ xs) (same_entry v x y (All-head IsEntry x xs hx) (All-head IsEntry y ys hy) (ap (λ l. head_or (shown v x) l) e))
    ∙ ap (λ l. y ∷ l) (same_entries v xs ys (All-tail IsEntry x xs hx) (All-tail IsEntry y ys hy) (ap (drop 1) e))
  where
    head_or : EntryView → List EntryView → EntryView
    head_or d l = get_or l 0 d
same_entries v xs ys hx hy e = let long = ap length e in absurd (omega (arith, long))

-- the fault after the first line is one
one_later_fault : (v : Version) (text : List ℕ) (a b : ArchiveFault) → HasFault v text a → HasFault v text b → a ≡ b
one_later_fault v text a b h k = by (states_meet v text h.entries k.entries h.part k.part h.place k.place
    (record { each = h.good.each; formed = h.formed; at = h.at }) (record { each = k.good.each; formed = k.formed; at = k.at }))
  where
    there : IsThere v h.entries h.part k.entries k.part h.place.rest k.place.rest → a ≡ b
    there t =
        let entries : h.entries ≡ k.entries = same_entries v h.entries k.entries h.good.each k.good.each t.same in
        let number = h.at.number ∙ (λ i. length (rows_before v (entries i) ++ row_lines (part_rows (sym t.part_is i))) + 1) ∙ sym k.at.number in
        let place : h.place ≡ k.place = λ i. record { rest = sym t.left_is i; number = number i } in
        one_cause v k.entries k.part k.place k.formed a b
        (cause_of v k.entries k.part k.place a (subst (λ (l : Place). FaultAt v k.entries k.part l a) place
        (subst (λ p. FaultAt v k.entries p h.place a) (sym t.part_is) (subst (λ es. FaultAt v es h.part h.place a) entries h.cause))))
        (cause_of v k.entries k.part k.place b k.cause)

    by : IsThere v h.entries h.part k.entries k.part h.place.rest k.place.rest
        ⊎ (IsAhead v h.entries h.part k.entries k.part k.place.rest ⊎ IsAhead v k.entries k.part h.entries h.part h.place.rest) → a ≡ b
    by (inl t) = there t
    by (inr (inl ahead)) = absurd (no_earlier_fault v h.entries h.part h.good h.begun k.entries k.place k.part b k.formed ahead k.cause)
    by (inr (inr ahead)) = absurd (no_earlier_fault v k.entries k.part k.good k.begun h.entries h.place h.part a h.formed ahead h.cause)

-- after the first line of a text with such a fault
abbrev rest_after : (v : Version) (es : List EntryView) (part : Part) (place : Place) → List ℕ
rest_after v es part place = rows_text (entry_lines v es ++ row_lines (part_rows part)) ++ place.rest

first_of : (v : Version) (text : List ℕ) (fault : ArchiveFault) (h : HasFault v text fault) → text ≡ first_row v ++ 10 ∷ rest_after v h.entries h.part h.place
first_of v text fault h = h.at.joined ∙ rest_of v (entry_lines v h.entries) (row_lines (part_rows h.part)) h.place.rest

-- the first fault of a text is one
pub one_fault : (text : List ℕ) (a b : ArchiveFault) → IsFaultOf text a → IsFaultOf text b → a ≢ NoMemory → b ≢ NoMemory → a ≡ b
one_fault text a b (inl m) k p q = absurd (p m)
one_fault text a b h (inl m) p q = absurd (q m)
one_fault text a b (inr (inl h)) (inr (inl k)) p q = one_first_line text a b h k
one_fault text a b (inr (inl h)) (inr (inr (w, k))) p q = absurd (no_first_line w text (rest_after w k.entries k.part k.place) a (first_of w text b k) h)
one_fault text a b (inr (inr (v, h))) (inr (inl k)) p q = absurd (no_first_line v text (rest_after v h.entries h.part h.place) b (first_of v text a h) k)
one_fault text a b (inr (inr (v, h))) (inr (inr (w, k))) p q =
    let same = same_version v w (rest_after v h.entries h.part h.place) (rest_after w k.entries k.part k.place)
    (sym (first_of v text a h) ∙ first_of w text b k) in
    one_later_fault v text a b h (subst (λ u. HasFault u text b) (sym same.version) k)

-- the state after all entries of an archive
abbrev end_of : ArchiveView → Place
end_of a = record { rest = []; number = length (rows_before a.version a.entries ++ []) + 1 }

read_all : (a : ArchiveView) → IsArchive a → HasRead a.version (archive_text a) a.entries Start (end_of a)
read_all a is = grind (arith, append-nil)

-- nothing is left there
nothing_left : (v : Version) (all es : List EntryView) (last part : Part) → IsAhead v all last es part [] → ⊥
nothing_left v all es last part h = let long = ap length h.stands in let two = length-append (row_line h.row) (10 ∷ h.after) in omega (arith, long, two)

-- so there is no fault
no_fault_at_end : (v : Version) (es : List EntryView) (part : Part) (place : Place) (fault : ArchiveFault) → part ≡ Start → place.rest ≡ []
    → FaultAt v es part place fault → ⊥
no_fault_at_end v es part place fault start left c = by (cause_of v es part place fault c)
  where
    none : (row : List ℕ) → Stands row place → ⊥
    none row s = let long = ap length (sym s.1 ∙ left) in let two = length-append row (10 ∷ s.0) in omega (arith, long, two)

    by : Cause v es part place fault → ⊥
    by (inl x) = x.2.no_end (subst (λ q. MayEnd q place.rest) (sym start) left)
    by (inr (inl x)) = none (name_row x.3.name) x.3.begins
    by (inr (inr (inl x))) = none (name_row x.2.name) x.2.begins
    by (inr (inr (inr x))) = not_start v es part place fault x.1 start

are_entries : (a : ArchiveView) → IsArchive a → AreEntries a.entries
are_entries a is = record { each = is.each; names = is.names; few = is.few }

no_later_fault : (a : ArchiveView) (fault : ArchiveFault) → IsArchive a → HasFault a.version (archive_text a) fault → ⊥
no_later_fault a fault is h =
    by (states_meet a.version (archive_text a) a.entries h.entries Start h.part (end_of a) h.place (read_all a is)
    (record { each = h.good.each; formed = h.formed; at = h.at }))
  where
    by : IsThere a.version a.entries Start h.entries h.part [] h.place.rest
        ⊎ (IsAhead a.version a.entries Start h.entries h.part h.place.rest ⊎ IsAhead a.version h.entries h.part a.entries Start []) → ⊥
    by (inl t) = no_fault_at_end a.version h.entries h.part h.place fault t.part_is t.left_is h.cause
    by (inr (inl ahead)) = no_earlier_fault a.version a.entries Start (are_entries a is) tt h.entries h.place h.part fault h.formed ahead h.cause
    by (inr (inr ahead)) = nothing_left a.version h.entries a.entries h.part Start ahead

-- the text of an archive has no fault but running out of memory
pub no_fault_but_memory : (a : ArchiveView) (fault : ArchiveFault) → IsArchive a → IsFaultOf (archive_text a) fault → fault ≡ NoMemory
no_fault_but_memory a fault is (inl memory) = memory
no_fault_but_memory a fault is (inr (inl first)) =
    absurd (no_first_line a.version (archive_text a) (rows_text (entry_lines a.version a.entries)) fault refl first)
no_fault_but_memory a fault is (inr (inr (w, h))) =
    let same = same_version a.version w (rows_text (entry_lines a.version a.entries)) (rest_after w h.entries h.part h.place)
    (first_of w (archive_text a) fault h) in
    absurd (no_later_fault a fault is (subst (λ u. HasFault u (archive_text a) fault) (sym same.version) h))

-- a text is that of one archive alone
pub one_archive : (a b : ArchiveView) → IsArchive a → IsArchive b → archive_text a ≡ archive_text b → a ≡ b
one_archive a b ha hb e = λ i. record { version = version i; entries = entries i }
  where
    version : a.version ≡ b.version
    version = (same_version a.version b.version (rows_text (entry_lines a.version a.entries)) (rows_text (entry_lines b.version b.entries)) e).version

    other : ArchiveView
    other = record { version = a.version; entries = b.entries }

    is_other : IsArchive other
    is_other = subst (λ w. IsArchive (record { version = w; entries = b.entries })) (sym version) hb

    read_other : HasRead a.version (archive_text a) b.entries Start (end_of other)
    read_other = grind (arith, version, read_all, is_other)

    entries : a.entries ≡ b.entries
    entries = by (states_meet a.version (archive_text a) a.entries b.entries Start Start (end_of a) (end_of other) (read_all a ha) read_other)
      where
        by : IsThere a.version a.entries Start b.entries Start [] [] ⊎ (IsAhead a.version a.entries Start b.entries Start []
            ⊎ IsAhead a.version b.entries Start a.entries Start []) → a.entries ≡ b.entries
        by (inl t) = same_entries a.version a.entries b.entries ha.each hb.each t.same
        by (inr (inl ahead)) = absurd (nothing_left a.version a.entries b.entries Start Start ahead)
        by (inr (inr ahead)) = absurd (nothing_left a.version b.entries a.entries Start Start ahead)

-- entries whose text is not too long are an archive
pub are_archive : (v : Version) (es : List EntryView) (text : List ℕ) → length text ≤ most_bytes → AreEntries es → text ≡ text_of v es
    → IsArchive (record { version = v; entries = es })
are_archive v es text l h e = grind arith

-- of the text of an archive no other is read
pub same_archive : (a b : ArchiveView) (text : List ℕ) → IsArchive a → IsArchive b → text ≡ archive_text a → text ≡ archive_text b → b ≡ a
same_archive a b text ha hb ea eb = one_archive b a hb ha (sym eb ∙ ea)

-- of the text of an archive only running out of memory is reported
pub only_memory : (a : ArchiveView) (fault : ArchiveFault) (text : List ℕ) → IsArchive a → text ≡ archive_text a → IsFaultOf text fault → fault ≡ NoMemory
only_memory a fault text h e f = no_fault_but_memory a fault h (subst (λ (t : List ℕ). IsFaultOf t fault) e f)

-- an error that is known has what holds of it
pub matched_error : {A E : Type 0} (Q : A → Type 0) (P : E → Type 0) (x : E) (r : Result A E) → IsErrAnd r (λ e. e ≡ x) → P x → MatchResult r Q P
matched_error Q P x r k l = search arith

-- what is reported after the first line is reported of the text
pub told : (v : Version) (text : List ℕ) (fault : ArchiveFault) → IsFaultTold v text fault → IsFaultOf text fault
told v text fault (inl memory) = inl memory
told v text fault (inr has) = inr (inr (v, has))
