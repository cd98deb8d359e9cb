-- What is judged of an entry at its end is one; and the next fault, after entries that go right.
use Rattle.std.proofs.Common.{◌≡◌, ◌≢◌, ℕ, List, [], length, get_or, refl, sym, ap, ◌∙◌, subst, arith, ◌⊎◌, ◌<◌, ℤ, suc, ◌+◌, ◌∷◌, Some, inl, inr, ◌≤◌}
use Rattle.std.proofs.Common.{◌++◌, Bool, true, false, Result, IfOk, IfErr, MatchResult}
use Rattle.std.{proofs.lemmas.Option.get_or_from_slice_get, proofs.lemmas.List.append-nil, proofs.lemmas.Bool.true≢false, proofs.lemmas.Bool.cases_lt}
use Rattle.std.{specs.Prelude.unwrap_or, specs.List.slice_get}
use Rattle.periodic_net.specs.Graph.{IsGraph, Graph}
use Rattle.key_theory.{specs.Key.IsKeyOf, proofs.CallerLemmas.one_key}
use Rattle.coordination.{specs.Sequences.AreSequencesOf, proofs.CallerLemmas.one_list_of_sequences}
use Rattle.least_key.proofs.CallerLemmas.{certain_is_not_refused, one_refusal, key_of_graph, keyed_is_certain}
use Rattle.least_key.specs.{Certain.IsCertain, declared.refusal.Refusal.Refusal, KeyedNets.KeyedNet, KeyedNets.IsKeyed}
use Rattle.archive_text.specs.Reading.{form_part, HasBadLine, HasForm, IsOf}
use Rattle.archive_text.specs.Rows.{name_row, row_lines, end_row}
use Rattle.archive_text.specs.Parts.{Part, Start, part_rows}
use Rattle.archive_text.{specs.Entries.EntryView, specs.declared.rest.Form.Form, specs.Texts.rows_before, specs.declared.version.Version.Version}
use Rattle.archive_text.{specs.declared.version.Version.TheVariants.Two, proofs.CallerLemmas.said, proofs.CallerLemmas.shown}
use Rattle.line_text.specs.{Faults.IfBadLine, declared.faults.RowFault.RowFault, Names.is_name, Lines.Place, Lines.IsAt}
use Rattle.line_text.specs.{declared.faults.RowFault.TheVariants.BadLine as BadRow, declared.faults.RowFault.TheVariants.NoMemory as NoRoom}
use Rattle.net_archive.specs.Judging.{graph_of_form, IsJudged, HasOtherShells, AreRefusedShells, HasKey, HasOtherKey, IsFirstOther, IsRefusedAt, IsOtherKey}
use Rattle.net_archive.specs.declared.faults.ArchiveFault.TheVariants.{CountDiffers, ShellsDiffer, NoMemory, BadLine, RepeatedName, EntryRefused}
use Rattle.net_archive.specs.declared.faults.ArchiveFault.TheVariants.{KeyDiffers, TooManyEntries, Version as OtherVersion, Version as VersionAt}
use Rattle.net_archive.specs.Faults.{AreEntries, MayBegin, IsBegun, MayEnd, HasFault, FaultAt, IsFaultAtEnd}
use Rattle.net_archive.specs.{declared.faults.ArchiveFault.ArchiveFault, Steps.IsFaultTold, Archives.IsEntry, Archives.most_entries, Causes.of_rows}

-- No fault is judged at the end of an entry of an archive.

-- what a part says of its entry
pub graph_said : (v : Version) (name : List ℕ) (f : Form) → (said (form_part v name f)).graph ≡ graph_of_form f
graph_said v name f = search arith

pub key_said : (v : Version) (name : List ℕ) (f : Form) → (said (form_part v name f)).key ≡ f.keyed.key
key_said v name f = search arith

graph_shown : (v : Version) (e : EntryView) → (shown v e).graph ≡ e.graph
graph_shown v e = search arith

key_shown : (v : Version) (e : EntryView) → (shown v e).key ≡ e.key
key_shown v e = search arith

no_other_shells : (name : List ℕ) (f : Form) (fault : ArchiveFault) (e : EntryView) → IsEntry e → said (form_part Two name f) ≡ shown Two e
    → e.graph ≡ graph_of_form f → (fault ≢ NoMemory) → HasOtherShells Two f fault → ⊥
no_other_shells name f fault e is same graph memory other = by fault memory other.refused
  where
    lists : other.lists ≡ f.shells
    lists = one_list_of_sequences (graph_of_form f) other.has_key.is_graph other.lists e.shells other.are_sequences
        (subst (λ G. AreSequencesOf G e.shells) graph is.shells) ∙ sym (ap (λ (x : EntryView). x.shells) same)

    by : (fault : ArchiveFault) → (fault ≢ NoMemory) → AreRefusedShells f.keyed.key_line f.shells other.lists fault → ⊥
    by (CountDiffers n kept computed) memory is = is.differ (is.kept_is ∙ ap length (sym lists) ∙ sym is.computed_is)
    by (ShellsDiffer n class kept computed) memory is =
        is.other.differ (sym (get_or_from_slice_get f.shells is.before kept [] is.other.kept_is) ∙ ap (λ l. get_or l is.before []) (sym lists)
        ∙ get_or_from_slice_get other.lists is.before computed [] is.other.computed_is)
    by NoMemory memory is = memory refl
    by fault memory is = is

-- nothing is judged of an entry of an archive
pub no_judged : (v : Version) (name : List ℕ) (f : Form) (line : ℕ) (fault : ArchiveFault) (e : EntryView) → IsEntry e → said (form_part v name f) ≡ shown v e
    → (fault ≢ NoMemory) → IsJudged v line f fault → ⊥
no_judged v name f line fault e is same memory judged = by fault memory judged
  where
    graph : e.graph ≡ graph_of_form f
    graph = sym (graph_shown v e) ∙ ap (λ (x : EntryView). x.graph) (sym same) ∙ graph_said v name f

    key : e.key ≡ f.keyed.key
    key = sym (key_shown v e) ∙ ap (λ (x : EntryView). x.key) (sym same) ∙ key_said v name f

    shells : (fault : ArchiveFault) → (fault ≢ NoMemory) → HasOtherShells v f fault → ⊥
    shells fault memory other = no_other_shells name f fault e is (subst (λ w. said (form_part w name f) ≡ shown w e) other.version same) graph memory
        (subst (λ w. HasOtherShells w f fault) other.version other)

    by : (fault : ArchiveFault) → (fault ≢ NoMemory) → IsJudged v line f fault → ⊥
    by (EntryRefused n refusal) memory bad =
        bad.2 (certain_is_not_refused (graph_of_form f) refusal (subst IsGraph graph is.is_graph) (subst IsCertain graph is.certain) bad.1)
    by (KeyDiffers n kept computed) memory bad = bad.differ (bad.kept_is ∙ sym key
        ∙ one_key (graph_of_form f) bad.is_graph e.key computed (subst (λ G. IsKeyOf G e.key) graph is.key) bad.key)
    by (CountDiffers n kept computed) memory bad = shells (CountDiffers n kept computed) memory bad
    by (ShellsDiffer n class kept computed) memory bad = shells (ShellsDiffer n class kept computed) memory bad
    by NoMemory memory bad = memory refl
    by fault memory bad = bad

-- the first place at which another list is kept is one
one_first_other : (keeps lists : List (List ℕ)) (i j : ℕ) (a b c d : List ℕ) → IsFirstOther keeps lists i a b → IsFirstOther keeps lists j c d
    → (i ≡ j) × (a ≡ c) × (b ≡ d)
one_first_other keeps lists i j a b c d h k = search arith

-- other lists are refused in one way
one_shells : (key_line : ℕ) (keeps lists : List (List ℕ)) (a b : ArchiveFault) → AreRefusedShells key_line keeps lists a
    → AreRefusedShells key_line keeps lists b → a ≢ NoMemory → b ≢ NoMemory → a ≡ b
one_shells key_line keeps lists a b l s u v = grind (arith, one_first_other)

-- the forms of one entry: their key lines and what they say of a graph, a key and shells are one
pub record AreAlike (v : Version) (f g : Form) : Type 0 where
  pub graph : graph_of_form f ≡ graph_of_form g
  pub key : f.keyed.key ≡ g.keyed.key
  pub key_line : f.keyed.key_line ≡ g.keyed.key_line
  pub shells : v ≡ Two → f.shells ≡ g.shells

module _ (v : Version) (line : ℕ) (f g : Form) (is : IsGraph (graph_of_form f)) (alike : AreAlike v f g) where
  -- what is judged of the one is judged of the other
  refused_there : (n : ℕ) (r : Refusal) → IsJudged v line g (EntryRefused n r) → IsJudged v line f (EntryRefused n r)
  refused_there n r h = subst (λ G. IsRefusedAt line G (EntryRefused n r)) (sym alike.graph) h

  key_there : (xs : List ℤ) → IsKeyOf (graph_of_form g) xs → IsKeyOf (graph_of_form f) xs
  key_there xs h = subst (λ G. IsKeyOf G xs) (sym alike.graph) h

  certain_there : IsCertain (graph_of_form g) → IsCertain (graph_of_form f)
  certain_there h = subst IsCertain (sym alike.graph) h

  -- a certain graph is not refused
  not_refused : (n : ℕ) (r : Refusal) → IsCertain (graph_of_form f) → ¬ IsRefusedAt line (graph_of_form f) (EntryRefused n r)
  not_refused n r certain h = h.2 (certain_is_not_refused (graph_of_form f) r is certain h.1)

  one_refused : (n m : ℕ) (r s : Refusal) → IsRefusedAt line (graph_of_form f) (EntryRefused n r) → IsRefusedAt line (graph_of_form f) (EntryRefused m s)
      → EntryRefused n r ≡ EntryRefused m s
  one_refused n m r s h k =
      let at : n ≡ m = h.0 ∙ sym k.0 in let same = one_refusal (graph_of_form f) r s is h.1 k.1 h.2 k.2 in
      λ i. EntryRefused (at i) (same i)

  one_other_key : (n m : ℕ) (a b c d : List ℤ) → HasOtherKey f n a b → HasOtherKey g m c d → KeyDiffers n a b ≡ KeyDiffers m c d
  one_other_key n m a b c d h k =
      let at : n ≡ m = h.line ∙ alike.key_line ∙ sym k.line in
      let kept : a ≡ c = h.kept_is ∙ alike.key ∙ sym k.kept_is in
      let computed = one_key (graph_of_form f) is b d h.key (key_there d k.key) in
      λ i. KeyDiffers (at i) (kept i) (computed i)

  -- a key that is kept is not another one
  not_other : (n : ℕ) (a b : List ℤ) → HasOtherKey f n a b → ¬ HasKey g
  not_other n a b h k = h.differ (h.kept_is ∙ one_key (graph_of_form f) is f.keyed.key b
      (subst (IsKeyOf (graph_of_form f)) (sym alike.key) (key_there g.keyed.key k.key)) h.key)

  not_other_back : (n : ℕ) (a b : List ℤ) → HasKey f → ¬ HasOtherKey g n a b
  not_other_back n a b k h = h.differ (h.kept_is ∙ sym alike.key ∙ one_key (graph_of_form f) is f.keyed.key b k.key (key_there b h.key))

  one_other_shells : (a b : ArchiveFault) → HasOtherShells v f a → HasOtherShells v g b → a ≢ NoMemory → b ≢ NoMemory → a ≡ b
  one_other_shells a b h k p q =
      let lists : k.lists ≡ h.lists = one_list_of_sequences (graph_of_form f) is k.lists h.lists
      (subst (λ G. AreSequencesOf G k.lists) (sym alike.graph) k.are_sequences) h.are_sequences in
      let shells : g.shells ≡ f.shells = sym (alike.shells h.version) in
      let moved = subst (λ l. AreRefusedShells l g.shells k.lists b) (sym alike.key_line) k.refused in
      one_shells f.keyed.key_line f.shells h.lists a b h.refused (subst (λ l. AreRefusedShells f.keyed.key_line f.shells l b) lists
      (subst (λ s. AreRefusedShells f.keyed.key_line s k.lists b) shells moved)) p q

  -- so what is judged is one
  pub one_judged : (a b : ArchiveFault) → a ≢ NoMemory → b ≢ NoMemory → IsJudged v line f a → IsJudged v line g b → a ≡ b
  one_judged (EntryRefused n r) (EntryRefused m s) p q h k = one_refused n m r s h (refused_there m s k)
  one_judged (EntryRefused n r) (KeyDiffers m c d) p q h k = absurd (not_refused n r (certain_there k.certain) h)
  one_judged (EntryRefused n r) (CountDiffers m c d) p q h k = absurd (not_refused n r (certain_there k.has_key.certain) h)
  one_judged (EntryRefused n r) (ShellsDiffer m c d e) p q h k = absurd (not_refused n r (certain_there k.has_key.certain) h)
  one_judged (KeyDiffers n a b) (EntryRefused m s) p q h k = absurd (not_refused m s h.certain (refused_there m s k))
  one_judged (KeyDiffers n a b) (KeyDiffers m c d) p q h k = one_other_key n m a b c d h k
  one_judged (KeyDiffers n a b) (CountDiffers m c d) p q h k = absurd (not_other n a b h k.has_key)
  one_judged (KeyDiffers n a b) (ShellsDiffer m c d e) p q h k = absurd (not_other n a b h k.has_key)
  one_judged (CountDiffers n a b) (EntryRefused m s) p q h k = absurd (not_refused m s h.has_key.certain (refused_there m s k))
  one_judged (CountDiffers n a b) (KeyDiffers m c d) p q h k = absurd (not_other_back m c d h.has_key k)
  one_judged (CountDiffers n a b) (CountDiffers m c d) p q h k = one_other_shells (CountDiffers n a b) (CountDiffers m c d) h k p q
  one_judged (CountDiffers n a b) (ShellsDiffer m c d e) p q h k = one_other_shells (CountDiffers n a b) (ShellsDiffer m c d e) h k p q
  one_judged (ShellsDiffer n a b c) (EntryRefused m s) p q h k = absurd (not_refused m s h.has_key.certain (refused_there m s k))
  one_judged (ShellsDiffer n a b c) (KeyDiffers m d e) p q h k = absurd (not_other_back m d e h.has_key k)
  one_judged (ShellsDiffer n a b c) (CountDiffers m d e) p q h k = one_other_shells (ShellsDiffer n a b c) (CountDiffers m d e) h k p q
  one_judged (ShellsDiffer n a b c) (ShellsDiffer m d e f') p q h k = one_other_shells (ShellsDiffer n a b c) (ShellsDiffer m d e f') h k p q
  one_judged NoMemory b p q h k = absurd (p refl)
  one_judged a NoMemory p q h k = absurd (q refl)
  one_judged (BadLine n) b p q h k = absurd h
  one_judged (RepeatedName n) b p q h k = absurd h
  one_judged TooManyEntries b p q h k = absurd h
  one_judged (OtherVersion n) b p q h k = absurd h
  one_judged a b p q h k = absurd k

pub at_start : (v : Version) (text : List ℕ) (es : List EntryView) (place : Place) → IsAt text (rows_before v es) place
    → IsAt text (rows_before v es ++ row_lines (part_rows Start)) place
at_start v text es place at = subst (λ l. IsAt text l place) (sym (append-nil (rows_before v es))) at

-- a fault before the name of an entry
fault_at_start : (v : Version) (text : List ℕ) (es : List EntryView) (place : Place) (fault : ArchiveFault) → AreEntries es
    → IsAt text (rows_before v es) place → FaultAt v es Start place fault → HasFault v text fault
fault_at_start v text es place fault good at cause = search (arith, at_start)

pub too_many : (v : Version) (text : List ℕ) (es : List EntryView) (place : Place) (name rest : List ℕ) → AreEntries es → IsAt text (rows_before v es) place
    → most_entries ≤ length es → is_name name ≡ true → place.rest ≡ name_row name ++ 10 ∷ rest → HasFault v text TooManyEntries
too_many v text es place name rest good at many is stands =
    fault_at_start v text es place TooManyEntries good at (
      refl,
      record
          { all_entries = let few = good.few in omega (arith, many, few); name = name; is_name = is; begins = (rest, stands) },
    )

begun_as : (es : List EntryView) (name : List ℕ) (part : Part) → IsOf name part → MayBegin es name → IsBegun es part
begun_as es name part h k = search arith

goes_on : (name : List ℕ) (part : Part) (rest : List ℕ) → IsOf name part → MayEnd part rest → ⊥
goes_on name part rest h k = search arith

pub bad_line : (v : Version) (text : List ℕ) (es : List EntryView) (name : List ℕ) (n : ℕ) → AreEntries es → MayBegin es name
    → HasBadLine v text (rows_before v es) name n → HasFault v text (BadLine n)
bad_line v text es name n good may bad = record {
  entries = es;
  part = bad.part;
  place = bad.place;
  good = good;
  formed = bad.formed;
  begun = begun_as es name bad.part bad.named may;
  at = bad.at;
  cause = record { number = bad.number; no_end = goes_on name bad.part bad.place.rest bad.named; none = bad.none };
}

whole_begun : (v : Version) (es : List EntryView) (name : List ℕ) (f : Form) → MayBegin es name → IsBegun es (form_part v name f)
whole_begun v es name f h = search arith

at_end : (v : Version) (text : List ℕ) (es : List EntryView) (name : List ℕ) (after : Place) (f : Form) (line : ℕ) (fault : ArchiveFault)
    → HasForm v text (rows_before v es) name after f → line ≡ length (rows_before v es) + 1 → IsJudged v line f fault
    → (here : Place) → here ≡ here → (rest : List ℕ) → here.rest ≡ end_row ++ 10 ∷ rest → IsFaultAtEnd v es (form_part v name f) here fault
at_end v text es name after f line fault has at judged here same rest ends = record {
  name = name;
  form = f;
  is = refl;
  ends = (rest, ends);
  key_line = has.line;
  judged = subst (λ n. IsJudged v n f fault) at judged;
}

-- the fault that is judged at the end of an entry
pub judged : (v : Version) (text : List ℕ) (es : List EntryView) (name : List ℕ) (after : Place) (f : Form) (line : ℕ) (fault : ArchiveFault) → AreEntries es
    → MayBegin es name → HasForm v text (rows_before v es) name after f → line ≡ length (rows_before v es) + 1
    → IsJudged v line f fault → IsFaultTold v text fault
judged v text es name after f line fault good may has at is = by fault is
  where
    told : (fault : ArchiveFault) → FaultAt v es (form_part v name f) has.before_end fault → IsFaultTold v text fault
    told fault cause = inr (record {
      entries = es;
      part = form_part v name f;
      place = has.before_end;
      good = good;
      formed = has.whole.formed;
      begun = whole_begun v es name f may;
      at = has.whole.at;
      cause = cause;
    })

    end : (fault : ArchiveFault) → IsJudged v line f fault → IsFaultAtEnd v es (form_part v name f) has.before_end fault
    end fault is = at_end v text es name after f line fault has at is has.before_end refl after.rest has.ends

    by : (fault : ArchiveFault) → IsJudged v line f fault → IsFaultTold v text fault
    by (EntryRefused n refusal) is = told (EntryRefused n refusal) (end (EntryRefused n refusal) is)
    by (KeyDiffers n kept computed) is = told (KeyDiffers n kept computed) (end (KeyDiffers n kept computed) is)
    by (CountDiffers n kept computed) is = told (CountDiffers n kept computed) (end (CountDiffers n kept computed) is)
    by (ShellsDiffer n class kept computed) is = told (ShellsDiffer n class kept computed) (end (ShellsDiffer n class kept computed) is)
    by NoMemory is = inl refl
    by fault is = absurd is

pub result_both : {T E : Type 0} (r : Result T E) (P P' : T → Type 0) (Q Q' : E → Type 0) → ((x : T) → P x → P' x) → ((e : E) → Q e → Q' e) → IfOk r P
    → IfErr r Q → MatchResult r P' Q'
result_both r P P' Q Q' h k l p = search arith

-- if there are not as many entries as may be, one more may stand
pub few_entries : (n : ℕ) (many : Bool) → (most_entries ≤ n → many ≡ true) → many ≡ false → n < most_entries
few_entries n many when h = search (arith, cases_lt, true≢false)

-- a fault of the rows of an entry is reported of the text
pub rows_told : (v : Version) (text : List ℕ) (es : List EntryView) (name : List ℕ) (fault : RowFault) → AreEntries es → MayBegin es name
    → IfBadLine (HasBadLine v text (rows_before v es) name) fault → IsFaultTold v text (of_rows fault)
rows_told v text es name (BadRow n) good may bad = inr (bad_line v text es name n good may bad)
rows_told v text es name NoRoom good may bad = inl refl

-- Lists that agree place by place.

-- lists that have the same at each place are one
pub same_lists : {A : Type 0} (xs ys : List A) → length xs ≡ length ys → ((j : ℕ) → j < length xs → slice_get xs j ≡ slice_get ys j) → xs ≡ ys
same_lists [] [] e h = refl
same_lists (x ∷ xs) (y ∷ ys) e h =
    let first : x ≡ y = ap (λ o. unwrap_or o x) (h 0 (omega arith)) in
    let rest = same_lists xs ys (omega (arith, e)) (λ j l. h (suc j) (omega (arith, l))) in
    λ i. first i ∷ rest i
same_lists xs ys e h = absurd (omega (arith, e))

-- they agree at one more place
pub next_same : {A : Type 0} (xs ys : List A) (n : ℕ) (x y : A) → ((j : ℕ) → j < n → slice_get xs j ≡ slice_get ys j) → slice_get xs n ≡ Some x
    → slice_get ys n ≡ Some y → x ≡ y
    → (j : ℕ) → j < n + 1 → slice_get xs j ≡ slice_get ys j
next_same xs ys n x y h a b e j l = grind arith

-- The faults of the steps are those that are judged of an entry.

-- if the graph is refused
pub refused_judged : (v : Version) (line : ℕ) (f : Form) (fault : ArchiveFault) → IsRefusedAt line (graph_of_form f) fault → IsJudged v line f fault
refused_judged v line f fault k = search arith

-- the net of the form's graph with the key that is kept
pub has_key : (f : Form) (n : KeyedNet) → IsKeyed n → n.placed.graph ≡ graph_of_form f → f.keyed.key ≡ n.key → HasKey f
has_key f n k g e = record {
  is_graph = subst IsGraph g k.is_graph;
  certain = subst IsCertain g (keyed_is_certain n k);
  key = subst (IsKeyOf (graph_of_form f)) (sym e) (subst (λ (G : Graph). IsKeyOf G n.key) g (key_of_graph n k));
}

-- if other shells are kept
pub shells_judged : (v : Version) (line : ℕ) (f : Form) (lists : List (List ℕ)) (fault : ArchiveFault) → HasKey f → AreSequencesOf (graph_of_form f) lists
    → (fault ≡ NoMemory) ⊎ ((v ≡ Two) × AreRefusedShells f.keyed.key_line f.shells lists fault) → IsJudged v line f fault
shells_judged v line f lists fault k s (inl e) = subst (IsJudged v line f) (sym e) tt
shells_judged v line f lists fault k s (inr (two, h)) = by fault h
  where
    by : (fault : ArchiveFault) → AreRefusedShells f.keyed.key_line f.shells lists fault → IsJudged v line f fault
    by NoMemory h = tt
    by (BadLine n) h = absurd h
    by (RepeatedName n) h = absurd h
    by (EntryRefused n refusal) h = absurd h
    by (KeyDiffers n kept computed) h = absurd h
    by TooManyEntries h = absurd h
    by (VersionAt n) h = absurd h
    by fault h = record { version = two; has_key = k; lists = lists; are_sequences = s; refused = h }

-- if another key is kept
pub other_judged : (v : Version) (line : ℕ) (f : Form) (n : KeyedNet) (fault : ArchiveFault) → IsKeyed n → n.placed.graph ≡ graph_of_form f
    → IsOtherKey f.keyed n.key fault → IsJudged v line f fault
other_judged v line f n (KeyDiffers m kept computed) k g h = record {
  line = h.0;
  is_graph = subst IsGraph g k.is_graph;
  certain = subst IsCertain g (keyed_is_certain n k);
  kept_is = h.1;
  key = subst (λ (xs : List ℤ). IsKeyOf (graph_of_form f) xs) (sym h.2) (subst (λ (G : Graph). IsKeyOf G n.key) g (key_of_graph n k));
  differ = h.3;
}
other_judged v line f n NoMemory k g h = tt
other_judged v line f n fault k g h = absurd h
