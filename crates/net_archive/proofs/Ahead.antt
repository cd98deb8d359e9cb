-- Of two states of the reading of one text, one lies ahead of the other, or they are one. No fault comes before a state that goes right.
use Rattle.std.proofs.Common.{true≢false, ◌≡◌, ◌≢◌, ℕ, ◌+◌, ◌<◌, List, [], ◌∷◌, ◌++◌, length, refl, sym, ap, ◌∙◌, subst, arith, All, ◌⊎◌, ⊎_elim, inl, inr}
use Rattle.std.proofs.Common.{Bool, true, false, map}
use Rattle.std.proofs.lemmas.List.{append-nil, length-append, length-map}
use Rattle.std.proofs.lemmas.List.Elements.{All-weaker, All-contains, Contains-append_left, Contains-append_right, Contains-push}
use Rattle.std.specs.List.{flat_map, Contains}
use mathlib.Core.List.{append_assoc}
use Rattle.line_text.specs.Lines.{Place, IsAt, HasNo, rows_text}
use Rattle.line_text.{specs.Names.is_name, proofs.CallerLemmas.less_left, proofs.CallerLemmas.same_row}
use Rattle.archive_text.specs.Rows.{first_row, name_row, row_lines, Row, OfName, OfSize, OfEdge, OfKey, OfCount, OfShells, OfEnd, row_line, end_row}
use Rattle.archive_text.specs.Texts.{rows_before, text_of, entry_rows, entry_lines, whole_part}
use Rattle.archive_text.proofs.CallerLemmas.{IsFormedEntry, Cut, Walk, cut_from, entries_walk, entry_cut, lines_of_sum, part_walk, part_with, row_none}
use Rattle.archive_text.proofs.CallerLemmas.{same_row_of, shown, walk_on, end_follows, name_none, part_cut, said, same_name}
use Rattle.archive_text.specs.Parts.{Part, Start, Drawn, Keyed, Counted, part_rows, shells_rows, IsFormed, MayStandAfter}
use Rattle.archive_text.{specs.Entries.EntryView, specs.Reading.form_part, specs.Lookups.names_of, specs.declared.version.Version.Version}
use Rattle.archive_text.{specs.declared.version.Version.TheVariants.One, specs.declared.version.Version.TheVariants.Two, proofs.Walks.formed_with}
use Rattle.periodic_net.specs.Graph.{Arc}
use Rattle.net_archive.specs.Steps.{AreMore, AreRead, HasBegun, IsAfterName}
use Rattle.net_archive.specs.Faults.{AreEntries, HasNoVersion, FaultAt, IsBegun, IsBadLine, IsFaultAtEnd, IsRepeated, IsTooMany, Stands}
use Rattle.net_archive.specs.declared.faults.ArchiveFault.TheVariants.{CountDiffers, ShellsDiffer, NoMemory, BadLine, RepeatedName, EntryRefused}
use Rattle.net_archive.specs.declared.faults.ArchiveFault.TheVariants.{KeyDiffers, TooManyEntries}
use Rattle.net_archive.{specs.Archives.IsEntry, specs.Archives.most_entries, proofs.NewEntry.rows_with, proofs.NewEntry.names_apart}
use Rattle.net_archive.{specs.declared.faults.ArchiveFault.ArchiveFault, proofs.FirstFaults.no_judged}

pub no_feed : (v : Version) → HasNo 10 (first_row v)
no_feed v = search arith

pub feed_there : (xs ys : List ℕ) → HasNo 10 (xs ++ 10 ∷ ys) → ⊥
feed_there [] ys none = true≢false none.0
feed_there (x ∷ xs) ys none = feed_there xs ys none.1

-- a line of another kind is no first line
pub no_version : (text line rest : List ℕ) → text ≡ line ++ 10 ∷ rest →
    ((v : Version) (others : List ℕ) → HasNo 10 (first_row v) → text ≡ first_row v ++ 10 ∷ others → line ≡ first_row v) → ((v : Version) → line ≢ first_row v)
    → HasNoVersion text
no_version text line rest is every h = search (arith, feed_there, no_feed)

-- any text before this place
pub some_text : (v : Version) (es : List EntryView) (place : Place) → place.number ≡ length (rows_before v es) + 1
    → IsAt (rows_text (rows_before v es) ++ place.rest) (rows_before v es) place
some_text v es place number = record { joined = refl; number = number }

pub after_name : (v : Version) (text : List ℕ) (es : List EntryView) (name : List ℕ) (place : Place) → HasBegun v text es name place → IsAfterName name place
after_name v text es name place begun = record { is_name = begun.is_name; text = text; rows = rows_before v es; at = begun.at }

-- with one more entry less of the text is left
pub less_after : (v : Version) (text : List ℕ) (es : List EntryView) (e : EntryView) (before after : Place) → IsAt text (rows_before v es) before
    → AreMore v text es e after → length after.rest < length before.rest
less_after v text es e before after at more = by v refl
  where
    by : (w : Version) → w ≡ v → length after.rest < length before.rest
    by One same = less_left text (rows_before v es) _ (name_row e.name) before after at
        (subst (λ l. IsAt text l after) (rows_with v es e ∙ ap (λ u. rows_before v es ++ row_lines (entry_rows u e)) (sym same)) more.at)
    by Two same = less_left text (rows_before v es) _ (name_row e.name) before after at
        (subst (λ l. IsAt text l after) (rows_with v es e ∙ ap (λ u. rows_before v es ++ row_lines (entry_rows u e)) (sym same)) more.at)

-- if nothing is left, the text is that of the entries
pub whole_text : (v : Version) (text : List ℕ) (es : List EntryView) (place : Place) → IsAt text (rows_before v es) place → length place.rest ≡ 0
    → text ≡ text_of v es
whole_text v text es place at none = at.joined ∙ ap (λ l. rows_text (rows_before v es) ++ l) (empty place.rest none) ∙ append-nil (rows_text (rows_before v es))
  where
    empty : (xs : List ℕ) → length xs ≡ 0 → xs ≡ []
    empty [] e = refl
    empty (x ∷ xs) e = absurd (omega (arith, e))

-- one more entry was read
pub read_more : (v : Version) (start now after : Place) (es : List EntryView) (e : EntryView) → AreRead v start now es
    → ((text : List ℕ) → IsAt text (rows_before v es) now → AreMore v text es e after) → AreRead v start after (es ++ e ∷ [])
read_more v start now after es e read more =
    let here = more (rows_text (rows_before v es) ++ now.rest) (some_text v es now read.number) in
    record { good = here.good; at = λ text at. (more text (read.at text at)).at; number = here.at.number }

-- A text has one version, and an entry of an archive has the form of each.

-- an entry of an archive has the form of each version
formed_in : (v : Version) (e : EntryView) → IsEntry e → IsFormedEntry v e
formed_in One e is = is.formed.1
formed_in Two e is = is.formed

pub formed_all : (v : Version) (es : List EntryView) → All IsEntry es → All (IsFormedEntry v) es
formed_all v es all = All-weaker IsEntry (IsFormedEntry v) (λ e is. formed_in v e is) es all

one_version : (v w : Version) → first_row v ≡ first_row w → v ≡ w
one_version v w h = search arith

-- a text has one version, and the same rows after its first
pub record SameVersion (v w : Version) (x y : List ℕ) : Type 0 where
  pub version : v ≡ w
  pub rest : x ≡ y

pub same_version : (v w : Version) (x y : List ℕ) → first_row v ++ 10 ∷ x ≡ first_row w ++ 10 ∷ y → SameVersion v w x y
same_version v w x y e = search (arith, same_row, no_feed, one_version)

-- these rows begin with those, and the text goes on with the others
record GoesOn (v : Version) (here there : Part) (rows first : List Row) (rest left : List ℕ) : Type 0 where
  others : List Row
  is : rows ≡ first ++ others
  walk : Walk v here others there
  text : rest ≡ rows_text (row_lines others) ++ left

-- two walks of one text meet: the shorter is the beginning of the longer
meet : (v : Version) (p q q' : Part) (rows first : List Row) (left rest : List ℕ) → IsFormed v p → Walk v p rows q → Walk v p first q'
    → rows_text (row_lines rows) ++ left ≡ rows_text (row_lines first) ++ rest
    → GoesOn v q' q rows first rest left ⊎ GoesOn v q q' first rows left rest
meet v p q q' rows [] left rest formed one two e = inl (record { others = rows; is = refl; walk = subst (λ o. Walk v o rows q) two one; text = sym e })
meet v p q q' [] (t ∷ ts) left rest formed one two e = inr (record { others = t ∷ ts; is = refl; walk = subst (λ o. Walk v o (t ∷ ts) q') one two; text = e })
meet v p q q' (r ∷ rs) (t ∷ ts) left rest formed one two e =
    more (meet v (part_with p r) q q' rs ts left rest (formed_with v p r formed one.0) one.1
    (subst (λ x. Walk v (part_with p x) ts q') (sym same) two.1) lines.1)
  where
    lines : (row_line r ≡ row_line t) × (rows_text (row_lines rs) ++ left ≡ rows_text (row_lines ts) ++ rest)
    lines = same_row (row_line r) (row_line t) (rows_text (row_lines rs) ++ left) (rows_text (row_lines ts) ++ rest) (row_none v p r formed one.0)
        (row_none v p t formed two.0)
        (sym (append_assoc (row_line r) (10 ∷ rows_text (row_lines rs)) left) ∙ e ∙ append_assoc (row_line t) (10 ∷ rows_text (row_lines ts)) rest)

    same : r ≡ t
    same = same_row_of v p r t formed one.0 two.0 lines.0

    more : GoesOn v q' q rs ts rest left ⊎ GoesOn v q q' ts rs left rest → GoesOn v q' q (r ∷ rs) (t ∷ ts) rest left ⊎ GoesOn v q q' (t ∷ ts) (r ∷ rs) left rest
    more (inl g) = inl (record { others = g.others; is = ap (λ x. x ∷ rs) same ∙ ap (λ l. t ∷ l) g.is; walk = g.walk; text = g.text })
    more (inr g) = inr (record { others = g.others; is = ap (λ x. x ∷ ts) (sym same) ∙ ap (λ l. r ∷ l) g.is; walk = g.walk; text = g.text })

-- whether an entry ends in these rows
abbrev has_end : List Row → Bool
has_end [] = false
has_end (OfEnd ∷ rs) = true
has_end (OfName name ∷ rs) = has_end rs
has_end (OfSize s ∷ rs) = has_end rs
has_end (OfEdge dim e ∷ rs) = has_end rs
has_end (OfKey key ∷ rs) = has_end rs
has_end (OfCount n ∷ rs) = has_end rs
has_end (OfShells c sizes ∷ rs) = has_end rs

edges_end : (dim : ℕ) (edges : List Arc) (rs : List Row) → has_end (map (OfEdge dim) edges ++ rs) ≡ has_end rs
edges_end dim [] rs = refl
edges_end dim (e ∷ es) rs = edges_end dim es rs

shells_end : (lists : List (List ℕ)) (c : ℕ) (rs : List Row) → has_end (shells_rows c lists ++ rs) ≡ has_end rs
shells_end [] c rs = refl
shells_end (x ∷ xs) c rs = shells_end xs (c + 1) rs

-- none ends in the rows of a part
part_end : (p : Part) (rs : List Row) → has_end (part_rows p ++ rs) ≡ has_end rs
part_end (Drawn name s edges) rs = edges_end s.dim edges rs
part_end (Keyed name s edges key) rs = ap has_end (append_assoc (map (OfEdge s.dim) edges) (OfKey key ∷ []) rs) ∙ edges_end s.dim edges (OfKey key ∷ rs)
part_end (Counted name s edges key n lists) rs =
    ap has_end (append_assoc (map (OfEdge s.dim) edges) (OfKey key ∷ OfCount n ∷ shells_rows 1 lists) rs)
    ∙ edges_end s.dim edges (OfKey key ∷ OfCount n ∷ (shells_rows 1 lists ++ rs)) ∙ shells_end lists 1 rs
part_end p rs = refl

pub no_end : (p : Part) (xs rs : List Row) → part_rows p ≡ xs ++ OfEnd ∷ rs → ⊥
no_end p xs rs e = true≢false (sym (there xs) ∙ ap has_end (sym e ∙ sym (append-nil (part_rows p))) ∙ part_end p [])
  where
    there : (xs : List Row) → has_end (xs ++ OfEnd ∷ rs) ≡ true
    there (OfName name ∷ xs) = there xs
    there (OfSize s ∷ xs) = there xs
    there (OfEdge dim e ∷ xs) = there xs
    there (OfKey key ∷ xs) = there xs
    there (OfCount n ∷ xs) = there xs
    there (OfShells c sizes ∷ xs) = there xs
    there xs = refl

-- the rows of entries and of a part of one more
abbrev pub rows_of : Version → List EntryView → Part → List Row
rows_of v es part = flat_map (entry_rows v) es ++ part_rows part

-- entries that begin with some that show the same, and what follows
record Front (v : Version) (all es : List EntryView) (last : Part) (rows : List Row) : Type 0 where
  front : List EntryView
  more : List EntryView
  is : all ≡ front ++ more
  same : map (shown v) front ≡ map (shown v) es
  follow : rows ≡ flat_map (entry_rows v) more ++ part_rows last

front_of : (v : Version) (all es : List EntryView) (last : Part) (rows : List Row) → rows_of v all last ≡ flat_map (entry_rows v) es ++ rows
    → Front v all es last rows
front_of v all [] last rows e = record { front = []; more = all; is = refl; same = refl; follow = sym e }
front_of v [] (b ∷ bs) last rows e =
    absurd (no_end last (part_rows (whole_part v b)) (flat_map (entry_rows v) bs ++ rows)
    (e ∙ append_assoc (entry_rows v b) (flat_map (entry_rows v) bs) rows
    ∙ append_assoc (part_rows (whole_part v b)) (OfEnd ∷ []) (flat_map (entry_rows v) bs ++ rows)))
front_of v (a ∷ as') (b ∷ bs) last rows e =
    let cut : record { first = shown v a; rest = rows_of v as' last } ≡ record { first = shown v b; rest = flat_map (entry_rows v) bs ++ rows } =
    sym (entry_cut v a (rows_of v as' last)) ∙ ap (cut_from Start) (sym (append_assoc (entry_rows v a) (flat_map (entry_rows v) as') (part_rows last)) ∙ e
    ∙ append_assoc (entry_rows v b) (flat_map (entry_rows v) bs) rows)
    ∙ entry_cut v b (flat_map (entry_rows v) bs ++ rows) in
    let later = front_of v as' bs last rows (ap (λ (c : Cut). c.rest) cut) in
    record {
      front = a ∷ later.front;
      more = later.more;
      is = ap (λ l. a ∷ l) later.is;
      same = ap (λ x. x ∷ map (shown v) later.front) (ap (λ (c : Cut). c.first) cut) ∙ ap (λ l. shown v b ∷ l) later.same;
      follow = later.follow;
    }

-- after these entries and this part the text goes on with a row that may follow, up to all entries and the last part
pub record IsAhead (v : Version) (all : List EntryView) (last : Part) (es : List EntryView) (part : Part) (rest : List ℕ) : Type 0 where
  pub row : Row
  pub others : List Row
  pub may : MayStandAfter v part row
  pub after : List ℕ
  pub stands : rest ≡ row_line row ++ 10 ∷ after
  pub front : List EntryView
  pub more : List EntryView
  pub is : all ≡ front ++ more
  pub same : map (shown v) front ≡ map (shown v) es
  pub rows : part_rows part ++ row ∷ others ≡ flat_map (entry_rows v) more ++ part_rows last

-- the part, and what the entries show, are one, and the same is left
pub record IsThere (v : Version) (all : List EntryView) (last : Part) (es : List EntryView) (part : Part) (left rest : List ℕ) : Type 0 where
  pub same : map (shown v) all ≡ map (shown v) es
  pub part_is : part ≡ last
  pub left_is : rest ≡ left

-- the rows of entries alone
none_follow : (v : Version) (more : List EntryView) → [] ≡ flat_map (entry_rows v) more → more ≡ []
none_follow v [] e = refl
none_follow v (m ∷ ms) e = absurd (no_end Start (part_rows (whole_part v m)) (flat_map (entry_rows v) ms)
    (e ∙ append_assoc (part_rows (whole_part v m)) (OfEnd ∷ []) (flat_map (entry_rows v) ms)))

module _ (v : Version) (all es : List EntryView) (last part : Part) (left rest : List ℕ) where
  -- where the one goes on from the other
  beyond : GoesOn v part last (rows_of v all last) (rows_of v es part) rest left → IsThere v all last es part left rest ⊎ IsAhead v all last es part rest
  beyond g = by g.others g.is g.walk g.text
    where
      by : (others : List Row) → rows_of v all last ≡ rows_of v es part ++ others → Walk v part others last → rest ≡ rows_text (row_lines others) ++ left
          → IsThere v all last es part left rest ⊎ IsAhead v all last es part rest
      by [] is walk text =
          let f = front_of v all es last (part_rows part) (is ∙ append-nil (rows_of v es part)) in
          let none : f.more ≡ [] = none_follow v f.more (cancel (flat_map (entry_rows v) f.more) (part_rows last) (ap part_rows (sym walk) ∙ f.follow)) in
          let whole : all ≡ f.front = f.is ∙ ap (λ l. f.front ++ l) none ∙ append-nil f.front in
          inl (record { same = ap (map (shown v)) whole ∙ f.same; part_is = walk; left_is = text })
        where
          cancel : (xs ys : List Row) → ys ≡ xs ++ ys → [] ≡ xs
          cancel [] ys e = refl
          cancel (x ∷ xs) ys e = let long = ap length e in let two = length-append xs ys in absurd (omega (arith, long, two))
      by (r ∷ rs) is walk text =
          let f = front_of v all es last (part_rows part ++ r ∷ rs) (is ∙ append_assoc (flat_map (entry_rows v) es) (part_rows part) (r ∷ rs)) in
          inr (record {
            row = r;
            others = rs;
            may = walk.0;
            after = rows_text (row_lines rs) ++ left;
            stands = text ∙ append_assoc (row_line r) (10 ∷ rows_text (row_lines rs)) left;
            front = f.front;
            more = f.more;
            is = f.is;
            same = f.same;
            rows = f.follow;
          })

lines_of_entries : (v : Version) (es : List EntryView) → entry_lines v es ≡ row_lines (flat_map (entry_rows v) es)
lines_of_entries v [] = refl
lines_of_entries v (e ∷ es) = ap (λ l. row_lines (entry_rows v e) ++ l) (lines_of_entries v es)
    ∙ sym (lines_of_sum (entry_rows v e) (flat_map (entry_rows v) es))

-- the text of these rows, after the first row
pub rest_of : (w : Version) (rows more : List (List ℕ)) (rest : List ℕ)
    → rows_text ((first_row w ∷ rows) ++ more) ++ rest ≡ first_row w ++ 10 ∷ (rows_text (rows ++ more) ++ rest)
rest_of w rows more rest = append_assoc (first_row w) (10 ∷ rows_text (rows ++ more)) rest

-- the rows of entries and of a part, as bytes
lines_of : (v : Version) (es : List EntryView) (part : Part) (rest : List ℕ)
    → rows_text (row_lines (rows_of v es part)) ++ rest ≡ rows_text (entry_lines v es ++ row_lines (part_rows part)) ++ rest
lines_of v es part rest = search (arith, lines_of_sum, lines_of_entries)

-- these entries and this part of one more stand in a text up to this place
pub record HasRead (v : Version) (text : List ℕ) (es : List EntryView) (part : Part) (place : Place) : Type 0 where
  pub each : All IsEntry es
  pub formed : IsFormed v part
  pub at : IsAt text (rows_before v es ++ row_lines (part_rows part)) place

walk_of : (v : Version) (es : List EntryView) (part : Part) → All IsEntry es → IsFormed v part → Walk v Start (rows_of v es part) part
walk_of v es part all formed = walk_on v Start Start part (flat_map (entry_rows v) es) (part_rows part) (entries_walk v es (formed_all v es all))
    (part_walk v part formed)

module _ (v : Version) (text : List ℕ) (all es : List EntryView) (last part : Part) (there here : Place) (a : HasRead v text all last there)
    (b : HasRead v text es part here) where
  same_lines : rows_text (row_lines (rows_of v all last)) ++ there.rest ≡ rows_text (row_lines (rows_of v es part)) ++ here.rest
  same_lines =
      let e = sym (rest_of v (entry_lines v all) (row_lines (part_rows last)) there.rest) ∙ sym a.at.joined ∙ b.at.joined
      ∙ rest_of v (entry_lines v es) (row_lines (part_rows part)) here.rest in
      lines_of v all last there.rest ∙ (same_version v v _ _ e).rest ∙ sym (lines_of v es part here.rest)

  -- of two states of one text, one lies ahead of the other, or they are one
  pub states_meet : IsThere v all last es part there.rest here.rest ⊎ (IsAhead v all last es part here.rest ⊎ IsAhead v es part all last there.rest)
  states_meet = by (meet v Start last part (rows_of v all last) (rows_of v es part) there.rest here.rest tt (walk_of v all last a.each a.formed)
      (walk_of v es part b.each b.formed) same_lines)
    where
      turned : IsThere v es part all last here.rest there.rest → IsThere v all last es part there.rest here.rest
      turned h = record { same = sym h.same; part_is = sym h.part_is; left_is = sym h.left_is }

      by : GoesOn v part last (rows_of v all last) (rows_of v es part) here.rest there.rest
          ⊎ GoesOn v last part (rows_of v es part) (rows_of v all last) there.rest here.rest
          → IsThere v all last es part there.rest here.rest ⊎ (IsAhead v all last es part here.rest ⊎ IsAhead v es part all last there.rest)
      by (inl g) = ⊎_elim (λ h. inl h) (λ h. inr (inl h)) (beyond v all es last part there.rest here.rest g)
      by (inr g) = ⊎_elim (λ h. inl (turned h)) (λ h. inr (inr h)) (beyond v es all part last here.rest there.rest g)

shown_name : (v : Version) (e : EntryView) → (shown v e).name ≡ e.name
shown_name v e = search arith

names_shown : (v : Version) (es : List EntryView) → map (λ (x : EntryView). x.name) (map (shown v) es) ≡ names_of es
names_shown v [] = refl
names_shown v (e ∷ es) = ap (λ n. n ∷ map (λ (x : EntryView). x.name) (map (shown v) es)) (shown_name v e) ∙ ap (λ l. e.name ∷ l) (names_shown v es)

same_names : (v : Version) (xs ys : List EntryView) → map (shown v) xs ≡ map (shown v) ys → names_of xs ≡ names_of ys
same_names v xs ys e = sym (names_shown v xs) ∙ ap (map (λ (x : EntryView). x.name)) e ∙ names_shown v ys

same_length : (v : Version) (xs ys : List EntryView) → map (shown v) xs ≡ map (shown v) ys → length xs ≡ length ys
same_length v xs ys e = sym (length-map xs (shown v)) ∙ ap length e ∙ length-map ys (shown v)

-- after a name one more entry of this name is begun
begun_with : (all : List EntryView) (last : Part) (name : List ℕ) (others : List Row) → OfName name ∷ others ≡ part_rows last → IsBegun all last
    → (¬ Contains (names_of all) name) × (length all < most_entries)
begun_with all last name others h k = grind arith

entry_there : (P : EntryView → Type 0) (xs : List EntryView) (y : EntryView) (ys : List EntryView) → All P (xs ++ y ∷ ys) → P y
entry_there P xs y ys all = All-contains P (xs ++ y ∷ ys) y all (Contains-append_right xs (y ∷ ys) y (Contains-append_left (y ∷ []) ys y (Contains-push [] y)))

module _ (v : Version) (all : List EntryView) (last : Part) (good : AreEntries all) (begun : IsBegun all last) (es : List EntryView) (place : Place) where
  -- no line breaks the format
  no_bad_line : (part : Part) (n : ℕ) → IsAhead v all last es part place.rest → IsBadLine v part place n → ⊥
  no_bad_line part n a bad = bad.none a.row a.after a.may a.stands

  module _ (a : IsAhead v all last es Start place.rest) (name : List ℕ) (is : is_name name ≡ true) (stands : Stands (name_row name) place) where
    -- the row is this name
    row_is : a.row ≡ OfName name
    row_is = search (arith, same_name, same_row, name_none)

    rows_are : OfName name ∷ a.others ≡ flat_map (entry_rows v) a.more ++ part_rows last
    rows_are = ap (λ r. r ∷ a.others) (sym row_is) ∙ a.rows

    -- the name is new, and there is room for one more
    fresh : (more : List EntryView) → all ≡ a.front ++ more → OfName name ∷ a.others ≡ flat_map (entry_rows v) more ++ part_rows last
        → (¬ Contains (names_of a.front) name) × (length a.front < most_entries)
    fresh [] whole rows =
        let same : all ≡ a.front = whole ∙ append-nil a.front in
        subst (λ l. (¬ Contains (names_of l) name) × (length l < most_entries)) same (begun_with all last name a.others rows begun)
    fresh (e ∷ later) whole rows = (none, room)
      where
        own : e.name ≡ name
        own = grind arith

        long : length all ≡ length (a.front ++ e ∷ later)
        long = ap length whole

        room : length a.front < most_entries
        room = let two = length-append a.front (e ∷ later) in let few = good.few in omega (arith, long, two, few)

        none : ¬ Contains (names_of a.front) name
        none = subst (λ n. ¬ Contains (names_of a.front) n) own (names_apart all a.front e later whole good.names)

  no_repeated : (n : ℕ) → IsAhead v all last es Start place.rest → IsRepeated es place n → ⊥
  no_repeated n a bad = (fresh a bad.name bad.is_name bad.begins a.more a.is (rows_are a bad.name bad.is_name bad.begins)).0
      (subst (λ l. Contains l bad.name) (sym (same_names v a.front es a.same)) bad.among)

  no_too_many : IsAhead v all last es Start place.rest → IsTooMany es place → ⊥
  no_too_many a bad =
      let room = (fresh a bad.name bad.is_name bad.begins a.more a.is (rows_are a bad.name bad.is_name bad.begins)).1 in
      let count = same_length v a.front es a.same in
      omega (arith, room, count, bad.all_entries)

  -- what is judged at the end of an entry that was read is nothing
  no_end_fault : (part : Part) (fault : ArchiveFault) → fault ≢ NoMemory → IsFormed v part → IsAhead v all last es part place.rest
      → IsFaultAtEnd v es part place fault → ⊥
  no_end_fault part fault memory formed a c = by a.more a.is (ap (λ r. part_rows part ++ r ∷ a.others) (sym ends) ∙ a.rows)
    where
      follows : MayStandAfter v part OfEnd
      follows = search (arith, end_follows)

      ends : a.row ≡ OfEnd
      ends = same_row_of v part a.row OfEnd formed a.may follows
          (same_row (row_line a.row) end_row a.after c.ends.0 (row_none v part a.row formed a.may) (row_none v part OfEnd formed follows)
          (sym a.stands ∙ c.ends.1)).0

      by : (more : List EntryView) → all ≡ a.front ++ more → part_rows part ++ OfEnd ∷ a.others ≡ flat_map (entry_rows v) more ++ part_rows last → ⊥
      by [] whole rows = no_end last (part_rows part) a.others (sym rows)
      by (e ∷ later) whole rows =
          let cut : cut_from part (OfEnd ∷ a.others) ≡ record { first = shown v e; rest = flat_map (entry_rows v) later ++ part_rows last } =
          sym (part_cut part (OfEnd ∷ a.others)) ∙ ap (cut_from Start) (rows ∙ append_assoc (entry_rows v e) (flat_map (entry_rows v) later) (part_rows last))
          ∙ entry_cut v e (flat_map (entry_rows v) later ++ part_rows last) in
          let same : said (form_part v c.name c.form) ≡ shown v e = ap said (sym c.is) ∙ ap (λ (x : Cut). x.first) cut in
          no_judged v c.name c.form _ fault e (entry_there IsEntry a.front e later (subst (All IsEntry) whole good.each)) same memory c.judged

  -- no fault comes before
  pub no_earlier_fault : (part : Part) (fault : ArchiveFault) → IsFormed v part → IsAhead v all last es part place.rest → FaultAt v es part place fault → ⊥
  no_earlier_fault part (BadLine n) formed a c = no_bad_line part n a c
  no_earlier_fault part (RepeatedName n) formed a c = no_repeated n (subst (λ q. IsAhead v all last es q place.rest) c.0 a) c.1
  no_earlier_fault part TooManyEntries formed a c = no_too_many (subst (λ q. IsAhead v all last es q place.rest) c.0 a) c.1
  no_earlier_fault part (EntryRefused n refusal) formed a c = no_end_fault part (EntryRefused n refusal) (λ e. cc) formed a c
  no_earlier_fault part (KeyDiffers n kept computed) formed a c = no_end_fault part (KeyDiffers n kept computed) (λ e. cc) formed a c
  no_earlier_fault part (CountDiffers n kept computed) formed a c = no_end_fault part (CountDiffers n kept computed) (λ e. cc) formed a c
  no_earlier_fault part (ShellsDiffer n class kept computed) formed a c = no_end_fault part (ShellsDiffer n class kept computed) (λ e. cc) formed a c
  no_earlier_fault part fault formed a c = c
