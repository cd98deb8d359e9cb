-- Groups of entries with equal keys are groups of entries with isomorphic nets, in each sense that keys decide. A regrouped archive is an archive.
use Rattle.std.proofs.Common.{◌≡◌, ◌∙◌, ℕ, ◌+◌, ◌<◌, List, [], ◌∷◌, ◌++◌, length, take, map, get_or, Bor, sym, ap, subst, arith, add-one, ◌≢◌, refl, inl, ℤ}
use Rattle.std.proofs.Common.{Bool, true, false, filter, cond, inr, zero, suc, ◌-◌, ◌≤◌, slice_get, Some, Result, Ok, Err, Vec}
use Rattle.std.proofs.lemmas.List.{map-append, length-map, get_or-map, length-append}
use Rattle.std.proofs.lemmas.List.Elements.{Contains-push, All-map, All-head, All-tail, All-contains, Contains-append_left, Contains-append_right}
use Rattle.std.proofs.lemmas.List.Elements.{Contains-get_or}
use Rattle.std.proofs.lemmas.List.Sorted.{All-permutation, length_permutation, sum_by-IsPermutation, IsPermutation-map}
use Rattle.std.specs.List.{All, AllPairs, sum_by, Contains, enumerate_from}
use Rattle.std.{proofs.Math.Seq.take-suc, proofs.lemmas.List.Sums.sum_by-cons, proofs.lemmas.Slice.Eq.slice_eq-Decides, proofs.lemmas.Bool.true≢false}
use Rattle.std.{proofs.lemmas.Bool.Decides.Decides-int_eq, proofs.lemmas.Option.slice_get_within, proofs.lemmas.Option.get_or_from_slice_get}
use Rattle.std.{specs.List.Sorted.IsPermutation, specs.Prelude.IfOk, specs.declared.alloc.Global.Global, specs.Cmp.Rules.signed_items}
use Rattle.line_text.{specs.Lines.rows_text, proofs.CallerLemmas.rows_text_of_sum}
use Rattle.archive_text.specs.Entries.{EntryView, entry_view, entry_views}
use Rattle.archive_text.specs.Lookups.{names_of, names_with, same_key}
use Rattle.archive_text.specs.Groups.{AreGroups, IsGroup, numbers_from, numbers_in, numbers_with}
use Rattle.archive_text.{specs.declared.entry.Entry.Entry, specs.declared.version.Version.Version, specs.Texts.entry_lines, specs.Regrouped.regrouped}
use Rattle.archive_text.{specs.Regrouped.AreTogether, proofs.CallerLemmas.is_regrouped}
use Rattle.integers.proofs.lists.Members.{IsIn, is_in, contains_from_in}
use Rattle.integers.proofs.lists.Permutations.{permuted_pairs}
use Rattle.periodic_net.specs.Graph.{Graph, IsGraph}
use Rattle.key_theory.specs.{Key.IsKeyOf, Laws.KeysDecideBy}
use Rattle.net_archive.specs.Archives.{IsEntry, IsArchive, IsInMemory}
use Rattle.net_archive.specs.Deciding.{AreGroupsBy, AreNamesBy, IsEntryAt, KeysDecideArchive, ShareGroup, StandTogetherBy}
use Rattle.net_archive.proofs.NewEntry.{body_with, lines_with, text_length}

-- The rows of lent entries.

abbrev pub lent_view : Bor Entry → EntryView
lent_view e = entry_view e.now

-- the rows of one more entry
pub next_rows : (v : Version) (lent : List (Bor Entry)) (i : ℕ) (e : Bor Entry) (before after : List ℕ) → i < length lent → e ≡ get_or lent i e
    → before ≡ rows_text (entry_lines v (map lent_view (take i lent))) → after ≡ before ++ rows_text (entry_lines v (lent_view e ∷ []))
    → after ≡ rows_text (entry_lines v (map lent_view (take (i + 1) lent)))
next_rows v lent i e before after l is b a =
    let longer : take (i + 1) lent ≡ take i lent ++ e ∷ [] = ap (λ (n : ℕ). take n lent) (add-one i) ∙ take-suc lent i e l
    ∙ ap (λ (x : Bor Entry). take i lent ++ x ∷ []) (sym is) in
    a ∙ ap (λ (t : List ℕ). t ++ rows_text (entry_lines v (lent_view e ∷ []))) b ∙ body_with v (map lent_view (take i lent)) (lent_view e)
    ∙ ap (λ (es : List EntryView). rows_text (entry_lines v es)) (sym (map-append lent_view (take i lent) (e ∷ [])))
    ∙ ap (λ (es : List (Bor Entry)). rows_text (entry_lines v (map lent_view es))) (sym longer)

-- what holds of all entries as they are seen holds of them as they are lent
pub all_lent : (lent : List (Bor Entry)) → All IsEntry (map lent_view lent) → All (λ (e : Bor Entry). IsEntry (entry_view e.now)) lent
all_lent lent all k d l =
    subst IsEntry (get_or-map lent_view lent k d (lent_view d) l) (all k (lent_view d) (let n = length-map lent lent_view in omega (arith, n, l)))

-- what holds of all entries in memory holds of them as they are seen
pub all_seen : (items : List Entry) → All (λ (e : Entry). IsEntry (entry_view e)) items → All IsEntry (entry_views items)
all_seen items all = All-map IsEntry entry_view items all

abbrev pub size_of : Version → EntryView → ℕ
size_of v e = length (rows_text (entry_lines v (e ∷ [])))

-- the rows of entries have as many bytes as those of each together
sizes : (v : Version) (es : List EntryView) → length (rows_text (entry_lines v es)) ≡ sum_by (size_of v) es
sizes v [] = refl
sizes v (e ∷ es) =
    let whole = ap (λ rows. length (rows_text rows)) (lines_with v (e ∷ []) es) ∙ ap length (rows_text_of_sum (entry_lines v (e ∷ [])) (entry_lines v es)) in
    whole ∙ length-append (rows_text (entry_lines v (e ∷ []))) (rows_text (entry_lines v es)) ∙ ap (λ n. size_of v e + n) (sizes v es)
    ∙ sym (sum_by-cons (size_of v) e es)

-- the same entries in another order have a text of the same length
same_length : (v : Version) (es fs : List EntryView) → IsPermutation es fs → length (rows_text (entry_lines v fs)) ≡ length (rows_text (entry_lines v es))
same_length v es fs p = sizes v fs ∙ sum_by-IsPermutation (size_of v) es fs p ∙ sym (sizes v es)

abbrev name_in : EntryView → List ℕ
name_in e = e.name

-- at a place within the list any default serves
names_apart : (es : List EntryView) → AllPairs (λ (e f : EntryView). e.name ≢ f.name) es → AllPairs (λ m n. m ≢ n) (map name_in es)
names_apart [] h i j d l m eq = absurd (omega (arith, m))
names_apart (x ∷ es) h i j d l m eq =
    let all = x ∷ es in let n = length-map all name_in in let inside : j < length all = omega (arith, n, m) in
    h i j x l inside (sym (get_or-map name_in all i x d (omega (arith, l, inside))) ∙ eq ∙ get_or-map name_in all j x d inside)

apart_again : (es : List EntryView) → AllPairs (λ m n. m ≢ n) (map name_in es) → AllPairs (λ (e f : EntryView). e.name ≢ f.name) es
apart_again es h i j d l m eq =
    let n = length-map es name_in in
    h i j (name_in d) l (omega (arith, n, m)) (get_or-map name_in es i d (name_in d) (omega (arith, l, m)) ∙ eq ∙ sym (get_or-map name_in es j d (name_in d) m))

-- the same entries in another order have different names
names_differ : (es fs : List EntryView) → IsPermutation es fs → AllPairs (λ (e f : EntryView). e.name ≢ f.name) es
    → AllPairs (λ (e f : EntryView). e.name ≢ f.name) fs
names_differ es fs p h = apart_again fs (permuted_pairs (map name_in es) (map name_in fs) (IsPermutation-map name_in es fs p) (names_apart es h))

-- the same entries in another order are an archive
pub permuted_archive : (v : Version) (es fs : List EntryView) → IsPermutation es fs → IsArchive (record { version = v; entries = es })
    → IsArchive (record { version = v; entries = fs })
permuted_archive v es fs p a =
    let l = length_permutation es fs p in let old = text_length v es in let new = text_length v fs in
    let bytes = same_length v es fs p in let fits = a.fits in
    record {
      each = All-permutation IsEntry es fs p a.each;
      names = names_differ es fs p a.names;
      few = let few = a.few in omega (arith, l, few);
      fits = omega (arith, old, new, bytes, fits);
    }

-- the archive with its entries regrouped, and their rows
pub regrouped_archive : (v : Version) (es now : List EntryView) (body rows : List ℕ) → IsInMemory (record { version = v; entries = es }) body
    → now ≡ regrouped es
    → rows ≡ rows_text (entry_lines v (regrouped es)) → IsInMemory (record { version = v; entries = now }) rows
regrouped_archive v es now body rows m is r = record {
  is_archive = subst (λ (xs : List EntryView). IsArchive (record { version = v; entries = xs })) (sym is)
      (permuted_archive v es (regrouped es) (is_regrouped es).same_entries m.is_archive);
  is_body = r ∙ ap (λ (xs : List EntryView). rows_text (entry_lines v xs)) (sym is);
}

-- The names that a key finds are those of the entries with the same net.

-- two keys are found equal if and only if they are
same_decides : (xs ys : List ℤ) → (same_key xs ys ≡ true → xs ≡ ys) × (xs ≡ ys → same_key xs ys ≡ true)
same_decides xs ys = slice_eq-Decides Decides-int_eq xs ys (same_key xs ys) refl

module _ (Same : Graph → Graph → Type 0) (tell : KeysDecideBy Same) (G : Graph) (g : IsGraph G) (key : List ℤ) (k : IsKeyOf G key) where
  -- the entry is found if its net is the same
  found_same : (e : EntryView) → IsEntry e → same_key e.key key ≡ true → Same G e.graph
  found_same e h s = (tell G e.graph key e.key g h.is_graph k h.key).0 (sym ((same_decides e.key key).0 s))

  -- and there alone
  missed_same : (e : EntryView) → IsEntry e → same_key e.key key ≡ false → ¬ Same G e.graph
  missed_same e h s i =
      let same = (tell G e.graph key e.key g h.is_graph k h.key).1 i in
      true≢false (sym ((same_decides e.key key).1 (sym same)) ∙ s)

  -- the names of the entries that are left, after one that is missed
  missed : (e : EntryView) (es : List EntryView) (names : List (List ℕ)) → ¬ Same G e.graph → AreNamesBy (Same G) es names
      → AreNamesBy (Same G) (e ∷ es) names
  missed e es names k l = search arith

  -- the names, if it is known whether the first entry is found
  abbrev first_name : Bool → EntryView → List EntryView → List (List ℕ)
  first_name b e es = names_of (cond b (e ∷ filter (λ (x : EntryView). same_key x.key key) es) (filter (λ (x : EntryView). same_key x.key key) es))

  -- the names with one more entry
  one_more : (e : EntryView) (es : List EntryView) → IsEntry e → AreNamesBy (Same G) es (names_with key es) → (b : Bool) → same_key e.key key ≡ b
      → AreNamesBy (Same G) (e ∷ es) (names_with key (e ∷ es))
  one_more e es h rest true s = subst (AreNamesBy (Same G) (e ∷ es)) (sym (ap (λ (b : Bool). first_name b e es) s))
      (inl (found_same e h s, refl, rest))
  one_more e es h rest false s = subst (AreNamesBy (Same G) (e ∷ es)) (sym (ap (λ (b : Bool). first_name b e es) s))
      (missed e es (names_with key es) (missed_same e h s) rest)

  -- the names that the key finds
  pub names_found : (es : List EntryView) → All IsEntry es → AreNamesBy (Same G) es (names_with key es)
  names_found [] h = refl
  names_found (e ∷ es) h = one_more e es (All-head IsEntry e es h) (names_found es (All-tail IsEntry e es h)) (same_key e.key key) refl

-- the keys of two entries decide
pub keys_decide_archive : (Same : Graph → Graph → Type 0) → KeysDecideBy Same → (entries : List EntryView) → All IsEntry entries
    → KeysDecideArchive Same entries
keys_decide_archive Same tell entries good e f i j =
    let a = All-contains IsEntry entries e good i in let b = All-contains IsEntry entries f good j in
    tell e.graph f.graph e.key f.key a.is_graph b.is_graph a.key b.key

-- an entry with a key, and its place
record HasKeyAt (entries : List EntryView) (n : ℕ) (key : List ℤ) (m : ℕ) : Type 0 where
  place : ℕ
  entry : EntryView
  stands : slice_get entries place ≡ Some entry
  number : m ≡ n + place
  same : entry.key ≡ key

module _ (key : List ℤ) where
  -- the numbers with a key, if it is known whether the first entry has it
  abbrev numbers_by : Bool → ℕ → EntryView → List EntryView → List ℕ
  numbers_by b n e es =
      map (λ (p : ℕ × EntryView). p.0)
      (cond b ((n, e) ∷ filter (λ (p : ℕ × EntryView). same_key p.1.key key) (enumerate_from (n + 1) es))
      (filter (λ (p : ℕ × EntryView). same_key p.1.key key) (enumerate_from (n + 1) es)))

  -- each of the numbers is that of an entry with the key
  keyed_in : (n : ℕ) (es : List EntryView) (m : ℕ) → IsIn (numbers_from n key es) m → HasKeyAt es n key m
  keyed_in n [] m i = absurd i
  keyed_in n (e ∷ es) m i = by (same_key e.key key) refl i (λ j. keyed_in (n + 1) es m j)
    where
      later : HasKeyAt es (n + 1) key m → HasKeyAt (e ∷ es) n key m
      later r = let number = r.number in record { place = suc r.place; entry = r.entry; stands = r.stands; number = omega (arith, number); same = r.same }

      by : (b : Bool) → same_key e.key key ≡ b → IsIn (numbers_by b n e es) m → (IsIn (numbers_from (n + 1) key es) m → HasKeyAt es (n + 1) key m)
          → HasKeyAt (e ∷ es) n key m
      by true q (inl here) rest = record { place = 0; entry = e; stands = refl; number = omega (arith, here); same = (signed_items e.key key).0 q }
      by true q (inr i) rest = later (rest i)
      by false q i rest = later (rest i)

  -- each entry with the key has its number among them
  in_keyed : (n : ℕ) (es : List EntryView) (k : ℕ) (e : EntryView) → slice_get es k ≡ Some e → same_key e.key key ≡ true → IsIn (numbers_from n key es) (n + k)
  in_keyed n [] k e at q = absurd (cc)
  in_keyed n (x ∷ es) zero e at q = by (same_key x.key key) (let first : x ≡ e = cc in ap (λ (y : EntryView). same_key y.key key) first ∙ q)
    where
      by : (b : Bool) → b ≡ true → IsIn (numbers_by b n x es) (n + 0)
      by b h = search arith
  in_keyed n (x ∷ es) (suc k) e at q =
      let place : n + 1 + k ≡ n + suc k = omega arith in
      by (same_key x.key key) (subst (IsIn (numbers_from (n + 1) key es)) place (in_keyed (n + 1) es k e at q))
    where
      by : (b : Bool) → IsIn (numbers_from (n + 1) key es) (n + suc k) → IsIn (numbers_by b n x es) (n + suc k)
      by true i = inr i
      by false i = i

-- a list with two members has two places
two_members : (xs : List ℕ) (m n : ℕ) → IsIn xs m → IsIn xs n → m ≢ n → 2 ≤ length xs
two_members [] m n i j other = absurd i
two_members (x ∷ []) m n (inl a) (inl b) other = absurd (other (sym a ∙ b))
two_members (x ∷ []) m n (inl a) (inr j) other = absurd j
two_members (x ∷ []) m n (inr i) j other = absurd i
two_members (x ∷ y ∷ ys) m n i j other = omega arith

module _ (Same : Graph → Graph → Type 0) (tell : KeysDecideBy Same) (es : List EntryView) (good : All IsEntry es) (groups : List (List ℕ))
    (are : AreGroups es groups) where
  -- an entry by its number is one of the entries
  among : (m : ℕ) (e : EntryView) → IsEntryAt es m e → Contains es e
  among m e at = (m - 1, slice_get_within es (m - 1) e at.stands, get_or_from_slice_get es (m - 1) e e at.stands)

  -- if its number is in a group, it has the key of the group
  key_of_group : (group : List ℕ) (h : IsGroup es group) (m : ℕ) (e : EntryView) → Contains group m → IsEntryAt es m e → e.key ≡ h.key
  key_of_group group h m e c at =
      let r = keyed_in h.key 1 es m (subst (λ g. IsIn g m) h.numbers (is_in group m c)) in
      let number = r.number in let place : m - 1 ≡ r.place = omega (arith, number) in
      let same : Some e ≡ Some r.entry = sym at.stands ∙ ap (slice_get es) place ∙ r.stands in
      let entry : e ≡ r.entry = cc in
      ap (λ (x : EntryView). x.key) entry ∙ r.same

  -- the group of an entry has its number
  in_group : (m : ℕ) (e : EntryView) (key : List ℤ) → IsEntryAt es m e → e.key ≡ key → IsIn (numbers_with key es) m
  in_group m e key at same =
      let low = at.low in let place : 1 + (m - 1) ≡ m = omega (arith, low) in
      subst (IsIn (numbers_with key es)) place (in_keyed key 1 es (m - 1) e at.stands ((signed_items e.key key).1 same))

  -- two entries stand in one group if and only if their nets are the same
  pub groups_by : AreGroupsBy Same es groups
  groups_by m n e f a b other = (there, back)
    where
      there : ShareGroup groups m n → Same e.graph f.graph
      there s =
          let h = are.each s.0 s.1 in
          (keys_decide_archive Same tell es good e f (among m e a) (among n f b)).0 (key_of_group s.0 h m e s.2 a ∙ sym (key_of_group s.0 h n f s.3 b))

      back : Same e.graph f.graph → ShareGroup groups m n
      back i =
          let same = (keys_decide_archive Same tell es good e f (among m e a) (among n f b)).1 i in
          let group = numbers_with e.key es in let one = in_group m e e.key a refl in
          let two = in_group n f e.key b (sym same) in (
            group,
            are.every group (record { key = e.key; numbers = refl; two = two_members group m n one two other }),
            contains_from_in group m one,
            contains_from_in group n two,
          )

-- if groups are reported, they are so
pub groups_told : {E : Type 0} (Same : Graph → Graph → Type 0) → KeysDecideBy Same → (es : List EntryView)
    (r : Result (Vec (Vec ℕ Global) Global) E) → All IsEntry es
    → IfOk r (λ groups. AreGroups es (numbers_in groups.items))
    → IfOk r (λ groups. AreGroupsBy Same es (numbers_in groups.items))
groups_told Same tell es (Ok groups) good are = groups_by Same tell es good (numbers_in groups.items) are
groups_told Same tell es (Err e) good are = are

-- Entries that stand together by their keys stand together by their nets.

module _ (before between after : List EntryView) (e f : EntryView) where
  abbrev whole : List EntryView
  whole = before ++ e ∷ (between ++ f ∷ after)

  first_there : Contains whole e
  first_there = Contains-append_right before (e ∷ (between ++ f ∷ after)) e (Contains-append_left (e ∷ []) (between ++ f ∷ after) e (Contains-push [] e))

  later_there : (x : EntryView) → Contains (between ++ f ∷ after) x → Contains whole x
  later_there x c = Contains-append_right before (e ∷ (between ++ f ∷ after)) x (Contains-append_right (e ∷ []) (between ++ f ∷ after) x c)

  last_there : Contains whole f
  last_there = later_there f (Contains-append_right between (f ∷ after) f (Contains-append_left (f ∷ []) after f (Contains-push [] f)))

  between_there : (x : EntryView) → Contains between x → Contains whole x
  between_there x c = later_there x (Contains-append_left between (f ∷ after) x c)

module _ (Same : Graph → Graph → Type 0) (tell : KeysDecideBy Same) where
  -- the keys of two entries decide
  decide : (e f : EntryView) → IsEntry e → IsEntry f → (e.key ≡ f.key → Same e.graph f.graph) × (Same e.graph f.graph → e.key ≡ f.key)
  decide e f a b = let both = tell e.graph f.graph e.key f.key a.is_graph b.is_graph a.key b.key in (both.0, both.1)

  -- entries that stand together by their keys do so by their nets
  pub stand_together : (es : List EntryView) → All IsEntry es → AreTogether es → StandTogetherBy Same es
  stand_together es all together before between after e f eq same =
      let good = subst (All IsEntry) eq all in let whole = before ++ e ∷ (between ++ f ∷ after) in
      let first = All-contains IsEntry whole e good (first_there before between after e f) in
      let last = All-contains IsEntry whole f good (last_there before between after e f) in
      let keys = together before between after e f eq ((decide e f first last).1 same) in
      λ k d l.
      let x = get_or between k d in
      (decide x e (All-contains IsEntry whole x good (between_there before between after e f x (Contains-get_or between k d l))) first).0 (keys k d l)

  -- regrouped entries stand together by their nets
  pub regrouped_together : (es now : List EntryView) → All IsEntry es → now ≡ regrouped es → StandTogetherBy Same now
  regrouped_together es now good is =
      let r = is_regrouped es in
      subst (StandTogetherBy Same) (sym is)
      (stand_together (regrouped es) (All-permutation IsEntry es (regrouped es) r.same_entries good) r.together)
