-- The places in a list that gets one number more. What is found through fingerprints is what there is. The numbers of the entries with a key. Lists of
-- numbers of 32 bits.
use Rattle.std.proofs.Common.{◌≡◌, ◌≢◌, ⊎_elim, ℕ, suc, ◌+◌, ◌==◌, cond, List, [], ◌∷◌, ◌++◌, length, map, nat_eq, refl, ap, sym, ◌∙◌, subst, eq-eqb, arith}
use Rattle.std.proofs.Common.{Vec, ◌-◌, take, Option, None, Some, IfNone, ◌<◌, ◌||◌, Bool, true, false, filter, slice_get, ◌↔◌, ℤ, IsTrue}
use Rattle.std.proofs.Common.{Contains, ◌≤◌, get_or, ◌⊎◌, AllPairs, pos, All, drop}
use Rattle.std.proofs.lemmas.List.{take_rest, map-append, append-nil, length_push, length-map}
use Rattle.std.proofs.lemmas.List.Elements.{All-head, All-tail, All-push, filter-append, Contains-append_left, Contains-append_cases, Contains-get_or}
use Rattle.std.proofs.lemmas.List.Elements.{Contains-push}
use Rattle.std.specs.List.{enumerate_from, filter_map, list_any}
use Rattle.std.proofs.lemmas.Map.Views.{list_any-from_Contains, Contains-from_any, any-filter_same}
use Rattle.std.proofs.{Common.nat_lt, lemmas.Bool.ltb-true}
use Rattle.std.{proofs.lemmas.Bool.cases_eq, proofs.lemmas.Bool.ne_eqb, proofs.lemmas.List.Quantifiers.all_pairs_push, proofs.lemmas.Grind.common_steps}
use Rattle.std.{proofs.lemmas.Cmp.nat_list_eq_equiv, proofs.lemmas.Slice.Eq.bytes_eq-Decides, specs.declared.alloc.Global.Global, specs.Str.bytes_eq}
use Rattle.std.{specs.Option.option_to_list, proofs.lemmas.Option.slice_get-map, proofs.lemmas.Option.slice_get-get_or}
use Rattle.std.specs.HashMap.{HashMap, get}
use mathlib.Core.List.{append_assoc}
use Rattle.line_text.specs.Lines.{Place, IsAt}
use Rattle.archive_text.specs.Places.{places_of, listed, ArePlaces, without_last}
use Rattle.archive_text.specs.Lookups.{same_key, names_of, names_with, entries_at, AreIndexed}
use Rattle.archive_text.specs.Entries.{EntryView, entry_view, entry_views}
use Rattle.archive_text.specs.Groups.{numbers_from, numbers_with, numbers_at, is_keyed, IsGroupFrom, first_of, IsGroup, AreGroups, numbers_in}
use Rattle.archive_text.specs.Rows.{shells_numbers, shells_row, row_lines}
use Rattle.archive_text.specs.Reading.{NoShells, AreShellsTo, shells_lines}
use Rattle.archive_text.{proofs.Regrouping.filter_within, proofs.Regrouping.same_keys, specs.Fingerprints.name_print, specs.Fingerprints.key_print}
use Rattle.archive_text.{specs.declared.entry.Entry.Entry, specs.Parts.shells_rows, specs.Forms.IsShort, specs.Forms.AreSizes}

-- the last number has the last place
enumerate_push : (n : ℕ) (xs : List ℕ) (y : ℕ) → enumerate_from n (xs ++ y ∷ []) ≡ enumerate_from n xs ++ (n + length xs, y) ∷ []
enumerate_push n [] y = let e : n ≡ n + 0 = omega arith in ap (λ k. (k, y) ∷ []) e
enumerate_push n (x ∷ xs) y =
    let e : n + 1 + length xs ≡ n + suc (length xs) = omega arith in
    ap (λ ps. (n, x) ∷ ps) (enumerate_push (n + 1) xs y ∙ ap (λ k. enumerate_from (n + 1) xs ++ (k, y) ∷ []) e)

-- the place of the last number is one more, if that is x
places_split : (xs : List ℕ) (y x : ℕ) → places_of (xs ++ y ∷ []) x ≡ places_of xs x ++ map (λ (p : ℕ × ℕ). p.0) (cond (y == x) ((0 + length xs, y) ∷ []) [])
places_split xs y x = rw (enumerate_push 0 xs y, filter-append, map-append) refl

places_here : (xs : List ℕ) (y : ℕ) → places_of (xs ++ y ∷ []) y ≡ places_of xs y ++ length xs ∷ []
places_here xs y = grind (arith, places_split, eq-eqb)

places_other : (xs : List ℕ) (y x : ℕ) → x ≢ y → places_of (xs ++ y ∷ []) x ≡ places_of xs x
places_other xs y x ne = grind (arith, places_split, ne_eqb, append-nil)

-- after a number is put last, its places and those of the others are kept
pub places_kept : {S : Type 0} (xs ys : List ℕ) (m n : HashMap ℕ (Vec ℕ Global) S) (y place : ℕ) → ys ≡ xs ++ y ∷ [] → place ≡ length xs → ArePlaces xs m
    → listed (get nat_eq n y) ≡ listed (get nat_eq m y) ++ place ∷ [] → ((v : ℕ) → v ≢ y → get nat_eq n v ≡ get nat_eq m v) → ArePlaces ys n
places_kept xs ys m n y place e l kept put others x = grind (arith, places_here, places_other, cases_eq)

-- a list without the number that was put last
last_gone : (xs : List ℕ) (y : ℕ) → without_last (xs ++ y ∷ []) ≡ xs
last_gone xs y = grind (arith, common_steps)

-- after the last number is taken away, its places and those of the others are kept
pub places_left : {S : Type 0} (xs ys : List ℕ) (m n : HashMap ℕ (Vec ℕ Global) S) (y : ℕ) → ys ≡ xs ++ y ∷ [] → ArePlaces ys m
    → listed (get nat_eq n y) ≡ without_last (listed (get nat_eq m y)) → ((v : ℕ) → v ≢ y → get nat_eq n v ≡ get nat_eq m v) → ArePlaces xs n
places_left xs ys m n y e kept dropped others x =
    let was : (v : ℕ) → listed (get nat_eq m v) ≡ places_of (xs ++ y ∷ []) v = λ v. kept v ∙ ap (λ zs. places_of zs v) e in
    ⊎_elim
    (λ (same : x ≡ y).
    let here : listed (get nat_eq n y) ≡ places_of xs y =
    dropped ∙ ap without_last (was y ∙ places_here xs y) ∙ last_gone (places_of xs y) (length xs) in
    subst (λ v. listed (get nat_eq n v) ≡ places_of xs v) (sym same) here)
    (λ (ne : x ≢ y). ap listed (others x ne) ∙ was x ∙ places_other xs y x ne)
    (cases_eq x y)

-- A number that was put last and is taken away.

before_last : (xs : List ℕ) (y : ℕ) → take (length (xs ++ y ∷ []) - 1) (xs ++ y ∷ []) ≡ xs
before_last xs y = grind (arith, common_steps)

-- the list is as it was
pub undone : (xs ys zs : List ℕ) (y : ℕ) (r : Option ℕ) → ys ≡ xs ++ y ∷ [] → ys ≡ zs ++ option_to_list r → IfNone r (zs ≡ []) → zs ≡ xs
undone xs ys zs y None put popped none =
    let here : length ys ≡ length xs + 1 = ap length put ∙ length_push xs y in
    let there : length ys ≡ 0 = ap length (popped ∙ append-nil zs ∙ none) in
    absurd (omega (arith, here, there))
undone xs ys zs y (Some z) put popped none =
    sym (before_last zs z) ∙ ap (λ ws. take (length ws - 1) ws) (sym popped ∙ put) ∙ before_last xs y

-- What stands at the places of a number in a list of fingerprints.

module _ {X : Type 0} (f : X → ℕ) (x : ℕ) where
  -- the elements at the places, where at gives those from place n on
  at_from : (n : ℕ) (es : List X) (at : ℕ → Option X) → ((k : ℕ) → k < length es → at (n + k) ≡ slice_get es k)
      → filter_map at (map (λ (p : ℕ × ℕ). p.0) (filter (λ (p : ℕ × ℕ). p.1 == x) (enumerate_from n (map f es)))) ≡ filter (λ e. f e == x) es
  at_from n [] at h = refl
  at_from n (e ∷ es) at h =
      let first : at n ≡ Some e = ap at (let q : n ≡ n + 0 = omega arith in q) ∙ h 0 (omega arith) in
      let rest = at_from (n + 1) es at (λ k l. ap at (let q : n + 1 + k ≡ n + suc k = omega arith in q) ∙ h (suc k) (omega arith)) in
      by (f e == x) first rest
    where
      by : (b : Bool) → at n ≡ Some e
          → filter_map at (map (λ (p : ℕ × ℕ). p.0) (filter (λ (p : ℕ × ℕ). p.1 == x) (enumerate_from (n + 1) (map f es)))) ≡ filter (λ e. f e == x) es
          → filter_map at (map (λ (p : ℕ × ℕ). p.0) (cond b ((n, f e) ∷ filter (λ (p : ℕ × ℕ). p.1 == x) (enumerate_from (n + 1) (map f es)))
          (filter (λ (p : ℕ × ℕ). p.1 == x) (enumerate_from (n + 1) (map f es))))) ≡ cond b (e ∷ filter (λ e. f e == x) es) (filter (λ e. f e == x) es)
      by b h k = grind arith

  -- the elements at the places of x are those whose number is x
  pub at_places : (es : List X) → filter_map (slice_get es) (places_of (map f es) x) ≡ filter (λ e. f e == x) es
  at_places es = at_from 0 es (slice_get es) (λ k l. ap (slice_get es) (let q : 0 + k ≡ k = omega arith in q))

any_named : (t : List ℕ → Bool) (es : List EntryView) → list_any t (names_of es) ≡ list_any (λ (e : EntryView). t e.name) es
any_named t [] = refl
any_named t (e ∷ es) = ap (λ b. t e.name || b) (any_named t es)

module _ (es : List EntryView) where
  -- a name is among all entries if it is among those with its fingerprint
  pub name_found : (name places names : List ℕ) → names ≡ map (λ (e : EntryView). name_print e.name) es → places ≡ places_of names (name_print name)
      → list_any (bytes_eq name) (names_of (entries_at es places)) ≡ list_any (bytes_eq name) (names_of es)
  name_found name places names i h =
      let f : EntryView → ℕ = λ e. name_print e.name in
      let p : EntryView → Bool = λ e. f e == name_print name in
      let q : EntryView → Bool = λ e. bytes_eq name e.name in
      let here = ap (entries_at es) (h ∙ ap (λ ns. places_of ns (name_print name)) i) ∙ at_places f (name_print name) es in
      let finer : (e : EntryView) → q e ≡ true → p e ≡ true = λ e g. eq-eqb (f e) (name_print name)
      (ap name_print (sym ((bytes_eq-Decides name e.name).0 g))) in
      any_named (bytes_eq name) (entries_at es places) ∙ ap (list_any q) here ∙ any-filter_same q p true finer es ∙ sym (any_named (bytes_eq name) es)

  -- so are the entries with a key
  pub keys_found : (key : List ℤ) (places keys : List ℕ) → keys ≡ map (λ (e : EntryView). key_print e.key) es → places ≡ places_of keys (key_print key)
      → names_with key (entries_at es places) ≡ names_with key es
  keys_found key places keys i h =
      let f : EntryView → ℕ = λ e. key_print e.key in let p : EntryView → Bool = λ e. f e == key_print key in
      let q : EntryView → Bool = λ e. same_key e.key key in
      let here = ap (entries_at es) (h ∙ ap (λ ns. places_of ns (key_print key)) i) ∙ at_places f (key_print key) es in
      let finer : (e : EntryView) → q e ≡ true → p e ≡ true = λ e g. eq-eqb (f e) (key_print key) (ap key_print (same_keys e.key key g)) in
      ap names_of (ap (filter q) here ∙ filter_within q p es finer)

  -- the test shows whether the name is there
  pub name_told : (b : Bool) (name : List ℕ) → b ≡ list_any (bytes_eq name) (names_of es) → IsTrue b ↔ Contains (names_of es) name
  name_told b name e = (
    (λ t. Contains-from_any (λ xs ys. (bytes_eq-Decides xs ys).0) name (names_of es) (sym e ∙ t)),
    (λ c. e ∙ list_any-from_Contains nat_list_eq_equiv name (names_of es) c),
  )

-- an entry with a key, and its place
pub record HasKeyAt (entries : List EntryView) (n : ℕ) (key : List ℤ) (m : ℕ) : Type 0 where
  pub place : ℕ
  pub entry : EntryView
  pub stands : slice_get entries place ≡ Some entry
  pub inside : place < length entries
  pub number : m ≡ n + place
  pub same : entry.key ≡ key

module _ (key : List ℤ) where
  -- the first of the numbers with a key is that of an entry with the key
  pub first_keyed : (n : ℕ) (es : List EntryView) (m : ℕ) → slice_get (numbers_from n key es) 0 ≡ Some m → HasKeyAt es n key m
  first_keyed n [] m h = absurd (cc)
  first_keyed n (e ∷ es) m h = by (same_key e.key key) refl h (λ g. first_keyed (n + 1) es m g)
    where
      by : (b : Bool) → same_key e.key key ≡ b
          → slice_get (map (λ (p : ℕ × EntryView). p.0) (cond b ((n, e) ∷ filter (λ (p : ℕ × EntryView). same_key p.1.key key) (enumerate_from (n + 1) es))
          (filter (λ (p : ℕ × EntryView). same_key p.1.key key) (enumerate_from (n + 1) es)))) 0 ≡ Some m
          → (slice_get (numbers_from (n + 1) key es) 0 ≡ Some m → HasKeyAt es (n + 1) key m) → HasKeyAt (e ∷ es) n key m
      by true q g rest =
          let here : n ≡ m = cc in
          record { place = 0; entry = e; stands = refl; inside = omega arith; number = omega (arith, here); same = same_keys e.key key q }
      by false q g rest =
          let r = rest g in let inside = r.inside in let number = r.number in
          record { place = suc r.place; entry = r.entry; stands = r.stands; inside = omega (arith, inside); number = omega (arith, number); same = r.same }

  module _ (x : ℕ) where
    -- if the fingerprint is another, so is the key
    other_key : (e : EntryView) → x ≡ key_print key → (key_print e.key == x) ≡ false → same_key e.key key ≡ false
    other_key e hx h = search (arith, eq-eqb, same_keys)

    -- the pairs of an entry and those after it
    one_step : (b c : Bool) (n : ℕ) (e : EntryView) (at : ℕ → Option EntryView) (before : List (ℕ × ℕ)) (after : List (ℕ × EntryView))
        → (b ≡ false → c ≡ false) → is_keyed key (at n) ≡ c
        → map (λ i. i + 1) (filter (λ i. is_keyed key (at i)) (map (λ (p : ℕ × ℕ). p.0) before)) ≡ map (λ (p : ℕ × EntryView). p.0) after
        → map (λ i. i + 1) (filter (λ i. is_keyed key (at i)) (map (λ (p : ℕ × ℕ). p.0) (cond b ((n, key_print e.key) ∷ before) before))) ≡ map
        (λ (p : ℕ × EntryView). p.0) (cond c ((n + 1, e) ∷ after) after)
    one_step b c n e at before after h l q = search arith

    -- the entries at the places of a fingerprint
    numbered_from : x ≡ key_print key → (n : ℕ) (es : List EntryView) (at : ℕ → Option EntryView) → ((k : ℕ) → k < length es → at (n + k) ≡ slice_get es k)
        → map (λ i. i + 1) (filter (λ i. is_keyed key (at i)) (map (λ (p : ℕ × ℕ). p.0)
        (filter (λ (p : ℕ × ℕ). p.1 == x) (enumerate_from n (map (λ (e : EntryView). key_print e.key) es))))) ≡ numbers_from (n + 1) key es
    numbered_from hx n [] at h = refl
    numbered_from hx n (e ∷ es) at h =
        let first : at n ≡ Some e = ap at (let q : n ≡ n + 0 = omega arith in q) ∙ h 0 (omega arith) in
        let rest = numbered_from hx (n + 1) es at (λ k l. ap at (let q : n + 1 + k ≡ n + suc k = omega arith in q) ∙ h (suc k) (omega arith)) in
        one_step (key_print e.key == x) (same_key e.key key) n e at (filter (λ (p : ℕ × ℕ). p.1 == x)
        (enumerate_from (n + 1) (map (λ (e : EntryView). key_print e.key) es)))
        (filter (λ (p : ℕ × EntryView). same_key p.1.key key) (enumerate_from (n + 1 + 1) es)) (other_key e hx) (ap (is_keyed key) first) rest

-- the numbers at the places of a key's fingerprint are those of the entries with the key
pub numbers_found : (es : List EntryView) (key : List ℤ) (places keys : List ℕ) → keys ≡ map (λ (e : EntryView). key_print e.key) es
    → places ≡ places_of keys (key_print key)
    → numbers_at es key places ≡ numbers_with key es
numbers_found es key places keys i h =
    ap (numbers_at es key) (h ∙ ap (λ ns. places_of ns (key_print key)) i)
    ∙ numbered_from key (key_print key) refl 0 es (slice_get es) (λ k l. ap (slice_get es) (let q : 0 + k ≡ k = omega arith in q))

-- the first of two numbers or more
pub first_there : (g : List ℕ) → 2 ≤ length g → slice_get g 0 ≡ Some (first_of g)
first_there [] l = absurd (omega arith)
first_there (m ∷ g) l = refl

-- a group begins with the number of an entry with its key
pub group_begins : (es : List EntryView) (n : ℕ) (g : List ℕ) (h : IsGroupFrom es n g) → HasKeyAt es 1 h.is_group.key n
group_begins es n g h = grind (arith, first_keyed, first_there)

-- so it has the numbers with the key of that entry
pub only_group : (es : List EntryView) (place : ℕ) (e : EntryView) → slice_get es place ≡ Some e → (g : List ℕ) → IsGroupFrom es (place + 1) g
    → g ≡ numbers_with e.key es
only_group es place e at g h =
    let b = group_begins es (place + 1) g h in let number = b.number in
    let there : b.place ≡ place = omega (arith, number) in
    let stands : Some b.entry ≡ Some e = sym b.stands ∙ ap (slice_get es) there ∙ at in
    let entry : b.entry ≡ e = cc in
    h.is_group.numbers ∙ ap (λ (k : List ℤ). numbers_with k es) (sym b.same ∙ ap (λ (v : EntryView). v.key) entry)

-- one group begins at a place
pub one_group : (es : List EntryView) (place : ℕ) (g h : List ℕ) → IsGroupFrom es (place + 1) g → IsGroupFrom es (place + 1) h → g ≡ h
one_group es place g h a b =
    let k = group_begins es (place + 1) g a in let number = k.number in
    let there : k.place ≡ place = omega (arith, number) in
    let at : slice_get es place ≡ Some k.entry = ap (slice_get es) (sym there) ∙ k.stands in
    only_group es place k.entry at g a ∙ sym (only_group es place k.entry at h b)

-- none begins where the numbers with the key of the entry there are fewer than two, or begin elsewhere
pub no_group : (es : List EntryView) (place : ℕ) (e : EntryView) → slice_get es place ≡ Some e
    → (slice_get (numbers_with e.key es) 0 ≡ Some (place + 1) → 2 ≤ length (numbers_with e.key es) → ⊥)
    → (g : List ℕ) → IsGroupFrom es (place + 1) g → ⊥
no_group es place e at not g h =
    let same = only_group es place e at g h in
    not (ap (λ ns. slice_get ns 0) (sym same) ∙ first_there g h.is_group.two ∙ ap (λ (m : ℕ). Some m) h.first) (subst (λ ns. 2 ≤ length ns) same h.is_group.two)

-- one begins if they are two or more and begin there
pub some_group : (es : List EntryView) (place : ℕ) (key : List ℤ) (g : List ℕ) → g ≡ numbers_with key es → slice_get (numbers_with key es) 0 ≡ Some (place + 1)
    → 2 ≤ length g → IsGroupFrom es (place + 1) g
some_group es place key g same begins two = grind (arith, first_there)

-- What is known of an entry and of the numbers with its key.

module _ (items : List Entry) (views : List EntryView) (v : entry_views items ≡ views) where
  -- the entry at a place
  pub entry_there : (place : ℕ) (e : Entry) → e ≡ get_or items place e → place < length views → slice_get views place ≡ Some (entry_view e)
  entry_there place e at l = search (arith, length-map, slice_get-map, slice_get-get_or)

  -- the numbers at the places of the fingerprint of a key
  pub numbers_there : (lent : List Entry) (names keys : List ℕ) (key numbers : List ℤ) (print : ℕ) (places : List ℕ) → lent ≡ items
      → AreIndexed (entry_views items) names keys
      → numbers ≡ key → print ≡ key_print numbers → places ≡ places_of keys print → numbers_at (entry_views lent) key places ≡ numbers_with key views
  numbers_there lent names keys key numbers print places l i n p h = grind (arith, numbers_found)

-- the entry that is lent at a place
pub lent_there : (es : List Entry) (place : ℕ) (e : Entry) → true ≡ nat_lt place (length es) → e ≡ get_or es place e
    → slice_get (entry_views es) place ≡ Some (entry_view e)
lent_there es place e l at =
    let long = length-map es entry_view in let low = ltb-true place (length es) (sym l) in
    entry_there es (entry_views es) refl place e at (omega (arith, long, low))

-- The groups that were found before a place.

-- these are the groups whose first numbers are at most n
pub record AreGroupsTo (entries : List EntryView) (n : ℕ) (groups : List (List ℕ)) : Type 0 where
  pub each : (group : List ℕ) → Contains groups group → IsGroup entries group
  pub within : (group : List ℕ) → Contains groups group → first_of group ≤ n
  pub every : (group : List ℕ) → IsGroup entries group → first_of group ≤ n → Contains groups group
  pub in_order : AllPairs (λ g h. first_of g < first_of h) groups

-- the first number of a group is that of an entry
first_inside : (es : List EntryView) (g : List ℕ) → IsGroup es g → (1 ≤ first_of g) × (first_of g ≤ length es)
first_inside es g h =
    let b = group_begins es (first_of g) g (record { is_group = h; first = refl }) in
    let number = b.number in let inside = b.inside in (omega (arith, number), omega (arith, number, inside))

-- what is in a list of one is that one
only_one : (g h : List ℕ) → Contains (g ∷ []) h → h ≡ g
only_one g h p = search arith

none_in : (g : List ℕ) → Contains [] g → ⊥
none_in g (k, l, e) = omega arith

module _ (es : List EntryView) where
  -- before the first entry there is none
  pub no_groups : (groups : List (List ℕ)) → groups ≡ [] → AreGroupsTo es 0 groups
  no_groups groups q = subst (AreGroupsTo es 0) (sym q) (record {
    each = λ g c. absurd (none_in g c);
    within = λ g c. absurd (none_in g c);
    every = λ g h l. let i = first_inside es g h in absurd (omega (arith, i.0, l));
    in_order = λ i j d b l. absurd (omega arith);
  })

  -- those up to the last entry are all
  pub all_groups : (n : ℕ) (groups : List (List ℕ)) → length es ≤ n → AreGroupsTo es n groups → AreGroups es groups
  all_groups n groups l a = grind (arith, first_inside)

  at_most_next : (m n : ℕ) → m ≤ n + 1 → (m ≤ n) ⊎ (m ≡ n + 1)
  at_most_next m n l = grind arith

  -- where no group begins, they are the same
  pub no_more : (n : ℕ) (groups : List (List ℕ)) → AreGroupsTo es n groups → ((g : List ℕ) → IsGroupFrom es (n + 1) g → ⊥) → AreGroupsTo es (n + 1) groups
  no_more n groups a k = grind (arith, at_most_next)

  -- if one begins, there is one more
  pub one_more : (n : ℕ) (groups more : List (List ℕ)) (group : List ℕ) → AreGroupsTo es n groups → IsGroupFrom es (n + 1) group → more ≡ groups ++ group ∷ []
      → AreGroupsTo es (n + 1) more
  one_more n groups more group a new q = subst (AreGroupsTo es (n + 1)) (sym q) (record {
    each = λ g c. ⊎_elim (λ d. a.each g d) (λ d. subst (IsGroup es) (sym (only_one group g d)) new.is_group) (Contains-append_cases groups (group ∷ []) g c);
    within = λ g c. ⊎_elim
        (λ d. let l = a.within g d in omega (arith, l))
        (λ d. let e : first_of g ≡ n + 1 = ap first_of (only_one group g d) ∙ new.first in omega (arith, e))
        (Contains-append_cases groups (group ∷ []) g c);
    every = λ g h l. ⊎_elim
        (λ b. Contains-append_left groups (group ∷ []) g (a.every g h b))
        (λ e. subst (Contains (groups ++ group ∷ [])) (one_group es n group g new (record { is_group = h; first = e })) (Contains-push groups group))
        (at_most_next (first_of g) n l);
    in_order = all_pairs_push (λ g h. first_of g < first_of h) groups group a.in_order
        (λ k d l. let w = a.within (get_or groups k d) (Contains-get_or groups k d l) in let e = new.first in omega (arith, w, e));
  })

-- the lists in vectors, if one more vector is put last
pub one_vector_more : (vs more : List (Vec ℕ Global)) (v : Vec ℕ Global) → more ≡ vs ++ v ∷ [] → numbers_in more ≡ numbers_in vs ++ v.items ∷ []
one_vector_more vs more v q = ap numbers_in q ∙ map-append (λ (w : Vec ℕ Global). w.items) vs (v ∷ [])

-- a number that stands after some of a list
pub record IsShortNumber (z : ℤ) : Type 0 where
  pub value : ℕ
  pub short : IsShort value
  pub is : z ≡ pos value

pub number_there : (front : List ℕ) (z : ℤ) (others : List ℤ) (all : List ℕ) → All IsShort all → map pos front ++ z ∷ others ≡ map pos all → IsShortNumber z
number_there [] z others [] short e = let long = ap length e in absurd (omega (arith, long))
number_there [] z others (n ∷ ns) short e = record { value = n; short = All-head IsShort n ns short; is = ap (λ l. get_or l 0 z) e }
number_there (f ∷ fs) z others [] short e = let long = ap length e in absurd (omega (arith, long))
number_there (f ∷ fs) z others (n ∷ ns) short e = number_there fs z others ns (All-tail IsShort n ns short) (ap (drop 1) e)

after_first : {X : Type 0} (xs : List X) (x d : X) → 1 ≤ length xs → get_or xs 0 d ≡ x → xs ≡ x ∷ take (length xs - 1) (drop 1 xs)
after_first [] x d some is = absurd (omega (arith, some))
after_first (y ∷ ys) x d some is = ap (λ z. z ∷ ys) is ∙ ap (λ l. x ∷ l) (sym (take_rest (y ∷ ys) 1))

-- the number of the entry at the first place, if that has the key, comes before those at the others
pub number_first : (es : List EntryView) (key : List ℤ) (left : List ℕ) (e : EntryView) → 1 ≤ length left → slice_get es (get_or left 0 0) ≡ Some e
    → true ≡ same_key e.key key → numbers_at es key left ≡ (get_or left 0 0 + 1) ∷ numbers_at es key (take (length left - 1) (drop 1 left))
number_first es key left e some stands same =
    let place = get_or left 0 0 in let others = filter (λ i. is_keyed key (slice_get es i)) (take (length left - 1) (drop 1 left)) in
    ap (numbers_at es key) (after_first left place 0 some refl)
    ∙ ap (λ (b : Bool). map (λ i. i + 1) (cond b (place ∷ others) others)) (ap (is_keyed key) stands ∙ sym same)

-- one more number of a list
pub one_more_number : (sizes new : List ℕ) (left numbers : List ℤ) (size : ℕ) (d : ℤ) → map pos sizes ++ left ≡ numbers → 1 ≤ length left
    → get_or left 0 d ≡ pos size → new ≡ sizes ++ size ∷ []
    → map pos new ++ take (length left - 1) (drop 1 left) ≡ numbers
one_more_number sizes new left numbers size d joined some is put =
    ap (λ l. map pos l ++ take (length left - 1) (drop 1 left)) put ∙ moved sizes (take (length left - 1) (drop 1 left))
    ∙ ap (λ l. map pos sizes ++ l) (sym (after_first left (pos size) d some is)) ∙ joined
  where
    moved : (xs : List ℕ) (rest : List ℤ) → map pos (xs ++ size ∷ []) ++ rest ≡ map pos xs ++ pos size ∷ rest
    moved [] rest = refl
    moved (x ∷ xs) rest = ap (λ l. pos x ∷ l) (moved xs rest)

-- the first number that is left of such a list
pub first_left : (sizes all : List ℕ) (left numbers : List ℤ) (z d : ℤ) → map pos sizes ++ left ≡ numbers → numbers ≡ map pos all → All IsShort all
    → 1 ≤ length left → get_or left 0 d ≡ z → IsShortNumber z
first_left sizes all left numbers z d joined whole short some is =
    number_there sizes z (take (length left - 1) (drop 1 left)) all short (ap (λ l. map pos sizes ++ l) (sym (after_first left z d some is)) ∙ joined ∙ whole)

-- if no sizes have these numbers, no `shells` row stands there
pub no_shells : {X : Type 0} (o : Option X) (numbers : List ℤ) (class : ℕ) (left : List ℕ)
    → ((sizes rest : List ℕ) → AreSizes sizes → left ≡ shells_row class sizes ++ 10 ∷ rest → numbers ≡ shells_numbers class sizes)
    → ((sizes : List ℕ) → AreSizes sizes → numbers ≡ shells_numbers class sizes → IfNone o ⊥) → IfNone o (NoShells class left)
no_shells o numbers class left h k = search arith

-- Shells that are read one by one.

shells_from : (c : ℕ) (lists : List (List ℕ)) (sizes : List ℕ) → row_lines (shells_rows c (lists ++ sizes ∷ [])) ≡ row_lines (shells_rows c lists)
    ++ shells_row (length lists + c) sizes ∷ []
shells_from c [] sizes = ap (λ n. shells_row n sizes ∷ []) (omega arith)
shells_from c (x ∷ xs) sizes = ap (λ l. shells_row c x ∷ l) (shells_from (c + 1) xs sizes
    ∙ ap (λ n. row_lines (shells_rows (c + 1) xs) ++ shells_row n sizes ∷ []) (omega arith))

shells_pushed : (lists : List (List ℕ)) (sizes : List ℕ) → shells_lines (lists ++ sizes ∷ []) ≡ shells_lines lists ++ shells_row (length lists + 1) sizes ∷ []
shells_pushed lists sizes = shells_from 1 lists sizes

-- the coordination sequence of one more class is read
pub one_more_class : (start now after : Place) (lists : List (List ℕ)) (sizes : List ℕ) → AreShellsTo start now lists → AreSizes sizes
    → ((text : List ℕ) (rows : List (List ℕ)) → IsAt text rows now → IsAt text (rows ++ shells_row (length lists + 1) sizes ∷ []) after)
    → AreShellsTo start after (lists ++ sizes ∷ [])
one_more_class start now after lists sizes read are place = record {
  at = λ text rows at. subst (λ l. IsAt text l after)
      (append_assoc rows (shells_lines lists) (shells_row (length lists + 1) sizes ∷ []) ∙ ap (λ l. rows ++ l) (sym (shells_pushed lists sizes)))
      (place text (rows ++ shells_lines lists) (read.at text rows at));
  each = All-push AreSizes lists sizes read.each are;
}
