-- The entries of an archive with those of items: a union has all that it is made of.
use Rattle.std.proofs.Common.{◌≡◌, ◌⊎◌, inl, inr, suc, Bool, true, false, cond, List, [], ◌∷◌, map, filter, sym, ap, ◌∙◌, refl, arith, ◌++◌, ℕ, subst}
use Rattle.std.proofs.lemmas.List.Elements.{Contains-append_left, Contains-append_right, Contains-append_cases}
use Rattle.std.{proofs.lemmas.Bool.false≢true, proofs.lemmas.Map.Views.Contains-from_any, proofs.lemmas.Slice.Eq.bytes_eq-Decides}
use Rattle.std.{proofs.lemmas.List.Sorted.IsPermutation-sym, proofs.lemmas.List.Sorted.Contains-permutation, specs.List.Contains, specs.List.All}
use Rattle.std.{specs.Cmp.Rules.signed_items, specs.List.Sorted.IsPermutation}
use Rattle.archive_text.specs.Lookups.{names_with, same_key, names_of}
use Rattle.archive_text.specs.Regrouped.{with_key, regrouped, AreTogether}
use Rattle.archive_text.{specs.Entries.EntryView, proofs.CallerLemmas.is_regrouped}
use Rattle.net_archive.specs.Archives.{ArchiveView, IsArchive, IsEntry}
use Rattle.net_archive.{specs.Deciding.is_there, proofs.CallerLemmas.stand_together, proofs.CallerLemmas.keys_decide_archive}
use Rattle.archive_union.specs.Unions.{with_item, united, HasAll, IsFoundBy, IsOneOf, IsUnion}
use Rattle.periodic_net.specs.{Graph.Graph, Maps.BareIso, Maps.Iso}
use Rattle.key_theory.{specs.Laws.KeysDecideBy, proofs.CallerLemmas.keys_decide, proofs.CallerLemmas.keys_decide_bare}

pub here : {X : Type 0} (x : X) (xs : List X) → Contains (x ∷ xs) x
here x xs = (0, omega arith, refl)

pub further : {X : Type 0} (x y : X) (xs : List X) → Contains xs y → Contains (x ∷ xs) y
further x y xs c = (suc c.0, (let l = c.1 in omega (arith, l)), c.2)

pub either : {X : Type 0} (x y : X) (xs : List X) → Contains (x ∷ xs) y → (x ≡ y) ⊎ Contains xs y
either x y xs h = search arith

pub no_member : {X : Type 0} (y : X) → Contains [] y → ⊥
no_member y c = let l = c.1 in omega (arith, l)

-- an image of a member
pub image : {X Y : Type 0} (f : X → Y) (xs : List X) (x : X) → Contains xs x → Contains (map f xs) (f x)
image f [] x c = absurd (no_member x c)
image f (y ∷ xs) x c = elim (either y x xs c) [
  | inl e ↦ (0, omega arith, ap f e)
  | inr later ↦ further (f y) (f x) (map f xs) (image f xs x later)
]

-- a member of which this is the image
pub record IsImage {X Y : Type 0} (f : X → Y) (xs : List X) (y : Y) : Type 0 where
  pub of : X
  pub member : Contains xs of
  pub is : f of ≡ y

pub preimage : {X Y : Type 0} (f : X → Y) (xs : List X) (y : Y) → Contains (map f xs) y → IsImage f xs y
preimage f [] y c = absurd (no_member y c)
preimage f (x ∷ xs) y c = elim (either (f x) y (map f xs) c) [
  | inl e ↦ record { of = x; member = here x xs; is = e }
  | inr later ↦ let i = preimage f xs y later in record { of = i.of; member = further x i.of xs i.member; is = i.is }
]

-- a member that passes is among those that pass
pub passing : {X : Type 0} (p : X → Bool) (xs : List X) (x : X) → Contains xs x → p x ≡ true → Contains (filter p xs) x
passing p [] x c e = absurd (no_member x c)
passing p (y ∷ xs) x c e = by (p y) refl (either y x xs c) (λ later. passing p xs x later e)
  where
    by : (t : Bool) → p y ≡ t → (y ≡ x) ⊎ Contains xs x → (Contains xs x → Contains (filter p xs) x) → Contains (cond t (y ∷ filter p xs) (filter p xs)) x
    by true h (inl same) on = (0, omega arith, same)
    by true h (inr later) on = further y x (filter p xs) (on later)
    by false h (inl same) on = absurd (false≢true (sym h ∙ ap p same ∙ e))
    by false h (inr later) on = on later

-- one of those that pass is a member, and passes
pub from_passing : {X : Type 0} (p : X → Bool) (xs : List X) (x : X) → Contains (filter p xs) x → Contains xs x × (p x ≡ true)
from_passing p [] x c = absurd (no_member x c)
from_passing p (y ∷ xs) x c = by (p y) refl c (λ later. from_passing p xs x later)
  where
    by : (t : Bool) → p y ≡ t → Contains (cond t (y ∷ filter p xs) (filter p xs)) x → (Contains (filter p xs) x → Contains xs x × (p x ≡ true))
        → Contains (y ∷ xs) x × (p x ≡ true)
    by true h c on = elim (either y x (filter p xs) c) [
      | inl same ↦ ((0, omega arith, same), sym (ap p same) ∙ h)
      | inr later ↦ let both = on later in (further y x xs both.0, both.1)
    ]
    by false h c on = let both = on c in (further y x xs both.0, both.1)

-- The entries of an archive with those of items.

-- the entries after one item, if it is known whether that is there
abbrev after_item : List EntryView → EntryView → Bool → List EntryView
after_item entries item there = cond there entries (entries ++ item ∷ [])

stays : (entries : List EntryView) (item e : EntryView) (t : Bool) → Contains entries e → Contains (after_item entries item t) e
stays entries item e true c = c
stays entries item e false c = Contains-append_left entries (item ∷ []) e c

-- no entry is lost
pub all_stay : (items entries : List EntryView) (e : EntryView) → Contains entries e → Contains (united entries items) e
all_stay [] entries e c = c
all_stay (item ∷ items) entries e c = all_stay items (with_item entries item) e (stays entries item e (is_there entries item.name item.key) c)

came : (entries : List EntryView) (item : EntryView) (items : List EntryView) (e : EntryView) (t : Bool)
    → Contains (after_item entries item t) e ⊎ Contains items e → Contains entries e ⊎ Contains (item ∷ items) e
came entries item items e t (inr later) = inr (Contains-append_right (item ∷ []) items e later)
came entries item items e true (inl c) = inl c
came entries item items e false (inl c) = elim (Contains-append_cases entries (item ∷ []) e c) [
  | inl old ↦ inl old
  | inr new ↦ inr (Contains-append_left (item ∷ []) items e new)
]

-- each comes from somewhere
pub all_come : (items entries : List EntryView) (e : EntryView) → Contains (united entries items) e → Contains entries e ⊎ Contains items e
all_come [] entries e c = inl c
all_come (item ∷ items) entries e c = came entries item items e (is_there entries item.name item.key) (all_come items (with_item entries item) e c)

-- an entry with the name and the key of this one
pub record StandsFor (entries : List EntryView) (e : EntryView) : Type 0 where
  pub one : EntryView
  pub member : Contains entries one
  pub name : one.name ≡ e.name
  pub key : one.key ≡ e.key

pub itself : (entries : List EntryView) (e : EntryView) → Contains entries e → StandsFor entries e
itself entries e c = record { one = e; member = c; name = refl; key = refl }

found_there : (entries : List EntryView) (item : EntryView) → is_there entries item.name item.key ≡ true → StandsFor entries item
found_there entries item h =
    let c = Contains-from_any (λ m n. (bytes_eq-Decides m n).0) item.name (names_with item.key entries) h in
    let i = preimage (λ (x : EntryView). x.name) (with_key item.key entries) item.name c in
    let both = from_passing (λ (x : EntryView). same_key x.key item.key) entries i.of i.member in
    record { one = i.of; member = both.0; name = i.is; key = (signed_items i.of.key item.key).0 both.1 }

taken : (entries : List EntryView) (item : EntryView) (t : Bool) → is_there entries item.name item.key ≡ t → StandsFor (after_item entries item t) item
taken entries item true h = found_there entries item h
taken entries item false h = itself (entries ++ item ∷ []) item (Contains-append_right entries (item ∷ []) item (here item []))

-- each item is there afterwards
pub all_are_there : (items entries : List EntryView) (e : EntryView) → Contains items e → StandsFor (united entries items) e
all_are_there [] entries e c = absurd (no_member e c)
all_are_there (item ∷ items) entries e c = elim (either item e items c) [
  | inl same ↦
      let s = taken entries item (is_there entries item.name item.key) refl in
      record {
        one = s.one;
        member = all_stay items (with_item entries item) s.one s.member;
        name = s.name ∙ ap (λ (x : EntryView). x.name) same;
        key = s.key ∙ ap (λ (x : EntryView). x.key) same;
      }
  | inr later ↦ all_are_there items (with_item entries item) e later
]

-- A union has all that it is made of.

module _ (a b : ArchiveView) (items : List EntryView) (archive : IsArchive a) (good : All IsEntry items) (union : IsUnion a items b) where
  abbrev all_of : List EntryView
  all_of = united a.entries items

  entries_are : b.entries ≡ regrouped all_of
  entries_are = ap (λ (x : ArchiveView). x.entries) union.is

  moved_all : IsPermutation all_of b.entries
  moved_all = subst (IsPermutation all_of) (sym entries_are) (is_regrouped all_of).same_entries

  -- each entry or item is there
  stands : (e : EntryView) → IsOneOf a items e → StandsFor b.entries e
  stands e (inl c) = itself b.entries e (Contains-permutation all_of b.entries e moved_all (all_stay items a.entries e c))
  stands e (inr c) =
      let s = all_are_there items a.entries e c in
      record { one = s.one; member = Contains-permutation all_of b.entries s.one moved_all s.member; name = s.name; key = s.key }

  own : (e : EntryView) → Contains b.entries e → IsOneOf a items e
  own e c = all_come items a.entries e (Contains-permutation b.entries all_of e (IsPermutation-sym all_of b.entries moved_all) c)

  good_one : (e : EntryView) → IsOneOf a items e → IsEntry e
  good_one e h = grind arith

  kept : (name : List ℕ) (e : EntryView) → IsOneOf a items e → e.name ≡ name → Contains (names_of b.entries) name
  kept name e c is =
      let s = stands e c in
      subst (Contains (names_of b.entries)) (s.name ∙ is) (image (λ (x : EntryView). x.name) b.entries s.one s.member)

  names_kept : (name : List ℕ) → Contains (names_of a.entries) name ⊎ Contains (names_of items) name → Contains (names_of b.entries) name
  names_kept name (inl c) = let i = preimage (λ (x : EntryView). x.name) a.entries name c in kept name i.of (inl i.member) i.is
  names_kept name (inr c) = let i = preimage (λ (x : EntryView). x.name) items name c in kept name i.of (inr i.member) i.is

  name_of_one : (name : List ℕ) (e : EntryView) → IsOneOf a items e → e.name ≡ name → Contains (names_of a.entries) name ⊎ Contains (names_of items) name
  name_of_one name e (inl c) is = inl (subst (Contains (names_of a.entries)) is (image (λ (x : EntryView). x.name) a.entries e c))
  name_of_one name e (inr c) is = inr (subst (Contains (names_of items)) is (image (λ (x : EntryView). x.name) items e c))

  names_come : (name : List ℕ) → Contains (names_of b.entries) name → Contains (names_of a.entries) name ⊎ Contains (names_of items) name
  names_come name c = let i = preimage (λ (x : EntryView). x.name) b.entries name c in name_of_one name i.of (own i.of i.member) i.is

  together : AreTogether b.entries
  together = subst AreTogether (sym entries_are) (is_regrouped all_of).together

  found : (Same : Graph → Graph → Type 0) → KeysDecideBy Same → IsFoundBy Same a items b
  found Same tell G key e g k c is =
      let s = stands e c in let x = good_one e c in
      let same : key ≡ e.key = (tell G e.graph key e.key g x.is_graph k x.key).1 is in
      let passes : same_key s.one.key key ≡ true = (signed_items s.one.key key).1 (s.key ∙ sym same) in
      subst (Contains (names_with key b.entries)) s.name
      (image (λ (x : EntryView). x.name) (with_key key b.entries) s.one (passing (λ (x : EntryView). same_key x.key key) b.entries s.one s.member passes))

  pub has_all : HasAll a items b
  has_all = record {
    names = λ name. (names_come name, names_kept name);
    once = union.is_archive.names;
    own = own;
    together = together;
    decide = keys_decide_archive Iso keys_decide b.entries union.is_archive.each;
    bare_decide = keys_decide_archive BareIso keys_decide_bare b.entries union.is_archive.each;
    iso_together = stand_together Iso keys_decide b.entries union.is_archive.each together;
    bare_together = stand_together BareIso keys_decide_bare b.entries union.is_archive.each together;
    found = found Iso keys_decide;
    bare_found = found BareIso keys_decide_bare;
  }
