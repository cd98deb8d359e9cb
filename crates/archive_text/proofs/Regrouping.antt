-- What regrouping keeps: the same entries, groups together, and their order. The entry that comes next. Entries with equal keys stand together, and only
-- one list is a regrouping.
use Rattle.std.proofs.Common.{◌≡◌, Bool, true, false, cond, List, [], ◌∷◌, ◌++◌, filter, flat_map, refl, sym, ap, ◌∙◌, ℤ, not, subst, ℕ, zero, suc, ◌≤◌}
use Rattle.std.proofs.Common.{length, arith, ◌+◌, ◌<◌, nat_lt, map, drop, get_or, None, Some, add-one, ◌-◌, Option, unwrap_or, take, Bor, ◌≢◌}
use Rattle.std.proofs.lemmas.List.Sorted.{IsPermutation-refl, IsPermutation-cons, IsPermutation-trans, IsPermutation-append_right}
use Rattle.std.proofs.lemmas.List.Sorted.{IsPermutation-filter_both, All-permutation}
use Rattle.std.proofs.lemmas.{Bool.false≢true, Bool.not-true, Bool.ltb-true, Bool.ltb-false, List.Filters.length-filter_both}
use Rattle.std.proofs.lemmas.List.{append-nil, length-map, append_assoc, map-append, length-append}
use Rattle.std.proofs.lemmas.List.Elements.{filter-append, All-head, All-nil, All-cons, All-tail, All-weaker, filter_passes, filter_agree}
use Rattle.std.{specs.Cmp.Rules.signed_items, proofs.Math.Seq.take-append_seam, proofs.Math.Seq.drop-append-add, proofs.Math.Seq.get_or-append_seam}
use Rattle.std.specs.List.{Sorted.IsPermutation, position_or_len, position, remove, take-map, drop-map, All}
use Rattle.archive_text.specs.Regrouped.{keys_but, keys_in, with_key, without_key, regrouped, last_of, place_after, next_place, going_on, AreTogether}
use Rattle.archive_text.specs.{Regrouped.IsRegrouping, Lookups.same_key, declared.entry.Entry.Entry}
use Rattle.archive_text.specs.Entries.{EntryView, entry_view}

-- Filters of lists: in any order, once or twice, one within another.

-- two filters are one
filters_joined : {X : Type 0} (p q : X → Bool) (xs : List X) → filter p (filter q xs) ≡ filter (λ x. cond (q x) (p x) false) xs
filters_joined p q [] = refl
filters_joined p q (x ∷ xs) = by (q x) (filters_joined p q xs)
  where
    by : (t : Bool) → filter p (filter q xs) ≡ filter (λ x. cond (q x) (p x) false) xs → filter p (cond t (x ∷ filter q xs) (filter q xs))
        ≡ cond (cond t (p x) false) (x ∷ filter (λ x. cond (q x) (p x) false) xs) (filter (λ x. cond (q x) (p x) false) xs)
    by t k = grind arith

-- one after the other, in either order
pub filters_swap : {X : Type 0} (p q : X → Bool) (xs : List X) → filter p (filter q xs) ≡ filter q (filter p xs)
filters_swap p q xs =
    filters_joined p q xs ∙ filter_agree (λ x. cond (q x) (p x) false) (λ x. cond (p x) (q x) false) (λ x. by (p x) (q x)) xs ∙ sym (filters_joined q p xs)
  where
    by : (s t : Bool) → cond t s false ≡ cond s t false
    by s t = search arith

-- a filter that passes nothing but what another one passes
pub filter_within : {X : Type 0} (p r : X → Bool) (xs : List X) → ((x : X) → p x ≡ true → r x ≡ true) → filter p (filter r xs) ≡ filter p xs
filter_within p r xs all = filters_joined p r xs ∙ filter_agree (λ x. cond (r x) (p x) false) p (λ x. by (p x) (r x) (all x)) xs
  where
    by : (s t : Bool) → (s ≡ true → t ≡ true) → cond t s false ≡ s
    by s t h = search arith

-- once is enough
pub filter_again : {X : Type 0} (p : X → Bool) (xs : List X) → filter p (filter p xs) ≡ filter p xs
filter_again p xs = filter_within p p xs (λ x e. e)

-- nothing passes two tests that exclude one another
pub filters_exclude : {X : Type 0} (p q : X → Bool) (xs : List X) → ((x : X) → q x ≡ true → p x ≡ false) → filter p (filter q xs) ≡ []
filters_exclude {X} p q xs never =
    filters_joined p q xs ∙ filter_agree (λ x. cond (q x) (p x) false) (λ x. false) (λ x. by (p x) (q x) (never x)) xs ∙ nothing xs
  where
    by : (s t : Bool) → (t ≡ true → s ≡ false) → cond t s false ≡ false
    by s t h = search arith

    nothing : (ys : List X) → filter (λ x. false) ys ≡ []
    nothing [] = refl
    nothing (y ∷ ys) = nothing ys

-- functions that agree on what passes
pub flat_maps_agree : {X Y : Type 0} (f g : X → List Y) (p : X → Bool) (xs : List X) → ((x : X) → p x ≡ true → f x ≡ g x)
    → flat_map f (filter p xs) ≡ flat_map g (filter p xs)
flat_maps_agree f g p [] same = refl
flat_maps_agree f g p (x ∷ xs) same = by (p x) refl (same x) (flat_maps_agree f g p xs same)
  where
    by : (t : Bool) → p x ≡ t → (p x ≡ true → f x ≡ g x) → flat_map f (filter p xs) ≡ flat_map g (filter p xs)
        → flat_map f (cond t (x ∷ filter p xs) (filter p xs)) ≡ flat_map g (cond t (x ∷ filter p xs) (filter p xs))
    by t k q r = grind arith

-- The first group, and the others.

-- what the test takes for equal is equal
pub same_keys : (k l : List ℤ) → same_key k l ≡ true → k ≡ l
same_keys k l h = (signed_items k l).0 h

pub key_itself : (k : List ℤ) → same_key k k ≡ true
key_itself k = (signed_items k k).1 refl

-- a key is the same as one only of two different keys
pub not_both : (k l m : List ℤ) → not (same_key l k) ≡ true → same_key m l ≡ true → not (same_key m k) ≡ true
not_both k l m a b = subst (λ x. not (same_key x k) ≡ true) (sym (same_keys m l b)) a

-- the keys of the entries with another key
pub keys_of_others : (key : List ℤ) (es : List EntryView) → keys_in (without_key key es) ≡ keys_but key (keys_in es)
keys_of_others key [] = refl
keys_of_others key (e ∷ es) = by (same_key e.key key) refl (keys_of_others key es)
  where
    by : (t : Bool) → same_key e.key key ≡ t → keys_in (without_key key es) ≡ keys_but key (keys_in es)
        → keys_in (cond (not t) (e ∷ without_key key es) (without_key key es)) ≡ cond (not t) (e.key ∷ keys_but key (keys_but e.key (keys_in es)))
        (keys_but key (keys_but e.key (keys_in es)))
    by true same h =
        h
        ∙ sym (filter_again (λ k. not (same_key k key)) (keys_in es))
        ∙ ap (λ l. keys_but key (keys_but l (keys_in es))) (sym (same_keys e.key key same))
    by false other h =
        ap (λ (ks : List (List ℤ)). e.key ∷ keys_but e.key ks) h
        ∙ ap (λ (ks : List (List ℤ)). e.key ∷ ks) (filters_swap (λ k. not (same_key k e.key)) (λ k. not (same_key k key)) (keys_in es))

-- a group that is not the first has none of its entries in the first
other_group : (e : EntryView) (es : List EntryView) (key : List ℤ) → not (same_key key e.key) ≡ true
    → with_key key (e ∷ es) ≡ with_key key (without_key e.key es)
other_group e es key other =
    ap (λ t. cond t (e ∷ with_key key es) (with_key key es)) (by (same_key e.key key) refl)
    ∙ sym (filter_within (λ (x : EntryView). same_key x.key key) (λ (x : EntryView). not (same_key x.key e.key)) es
    (λ x same. not_both e.key key x.key other same))
  where
    by : (t : Bool) → same_key e.key key ≡ t → same_key e.key key ≡ false
    by false h = h
    by true h = absurd (false≢true (sym (not-true (same_key key e.key) other) ∙ ap (λ k. same_key k e.key) (sym (same_keys e.key key h)) ∙ key_itself e.key))

-- the first group stands first, and then the others
pub first_group : (e : EntryView) (es : List EntryView) → regrouped (e ∷ es) ≡ e ∷ (with_key e.key es ++ regrouped (without_key e.key es))
first_group e es = grind (arith, key_itself, flat_maps_agree, other_group, keys_of_others)

abbrev has : List ℤ → EntryView → Bool
has key x = same_key x.key key

abbrev lacks : List ℤ → EntryView → Bool
lacks key x = not (same_key x.key key)

-- the entries with another key are fewer
pub fewer_others : (key : List ℤ) (es : List EntryView) → length (without_key key es) ≤ length es
fewer_others key es = omega (arith, length-filter_both (has key) (lacks key) (λ x. refl) es)

-- the same entries
pub same_entries : (n : ℕ) (es : List EntryView) → length es ≤ n → IsPermutation es (regrouped es)
same_entries n [] l = IsPermutation-refl []
same_entries zero (e ∷ es) l = absurd (omega (arith, l))
same_entries (suc n) (e ∷ es) l =
    let group = with_key e.key es in let others = without_key e.key es in
    subst (IsPermutation (e ∷ es)) (sym (first_group e es))
    (IsPermutation-cons e es (group ++ regrouped others) (IsPermutation-trans es (group ++ others) (group ++ regrouped others)
    (IsPermutation-filter_both (has e.key) (lacks e.key) (λ x. refl) es)
    (IsPermutation-append_right group others (regrouped others) (same_entries n others (omega (arith, l, fewer_others e.key es))))))

excluded : (key k : List ℤ) → same_key key k ≡ false → (x : EntryView) → same_key x.key k ≡ true → same_key x.key key ≡ false
excluded key k other x is = by (same_key x.key key) refl
  where
    by : (t : Bool) → same_key x.key key ≡ t → same_key x.key key ≡ false
    by false e = e
    by true e = absurd (false≢true (sym other ∙ ap (λ l. same_key l k) (sym (same_keys x.key key e)) ∙ is))

-- those with a key are among those with one key and those with others
both_parts : (key k : List ℤ) (es : List EntryView) → with_key key (with_key k es) ++ with_key key (without_key k es) ≡ with_key key es
both_parts key k es = by (same_key key k) refl
  where
    by : (t : Bool) → same_key key k ≡ t → with_key key (with_key k es) ++ with_key key (without_key k es) ≡ with_key key es
    by true same =
        let here = same_keys key k same in
        ap (λ l. with_key key (with_key l es) ++ with_key key (without_key l es)) (sym here)
        ∙ ap (λ l. l ++ with_key key (without_key key es)) (filter_again (λ (x : EntryView). same_key x.key key) es)
        ∙ ap (λ l. with_key key es ++ l) (filters_exclude (λ (x : EntryView). same_key x.key key) (λ (x : EntryView). not (same_key x.key key)) es
        (λ x. not-true (same_key x.key key)))
        ∙ append-nil (with_key key es)
    by false other =
        ap (λ l. l ++ with_key key (without_key k es)) (filters_exclude (λ (x : EntryView). same_key x.key key) (λ (x : EntryView). same_key x.key k) es
        (excluded key k other))
        ∙ filter_within (λ (x : EntryView). same_key x.key key) (λ (x : EntryView). not (same_key x.key k)) es
        (λ x is. ap not (ap (λ l. same_key l k) (same_keys x.key key is) ∙ other))

-- the entries with one key stand in their old order
pub old_order : (n : ℕ) (es : List EntryView) → length es ≤ n → (key : List ℤ) → with_key key (regrouped es) ≡ with_key key es
old_order n [] l key = refl
old_order zero (e ∷ es) l key = absurd (omega (arith, l))
old_order (suc n) (e ∷ es) l key =
    let group = with_key e.key es in let others = without_key e.key es in
    ap (with_key key) (first_group e es)
    ∙ ap (λ l. cond (same_key e.key key) (e ∷ l) l)
    (filter-append (λ (x : EntryView). same_key x.key key) group (regrouped others)
    ∙ ap (λ l. with_key key group ++ l) (old_order n others (omega (arith, l, fewer_others e.key es)) key)
    ∙ both_parts key e.key es)

-- the groups stand in the order of their first entries
pub first_order : (n : ℕ) (es : List EntryView) → length es ≤ n → keys_in (regrouped es) ≡ keys_in es
first_order n [] l = refl
first_order zero (e ∷ es) l = absurd (omega (arith, l))
first_order (suc n) (e ∷ es) l =
    let k = e.key in let group = with_key k es in let others = without_key k es in
    let lacking : EntryView → Bool = λ x. not (same_key x.key k) in
    ap keys_in (first_group e es)
    ∙ ap (λ (ks : List (List ℤ)). k ∷ ks)
    (sym (keys_of_others k (group ++ regrouped others))
    ∙ ap keys_in (filter-append lacking group (regrouped others) ∙ ap (λ l. l ++ without_key k (regrouped others))
    (filters_exclude lacking (λ (x : EntryView). same_key x.key k) es (λ x is. ap not is)))
    ∙ keys_of_others k (regrouped others)
    ∙ ap (keys_but k) (first_order n others (omega (arith, l, fewer_others k es)))
    ∙ sym (keys_of_others k others)
    ∙ ap keys_in (filter_again lacking es)
    ∙ keys_of_others k es)

-- The first element that passes a test, and the others.

-- x stands at place n, and is the first that passes
pub record IsFirst {X : Type 0} (p : X → Bool) (xs : List X) (n : ℕ) : Type 0 where
  pub before : List X
  pub found : X
  pub after : List X
  pub whole : xs ≡ before ++ found ∷ after
  pub place : n ≡ length before
  pub passes : p found ≡ true
  pub none : filter p before ≡ []
  pub all : filter (λ x. not (p x)) before ≡ before

pub first_found : {X : Type 0} (p : X → Bool) (xs : List X) → position_or_len p xs < length xs → IsFirst p xs (position_or_len p xs)
first_found p [] l = absurd (omega (arith, l))
first_found p (y ∷ ys) l = by (p y) refl (first_found p ys) l
  where
    by : (t : Bool) → p y ≡ t → (position_or_len p ys < length ys → IsFirst p ys (position_or_len p ys))
        → cond (not t) (1 + position_or_len p ys) 0 < suc (length ys)
        → IsFirst p (y ∷ ys) (cond (not t) (1 + position_or_len p ys) 0)
    by true e h l = record { before = []; found = y; after = ys; whole = refl; place = refl; passes = e; none = refl; all = refl }
    by false e h l =
        let f = h (omega (arith, l)) in
        record {
          before = y ∷ f.before;
          found = f.found;
          after = f.after;
          whole = ap (λ l. y ∷ l) f.whole;
          place = omega (arith, f.place);
          passes = f.passes;
          none = ap (λ t. cond t (y ∷ filter p f.before) (filter p f.before)) e ∙ f.none;
          all = ap (λ t. cond (not t) (y ∷ filter (λ x. not (p x)) f.before) (filter (λ x. not (p x)) f.before)) e ∙ ap (λ l. y ∷ l) f.all;
        }

-- if none passes
pub none_found : {X : Type 0} (p : X → Bool) (xs : List X) → length xs ≤ position_or_len p xs → (filter p xs ≡ []) × (filter (λ x. not (p x)) xs ≡ xs)
none_found p [] l = (refl, refl)
none_found p (y ∷ ys) l = by (p y) refl (none_found p ys) l
  where
    by : (t : Bool) → p y ≡ t → (length ys ≤ position_or_len p ys → (filter p ys ≡ []) × (filter (λ x. not (p x)) ys ≡ ys))
        → suc (length ys) ≤ cond (not t) (1 + position_or_len p ys) 0
        → (cond t (y ∷ filter p ys) (filter p ys) ≡ []) × (cond (not t) (y ∷ filter (λ x. not (p x)) ys) (filter (λ x. not (p x)) ys) ≡ y ∷ ys)
    by t k q r = grind arith

pub removed : {X : Type 0} (before : List X) (x : X) (after : List X) → remove (before ++ x ∷ after) (length before) ≡ before ++ after
removed before x after = grind (arith, take-append_seam, add-one, drop-append-add)

-- what passes is the first, and what passes of the others
pub passing_first : {X : Type 0} (p : X → Bool) (xs : List X) (n : ℕ) (f : IsFirst p xs n) → filter p xs ≡ f.found ∷ filter p (remove xs n)
passing_first p xs n f = grind (arith, filter-append, removed)

-- what does not pass is among the others
pub failing_others : {X : Type 0} (p : X → Bool) (xs : List X) (n : ℕ) (f : IsFirst p xs n) → filter (λ x. not (p x)) xs ≡ filter (λ x. not (p x)) (remove xs n)
failing_others {X} p xs n f = grind (arith, filter-append, removed)

pub is_found : {X : Type 0} (p : X → Bool) (xs : List X) (n : ℕ) (d : X) (f : IsFirst p xs n) → get_or xs n d ≡ f.found
is_found p xs n d f = grind (arith, get_or-append_seam)

position_map : {X Y : Type 0} (p : Y → Bool) (f : X → Y) (xs : List X) → position_or_len p (map f xs) ≡ position_or_len (λ x. p (f x)) xs
position_map p f [] = refl
position_map p f (x ∷ xs) = ap (λ n. cond (not (p (f x))) (1 + n) 0) (position_map p f xs)

-- places in a list of images
pub places_agree : {X Y : Type 0} (p : Y → Bool) (f : X → Y) (xs : List X) → position p (map f xs) ≡ position (λ x. p (f x)) xs
places_agree p f xs = simp (position_map, length-map)

-- the first entry of all that are left
pub from_first : (left : List EntryView) (n : ℕ) (e : EntryView) → n ≡ 0 → 0 < length left → e ≡ get_or left n e
    → regrouped left ≡ e ∷ going_on (Some e) (remove left n)
from_first left n e h k l = grind (arith, first_group)

-- the next entry after one that is there
after_one : (l : EntryView) (left : List EntryView) (n : ℕ) (e : EntryView) → n ≡ place_after (Some l) left → 0 < length left → e ≡ get_or left n e
    → going_on (Some l) left ≡ e ∷ going_on (Some e) (remove left n)
after_one l left n e place some is = by (nat_lt at (length left)) refl place
  where
    q : EntryView → Bool
    q x = same_key x.key l.key

    at : ℕ
    at = position_or_len q left

    by : (t : Bool) → nat_lt at (length left) ≡ t → n ≡ unwrap_or (cond t (Some at) None) 0 → going_on (Some l) left ≡ e ∷ going_on (Some e) (remove left n)
    by true found place =
        let f = first_found q left (ltb-true at (length left) found) in
        let same : e ≡ f.found = is ∙ ap (λ m. get_or left m e) place ∙ is_found q left at e f in
        let key : l.key ≡ e.key = sym (same_keys f.found.key l.key f.passes) ∙ ap (λ (x : EntryView). x.key) (sym same) in
        ap (λ es. es ++ regrouped (without_key l.key left)) (passing_first q left at f)
        ∙ ap (λ es. f.found ∷ (with_key l.key (remove left at) ++ regrouped es)) (failing_others q left at f)
        ∙ ap (λ k. f.found ∷ (with_key k (remove left at) ++ regrouped (without_key k (remove left at)))) key
        ∙ ap (λ (x : EntryView). x ∷ going_on (Some e) (remove left at)) (sym same)
        ∙ ap (λ m. e ∷ going_on (Some e) (remove left m)) (sym place)
    by false missing place =
        let none = none_found q left (ltb-false at (length left) missing) in
        ap (λ es. es ++ regrouped (without_key l.key left)) none.0
        ∙ ap regrouped none.1
        ∙ from_first left n e place some is

after_any : (o : Option EntryView) (left : List EntryView) (n : ℕ) (e : EntryView) → n ≡ place_after o left → 0 < length left → e ≡ get_or left n e
    → going_on o left ≡ e ∷ going_on (Some e) (remove left n)
after_any None left n e place some is = from_first left n e place some is
after_any (Some l) left n e place some is = after_one l left n e place some is

last_pushed : (es : List EntryView) (e : EntryView) → last_of (es ++ e ∷ []) ≡ Some e
last_pushed [] e = refl
last_pushed (x ∷ []) e = refl
last_pushed (x ∷ y ∷ es) e = last_pushed (y ∷ es) e

-- the entry at the next place goes behind those that are grouped
pub next_on : (grouped left : List EntryView) (n : ℕ) (e : EntryView) → n ≡ next_place grouped left → 0 < length left → e ≡ get_or left n e
    → (grouped ++ e ∷ []) ++ going_on (last_of (grouped ++ e ∷ [])) (remove left n) ≡ grouped ++ going_on (last_of grouped) left
next_on grouped left n e place some is = grind (arith, last_pushed, append_assoc, after_any)

-- the last of some images
pub last_image : {X : Type 0} (f : X → EntryView) (xs : List X) (x : X) → 1 ≤ length xs → x ≡ get_or xs (length xs - 1) x → last_of (map f xs) ≡ Some (f x)
last_image f [] x some is = absurd (omega (arith, some))
last_image f (y ∷ []) x some is = ap (λ z. Some (f z)) (sym is)
last_image f (y ∷ z ∷ xs) x some is =
    let two : suc (suc (length xs)) - 1 ≡ suc (length xs) = omega arith in
    let one : length xs ≡ suc (length xs) - 1 = omega arith in
    last_image f (z ∷ xs) x (omega arith) (is ∙ ap (λ m. get_or (y ∷ z ∷ xs) m x) two ∙ ap (λ m. get_or (z ∷ xs) m x) one)

-- Lists of one number for each entry, lent or without one entry.

-- of entries that are lent
pub images_of_views : (f : EntryView → ℕ) (lent : List (Bor Entry)) → map (λ (e : Bor Entry). f (entry_view e.now)) lent ≡ map f
    (map (λ (e : Bor Entry). entry_view e.now) lent)
images_of_views f [] = refl
images_of_views f (e ∷ lent) = ap (λ (ns : List ℕ). f (entry_view e.now) ∷ ns) (images_of_views f lent)

-- without the one at a place
pub map-remove : {X Y : Type 0} (f : X → Y) (xs : List X) (i : ℕ) → map f (remove xs i) ≡ remove (map f xs) i
map-remove f xs i = map-append f (take i xs) (drop (suc i) xs) ∙ ap (λ l. l ++ map f (drop (suc i) xs)) (sym (take-map f i xs))
    ∙ ap (λ l. take i (map f xs) ++ l) (sym (drop-map f (suc i) xs))

-- Only one list is a regrouping.

-- the end of a list whose entries stand together
end_together : (xs ys : List EntryView) → AreTogether (xs ++ ys) → AreTogether ys
end_together xs ys t = λ before between after e f eq same.
    t (xs ++ before) between after e f (ap (λ (l : List EntryView). xs ++ l) eq ∙ sym (append_assoc xs before (e ∷ (between ++ f ∷ after)))) same

-- behind an entry with another key none has the key
none_later : (e x : EntryView) (xs : List EntryView) → AreTogether (e ∷ x ∷ xs) → same_key x.key e.key ≡ false
    → length xs ≤ position_or_len (λ (y : EntryView). same_key y.key e.key) xs
none_later e x xs t other = by (nat_lt at (length xs)) refl
  where
    q : EntryView → Bool
    q y = same_key y.key e.key

    at : ℕ
    at = position_or_len q xs

    by : (s : Bool) → nat_lt at (length xs) ≡ s → length xs ≤ at
    by false h = ltb-false at (length xs) h
    by true h =
        let f = first_found q xs (ltb-true at (length xs) h) in
        let all = t [] (x ∷ f.before) f.after e f.found (ap (λ (l : List EntryView). e ∷ x ∷ l) f.whole) (sym (same_keys f.found.key e.key f.passes)) in
        let same : x.key ≡ e.key = All-head (λ (y : EntryView). y.key ≡ e.key) x f.before all in
        absurd (false≢true (sym other ∙ ap (λ k. same_key k e.key) same ∙ key_itself e.key))

-- the entries with the first key stand first
front : (es : List EntryView) (e : EntryView) → AreTogether (e ∷ es) → with_key e.key es ++ without_key e.key es ≡ es
front [] e t = refl
front (x ∷ xs) e t = by (same_key x.key e.key) refl (front xs x (end_together (e ∷ []) (x ∷ xs) t))
  where
    by : (s : Bool) → same_key x.key e.key ≡ s → with_key x.key xs ++ without_key x.key xs ≡ xs
        → cond s (x ∷ with_key e.key xs) (with_key e.key xs) ++ cond (not s) (x ∷ without_key e.key xs) (without_key e.key xs) ≡ x ∷ xs
    by true h on = ap (λ k. x ∷ (with_key k xs ++ without_key k xs)) (sym (same_keys x.key e.key h)) ∙ ap (λ (l : List EntryView). x ∷ l) on
    by false h on =
        let none = none_found (λ (y : EntryView). same_key y.key e.key) xs (none_later e x xs t h) in
        ap (λ (l : List EntryView). l ++ x ∷ without_key e.key xs) none.0 ∙ ap (λ (l : List EntryView). x ∷ l) none.1

-- a list whose entries stand together is regrouped already
pub stays : (n : ℕ) (es : List EntryView) → length es ≤ n → AreTogether es → regrouped es ≡ es
stays n [] l t = refl
stays zero (e ∷ es) l t = absurd (omega (arith, l))
stays (suc n) (e ∷ es) l t =
    let group = with_key e.key es in let others = without_key e.key es in let whole = front es e t in
    let rest : AreTogether others = end_together group others (subst AreTogether (sym whole) (end_together (e ∷ []) es t)) in
    first_group e es
    ∙ ap (λ (l : List EntryView). e ∷ (group ++ l)) (stays n others (omega (arith, l, fewer_others e.key es)) rest)
    ∙ ap (λ (l : List EntryView). e ∷ l) whole

agree : (f g : List ℤ → List EntryView) (keys : List (List ℤ)) → ((key : List ℤ) → f key ≡ g key) → flat_map f keys ≡ flat_map g keys
agree f g keys h = search arith

-- there is only one
pub only_one : (old new : List EntryView) → IsRegrouping old new → new ≡ regrouped old
only_one old new r =
    sym (stays (length new) new (omega arith) r.together)
    ∙ agree (λ key. with_key key new) (λ key. with_key key old) (keys_in new) r.old_order
    ∙ ap (flat_map (λ key. with_key key old)) r.first_order

-- all have this key
abbrev pub HaveKey : List ℤ → List EntryView → Type 0
HaveKey key es = All (λ (x : EntryView). x.key ≡ key) es

-- none has it
abbrev pub LackKey : List ℤ → List EntryView → Type 0
LackKey key es = All (λ (x : EntryView). x.key ≢ key) es

among : (key : List ℤ) (before : List EntryView) (f : EntryView) (after : List EntryView) → LackKey key (before ++ f ∷ after) → f.key ≢ key
among key [] f after h = All-head (λ (x : EntryView). x.key ≢ key) f after h
among key (b ∷ before) f after h = among key before f after (All-tail (λ (x : EntryView). x.key ≢ key) b (before ++ f ∷ after) h)

-- up to an entry with the key all have it
until : (key : List ℤ) (xs ys between : List EntryView) (f : EntryView) (after : List EntryView) → HaveKey key xs → LackKey key ys
    → xs ++ ys ≡ between ++ f ∷ after → f.key ≡ key → HaveKey key between
until key xs ys [] f after hx hy e k = All-nil (λ (x : EntryView). x.key ≡ key)
until key [] ys (b ∷ bs) f after hx hy e k = absurd (among key (b ∷ bs) f after (subst (LackKey key) e hy) k)
until key (x ∷ xs) ys (b ∷ bs) f after hx hy e k =
    All-cons (λ (x : EntryView). x.key ≡ key) b bs
    (ap (λ (l : List EntryView). (get_or l 0 x).key) (sym e) ∙ All-head (λ (x : EntryView). x.key ≡ key) x xs hx)
    (until key xs ys bs f after (All-tail (λ (x : EntryView). x.key ≡ key) x xs hx) hy (ap (drop 1) e) k)

-- a group, and other groups behind it
then_others : (key : List ℤ) (xs ys before between after : List EntryView) (e f : EntryView) → HaveKey key xs → LackKey key ys → AreTogether ys
    → xs ++ ys ≡ before ++ e ∷ (between ++ f ∷ after) → e.key ≡ f.key → HaveKey e.key between
then_others key [] ys before between after e f hx hy t eq same = t before between after e f eq same
then_others key (x ∷ xs) ys [] between after e f hx hy t eq same =
    let key_is : e.key ≡ key = ap (λ (l : List EntryView). (get_or l 0 x).key) (sym eq) ∙ All-head (λ (x : EntryView). x.key ≡ key) x xs hx in
    subst (λ k. HaveKey k between) (sym key_is) (until key xs ys between f after (All-tail (λ (x : EntryView). x.key ≡ key) x xs hx) hy (ap (drop 1) eq)
    (sym same ∙ key_is))
then_others key (x ∷ xs) ys (b ∷ bs) between after e f hx hy t eq same =
    then_others key xs ys bs between after e f (All-tail (λ (x : EntryView). x.key ≡ key) x xs hx) hy t (ap (drop 1) eq) same

other_key : (key : List ℤ) (x : EntryView) → not (same_key x.key key) ≡ true → x.key ≢ key
other_key key x h e = false≢true (sym (not-true (same_key x.key key) h) ∙ ap (λ k. same_key k key) e ∙ key_itself key)

pub together : (n : ℕ) (es : List EntryView) → length es ≤ n → AreTogether (regrouped es)
together n [] l = λ before between after e f eq same. absurd (omega (arith, ap length eq, length-append before (e ∷ (between ++ f ∷ after))))
together zero (e ∷ es) l = absurd (omega (arith, l))
together (suc n) (e ∷ es) l =
    let group = with_key e.key es in let others = without_key e.key es in
    let few : length others ≤ n = omega (arith, l, fewer_others e.key es) in
    let hx : HaveKey e.key (e ∷ group) = All-cons (λ (x : EntryView). x.key ≡ e.key) e group refl
    (All-weaker (λ (x : EntryView). same_key x.key e.key ≡ true) (λ (x : EntryView). x.key ≡ e.key) (λ (x : EntryView) is. same_keys x.key e.key is) group
    (filter_passes (λ (x : EntryView). same_key x.key e.key) es)) in
    let hy : LackKey e.key others = All-weaker (λ (x : EntryView). not (same_key x.key e.key) ≡ true) (λ (x : EntryView). x.key ≢ e.key)
    (other_key e.key) others (filter_passes (λ (x : EntryView). not (same_key x.key e.key)) es) in
    subst AreTogether (sym (first_group e es)) (λ before between after d f eq same.
    then_others e.key (e ∷ group) (regrouped others) before between after d f hx
    (All-permutation (λ (x : EntryView). x.key ≢ e.key) others (regrouped others) (same_entries n others few) hy) (together n others few) eq same)

-- the regrouped list is a regrouping
pub is_regrouped : (es : List EntryView) → IsRegrouping es (regrouped es)
is_regrouped es = record {
  same_entries = same_entries (length es) es (omega arith);
  together = together (length es) es (omega arith);
  old_order = old_order (length es) es (omega arith);
  first_order = first_order (length es) es (omega arith);
}
