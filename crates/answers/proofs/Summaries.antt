-- The different keys of many blocks, the groups of entries, and that the summary of a workload is one.
use Rattle.std.proofs.Common.{◌≡◌, ◌≢◌, ◌⊎◌, inl, inr, ℤ, Bool, true, false, cond, List, [], ◌∷◌, ◌++◌, length, map, Bor, refl, sym, ap, subst, ◌∙◌}
use Rattle.std.proofs.Common.{arith, ℕ, ◌+◌, ◌<◌, get_or, take, Option, Some, None, true≢false, ◌≤◌, filter}
use Rattle.std.proofs.lemmas.List.Elements.{All-from_get_or, Contains-append_left, Contains-get_or, Contains-push, Contains-push_cases}
use Rattle.std.proofs.lemmas.List.{length-map, map-append, take_more}
use Rattle.std.proofs.{lemmas.Bool.Decides.Decides-int_eq, lemmas.List.Quantifiers.all_pairs_push, lemmas.Slice.Eq.slice_eq-Decides}
use Rattle.std.proofs.{Math.Nat.le_antisymm}
use Rattle.std.specs.List.{All, Contains, list_any, position_or_len}
use Rattle.std.specs.{Bool.Decides, Cmp.Lexicographic.pointwise, Ordering.int_eq, Prelude.is_some, Prelude.unwrap_or}
use Rattle.indexmap.specs.IndexSet.{insert_key}
use Rattle.integers.proofs.lists.GrownLists.{IsKnown, IsFresh, known_or_fresh}
use Rattle.integers.proofs.lists.Members.{IsIn, apart_from_pairs, contains_from_in, is_in, not_longer, in_map, map_in}
use Rattle.integers.proofs.lists.Permutations.{rising_from_pairs, same_rising}
use Rattle.answers.specs.{KeyLists.IsPutIn, Summaries.AreDifferentKeys}
use Rattle.block_answers.specs.{Outcomes.Outcome, Outcomes.is_accepted, Deciding.key_told}
use Rattle.archive_text.specs.{Entries.EntryView, Groups.AreGroups, Groups.first_of}

-- the test of two slices
abbrev same_key : Bor (List ℤ) → Bor (List ℤ) → Bool
same_key x y = pointwise int_eq x.now y.now

-- the lists of slices
abbrev keys_of : List (Bor (List ℤ)) → List (List ℤ)
keys_of ks = map (λ (b : Bor (List ℤ)). b.now) ks

-- it decides whether they are equal
key-Decides : (x y : Bor (List ℤ)) → Decides (same_key x y) (x.now ≡ y.now)
key-Decides x y = slice_eq-Decides Decides-int_eq x.now y.now (same_key x y) refl

-- if the key is there, the keys stay
known_stays : (old : List (List ℤ)) (key : List ℤ) → Contains old key → IsPutIn old key old
known_stays old key c = grind arith

-- and else it is put last
fresh_last : (old : List (List ℤ)) (key : List ℤ) → All (λ x. x ≢ key) old → IsPutIn old key (old ++ key ∷ [])
fresh_last old key f = record { exact = λ xs. (λ h. Contains-push_cases old key xs h, back xs); once = λ h. all_pairs_push (λ x y. x ≢ y) old key h f }
  where
    back : (xs : List ℤ) → Contains old xs ⊎ (key ≡ xs) → Contains (old ++ key ∷ []) xs
    back xs (inl h) = Contains-append_left old (key ∷ []) xs h
    back xs (inr e) = subst (λ (x : List ℤ). Contains (old ++ key ∷ []) x) e (Contains-push old key)

-- what the set has after the key was put in
pub put_in : (k : Bor (List ℤ)) (ks ks' : List (Bor (List ℤ))) → ks' ≡ insert_key same_key ks k → IsPutIn (keys_of ks) k.now (keys_of ks')
put_in k ks ks' e = by (known_or_fresh (λ (b : Bor (List ℤ)). b.now) same_key key-Decides k ks)
  where
    is : (t : Bool) → list_any (same_key k) ks ≡ t → keys_of ks' ≡ keys_of (cond t ks (ks ++ k ∷ []))
    is t f = ap keys_of (e ∙ ap (λ (s : Bool). cond s ks (ks ++ k ∷ [])) f)

    long : length (keys_of ks) ≡ length ks
    long = length-map ks (λ (b : Bor (List ℤ)). b.now)

    by : IsKnown (λ (b : Bor (List ℤ)). b.now) same_key key-Decides k ks ⊎ IsFresh (λ (b : Bor (List ℤ)). b.now) same_key key-Decides k ks
        → IsPutIn (keys_of ks) k.now (keys_of ks')
    by (inl r) =
        let l = r.low in
        subst (λ (new : List (List ℤ)). IsPutIn (keys_of ks) k.now new) (sym (is true r.any))
        (known_stays (keys_of ks) k.now (subst (Contains (keys_of ks)) (r.at [])
        (Contains-get_or (keys_of ks) (position_or_len (same_key k) ks) [] (omega (arith, l, long)))))
    by (inr r) =
        subst (λ (new : List (List ℤ)). IsPutIn (keys_of ks) k.now new) (sym (is false r.any ∙ map-append (λ (b : Bor (List ℤ)). b.now) ks (k ∷ [])))
        (fresh_last (keys_of ks) k.now (All-from_get_or (λ x. x ≢ k.now) (keys_of ks) [] (λ j l. r.none j [] (omega (arith, l, long)))))

-- The different keys that are reported of more and more blocks.

-- this key is reported of one of the blocks
abbrev IsTold : List Outcome → List ℤ → Type 0
IsTold os xs = (o : Outcome) × Contains os o × (key_told o.body ≡ Some xs)

-- the key that is reported of one more block is put in
put_told : (os : List Outcome) (o : Outcome) (keys keys' : List (List ℤ)) (key : List ℤ) → AreDifferentKeys os keys → key_told o.body ≡ Some key
    → IsPutIn keys key keys' → AreDifferentKeys (os ++ o ∷ []) keys'
put_told os o keys keys' key h is p = record {
  exact = λ xs. (λ c. there xs ((p.exact xs).0 c), λ w. back xs w (Contains-push_cases os o w.0 w.1));
  once =
      p.once h.once;
}
  where
    there : (xs : List ℤ) → Contains keys xs ⊎ (key ≡ xs) → IsTold (os ++ o ∷ []) xs
    there xs (inl c) = let w = (h.exact xs).0 c in (w.0, Contains-append_left os (o ∷ []) w.0 w.1, w.2)
    there xs (inr e) = (o, Contains-push os o, is ∙ ap (λ (x : List ℤ). Some x) e)

    back : (xs : List ℤ) (w : IsTold (os ++ o ∷ []) xs) → Contains os w.0 ⊎ (o ≡ w.0) → Contains keys' xs
    back xs w (inl c) = (p.exact xs).1 (inl ((h.exact xs).1 (w.0, c, w.2)))
    back xs w (inr e) = (p.exact xs).1 (inr (ap (λ (t : Option (List ℤ)). unwrap_or t key) (sym is ∙ ap (λ (x : Outcome). key_told x.body) e ∙ w.2)))

-- and if none is reported of it, the keys stay
none_told : (os : List Outcome) (o : Outcome) (keys : List (List ℤ)) → AreDifferentKeys os keys → key_told o.body ≡ None → AreDifferentKeys (os ++ o ∷ []) keys
none_told os o keys h is = record { exact = λ xs. (λ c. there xs ((h.exact xs).0 c), λ w. back xs w (Contains-push_cases os o w.0 w.1)); once = h.once }
  where
    there : (xs : List ℤ) → IsTold os xs → IsTold (os ++ o ∷ []) xs
    there xs w = (w.0, Contains-append_left os (o ∷ []) w.0 w.1, w.2)

    back : (xs : List ℤ) (w : IsTold (os ++ o ∷ []) xs) → Contains os w.0 ⊎ (o ≡ w.0) → Contains keys xs
    back xs w (inl c) = (h.exact xs).1 (w.0, c, w.2)
    back xs w (inr e) = absurd (true≢false (ap is_some (sym w.2 ∙ sym (ap (λ (x : Outcome). key_told x.body) e) ∙ is)))

-- one block more
one_more : (os : List Outcome) (i : ℕ) (o : Outcome) → i < length os → get_or os i o ≡ o → take (i + 1) os ≡ take i os ++ o ∷ []
one_more os i o l at = take_more os i o l ∙ ap (λ (x : Outcome). take i os ++ x ∷ []) at

pub put_next : (os : List Outcome) (i : ℕ) (o : Outcome) (keys keys' : List (List ℤ)) (key : List ℤ) → i < length os → get_or os i o ≡ o
    → AreDifferentKeys (take i os) keys → key_told o.body ≡ Some key → IsPutIn keys key keys'
    → AreDifferentKeys (take (i + 1) os) keys'
put_next os i o keys keys' key l at h is p =
    subst (λ (ps : List Outcome). AreDifferentKeys ps keys') (sym (one_more os i o l at)) (put_told (take i os) o keys keys' key h is p)

pub none_next : (os : List Outcome) (i : ℕ) (o : Outcome) (keys : List (List ℤ)) → i < length os → get_or os i o ≡ o → AreDifferentKeys (take i os) keys
    → key_told o.body ≡ None
    → AreDifferentKeys (take (i + 1) os) keys
none_next os i o keys l at h is = subst (λ (ps : List Outcome). AreDifferentKeys ps keys) (sym (one_more os i o l at)) (none_told (take i os) o keys h is)

-- The groups of entries are one list, and the summary of a workload is one.

-- the groups of equal keys are one list
pub one_list_of_groups : (entries : List EntryView) (gs hs : List (List ℕ)) → AreGroups entries gs → AreGroups entries hs → gs ≡ hs
one_list_of_groups entries gs hs a b =
    same_rising (λ (g h : List ℕ). first_of g < first_of h) (λ g l. omega (arith, l)) (λ x y z l m. omega (arith, l, m)) gs hs
    (rising_from_pairs (λ (g h : List ℕ). first_of g < first_of h) gs a.in_order) (rising_from_pairs (λ (g h : List ℕ). first_of g < first_of h) hs b.in_order)
    (λ g. (
      (λ i. is_in hs g (b.every g (a.each g (contains_from_in gs g i)))),
      (λ i. is_in gs g (a.every g (b.each g (contains_from_in hs g i)))),
    ))

-- the keys that are reported
abbrev keys_told : List Outcome → List (Option (List ℤ))
keys_told os = map (λ (o : Outcome). key_told o.body) os

-- a key of the one is a key of the other
key_there : (os ps : List Outcome) (keys others : List (List ℤ)) → keys_told os ≡ keys_told ps → AreDifferentKeys os keys → AreDifferentKeys ps others
    → (xs : List ℤ) → IsIn keys xs → IsIn others xs
key_there os ps keys others same a b xs i =
    let w = (a.exact xs).0 (contains_from_in keys xs i) in
    let told : IsIn (keys_told os) (Some xs) = subst (IsIn (keys_told os)) w.2 (map_in (λ (o : Outcome). key_told o.body) os w.0 (is_in os w.0 w.1)) in
    let r = in_map (λ (o : Outcome). key_told o.body) ps (Some xs) (subst (λ l. IsIn l (Some xs)) same told) in
    is_in others xs ((b.exact xs).1 (r.0, contains_from_in ps r.0 r.1, r.2))

no_more_keys : (os ps : List Outcome) (keys others : List (List ℤ)) → keys_told os ≡ keys_told ps → AreDifferentKeys os keys → AreDifferentKeys ps others
    → length keys ≤ length others
no_more_keys os ps keys others same a b =
    not_longer (λ (x y : List ℤ). x ≡ y) keys others (apart_from_pairs keys a.once)
    (record { into = λ x i. (x, key_there os ps keys others same a b x i, refl); once = λ x x' y i j e f. e ∙ sym f })

-- there are as many different keys
pub as_many_keys : (os ps : List Outcome) (keys others : List (List ℤ)) → keys_told os ≡ keys_told ps → AreDifferentKeys os keys → AreDifferentKeys ps others
    → length keys ≡ length others
as_many_keys os ps keys others same a b = le_antisymm (no_more_keys os ps keys others same a b) (no_more_keys ps os others keys (sym same) b a)

-- how many are accepted is known from whether each is
counted : (os : List Outcome) → length (filter is_accepted os) ≡ length (filter (λ (b : Bool). b) (map is_accepted os))
counted [] = refl
counted (o ∷ os) = by (is_accepted o) (counted os)
  where
    by : (b : Bool) → length (filter is_accepted os) ≡ length (filter (λ (b : Bool). b) (map is_accepted os))
        → length (cond b (o ∷ filter is_accepted os) (filter is_accepted os)) ≡ length
        (cond b (b ∷ filter (λ (b : Bool). b) (map is_accepted os)) (filter (λ (b : Bool). b) (map is_accepted os)))
    by b h = grind arith

pub as_many_accepted : (os ps : List Outcome) → map is_accepted os ≡ map is_accepted ps → length (filter is_accepted os) ≡ length (filter is_accepted ps)
as_many_accepted os ps e = counted os ∙ ap (λ bs. length (filter (λ (b : Bool). b) bs)) e ∙ sym (counted ps)
