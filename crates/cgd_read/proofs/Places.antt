-- A name that is added to a set of slices, and places in a list of different names.
use Rattle.std.proofs.Common.{◌≡◌, ℕ, List, [], ◌∷◌, ◌++◌, map, Bool, cond, Bor, refl, ap, ◌||◌, not, ◌+◌, ◌≤◌, length, arith, suc, ◌<◌, true, false}
use Rattle.std.proofs.{lemmas.List.length-append, lemmas.Bool.false≢true, lemmas.Slice.Eq.bytes_eq-Decides, lemmas.List.Elements.All-nil}
use Rattle.std.specs.List.{list_any, position_or_len, All}
use Rattle.std.specs.Str.{bytes_eq}
use Rattle.indexmap.specs.IndexSet.{insert_key}
use Rattle.cgd_read.specs.Edges.{with_new, vertex_number}

any_of : (k : Bor (List ℕ)) (ks : List (Bor (List ℕ))) → list_any (λ (b : Bor (List ℕ)). bytes_eq k.now b.now) ks ≡ list_any (bytes_eq k.now)
    (map (λ (b : Bor (List ℕ)). b.now) ks)
any_of k [] = refl
any_of k (b ∷ ks) = ap (λ t. bytes_eq k.now b.now || t) (any_of k ks)

map_end : (k : Bor (List ℕ)) (ks : List (Bor (List ℕ))) → map (λ (b : Bor (List ℕ)). b.now) (ks ++ k ∷ []) ≡ map (λ (b : Bor (List ℕ)). b.now) ks ++ k.now ∷ []
map_end k [] = refl
map_end k (b ∷ ks) = ap (λ t. b.now ∷ t) (map_end k ks)

by_test : (t : Bool) (k : Bor (List ℕ)) (ks : List (Bor (List ℕ))) → map (λ (b : Bor (List ℕ)). b.now) (cond t ks (ks ++ k ∷ [])) ≡ cond t
    (map (λ (b : Bor (List ℕ)). b.now) ks) (map (λ (b : Bor (List ℕ)). b.now) ks ++ k.now ∷ [])
by_test t k ks = search (arith, map_end)

pub names_insert : (k : Bor (List ℕ)) (ks : List (Bor (List ℕ))) → map (λ (b : Bor (List ℕ)). b.now)
    (insert_key (λ (a b : Bor (List ℕ)). bytes_eq a.now b.now) ks k) ≡ with_new bytes_eq (map (λ (b : Bor (List ℕ)). b.now) ks) k.now
names_insert k ks = simp (by_test, any_of)

pub place_of : (k : Bor (List ℕ)) (ks : List (Bor (List ℕ))) → position_or_len (λ (b : Bor (List ℕ)). bytes_eq k.now b.now) ks ≡ position_or_len
    (bytes_eq k.now) (map (λ (b : Bor (List ℕ)). b.now) ks)
place_of k [] = refl
place_of k (b ∷ ks) = ap (λ n. cond (not (bytes_eq k.now b.now)) (1 + n) 0) (place_of k ks)

pub grown : (names : List (List ℕ)) (name : List ℕ) → length (with_new bytes_eq names name) ≤ length names + 1
grown names name = search (arith, length-append)

-- Places in a list of different names.

-- a place is at most the length
pub place_within : {X : Type 0} (p : X → Bool) (xs : List X) → position_or_len p xs ≤ length xs
place_within p [] = omega arith
place_within p (x ∷ xs) = by (p x) (place_within p xs)
  where
    by : (t : Bool) → position_or_len p xs ≤ length xs → cond (not t) (1 + position_or_len p xs) 0 ≤ suc (length xs)
    by t k = search arith

pub place_found : {X : Type 0} (p : X → Bool) (xs : List X) → list_any p xs ≡ true → position_or_len p xs < length xs
place_found p [] e = absurd (false≢true e)
place_found p (x ∷ xs) e = by (p x) (place_found p xs) e
  where
    by : (t : Bool) → (list_any p xs ≡ true → position_or_len p xs < length xs) → (t || list_any p xs) ≡ true
        → cond (not t) (1 + position_or_len p xs) 0 < suc (length xs)
    by t k l = search arith

pub place_none : {X : Type 0} (p : X → Bool) (xs : List X) → list_any p xs ≡ false → position_or_len p xs ≡ length xs
place_none p [] e = refl
place_none p (x ∷ xs) e = by (p x) (place_none p xs) e
  where
    by : (t : Bool) → (list_any p xs ≡ false → position_or_len p xs ≡ length xs) → (t || list_any p xs) ≡ false
        → cond (not t) (1 + position_or_len p xs) 0 ≡ suc (length xs)
    by t k l = grind (arith, false≢true)

-- a test that fails at each element
pub all_fail : {X : Type 0} (p : X → Bool) (xs : List X) → list_any p xs ≡ false → All (λ x. p x ≡ false) xs
all_fail p [] e = All-nil (λ x. p x ≡ false)
all_fail p (x ∷ xs) e = by (p x) refl (all_fail p xs) e
  where
    by : (t : Bool) → p x ≡ t → (list_any p xs ≡ false → All (λ x. p x ≡ false) xs) → (t || list_any p xs) ≡ false → All (λ x. p x ≡ false) (x ∷ xs)
    by t k l q = grind (arith, false≢true)

-- the list does not shrink, and has the new one
pub longer : {X : Type 0} (same : X → X → Bool) (xs : List X) (x : X) → length xs ≤ length (with_new same xs x)
longer same xs x = search (arith, length-append)

pub numbered : (names : List (List ℕ)) (name : List ℕ) → vertex_number names name ≤ length (with_new bytes_eq names name)
numbered names name = search (arith, place_found, length-append, place_within)

-- names at one place of a list are the same
same_place : (xs : List (List ℕ)) (u v : List ℕ) → list_any (bytes_eq u) xs ≡ true → position_or_len (bytes_eq u) xs ≡ position_or_len (bytes_eq v) xs → u ≡ v
same_place [] u v h e = absurd (false≢true h)
same_place (x ∷ xs) u v h e = by (bytes_eq u x) (bytes_eq v x) refl refl (same_place xs u v) h e
  where
    by : (s t : Bool) → bytes_eq u x ≡ s → bytes_eq v x ≡ t
        → (list_any (bytes_eq u) xs ≡ true → position_or_len (bytes_eq u) xs ≡ position_or_len (bytes_eq v) xs → u ≡ v)
        → (s || list_any (bytes_eq u) xs) ≡ true
        → cond (not s) (1 + position_or_len (bytes_eq u) xs) 0 ≡ cond (not t) (1 + position_or_len (bytes_eq v) xs) 0 → u ≡ v
    by s t l p q r w = grind (arith, bytes_eq-Decides)

last_place : (xs : List (List ℕ)) (u v : List ℕ) → position_or_len (bytes_eq v) (xs ++ u ∷ []) ≡ length xs → u ≡ v
last_place [] u v e = by (bytes_eq v u) refl e
  where
    by : (t : Bool) → bytes_eq v u ≡ t → cond (not t) (1 + 0) 0 ≡ 0 → u ≡ v
    by t h k = search (arith, bytes_eq-Decides)
last_place (x ∷ xs) u v e = by (bytes_eq v x) (last_place xs u v) e
  where
    by : (t : Bool) → (position_or_len (bytes_eq v) (xs ++ u ∷ []) ≡ length xs → u ≡ v)
        → cond (not t) (1 + position_or_len (bytes_eq v) (xs ++ u ∷ [])) 0 ≡ suc (length xs) → u ≡ v
    by true h e = absurd (omega (arith, e))
    by false h e = h (omega (arith, e))

-- the two vertices of a row have one number only if they are the same
pub same_number : (names : List (List ℕ)) (u v : List ℕ) → vertex_number names u ≡ vertex_number (with_new bytes_eq names u) v → u ≡ v
same_number names u v e = grind (arith, same_place, last_place, place_none)
