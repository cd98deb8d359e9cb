-- Lists that grow: by one more at their end, and by the same things. Whether a list of keys has a key.
use Rattle.std.proofs.Common.{◌≡◌, ◌⊎◌, inl, inr, ℕ, zero, suc, ◌+◌, ◌<◌, ◌≤◌, List, [], ◌∷◌, ◌++◌, length, get_or, refl, sym, ap, subst, ◌∙◌, arith}
use Rattle.std.proofs.Common.{length-append, append_assoc, append-nil, ◌≢◌, map, Bool, true, false, not, true≢false}
use Rattle.std.proofs.lemmas.List.Sums.{fails_before_first, passes_at_first, prefix_len-le-length}
use Rattle.std.proofs.{Math.Decide.dec_lt, Math.Seq.get_or-append_seam, lemmas.List.get_or_append_left, lemmas.List.get_or_default, lemmas.List.get_or-map}
use Rattle.std.proofs.{lemmas.List.Elements.All-append, lemmas.List.Elements.All-from_get_or, lemmas.Bool.cases_lt, lemmas.List.Folds.list_any_at}
use Rattle.std.proofs.{lemmas.List.Folds.list_any_none}
use Rattle.std.specs.{List.All, List.AllPairs, List.Contains, List.list_any, List.position_or_len, Prelude.drop, Bool.Decides}
use Prim.{Dec, yes, no}
use Rattle.integers.proofs.lists.Members.{IsIn, AreApart, append_left, append_right, append_apart}

-- what stands in a list with one more at its end
pub in_more : {X : Type 0} (xs : List X) (y x : X) → IsIn (xs ++ y ∷ []) x → IsIn xs x ⊎ (y ≡ x)
in_more [] y x (inl e) = inr e
in_more [] y x (inr h) = elim h [ ]
in_more (z ∷ xs) y x (inl e) = inl (inl e)
in_more (z ∷ xs) y x (inr h) = elim (in_more xs y x h) [
  | inl k ↦ inl (inr k)
  | inr k ↦ inr k
]

-- and the other way
pub more_in : {X : Type 0} (xs : List X) (y x : X) → IsIn xs x ⊎ (y ≡ x) → IsIn (xs ++ y ∷ []) x
more_in [] y x (inl h) = elim h [ ]
more_in [] y x (inr e) = inl e
more_in (z ∷ xs) y x (inl (inl e)) = inl e
more_in (z ∷ xs) y x (inl (inr h)) = inr (more_in xs y x (inl h))
more_in (z ∷ xs) y x (inr e) = inr (more_in xs y x (inr e))

-- what holds of a list and of one more
pub all_with : {X : Type 0} (P : X → Type 0) (xs : List X) (x : X) → All P xs → P x → All P (xs ++ x ∷ [])
all_with P xs x a p = All-append P xs (x ∷ []) a one
  where
    one : All P (x ∷ [])
    one zero d l = p
    one (suc i) d l = absurd (omega arith)

-- a list with one more at its end, to which each before it stands in the relation
pub pairs_with : {X : Type 0} (R : X → X → Type 0) (xs : List X) (x : X) → AllPairs R xs → ((y : X) → Contains xs y → R y x) → AllPairs R (xs ++ x ∷ [])
pairs_with {X} R xs x h each i j d l m = by (dec_lt j (length xs))
  where
    longer : length (xs ++ x ∷ []) ≡ length xs + 1
    longer = length-append xs (x ∷ [])

    before : (k : ℕ) → k < length xs → get_or (xs ++ x ∷ []) k d ≡ get_or xs k d
    before k b = get_or_append_left xs (x ∷ []) d k b

    last : (k : ℕ) → k ≡ length xs → get_or (xs ++ x ∷ []) k d ≡ x
    last k e = ap (λ (n : ℕ). get_or (xs ++ x ∷ []) n d) e ∙ get_or-append_seam xs x [] d

    by : Dec (j < length xs) → R (get_or (xs ++ x ∷ []) i d) (get_or (xs ++ x ∷ []) j d)
    by (yes b) = subst (λ (t : Type 0). t) (sym (λ k. R (before i (omega arith) k) (before j b k))) (h i j d l b)
    by (no b) =
        let e : j ≡ length xs = omega (arith, longer, m, b) in let a : i < length xs = omega (arith, l, e) in
        let c : Contains xs (get_or xs i d) = (i, a, get_or_default xs i (get_or xs i d) d a) in
        subst (λ (t : Type 0). t) (sym (λ k. R (before i a k) (last j e k))) (each (get_or xs i d) c)

-- the list from a place on begins with what stands there
pub drop_at : {X : Type 0} (xs : List X) (i : ℕ) (d : X) → i < length xs → drop i xs ≡ get_or xs i d ∷ drop (suc i) xs
drop_at [] i d l = absurd (omega arith)
drop_at (x ∷ xs) zero d l = refl
drop_at (x ∷ xs) (suc i) d l = drop_at xs i d (omega arith)

-- nothing stands from the end on
pub drop_all : {X : Type 0} (xs : List X) (i : ℕ) → length xs ≤ i → drop i xs ≡ []
drop_all [] zero l = refl
drop_all [] (suc i) l = refl
drop_all (x ∷ xs) zero l = absurd (omega arith)
drop_all (x ∷ xs) (suc i) l = drop_all xs i (omega arith)

-- from a place on, one more at the end
pub drop_with : {X : Type 0} (xs : List X) (i : ℕ) (x : X) → i ≤ length xs → drop i (xs ++ x ∷ []) ≡ drop i xs ++ x ∷ []
drop_with xs zero x l = refl
drop_with [] (suc i) x l = absurd (omega arith)
drop_with (y ∷ xs) (suc i) x l = drop_with xs i x (omega arith)

module _ {X : Type 0} (d : X) (m : ℕ) (xs : List X) (x : X) (long : length xs ≡ m) where
  -- it is longer by one
  pub longer : length (xs ++ x ∷ []) ≡ m + 1
  longer = length-append xs (x ∷ []) ∙ ap (λ (n : ℕ). n + 1) long

  -- the elements before the last are the earlier ones
  pub before_last : (k : ℕ) → k < m → get_or (xs ++ x ∷ []) k d ≡ get_or xs k d
  before_last k l = get_or_append_left xs (x ∷ []) d k (omega arith)

  -- the last is the new one
  pub at_last : get_or (xs ++ x ∷ []) m d ≡ x
  at_last = subst (λ (n : ℕ). get_or (xs ++ x ∷ []) n d ≡ x) long (get_or-append_seam xs x [] d)

  -- what holds of each element, by its place, holds of one more
  pub each_more : (P : ℕ → X → Type 0) → ((k : ℕ) → k < m → P k (get_or xs k d)) → P m x → (k : ℕ) → k < m + 1 → P k (get_or (xs ++ x ∷ []) k d)
  each_more P h l k b = search (arith, dec_lt, before_last, at_last)

-- what is found and what is new, after more things
pub record Grows {X : Type 0} (things found next found' next' : List X) : Type 0 where
  pub more : List X
  pub found_is : found' ≡ found ++ more
  pub next_is : next' ≡ next ++ more
  pub each : (x : X) → IsIn more x → IsIn things x
  pub every : (x : X) → IsIn things x → IsIn found' x
  pub once : AreApart found → AreApart found'

module _ {X : Type 0} where
  -- after nothing
  pub grows_none : (found next : List X) → Grows [] found next found next
  grows_none found next = search (arith, append-nil)

  -- after what was found before
  pub grows_old : (x : X) (xs found next found' next' : List X) → IsIn found x → Grows xs found next found' next' → Grows (x ∷ xs) found next found' next'
  grows_old x xs found next found' next' there r = search (arith, append_left)

  -- and after what is new
  pub grows_new : (x : X) (xs found next found' next' : List X) → ¬ IsIn found x → Grows xs (found ++ x ∷ []) (next ++ x ∷ []) found' next'
      → Grows (x ∷ xs) found next found' next'
  grows_new x xs found next found' next' absent r = record {
    more = x ∷ r.more;
    found_is = r.found_is ∙ append_assoc found (x ∷ []) r.more;
    next_is = r.next_is ∙ append_assoc next (x ∷ []) r.more;
    each = λ y i. each y i;
    every = λ y i. every y i;
    once = λ h. r.once (append_apart found (x ∷ []) h ((λ i. i), tt) (λ y i j. different y i j));
  }
    where
      each : (y : X) → IsIn (x ∷ r.more) y → IsIn (x ∷ xs) y
      each y (inl s) = inl s
      each y (inr i) = inr (r.each y i)

      every : (y : X) → IsIn (x ∷ xs) y → IsIn found' y
      every y (inl s) = subst (λ (ys : List X). IsIn ys y) (sym r.found_is) (append_left (found ++ x ∷ []) r.more y (append_right found (x ∷ []) y (inl s)))
      every y (inr i) = r.every y i

      different : (y : X) → IsIn found y → IsIn (x ∷ []) y → ⊥
      different y i (inl s) = absent (subst (IsIn found) (sym s) i)
      different y i (inr j) = j

-- what grows by these things, if equality is decided
pub record Grown {X : Type 0} (things found : List X) : Type 0 where
  pub found' : List X
  pub next : List X
  pub grows : Grows things found [] found' next

module _ {X : Type 0} (same : (x y : X) → Dec (x ≡ y)) where
  -- whether x is a member
  is_member : (xs : List X) (x : X) → Dec (IsIn xs x)
  is_member [] x = no (λ i. i)
  is_member (y ∷ ys) x = by (same y x) (is_member ys x)
    where
      by : Dec (y ≡ x) → Dec (IsIn ys x) → Dec (IsIn (y ∷ ys) x)
      by (yes e) d = yes (inl e)
      by (no n) (yes i) = yes (inr i)
      by (no n) (no m) = no (λ i. elim i [ inl e ↦ n e | inr j ↦ m j ])

  -- the same, with what is new so far
  record Added (things found next : List X) : Type 0 where
    found' : List X
    next' : List X
    grows : Grows things found next found' next'

  -- all things are added
  add : (things found next : List X) → Added things found next
  add [] found next = record { found' = found; next' = next; grows = grows_none found next }
  add (x ∷ xs) found next = by (is_member found x) (add xs found next) (add xs (found ++ x ∷ []) (next ++ x ∷ []))
    where
      by : Dec (IsIn found x) → Added xs found next → Added xs (found ++ x ∷ []) (next ++ x ∷ []) → Added (x ∷ xs) found next
      by (yes i) a b = record { found' = a.found'; next' = a.next'; grows = grows_old x xs found next a.found' a.next' i a.grows }
      by (no n) a b = record { found' = b.found'; next' = b.next'; grows = grows_new x xs found next b.found' b.next' n b.grows }

  -- what is found can grow by any things
  pub some_grown : (things found : List X) → Grown things found
  some_grown things found = let a = add things found [] in record { found' = a.found'; next = a.next'; grows = a.grows }

-- keys are alike in what is seen of them
module _ {K L : Type 0} (seen : K → L) (same : K → K → Bool) (decides : (x y : K) → Decides (same x y) (seen x ≡ seen y)) where
  -- the list has a key like k
  pub record IsKnown (k : K) (ks : List K) : Type 0 where
    pub any : list_any (same k) ks ≡ true
    pub low : position_or_len (same k) ks < length ks
    pub at : (d : L) → get_or (map seen ks) (position_or_len (same k) ks) d ≡ seen k

  -- it has none
  pub record IsFresh (k : K) (ks : List K) : Type 0 where
    pub any : list_any (same k) ks ≡ false
    pub high : position_or_len (same k) ks ≡ length ks
    pub none : (j : ℕ) (d : L) → j < length ks → get_or (map seen ks) j d ≢ seen k

  -- it has one or none
  pub known_or_fresh : (k : K) (ks : List K) → IsKnown k ks ⊎ IsFresh k ks
  known_or_fresh k ks = by (cases_lt (position_or_len (same k) ks) (length ks))
    where
      by : (position_or_len (same k) ks < length ks) ⊎ (length ks ≤ position_or_len (same k) ks) → IsKnown k ks ⊎ IsFresh k ks
      by (inl l) =
          let here = passes_at_first (same k) ks k l in
          inl (record {
            any = list_any_at (same k) ks (position_or_len (same k) ks) k l here;
            low = l;
            at = λ d. get_or-map seen ks (position_or_len (same k) ks) k d l ∙ sym ((decides k _).0 here);
          })
      by (inr l) =
          let most = prefix_len-le-length (λ x. not (same k x)) ks in
          let differs = λ (j : ℕ) (m : j < length ks). fails_before_first (same k) ks j k (omega (arith, l, m)) in
          inr (record {
            any = list_any_none (same k) ks (All-from_get_or (λ x. same k x ≡ false) ks k differs);
            high = omega (arith, l, most);
            none = λ j d m e. true≢false (sym ((decides k _).1 (sym e ∙ get_or-map seen ks j k d m)) ∙ differs j m);
          })
