-- Lists that take what is new at their end: what they have, and places in them.
use Rattle.std.proofs.Common.{◌≡◌, ◌⊎◌, inl, inr, ℕ, zero, suc, ◌+◌, ◌<◌, ◌≤◌, ◌||◌, not, Bool, true, false, cond, List, [], ◌∷◌, ◌++◌, length, get_or}
use Rattle.std.proofs.Common.{refl, sym, ap, subst, arith, length-append}
use Rattle.std.{proofs.lemmas.Bool.false≢true, specs.Bool.Decides, specs.List.list_any, specs.List.position_or_len}
use Rattle.integers.proofs.lists.Members.{append_left, append_right, append_apart, in_at, IsIn, AreApart}
use Rattle.integers.proofs.lists.GrownLists.{known_or_fresh, in_more}
use Rattle.cgd_read.specs.Edges.{with_new}

module _ {X : Type 0} (same : X → X → Bool) (decides : (x y : X) → Decides (same x y) (x ≡ y)) where
  -- the place of x
  abbrev pub place : X → List X → ℕ
  place x xs = position_or_len (same x) xs

  -- what the test finds stands in the list
  pub any_in : (xs : List X) (x : X) → list_any (same x) xs ≡ true → IsIn xs x
  any_in [] x e = absurd (false≢true e)
  any_in (y ∷ ys) x e = by (same x y) refl (any_in ys x) e
    where
      by : (t : Bool) → same x y ≡ t → (list_any (same x) ys ≡ true → IsIn ys x) → (t || list_any (same x) ys) ≡ true → IsIn (y ∷ ys) x
      by t h k l = search arith

  none_in : (xs : List X) (x : X) → list_any (same x) xs ≡ false → ¬ IsIn xs x
  none_in [] x e h = h
  none_in (y ∷ ys) x e h = by (same x y) refl (none_in ys x) e h
    where
      by : (t : Bool) → same x y ≡ t → (list_any (same x) ys ≡ false → ¬ IsIn ys x) → (t || list_any (same x) ys) ≡ false → ¬ IsIn (y ∷ ys) x
      by t k l p r = search (arith, false≢true)

  -- any fact of the grown list
  pub grown_is : (P : List X → Type 0) (xs : List X) (x : X) → (IsIn xs x → P xs) → (¬ IsIn xs x → P (xs ++ x ∷ [])) → P (with_new same xs x)
  grown_is P xs x p q = search (arith, any_in, none_in)

  pub has_new : (xs : List X) (x : X) → IsIn (with_new same xs x) x
  has_new xs x = grown_is (λ l. IsIn l x) xs x (λ h. h) (λ n. append_right xs (x ∷ []) x (inl refl))

  pub keeps : (xs : List X) (x y : X) → IsIn xs y → IsIn (with_new same xs x) y
  keeps xs x y h = grown_is (λ l. IsIn l y) xs x (λ i. h) (λ n. append_left xs (x ∷ []) y h)

  pub tells_new : (xs : List X) (x y : X) → IsIn (with_new same xs x) y → IsIn xs y ⊎ (x ≡ y)
  tells_new xs x y = grown_is (λ l. IsIn l y → IsIn xs y ⊎ (x ≡ y)) xs x (λ i h. inl h) (λ n. in_more xs x y)

  apart_end : (xs : List X) (x : X) → AreApart xs → ¬ IsIn xs x → AreApart (xs ++ x ∷ [])
  apart_end xs x a n =
      append_apart xs (x ∷ []) a ((λ f. f), tt) (λ y h k. elim k [ inl e ↦ n (subst (IsIn xs) (sym e) h) | inr f ↦ f ])

  pub apart_new : (xs : List X) (x : X) → AreApart xs → AreApart (with_new same xs x)
  apart_new xs x a = grown_is AreApart xs x (λ h. a) (λ n. apart_end xs x a n)

  pub few_new : (xs : List X) (x : X) → length (with_new same xs x) ≤ length xs + 1
  few_new xs x = grown_is (λ l. length l ≤ length xs + 1) xs x (λ h. omega arith) (λ n. let l = length-append xs (x ∷ []) in omega (arith, l))

  -- a place in a list that goes on
  place_kept : (xs ys : List X) (x : X) → IsIn xs x → place x (xs ++ ys) ≡ place x xs
  place_kept [] ys x h = absurd h
  place_kept (y ∷ xs) ys x h = by (same x y) refl (place_kept xs ys x) h
    where
      by : (t : Bool) → same x y ≡ t → (IsIn xs x → place x (xs ++ ys) ≡ place x xs) → IsIn (y ∷ xs) x
          → cond (not t) (1 + place x (xs ++ ys)) 0 ≡ cond (not t) (1 + place x xs) 0
      by t k l p = grind (arith, false≢true)

  -- the place of what is put last
  place_last : (xs : List X) (x : X) → ¬ IsIn xs x → place x (xs ++ x ∷ []) ≡ place x xs
  place_last [] x n = ap (λ (t : Bool). cond (not t) 1 0) ((decides x x).1 refl)
  place_last (y ∷ xs) x n = by (same x y) (place_last xs x (λ h. n (inr h)))
    where
      by : (t : Bool) → place x (xs ++ x ∷ []) ≡ place x xs → cond (not t) (1 + place x (xs ++ x ∷ [])) 0 ≡ cond (not t) (1 + place x xs) 0
      by t h = cc

  pub place_new : (xs : List X) (x : X) → place x xs ≡ place x (with_new same xs x)
  place_new xs x = grown_is (λ l. place x xs ≡ place x l) xs x (λ h. refl) (λ n. sym (place_last xs x n))

  pub place_grown : (xs : List X) (x y : X) → IsIn xs y → place y xs ≡ place y (with_new same xs x)
  place_grown xs x y h = grown_is (λ l. place y xs ≡ place y l) xs x (λ i. refl) (λ n. sym (place_kept xs (x ∷ []) y h))

  pub place_below : (xs : List X) (x : X) → IsIn xs x → place x xs < length xs
  place_below [] x h = absurd h
  place_below (y ∷ xs) x h = by (same x y) refl (place_below xs x) h
    where
      by : (t : Bool) → same x y ≡ t → (IsIn xs x → place x xs < length xs) → IsIn (y ∷ xs) x → cond (not t) (1 + place x xs) 0 < suc (length xs)
      by t k p q = grind (arith, false≢true)

  -- what stands at its place
  pub at_place : (xs : List X) (x d : X) → IsIn xs x → get_or xs (place x xs) d ≡ x
  at_place [] x d h = absurd h
  at_place (y ∷ xs) x d h = by (same x y) refl (at_place xs x d) h
    where
      by : (t : Bool) → same x y ≡ t → (IsIn xs x → get_or xs (place x xs) d ≡ x) → IsIn (y ∷ xs) x → get_or (y ∷ xs) (cond (not t) (1 + place x xs) 0) d ≡ x
      by t k l p = grind (arith, false≢true)

  -- the place of what stands at one is that one
  pub place_of_get : (xs : List X) (k : ℕ) (d : X) → AreApart xs → k < length xs → place (get_or xs k d) xs ≡ k
  place_of_get [] k d a l = absurd (omega (arith, l))
  place_of_get (x ∷ xs) zero d a l = ap (λ (t : Bool). cond (not t) (1 + place x xs) 0) ((decides x x).1 refl)
  place_of_get (x ∷ xs) (suc k) d a l = by (same (get_or xs k d) x) refl (place_of_get xs k d a.1)
    where
      below : k < length xs
      below = omega (arith, l)

      by : (t : Bool) → same (get_or xs k d) x ≡ t → (k < length xs → place (get_or xs k d) xs ≡ k) → cond (not t) (1 + place (get_or xs k d) xs) 0 ≡ suc k
      by true f on = absurd (a.0 (subst (λ y. IsIn xs y) ((decides (get_or xs k d) x).0 f) (in_at xs k d below)))
      by false f on = let p = on below in omega (arith, p)

  -- what does not stand in a list has its length as place
  pub place_none : (xs : List X) (x : X) → ¬ IsIn xs x → place x xs ≡ length xs
  place_none [] x n = refl
  place_none (y ∷ xs) x n = by (same x y) refl (place_none xs x (λ h. n (inr h)))
    where
      by : (t : Bool) → same x y ≡ t → place x xs ≡ length xs → cond (not t) (1 + place x xs) 0 ≡ suc (length xs)
      by t h k = grind arith

  -- what the place of x has to do with the length n of the list with one more
  pub record HasPlace (n : ℕ) (xs : List X) (x : X) : Type 0 where
    pub longer : length xs ≤ n
    pub within : position_or_len (same x) xs + 1 ≤ n

  pub has_place : (xs : List X) (x : X) → HasPlace (length (with_new same xs x)) xs x
  has_place xs x = elim (known_or_fresh (λ y. y) same decides x xs) [
    | inl known ↦
        let low = known.low in
        subst (λ (n : ℕ). HasPlace n xs x) (sym (ap (λ (t : Bool). length (cond t xs (xs ++ x ∷ []))) known.any))
        (record { longer = omega arith; within = omega (arith, low) })
    | inr fresh ↦
        let high = fresh.high in let size = length-append xs (x ∷ []) in
        subst (λ (n : ℕ). HasPlace n xs x) (sym (ap (λ (t : Bool). length (cond t xs (xs ++ x ∷ []))) fresh.any))
        (record { longer = omega (arith, size); within = omega (arith, size, high) })
  ]
