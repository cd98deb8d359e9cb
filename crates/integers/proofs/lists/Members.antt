-- Members of lists: as lemmas use them, read place by place; filtered, mapped, put together and counted.
-- Contracts say `Contains` and `AllPairs` of std; the bridges stand here.
use Rattle.std.proofs.Common.{refl, List, ◌≡◌, ◌≢◌, ◌⊎◌, ◌+ℤ◌, ◌<◌, [], ◌∷◌, ◌∙◌, ℤ, arith, sym, ap, inr, subst, inl, suc, length, zero, ℕ, get_or, false}
use Rattle.std.proofs.Common.{cond, Bool, true, pos, ◌≤◌, ◌+◌, ◌++◌, map}
use Rattle.std.proofs.lemmas.List.Sorted.{IsPermutation-refl, IsPermutation-trans, IsPermutation-cons, IsPermutation-middle}
use Rattle.std.proofs.lemmas.List.{get_or_default, map-append, append-nil}
use Rattle.std.specs.List.{Contains, AllPairs, All, AllByRecursion, filter, flat_map, range_with_len}
use Rattle.std.proofs.lemmas.List.Elements.{All-from_recursion, All-nil, All-cons, All-head, All-tail, filter-append}
use Rattle.std.{proofs.lemmas.Int.ints, specs.List.Sorted.IsPermutation, specs.Prelude.take, proofs.Math.Seq.take-suc}
use Rattle.integers.{specs.Lists.total, proofs.numbers.Order.next_number}

-- x stands in the list
abbrev pub IsIn : {X : Type 0} → List X → X → Type 0
IsIn [] x = ⊥
IsIn (y ∷ ys) x = (y ≡ x) ⊎ IsIn ys x

-- nothing stands in the list twice
abbrev pub AreApart : {X : Type 0} → List X → Type 0
AreApart [] = Unit {0}
AreApart (x ∷ xs) = (¬ IsIn xs x) × AreApart xs

-- the list without one place at which x stands
pub record TakenOut {X : Type 0} (xs : List X) (x : X) : Type 0 where
  pub rest : List X
  pub sum_is : (g : X → ℤ) → total g xs ≡ g x +ℤ total g rest
  pub permuted : IsPermutation xs (x ∷ rest)
  pub inside : (y : X) → IsIn rest y → IsIn xs y
  pub others : (y : X) → IsIn xs y → (x ≡ y) ⊎ IsIn rest y
  pub apart : AreApart xs → AreApart rest × ¬ IsIn rest x

-- a member of a list can be taken out
pub take_out : {X : Type 0} (xs : List X) (x : X) → IsIn xs x → TakenOut xs x
take_out [] x h = elim h [ ]
take_out {X} (y ∷ ys) x (inl e) = record {
  rest = ys;
  sum_is = λ g. ap (λ (z : _). g z +ℤ total g ys) e;
  permuted = subst (λ (z : X). IsPermutation (y ∷ ys) (z ∷ ys)) e (IsPermutation-refl (y ∷ ys));
  inside = λ z h. inr h;
  others = λ z. elim [ inl f ↦ inl (sym e ∙ f) | inr h ↦ inr h ];
  apart = λ a. (a.1, λ h. a.0 (subst (IsIn ys) (sym e) h));
}
take_out {X} (y ∷ ys) x (inr h) = more (take_out ys x h)
  where
    more : TakenOut ys x → TakenOut (y ∷ ys) x
    more t = record {
      rest = y ∷ t.rest;
      sum_is = λ g. ap (λ (s : ℤ). g y +ℤ s) (t.sum_is g) ∙ omega (arith, ints);
      permuted = IsPermutation-trans (y ∷ ys) (y ∷ x ∷ t.rest) (x ∷ y ∷ t.rest) (IsPermutation-cons y ys (x ∷ t.rest) t.permuted)
          (IsPermutation-middle (y ∷ []) x t.rest);
      inside = λ z. elim [ inl e ↦ inl e | inr k ↦ inr (t.inside z k) ];
      others = λ z. elim [ inl e ↦ inr (inl e) | inr k ↦ elim (t.others z k) [ inl e ↦ inl e | inr l ↦ inr (inr l) ] ];
      apart = λ a. let b = t.apart a.1 in
          (((λ k. a.0 (t.inside y k)), b.0), elim [ inl e ↦ a.0 (subst (IsIn ys) (sym e) h) | inr k ↦ b.1 k ]);
    }

-- f carries the things in xs one to one onto those in ys
pub record Carries {X Y : Type 0} (f : X → Y) (xs : List X) (ys : List Y) : Type 0 where
  pub into : (x : X) → IsIn xs x → IsIn ys (f x)
  pub once : (x x' : X) → IsIn xs x → IsIn xs x' → f x ≡ f x' → x ≡ x'
  pub onto : (y : Y) → IsIn ys y → (x : X) × IsIn xs x × (f x ≡ y)

-- std's `Contains` says the same as `IsIn`
pub in_from_contains : {X : Type 0} (xs : List X) (x : X) (k : ℕ) → k < length xs → get_or xs k x ≡ x → IsIn xs x
in_from_contains [] x k l e = absurd (omega arith)
in_from_contains (y ∷ ys) x zero l e = inl e
in_from_contains (y ∷ ys) x (suc k) l e = inr (in_from_contains ys x k (omega arith) e)

-- and the other way
pub contains_from_in : {X : Type 0} (xs : List X) (x : X) → IsIn xs x → Contains xs x
contains_from_in [] x h = elim h [ ]
contains_from_in (y ∷ ys) x (inl e) = (0, omega arith, e)
contains_from_in (y ∷ ys) x (inr h) = let c = contains_from_in ys x h in (suc c.0, omega arith, c.2)

-- what std's `Contains` says of is a member
pub is_in : {X : Type 0} (xs : List X) (x : X) → Contains xs x → IsIn xs x
is_in xs x c = in_from_contains xs x c.0 c.1 c.2

-- std's `AllPairs` says that nothing stands in the list twice
pub apart_from_pairs : {X : Type 0} (xs : List X) → AllPairs (λ x y. x ≢ y) xs → AreApart xs
apart_from_pairs [] h = tt
apart_from_pairs (x ∷ xs) h = (
  (λ i. let c = contains_from_in xs x i in h 0 (suc c.0) x (omega arith) (omega arith) (sym c.2)),
  apart_from_pairs xs (λ i j d a b. h (suc i) (suc j) d (omega arith) (omega arith)),
)

-- and the other way
pub pairs_from_apart : {X : Type 0} (xs : List X) → AreApart xs → AllPairs (λ x y. x ≢ y) xs
pairs_from_apart [] h i j d a b = absurd (omega arith)
pairs_from_apart (x ∷ xs) h zero zero d a b = absurd (omega arith)
pairs_from_apart (x ∷ xs) h zero (suc j) d a b = λ e. h.0 (in_from_contains xs x j (omega arith) (get_or_default xs j x d (omega arith) ∙ sym e))
pairs_from_apart (x ∷ xs) h (suc i) zero d a b = absurd (omega arith)
pairs_from_apart (x ∷ xs) h (suc i) (suc j) d a b = pairs_from_apart xs h.1 i j d (omega arith) (omega arith)

-- the first member of a list, or one of the others
pub first_or_other : {X : Type 0} (x : X) (xs : List X) (y : X) → Contains (x ∷ xs) y → (x ≡ y) ⊎ Contains xs y
first_or_other {X} x xs y h = grind arith

-- the first member is a member
pub first_in : {X : Type 0} (x : X) (xs : List X) → Contains (x ∷ xs) x
first_in x xs = contains_from_in (x ∷ xs) x (inl refl)

-- and so is each of the others
pub other_in : {X : Type 0} (x : X) (xs : List X) (y : X) → Contains xs y → Contains (x ∷ xs) y
other_in x xs y h = contains_from_in (x ∷ xs) y (inr (is_in xs y h))

-- nothing is a member of no list
pub none_in : {X : Type 0} (y : X) → Contains [] y → ⊥
none_in y h = absurd (is_in [] y h)

-- what holds of two lists together holds of the first
pub all_before : {X : Type 0} (P : X → Type 0) (xs ys : List X) → All P (xs ++ ys) → All P xs
all_before P [] ys h = All-nil P
all_before P (x ∷ xs) ys h = All-cons P x xs (All-head P x (xs ++ ys) h) (all_before P xs ys (All-tail P x (xs ++ ys) h))

-- and of the second
pub all_after : {X : Type 0} (P : X → Type 0) (xs ys : List X) → All P (xs ++ ys) → All P ys
all_after P [] ys h = h
all_after P (x ∷ xs) ys h = all_after P xs ys (All-tail P x (xs ++ ys) h)

-- some element of a list
pub some_of : {X : Type 0} (xs : List X) (i : ℕ) → i < length xs → X
some_of [] i l = absurd (omega (arith, l))
some_of (x ∷ xs) i l = x

-- what holds of all members holds of one
pub all_at : {X : Type 0} (P : X → Type 0) (xs : List X) (x : X) → All P xs → Contains xs x → P x
all_at P xs x h c = subst P c.2 (h c.0 x c.1)

-- what holds of all members, place by place, holds of one
pub all_in : {X : Type 0} (P : X → Type 0) (xs : List X) (x : X) → AllByRecursion P xs → IsIn xs x → P x
all_in P [] x h i = elim i [ ]
all_in P (y ∷ ys) x h (inl e) = subst P e h.0
all_in P (y ∷ ys) x h (inr i) = all_in P ys x h.1 i

-- what the filtered list holds is in the list, and passes the test
pub in_filter : {X : Type 0} (t : X → Bool) (xs : List X) (x : X) → IsIn (filter t xs) x → IsIn xs x × (t x ≡ true)
in_filter t [] x h = elim h [ ]
in_filter {X} t (y ∷ ys) x h = by (t y) refl h (λ k. in_filter t ys x k)
  where
    by : (b : Bool) → t y ≡ b → IsIn (cond b (y ∷ filter t ys) (filter t ys)) x → (IsIn (filter t ys) x → IsIn ys x × (t x ≡ true))
        → IsIn (y ∷ ys) x × (t x ≡ true)
    by true e (inl k) go = (inl k, ap t (sym k) ∙ e)
    by true e (inr k) go = (inr (go k).0, (go k).1)
    by false e k go = (inr (go k).0, (go k).1)

-- what is in the list and passes the test is in the filtered list
pub filter_in : {X : Type 0} (t : X → Bool) (xs : List X) (x : X) → IsIn xs x → t x ≡ true → IsIn (filter t xs) x
filter_in t [] x h e = elim h [ ]
filter_in {X} t (y ∷ ys) x h e = by (t y) refl h (λ k. filter_in t ys x k e)
  where
    true_not_false : true ≡ false → ⊥
    true_not_false s = cc

    by : (b : Bool) → t y ≡ b → IsIn (y ∷ ys) x → (IsIn ys x → IsIn (filter t ys) x) → IsIn (cond b (y ∷ filter t ys) (filter t ys)) x
    by true f (inl k) go = inl k
    by true f (inr k) go = inr (go k)
    by false f (inl k) go = absurd (true_not_false (sym e ∙ ap t (sym k) ∙ f))
    by false f (inr k) go = go k

-- a list without repetition stays so when it is filtered
pub filter_apart : {X : Type 0} (t : X → Bool) (xs : List X) → AreApart xs → AreApart (filter t xs)
filter_apart t [] h = tt
filter_apart {X} t (y ∷ ys) h = by (t y) (filter_apart t ys h.1)
  where
    by : (b : Bool) → AreApart (filter t ys) → AreApart (cond b (y ∷ filter t ys) (filter t ys))
    by true k = ((λ i. h.0 (in_filter t ys y i).0), k)
    by false k = k

-- the sum of ones is the length
count_is : {X : Type 0} (xs : List X) → total (λ x. pos 1) xs ≡ pos (length xs)
count_is [] = refl
count_is (x ∷ xs) = let h = count_is xs in ap (λ (n : ℤ). pos 1 +ℤ n) h ∙ omega (arith, ints)

-- with one member taken out a list is shorter by one
pub taken_length : {X : Type 0} (xs : List X) (x : X) (t : TakenOut xs x) → length xs ≡ suc (length t.rest)
taken_length xs x t =
    let h = t.sum_is (λ y. pos 1) in let a = count_is xs in let b = count_is t.rest in
    omega (arith, ints)

-- S takes each of xs to one of ys, and no two to one
pub record TakesOnce {X Y : Type 0} (S : X → Y → Type 0) (xs : List X) (ys : List Y) : Type 0 where
  pub into : (x : X) → IsIn xs x → (y : Y) × IsIn ys y × S x y
  pub once : (x x' : X) (y : Y) → IsIn xs x → IsIn xs x' → S x y → S x' y → x ≡ x'

-- a list without repetition whose members go to members of another, no two to one, is no longer
pub not_longer : {X Y : Type 0} (S : X → Y → Type 0) (xs : List X) (ys : List Y) → AreApart xs → TakesOnce S xs ys → length xs ≤ length ys
not_longer S [] ys a t = omega arith
not_longer {X} {Y} S (x ∷ xs) ys a t = by (t.into x (inl refl))
    (λ rest s. not_longer S xs rest a.1 s)
  where
    by : (y : Y) × IsIn ys y × S x y → ((rest : List Y) → TakesOnce S xs rest → length xs ≤ length rest) → suc (length xs) ≤ length ys
    by r go =
        let o = take_out ys r.0 r.1 in let n = taken_length ys r.0 o in
        let m = go o.rest (record {
          into = λ z i.
              let s = t.into z (inr i) in
              elim (o.others s.0 s.1) [
                | inl e ↦ let same = t.once x z s.0 (inl refl) (inr i) (subst (λ (y : Y). S x y) e r.2) s.2 in absurd (a.0 (subst (IsIn xs) (sym same) i))
                | inr k ↦ (s.0, k, s.2)
              ];
          once = λ z z' y i i' h h'. t.once z z' y (inr i) (inr i') h h';
        }) in
        omega arith

module _ {X : Type 0} where
  -- a member of two lists, one after the other, is a member of one of them
  pub in_append : (xs ys : List X) (x : X) → IsIn (xs ++ ys) x → IsIn xs x ⊎ IsIn ys x
  in_append [] ys x i = inr i
  in_append (y ∷ xs) ys x (inl e) = inl (inl e)
  in_append (y ∷ xs) ys x (inr i) = by (in_append xs ys x i)
    where
      by : IsIn xs x ⊎ IsIn ys x → IsIn (y ∷ xs) x ⊎ IsIn ys x
      by (inl j) = inl (inr j)
      by (inr j) = inr j

  -- the members of the first
  pub append_left : (xs ys : List X) (x : X) → IsIn xs x → IsIn (xs ++ ys) x
  append_left [] ys x i = absurd i
  append_left (y ∷ xs) ys x (inl e) = inl e
  append_left (y ∷ xs) ys x (inr i) = inr (append_left xs ys x i)

  -- and of the second
  pub append_right : (xs ys : List X) (x : X) → IsIn ys x → IsIn (xs ++ ys) x
  append_right [] ys x i = i
  append_right (y ∷ xs) ys x i = inr (append_right xs ys x i)

  -- two lists without repetition that share nothing make one without repetition
  pub append_apart : (xs ys : List X) → AreApart xs → AreApart ys → ((x : X) → IsIn xs x → IsIn ys x → ⊥) → AreApart (xs ++ ys)
  append_apart [] ys h k n = k
  append_apart (x ∷ xs) ys h k n = ((λ i. by (in_append xs ys x i)), append_apart xs ys h.1 k (λ y i j. n y (inr i) j))
    where
      by : IsIn xs x ⊎ IsIn ys x → ⊥
      by (inl j) = h.0 j
      by (inr j) = n x (inl refl) j

module _ {X Y : Type 0} (f : X → Y) where
  -- a member of the image is the image of a member
  pub in_map : (xs : List X) (y : Y) → IsIn (map f xs) y → (x : X) × IsIn xs x × (f x ≡ y)
  in_map [] y i = absurd i
  in_map (x ∷ xs) y (inl e) = (x, inl refl, e)
  in_map (x ∷ xs) y (inr i) = let r = in_map xs y i in (r.0, inr r.1, r.2)

  -- and the other way
  pub map_in : (xs : List X) (x : X) → IsIn xs x → IsIn (map f xs) (f x)
  map_in [] x i = absurd i
  map_in (y ∷ xs) x (inl e) = inl (ap f e)
  map_in (y ∷ xs) x (inr i) = inr (map_in xs x i)

  -- the image under a map that is one to one on the members
  pub map_apart_on : (xs : List X) → ((x y : X) → IsIn xs x → IsIn xs y → f x ≡ f y → x ≡ y) → AreApart xs → AreApart (map f xs)
  map_apart_on [] o h = tt
  map_apart_on (x ∷ xs) o h = (
    (λ i. let r = in_map xs (f x) i in h.0 (subst (IsIn xs) (o r.0 x (inr r.1) (inl refl) r.2) r.1)),
    map_apart_on xs (λ y z i j. o y z (inr i) (inr j)) h.1,
  )

  -- and under one that is one to one
  pub map_apart : (xs : List X) → ((x y : X) → f x ≡ f y → x ≡ y) → AreApart xs → AreApart (map f xs)
  map_apart xs o h = map_apart_on xs (λ x y i j. o x y) h

  -- members whose images are apart are apart
  pub apart_from_images : (xs : List X) → AreApart (map f xs) → AreApart xs
  apart_from_images [] h = tt
  apart_from_images (x ∷ xs) h = ((λ i. h.0 (map_in xs x i)), apart_from_images xs h.1)

module _ {X Y : Type 0} (f : X → List Y) where
  -- a member of the joined pieces is a member of a piece
  pub in_pieces : (xs : List X) (y : Y) → IsIn (flat_map f xs) y → (x : X) × IsIn xs x × IsIn (f x) y
  in_pieces [] y i = absurd i
  in_pieces (x ∷ xs) y i = by (in_append (f x) (flat_map f xs) y i) (λ j. in_pieces xs y j)
    where
      by : IsIn (f x) y ⊎ IsIn (flat_map f xs) y → (IsIn (flat_map f xs) y → (z : X) × IsIn xs z × IsIn (f z) y) → (z : X) × IsIn (x ∷ xs) z × IsIn (f z) y
      by (inl j) go = (x, inl refl, j)
      by (inr j) go = let r = go j in (r.0, inr r.1, r.2)

  -- and the other way
  pub pieces_in : (xs : List X) (x : X) (y : Y) → IsIn xs x → IsIn (f x) y → IsIn (flat_map f xs) y
  pieces_in [] x y i j = absurd i
  pieces_in (z ∷ xs) x y (inl e) j = append_left (f z) (flat_map f xs) y (subst (λ w. IsIn (f w) y) (sym e) j)
  pieces_in (z ∷ xs) x y (inr i) j = append_right (f z) (flat_map f xs) y (pieces_in xs x y i j)

  -- pieces without repetition that share nothing make a list without repetition
  pub pieces_apart : (xs : List X) → AreApart xs → ((x : X) → IsIn xs x → AreApart (f x))
      → ((x x' : X) (y : Y) → IsIn xs x → IsIn xs x' → IsIn (f x) y → IsIn (f x') y → x ≡ x')
      → AreApart (flat_map f xs)
  pieces_apart [] h k o = tt
  pieces_apart (x ∷ xs) h k o = append_apart (f x) (flat_map f xs) (k x (inl refl))
      (pieces_apart xs h.1 (λ y i. k y (inr i)) (λ y z w i j. o y z w (inr i) (inr j)))
      (λ y i j. let r = in_pieces xs y j in h.0 (subst (IsIn xs) (sym (o x r.0 y (inl refl) (inr r.1) i r.2)) r.1))

-- the first elements of a list are members
pub in_take : {X : Type 0} (n : ℕ) (xs : List X) (x : X) → IsIn (take n xs) x → IsIn xs x
in_take zero xs x i = absurd i
in_take (suc n) [] x i = absurd i
in_take (suc n) (y ∷ ys) x (inl e) = inl e
in_take (suc n) (y ∷ ys) x (inr i) = inr (in_take n ys x i)

-- they have no repetition if the list has none
pub take_apart : {X : Type 0} (n : ℕ) (xs : List X) → AreApart xs → AreApart (take n xs)
take_apart zero xs h = tt
take_apart (suc n) [] h = tt
take_apart (suc n) (y ∷ ys) h = ((λ i. h.0 (in_take n ys y i)), take_apart n ys h.1)

-- nor has the second of two lists, one after the other
pub apart_right : {X : Type 0} (xs ys : List X) → AreApart (xs ++ ys) → AreApart ys
apart_right [] ys h = h
apart_right (x ∷ xs) ys h = apart_right xs ys h.1

-- the element at a place is a member
pub in_at : {X : Type 0} (xs : List X) (i : ℕ) (d : X) → i < length xs → IsIn xs (get_or xs i d)
in_at [] i d l = absurd (omega arith)
in_at (x ∷ xs) zero d l = inl refl
in_at (x ∷ xs) (suc i) d l = inr (in_at xs i d (omega arith))

-- what holds of each member holds of all
pub all_from_in : {X : Type 0} (P : X → Type 0) (xs : List X) → ((x : X) → IsIn xs x → P x) → All P xs
all_from_in {X} P xs h = All-from_recursion P xs (each xs h)
  where
    each : (ys : List X) → ((y : X) → IsIn ys y → P y) → AllByRecursion P ys
    each [] h = tt
    each (y ∷ ys) h = (h y (inl refl), each ys (λ z i. h z (inr i)))

-- the numbers of a range
pub range_in : (a n x : ℕ) → IsIn (range_with_len a n) x → (a ≤ x) × (x < a + n)
range_in a zero x h = absurd h
range_in a (suc n) x (inl e) = (omega arith, omega arith)
range_in a (suc n) x (inr h) = let r = range_in (a + 1) n x h in let l = r.0 in let m = r.1 in (omega arith, omega arith)

-- a map of a list depends on the values at its members alone
pub map_same : {X Y : Type 0} (e f : X → Y) (xs : List X) → ((x : X) → IsIn xs x → e x ≡ f x) → map e xs ≡ map f xs
map_same e f [] h = refl
map_same e f (x ∷ xs) h = let a = h x (inl refl) in let b = map_same e f xs (λ w i. h w (inr i)) in λ i. a i ∷ b i

-- nothing stands in both of two pieces of such a list
pub not_in_both : {X : Type 0} (xs ys : List X) → AreApart (xs ++ ys) → (x : X) → IsIn xs x → IsIn ys x → ⊥
not_in_both [] ys h x i j = i
not_in_both (z ∷ xs) ys h x (inl e) j = h.0 (append_right xs ys z (subst (IsIn ys) (sym e) j))
not_in_both (z ∷ xs) ys h x (inr i) j = not_in_both xs ys h.1 x i j

-- such a list is no longer than one that has all its members
pub no_longer : {X : Type 0} (xs ys : List X) → AreApart xs → ((x : X) → IsIn xs x → IsIn ys x) → length xs ≤ length ys
no_longer {X} xs ys a h = not_longer (λ (x y : X). x ≡ y) xs ys a (record { into = λ x i. (x, h x i, refl); once = λ x y z i j e f. e ∙ sym f })

-- a list whose images are these, each from the list xs
pub record Chosen {X Y : Type 0} (g : X → Y) (xs : List X) (ys : List Y) : Type 0 where
  pub list : List X
  pub images : map g list ≡ ys
  pub inside : (x : X) → IsIn list x → IsIn xs x

-- if each of them is an image there is one
pub chosen : {X Y : Type 0} (g : X → Y) (xs : List X) (ys : List Y) → ((y : Y) → IsIn ys y → (x : X) × IsIn xs x × (g x ≡ y)) → Chosen g xs ys
chosen g xs [] h = record { list = []; images = refl; inside = λ x i. absurd i }
chosen {X} {Y} g xs (y ∷ ys) h = by (h y (inl refl)) (chosen g xs ys (λ z i. h z (inr i)))
  where
    by : (x : X) × IsIn xs x × (g x ≡ y) → Chosen g xs ys → Chosen g xs (y ∷ ys)
    by r t = record { list = r.0 ∷ t.list; images = λ i. r.2 i ∷ t.images i; inside = λ z. elim [ inl e ↦ subst (IsIn xs) e r.1 | inr j ↦ t.inside z j ] }

-- the member at place i, filtered and taken by f
images_of : {X Y : Type 0} (f : X → Y) (t : X → Bool) (xs : List X) (i : ℕ) (x : X) → i < length xs → get_or xs i x ≡ x
    → map f (filter t (take (i + 1) xs)) ≡ map f (filter t (take i xs)) ++ map f (cond (t x) (x ∷ []) [])
images_of {X} f t xs i x l e =
    ap (λ (ys : List X). map f (filter t ys)) (ap (λ (k : ℕ). take k xs) (sym (next_number i)) ∙ take-suc xs i x l ∙ ap (λ (y : X). take i xs ++ y ∷ []) e)
    ∙ ap (map f) (filter-append t (take i xs) (x ∷ []))
    ∙ map-append f (filter t (take i xs)) (cond (t x) (x ∷ []) [])

-- one that passes
pub images_more : {X Y : Type 0} (f : X → Y) (t : X → Bool) (xs : List X) (i : ℕ) (x : X) → i < length xs → get_or xs i x ≡ x → t x ≡ true
    → map f (filter t (take (i + 1) xs)) ≡ map f (filter t (take i xs)) ++ f x ∷ []
images_more {X} f t xs i x l e p = images_of f t xs i x l e ∙ ap (λ (b : Bool). map f (filter t (take i xs)) ++ map f (cond b (x ∷ []) [])) p

-- one that does not
pub images_same : {X Y : Type 0} (f : X → Y) (t : X → Bool) (xs : List X) (i : ℕ) (x : X) → i < length xs → get_or xs i x ≡ x → t x ≡ false
    → map f (filter t (take (i + 1) xs)) ≡ map f (filter t (take i xs))
images_same {X} {Y} f t xs i x l e p = images_of f t xs i x l e ∙ ap (λ (b : Bool). map f (filter t (take i xs)) ++ map f (cond b (x ∷ []) [])) p
    ∙ append-nil (map f (filter t (take i xs)))
