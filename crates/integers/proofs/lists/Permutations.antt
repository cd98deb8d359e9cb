-- Lists in which nothing stands twice, and lists with the same members, which are permutations of each other.
use Rattle.std.proofs.Common.{◌≡◌, ◌≢◌, ◌⊎◌, inl, inr, ℕ, ◌<◌, Bool, true, ltb, ◌&&◌, List, [], ◌∷◌, length, get_or, map, refl, sym, ap, ◌∙◌, arith, ◌↔◌}
use Rattle.std.proofs.lemmas.List.Sorted.{IsPermutation-keeps, IsPermutation-refl, IsPermutation-trans, IsPermutation-cons, IsPermutation-sym}
use Rattle.std.proofs.lemmas.List.Edits.{Swapped, swapped_from_swap, length-swap}
use Rattle.std.proofs.{Common.suc, Common.◌≤◌, Common.subst, lemmas.Bool.cases_eq, lemmas.Bool.and_parts, lemmas.Bool.ltb-true}
use Rattle.std.specs.List.{AllPairs, Sorted.IsPermutation}
use Rattle.integers.proofs.lists.Members.{IsIn, AreApart, pairs_from_apart, TakenOut, take_out, contains_from_in, taken_length}
use Rattle.std.specs.List as lists

-- two places that hold the same are one place
abbrev StandsOnce : {X : Type 0} → List X → Type 0
StandsOnce {X} xs = (i j : ℕ) (d : X) → i < length xs → j < length xs → get_or xs i d ≡ get_or xs j d → i ≡ j

-- where the element at i stood before two elements changed places
record Source {X : Type 0} (f g : ℕ → X) (a b i : ℕ) : Type 0 where
  at : ℕ
  is : g i ≡ f at
  which : ((i ≡ a) × (at ≡ b)) ⊎ (((i ≢ a) × (i ≡ b) × (at ≡ a)) ⊎ ((i ≢ a) × (i ≢ b) × (at ≡ i)))

-- it is found
source : {X : Type 0} (f g : ℕ → X) (a b i : ℕ) → Swapped f g a b → Source f g a b i
source f g a b i s = elim (cases_eq i a) [
  | inl e ↦ record { at = b; is = ap g e ∙ s.0; which = inl (e, refl) }
  | inr n ↦ elim (cases_eq i b) [
    | inl e ↦ record { at = a; is = ap g e ∙ s.1; which = inr (inl (n, e, refl)) }
    | inr m ↦ record { at = i; is = s.2 i n m; which = inr (inr (n, m, refl)) }
  ]
]

-- that place is in the list
below : {X : Type 0} (f g : ℕ → X) (a b i n : ℕ) → a < n → b < n → i < n → (s : Source f g a b i) → s.at < n
below f g a b i n p q r s = elim s.which [ inl w ↦ omega (arith, w.1) | inr v ↦ elim v [ inl w ↦ omega (arith, w.2) | inr w ↦ omega (arith, w.2) ] ]

-- two places that stood in one place are one
same_place : (a b i j p q : ℕ)
    → ((i ≡ a) × (p ≡ b)) ⊎ (((i ≢ a) × (i ≡ b) × (p ≡ a)) ⊎ ((i ≢ a) × (i ≢ b) × (p ≡ i)))
    → ((j ≡ a) × (q ≡ b)) ⊎ (((j ≢ a) × (j ≡ b) × (q ≡ a)) ⊎ ((j ≢ a) × (j ≢ b) × (q ≡ j)))
    → p ≡ q → i ≡ j
same_place a b i j p q x y e = grind arith

-- two elements change places
swap_once : {X : Type 0} (xs : List X) (a b : ℕ) → a < length xs → b < length xs → StandsOnce xs → StandsOnce (lists.swap xs a b)
swap_once xs a b p q once i j d k m e =
    let l = length-swap xs a b in let s = swapped_from_swap xs (lists.swap xs a b) a b d p q refl in
    let u = source (λ n. get_or xs n d) (λ n. get_or (lists.swap xs a b) n d) a b i s in
    let v = source (λ n. get_or xs n d) (λ n. get_or (lists.swap xs a b) n d) a b j s in
    let k' : i < length xs = omega arith in let m' : j < length xs = omega arith in
    same_place a b i j u.at v.at u.which v.which
    (once u.at v.at d (below _ _ a b i (length xs) p q k' u) (below _ _ a b j (length xs) p q m' v) (sym u.is ∙ e ∙ v.is))

-- a permutation of a list in which nothing stands twice
permuted_once : {X : Type 0} (xs ys : List X) → IsPermutation xs ys → StandsOnce xs → StandsOnce ys
permuted_once xs ys p once = IsPermutation-keeps xs StandsOnce once swap_once ys p

-- std's `AllPairs` says the same
once_from_pairs : {X : Type 0} (xs : List X) → AllPairs (λ x y. x ≢ y) xs → StandsOnce xs
once_from_pairs xs apart i j d k m e = grind arith

-- and the other way
pairs_from_once : {X : Type 0} (xs : List X) → StandsOnce xs → AllPairs (λ x y. x ≢ y) xs
pairs_from_once xs once i j d l m e = let same = once i j d (omega arith) m e in omega arith

-- a permutation of a list without repetition
pub permuted_pairs : {X : Type 0} (xs ys : List X) → IsPermutation xs ys → AllPairs (λ x y. x ≢ y) xs → AllPairs (λ x y. x ≢ y) ys
permuted_pairs xs ys p h = pairs_from_once ys (permuted_once xs ys p (once_from_pairs xs h))

-- the numbers rise
abbrev pub rise : List ℕ → Bool
rise [] = true
rise (x ∷ []) = true
rise (x ∷ y ∷ ys) = ltb x y && rise (y ∷ ys)

-- what follows has a greater number
greater_later : {X : Type 0} (f : X → ℕ) (x : X) (xs : List X) → rise (f x ∷ map f xs) ≡ true → (y : X) → IsIn xs y → f x < f y
greater_later f x [] h z i = absurd i
greater_later f x (y ∷ ys) h z (inl e) = let l = ltb-true (f x) (f y) (and_parts (ltb (f x) (f y)) (rise (f y ∷ map f ys)) h).0 in let q = ap f e in omega arith
greater_later f x (y ∷ ys) h z (inr j) =
    let p = and_parts (ltb (f x) (f y)) (rise (f y ∷ map f ys)) h in let l = ltb-true (f x) (f y) p.0 in
    let m = greater_later f y ys p.1 z j in omega arith

-- so what has rising numbers stands in the list once
pub rising_apart : {X : Type 0} (f : X → ℕ) (xs : List X) → rise (map f xs) ≡ true → AreApart xs
rising_apart f [] h = tt
rising_apart f (x ∷ []) h = ((λ i. i), tt)
rising_apart f (x ∷ y ∷ ys) h = (
  (λ i. let l = greater_later f x (y ∷ ys) h x i in omega arith),
  rising_apart f (y ∷ ys) (and_parts (ltb (f x) (f y)) (rise (f y ∷ map f ys)) h).1,
)

-- the same of all pairs of places
pub rising_pairs : {X : Type 0} (f : X → ℕ) (xs : List X) → rise (map f xs) ≡ true → AllPairs (λ x y. x ≢ y) xs
rising_pairs f xs h = pairs_from_apart xs (rising_apart f xs h)

-- a list without repetition, all of whose members stand in a list that is no longer, is a permutation of it
pub permutation_of_members : {X : Type 0} (xs ys : List X) → AreApart xs → ((x : X) → IsIn xs x → IsIn ys x) → length ys ≤ length xs → IsPermutation xs ys
permutation_of_members [] [] a h l = IsPermutation-refl []
permutation_of_members [] (y ∷ ys) a h l = absurd (omega arith)
permutation_of_members {X} (x ∷ xs) ys a h l = by (take_out ys x (h x (inl refl))) (λ rest i k. permutation_of_members xs rest a.1 i k)
  where
    by : TakenOut ys x → ((rest : List X) → ((z : X) → IsIn xs z → IsIn rest z) → length rest ≤ length xs → IsPermutation xs rest) → IsPermutation (x ∷ xs) ys
    by t go =
        let n = taken_length ys x t in
        let inside : (z : X) → IsIn xs z → IsIn t.rest z = λ z i. elim (t.others z (h z (inr i))) [
          | inl e ↦ absurd (a.0 (subst (IsIn xs) (sym e) i))
          | inr k ↦ k
        ] in
        IsPermutation-trans (x ∷ xs) (x ∷ t.rest) ys (IsPermutation-cons x xs t.rest (go t.rest inside (omega arith)))
        (IsPermutation-sym ys (x ∷ t.rest) t.permuted)

-- each member stands before all later ones
abbrev pub IsRising : {X : Type 0} → (X → X → Type 0) → List X → Type 0
IsRising before [] = Unit {0}
IsRising {X} before (x ∷ xs) = ((y : X) → IsIn xs y → before x y) × IsRising before xs

-- what std means by it
pub rising_from_pairs : {X : Type 0} (before : X → X → Type 0) (xs : List X) → AllPairs before xs → IsRising before xs
rising_from_pairs before [] h = tt
rising_from_pairs before (x ∷ xs) h = (
  (λ y i. let c = contains_from_in xs y i in subst (before x) c.2 (h 0 (suc c.0) y (omega arith) (let l = c.1 in omega arith))),
  rising_from_pairs before xs (λ i j d a b. h (suc i) (suc j) d (omega arith) (omega arith)),
)

-- two lists that rise by a strict order and have the same members are equal
pub same_rising : {X : Type 0} (before : X → X → Type 0) → ((x : X) → ¬ before x x) → ((x y z : X) → before x y → before y z → before x z) → (xs ys : List X)
    → IsRising before xs → IsRising before ys → ((x : X) → IsIn xs x ↔ IsIn ys x) → xs ≡ ys
same_rising before irr trans [] [] a b h = refl
same_rising before irr trans [] (y ∷ ys) a b h = absurd ((h y).1 (inl refl))
same_rising before irr trans (x ∷ xs) [] a b h = absurd ((h x).0 (inl refl))
same_rising {X} before irr trans (x ∷ xs) (y ∷ ys) a b h =
    let rest = same_rising before irr trans xs ys a.1 b.1 (λ z. ((λ i. there z i ((h z).0 (inr i))), (λ i. here z i ((h z).1 (inr i))))) in
    λ i. first i ∷ rest i
  where
    heads : IsIn (y ∷ ys) x → IsIn (x ∷ xs) y → x ≡ y
    heads (inl e) k = sym e
    heads (inr j) (inl e) = e
    heads (inr j) (inr k) = absurd (irr x (trans x y x (a.0 y k) (b.0 x j)))

    first : x ≡ y
    first = heads ((h x).0 (inl refl)) ((h y).1 (inl refl))

    there : (z : X) → IsIn xs z → IsIn (y ∷ ys) z → IsIn ys z
    there z i (inl e) = absurd (irr x (subst (before x) (sym (first ∙ e)) (a.0 z i)))
    there z i (inr j) = j

    here : (z : X) → IsIn ys z → IsIn (x ∷ xs) z → IsIn xs z
    here z i (inl e) = absurd (irr y (subst (before y) (sym (sym first ∙ e)) (b.0 z i)))
    here z i (inr j) = j
