-- Sums of whole numbers over lists, and over the numbers from 1 to n.
use Rattle.std.proofs.Common.{ℕ, ◌+◌, List, sym, ℤ, ap, inr, refl, subst, inl, ◌≡◌, ◌+ℤ◌, ◌-ℤ◌, ◌*ℤ◌, [], ◌∷◌, ◌∙◌, arith, pos, ◌≤ℤ◌, zero, suc, ◌≤◌, map}
use Rattle.std.{proofs.lemmas.Int.ints, proofs.lemmas.List.Sums.sum_by-cons, proofs.lemmas.List.Sorted.sum_by-IsPermutation, specs.List.sum_by}
use Rattle.std.{specs.List.Sorted.IsPermutation, proofs.lemmas.List.length-map, proofs.Math.Decide.ℕ_discrete}
use borrow.Author.Differences.{up, down}
use Rattle.integers.proofs.lists.Members.{TakenOut, take_out, Carries, IsIn, AreApart, in_map, map_apart_on}
use Rattle.integers.proofs.numbers.Ring.{ring, linear, product_zero, product_sum, sum_product, one_product}
use Rattle.integers.{specs.Lists.total, proofs.lists.Permutations.permutation_of_members}
use Prim.{Dec, yes, no}

-- a sum taken over the images of the members
pub same_total : {X Y : Type 0} (f : X → Y) (g : Y → ℤ) (xs : List X) (ys : List Y) → AreApart xs → AreApart ys → Carries f xs ys
    → total g ys ≡ total (λ x. g (f x)) xs
same_total f g [] [] a b c = refl
same_total f g [] (y ∷ ys) a b c = let r = c.onto y (inl refl) in absurd r.1
same_total {X} {Y} f g (x ∷ xs) ys a b c = by (take_out ys (f x) (c.into x (inl refl))) (λ rest ar cr. same_total f g xs rest a.1 ar cr)
  where
    by : TakenOut ys (f x) → ((rest : List Y) → AreApart rest → Carries f xs rest → total g rest ≡ total (λ z. g (f z)) xs)
        → total g ys ≡ g (f x) +ℤ total (λ z. g (f z)) xs
    by t go =
        let ap' = t.apart b in
        t.sum_is g ∙ ap (λ (s : ℤ). g (f x) +ℤ s) (go t.rest ap'.0 (record {
          into = λ z h. elim (t.others (f z) (c.into z (inr h))) [
            | inl e ↦ let same : x ≡ z = c.once x z (inl refl) (inr h) e in absurd (a.0 (subst (IsIn xs) (sym same) h))
            | inr k ↦ k
          ];
          once = λ z z' h h' e. c.once z z' (inr h) (inr h') e;
          onto = λ y h.
              let r = c.onto y (t.inside y h) in onto_rest y h r.0 r.1 r.2;
        }))
      where
        onto_rest : (y : Y) → IsIn t.rest y → (z : X) → IsIn (x ∷ xs) z → f z ≡ y → (w : X) × IsIn xs w × (f w ≡ y)
        onto_rest y h z (inl e) k = let out = (t.apart b).1 in absurd (out (subst (IsIn t.rest) (sym k ∙ ap f (sym e)) h))
        onto_rest y h z (inr i) k = (z, i, k)

-- equal terms have equal sums
pub total_same : {X : Type 0} (g h : X → ℤ) (xs : List X) → ((x : X) → IsIn xs x → g x ≡ h x) → total g xs ≡ total h xs
total_same g h [] e = refl
total_same g h (x ∷ xs) e = λ i. e x (inl refl) i +ℤ total_same g h xs (λ y k. e y (inr k)) i

-- k·a - l·b and k·a' - l·b', added
pub differ : (k l a b a' b' : ℤ) → (k *ℤ a -ℤ l *ℤ b) +ℤ (k *ℤ a' -ℤ l *ℤ b') ≡ k *ℤ (a +ℤ a') -ℤ l *ℤ (b +ℤ b')
differ k l a b a' b' = simp ring (omega (arith, ints))

-- 0 = k·0 - l·0
pub differ_zero : (k l : ℤ) → pos 0 ≡ k *ℤ pos 0 -ℤ l *ℤ pos 0
differ_zero k l = omega (arith, ints)

-- the sum of k·g - l·h
pub total_differ : {X : Type 0} (k l : ℤ) (g h : X → ℤ) (xs : List X) → total (λ x. k *ℤ g x -ℤ l *ℤ h x) xs ≡ k *ℤ total g xs -ℤ l *ℤ total h xs
total_differ k l g h [] = differ_zero k l
total_differ k l g h (x ∷ xs) = (λ i. (k *ℤ g x -ℤ l *ℤ h x) +ℤ total_differ k l g h xs i) ∙ differ k l (g x) (h x) (total g xs) (total h xs)

-- terms that are 0 or less have such a sum
pub total_falls : {X : Type 0} (g : X → ℤ) (xs : List X) → ((x : X) → IsIn xs x → g x ≤ℤ pos 0) → total g xs ≤ℤ pos 0
total_falls g [] h = omega (arith, ints)
total_falls g (x ∷ xs) h = let a = h x (inl refl) in let b = total_falls g xs (λ y i. h y (inr i)) in omega (arith, ints)

-- if no term is above 0 and the sum is 0, each term is 0
pub each_zero : {X : Type 0} (g : X → ℤ) (xs : List X) → ((x : X) → IsIn xs x → g x ≤ℤ pos 0) → total g xs ≡ pos 0 → (x : X) → IsIn xs x → g x ≡ pos 0
each_zero g [] h e x i = absurd i
each_zero g (y ∷ ys) h e x (inl k) =
    let a = h y (inl refl) in let b = total_falls g ys (λ z i. h z (inr i)) in
    let z : g y ≡ pos 0 = omega (arith, ints) in ap g (sym k) ∙ z
each_zero g (y ∷ ys) h e x (inr i) =
    let a = h y (inl refl) in let b = total_falls g ys (λ z k. h z (inr k)) in
    let z : total g ys ≡ pos 0 = omega (arith, ints) in each_zero g ys (λ w k. h w (inr k)) z x i

-- a - b is 0 or less if a is at most b
pub at_most_zero : (a b : ℤ) → a ≤ℤ b → (a -ℤ b) ≤ℤ pos 0
at_most_zero a b h = omega (arith, ints)

-- a = b if a - b = 0
pub same_from_zero : (a b : ℤ) → a -ℤ b ≡ pos 0 → a ≡ b
same_from_zero a b h = omega (arith, ints)

-- the sum of differences is the difference of the sums
pub total_minus : {X : Type 0} (g h : X → ℤ) (xs : List X) → total (λ x. g x -ℤ h x) xs ≡ total g xs -ℤ total h xs
total_minus g h [] = refl
total_minus g h (x ∷ xs) = (λ i. (g x -ℤ h x) +ℤ total_minus g h xs i) ∙ omega (arith, ints)

-- the sum of multiples is the multiple of the sum
pub total_times : {X : Type 0} (k : ℤ) (g : X → ℤ) (xs : List X) → total (λ x. k *ℤ g x) xs ≡ k *ℤ total g xs
total_times k g [] = sym (product_zero k)
total_times k g (x ∷ xs) = ap (λ (s : ℤ). k *ℤ g x +ℤ s) (total_times k g xs) ∙ sym (product_sum k (g x) (total g xs))

-- the sum of sums is the sum of both
pub total_plus : {X : Type 0} (g h : X → ℤ) (xs : List X) → total (λ x. g x +ℤ h x) xs ≡ total g xs +ℤ total h xs
total_plus g h [] = refl
total_plus g h (x ∷ xs) = (λ i. (g x +ℤ h x) +ℤ total_plus g h xs i) ∙ omega (arith, linear)

-- the sum of zeros
pub total_zeros : {X : Type 0} (xs : List X) → total (λ x. pos 0) xs ≡ pos 0
total_zeros [] = refl
total_zeros (x ∷ xs) = ap (λ (s : ℤ). pos 0 +ℤ s) (total_zeros xs)

-- a sum is the difference of two sums of natural numbers
total_parts : {X : Type 0} (g : X → ℤ) (xs : List X) → total g xs ≡ pos (sum_by (λ x. up (g x)) xs) -ℤ pos (sum_by (λ x. down (g x)) xs)
total_parts g [] = refl
total_parts g (x ∷ xs) =
    let u = sum_by-cons (λ z. up (g z)) x xs in let d = sum_by-cons (λ z. down (g z)) x xs in
    let h = total_parts g xs in
    ap (λ (s : ℤ). g x +ℤ s) h ∙ both (g x) (sum_by (λ z. up (g z)) xs) (sum_by (λ z. down (g z)) xs) ∙ sym (λ i. pos (u i) -ℤ pos (d i))
  where
    both : (z : ℤ) (a b : ℕ) → z +ℤ (pos a -ℤ pos b) ≡ pos (up z + a) -ℤ pos (down z + b)
    both z a b = omega (arith, ints)

-- a permuted list has the same sum
pub total_permuted : {X : Type 0} (g : X → ℤ) (xs ys : List X) → IsPermutation xs ys → total g ys ≡ total g xs
total_permuted g xs ys h = search (arith, sum_by-IsPermutation, total_parts)

-- the numbers from n down to 1
abbrev pub all_to : ℕ → List ℕ
all_to zero = []
all_to (suc n) = suc n ∷ all_to n

-- its members are from 1 to n
pub all_range : (n u : ℕ) → IsIn (all_to n) u → (1 ≤ u) × (u ≤ n)
all_range zero u h = absurd h
all_range (suc n) u (inl e) = (omega arith, omega arith)
all_range (suc n) u (inr h) = let r = all_range n u h in (r.0, let l = r.1 in omega arith)

-- and all of them
pub in_all_to : (n u : ℕ) → 1 ≤ u → u ≤ n → IsIn (all_to n) u
in_all_to zero u l h = absurd (omega arith)
in_all_to (suc n) u l h = by (ℕ_discrete (suc n) u) (λ k. in_all_to n u l k)
  where
    by : Dec (suc n ≡ u) → (u ≤ n → IsIn (all_to n) u) → IsIn (all_to (suc n)) u
    by (yes e) go = inl e
    by (no d) go = inr (go (omega arith))

-- each once
all_apart : (n : ℕ) → AreApart (all_to n)
all_apart zero = tt
all_apart (suc n) = ((λ h. let l = (all_range n (suc n) h).1 in omega arith), all_apart n)

-- a sum over the images
total_mapped : (f : ℕ → ℕ) (g : ℕ → ℤ) (xs : List ℕ) → total g (map f xs) ≡ total (λ x. g (f x)) xs
total_mapped f g [] = refl
total_mapped f g (x ∷ xs) = ap (λ (t : ℤ). g (f x) +ℤ t) (total_mapped f g xs)

-- a map of the numbers from 1 to n, one to one to such numbers, keeps sums over them
pub sum_kept : (n : ℕ) (f : ℕ → ℕ) (g : ℕ → ℤ) → ((u : ℕ) → IsIn (all_to n) u → IsIn (all_to n) (f u))
    → ((u v : ℕ) → IsIn (all_to n) u → IsIn (all_to n) v → f u ≡ f v → u ≡ v) → total (λ u. g (f u)) (all_to n) ≡ total g (all_to n)
sum_kept n f g into once =
    let l = length-map (all_to n) f in
    let p : IsPermutation (map f (all_to n)) (all_to n) =
    permutation_of_members (map f (all_to n)) (all_to n) (map_apart_on f (all_to n) once (all_apart n))
    (λ y h. let r = in_map f (all_to n) y h in subst (IsIn (all_to n)) r.2 (into r.0 r.1)) (omega (arith, l)) in
    sym (total_mapped f g (all_to n)) ∙ sym (total_permuted g (map f (all_to n)) (all_to n) p)

-- a sum of equal terms
pub total_equal : (n : ℕ) (z : ℤ) → total (λ u. z) (all_to n) ≡ pos n *ℤ z
total_equal zero z = omega (arith, ints)
total_equal (suc n) z =
    let e : pos (suc n) ≡ pos 1 +ℤ pos n = omega (arith, ints) in
    ap (λ (t : ℤ). z +ℤ t) (total_equal n z) ∙ ap (λ (t : ℤ). t +ℤ pos n *ℤ z) (sym (one_product z)) ∙ sym (sum_product (pos 1) (pos n) z)
    ∙ ap (λ (t : ℤ). t *ℤ z) (sym e)
