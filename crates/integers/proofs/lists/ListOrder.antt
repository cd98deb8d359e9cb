-- The order of lists of numbers is total: numbers are compared one by one, and a proper prefix comes before.
-- Sorted lists rise, and the members of a list with a property can be put in rising order.
use Rattle.std.proofs.Common.{◌≡◌, ◌⊎◌, inl, inr, ℤ, List, [], ◌∷◌, ◌++◌, length, refl, sym, ap, ◌∙◌, arith, ◌≢◌, false, get_or, subst, ◌↔◌}
use Rattle.std.specs.Ordering.{int_cmp, ordering_reverse, ordering_then, is_lt}
use Rattle.std.specs.declared.cmp.Ordering.TheVariants.{Less, Equal, Greater}
use Rattle.std.proofs.lemmas.{Cmp.lists_total, Cmp.int_cmp_total, List.Sorted.sorted_far, List.Sorted.ranks_by}
use Rattle.std.specs.{declared.cmp.Ordering.Ordering, Cmp.Lexicographic.slice_cmp, Cmp.IsTotalOrder, FinMap.slice_cmp-IsAntisymmetric, List.AllPairs}
use Rattle.std.specs.{FinMap.int_cmp-IsAntisymmetric, List.Sorted.IsSorted, List.Sorted.IsPermutation}
use Rattle.integers.specs.Vectors.{IsBelow, IsAtMost}
use Rattle.integers.proofs.lists.{Permutations.permuted_pairs, Permutations.IsRising, Members.AreApart, Members.apart_from_pairs, Members.IsIn}
use Prim.{Dec, yes, no}

-- of comparisons one after the other the last needs none after it
pub then_equal : (o : Ordering) → ordering_then o Equal ≡ o
then_equal o = grind arith

-- they may be grouped in any way
pub then_grouped : (o p q : Ordering) → ordering_then (ordering_then o p) q ≡ ordering_then o (ordering_then p q)
then_grouped o p q = grind arith

-- the order of lists is total
pub lists_order : IsTotalOrder (slice_cmp int_cmp)
lists_order = lists_total int_cmp_total

-- the three answers of a comparison differ
less_greater : Less ≡ Greater → ⊥
less_greater e = cc

-- and these
equal_greater : Equal ≡ Greater → ⊥
equal_greater e = cc

-- a list is not below itself
pub not_below_itself : (xs : List ℤ) → ¬ IsBelow xs xs
not_below_itself xs h = less_greater (sym h ∙ lists_order.antisymm xs xs ∙ ap ordering_reverse h)

-- below, and below again
pub below_transitive : (xs ys zs : List ℤ) → IsBelow xs ys → IsBelow ys zs → IsBelow xs zs
below_transitive xs ys zs = lists_order.trans xs ys zs

-- of two lists one is not below the other way too
pub below_one_way : (xs ys : List ℤ) → IsBelow xs ys → ¬ IsBelow ys xs
below_one_way xs ys h k = not_below_itself xs (below_transitive xs ys xs h k)

-- of two lists one is below the other, or they are equal
pub below_or_equal : (xs ys : List ℤ) → IsBelow xs ys ⊎ ((xs ≡ ys) ⊎ IsBelow ys xs)
below_or_equal xs ys = by (slice_cmp int_cmp xs ys) refl
  where
    by : (o : Ordering) → slice_cmp int_cmp xs ys ≡ o → IsBelow xs ys ⊎ ((xs ≡ ys) ⊎ IsBelow ys xs)
    by Less e = inl e
    by Equal e = inr (inl (slice_cmp-IsAntisymmetric int_cmp-IsAntisymmetric xs ys e))
    by Greater e = inr (inr (lists_order.antisymm ys xs ∙ ap ordering_reverse e))

-- what is below is at most
pub at_most_of_below : (xs ys : List ℤ) → IsBelow xs ys → IsAtMost xs ys
at_most_of_below xs ys h k = less_greater (sym h ∙ k)

-- a list is at most itself
pub at_most_itself : (xs : List ℤ) → IsAtMost xs xs
at_most_itself xs k = less_greater (ap ordering_reverse (sym k) ∙ sym (lists_order.antisymm xs xs) ∙ k)

-- what is at most another list is below it or equal
pub below_of_at_most : (xs ys : List ℤ) → IsAtMost xs ys → IsBelow xs ys ⊎ (xs ≡ ys)
below_of_at_most xs ys h = by (slice_cmp int_cmp xs ys) refl
  where
    by : (o : Ordering) → slice_cmp int_cmp xs ys ≡ o → IsBelow xs ys ⊎ (xs ≡ ys)
    by Less e = inl e
    by Equal e = inr (slice_cmp-IsAntisymmetric int_cmp-IsAntisymmetric xs ys e)
    by Greater e = absurd (h e)

-- two lists, each at most the other, are equal
pub at_most_both : (xs ys : List ℤ) → IsAtMost xs ys → IsAtMost ys xs → xs ≡ ys
at_most_both xs ys h k = search (arith, below_of_at_most, lists_order)

-- lists are compared by their first parts of one length, and then by the others
pub front_then : (xs ys zs ws : List ℤ) → length xs ≡ length ys → slice_cmp int_cmp (xs ++ zs) (ys ++ ws) ≡ ordering_then (slice_cmp int_cmp xs ys)
    (slice_cmp int_cmp zs ws)
front_then [] [] zs ws e = refl
front_then [] (y ∷ ys) zs ws e = absurd (omega arith)
front_then (x ∷ xs) [] zs ws e = absurd (omega arith)
front_then (x ∷ xs) (y ∷ ys) zs ws e =
    ap (ordering_then (int_cmp x y)) (front_then xs ys zs ws (omega arith))
    ∙ sym (then_grouped (int_cmp x y) (slice_cmp int_cmp xs ys) (slice_cmp int_cmp zs ws))

-- a list that begins with a lesser one is below
pub below_front : (xs ys zs ws : List ℤ) → length xs ≡ length ys → IsBelow xs ys → IsBelow (xs ++ zs) (ys ++ ws)
below_front xs ys zs ws e h = front_then xs ys zs ws e ∙ ap (λ (o : Ordering). ordering_then o (slice_cmp int_cmp zs ws)) h

-- a list is equal to itself, as they are compared
level : (xs : List ℤ) → slice_cmp int_cmp xs xs ≡ Equal
level xs = search (arith, not_below_itself, at_most_itself)

-- of lists that begin alike the others decide
pub below_after : (xs zs ws : List ℤ) → IsBelow zs ws → IsBelow (xs ++ zs) (xs ++ ws)
below_after xs zs ws h = front_then xs xs zs ws refl ∙ (λ i. ordering_then (level xs i) (slice_cmp int_cmp zs ws)) ∙ h

-- the lower of two orders that are not equal, if the other is not lower
less_by : (o p : Ordering) → o ≡ ordering_reverse p → (o ≢ Equal) → is_lt p ≡ false → o ≡ Less
less_by o p h k l = grind arith

module _ {X : Type 0} (numbers : X → List ℤ) (once : (a b : X) → numbers a ≡ numbers b → a ≡ b) where
  -- a sorted list of different elements, each of which is determined by its numbers, rises strictly
  pub rising_from_sorted : (xs : List X) → IsSorted (λ a b. slice_cmp int_cmp (numbers a) (numbers b)) xs → AllPairs (λ a b. a ≢ b) xs
      → AllPairs (λ a b. IsBelow (numbers a) (numbers b)) xs
  rising_from_sorted xs up different i j d l m =
      let far = sorted_far (λ a b. is_lt (slice_cmp int_cmp (numbers a) (numbers b))) (ranks_by lists_order numbers) xs up i j d (omega arith) m in
      less_by (slice_cmp int_cmp (numbers (get_or xs i d)) (numbers (get_or xs j d))) (slice_cmp int_cmp (numbers (get_or xs j d)) (numbers (get_or xs i d)))
      (lists_order.antisymm (numbers (get_or xs i d)) (numbers (get_or xs j d)))
      (λ e. different i j d l m (once _ _ (slice_cmp-IsAntisymmetric int_cmp-IsAntisymmetric (numbers (get_or xs i d)) (numbers (get_or xs j d)) e))) far

  -- the same after a sort
  pub rising_after_sort : (xs ys : List X) → IsPermutation xs ys → IsSorted (λ a b. slice_cmp int_cmp (numbers a) (numbers b)) ys → AllPairs (λ a b. a ≢ b) xs
      → AllPairs (λ a b. IsBelow (numbers a) (numbers b)) ys
  rising_after_sort xs ys p up apart = rising_from_sorted ys up (permuted_pairs xs ys p apart)

-- what rises by its numbers has no repetition
pub apart_of_rising : {X : Type 0} (numbers : X → List ℤ) (xs : List X) → AllPairs (λ a b. IsBelow (numbers a) (numbers b)) xs → AreApart xs
apart_of_rising numbers xs r =
    apart_from_pairs xs (λ i j d l m e. not_below_itself (numbers (get_or xs j d))
    (subst (λ (x : _). IsBelow (numbers x) (numbers (get_or xs j d))) e (r i j d l m)))

-- the members with a property
pub kept : {X : Type 0} (P : X → Type 0) → ((x : X) → Dec (P x)) → (xs : List X) → (ys : List X) × ((x : X) → IsIn ys x ↔ (IsIn xs x × P x))
kept P d [] = ([], λ x. ((λ i. absurd i), (λ q. q.0)))
kept {X} P d (x ∷ xs) = by (d x) (kept P d xs)
  where
    by : Dec (P x) → (ys : List X) × ((y : X) → IsIn ys y ↔ (IsIn xs y × P y)) → (ys : List X) × ((y : X) → IsIn ys y ↔ (IsIn (x ∷ xs) y × P y))
    by (yes p) r = (
      x ∷ r.0,
      λ y. (
        elim [ inl e ↦ (inl e, subst P e p) | inr i ↦ (inr ((r.1 y).0 i).0, ((r.1 y).0 i).1) ],
        (λ q. elim q.0 [ inl e ↦ inl e | inr i ↦ inr ((r.1 y).1 (i, q.1)) ]),
      ),
    )
    by (no h) r = (
      r.0,
      λ y. (
        (λ i. (inr ((r.1 y).0 i).0, ((r.1 y).0 i).1)),
        (λ q. elim q.0 [ inl e ↦ absurd (h (subst P (sym e) q.1)) | inr i ↦ (r.1 y).1 (i, q.1) ]),
      ),
    )

module _ {X : Type 0} (key : X → List ℤ) where
  -- x stands before y
  abbrev pub Before : X → X → Type 0
  Before x y = IsBelow (key x) (key y)

  -- what is below the first of a rising list is below all
  below_all : (x y : X) (ys : List X) → Before x y → IsRising Before (y ∷ ys) → (z : X) → IsIn (y ∷ ys) z → Before x z
  below_all x y ys k l z p = search (arith, below_transitive)

  -- a rising list with the members of ys, and x
  record Inserted (x : X) (ys : List X) : Type 0 where
    list : List X
    rising : IsRising Before list
    members : (z : X) → IsIn list z ↔ IsIn (x ∷ ys) z

  -- x is put in its place
  insert : (x : X) (ys : List X) → IsRising Before ys → ((y : X) → IsIn ys y → key x ≡ key y → x ≡ y) → Inserted x ys
  insert x [] r u = record { list = x ∷ []; rising = ((λ z i. absurd i), tt); members = λ z. ((λ i. i), (λ i. i)) }
  insert x (y ∷ ys) r u = by (below_or_equal (key x) (key y)) (insert x ys r.1 (λ z i. u z (inr i)))
    where
      by : IsBelow (key x) (key y) ⊎ ((key x ≡ key y) ⊎ IsBelow (key y) (key x)) → Inserted x ys → Inserted x (y ∷ ys)
      by (inl h) t = record { list = x ∷ y ∷ ys; rising = (below_all x y ys h r, r); members = λ z. ((λ i. i), (λ i. i)) }
      by (inr (inl e)) t = record {
        list = y ∷ ys;
        rising = r;
        members = λ z. ((λ i. inr i), elim [ inl g ↦ inl (sym (u y (inl refl) e) ∙ g) | inr i ↦ i ]);
      }
      by (inr (inr h)) t = record {
        list = y ∷ t.list;
        rising = ((λ z i. elim ((t.members z).0 i) [ inl e ↦ subst (Before y) e h | inr j ↦ r.0 z j ]), t.rising);
        members = λ z. (
          elim [ inl e ↦ inr (inl e) | inr i ↦ elim ((t.members z).0 i) [ inl e ↦ inl e | inr j ↦ inr (inr j) ] ],
          elim [ inl e ↦ inr ((t.members z).1 (inl e)) | inr i ↦ elim i [ inl e ↦ inl e | inr j ↦ inr ((t.members z).1 (inr j)) ] ],
        );
      }

  -- a rising list with the same members
  pub sorted : (xs : List X) → ((x y : X) → IsIn xs x → IsIn xs y → key x ≡ key y → x ≡ y)
      → (ys : List X) × IsRising Before ys × ((x : X) → IsIn ys x ↔ IsIn xs x)
  sorted [] u = ([], tt, λ x. ((λ i. i), (λ i. i)))
  sorted (x ∷ xs) u = by (sorted xs (λ y z i j. u y z (inr i) (inr j)))
    where
      by : (ys : List X) × IsRising Before ys × ((y : X) → IsIn ys y ↔ IsIn xs y) → (ys : List X) × IsRising Before ys × ((y : X) → IsIn ys y ↔ IsIn (x ∷ xs) y)
      by r =
          let t = insert x r.0 r.1 (λ y i. u x y (inl refl) (inr ((r.2 y).0 i))) in (
            t.list,
            t.rising,
            λ z. (
              (λ i. elim ((t.members z).0 i) [ inl e ↦ inl e | inr j ↦ inr ((r.2 z).0 j) ]),
              elim [ inl e ↦ (t.members z).1 (inl e) | inr j ↦ (t.members z).1 (inr ((r.2 z).1 j)) ],
            ),
          )
