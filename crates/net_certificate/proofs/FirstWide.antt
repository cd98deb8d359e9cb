-- The first number past the limit, in lists that are put together.
use Rattle.std.proofs.Common.{◌≡◌, ℕ, zero, suc, ◌+◌, ◌<◌, ◌≤◌, ℤ, length, get_or, drop, List, [], ◌∷◌, ◌++◌, refl, sym, ap, subst, ◌∙◌, arith}
use Rattle.std.specs.Prelude.{unsigned_abs, false, is_some, true, Option, None, Some}
use Rattle.std.{proofs.lemmas.Bool.true≢false, proofs.lemmas.List.append_assoc, proofs.lemmas.List.Elements.All-append, specs.List.flat_map}
use Rattle.integers.proofs.lists.GrownLists.{drop_all}
use Rattle.standard_map.specs.MapNumbers.{most_part}
use Rattle.net_certificate.specs.Tables.{IsFirstWide}

-- the first number of a list is that of a longer one
pub wide_first : (xs ys : List ℤ) (v : ℤ) → IsFirstWide xs (Some v) → IsFirstWide (xs ++ ys) (Some v)
wide_first xs ys v p = record {
  before = p.before;
  after = p.after ++ ys;
  split = ap (λ ts. ts ++ ys) p.split ∙ append_assoc p.before (v ∷ p.after) ys;
  within = p.within;
  past = p.past;
}

-- where a list has none, what follows it decides
pub wide_next : (xs ys : List ℤ) (o : Option ℤ) → IsFirstWide xs None → IsFirstWide ys o → IsFirstWide (xs ++ ys) o
wide_next xs ys None h k = All-append (λ x. unsigned_abs x ≤ most_part) xs ys h k
wide_next xs ys (Some v) h p = record {
  before = xs ++ p.before;
  after = p.after;
  split = ap (λ ts. xs ++ ts) p.split ∙ sym (append_assoc xs p.before (v ∷ p.after));
  within = All-append (λ x. unsigned_abs x ≤ most_part) xs p.before h p.within;
  past = p.past;
}

-- the same by whether there is a first number
pub wide_some : (xs ys : List ℤ) (o : Option ℤ) → is_some o ≡ true → IsFirstWide xs o → IsFirstWide (xs ++ ys) o
wide_some xs ys None t h = absurd (true≢false (sym t))
wide_some xs ys (Some v) t h = wide_first xs ys v h

pub wide_more : (xs ys : List ℤ) (o p : Option ℤ) → is_some o ≡ false → IsFirstWide xs o → IsFirstWide ys p → IsFirstWide (xs ++ ys) p
wide_more xs ys o p l q r = search (arith, wide_next)

-- no number, and one number
pub wide_none : IsFirstWide [] None
wide_none k d l = absurd (omega (arith, l))

pub wide_itself : (z : ℤ) → most_part < unsigned_abs z → IsFirstWide (z ∷ []) (Some z)
wide_itself z h = record { before = []; after = []; split = refl; within = λ k d l. absurd (omega (arith, l)); past = h }

-- what is left of a list, from place k on
pub left_at : {X : Type 0} (xs : List X) (k : ℕ) (x : X) → k < length xs → x ≡ get_or xs k x → drop k xs ≡ x ∷ drop (k + 1) xs
left_at [] k x l e = absurd (omega (arith, l))
left_at (y ∷ xs) zero x l e = ap (λ t. t ∷ xs) (sym e)
left_at (y ∷ xs) (suc k) x l e = left_at xs k x (omega (arith, l)) e ∙ ap (λ n. x ∷ drop n (y ∷ xs)) (next k)
  where
    next : (k : ℕ) → suc (k + 1) ≡ suc k + 1
    next k = omega arith

module _ {X : Type 0} (f : X → List ℤ) (xs : List X) (k : ℕ) where
  -- what is left decides for the whole list
  abbrev pub IsPassed : Type 0
  IsPassed = (o : Option ℤ) → IsFirstWide (flat_map f (drop k xs)) o → IsFirstWide (flat_map f xs) o

  module _ (x : X) (l : k < length xs) (e : x ≡ get_or xs k x) where
    -- a first number of the element at k is that of the list
    pub found_at : (v : Option ℤ) → is_some v ≡ true → IsPassed → IsFirstWide (f x) v → IsFirstWide (flat_map f xs) v
    found_at v t h p = h v (subst (λ ts. IsFirstWide (flat_map f ts) v) (sym (left_at xs k x l e)) (wide_some (f x) (flat_map f (drop (k + 1) xs)) v t p))

    -- if it has none, one element more is passed
    pub passed_more : (v : Option ℤ) → is_some v ≡ false → IsPassed → IsFirstWide (f x) v → (o : Option ℤ) → IsFirstWide (flat_map f (drop (k + 1) xs)) o
        → IsFirstWide (flat_map f xs) o
    passed_more v t h n o q = h o (subst (λ ts. IsFirstWide (flat_map f ts) o) (sym (left_at xs k x l e))
        (wide_more (f x) (flat_map f (drop (k + 1) xs)) v o t n q))

  -- if all are passed, there is none
  pub passed_all : IsPassed → length xs ≤ k → IsFirstWide (flat_map f xs) None
  passed_all h l = h None (subst (λ ts. IsFirstWide (flat_map f ts) None) (sym (drop_all xs k l)) wide_none)
