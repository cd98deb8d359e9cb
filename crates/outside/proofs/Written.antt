-- How known bytes grow by one piece after another.
use Rattle.std.proofs.Common.{◌≡◌, ℕ, ◌+◌, ◌-◌, List, ◌++◌, length, take, drop, Option, None, Some, arith}
use Rattle.std.proofs.{Math.Seq.take-add, lemmas.Grind.common_steps}
use Rattle.std.specs.Io.KnownBytes.{Appends}

-- known bytes that grow by xs and then by ys grow by both
pub appends_two : (a b c : Option (List ℕ)) (xs ys : List ℕ) → Appends a b xs → Appends b c ys → Appends a c (xs ++ ys)
appends_two None b c xs ys p q = tt
appends_two (Some old) None c xs ys p q = absurd p
appends_two (Some old) (Some mid) None xs ys p q = absurd q
appends_two (Some old) (Some mid) (Some new) xs ys p q = grind (arith, common_steps, p, q)

-- the first m + n bytes: the first m, and the first n of the slice from m on
pub take_and_slice : (m n : ℕ) (xs : List ℕ) → take (m + n) xs ≡ take m xs ++ take n (take (length xs - m) (drop m xs))
take_and_slice m n xs =
    let whole : take (length xs - m) (drop m xs) ≡ drop m xs = grind (arith, common_steps) in
    rw whole (take-add m n xs)
