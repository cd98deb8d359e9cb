-- Kinds of the classes of the nets that are reported, one after the other.
use Rattle.std.proofs.Common.{◌≡◌, ℕ, zero, suc, ◌<◌, List, [], ◌∷◌, ◌++◌, length, get_or, refl, subst, arith}
use Rattle.net_report.specs.{KindsTold.AreKindsOfAll, KindsTold.AreKindsTold, declared.outcome.Outcome.Outcome}

-- one more outcome, and its kinds
pub kinds_last : (os : List Outcome) (kinds : List (List ℕ)) (o : Outcome) (ks : List ℕ) → AreKindsOfAll os kinds → AreKindsTold o.body ks
    → AreKindsOfAll (os ++ o ∷ []) (kinds ++ ks ∷ [])
kinds_last [] [] o ks h k = (k, tt)
kinds_last [] (x ∷ kinds) o ks h k = absurd h
kinds_last (p ∷ os) [] o ks h k = absurd h
kinds_last (p ∷ os) (x ∷ kinds) o ks h k = (h.0, kinds_last os kinds o ks h.1 k)

-- there are as many lists of kinds as outcomes
pub as_many_kinds : (os : List Outcome) (kinds : List (List ℕ)) → AreKindsOfAll os kinds → length kinds ≡ length os
as_many_kinds [] [] h = refl
as_many_kinds [] (x ∷ kinds) h = absurd h
as_many_kinds (p ∷ os) [] h = absurd h
as_many_kinds (p ∷ os) (x ∷ kinds) h = let n = as_many_kinds os kinds h.1 in omega (arith, n)

-- so it is at each place
pub kinds_at : (os : List Outcome) (kinds : List (List ℕ)) (i : ℕ) (o : Outcome) (ks : List ℕ) → AreKindsOfAll os kinds → i < length os → get_or os i o ≡ o
    → get_or kinds i ks ≡ ks → AreKindsTold o.body ks
kinds_at [] kinds i o ks h l e f = absurd (omega (arith, l))
kinds_at (p ∷ os) [] i o ks h l e f = absurd h
kinds_at (p ∷ os) (x ∷ kinds) zero o ks h l e f = subst (AreKindsTold o.body) f (subst (λ (q : Outcome). AreKindsTold q.body x) e h.0)
kinds_at (p ∷ os) (x ∷ kinds) (suc i) o ks h l e f = kinds_at os kinds i o ks h.1 (omega (arith, l)) e f
