-- What stands at a place, and what follows it.
use Rattle.std.proofs.Common.{◌≡◌, ℕ, ◌+◌, List, ◌++◌, length, take, drop, sym}
use Rattle.std.proofs.lemmas.List.{drop-drop, take-append-drop, take_at}

-- the first n bytes at a place, copied to the front of a buffer, and what follows them
pub copied : (at n : ℕ) (bytes new rest : List ℕ) → length new ≡ n → new ≡ take n (drop at bytes) → drop at bytes ≡ take n (new ++ rest) ++ drop (at + n) bytes
copied at n bytes new rest len is = rw (take_at new rest n len, is, ← drop-drop n at bytes) (sym (take-append-drop n (drop at bytes)))
