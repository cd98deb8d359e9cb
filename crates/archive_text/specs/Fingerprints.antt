-- Fingerprints of names and of keys. Any two functions would serve: what has the same fingerprint is compared.
use Rattle.std.specs.Prelude.{ℕ, ◌+◌, ◌*◌, ◌%◌, ◌^◌, ℤ, List, fold, unsigned_abs}

-- a fingerprint after one more number
abbrev pub mixed : ℕ → ℕ → ℕ
mixed print n = (print * 1099511628211 % 2 ^ 64 + n) % 2 ^ 64

-- the fingerprint of a name
unfoldable pub name_print : List ℕ → ℕ
name_print name = fold mixed 14695981039346656037 name

-- the fingerprint of a key
unfoldable pub key_print : List ℤ → ℕ
key_print key = fold (λ print n. mixed print (unsigned_abs n % 2 ^ 64)) 14695981039346656037 key
