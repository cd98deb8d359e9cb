-- The bytes of a name, if a shelf shows them.
use Rattle.std.specs.Prelude.{ℕ, ◌+◌, ◌≤◌, ◌<◌, ◌≡◌, List, ◌++◌, length, drop, IfSome, Option}

-- a shelf's bytes, by name
abbrev pub Holds : Type 0
Holds = Option (List ℕ → List ℕ)

-- these bytes stand at this place of the name
abbrev pub Stand : Holds → List ℕ → ℕ → List ℕ → Type 0
Stand holds name at bytes = IfSome holds (λ of. drop at (of name) ≡ bytes ++ drop (at + length bytes) (of name))

-- the name has no byte at this place
abbrev pub HasNoByteAt : Holds → List ℕ → ℕ → Type 0
HasNoByteAt holds name at = IfSome holds (λ of. length (of name) ≤ at)

-- the name has exactly these bytes
abbrev pub Are : Holds → List ℕ → List ℕ → Type 0
Are holds name bytes = IfSome holds (λ of. of name ≡ bytes)

-- the name begins with these bytes
abbrev pub Begins : Holds → List ℕ → List ℕ → Type 0
Begins holds name bytes = IfSome holds (λ of. of name ≡ bytes ++ drop (length bytes) (of name))

-- the name has more bytes than this
abbrev pub HasMore : Holds → List ℕ → ℕ → Type 0
HasMore holds name limit = IfSome holds (λ of. limit < length (of name))
