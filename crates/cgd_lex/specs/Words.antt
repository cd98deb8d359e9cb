-- What a token says: as a name, as a keyword, as a number.
use Rattle.std.specs.Prelude.{ℕ, ℤ, pos, ◌-ℤ◌, ◌≤ℤ◌, ◌+◌, ◌*◌, ◌-◌, ◌==◌, nat_lt, Bool, true, false, List, [], ◌∷◌, length, take, drop, map, fold, min, Option}
use Rattle.std.specs.Prelude.{None, Some, if◌then◌else◌}
use Rattle.std.specs.Option.{option_map}
use Rattle.std.specs.Str.{bytes_eq}
use Rattle.std.specs.Char.{to_ascii_lowercase}
use Rattle.cgd_lex.specs.Tokens.{TokenView}
use Rattle.cgd_lex.specs.declared.token.TokenKind.{TokenKind}
use Rattle.cgd_lex.specs.declared.token.TokenKind.TheVariants.{Quoted, Bad}

-- a token of this kind is bad
abbrev pub is_bad : TokenKind → Bool
is_bad Bad = true
is_bad _ = false

-- a token of this kind is quoted
abbrev pub is_quoted : TokenKind → Bool
is_quoted Quoted = true
is_quoted _ = false

-- a text without its first and last byte
abbrev pub inner : List ℕ → List ℕ
inner text = take (length text - 2) (drop 1 text)

-- quotes are no part of a name
abbrev pub unquoted : TokenView → List ℕ
unquoted token = if is_quoted token.kind then inner token.text else token.text

-- the name that a token gives, if it is not bad
abbrev pub name_in : TokenView → Option (List ℕ)
name_in token = if is_bad token.kind then None else Some (unquoted token)

-- the word is this keyword, in any case of its letters
abbrev pub is_keyword : List ℕ → List ℕ → Bool
is_keyword keyword word = bytes_eq (map to_ascii_lowercase word) keyword

-- the value with one more digit
abbrev pub next_value : ℕ → ℕ → ℕ
next_value n digit = n * 10 + (digit - 48)

-- the value of decimal digits, of which there may be any number; 48 is the digit 0
abbrev pub whole_value : List ℕ → ℕ
whole_value digits = fold next_value 0 digits

-- the value of digits, if it is at most this
abbrev pub magnitude_up_to : ℕ → List ℕ → Option ℕ
magnitude_up_to most digits = if nat_lt most (whole_value digits) then None else Some (whole_value digits)

-- the value of a sign or none and then digits, if it is at most this as an absolute value; 45 is the sign minus, and 43 is plus
abbrev pub number_up_to : ℕ → List ℕ → Option ℤ
number_up_to most [] = None
number_up_to most (b ∷ bytes) =
    if b == 45 then option_map (λ n. pos 0 -ℤ pos n) (magnitude_up_to most bytes) else
    if b == 43 then option_map pos (magnitude_up_to most bytes) else
    option_map pos (magnitude_up_to most (b ∷ bytes))

-- from -most to most
abbrev pub IsUpTo : ℕ → ℤ → Type 0
IsUpTo most x = ((pos 0 -ℤ pos most) ≤ℤ x) × (x ≤ℤ pos most)

-- the next value, but never above the cap
abbrev pub next_capped : ℕ → ℕ → ℕ → ℕ
next_capped cap n digit = min cap (min cap n * 10 + (digit - 48))
