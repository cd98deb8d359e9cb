-- A key line in the words of the subject: a dimension and rows, each of two vertices and a shift.
use Rattle.std.specs.Prelude.{◌≡◌, ◌≢◌, ◌↔◌, Some, ◌⊎◌, ℕ, ◌==◌, ◌≤◌, ℤ, pos, ◌-ℤ◌, List, [], ◌∷◌, length, map, flat_map, fold, All, if◌then◌else◌}
use Rattle.integers.specs.Vectors.{vector, parts}
use Rattle.periodic_net.specs.Limits.{most_edges}
use Rattle.cgd_lex.specs.Tokens.{TokenView}
use Rattle.cgd_lex.specs.Words.{whole_value}
use Rattle.cgd_lex.specs.declared.token.TokenKind.TheVariants.{Whole}
use Rattle.keyline_import.specs.Rows.{Row, IsRow, KeyView, no_rows, with_row}
use Rattle.keyline_import.specs.Keys.{key_of_fields}

-- the value of a sign or none and decimal digits; 45 is the sign minus, and 43 is plus
abbrev pub value_of : List ℕ → ℤ
value_of [] = pos 0
value_of (b ∷ bytes) =
    if b == 45 then pos 0 -ℤ pos (whole_value bytes) else
    if b == 43 then pos (whole_value bytes) else
    pos (whole_value (b ∷ bytes))

-- the value of a field
abbrev pub field_value : TokenView → ℤ
field_value token = value_of token.text

-- the field is a whole number; no token of a text is without a byte
pub record IsWhole (token : TokenView) : Type 0 where
  pub kind : token.kind ≡ Whole
  pub some : token.text ≢ []

-- the numbers of a row
abbrev pub numbers_of_row : ℕ → Row → List ℤ
numbers_of_row dim r = r.u ∷ r.v ∷ parts dim (vector r.x r.y r.z)

-- what rows make, from the first to the last
abbrev pub made_of : ℕ → List Row → KeyView
made_of dim rows = fold with_row (no_rows dim) rows

-- These numbers are the dimension, 2 or 3, and rows, one or more, with at most most_edges different edges, and k is what the rows make.
pub record IsKeyOfNumbers (numbers : List ℤ) (k : KeyView) : Type 0 where
  pub dimension : (k.dim ≡ 2) ⊎ (k.dim ≡ 3)
  pub rows : List Row
  pub numbers_are : numbers ≡ pos k.dim ∷ flat_map (numbers_of_row k.dim) rows
  pub each : All IsRow rows
  pub flat : k.dim ≡ 2 → All (λ (r : Row). r.z ≡ pos 0) rows
  pub some : 1 ≤ length rows
  pub few : length k.edges ≤ most_edges
  pub made : k ≡ made_of k.dim rows

-- the fields are whole numbers, and these are a key
pub record IsKeyLine (fields : List TokenView) (k : KeyView) : Type 0 where
  pub whole : All IsWhole fields
  pub key : IsKeyOfNumbers (map field_value fields) k

-- exactly the key lines are taken for one
abbrev pub KeyLinesAreTaken : Type 0
KeyLinesAreTaken = (fields : List TokenView) (k : KeyView) → (key_of_fields fields ≡ Some k) ↔ IsKeyLine fields k
