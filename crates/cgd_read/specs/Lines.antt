-- The lines of a text that have a token, and what they say. The tokens of a line are a function of that line alone.
use Rattle.std.specs.Prelude.{ℕ, ℤ, pos, Bool, true, false, ◌||◌, is_none, List, [], ◌∷◌, length, drop, Option, None, Some, if◌then◌else◌, codes}
use Rattle.std.specs.List.{flat_map, list_any}
use Rattle.cgd_lex.specs.Lines.{filled_lines}
use Rattle.cgd_lex.specs.Tokens.{TokenView}
use Rattle.cgd_lex.specs.Words.{is_quoted, name_in, is_keyword}
use Rattle.cgd_lex.specs.declared.token.TokenKind.{TokenKind}
use Rattle.cgd_lex.specs.declared.token.TokenKind.TheVariants.{Word, Whole, Quoted, Newline, Bad}
use Rattle.cgd_read.specs.Values.{part_of}
use Rattle.cgd_read.specs.declared.line.LineKind.{LineKind}
use Rattle.cgd_read.specs.declared.line.LineKind.TheVariants.{Opening, Name, Edges, End, Unknown, Bare, Broken}

-- a token that stands in no row
abbrev pub is_strange : TokenKind → Bool
is_strange Word = true
is_strange Bad = true
is_strange _ = false

-- the name on a name line, if there is one field and it is not bad
abbrev pub name_of_fields : List TokenView → Option (List ℕ)
name_of_fields (token ∷ []) = name_in token
name_of_fields _ = None

-- the bytes of the first token
abbrev pub text_of_first : List TokenView → List ℕ
text_of_first [] = []
text_of_first (token ∷ tokens) = token.text

-- a part of a shift, or 0 if it is out of the limits
abbrev pub part_or_zero : Option ℤ → ℤ
part_or_zero None = pos 0
part_or_zero (Some x) = x

-- the part of a shift that the first token gives, or 0
abbrev pub part_of_first : List TokenView → ℤ
part_of_first [] = pos 0
part_of_first (token ∷ tokens) = part_or_zero (part_of token.text)

-- what the fields say: as the name on a name line, and as a row, two vertices and the parts of a shift
pub record FieldsView : Type 0 where
  pub size : ℕ
  pub name : Option (List ℕ)
  pub has_strange : Bool
  pub has_late_quote : Bool
  pub has_far_part : Bool
  pub u : List ℕ
  pub v : List ℕ
  pub x : ℤ
  pub y : ℤ
  pub z : ℤ

-- what these fields say
abbrev pub fields_of : List TokenView → FieldsView
fields_of tokens = record {
  size = length tokens;
  name = name_of_fields tokens;
  has_strange = list_any (λ (t : TokenView). is_strange t.kind) tokens;
  has_late_quote = list_any (λ (t : TokenView). is_quoted t.kind) (drop 2 tokens);
  has_far_part = list_any (λ (t : TokenView). is_none (part_of t.text)) (drop 2 tokens);
  u = text_of_first tokens;
  v = text_of_first (drop 1 tokens);
  x = part_of_first (drop 2 tokens);
  y = part_of_first (drop 3 tokens);
  z = part_of_first (drop 4 tokens);
}

-- a word before a name
abbrev pub is_name_word : List ℕ → Bool
is_name_word word = is_keyword (codes "name") word || is_keyword (codes "id") word

-- a word before edges
abbrev pub is_edges_word : List ℕ → Bool
is_edges_word word = is_keyword (codes "edges") word || (is_keyword (codes "edge") word || (is_keyword (codes "bonds") word || is_keyword (codes "bond") word))

-- the kind of a line that begins with this word
abbrev pub kind_of_word : List ℕ → LineKind
kind_of_word word =
    if is_keyword (codes "periodic_graph") word then Opening else
    if is_name_word word then Name else
    if is_edges_word word then Edges else
    if is_keyword (codes "end") word then End else
    Unknown

-- the kind of a line with this first token
abbrev pub kind_of : TokenKind → List ℕ → LineKind
kind_of Word text = kind_of_word text
kind_of Whole text = Bare
kind_of Quoted text = Bare
kind_of Newline text = Broken
kind_of Bad text = Broken

-- a line of this kind begins with a field
abbrev pub is_bare : LineKind → Bool
is_bare Bare = true
is_bare _ = false

-- a line as its block sees it
pub record LineView : Type 0 where
  pub number : ℕ
  pub kind : LineKind
  pub first : List ℕ
  pub fields : FieldsView

-- the fields of a line: without its first token, if that is a keyword
abbrev pub fields_from : LineKind → TokenView → List TokenView → List TokenView
fields_from kind first others = if is_bare kind then first ∷ others else others

-- the line with this first token and these others
abbrev pub line_with : TokenView → List TokenView → LineView
line_with first others = record {
  number = first.line;
  kind = kind_of first.kind first.text;
  first = first.text;
  fields = fields_of (fields_from (kind_of first.kind first.text) first others);
}

-- the line that these tokens make, if there is any
abbrev pub line_of : List TokenView → List LineView
line_of [] = []
line_of (first ∷ others) = line_with first others ∷ []

-- the lines of these tokens that have one
abbrev pub token_lines : List TokenView → List LineView
token_lines tokens = flat_map line_of (filled_lines tokens)
