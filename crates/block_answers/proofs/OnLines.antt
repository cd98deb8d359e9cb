-- The names and the tokens of the blocks of a text stand on lines: none has a line feed.
use Rattle.std.proofs.Common.{◌≡◌, ℕ, zero, suc, ◌+◌, ◌-◌, ◌==◌, Bool, true, false, List, [], ◌∷◌, ◌++◌, length, take, drop, Option, None, Some}
use Rattle.std.proofs.Common.{◌⊎◌, inl, inr, refl, sym, subst, ◌∙◌, arith}
use Rattle.std.specs.Prelude.{if◌then◌else◌}
use Rattle.std.specs.List.{flat_map, slice_split, onto_first}
use Rattle.std.proofs.lemmas.Bool.{cases_Bool, true≢false}
use Rattle.std.specs.Str.{bytes_eq}
use Rattle.line_text.specs.Lines.{HasNo}
use Rattle.cgd_lex.specs.Pieces.{Piece, IsCut, bytes_of, cut_of}
use Rattle.cgd_lex.specs.Lines.{filled_line, filled_lines, is_newline}
use Rattle.cgd_lex.specs.Tokens.{TokenView, token_at, tokens_of, tokens_of_line, tokens_of_pieces, kind_of_piece}
use Rattle.cgd_lex.specs.Tokens.{first_line, first_of, later_lines, lines_of, others_of}
use Rattle.cgd_lex.specs.Words.{inner, is_bad, is_quoted, name_in, unquoted}
use Rattle.cgd_lex.specs.declared.token.TokenKind.{TokenKind}
use Rattle.cgd_lex.proofs.Cuts.{is_cut}
use Rattle.cgd_read.specs.Blocks.{block_by, block_of, blocks_from, blocks_of, graph_block, graph_units, malformed, with_body}
use Rattle.cgd_read.specs.Edges.{vertices_of, with_new}
use Rattle.cgd_read.specs.Faults.{has_row, is_end, name_after, name_of, rows_in}
use Rattle.cgd_read.specs.Lines.{FieldsView, LineView, fields_from, is_bare, kind_of, line_of, name_of_fields, text_of_first, token_lines}
use Rattle.cgd_read.specs.Units.{first_true, or_fault, unit_after}
use Rattle.cgd_read.specs.Views.{BlockView, BodyView, Net, Other, Faulty}
use Rattle.cgd_read.specs.declared.line.LineKind.{LineKind}
use Rattle.cgd_read.specs.declared.line.LineKind.TheVariants.{Opening, Name, Edges, End, Unknown, Bare, Broken}
use Rattle.cgd_read.specs.declared.block.BlockFaultKind.TheVariants.{BadToken}
use Rattle.net_report.specs.Telling.{AreEach, IsOnLine}

-- Of two values, the one that a test chooses.
chosen : {X : Type 0} (P : X → Type 0) (c : Bool) (x y : X) → P x → P y → P (if c then x else y)
chosen P true x y h k = h
chosen P false x y h k = k

-- what holds of each of two lists holds of each of both
each_sum : {X : Type 0} (P : X → Type 0) (xs ys : List X) → AreEach P xs → AreEach P ys → AreEach P (xs ++ ys)
each_sum P [] ys h k = k
each_sum P (x ∷ xs) ys h k = (h.0, each_sum P xs ys h.1 k)

-- and of each of the lists that each gives
each_flat : {X Y : Type 0} (P : X → Type 0) (Q : Y → Type 0) (f : X → List Y) → ((x : X) → P x → AreEach Q (f x)) → (xs : List X) → AreEach P xs
    → AreEach Q (flat_map f xs)
each_flat P Q f h [] k = tt
each_flat P Q f h (x ∷ xs) k = each_sum Q (f x) (flat_map f xs) (h x k.0) (each_flat P Q f h xs k.1)

each_drop : {X : Type 0} (P : X → Type 0) (n : ℕ) (xs : List X) → AreEach P xs → AreEach P (drop n xs)
each_drop P zero xs h = h
each_drop P (suc n) [] h = tt
each_drop P (suc n) (x ∷ xs) h = each_drop P n xs h.1

-- Bytes without a line feed.

front_has_no : (a b : List ℕ) → HasNo 10 (a ++ b) → HasNo 10 a
front_has_no [] b h = tt
front_has_no (x ∷ a) b h = (h.0, front_has_no a b h.1)

rest_has_no : (a b : List ℕ) → HasNo 10 (a ++ b) → HasNo 10 b
rest_has_no [] b h = h
rest_has_no (x ∷ a) b h = rest_has_no a b h.1

take_has_no : (n : ℕ) (bs : List ℕ) → HasNo 10 bs → HasNo 10 (take n bs)
take_has_no zero bs h = tt
take_has_no (suc n) [] h = tt
take_has_no (suc n) (b ∷ bs) h = (h.0, take_has_no n bs h.1)

drop_has_no : (n : ℕ) (bs : List ℕ) → HasNo 10 bs → HasNo 10 (drop n bs)
drop_has_no zero bs h = h
drop_has_no (suc n) [] h = tt
drop_has_no (suc n) (b ∷ bs) h = drop_has_no n bs h.1

-- The lines of a text, and their tokens.

byte_before : (b : ℕ) (lines : List (List ℕ)) → b == 10 ≡ false → AreEach (HasNo 10) lines → AreEach (HasNo 10) (onto_first b lines)
byte_before b [] e h = ((e, tt), tt)
byte_before b (line ∷ lines) e h = ((e, h.0), h.1)

lines_have_none : (text : List ℕ) → AreEach (HasNo 10) (lines_of text)
lines_have_none [] = (tt, tt)
lines_have_none (b ∷ text) = elim (cases_Bool (b == 10)) [
  | inl yes_ ↦ rw yes_ (tt, lines_have_none text)
  | inr no_ ↦ rw no_ (byte_before b (lines_of text) no_ (lines_have_none text))
]

-- a token that is no line feed has none
abbrev IsOnLineOrEnd : TokenView → Type 0
IsOnLineOrEnd token = (is_newline token.kind ≡ true) ⊎ HasNo 10 token.text

token_has_none : (at line : ℕ) (bytes : List ℕ) (kind : Option TokenKind) → HasNo 10 bytes → AreEach IsOnLineOrEnd (token_at at line bytes kind)
token_has_none at line bytes None h = tt
token_has_none at line bytes (Some kind) h = (inr h, tt)

pieces_have_none : (at line : ℕ) (ps : List Piece) (bytes : List ℕ) → IsCut ps bytes → HasNo 10 bytes → AreEach IsOnLineOrEnd (tokens_of_pieces at line ps)
pieces_have_none at line [] bytes c h = tt
pieces_have_none at line (p ∷ ps) bytes c h =
    let whole = subst (HasNo 10) c.1 h in
    each_sum IsOnLineOrEnd (token_at at line (bytes_of p) (kind_of_piece p)) (tokens_of_pieces (at + length (bytes_of p)) line ps)
    (token_has_none at line (bytes_of p) (kind_of_piece p) (front_has_no (bytes_of p) c.0 whole))
    (pieces_have_none (at + length (bytes_of p)) line ps c.0 c.3 (rest_has_no (bytes_of p) c.0 whole))

line_has_none : (at line : ℕ) (bytes : List ℕ) → HasNo 10 bytes → AreEach IsOnLineOrEnd (tokens_of_line at line bytes)
line_has_none at line bytes h = pieces_have_none at line (cut_of bytes) bytes (is_cut (length bytes) bytes (omega arith)) h

later_have_none : (at line : ℕ) (lines : List (List ℕ)) → AreEach (HasNo 10) lines → AreEach IsOnLineOrEnd (later_lines at line lines)
later_have_none at line [] h = tt
later_have_none at line (next ∷ others) h = (
  inl refl,
  each_sum IsOnLineOrEnd (tokens_of_line (at + 1) (line + 1) next) (later_lines (at + 1 + length next) (line + 1) others)
      (line_has_none (at + 1) (line + 1) next h.0) (later_have_none (at + 1 + length next) (line + 1) others h.1),
)

first_has_none : (lines : List (List ℕ)) → AreEach (HasNo 10) lines → HasNo 10 (first_of lines)
first_has_none [] h = tt
first_has_none (line ∷ lines) h = h.0

others_have_none : (lines : List (List ℕ)) → AreEach (HasNo 10) lines → AreEach (HasNo 10) (others_of lines)
others_have_none [] h = tt
others_have_none (line ∷ lines) h = h.1

tokens_have_none : (text : List ℕ) → AreEach IsOnLineOrEnd (tokens_of text)
tokens_have_none text =
    let lines = lines_have_none text in
    each_sum IsOnLineOrEnd (tokens_of_line 0 1 (first_line text)) (later_lines (0 + length (first_line text)) 1 (others_of (lines_of text)))
    (line_has_none 0 1 (first_line text) (first_has_none (lines_of text) lines))
    (later_have_none (0 + length (first_line text)) 1 (others_of (lines_of text)) (others_have_none (lines_of text) lines))

-- The tokens between the line feeds.

abbrev HasNone : TokenView → Type 0
HasNone token = HasNo 10 token.text

token_before : (t : TokenView) (lines : List (List TokenView)) → HasNone t → AreEach (AreEach HasNone) lines → AreEach (AreEach HasNone) (onto_first t lines)
token_before t [] e h = ((e, tt), tt)
token_before t (line ∷ lines) e h = ((e, h.0), h.1)

no_end : (t : TokenView) → is_newline t.kind ≡ false → IsOnLineOrEnd t → HasNone t
no_end t e (inl k) = absurd (true≢false (sym k ∙ e))
no_end t e (inr k) = k

cut_have_none : (ts : List TokenView) → AreEach IsOnLineOrEnd ts → AreEach (AreEach HasNone) (slice_split (λ (t : TokenView). is_newline t.kind) ts)
cut_have_none [] h = (tt, tt)
cut_have_none (t ∷ ts) h = elim (cases_Bool (is_newline t.kind)) [
  | inl yes_ ↦ rw yes_ (tt, cut_have_none ts h.1)
  | inr no_ ↦ rw no_ (token_before t (slice_split (λ (t : TokenView). is_newline t.kind) ts) (no_end t no_ h.0) (cut_have_none ts h.1))
]

filled_has_none : (ts : List TokenView) → AreEach HasNone ts → AreEach (AreEach HasNone) (filled_line ts)
filled_has_none [] h = tt
filled_has_none (t ∷ ts) h = (h, tt)

-- What lines say.

record IsRowOnLine (fields : FieldsView) : Type 0 where
  pub u : HasNo 10 fields.u
  pub v : HasNo 10 fields.v

record HasLineTexts (line : LineView) : Type 0 where
  pub first : HasNo 10 line.first
  pub name : IsOnLine line.fields.name
  pub row : IsRowOnLine line.fields

unquoted_has_none : (t : TokenView) → HasNone t → HasNo 10 (unquoted t)
unquoted_has_none t h =
    chosen (HasNo 10) (is_quoted t.kind) (inner t.text) t.text
    (take_has_no (length t.text - 2) (drop 1 t.text) (drop_has_no 1 t.text h)) h

name_has_none : (t : TokenView) → HasNone t → IsOnLine (name_in t)
name_has_none t h = chosen IsOnLine (is_bad t.kind) None (Some (unquoted t)) tt (unquoted_has_none t h)

fields_have_name : (ts : List TokenView) → AreEach HasNone ts → IsOnLine (name_of_fields ts)
fields_have_name [] h = tt
fields_have_name (t ∷ []) h = name_has_none t h.0
fields_have_name (t ∷ s ∷ ts) h = tt

text_has_none : (ts : List TokenView) → AreEach HasNone ts → HasNo 10 (text_of_first ts)
text_has_none [] h = tt
text_has_none (t ∷ ts) h = h.0

line_says : (ts : List TokenView) → AreEach HasNone ts → AreEach HasLineTexts (line_of ts)
line_says [] h = tt
line_says (first ∷ others) h =
    let kind = kind_of first.kind first.text in let fields = fields_from kind first others in
    let g = chosen (AreEach HasNone) (is_bare kind) (first ∷ others) others h h.1 in (
      record {
        first = h.0;
        name = fields_have_name fields g;
        row = record { u = text_has_none fields g; v = text_has_none (drop 1 fields) (each_drop HasNone 1 fields g) };
      },
      tt,
    )

lines_say : (text : List ℕ) → AreEach HasLineTexts (token_lines (tokens_of text))
lines_say text =
    each_flat (AreEach HasNone) HasLineTexts line_of line_says (filled_lines (tokens_of text))
    (each_flat (AreEach HasNone) (AreEach HasNone) filled_line filled_has_none (slice_split (λ (t : TokenView). is_newline t.kind) (tokens_of text))
    (cut_have_none (tokens_of text) (tokens_have_none text)))

-- Blocks.

abbrev pub IsBodyRead : BodyView → Type 0
IsBodyRead (Net raw) = AreEach (HasNo 10) raw.names
IsBodyRead (Other token) = HasNo 10 token
IsBodyRead (Faulty fault) = Unit {0}

-- the name of a block, the names of its vertices, and its token have no line feed
pub record IsReadOnLines (block : BlockView) : Type 0 where
  pub name : IsOnLine block.name
  pub body : IsBodyRead block.body

name_after_lines : (kind : LineKind) (name before : Option (List ℕ)) → IsOnLine name → IsOnLine before → IsOnLine (name_after kind name before)
name_after_lines kind name before h k = search arith

block_name : (earlier : List LineView) → AreEach HasLineTexts earlier → IsOnLine (name_of earlier)
block_name [] h = tt
block_name (line ∷ earlier) h = name_after_lines line.kind line.fields.name (name_of earlier) h.0.name (block_name earlier h.1)

rows_say : (earlier : List LineView) → AreEach HasLineTexts earlier → AreEach IsRowOnLine (rows_in earlier)
rows_say [] h = tt
rows_say (line ∷ earlier) h =
    let rest = rows_say earlier h.1 in
    chosen (AreEach IsRowOnLine) (has_row line) (line.fields ∷ rows_in earlier) (rows_in earlier) (h.0.row, rest) rest

new_name : (same : List ℕ → List ℕ → Bool) (xs : List (List ℕ)) (x : List ℕ) → AreEach (HasNo 10) xs → HasNo 10 x → AreEach (HasNo 10) (with_new same xs x)
new_name same xs x h k = chosen (AreEach (HasNo 10)) _ xs (xs ++ x ∷ []) h (each_sum (HasNo 10) xs (x ∷ []) h (k, tt))

vertices_say : (rows : List FieldsView) → AreEach IsRowOnLine rows → AreEach (HasNo 10) (vertices_of rows)
vertices_say [] h = tt
vertices_say (row ∷ rows) h =
    new_name bytes_eq (with_new bytes_eq (vertices_of rows) row.u) row.v
    (new_name bytes_eq (vertices_of rows) row.u (vertices_say rows h.1) h.0.u) h.0.v

or_fault_is : {Kind X : Type 0} (P : X → Type 0) (o : Option Kind) (f : Kind → X) (later : X) → ((k : Kind) → P (f k)) → P later → P (or_fault o f later)
or_fault_is P None f later h k = k
or_fault_is P (Some kind) f later h k = h kind

graph_reads : (opening : ℕ) (earlier lines : List LineView) → AreEach HasLineTexts earlier → AreEach HasLineTexts lines
    → IsReadOnLines (unit_after graph_units opening earlier lines)
graph_reads opening earlier [] h k = record { name = block_name earlier h; body = tt }
graph_reads opening earlier (line ∷ lines) h k =
    or_fault_is IsReadOnLines (first_true (graph_units.table earlier line)) (graph_units.faulty opening earlier line)
    (if graph_units.ends line then graph_units.ended opening earlier line else unit_after graph_units opening (line ∷ earlier) lines)
    (λ kind. record { name = block_name earlier h; body = tt })
    (chosen IsReadOnLines (is_end line.kind) (graph_units.ended opening earlier line) (unit_after graph_units opening (line ∷ earlier) lines)
    (record { name = block_name earlier h; body = vertices_say (rows_in earlier) (rows_say earlier h) })
    (graph_reads opening (line ∷ earlier) lines (k.0, h) k.1))

block_reads : (kind : LineKind) (line : LineView) (lines : List LineView) → HasLineTexts line → AreEach HasLineTexts lines
    → IsReadOnLines (block_by kind line lines)
block_reads Opening line lines h k =
    chosen IsReadOnLines (line.fields.size == 0) (graph_block line.number [] lines) (with_body line.number [] (malformed line.number BadToken))
    (graph_reads line.number [] lines tt k) (record { name = tt; body = tt })
block_reads Name line lines h k = record { name = tt; body = h.first }
block_reads Edges line lines h k = record { name = tt; body = h.first }
block_reads End line lines h k = record { name = tt; body = h.first }
block_reads Unknown line lines h k = record { name = tt; body = h.first }
block_reads Bare line lines h k = record { name = tt; body = h.first }
block_reads Broken line lines h k = record { name = tt; body = h.first }

blocks_read : (inside : Bool) (lines : List LineView) → AreEach HasLineTexts lines → AreEach IsReadOnLines (blocks_from inside lines)
blocks_read inside [] h = tt
blocks_read true (line ∷ lines) h =
    chosen (AreEach IsReadOnLines) (is_end line.kind) (blocks_from false lines) (blocks_from true lines) (blocks_read false lines h.1)
    (blocks_read true lines h.1)
blocks_read false (line ∷ lines) h =
    chosen (AreEach IsReadOnLines) (is_end line.kind) (blocks_from false lines) (block_of line lines ∷ blocks_from true lines) (blocks_read false lines h.1)
    (block_reads line.kind line lines h.0 h.1, blocks_read true lines h.1)

pub blocks_on_lines : (text : List ℕ) → AreEach IsReadOnLines (blocks_of text)
blocks_on_lines text = blocks_read false (token_lines (tokens_of text)) (lines_say text)
