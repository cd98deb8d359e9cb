-- The lines of a text, and of a printed graph: the bytes of numbers, the tokens of a line, and the rows as lines.
use Rattle.std.proofs.Common.{◌≡◌, ℕ, ◌+◌, ◌==◌, not, Bool, true, false, cond, List, [], ◌∷◌, ◌++◌, length, Some, refl, sym, ap, ◌∙◌, append_assoc}
use Rattle.std.proofs.Common.{arith, suc, ◌-◌, ◌*◌, ◌<◌, ◌≤◌, ◌^◌, nat_lt, ℤ, pos, negsuc, ◌-ℤ◌, fold, ◌≢◌, take, subst, length-append, ◌⊎◌, inl, inr}
use Rattle.std.proofs.Common.{◌||◌, Option, None}
use Rattle.std.proofs.lemmas.List.Elements.{All-nil, All-cons, All-append, All-weaker}
use Rattle.std.proofs.lemmas.Bool.{and_parts, not-true, ne_eqb, and_from, cases_Bool, true≢false}
use Rattle.std.proofs.{lemmas.Bool.Decides.nat_tests, lemmas.List.Splits.slice_split_at, lemmas.List.append-nil, Math.Seq.take-append_seam}
use Rattle.std.proofs.{lemmas.Fmt.decimal_is_IsNumeral, lemmas.Str.Parse.digit_from_value, lemmas.Grind.common_steps, lemmas.Int.ints}
use Rattle.std.specs.Prelude.{All, unsigned_abs, codes, is_none}
use Rattle.std.specs.{List.list_all, Option.option_map, Int.IsInRange, Fmt.decimal, Fmt.signed_decimal, Char.is_ascii_digit, Char.digit_value}
use Rattle.std.specs.{Str.Parse.AllDigits, Str.Parse.digits_value_after}
use Rattle.cgd_lex.specs.Pieces.{Piece, bytes_of, cut_of, is_run_byte, Blank, Closed, Run, IsCut, StartsNoRun}
use Rattle.cgd_lex.specs.Tokens.{TokenView, tokens_of_line, tokens_of_pieces, token_at, tokens_from, kind_of_piece, newline, is_whole}
use Rattle.cgd_lex.specs.Words.{next_value, whole_value, magnitude_up_to, number_up_to, inner}
use Rattle.cgd_lex.specs.{Lines.is_newline, declared.token.TokenKind.TokenKind, declared.token.TokenKind.TheVariants.Word}
use Rattle.cgd_lex.specs.{declared.token.TokenKind.TheVariants.Whole}
use Rattle.cgd_lex.proofs.{Steps.split_some, Cuts.one_cut}
use Rattle.cgd_read.specs.Lines.{LineView, line_of, token_lines, FieldsView, fields_of, part_or_zero}
use Rattle.cgd_read.specs.declared.line.LineKind.TheVariants.{Opening, Name, Edges, End, Bare}
use Rattle.cgd_read.specs.{declared.line.LineKind.LineKind, Values.part_of}
use Rattle.line_text.specs.Numbers.{numbers_text, list_text}
use Rattle.integers.specs.Vectors.{zero_vector, HasDimension, IsWithin}
use Rattle.periodic_net.specs.{Graph.Arc, Graph.IsNormalSpelling, Limits.most_vertices, Limits.most_shift}
use Rattle.graph_rows.specs.Rows.{edge_numbers}
use Rattle.cover_answers.specs.Blocks.{edge_line, edge_lines}

-- no line feed stands in the bytes
abbrev pub HasNoFeed : List ℕ → Type 0
HasNoFeed bytes = All (λ b. (b == 10) ≡ false) bytes

-- the same by a test
pub no_feed : (bs : List ℕ) → list_all (λ b. not (b == 10)) bs ≡ true → HasNoFeed bs
no_feed [] e = All-nil (λ b. (b == 10) ≡ false)
no_feed (b ∷ bs) e =
    let p = and_parts (not (b == 10)) (list_all (λ b. not (b == 10)) bs) e in
    All-cons (λ b. (b == 10) ≡ false) b bs (not-true (b == 10) p.0) (no_feed bs p.1)

-- no token of a line is a Newline
abbrev IsInLine : TokenView → Type 0
IsInLine t = is_newline t.kind ≡ false

run_in_line : (t : Bool) → is_newline (cond t Whole Word) ≡ false
run_in_line t = search arith

one_in_line : (at line : ℕ) (bytes : List ℕ) (kind : TokenKind) → is_newline kind ≡ false → All IsInLine (token_at at line bytes (Some kind))
one_in_line at line bytes kind e = All-cons IsInLine (record { kind = kind; text = bytes; start = at; line = line }) [] e (All-nil IsInLine)

piece_in_line : (at line : ℕ) (p : Piece) → All IsInLine (token_at at line (bytes_of p) (kind_of_piece p))
piece_in_line at line p = grind (arith, one_in_line, run_in_line)

all_in_line : (at line : ℕ) (ps : List Piece) → All IsInLine (tokens_of_pieces at line ps)
all_in_line at line [] = All-nil IsInLine
all_in_line at line (p ∷ ps) =
    All-append IsInLine (token_at at line (bytes_of p) (kind_of_piece p)) (tokens_of_pieces (at + length (bytes_of p)) line ps) (piece_in_line at line p)
    (all_in_line (at + length (bytes_of p)) line ps)

line_tokens : (at n : ℕ) (bytes rest : List ℕ) → HasNoFeed bytes
    → tokens_from at n (bytes ++ 10 ∷ rest) ≡ tokens_of_line at n bytes ++ newline (at + length bytes) n ∷ tokens_from (at + length bytes + 1) (n + 1) rest
line_tokens at n bytes rest h = search (arith, slice_split_at, split_some)

-- the line of tokens before a Newline, and the lines of those after it
before_newline : (ts us : List TokenView) (t : TokenView) → All IsInLine ts → is_newline t.kind ≡ true
    → token_lines (ts ++ t ∷ us) ≡ line_of ts ++ token_lines us
before_newline ts us t h e = search (arith, slice_split_at)

-- the lines of a text that begins at this place, in the line of this number
abbrev pub lines_at : ℕ → ℕ → List ℕ → List LineView
lines_at at n text = token_lines (tokens_from at n text)

-- from line n on a text has these lines, and then those of the rest, from line m on, wherever the text begins
pub record HasLines (n : ℕ) (text : List ℕ) (lines : List LineView) (m : ℕ) (rest : List ℕ) : Type 0 where
  pub place : ℕ → ℕ
  pub is : (at : ℕ) → lines_at at n text ≡ lines ++ lines_at (place at) m rest

-- one line
pub one_line : (n : ℕ) (bytes rest : List ℕ) (line : LineView) → HasNoFeed bytes → ((at : ℕ) → line_of (tokens_of_line at n bytes) ≡ line ∷ [])
    → HasLines n (bytes ++ 10 ∷ rest) (line ∷ []) (n + 1) rest
one_line n bytes rest line h e = record {
  place = λ at. at + length bytes + 1;
  is = λ at.
      ap token_lines (line_tokens at n bytes rest h)
      ∙ before_newline (tokens_of_line at n bytes) (tokens_from (at + length bytes + 1) (n + 1) rest) (newline (at + length bytes) n)
      (all_in_line at n (cut_of bytes)) refl
      ∙ ap (λ (ls : List LineView). ls ++ lines_at (at + length bytes + 1) (n + 1) rest) (e at);
}

-- no line
pub no_line : (n : ℕ) (text : List ℕ) → HasLines n text [] n text
no_line n text = record { place = λ at. at; is = λ at. refl }

-- some lines, and then others
pub more_lines : (n m k : ℕ) (a b c : List ℕ) (xs ys : List LineView) → HasLines n a xs m b → HasLines m b ys k c → HasLines n a (xs ++ ys) k c
more_lines n m k a b c xs ys h g = record {
  place = λ at. g.place (h.place at);
  is = λ at. h.is at ∙ ap (λ (ls : List LineView). xs ++ ls) (g.is (h.place at)) ∙ sym (append_assoc xs ys (lines_at (g.place (h.place at)) k c));
}

digit_runs : (b : ℕ) → IsInRange 48 57 b → is_run_byte b ≡ true
digit_runs b h = grind (arith, nat_tests, common_steps, h)

digit_is : (b : ℕ) → IsInRange 48 57 b → is_ascii_digit b ≡ true
digit_is b h = grind (arith, nat_tests, common_steps, h)

digit_of : (b : ℕ) → IsInRange 48 57 b → digit_value b ≡ b - 48
digit_of b h = grind (arith, nat_tests, common_steps, h)

digits_run : (ds : List ℕ) → AllDigits 10 ds → All (λ b. is_run_byte b ≡ true) ds
digits_run [] h = All-nil (λ b. is_run_byte b ≡ true)
digits_run (d ∷ ds) h = All-cons (λ b. is_run_byte b ≡ true) d ds (digit_runs d (digit_from_value d h.0)) (digits_run ds h.1)

digits_are : (ds : List ℕ) → AllDigits 10 ds → list_all is_ascii_digit ds ≡ true
digits_are [] h = refl
digits_are (d ∷ ds) h = and_from _ _ (digit_is d (digit_from_value d h.0)) (digits_are ds h.1)

-- both ways to take the value agree
values_agree : (ds : List ℕ) (n : ℕ) → AllDigits 10 ds → fold next_value n ds ≡ digits_value_after 10 n ds
values_agree [] n h = refl
values_agree (d ∷ ds) n h = values_agree ds (n * 10 + (d - 48)) h.1 ∙ ap (λ (m : ℕ). digits_value_after 10 (n * 10 + m) ds)
    (sym (digit_of d (digit_from_value d h.0)))

-- a number that is small enough for its digits
abbrev pub IsShort : ℤ → Type 0
IsShort x = unsigned_abs x < 2 ^ 63

-- what the bytes of a number are
pub record NumberBytes (x : ℤ) : Type 0 where
  pub first : ℕ
  pub others : List ℕ
  pub is : signed_decimal x ≡ first ∷ others
  pub run : is_run_byte first ≡ true
  pub runs : All (λ b. is_run_byte b ≡ true) others
  pub whole : is_whole (first ∷ others) ≡ true

-- a digit is no sign
no_sign : (d : ℕ) → IsInRange 48 57 d → ((d == 43) ≡ false) × ((d == 45) ≡ false)
no_sign d h = (ne_eqb d 43 (λ e. omega (arith, e, h)), ne_eqb d 45 (λ e. omega (arith, e, h)))

digits_whole : (d : ℕ) (ds : List ℕ) → AllDigits 10 (d ∷ ds) → is_whole (d ∷ ds) ≡ true
digits_whole d ds h = let n = no_sign d (digit_from_value d h.0) in rw n.0 (rw n.1 (digits_are (d ∷ ds) h))

digits_bytes : (ds : List ℕ) → 0 < length ds → AllDigits 10 ds → (x : ℤ) → signed_decimal x ≡ ds → NumberBytes x
digits_bytes [] l h x e = absurd (omega (arith, l))
digits_bytes (d ∷ ds) l h x e = record {
  first = d;
  others = ds;
  is = e;
  run = digit_runs d (digit_from_value d h.0);
  runs = digits_run ds h.1;
  whole = digits_whole d ds h;
}

minus_whole : (ds : List ℕ) → 0 < length ds → AllDigits 10 ds → is_whole (45 ∷ ds) ≡ true
minus_whole [] l h = absurd (omega (arith, l))
minus_whole (d ∷ ds) l h = digits_are (d ∷ ds) h

pub number_bytes : (x : ℤ) → IsShort x → NumberBytes x
number_bytes (pos n) h = let k = decimal_is_IsNumeral n (omega (arith, h)) in digits_bytes (decimal n) k.0.0 k.0.1 (pos n) refl
number_bytes (negsuc n) h =
    let k = decimal_is_IsNumeral (suc n) (omega (arith, h)) in record {
      first = 45;
      others = decimal (suc n);
      is = refl;
      run = refl;
      runs = digits_run (decimal (suc n)) k.0.1;
      whole = minus_whole (decimal (suc n)) k.0.0 k.0.1;
    }

-- the value of a decimal number
decimal_value : (n : ℕ) → n < 2 ^ 64 → whole_value (decimal n) ≡ n
decimal_value n h = let k = decimal_is_IsNumeral n h in values_agree (decimal n) 0 k.0.1 ∙ k.1

-- what is within a limit is not past it
pub within : (most n : ℕ) → n ≤ most → nat_lt most n ≡ false
within most n h = grind (arith, nat_tests, h)

magnitude_is : (most n : ℕ) → n < 2 ^ 64 → n ≤ most → magnitude_up_to most (decimal n) ≡ Some n
magnitude_is most n h l = rw (decimal_value n h) (rw (within most n l) refl)

-- digits without a sign
plain_number : (most : ℕ) (ds : List ℕ) → 0 < length ds → AllDigits 10 ds → number_up_to most ds ≡ option_map pos (magnitude_up_to most ds)
plain_number most ds k p = grind (arith, no_sign, digit_from_value)

negated : (n : ℕ) → pos 0 -ℤ pos (suc n) ≡ negsuc n
negated n = omega (arith, ints)

-- a number within a limit is read
pub number_read : (most : ℕ) (x : ℤ) → IsShort x → unsigned_abs x ≤ most → number_up_to most (signed_decimal x) ≡ Some x
number_read most x p q = grind (arith, decimal_is_IsNumeral, plain_number, magnitude_is, negated)

-- all of them are short
abbrev pub AreShort : List ℤ → Type 0
AreShort [] = Unit {0}
AreShort (x ∷ xs) = IsShort x × AreShort xs

-- the run of these bytes
abbrev run_piece : List ℕ → Piece
run_piece [] = Blank 32
run_piece (b ∷ bs) = Run b bs

-- each number after a blank
abbrev marked_pieces : List ℤ → List Piece
marked_pieces [] = []
marked_pieces (x ∷ xs) = Blank 32 ∷ run_piece (signed_decimal x) ∷ marked_pieces xs

no_run : (xs : List ℤ) → StartsNoRun (numbers_text xs)
no_run [] = tt
no_run (x ∷ xs) = refl

-- a number, and what follows it
cut_number : (x : ℤ) (rest : List ℕ) (ps : List Piece) → IsShort x → StartsNoRun rest → IsCut ps rest
    → IsCut (run_piece (signed_decimal x) ∷ ps) (signed_decimal x ++ rest)
cut_number x rest ps h s c =
    let n = number_bytes x h in
    subst (λ (bs : List ℕ). IsCut (run_piece bs ∷ ps) (bs ++ rest)) (sym n.is) (rest, refl, (n.run, n.runs, s), c)

cut_marked : (xs : List ℤ) → AreShort xs → IsCut (marked_pieces xs) (numbers_text xs)
cut_marked [] h = refl
cut_marked (x ∷ xs) h = (signed_decimal x ++ numbers_text xs, refl, refl, cut_number x (numbers_text xs) (marked_pieces xs) h.0 (no_run xs) (cut_marked xs h.1))

-- the token of a number
abbrev pub number_token : ℕ → ℕ → ℤ → TokenView
number_token at line x = record { kind = Whole; text = signed_decimal x; start = at; line = line }

-- the tokens of numbers, each after a blank
abbrev pub marked_tokens : ℕ → ℕ → List ℤ → List TokenView
marked_tokens at line [] = []
marked_tokens at line (x ∷ xs) = number_token (at + 1) line x ∷ marked_tokens (at + 1 + length (signed_decimal x)) line xs

abbrev token_of : ℕ → ℕ → List ℕ → TokenKind → TokenView
token_of at line bytes kind = record { kind = kind; text = bytes; start = at; line = line }

token_number : (x : ℤ) (at line : ℕ) (ps : List Piece) → IsShort x
    → tokens_of_pieces at line (run_piece (signed_decimal x) ∷ ps) ≡ number_token at line x ∷ tokens_of_pieces (at + length (signed_decimal x)) line ps
token_number x at line ps h =
    let n = number_bytes x h in
    subst (λ (bs : List ℕ). tokens_of_pieces at line (run_piece bs ∷ ps) ≡ token_of at line bs Whole ∷ tokens_of_pieces (at + length bs) line ps) (sym n.is)
    (ap (λ (t : Bool). token_of at line (n.first ∷ n.others) (cond t Whole Word) ∷ tokens_of_pieces (at + length (n.first ∷ n.others)) line ps) n.whole)

tokens_marked : (xs : List ℤ) (at line : ℕ) → AreShort xs → tokens_of_pieces at line (marked_pieces xs) ≡ marked_tokens at line xs
tokens_marked [] at line h = refl
tokens_marked (x ∷ xs) at line h =
    token_number x (at + 1) line (marked_pieces xs) h.0 ∙ ap (λ (ts : List TokenView). number_token (at + 1) line x ∷ ts)
    (tokens_marked xs (at + 1 + length (signed_decimal x)) line h.1)

-- the tokens of a line of numbers
pub list_tokens : (x : ℤ) (xs : List ℤ) (at line : ℕ) → AreShort (x ∷ xs)
    → tokens_of_line at line (list_text (x ∷ xs)) ≡ number_token at line x ∷ marked_tokens (at + length (signed_decimal x)) line xs
list_tokens x xs at line h =
    let pieces = run_piece (signed_decimal x) ∷ marked_pieces xs in
    let cut = cut_number x (numbers_text xs) (marked_pieces xs) h.0 (no_run xs) (cut_marked xs h.1) in
    ap (tokens_of_pieces at line) (sym (one_cut pieces (list_text (x ∷ xs)) cut))
    ∙ token_number x at line (marked_pieces xs) h.0
    ∙ ap (λ (ts : List TokenView). number_token at line x ∷ ts) (tokens_marked xs (at + length (signed_decimal x)) line h.1)

-- a line of one word
abbrev pub word_line : LineKind → List ℕ → ℕ → LineView
word_line kind word n = record { number = n; kind = kind; first = word; fields = fields_of [] }

pub opening_read : (at n : ℕ) → line_of (tokens_of_line at n (codes "PERIODIC_GRAPH")) ≡ word_line Opening (codes "PERIODIC_GRAPH") n ∷ []
opening_read at n = refl

pub edges_read : (at n : ℕ) → line_of (tokens_of_line at n (codes "EDGES")) ≡ word_line Edges (codes "EDGES") n ∷ []
edges_read at n = refl

pub end_read : (at n : ℕ) → line_of (tokens_of_line at n (codes "END")) ≡ word_line End (codes "END") n ∷ []
end_read at n = refl

-- the line that names a graph, without its line feed
abbrev pub name_row : List ℕ → List ℕ
name_row name = codes "NAME \"" ++ (name ++ 34 ∷ [])

-- what it says
abbrev pub name_fields : List ℕ → FieldsView
name_fields name = record {
  size = 1;
  name = Some name;
  has_strange = false;
  has_late_quote = false;
  has_far_part = false;
  u = 34 ∷ (name ++ 34 ∷ []);
  v = [];
  x = pos 0;
  y = pos 0;
  z = pos 0;
}

abbrev pub named_line : List ℕ → ℕ → LineView
named_line name n = record { number = n; kind = Name; first = codes "NAME"; fields = name_fields name }

name_cut : (name : List ℕ) → All (λ b. b ≢ 34) name → IsCut (Run 78 (65 ∷ 77 ∷ 69 ∷ []) ∷ Blank 32 ∷ Closed name ∷ []) (name_row name)
name_cut name h = grind (arith, append-nil)

pub inner_is : (name : List ℕ) → inner (34 ∷ (name ++ 34 ∷ [])) ≡ name
inner_is name =
    let long = length-append name (34 ∷ []) in
    let size : length (34 ∷ (name ++ 34 ∷ [])) - 2 ≡ length name = omega (arith, long) in
    ap (λ (k : ℕ). take k (name ++ 34 ∷ [])) size ∙ take-append_seam name (34 ∷ [])

pub name_read : (name : List ℕ) (at n : ℕ) → All (λ b. b ≢ 34) name → line_of (tokens_of_line at n (name_row name)) ≡ named_line name n ∷ []
name_read name at n h =
    ap (λ (ps : List Piece). line_of (tokens_of_pieces at n ps))
    (sym (one_cut (Run 78 (65 ∷ 77 ∷ 69 ∷ []) ∷ Blank 32 ∷ Closed name ∷ []) (name_row name) (name_cut name h)))
    ∙ ap (λ (text : List ℕ). record { number = n; kind = Name; first = codes "NAME"; fields = record (name_fields name) { name = Some text } } ∷ [])
    (inner_is name)

-- an edge that is printed: between n vertices, with a small shift of the dimension, and no loop with shift 0
pub record IsRowEdge (d n : ℕ) (e : Arc) : Type 0 where
  pub from : (1 ≤ e.from) × (e.from ≤ n)
  pub to : (1 ≤ e.to) × (e.to ≤ n)
  pub few : n ≤ most_vertices
  pub flat : HasDimension d e.shift
  pub small : IsWithin most_shift e.shift
  pub no_point : e.from ≡ e.to → e.shift ≢ zero_vector
  pub spelling : IsNormalSpelling e

-- all of them are
abbrev pub AreRowEdges : ℕ → ℕ → List Arc → Type 0
AreRowEdges d n [] = Unit {0}
AreRowEdges d n (e ∷ es) = IsRowEdge d n e × AreRowEdges d n es

-- what the row of an edge says
abbrev pub row_fields : ℕ → Arc → FieldsView
row_fields d e = record {
  size = d + 2;
  name = None;
  has_strange = false;
  has_late_quote = false;
  has_far_part = false;
  u = decimal e.from;
  v = decimal e.to;
  x = e.shift.x;
  y = e.shift.y;
  z = e.shift.z;
}

abbrev pub row_line : ℕ → Arc → ℕ → LineView
row_line d e n = record { number = n; kind = Bare; first = decimal e.from; fields = row_fields d e }

short_vertex : (u n : ℕ) → u ≤ n → n ≤ most_vertices → IsShort (pos u)
short_vertex u n l m = omega (arith, l, m)

short_part : (x : ℤ) → unsigned_abs x ≤ most_shift → IsShort x
short_part x l = omega (arith, l)

part_read : (x : ℤ) → unsigned_abs x ≤ most_shift → part_of (signed_decimal x) ≡ Some x
part_read x l = number_read most_shift x (short_part x l) l

short_flat : (n : ℕ) (e : Arc) → IsRowEdge 2 n e → AreShort (edge_numbers 2 e)
short_flat n e h = omega (arith, short_vertex, short_part)

short_space : (n : ℕ) (e : Arc) → IsRowEdge 3 n e → AreShort (edge_numbers 3 e)
short_space n e h = omega (arith, short_vertex, short_part)

-- the line of the tokens of a row
flat_line : (n : ℕ) (e : Arc) (at m : ℕ) → IsRowEdge 2 n e → line_of (tokens_of_line at m (list_text (edge_numbers 2 e))) ≡ row_line 2 e m ∷ []
flat_line n e at m h =
    ap line_of (list_tokens (pos e.from) (pos e.to ∷ e.shift.x ∷ e.shift.y ∷ []) at m (short_flat n e h)) ∙ (λ i. by (x i) (y i) (z i) ∷ [])
  where
    x : part_of (signed_decimal e.shift.x) ≡ Some e.shift.x
    x = part_read e.shift.x h.small.0

    y : part_of (signed_decimal e.shift.y) ≡ Some e.shift.y
    y = part_read e.shift.y h.small.1

    z : pos 0 ≡ e.shift.z
    z = sym (h.flat refl)

    by : Option ℤ → Option ℤ → ℤ → LineView
    by p q r = record (row_line 2 e m) {
      fields = record (row_fields 2 e)
          { has_far_part = is_none p || (is_none q || false); x = part_or_zero p; y = part_or_zero q; z = r };
    }

space_line : (n : ℕ) (e : Arc) (at m : ℕ) → IsRowEdge 3 n e → line_of (tokens_of_line at m (list_text (edge_numbers 3 e))) ≡ row_line 3 e m ∷ []
space_line n e at m h =
    ap line_of (list_tokens (pos e.from) (pos e.to ∷ e.shift.x ∷ e.shift.y ∷ e.shift.z ∷ []) at m (short_space n e h)) ∙ (λ i. by (x i) (y i) (z i) ∷ [])
  where
    x : part_of (signed_decimal e.shift.x) ≡ Some e.shift.x
    x = part_read e.shift.x h.small.0

    y : part_of (signed_decimal e.shift.y) ≡ Some e.shift.y
    y = part_read e.shift.y h.small.1

    z : part_of (signed_decimal e.shift.z) ≡ Some e.shift.z
    z = part_read e.shift.z h.small.2

    by : Option ℤ → Option ℤ → Option ℤ → LineView
    by p q r = record (row_line 3 e m) {
      fields = record (row_fields 3 e)
          { has_far_part = is_none p || (is_none q || (is_none r || false)); x = part_or_zero p; y = part_or_zero q; z = part_or_zero r };
    }

-- a byte of a run is no line feed
run_no_feed : (b : ℕ) → is_run_byte b ≡ true → (b == 10) ≡ false
run_no_feed b h = search (arith, cases_Bool, true≢false)

pub number_no_feed : (x : ℤ) → IsShort x → HasNoFeed (signed_decimal x)
number_no_feed x h =
    let n = number_bytes x h in
    subst HasNoFeed (sym n.is)
    (All-cons (λ b. (b == 10) ≡ false) n.first n.others (run_no_feed n.first n.run)
    (All-weaker (λ b. is_run_byte b ≡ true) (λ b. (b == 10) ≡ false) run_no_feed n.others n.runs))

marked_no_feed : (xs : List ℤ) → AreShort xs → HasNoFeed (numbers_text xs)
marked_no_feed [] h = All-nil (λ b. (b == 10) ≡ false)
marked_no_feed (x ∷ xs) h =
    All-cons (λ b. (b == 10) ≡ false) 32 (signed_decimal x ++ numbers_text xs) refl
    (All-append (λ b. (b == 10) ≡ false) (signed_decimal x) (numbers_text xs) (number_no_feed x h.0) (marked_no_feed xs h.1))

pub list_no_feed : (x : ℤ) (xs : List ℤ) → AreShort (x ∷ xs) → HasNoFeed (list_text (x ∷ xs))
list_no_feed x xs h = All-append (λ b. (b == 10) ≡ false) (signed_decimal x) (numbers_text xs) (number_no_feed x h.0) (marked_no_feed xs h.1)

-- the line of an edge
pub edge_read : (d n : ℕ) (e : Arc) (m : ℕ) (rest : List ℕ) → (d ≡ 2) ⊎ (d ≡ 3) → IsRowEdge d n e
    → HasLines m (edge_line d e ++ rest) (row_line d e m ∷ []) (m + 1) rest
edge_read d n e m rest dim h =
    subst (λ (text : List ℕ). HasLines m text (row_line d e m ∷ []) (m + 1) rest) (sym (append_assoc (list_text (edge_numbers d e)) (10 ∷ []) rest)) (by dim)
  where
    flat : IsRowEdge 2 n e → HasLines m (list_text (edge_numbers 2 e) ++ 10 ∷ rest) (row_line 2 e m ∷ []) (m + 1) rest
    flat h = one_line m (list_text (edge_numbers 2 e)) rest (row_line 2 e m)
        (list_no_feed (pos e.from) (pos e.to ∷ e.shift.x ∷ e.shift.y ∷ []) (short_flat n e h)) (λ at. flat_line n e at m h)

    space : IsRowEdge 3 n e → HasLines m (list_text (edge_numbers 3 e) ++ 10 ∷ rest) (row_line 3 e m ∷ []) (m + 1) rest
    space h = one_line m (list_text (edge_numbers 3 e)) rest (row_line 3 e m)
        (list_no_feed (pos e.from) (pos e.to ∷ e.shift.x ∷ e.shift.y ∷ e.shift.z ∷ []) (short_space n e h)) (λ at. space_line n e at m h)

    by : (d ≡ 2) ⊎ (d ≡ 3) → HasLines m (list_text (edge_numbers d e) ++ 10 ∷ rest) (row_line d e m ∷ []) (m + 1) rest
    by (inl two) = subst (λ (k : ℕ). HasLines m (list_text (edge_numbers k e) ++ 10 ∷ rest) (row_line k e m ∷ []) (m + 1) rest) (sym two)
        (flat (subst (λ (k : ℕ). IsRowEdge k n e) two h))
    by (inr three) = subst (λ (k : ℕ). HasLines m (list_text (edge_numbers k e) ++ 10 ∷ rest) (row_line k e m ∷ []) (m + 1) rest) (sym three)
        (space (subst (λ (k : ℕ). IsRowEdge k n e) three h))

-- the lines of edges, the first of which has this number
abbrev pub row_lines : ℕ → ℕ → List Arc → List LineView
row_lines d m [] = []
row_lines d m (e ∷ es) = row_line d e m ∷ row_lines d (m + 1) es

-- the number of the line after them
abbrev pub after_rows : ℕ → List Arc → ℕ
after_rows m [] = m
after_rows m (e ∷ es) = after_rows (m + 1) es

pub rows_read : (d n : ℕ) (es : List Arc) (m : ℕ) (rest : List ℕ) → (d ≡ 2) ⊎ (d ≡ 3) → AreRowEdges d n es
    → HasLines m (edge_lines d es ++ rest) (row_lines d m es) (after_rows m es) rest
rows_read d n [] m rest dim h = no_line m rest
rows_read d n (e ∷ es) m rest dim h =
    let more = more_lines m (m + 1) (after_rows (m + 1) es) (edge_line d e ++ (edge_lines d es ++ rest)) (edge_lines d es ++ rest) rest (row_line d e m ∷ [])
    (row_lines d (m + 1) es)
    (edge_read d n e m (edge_lines d es ++ rest) dim h.0) (rows_read d n es (m + 1) rest dim h.1) in
    subst (λ (text : List ℕ). HasLines m text (row_lines d m (e ∷ es)) (after_rows m (e ∷ es)) rest)
    (sym (append_assoc (edge_line d e) (edge_lines d es) rest)) more
