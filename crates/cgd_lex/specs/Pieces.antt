-- A line is cut into pieces.
use Rattle.std.specs.Prelude.{ℕ, Bool, ◌||◌, ◌&&◌, not, nat_lt, ◌==◌, List, [], ◌∷◌, ◌++◌, take, position, Option, None, Some, if◌then◌else◌, ◌≡◌, ◌≢◌, All}
use Rattle.std.specs.Prelude.{IsTrue, false}

-- the byte that ends a line
abbrev pub line_feed : ℕ
line_feed = 10

-- the byte `"`
abbrev pub quote : ℕ
quote = 34

-- the byte `#`, which begins a comment
abbrev pub hash : ℕ
hash = 35

-- a tab, a vertical tab, a form feed, a carriage return or a space
abbrev pub is_blank : ℕ → Bool
is_blank b = b == 9 || (b == 11 || (b == 12 || (b == 13 || b == 32)))

-- another byte below 32, or 127
abbrev pub is_control : ℕ → Bool
is_control b = not (is_blank b) && (nat_lt b 32 || b == 127)

-- a byte that ends a run of other bytes
abbrev pub ends_run : ℕ → Bool
ends_run b = is_blank b || (b == hash || (b == quote || is_control b))

-- any other byte
abbrev pub is_run_byte : ℕ → Bool
is_run_byte b = not (ends_run b)

-- the lists are the bytes after the first
pub data Piece : Type 0 where
  Blank : ℕ → Piece
  Comment : List ℕ → Piece
  -- the bytes between two quotes
  Closed : List ℕ → Piece
  -- a quote without its partner
  Unclosed : List ℕ → Piece
  Control : ℕ → Piece
  Run : ℕ → List ℕ → Piece

-- the first byte of a piece
abbrev pub first_byte : Piece → ℕ
first_byte (Blank b) = b
first_byte (Comment bs) = hash
first_byte (Closed bs) = quote
first_byte (Unclosed bs) = quote
first_byte (Control b) = b
first_byte (Run b bs) = b

-- the bytes after the first
abbrev pub other_bytes : Piece → List ℕ
other_bytes (Blank b) = []
other_bytes (Comment bs) = bs
other_bytes (Closed bs) = bs ++ quote ∷ []
other_bytes (Unclosed bs) = bs
other_bytes (Control b) = []
other_bytes (Run b bs) = bs

-- all bytes of a piece
abbrev pub bytes_of : Piece → List ℕ
bytes_of p = first_byte p ∷ other_bytes p

-- no run goes on here
abbrev pub StartsNoRun : List ℕ → Type 0
StartsNoRun [] = Unit {0}
StartsNoRun (b ∷ bs) = is_run_byte b ≡ false

-- a piece may stand if these bytes of its line follow it
abbrev pub MayStand : Piece → List ℕ → Type 0
MayStand (Blank b) rest = IsTrue (is_blank b)
MayStand (Comment bs) rest = rest ≡ []
MayStand (Closed bs) rest = All (λ b. b ≢ quote) bs
MayStand (Unclosed bs) rest = All (λ b. b ≢ quote) bs × (rest ≡ [])
MayStand (Control b) rest = IsTrue (is_control b)
MayStand (Run b bs) rest = IsTrue (is_run_byte b) × All (λ b. IsTrue (is_run_byte b)) bs × StartsNoRun rest

-- these pieces, one after another, are the line
abbrev pub IsCut : List Piece → List ℕ → Type 0
IsCut [] line = line ≡ []
IsCut (p ∷ ps) line = (rest : List ℕ) × (line ≡ bytes_of p ++ rest) × MayStand p rest × IsCut ps rest

-- the cut of a line, found from its left

-- the bytes before this place, or all
abbrev pub up_to : Option ℕ → List ℕ → List ℕ
up_to None bs = bs
up_to (Some k) bs = take k bs

-- the piece that a quote begins, where its partner stands at this place of the bytes after it
abbrev pub quoted_piece : Option ℕ → List ℕ → Piece
quoted_piece None bs = Unclosed bs
quoted_piece (Some k) bs = Closed (take k bs)

-- the bytes that go on with a run
abbrev pub run_bytes : List ℕ → List ℕ
run_bytes bs = up_to (position ends_run bs) bs

-- the piece that these bytes of a line begin with
abbrev pub first_piece : ℕ → List ℕ → Piece
first_piece b bs =
    if is_blank b then Blank b else
    if b == hash then Comment bs else
    if b == quote then quoted_piece (position (λ x. x == quote) bs) bs else
    if is_control b then Control b else
    Run b (run_bytes bs)

-- the pieces after the bytes that the last one still holds
abbrev pub pieces_after : List ℕ → List ℕ → List Piece
pieces_after taken [] = []
pieces_after (t ∷ taken) (b ∷ bs) = pieces_after taken bs
pieces_after [] (b ∷ bs) = first_piece b bs ∷ pieces_after (other_bytes (first_piece b bs)) bs

-- the only cut of the line
abbrev pub cut_of : List ℕ → List Piece
cut_of line = pieces_after [] line
