-- A unit of a text, as a block or an item: the run of lines that its first faulty line, its end, or the end of the text decides.
use Rattle.std.specs.Prelude.{◌≡◌, ℕ, Bool, true, false, List, [], ◌∷◌, Option, None, Some, if◌then◌else◌, ◌⊎◌}

-- how units of a kind are read: the sentences about a line after the lines of its unit before it, the nearest first; whether a line
-- ends the unit; and what the unit is that opens at some line and has its first fault, of this kind, in a line, that a line ends,
-- or that nothing ends
pub record Units (Line Kind Unit_ : Type 0) : Type 0 where
  pub table : List Line → Line → List (Kind × Bool)
  pub ends : Line → Bool
  pub faulty : ℕ → List Line → Line → Kind → Unit_
  pub ended : ℕ → List Line → Line → Unit_
  pub open_ : ℕ → List Line → Unit_

-- the first kind whose sentence is true
abbrev pub first_true : {Kind : Type 0} → List (Kind × Bool) → Option Kind
first_true [] = None
first_true (test ∷ tests) = if test.1 then Some test.0 else first_true tests

-- what a fault makes, or else the later answer
abbrev pub or_fault : {Kind Unit_ : Type 0} → Option Kind → (Kind → Unit_) → Unit_ → Unit_
or_fault (Some kind) faulty later = faulty kind
or_fault None faulty later = later

-- the unit of these lines, after earlier ones: its first line with a fault decides, or its end, or the end of the text
abbrev pub unit_after : {Line Kind Unit_ : Type 0} → Units Line Kind Unit_ → ℕ → List Line → List Line → Unit_
unit_after u opening earlier [] = u.open_ opening earlier
unit_after u opening earlier (line ∷ lines) =
    or_fault (first_true (u.table earlier line)) (u.faulty opening earlier line)
    (if u.ends line then u.ended opening earlier line else unit_after u opening (line ∷ earlier) lines)

-- no sentence is true
abbrev pub AllFalse : {Kind : Type 0} → List (Kind × Bool) → Type 0
AllFalse [] = Unit {0}
AllFalse (test ∷ tests) = (test.1 ≡ false) × AllFalse tests

-- the first sentence that is true is of this kind
abbrev pub IsFirstTrue : {Kind : Type 0} → List (Kind × Bool) → Kind → Type 0
IsFirstTrue [] kind = ⊥
IsFirstTrue (test ∷ tests) kind = ((test.1 ≡ true) × (test.0 ≡ kind)) ⊎ ((test.1 ≡ false) × IsFirstTrue tests kind)

-- lines in the order of the text; the earlier ones are given the nearest first
abbrev pub in_order : {Line : Type 0} → List Line → List Line → List Line
in_order [] later = later
in_order (line ∷ earlier) later = in_order earlier (line ∷ later)

-- none of these lines has a fault, and none ends the unit
abbrev pub AllPass : {Line Kind Unit_ : Type 0} → Units Line Kind Unit_ → List Line → Type 0
AllPass u [] = Unit {0}
AllPass u (line ∷ earlier) = AllFalse (u.table earlier line) × (u.ends line ≡ false) × AllPass u earlier

-- the line has a fault, and the unit reports it
pub record IsFaulty {Line Kind Unit_ : Type 0} (u : Units Line Kind Unit_) (opening : ℕ) (earlier : List Line) (line : Line) (unit : Unit_) : Type 0 where
  pub kind : Kind
  pub first : IsFirstTrue (u.table earlier line) kind
  pub told : unit ≡ u.faulty opening earlier line kind

-- the line ends the unit without a fault
pub record IsEnded {Line Kind Unit_ : Type 0} (u : Units Line Kind Unit_) (opening : ℕ) (earlier : List Line) (line : Line) (unit : Unit_) : Type 0 where
  pub faultless : AllFalse (u.table earlier line)
  pub ends : u.ends line ≡ true
  pub told : unit ≡ u.ended opening earlier line

-- the next line has a fault or ends the unit, or the text ends
abbrev pub IsDecided : {Line Kind Unit_ : Type 0} → Units Line Kind Unit_ → ℕ → List Line → List Line → Unit_ → Type 0
IsDecided u opening earlier [] unit = unit ≡ u.open_ opening earlier
IsDecided u opening earlier (line ∷ later) unit = IsFaulty u opening earlier line unit ⊎ IsEnded u opening earlier line unit

-- the unit that opens at this line, before these lines
pub record IsUnit {Line Kind Unit_ : Type 0} (u : Units Line Kind Unit_) (opening : ℕ) (lines : List Line) (unit : Unit_) : Type 0 where
  pub earlier : List Line
  pub later : List Line
  pub whole : in_order earlier later ≡ lines
  pub passed : AllPass u earlier
  pub decided : IsDecided u opening earlier later unit
