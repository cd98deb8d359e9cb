-- What the arguments of a command line say. The first `--` ends the options. Before it an option is `--archive`,
-- `--name` or `--cell` with the next argument as its value, or one argument, as `--archive=V`. All others are positional.
use Rattle.std.specs.Prelude.{ℕ, Bool, false, not, ◌==◌, ◌||◌, List, [], ◌∷◌, Option, Some, None, String, string_bytes, map, is_some, option_map}
use Rattle.std.specs.Prelude.{option_and_then, if◌then◌else◌, codes}
use Rattle.std.specs.Str.{bytes_eq}
use Rattle.std.specs.declared.alloc.Global.{Global}

-- the bytes of an argument
abbrev pub Text : Type 0
Text = List ℕ

-- the bytes of each argument
abbrev pub texts_of : List (String Global) → List Text
texts_of words = map string_bytes words

-- what an argument may be: the command, the argument after it, or the value of an option
pub data Place : Type 0 where
  Command : Place
  Second : Place
  Archive : Place
  Name : Place
  Cell : Place

-- what the arguments say at each place
pub record Said : Type 0 where
  pub command : Option Text
  pub second : Option Text
  pub archive : Option Text
  pub name : Option Text
  pub cell : Option Text

-- nothing is said at any place
abbrev pub nothing : Said
nothing = record { command = None; second = None; archive = None; name = None; cell = None }

-- what is said at a place
abbrev pub at : Said → Place → Option Text
at said Command = said.command
at said Second = said.second
at said Archive = said.archive
at said Name = said.name
at said Cell = said.cell

-- this argument is said at this place
abbrev pub put : Place → Text → Said → Said
put Command word said = record said { command = Some word }
put Second word said = record said { second = Some word }
put Archive word said = record said { archive = Some word }
put Name word said = record said { name = Some word }
put Cell word said = record said { cell = Some word }

-- each place is filled once
abbrev pub fill : Place → Text → Said → Option Said
fill place word said = if is_some (at said place) then None else Some (put place word said)

-- a positional argument is the command, or the second if there is a command
abbrev pub fill_next : Text → Said → Option Said
fill_next word said = if is_some said.command then fill Second word said else fill Command word said

-- the argument begins with `-`
abbrev pub begins_with_dash : Text → Bool
begins_with_dash [] = false
begins_with_dash (b ∷ bytes) = b == 45

-- the argument is `-`, or does not begin with `-`
abbrev pub is_plain : Text → Bool
is_plain word = not (begins_with_dash word) || bytes_eq word (codes "-")

-- what follows these first bytes in an argument
abbrev pub after : Text → Text → Option Text
after [] word = Some word
after (b ∷ bs) [] = None
after (b ∷ bs) (x ∷ word) = if x == b then after bs word else None

-- an option with its value, of what follows `--archive=`, `--name=` and `--cell=`
abbrev pub option_with_value : Option Text → Option Text → Option Text → Option (Place × Option Text)
option_with_value (Some value) name cell = Some (Archive, Some value)
option_with_value None (Some value) cell = Some (Name, Some value)
option_with_value None None (Some value) = Some (Cell, Some value)
option_with_value None None None = None

-- the option that an argument spells, and its value if that stands after `=`
abbrev pub option_word : Text → Option (Place × Option Text)
option_word word = if bytes_eq word (codes "--archive") then Some (Archive, None) else
    (if bytes_eq word (codes "--name") then Some (Name, None) else
    (if bytes_eq word (codes "--cell") then Some (Cell, None) else
    option_with_value (after (codes "--archive=") word) (after (codes "--name=") word) (after (codes "--cell=") word)))

-- what is said, and the option whose value the next argument has to be
abbrev pub Reading : Type 0
Reading = Said × Option Place

-- no option waits for its value
abbrev pub without_wait : Said → Reading
without_wait said = (said, None)

-- one argument before `--`, if no option waits: an option, or a positional argument
abbrev pub option_step : Said → Text → Option (Place × Option Text) → Option Reading
option_step said word (Some (place, None)) = Some (said, Some place)
option_step said word (Some (place, Some value)) = option_map without_wait (fill place value said)
option_step said word None = if is_plain word then option_map without_wait (fill_next word said) else None

-- one argument before `--`
abbrev pub step : Said → Option Place → Text → Option Reading
step said None word = option_step said word (option_word word)
step said (Some place) word = if is_plain word then option_map without_wait (fill place word said) else None

-- arguments that are all positional
abbrev pub read_positional : Said → List Text → Option Said
read_positional said [] = Some said
read_positional said (word ∷ words) = option_and_then (λ s. read_positional s words) (fill_next word said)

-- what the arguments say after what was said, if each has its place
abbrev pub read : Said → Option Place → List Text → Option Said
read said wanted [] = if is_some wanted then None else Some said
read said wanted (word ∷ words) =
    if bytes_eq word (codes "--") then (if is_some wanted then None else read_positional said words)
    else option_and_then (λ r. read r.0 r.1 words) (step said wanted word)

-- what the arguments say, if each has its place
abbrev pub said_by : List Text → Option Said
said_by words = read nothing None words
