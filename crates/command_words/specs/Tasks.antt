-- The commands, and what each takes.
use Rattle.std.specs.Prelude.{ℕ, ◌+◌, ◌≤◌, Bool, true, false, not, nat_lt, ◌&&◌, List, [], ◌∷◌, Option, Some, None, is_some, unwrap_or, option_map}
use Rattle.std.specs.Prelude.{option_and_then, if◌then◌else◌, codes}
use Rattle.std.specs.Fmt.{decimal}
use Rattle.std.specs.Str.{bytes_eq}
use Rattle.std.specs.Str.Parse.{digits_value}
use Rattle.command_words.specs.Words.{Text, Said, said_by}
use Rattle.command_words.specs.declared.tasks.Verb.{Verb}
use Rattle.command_words.specs.declared.tasks.Verb.TheVariants as verb
use Rattle.net_cover.specs.Cells.{CellView}
use Rattle.net_cover.specs.Reading.{cell_of}
use Rattle.workload.specs.Workload.{most_nets}

-- what is to be done
pub data Task : Type 0 where
  -- to report of each net of a file whether it is connected
  Check : Text → Task
  -- to report where its vertices stand
  Place : Text → Task
  -- to report what its key is
  Key : Text → Task
  -- to report which nets it is of the archive, if one is named
  Identify : Text → Option Text → Task
  -- to report what its components are
  Components : Text → Task
  -- to report what its symmetries are
  Symmetry : Text → Task
  -- to add the nets of a file to the archive if one is named, the first under this name
  Add : Text → Option Text → Option Text → Task
  -- to find the nets that stand in an archive more than once
  Duplicates : Text → Task
  -- to write an archive in the newest format
  Migrate : Text → Task
  -- to unite an archive with the nets of a file
  Union : Text → Text → Task
  -- to map the first net of a file to each other one
  Same : Text → Task
  -- to check the maps of a file
  Verify : Text → Task
  -- to make so many nets, and to find their keys
  Workload : ℕ → Task
  -- to write each net of a file on this cell
  Cover : Text → CellView → Task

-- the file that a task reads
abbrev pub file_named : Task → Option Text
file_named (Check file) = Some file
file_named (Place file) = Some file
file_named (Key file) = Some file
file_named (Identify file archive) = Some file
file_named (Components file) = Some file
file_named (Symmetry file) = Some file
file_named (Add file archive name) = Some file
file_named (Duplicates archive) = None
file_named (Migrate archive) = None
file_named (Union file archive) = Some file
file_named (Same file) = Some file
file_named (Verify file) = Some file
file_named (Workload count) = None
file_named (Cover file cell) = Some file

-- the archive that it reads
abbrev pub archive_named : Task → Option Text
archive_named (Check file) = None
archive_named (Place file) = None
archive_named (Key file) = None
archive_named (Identify file archive) = archive
archive_named (Components file) = None
archive_named (Symmetry file) = None
archive_named (Add file archive name) = archive
archive_named (Duplicates archive) = Some archive
archive_named (Migrate archive) = Some archive
archive_named (Union file archive) = Some archive
archive_named (Same file) = None
archive_named (Verify file) = None
archive_named (Workload count) = None
archive_named (Cover file cell) = None

-- a command on maps, on made nets or on cells
abbrev pub other_verb : Text → Option Verb
other_verb word =
    if bytes_eq word (codes "same") then Some verb.Same else
    (if bytes_eq word (codes "verify") then Some verb.Verify else
    (if bytes_eq word (codes "workload") then Some verb.Workload else
    (if bytes_eq word (codes "cover") then Some verb.Cover else None)))

-- a command on an archive and no report, or one of the others
abbrev pub archive_verb : Text → Option Verb
archive_verb word =
    if bytes_eq word (codes "add") then Some verb.Add else
    (if bytes_eq word (codes "duplicates") then Some verb.Duplicates else
    (if bytes_eq word (codes "migrate") then Some verb.Migrate else
    (if bytes_eq word (codes "union") then Some verb.Union else other_verb word)))

-- the command that an argument names
abbrev pub verb_named : Text → Option Verb
verb_named word =
    if bytes_eq word (codes "check") then Some verb.Check else
    (if bytes_eq word (codes "place") then Some verb.Place else
    (if bytes_eq word (codes "key") then Some verb.Key else
    (if bytes_eq word (codes "identify") then Some verb.Identify else
    (if bytes_eq word (codes "components") then Some verb.Components else
    (if bytes_eq word (codes "symmetry") then Some verb.Symmetry else archive_verb word)))))

-- the argument stands, and is empty
abbrev pub is_empty_word : Option Text → Bool
is_empty_word None = false
is_empty_word (Some []) = true
is_empty_word (Some (b ∷ bytes)) = false

-- some argument or value that is said is empty
abbrev pub has_empty_word : Said → Bool
has_empty_word said =
    if is_empty_word said.command then true else
    (if is_empty_word said.second then true else
    (if is_empty_word said.archive then true else
    (if is_empty_word said.name then true else is_empty_word said.cell)))

-- the file is the second positional argument, and `-`, the standard input, if that is absent
abbrev pub file_of : Said → Text
file_of said = unwrap_or said.second (codes "-")

-- the file and the archive are not both the standard input
abbrev pub are_apart : Text → Option Text → Bool
are_apart file None = true
are_apart file (Some archive) = if bytes_eq file (codes "-") then not (bytes_eq archive (codes "-")) else true

-- a file is read, and the archive if one is named, and no name is given
abbrev pub identify_in : Said → Option Task
identify_in said =
    if is_some said.name then None else
    (if are_apart (file_of said) said.archive then Some (Identify (file_of said) said.archive) else None)

-- a file is read, and the archive if one is named
abbrev pub add_in : Said → Option Task
add_in said = if are_apart (file_of said) said.archive then Some (Add (file_of said) said.archive said.name) else None

-- the archive, if nothing else is said
abbrev pub sole_archive : Said → Option Text
sole_archive said = if is_some said.second then None else (if is_some said.name then None else said.archive)

-- a file is read, and the archive, which has to be named
abbrev pub union_with : Text → Option Text → Option Task
union_with file None = None
union_with file (Some archive) = if are_apart file (Some archive) then Some (Union file archive) else None

-- and no name is given
abbrev pub union_in : Said → Option Task
union_in said = if is_some said.name then None else union_with (file_of said) said.archive

-- a file is read, and no archive and no name is given
abbrev pub sole_file : Said → Option Text
sole_file said = if is_some said.archive then None else (if is_some said.name then None else Some (file_of said))

-- the argument spells n in decimal, and n is from 1 to 4,096
abbrev pub is_count : Text → ℕ → Bool
is_count word n = bytes_eq word (decimal n) && (nat_lt 0 n && nat_lt n (most_nets + 1))

-- the number that an argument spells so
abbrev pub count_of : Text → Option ℕ
count_of word = if is_count word (digits_value 10 word) then Some (digits_value 10 word) else None

-- the number, if nothing else is said
abbrev pub sole_count : Said → Option ℕ
sole_count said = if is_some said.archive then None else (if is_some said.name then None else option_and_then count_of said.second)

-- a file is read, and a cell is given, and no archive and no name
abbrev pub cover_in : Said → Option Task
cover_in said =
    if is_some said.archive then None else
    (if is_some said.name then None else
    option_map (Cover (file_of said)) (option_and_then cell_of said.cell))

-- cover takes a cell, and the other commands take none
abbrev pub may_give_cell : Verb → Option Text → Bool
may_give_cell verb.Cover cell = true
may_give_cell v cell = not (is_some cell)

-- what a command takes beside a cell
abbrev pub task_with : Verb → Said → Option Task
task_with verb.Check said = option_map Check (sole_file said)
task_with verb.Place said = option_map Place (sole_file said)
task_with verb.Key said = option_map Key (sole_file said)
task_with verb.Identify said = identify_in said
task_with verb.Components said = option_map Components (sole_file said)
task_with verb.Symmetry said = option_map Symmetry (sole_file said)
task_with verb.Add said = add_in said
task_with verb.Duplicates said = option_map Duplicates (sole_archive said)
task_with verb.Migrate said = option_map Migrate (sole_archive said)
task_with verb.Union said = union_in said
task_with verb.Same said = option_map Same (sole_file said)
task_with verb.Verify said = option_map Verify (sole_file said)
task_with verb.Workload said = option_map Workload (sole_count said)
task_with verb.Cover said = cover_in said

-- what a command takes
abbrev pub task_for : Verb → Said → Option Task
task_for v said = if may_give_cell v said.cell then task_with v said else None

-- the task of the first positional argument, if that names a command
abbrev pub task_named : Option Text → Said → Option Task
task_named None said = None
task_named (Some word) said = option_and_then (λ v. task_for v said) (verb_named word)

-- the task that is said, if no argument of it is empty
abbrev pub task_in : Said → Option Task
task_in said = if has_empty_word said then None else task_named said.command said

-- the task that the arguments ask for, if they have the form
abbrev pub task_of : List Text → Option Task
task_of words = option_and_then task_in (said_by words)

-- it makes no more nets than it may
abbrev pub MakesFew : Task → Type 0
MakesFew (Workload count) = count ≤ most_nets
MakesFew task = Unit {0}
