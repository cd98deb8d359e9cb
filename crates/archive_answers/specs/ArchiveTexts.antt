-- The texts of what is reported of archives.
use Rattle.std.specs.Prelude.{◌≢◌, ℕ, ◌-◌, ℤ, pos, List, [], ◌∷◌, ◌++◌, length, map, Option, None, Some, slice_get, codes}
use Rattle.archive_text.specs.Entries.{EntryView}
use Rattle.net_archive.specs.declared.faults.ArchiveFault.{ArchiveFault}
use Rattle.net_archive.specs.declared.faults.ArchiveFault.TheVariants.{BadLine, RepeatedName, EntryRefused, KeyDiffers, TooManyEntries, Version, CountDiffers}
use Rattle.net_archive.specs.declared.faults.ArchiveFault.TheVariants.{ShellsDiffer, NoMemory}
use Rattle.net_archive.specs.declared.faults.AddFault.{AddFault}
use Rattle.net_archive.specs.declared.faults.AddFault.TheVariants as add
use Rattle.net_report.specs.Headers.{quoted_name}
use Rattle.line_text.specs.Numbers.{field_text, numbers_text}
use Rattle.net_report.specs.Refusals.{refused_text}
use Rattle.net_report.specs.Refusals as refusal

-- the number and the name of a fault
abbrev pub fault_name : ArchiveFault → List ℕ
fault_name (BadLine n) = codes "1 BadLine"
fault_name (RepeatedName n) = codes "2 RepeatedName"
fault_name (EntryRefused n refusal) = codes "3 EntryRefused"
fault_name (KeyDiffers n kept computed) = codes "4 KeyDiffers"
fault_name TooManyEntries = codes "5 TooManyEntries"
fault_name (Version n) = codes "6 Version"
fault_name (CountDiffers n kept computed) = codes "8 CountDiffers"
fault_name (ShellsDiffer n class kept computed) = codes "9 ShellsDiffer"
fault_name NoMemory = []

-- the number of a line, which ends the line that reports it
abbrev pub at_line : ℕ → List ℕ
at_line n = field_text (codes " line=") n ++ codes "\n"

-- the number of a line and that of a class, which end the line that reports them
abbrev pub at_class : ℕ → ℕ → List ℕ
at_class n class = field_text (codes " line=") n ++ field_text (codes " class=") class ++ codes "\n"

-- a line, and two numbers of classes
abbrev pub counts_text : ℕ → ℕ → ℕ → List ℕ
counts_text n kept computed = field_text (codes " line=") n ++ field_text (codes " kept=") kept ++ field_text (codes " computed=") computed ++ codes "\n"

-- a word and a list of numbers, each after a blank, on a line of its own
abbrev pub list_line : List ℕ → List ℤ → List ℕ
list_line word numbers = word ++ numbers_text numbers ++ codes "\n"

-- a list that is kept, and the one that is computed
abbrev pub lists_text : List ℤ → List ℤ → List ℕ
lists_text kept computed = list_line (codes "kept") kept ++ list_line (codes "computed") computed

-- what is reported after the name of a fault
abbrev pub fault_details : ArchiveFault → List ℕ
fault_details (BadLine n) = at_line n
fault_details (RepeatedName n) = at_line n
fault_details (EntryRefused n refusal) = at_line n ++ refused_text [] refusal
fault_details (KeyDiffers n kept computed) = at_line n ++ lists_text kept computed
fault_details TooManyEntries = codes "\n"
fault_details (Version n) = at_line n
fault_details (CountDiffers n kept computed) = counts_text n kept computed
fault_details (ShellsDiffer n class kept computed) = at_class n class ++ lists_text (map pos kept) (map pos computed)
fault_details NoMemory = codes "\n"

-- why a text is no archive; vertices are reported by their numbers
abbrev pub archive_fault_text : ArchiveFault → List ℕ
archive_fault_text fault = codes "archive refused " ++ fault_name fault ++ fault_details fault

-- the number and the name of a fault of adding
abbrev pub add_fault_name : AddFault → List ℕ
add_fault_name add.NameTaken = codes "1 NameTaken"
add_fault_name add.BadName = codes "2 BadName"
add_fault_name add.Full = codes "3 Full"
add_fault_name add.NoMemory = []

-- why the net of the block with this number is not added
abbrev pub add_fault_text : ℕ → AddFault → List ℕ
add_fault_text block fault = field_text (codes "add refused ") block ++ codes " " ++ add_fault_name fault ++ codes "\n"

-- the text in the newest format would be so long
abbrev pub migrate_fault_text : ℕ → List ℕ
migrate_fault_text n = field_text (codes "migrate refused 1 Full length=") n ++ codes "\n"

-- the name of an entry that was found
abbrev pub name_of : Option EntryView → List ℕ
name_of None = []
name_of (Some e) = e.name

-- the name of the entry with this number, which is counted from 1
abbrev pub name_at : List EntryView → ℕ → List ℕ
name_at entries n = name_of (slice_get entries (n - 1))

-- the names of the entries with these numbers
abbrev pub group_names : List EntryView → List ℕ → List ℕ
group_names entries [] = []
group_names entries (n ∷ ns) = quoted_name (name_at entries n) ++ group_names entries ns

-- the line of a group
abbrev pub group_text : List EntryView → List ℕ → List ℕ
group_text entries group = codes "group" ++ group_names entries group ++ codes "\n"

-- the lines of groups
abbrev pub group_lines : List EntryView → List (List ℕ) → List ℕ
group_lines entries [] = []
group_lines entries (group ∷ groups) = group_text entries group ++ group_lines entries groups

-- how many entries there are, and the groups
abbrev pub groups_text : List EntryView → List (List ℕ) → List ℕ
groups_text entries groups = field_text (codes "entries ") (length entries) ++ codes "\n" ++ group_lines entries groups

-- a refusal that is reported is not running out of memory
abbrev pub IsPrintableFault : ArchiveFault → Type 0
IsPrintableFault (EntryRefused n refused) = refused ≢ refusal.NoMemory
IsPrintableFault fault = Unit {0}
