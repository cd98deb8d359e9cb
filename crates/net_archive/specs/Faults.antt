-- The first fault of a text that is that of no archive.
use Rattle.std.specs.Prelude.{◌≡◌, ◌≢◌, ◌⊎◌, ℕ, ◌+◌, ◌≤◌, ◌<◌, true, List, [], ◌∷◌, ◌++◌, length, All, AllPairs, Contains}
use Rattle.line_text.specs.Lines.{Place, IsAt}
use Rattle.archive_text.specs.Entries.{EntryView}
use Rattle.archive_text.specs.Lookups.{names_of}
use Rattle.line_text.specs.Names.{is_name}
use Rattle.archive_text.specs.Rows.{first_row, name_row, end_row, row_lines}
use Rattle.archive_text.specs.Parts.{Part, Start, Named, Drawn, Keyed, Counted, part_rows, IsFormed, NoneFollows}
use Rattle.archive_text.specs.Reading.{form_part}
use Rattle.archive_text.specs.Texts.{rows_before}
use Rattle.archive_text.specs.declared.rest.Form.{Form}
use Rattle.archive_text.specs.declared.version.Version.{Version}
use Rattle.net_archive.specs.Archives.{IsEntry, most_entries}
use Rattle.net_archive.specs.Judging.{IsJudged}
use Rattle.net_archive.specs.declared.faults.ArchiveFault.{ArchiveFault}
use Rattle.net_archive.specs.declared.faults.ArchiveFault.TheVariants.{BadLine, RepeatedName, EntryRefused, KeyDiffers, TooManyEntries, Version as OtherVersion}
use Rattle.net_archive.specs.declared.faults.ArchiveFault.TheVariants.{CountDiffers, ShellsDiffer, NoMemory}

-- entries of an archive, or the first of them
pub record AreEntries (entries : List EntryView) : Type 0 where
  pub each : All IsEntry entries
  pub names : AllPairs (λ (e f : EntryView). e.name ≢ f.name) entries
  pub few : length entries ≤ most_entries

-- one more entry of this name may be read
pub record MayBegin (entries : List EntryView) (name : List ℕ) : Type 0 where
  pub fresh : ¬ Contains (names_of entries) name
  pub few : length entries < most_entries

-- after these entries this part of one more may be read
abbrev pub IsBegun : List EntryView → Part → Type 0
IsBegun entries Start = Unit {0}
IsBegun entries (Named name) = MayBegin entries name
IsBegun entries (Drawn name s edges) = MayBegin entries name
IsBegun entries (Keyed name s edges key) = MayBegin entries name
IsBegun entries (Counted name s edges key n lists) = MayBegin entries name

-- the text may end here
abbrev pub MayEnd : Part → List ℕ → Type 0
MayEnd Start rest = rest ≡ []
MayEnd part rest = ⊥

-- on this line stands nothing that may follow the part, and the text may not end before it
pub record IsBadLine (v : Version) (part : Part) (place : Place) (n : ℕ) : Type 0 where
  pub number : n ≡ place.number
  pub no_end : ¬ MayEnd part place.rest
  pub none : NoneFollows v part place.rest

-- this row stands here
abbrev pub Stands : List ℕ → Place → Type 0
Stands row place = (rest : List ℕ) × (place.rest ≡ row ++ 10 ∷ rest)

-- on this line an entry begins with the name of one of these
pub record IsRepeated (entries : List EntryView) (place : Place) (n : ℕ) : Type 0 where
  pub number : n ≡ place.number
  pub few : length entries < most_entries
  pub name : List ℕ
  pub is_name : is_name name ≡ true
  pub among : Contains (names_of entries) name
  pub begins : Stands (name_row name) place

-- another entry begins, and there are as many as may be
pub record IsTooMany (entries : List EntryView) (place : Place) : Type 0 where
  pub all_entries : length entries ≡ most_entries
  pub name : List ℕ
  pub is_name : is_name name ≡ true
  pub begins : Stands (name_row name) place

-- the part is all of an entry but its end, which stands here, and this is the first fault that is judged there
pub record IsFaultAtEnd (v : Version) (entries : List EntryView) (part : Part) (place : Place) (fault : ArchiveFault) : Type 0 where
  pub name : List ℕ
  pub form : Form
  pub is : part ≡ form_part v name form
  pub ends : Stands end_row place
  pub key_line : form.keyed.key_line ≡ length (rows_before v entries) + (length form.keyed.edges.items + 3)
  pub judged : IsJudged v (length (rows_before v entries) + 1) form fault

-- after these entries and this part of one more the fault is the next
abbrev pub FaultAt : Version → List EntryView → Part → Place → ArchiveFault → Type 0
FaultAt v entries part place (BadLine n) = IsBadLine v part place n
FaultAt v entries part place (RepeatedName n) = (part ≡ Start) × IsRepeated entries place n
FaultAt v entries part place TooManyEntries = (part ≡ Start) × IsTooMany entries place
FaultAt v entries part place (EntryRefused n refusal) = IsFaultAtEnd v entries part place (EntryRefused n refusal)
FaultAt v entries part place (KeyDiffers n kept computed) = IsFaultAtEnd v entries part place (KeyDiffers n kept computed)
FaultAt v entries part place (CountDiffers n kept computed) = IsFaultAtEnd v entries part place (CountDiffers n kept computed)
FaultAt v entries part place (ShellsDiffer n class kept computed) = IsFaultAtEnd v entries part place (ShellsDiffer n class kept computed)
FaultAt v entries part place (OtherVersion n) = ⊥
FaultAt v entries part place NoMemory = ⊥

-- the text goes right for some entries and a part of one more, and then comes the fault
pub record HasFault (v : Version) (text : List ℕ) (fault : ArchiveFault) : Type 0 where
  pub entries : List EntryView
  pub part : Part
  pub place : Place
  pub good : AreEntries entries
  pub formed : IsFormed v part
  pub begun : IsBegun entries part
  pub at : IsAt text (rows_before v entries ++ row_lines (part_rows part)) place
  pub cause : FaultAt v entries part place fault

-- the text is a first line without its end
abbrev pub IsCutFirst : List ℕ → Type 0
IsCutFirst text = (v : Version) × (text ≡ first_row v)

-- the text does not begin with a first line
pub record HasNoVersion (text : List ℕ) : Type 0 where
  pub not_cut : ¬ IsCutFirst text
  pub none : (v : Version) (rest : List ℕ) → text ≢ first_row v ++ 10 ∷ rest

-- the fault is in the first line
abbrev pub IsFirstLineFault : List ℕ → ArchiveFault → Type 0
IsFirstLineFault text (BadLine n) = (n ≡ 1) × IsCutFirst text
IsFirstLineFault text (OtherVersion n) = (n ≡ 1) × HasNoVersion text
IsFirstLineFault text fault = ⊥

-- the fault is the first of the text
abbrev pub IsFirstFault : List ℕ → ArchiveFault → Type 0
IsFirstFault text fault = IsFirstLineFault text fault ⊎ ((v : Version) × HasFault v text fault)

-- the fault is the first of the text, or running out of memory
abbrev pub IsFaultOf : List ℕ → ArchiveFault → Type 0
IsFaultOf text fault = (fault ≡ NoMemory) ⊎ IsFirstFault text fault
