-- Where the reading of a text stands.
use Rattle.std.specs.Prelude.{◌≡◌, ◌⊎◌, ℕ, ◌+◌, true, List, [], ◌∷◌, ◌++◌, length}
use Rattle.line_text.specs.Lines.{Place, IsAt}
use Rattle.archive_text.specs.Entries.{EntryView}
use Rattle.line_text.specs.Names.{is_name}
use Rattle.archive_text.specs.Rows.{first_row, name_row}
use Rattle.archive_text.specs.Texts.{rows_before}
use Rattle.archive_text.specs.declared.version.Version.{Version}
use Rattle.net_archive.specs.Faults.{AreEntries, MayBegin, HasFault}
use Rattle.net_archive.specs.declared.faults.ArchiveFault.{ArchiveFault}
use Rattle.net_archive.specs.declared.faults.ArchiveFault.TheVariants.{NoMemory}

-- a row with this name was passed
pub record IsAfterName (name : List ℕ) (place : Place) : Type 0 where
  pub is_name : is_name name ≡ true
  pub text : List ℕ
  pub rows : List (List ℕ)
  pub at : IsAt text (rows ++ name_row name ∷ []) place

-- after these entries one more of this name begins
pub record HasBegun (v : Version) (text : List ℕ) (entries : List EntryView) (name : List ℕ) (place : Place) : Type 0 where
  pub is_name : is_name name ≡ true
  pub may : MayBegin entries name
  pub at : IsAt text (rows_before v entries ++ name_row name ∷ []) place

-- these entries and one more were read
pub record AreMore (v : Version) (text : List ℕ) (entries : List EntryView) (e : EntryView) (place : Place) : Type 0 where
  pub good : AreEntries (entries ++ e ∷ [])
  pub at : IsAt text (rows_before v (entries ++ e ∷ [])) place

-- what is reported of a text of this version after its first line
abbrev pub IsFaultTold : Version → List ℕ → ArchiveFault → Type 0
IsFaultTold v text fault = (fault ≡ NoMemory) ⊎ HasFault v text fault

-- from the one place to the other these entries were read
pub record AreRead (v : Version) (start now : Place) (entries : List EntryView) : Type 0 where
  pub good : AreEntries entries
  pub at : (text : List ℕ) → IsAt text (first_row v ∷ []) start → IsAt text (rows_before v entries) now
  pub number : now.number ≡ length (rows_before v entries) + 1
