-- A net that is added to an archive, and why it is not.
use Rattle.std.specs.Prelude.{◌≡◌, ◌⊎◌, ℕ, ◌≤◌, ◌<◌, true, false, List, length, Contains}
use Rattle.coordination.specs.Sequences.{AreSequencesOf}
use Rattle.least_key.specs.KeyedNets.{KeyedNet}
use Rattle.archive_text.specs.Entries.{EntryView}
use Rattle.archive_text.specs.Lookups.{names_of}
use Rattle.line_text.specs.Names.{is_name}
use Rattle.net_archive.specs.Archives.{ArchiveView, archive_text, with_entry, most_entries}
use Rattle.net_archive.specs.declared.faults.AddFault.{AddFault}
use Rattle.net_archive.specs.declared.faults.AddFault.TheVariants.{NameTaken, BadName, Full, NoMemory}
use Rattle.archive_text.specs.Texts.{most_bytes}

-- the entry of a net under a name
pub record IsEntryOf (name : List ℕ) (n : KeyedNet) (e : EntryView) : Type 0 where
  pub name_is : e.name ≡ name
  pub graph : e.graph ≡ n.placed.graph
  pub key : e.key ≡ n.key
  pub shells : AreSequencesOf e.graph e.shells

-- an entry has the name
abbrev pub IsTaken : ArchiveView → List ℕ → Type 0
IsTaken a name = Contains (names_of a.entries) name

-- there are as many entries as may be, or the text would be too long with one more
abbrev pub IsFull : ArchiveView → EntryView → Type 0
IsFull a e = (most_entries ≤ length a.entries) ⊎ (most_bytes < length (archive_text (with_entry a e)))

-- why the net is not added under the name
abbrev pub IsAddFault : ArchiveView → List ℕ → KeyedNet → AddFault → Type 0
IsAddFault a name n NameTaken = IsTaken a name
IsAddFault a name n BadName = ¬ IsTaken a name × (is_name name ≡ false)
IsAddFault a name n Full = ¬ IsTaken a name × (is_name name ≡ true) × (e : EntryView) × IsEntryOf name n e × IsFull a e
IsAddFault a name n NoMemory = Unit {0}

-- why the entry is not added; its name is one
abbrev pub IsEntryFault : ArchiveView → EntryView → AddFault → Type 0
IsEntryFault a e NameTaken = IsTaken a e.name
IsEntryFault a e BadName = ⊥
IsEntryFault a e Full = ¬ IsTaken a e.name × IsFull a e
IsEntryFault a e NoMemory = Unit {0}
