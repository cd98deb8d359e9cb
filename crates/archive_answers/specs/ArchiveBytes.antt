-- Archives in bytes that are read.
use Rattle.std.specs.Prelude.{◌≡◌, ◌≢◌, ℕ, ◌≤◌, List, length, Option, Some, None, option_map, Result, Ok, Err, Vec}
use Rattle.std.specs.declared.alloc.Global.{Global}
pub use Rattle.archive_text.specs.Texts.{most_bytes}
use Rattle.net_archive.specs.Archives.{ArchiveView, IsArchive, archive_text, empty_archive}
use Rattle.net_archive.specs.Faults.{IsFaultOf}
use Rattle.net_archive.specs.declared.faults.ArchiveFault.{ArchiveFault}
use Rattle.net_archive.specs.declared.faults.ArchiveFault.TheVariants as archive
use Rattle.archive_answers.specs.ArchiveTexts.{archive_fault_text}

-- these bytes are the text of this archive; without bytes it is empty
abbrev pub IsArchiveIn : Option (List ℕ) → ArchiveView → Type 0
IsArchiveIn None a = a ≡ empty_archive
IsArchiveIn (Some bytes) a = IsArchive a × (bytes ≡ archive_text a)

-- these bytes are the text of no archive, by this fault, which is reported
abbrev pub IsBadArchive : Option (List ℕ) → List ℕ → Type 0
IsBadArchive None text = ⊥
IsBadArchive (Some bytes) text = (fault : ArchiveFault) × (fault ≢ archive.NoMemory) × IsFaultOf bytes fault × (text ≡ archive_fault_text fault)

-- the bytes, if there are some
abbrev pub bytes_in : Option (Vec ℕ Global) → Option (List ℕ)
bytes_in bytes = option_map (λ (v : Vec ℕ Global). v.items) bytes

-- they are no more than a file may have
abbrev pub AreFew : Option (Vec ℕ Global) → Type 0
AreFew None = Unit {0}
AreFew (Some bytes) = length bytes.items ≤ most_bytes

-- the archive of these bytes, or the text of its fault
abbrev pub IsArchiveOrText : Option (Vec ℕ Global) → Result ArchiveView (Vec ℕ Global) → Type 0
IsArchiveOrText bytes (Ok a) = IsArchiveIn (bytes_in bytes) a
IsArchiveOrText bytes (Err text) = IsBadArchive (bytes_in bytes) text.items
