-- An archive in the newest version of the format.
use Rattle.std.specs.Prelude.{◌≡◌, ℕ, ◌≤◌, ◌<◌, List, length}
use Rattle.archive_text.specs.Texts.{text_of, most_bytes}
use Rattle.archive_text.specs.declared.version.Version.TheVariants.{Two}
use Rattle.net_archive.specs.Archives.{ArchiveView}
use Rattle.net_archive.specs.declared.faults.MigrateFault.{MigrateFault}
use Rattle.net_archive.specs.declared.faults.MigrateFault.TheVariants.{Full, NoMemory}

-- the text in version 2
abbrev pub newest : ArchiveView → List ℕ
newest a = text_of Two a.entries

-- this is that text, which is not too long
abbrev pub IsMigrated : ArchiveView → List ℕ → Type 0
IsMigrated a text = (text ≡ newest a) × (length text ≤ most_bytes)

-- a text is too long, and has this length
abbrev pub IsTooLong : List ℕ → MigrateFault → Type 0
IsTooLong text (Full n) = (n ≡ length text) × (most_bytes < n)
IsTooLong text NoMemory = Unit {0}

-- that text is too long
abbrev pub IsMigrateFault : ArchiveView → MigrateFault → Type 0
IsMigrateFault a fault = IsTooLong (newest a) fault
