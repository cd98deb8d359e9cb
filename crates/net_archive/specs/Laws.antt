-- What holds of the texts of archives.
use Rattle.std.specs.Prelude.{◌≡◌, ◌≢◌, ℕ, List}
use Rattle.least_key.specs.KeyedNets.{KeyedNet}
use Rattle.net_archive.specs.Adding.{IsAddFault}
use Rattle.net_archive.specs.Archives.{ArchiveView, IsArchive, archive_text}
use Rattle.net_archive.specs.Faults.{IsFaultOf}
use Rattle.net_archive.specs.declared.faults.AddFault.{AddFault}
use Rattle.net_archive.specs.declared.faults.AddFault.TheVariants as add
use Rattle.net_archive.specs.declared.faults.ArchiveFault.{ArchiveFault}
use Rattle.net_archive.specs.declared.faults.ArchiveFault.TheVariants.{NoMemory}

-- nothing is reported of the text of an archive but running out of memory
abbrev pub ArchivesHaveNoFault : Type 0
ArchivesHaveNoFault = (a : ArchiveView) (fault : ArchiveFault) → IsArchive a → IsFaultOf (archive_text a) fault → fault ≡ NoMemory

-- a text is that of one archive alone
abbrev pub OneArchive : Type 0
OneArchive = (a b : ArchiveView) → IsArchive a → IsArchive b → archive_text a ≡ archive_text b → a ≡ b

-- two faults that are reported of a text, running out of memory aside, are one
abbrev pub OneFault : Type 0
OneFault = (text : List ℕ) (a b : ArchiveFault) → IsFaultOf text a → IsFaultOf text b → a ≢ NoMemory → b ≢ NoMemory → a ≡ b

-- two faults of adding under one name, running out of memory aside, are one
abbrev pub OneAddFault : Type 0
OneAddFault = (a : ArchiveView) (name : List ℕ) (m n : KeyedNet) (f g : AddFault) → IsAddFault a name m f → IsAddFault a name n g → f ≢ add.NoMemory
    → g ≢ add.NoMemory → f ≡ g
