-- The fault of an archive that a fault of the rows of a text becomes.
use Rattle.line_text.specs.declared.faults.RowFault.{RowFault}
use Rattle.line_text.specs.declared.faults.RowFault.TheVariants.{BadLine, NoMemory}
use Rattle.net_archive.specs.declared.faults.ArchiveFault.{ArchiveFault}
use Rattle.net_archive.specs.declared.faults.ArchiveFault.TheVariants as archive

abbrev pub of_rows : RowFault → ArchiveFault
of_rows (BadLine n) = archive.BadLine n
of_rows NoMemory = archive.NoMemory
