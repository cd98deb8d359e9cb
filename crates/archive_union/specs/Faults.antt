-- Why an archive is not united with items.
use Rattle.std.specs.Prelude.{ℕ, List}
use Rattle.archive_text.specs.Entries.{EntryView}
use Rattle.net_archive.specs.Archives.{ArchiveView}
use Rattle.net_archive.specs.declared.faults.AddFault.{AddFault}
use Rattle.net_archive.specs.declared.faults.AddFault.TheVariants as add
use Rattle.archive_union.specs.Unions.{IsNotUnited}
use Rattle.archive_union.specs.declared.uniting.UniteFault.{UniteFault}
use Rattle.archive_union.specs.declared.uniting.UniteFault.TheVariants.{NotAdded, NoMemory}

-- an item cannot be added; of running out of memory nothing is said
abbrev pub IsUniteFault : ArchiveView → List EntryView → UniteFault → Type 0
IsUniteFault a items (NotAdded number fault) = IsNotUnited a items number fault
IsUniteFault a items NoMemory = Unit {0}

-- what is reported if the item with this number is not added
abbrev pub fault_of_add : ℕ → AddFault → UniteFault
fault_of_add number add.NoMemory = NoMemory
fault_of_add number fault = NotAdded number fault
