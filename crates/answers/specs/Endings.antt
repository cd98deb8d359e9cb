-- How a task may end.
use Rattle.std.specs.Prelude.{Option, Some}
use Rattle.command_words.specs.Tasks.{Task, Add, Migrate, Union, Verify}
use Rattle.net_report.specs.declared.status.Status.{Status}
use Rattle.net_report.specs.declared.status.Status.TheVariants.{Done, SomeRefused, Usage, ReadFault, WriteFault, BadArchive, NoMemory, TooManyBlocks}
use Rattle.net_report.specs.declared.status.Status.TheVariants.{AddRefused, MigrateRefused, BadMap}

-- the nets are united with an archive
abbrev pub IsOfUniting : Option Task → Type 0
IsOfUniting (Some (Union file archive)) = Unit {0}
IsOfUniting _ = ⊥

-- nets are added, or united with an archive
abbrev pub IsOfAdding : Option Task → Type 0
IsOfAdding (Some (Add file archive name)) = Unit {0}
IsOfAdding (Some (Union file archive)) = Unit {0}
IsOfAdding _ = ⊥

-- the archive is written in the newest format
abbrev pub IsOfMigrating : Option Task → Type 0
IsOfMigrating (Some (Migrate archive)) = Unit {0}
IsOfMigrating _ = ⊥

-- maps are checked
abbrev pub IsOfVerifying : Option Task → Type 0
IsOfVerifying (Some (Verify file)) = Unit {0}
IsOfVerifying _ = ⊥

-- how a task may end whose bytes are within the limits; the archive that it names is good, so it is the file of a union that is bad
abbrev pub IsComplete : Option Task → Status → Type 0
IsComplete task Done = Unit {0}
IsComplete task SomeRefused = Unit {0}
IsComplete task AddRefused = IsOfAdding task
IsComplete task MigrateRefused = IsOfMigrating task
IsComplete task BadMap = IsOfVerifying task
IsComplete task TooManyBlocks = IsOfUniting task
IsComplete task BadArchive = IsOfUniting task
IsComplete task NoMemory = Unit {0}
IsComplete task ReadFault = Unit {0}
IsComplete task WriteFault = Unit {0}
IsComplete task status = ⊥

-- a status that goes with a text
abbrev pub GoesWithText : Status → Type 0
GoesWithText Done = Unit {0}
GoesWithText SomeRefused = Unit {0}
GoesWithText Usage = Unit {0}
GoesWithText BadArchive = Unit {0}
GoesWithText AddRefused = Unit {0}
GoesWithText MigrateRefused = Unit {0}
GoesWithText BadMap = Unit {0}
GoesWithText _ = ⊥
