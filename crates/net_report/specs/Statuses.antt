-- The exit statuses of the program.
use Rattle.std.specs.Prelude.{ℕ, Bool, true, false}
use Rattle.cgd_read.specs.declared.block.ReadRefusal.{ReadRefusal}
use Rattle.cgd_read.specs.declared.block.ReadRefusal.TheVariants as read
use Rattle.keyline_import.specs.declared.item.ItemRefusal.{ItemRefusal}
use Rattle.keyline_import.specs.declared.item.ItemRefusal.TheVariants as items
use Rattle.net_report.specs.declared.answer.Silence.{Silence}
use Rattle.net_report.specs.declared.answer.Silence.TheVariants as silence
use Rattle.net_report.specs.declared.status.Status.{Status}
use Rattle.net_report.specs.declared.status.Status.TheVariants.{Done, SomeRefused, Usage, ReadFault, WriteFault, BadArchive, TooLarge, NoMemory, TooManyBlocks}
use Rattle.net_report.specs.declared.status.Status.TheVariants.{AddRefused, MigrateRefused, BadMap}

abbrev pub number_of : Status → ℕ
number_of Done = 0
number_of SomeRefused = 1
number_of Usage = 2
number_of ReadFault = 3
number_of WriteFault = 4
number_of BadArchive = 5
number_of TooLarge = 6
number_of NoMemory = 7
number_of TooManyBlocks = 8
number_of AddRefused = 9
number_of MigrateRefused = 10
number_of BadMap = 11

-- the end of a report, by whether each block was accepted
abbrev pub ending_of : Bool → Status
ending_of true = Done
ending_of false = SomeRefused

-- how a run ends if nothing is reported
abbrev pub silent_status : Silence → Status
silent_status silence.TooManyBlocks = TooManyBlocks
silent_status silence.NoMemory = NoMemory

-- if memory runs out nothing is written
abbrev pub no_memory : Silence
no_memory = silence.NoMemory

-- and where a text has too many blocks
abbrev pub silence_of : ReadRefusal → Silence
silence_of read.TooManyBlocks = silence.TooManyBlocks
silence_of read.NoMemory = silence.NoMemory

-- or too many items
abbrev pub silence_of_items : ItemRefusal → Silence
silence_of_items items.TooManyItems = silence.TooManyBlocks
silence_of_items items.NoMemory = silence.NoMemory
