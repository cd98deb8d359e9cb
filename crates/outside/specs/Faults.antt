-- What a fault of a step becomes, if all bytes of a name are read.
use Rattle.outside.specs.declared.shelf.ShelfFault.{ShelfFault}
use Rattle.outside.specs.declared.shelf.ShelfFault.TheVariants as shelf
use Rattle.outside.specs.declared.shelf.InFault.{InFault}
use Rattle.outside.specs.declared.shelf.InFault.TheVariants.{ReadFault, NoMemory}

-- if a read fails
abbrev pub in_fault_of : ShelfFault → InFault
in_fault_of shelf.Failed = ReadFault
in_fault_of shelf.NoMemory = NoMemory

-- if memory is refused
abbrev pub no_memory : InFault
no_memory = NoMemory
