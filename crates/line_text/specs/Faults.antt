-- Why the rows of a text are not read.
use Rattle.std.specs.Prelude.{ℕ}
use Rattle.line_text.specs.declared.faults.RowFault.{RowFault}
use Rattle.line_text.specs.declared.faults.RowFault.TheVariants.{BadLine, NoMemory}

-- the fault that running out of memory becomes
abbrev pub no_memory : RowFault
no_memory = NoMemory

-- if the fault is a bad line, P holds of its number; nothing is said of memory
abbrev pub IfBadLine : (ℕ → Type 0) → RowFault → Type 0
IfBadLine P (BadLine n) = P n
IfBadLine P NoMemory = Unit {0}
