-- The fault that a refusal becomes.
use Rattle.std.specs.Prelude.{◌≡◌, ◌≢◌}
use Rattle.cgd_read.specs.declared.block.ReadRefusal.{ReadRefusal}
use Rattle.cgd_read.specs.declared.block.ReadRefusal.TheVariants as read
use Rattle.least_key.specs.declared.refusal.Refusal.{Refusal}
use Rattle.least_key.specs.declared.refusal.Refusal.TheVariants as refusal
use Rattle.nets.specs.declared.text_fault.TextFault.{TextFault}
use Rattle.nets.specs.declared.text_fault.TextFault.TheVariants.{TooManyBlocks, Refused, NoMemory}

-- where a text is not read
abbrev pub unread : ReadRefusal → TextFault
unread read.TooManyBlocks = TooManyBlocks
unread read.NoMemory = NoMemory

-- if a graph is refused
abbrev pub IsFrom : Refusal → TextFault → Type 0
IsFrom given (Refused told) = (told ≡ given) × (given ≢ refusal.NoMemory)
IsFrom given NoMemory = given ≡ refusal.NoMemory
IsFrom given fault = ⊥
