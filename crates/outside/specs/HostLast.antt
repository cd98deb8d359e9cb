-- What the host's shelf keeps of its last read.
use Rattle.std.specs.Prelude.{string_bytes}
use Rattle.outside.specs.Last.{Last, Nothing, Given, Failed}
use Rattle.outside.specs.declared.host_shelf.HostRead.{HostRead}
use Rattle.outside.specs.declared.host_shelf.HostRead.TheVariants.{Unset, Gave, Refused}

-- the last read, as a shelf shows it
abbrev pub last_of : {F : Type 0} → HostRead F → Last
last_of Unset = Nothing
last_of (Gave source name at) = Given (string_bytes name) at
last_of (Refused name) = Failed (string_bytes name)
