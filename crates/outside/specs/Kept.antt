-- What a shelf in memory keeps of its last read.
use Rattle.std.specs.Prelude.{string_bytes}
use Rattle.outside.specs.Last.{Last, Nothing, Given, Failed}
use Rattle.outside.specs.declared.files.LastRead.{LastRead}
use Rattle.outside.specs.declared.files.LastRead.TheVariants.{Unset, Gave, Refused}

-- the last read, as a shelf shows it
abbrev pub last_of : LastRead → Last
last_of Unset = Nothing
last_of (Gave name at) = Given (string_bytes name) at
last_of (Refused name) = Failed (string_bytes name)
