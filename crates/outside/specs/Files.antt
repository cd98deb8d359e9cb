-- Files in memory: names with their bytes.
use Rattle.std.specs.Prelude.{ℕ, List, [], Option, Some, find, map, unwrap_or, Vec, String, string_bytes}
use Rattle.std.specs.Option.{option_map}
use Rattle.std.specs.Str.{bytes_eq}
use Rattle.std.specs.declared.alloc.Global.{Global}
use Rattle.outside.specs.Held.{Holds}

-- names with their bytes
abbrev pub NamedBytes : Type 0
NamedBytes = List (List ℕ × List ℕ)

-- names and bytes as lists
abbrev pub named_bytes : List (String Global × Vec ℕ Global) → NamedBytes
named_bytes files = map (λ file. (string_bytes file.0, file.1.items)) files

-- the bytes of the first file of this name
abbrev pub file_of : NamedBytes → List ℕ → Option (List ℕ)
file_of files name = option_map (λ file. file.1) (find (λ file. bytes_eq file.0 name) files)

-- each name's bytes, none at a name that is absent
abbrev pub holds_of : NamedBytes → Holds
holds_of files = Some (λ name. unwrap_or (file_of files name) [])
