-- The first file of a name, in files as the code has them and in their lists.
use Rattle.std.proofs.Common.{◌≡◌, refl, ℕ, List, true, false}
use Rattle.std.specs.Prelude.{[], ◌∷◌, find, Some, cond, Vec, String, string_bytes}
use Rattle.std.specs.{Option.option_map, Str.bytes_eq, declared.alloc.Global.Global}
use Rattle.outside.specs.Files.{named_bytes, file_of}

-- the bytes found among the lists are those of the file found among the files
pub found_bytes : (files : List (String Global × Vec ℕ Global)) (name : List ℕ)
    → file_of (named_bytes files) name ≡ option_map (λ file. file.1.items) (find (λ file. bytes_eq (string_bytes file.0) name) files)
found_bytes [] name = refl
found_bytes (x ∷ xs) name =
    elim (bytes_eq (string_bytes x.0) name) as (λ b. option_map (λ file. file.1)
    (cond b (Some (string_bytes x.0, x.1.items)) (find (λ file. bytes_eq file.0 name) (named_bytes xs))) ≡ option_map (λ file. file.1.items)
    (cond b (Some x) (find (λ file. bytes_eq (string_bytes file.0) name) xs))) [ true ↦ refl | false ↦ found_bytes xs name ]
