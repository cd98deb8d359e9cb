-- How vertices are printed: by their names, or by their numbers.
use Rattle.std.specs.Prelude.{ℕ, ◌-◌, ◌<◌, ◌≤◌, ◌==◌, List, [], length, slice_index_or, if◌then◌else◌}
use Rattle.std.specs.Fmt.{decimal}

-- if there are names, vertex u has one
abbrev pub IsNamed : List (List ℕ) → ℕ → Type 0
IsNamed names u = 0 < length names → (1 ≤ u) × (u ≤ length names)

-- the name of vertex u, or its number if there are no names
abbrev pub vertex_text : List (List ℕ) → ℕ → List ℕ
vertex_text names u = if length names == 0 then decimal u else slice_index_or names (u - 1) []
