-- The colouring of a quotient graph that is not connected.
use Rattle.std.specs.Prelude.{ℤ, pos, List, Option, Some, None, map}
use Rattle.integers.specs.Vectors.{Vector, zero_vector}
use Rattle.periodic_net.specs.Split.{Split}

-- 0 where a vertex was found, and 1 elsewhere
abbrev pub part_colour : Option Vector → ℤ
part_colour None = pos 1
part_colour (Some T) = pos 0

-- the colouring that separates the found vertices from the others
abbrev pub part_colouring : List (Option Vector) → Split
part_colouring found = record { q = 0; c = zero_vector; h = map part_colour found }
