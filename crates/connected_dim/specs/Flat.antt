-- The colouring by a vector that is orthogonal to the closed walks.
use Rattle.std.specs.Prelude.{ℤ, neg_ℤ, List, Option, map}
use Rattle.integers.specs.Vectors.{Vector, dot}
use Rattle.periodic_net.specs.Split.{Split}
use Rattle.connected_dim.specs.Search.{shift_of}

-- the entry of a vertex with this walk
abbrev pub flat_colour : Vector → Option Vector → ℤ
flat_colour c walk = neg_ℤ (dot c (shift_of walk))

-- the colouring by c, from a walk to each vertex
abbrev pub flat_colouring : Vector → List (Option Vector) → Split
flat_colouring c found = record { q = 0; c = c; h = map (flat_colour c) found }
