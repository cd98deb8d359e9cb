-- The closed walks that the edges of a quotient graph make with the walks that were found.
use Rattle.std.specs.Prelude.{ℕ, List, Option, is_some, filter, map}
use Rattle.integers.specs.Vectors.{Vector}
use Rattle.periodic_net.specs.Graph.{Graph, Arc}
use Rattle.periodic_net.specs.Split.{generator}
use Rattle.connected_dim.specs.Search.{walk_to, shift_of}

-- the shift of the walk that was found to vertex u
abbrev pub shift_at : List (Option Vector) → ℕ → Vector
shift_at found u = shift_of (walk_to found u)

-- the shift of the closed walk to the tail, along an edge, and back from the head
abbrev pub generator_of : List (Option Vector) → Arc → Vector
generator_of found e = generator (shift_at found) e

-- these shifts, one for each edge from a vertex that was found
abbrev pub generators : Graph → List (Option Vector) → List Vector
generators G found = map (generator_of found) (filter (λ e. is_some (walk_to found e.from)) G.edges)
