-- The order of edges and arcs.
use Rattle.std.specs.Prelude.{ℤ, pos, List, ◌∷◌, AllPairs}
use Rattle.integers.specs.Vectors.{parts, IsBelow}
use Rattle.periodic_net.specs.Graph.{Arc}

-- the tail, the head and the shift of an arc, as one list of numbers
abbrev pub arc_numbers : Arc → List ℤ
arc_numbers a = pos a.from ∷ pos a.to ∷ parts 3 a.shift

-- the arcs rise strictly by tail, head and shift
abbrev pub AreRising : List Arc → Type 0
AreRising as' = AllPairs (λ a b. IsBelow (arc_numbers a) (arc_numbers b)) as'
