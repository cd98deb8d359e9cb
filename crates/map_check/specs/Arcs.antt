-- Places in a list of arcs that rise.
use Rattle.std.specs.Prelude.{◌≡◌, ℕ, ◌<◌, ◌≤◌, List, length, slice_index_or}
use Rattle.integers.specs.Vectors.{IsBelow}
use Rattle.periodic_net.specs.Graph.{Arc}
use Rattle.quotient_graph.specs.Order.{arc_numbers}

-- a stands at place n
abbrev pub StandsAt : List Arc → Arc → ℕ → Type 0
StandsAt arcs a n = (n < length arcs) × (slice_index_or arcs n a ≡ a)

-- the arcs below place n come before a
abbrev pub ComeBefore : List Arc → Arc → ℕ → Type 0
ComeBefore arcs a n =
    (k : ℕ) (d : Arc) → k < n → IsBelow (arc_numbers (slice_index_or arcs k d)) (arc_numbers a)

-- those from place n on do not
abbrev pub DoNotComeBefore : List Arc → Arc → ℕ → Type 0
DoNotComeBefore arcs a n =
    (k : ℕ) (d : Arc) → n ≤ k → k < length arcs → ¬ IsBelow (arc_numbers (slice_index_or arcs k d)) (arc_numbers a)

-- the arcs below place n come before a, and the others do not
pub record SplitsAt (arcs : List Arc) (a : Arc) (n : ℕ) : Type 0 where
  pub inside : n ≤ length arcs
  pub before : ComeBefore arcs a n
  pub after : DoNotComeBefore arcs a n
