-- A graph's lists of arcs while they are made.
use Rattle.std.specs.Prelude.{◌≡◌, ℕ, ◌-◌, ◌<◌, ◌≤◌, List, [], ◌∷◌, ◌++◌, length, map, filter, flat_map}
use Rattle.std.specs.Prelude.{◌==◌, ◌||◌, ◌&&◌, Bool, nat_lt, slice_set, slice_index_or}
use Rattle.std.specs.List.Sorted.{IsPermutation, IsSorted}
use Rattle.std.specs.Ordering.{int_cmp, is_lt}
use Rattle.std.specs.Cmp.Lexicographic.{slice_cmp}
use Rattle.periodic_net.specs.Graph.{Arc, both_ways, reverse_of}
use Rattle.integers.specs.Vectors.{IsWithin, parts, zero_vector}
use Rattle.periodic_net.specs.Limits.{most_shift}
use Rattle.quotient_graph.specs.Order.{arc_numbers}
use Rattle.quotient_graph.specs.Stars.{star_at}

-- an arc put last in the list of its tail
abbrev pub with_arc : List (List Arc) → Arc → List (List Arc)
with_arc stars a = slice_set stars (a.from - 1) (star_at stars a.from ++ a ∷ [])

-- n lists: that of vertex u has those of the arcs that leave u, in their order
pub record HaveArcs (n : ℕ) (stars : List (List Arc)) (as' : List Arc) : Type 0 where
  pub count : length stars ≡ n
  pub each : (u : ℕ) → 1 ≤ u → u ≤ n → star_at stars u ≡ filter (λ a. a.from == u) as'

-- the reverses of edges, and then the edges
abbrev pub back_and_forth : List Arc → List Arc
back_and_forth edges = map reverse_of edges ++ edges

-- the same arcs, sorted by tail, head and shift
pub record IsSortedFrom (old new : List Arc) : Type 0 where
  pub same : IsPermutation old new
  pub sorted : IsSorted (λ a b. slice_cmp int_cmp (arc_numbers a) (arc_numbers b)) new

-- each list is sorted from the one at its place
pub record AreSortedFrom (old new : List (List Arc)) : Type 0 where
  pub count : length new ≡ length old
  pub each : (k : ℕ) → k < length old → IsSortedFrom (slice_index_or old k []) (slice_index_or new k [])

-- both ends are among n vertices, and the shift is within the limits
pub record EdgeFits (n : ℕ) (e : Arc) : Type 0 where
  pub from : (1 ≤ e.from) × (e.from ≤ n)
  pub to : (1 ≤ e.to) × (e.to ≤ n)
  pub shift : IsWithin most_shift e.shift

-- n lists: that of vertex u has the arcs that leave u by these edges, sorted
pub record AreStars (n : ℕ) (edges : List Arc) (stars : List (List Arc)) : Type 0 where
  pub count : length stars ≡ n
  pub each : (u : ℕ) → 1 ≤ u → u ≤ n → IsSortedFrom (filter (λ a. a.from == u) (both_ways edges)) (star_at stars u)

-- whether the arc is the spelling of its edge
abbrev pub is_spelled : Arc → Bool
is_spelled a = nat_lt a.from a.to || (a.from == a.to && is_lt (slice_cmp int_cmp (parts 3 zero_vector) (parts 3 a.shift)))

-- the arcs of the lists that are spellings, in their order
abbrev pub spelled_in : List (List Arc) → List Arc
spelled_in stars = flat_map (filter is_spelled) stars
