use Rattle.std.proofs.Common.{map}
use Rattle.quotient_graph.proofs.Stars.{AreSortedUpTo}
use Rattle.quotient_graph.proofs.build.sort_stars.Given as goal

abbrev pub invariant-loop-star : goal.invariant-loop-star
invariant-loop-star g l = AreSortedUpTo l.star-index (map (λ s. s.items) l.initial.stars) (map (λ s. s.items) l.stars)
