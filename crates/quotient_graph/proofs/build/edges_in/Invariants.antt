use Rattle.std.proofs.Common.{◌≡◌, map, take}
use Rattle.quotient_graph.specs.Building.{spelled_in}
use Rattle.quotient_graph.proofs.build.edges_in.Given as goal

abbrev pub invariant-loop-star : goal.invariant-loop-star
invariant-loop-star g l = l.edges.items ≡ spelled_in (map (λ s. s.items) (take l.star-index l.stars))
