use Rattle.std.proofs.Common.{◌≡◌, length, take, sum_by}
use Rattle.quotient_graph.proofs.class_graph.arcs_in.Given as goal

abbrev pub invariant-loop-star : goal.invariant-loop-star
invariant-loop-star g l = l.all ≡ sum_by (λ s. length s.items) (take l.star-index l.stars)
