use Rattle.std.proofs.Common.{◌≡◌, ℕ, ◌<◌, get_or}
use Rattle.periodic_net.specs.Graph.{Arc}
use Rattle.primitive_net.proofs.whole.are_same_edges.Given as goal

-- the edges so far are the same
abbrev pub invariant-loop-i : goal.invariant-loop-i
invariant-loop-i g l = (k : ℕ) (d : Arc) → k < l.i → get_or l.edges k d ≡ get_or l.arcs k d
