use Rattle.std.proofs.Common.{◌≡◌, ℕ, ◌<◌, get_or, take}
use Rattle.integers.specs.Vectors.{IsWithin}
use Rattle.periodic_net.specs.{Graph.Arc, Limits.most_shift}
use Rattle.primitive_net.proofs.edges.arcs_of.Given as goal

-- the edges so far, none of which is past the limit
abbrev pub invariant-loop-edge : goal.invariant-loop-edge
invariant-loop-edge g l = record {
  same : l.arcs.items ≡ take l.edge-index l.edges;
  narrow : (k : ℕ) (d : Arc) → k < l.edge-index → IsWithin most_shift (get_or l.edges k d).shift;
}
